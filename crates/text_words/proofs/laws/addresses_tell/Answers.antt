use Rattle.text_words.proofs.AddressesTold.{addresses_tell}
use Rattle.text_words.proofs.laws.addresses_tell.Goals as goal

pub returns : goal.returns
returns c = addresses_tell
