use Rattle.code_image.proofs.Addresses.{addresses_are_those_of_words}
use Rattle.code_image.proofs.laws.addresses_are_those_of_words.Goals as goal

pub returns : goal.returns
returns c = addresses_are_those_of_words
