use Rattle.base_strides.proofs.Best.{exact_absorption as lemma}
use Rattle.base_strides.proofs.laws.exact_absorption.Goals as goal

pub returns : goal.returns
returns c = lemma
