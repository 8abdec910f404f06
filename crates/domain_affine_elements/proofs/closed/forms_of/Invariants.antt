use Rattle.std.proofs.Common.{◌≡◌, map, take, drop}
use Rattle.base_trait.specs.Lists.{Each}
use Rattle.domain_affine_base.specs.Exact.{form_of}
use Rattle.domain_affine_base.specs.Words.{IsOf}
use Rattle.domain_affine_elements.proofs.closed.forms_of.Given as goal

abbrev pub invariant-loop-word : goal.invariant-loop-word
invariant-loop-word l = record { done : l.forms.items ≡ map form_of (take l.word-index l.words); narrow : Each (λ x. IsOf 32 x) (drop l.word-index l.words) }
