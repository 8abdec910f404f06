use Rattle.std.proofs.Common.{◌<◌, drop}
use Rattle.base_trait.specs.Lists.{Each}
use Rattle.abstract_map_laws.specs.Maps.{keys}
use Rattle.test_affine_text.proofs.forms.lists_below.Given as goal

abbrev pub invariant-loop-place : goal.invariant-loop-place
invariant-loop-place l = Each (λ k. k < l.bound) (drop l.place (keys l.m)) → Each (λ k. k < l.bound) (keys l.m)
