use Rattle.std.proofs.Common.{◌≡◌, ◌++◌, drop, map}
use Rattle.std.specs.Prelude.{All, option_map}
use Rattle.spec_match_compiler.specs.Views.{bound}
use Rattle.abstract_value_laws.specs.Fits.{Fits}
use Rattle.abstract_value.specs.View.{abs}
use Rattle.abstract_semantics.specs.Choices as choices
use Rattle.eval_operations.proofs.places.abs_named.Given as goal

abbrev pub invariant-loop-bind : goal.invariant-loop-bind
invariant-loop-bind g l = record {
  whole : choices.abs_named (abs l.x) (map bound l.binds) ≡ option_map (λ ys. map abs l.named.items ++ ys) (choices.abs_named (abs l.x) (map bound (drop l.bind-index l.binds)));
  fits : All (λ v. Fits g.B.Base.algebra l.ctx g.B.Base.CAP (abs v)) l.named.items;
}
