use Rattle.std.proofs.Common.{◌≡◌, Some, ap, sym, ◌∙◌, subst}
use Rattle.semantics_values.specs.States.{State}
use Rattle.semantics_values.specs.Views.{state}
use Rattle.abstract_value.specs.View.{abs}
use Rattle.concrete_emulator.specs.States.{IsLast}
use Rattle.concrete_emulator.specs.Values.{state_of}
use Rattle.concrete_emulator.proofs.Standing.{has_last}
use Rattle.concrete_emulator.proofs.abstract_states.last.Goals as goal

same_some : (a b : State) → Some a ≡ Some b → a ≡ b
same_some a b e = cc

pub unreachable-requires : goal.unreachable-requires
unreachable-requires c =
    let known = has_last c.requires.state.shown (abs c.args.s.now) c.requires.state.is in
    let none = c.in-None.ensures ∙ ap state_of c.in_ok-value_in.ensures ∙ known.there in
    cc

pub returns : goal.returns
returns c = λ t h.
    let known = has_last t (abs c.args.s.now) h in
    let is = same_some (state c.in-Some.state) known.last (c.in-Some.ensures ∙ ap state_of c.in_ok-value_in.ensures ∙ known.there) in
    subst (λ s. IsLast s t) (sym is) known.is
