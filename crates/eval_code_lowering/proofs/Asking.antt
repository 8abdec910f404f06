-- A question after others.
use Rattle.std.proofs.Common.{◌≡◌, List, [], ◌∷◌, ◌++◌, refl, ap}
use Rattle.spec_match_compiler.specs.Decisions.{Decision}
use Rattle.eval_code_lowering.specs.declared.decisions.DecisionTest.{DecisionTest}
use Rattle.eval_code_lowering.specs.Asked.{asked_first, asked_of}

pub asked_last : (qs : List DecisionTest) (q : DecisionTest) (t : Decision) → asked_first (qs ++ q ∷ []) t ≡ asked_first qs (asked_of q t)
asked_last [] q t = refl
asked_last (a ∷ qs) q t = ap (asked_of a) (asked_last qs q t)
