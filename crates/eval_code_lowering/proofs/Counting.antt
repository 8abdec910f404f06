-- How many variables an arm has, among the numbers of all.
use Rattle.std.proofs.Common.{◌≡◌, ℕ, ◌<◌, List, Option, None, slice_index_or, unwrap_or, ap, ◌∙◌}
use Rattle.spec_match_compiler.specs.Decisions.{Decision}
use Rattle.eval_code.specs.Lowered.{taken}
use Rattle.eval_code_lowering.specs.Named.{AreNamed}

pub taken_at : (named seen : List (Option ℕ)) (by : Decision) (count arm found : ℕ) → AreNamed count by named → seen ≡ named → arm < count → found ≡ unwrap_or (slice_index_or seen arm None) 0 → found ≡ taken arm by
taken_at named seen by count arm found h same lt is = is ∙ ap (λ z. unwrap_or (slice_index_or z arm None) 0) same ∙ ap (λ o. unwrap_or o 0) (h.each arm lt)
