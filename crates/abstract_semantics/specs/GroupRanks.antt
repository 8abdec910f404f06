-- Ranks of groups of functions, by the specification alone.
use Rattle.std.specs.Prelude.{◌≡◌, ℕ, zero, suc, max, ◌==◌, true, List, [], ◌∷◌, length, if◌then◌else◌}
use Rattle.spec_ir.specs.Specification.{Spec, Fun}
use Rattle.spec_calls.specs.declared.call.Call.{Call}
use Rattle.spec_calls.specs.Calls.{calls}
use Rattle.semantics.specs.Direct.{group_of}
use Rattle.semantics_laws.specs.Accepted.{IsAccepted}

module _ (spec : Spec) where
  -- how deep a call goes out of group g, where `depth` says how deep each group is
  abbrev pub call_depth : (depth : ℕ → ℕ) → ℕ → Call → ℕ
  call_depth depth g c = if group_of spec c.fun == g then 0 else suc (depth (group_of spec c.fun))

  -- the greatest of these, 0 where there is none
  abbrev pub calls_depth : (depth : ℕ → ℕ) → ℕ → List Call → ℕ
  calls_depth depth g [] = 0
  calls_depth depth g (c ∷ cs) = max (call_depth depth g c) (calls_depth depth g cs)

  -- the greatest over the functions of group g
  abbrev pub functions_depth : (depth : ℕ → ℕ) → ℕ → List Fun → ℕ
  functions_depth depth g [] = 0
  functions_depth depth g (f ∷ fs) = max (if f.group == g then calls_depth depth g (calls true f.body) else 0) (functions_depth depth g fs)

  -- how deep a group is, as far as so many steps tell
  abbrev pub depth_of : (steps : ℕ) → ℕ → ℕ
  depth_of zero g = 0
  depth_of (suc k) g = functions_depth (depth_of k) g spec.funs

  -- the rank of a group
  abbrev pub rank_of : ℕ → ℕ
  rank_of g = depth_of (length spec.funs) g

-- An accepted specification is accepted by these ranks.
abbrev pub RanksCount : Type 0
RanksCount = (spec : Spec) → IsAccepted spec → (again : IsAccepted spec) × (again.rank ≡ rank_of spec)
