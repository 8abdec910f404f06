-- A term in tail position: it ends with a value, or with a call within the group. An activation is a list of such
-- turns.
use Rattle.std.specs.Prelude.{ℕ, zero, suc, List, [], ◌∷◌, ◌++◌, ◌==◌, slice_get, if◌then◌else◌}
use Rattle.base_trait.specs.Uses.{Read}
use Rattle.spec_match_compiler.specs.Meets.{meets}
use Rattle.spec_ir.specs.declared.declared.MapType.{MapType}
use Rattle.spec_ir.specs.Terms as t
use Rattle.spec_ir.specs.Terms.{Term, Arms}
use Rattle.spec_ir.specs.Specification.{Spec}
use Rattle.semantics_values.specs.Values.{Val}
use Rattle.semantics.specs.Outcomes.{Outcome, deep, wrong, gives, branch, ◌>>=◌}
use Rattle.semantics.specs.Steps.{shown, bound}
use Rattle.semantics.specs.Direct.{den, den_all, with_own, group_of, body_or_wrong}

pub data Ending : Type 0 where
  leaf : Val → Ending
  -- a call of a function of the group
  again : ℕ → List Val → Ending

-- what follows an ending, where a call within the group gives what `own` says
abbrev pub continued : (own : ℕ → List Val → List Read → Outcome Val) → Ending → List Read → Outcome Val
continued own (leaf v) l = gives v l
continued own (again f ps) l = own f ps l

abbrev pub ends : Val → List Read → Outcome Ending
ends v l = gives (leaf v) l

module _ (maps : List MapType) (group : ℕ → ℕ) (g : ℕ) (calls : ℕ → List Val → List Read → Outcome Val) (a : ℕ) where
  -- calls of other groups; one within the group has no meaning outside tail position
  abbrev pub others : ℕ → List Val → List Read → Outcome Val
  others = with_own group g (λ j args l. wrong) calls

  -- the value of a term outside tail position
  abbrev pub value_of : List Val → Term → List Read → Outcome Val
  value_of = den maps others a

  abbrev pub called : ℕ → List Val → List Read → Outcome Ending
  called f ps l = if group f == g then gives (again f ps) l else calls f ps l >>= ends

  abbrev mutual
    pub tail : List Val → Term → List Read → Outcome Ending
    tail env (t.let_in x body) l = value_of env x l >>= λ p l. tail (env ++ p ∷ []) body l
    tail env (t.if_else c x y) l = value_of env c l >>= λ p l. branch p (tail env x l) (tail env y l)
    tail env (t.match_on x arms) l = value_of env x l >>= λ p l. tail_arms env p arms l
    tail env (t.call f args) l = den_all maps others a env args l >>= λ ps l. called f ps l
    tail env x l = value_of env x l >>= ends

    pub tail_arms : List Val → Val → Arms → List Read → Outcome Ending
    tail_arms env p t.no_arm l = wrong
    tail_arms env p (t.arm_then pattern body rest) l = if meets pattern (shown p) then tail (env ++ bound pattern p) body l else tail_arms env p rest l

module _ (spec : Spec) (a : ℕ) where
  -- an activation that began with function i, with d turns from function j on
  abbrev pub tail_turns : (calls : ℕ → List Val → List Read → Outcome Val) → ℕ → ℕ → ℕ → List Val → List Read → Outcome Val
  tail_turns calls i zero j args l = deep i
  tail_turns calls i (suc d) j args l =
      body_or_wrong (slice_get spec.funs j) (λ body. tail spec.maps (group_of spec) (group_of spec i) calls a args body l >>= continued (tail_turns calls i d))

  -- a call of function i, where calls of other groups go at most n deep, this one included, and each
  -- activation has d turns
  abbrev pub run_tails : ℕ → ℕ → ℕ → List Val → List Read → Outcome Val
  run_tails d zero i args l = wrong
  run_tails d (suc n) i args l = tail_turns (run_tails d n) i d i args l
