-- The direct meaning of core terms, with calls within a group as turns. A choice looks at the value by its decision and takes the arm that
-- this picks.
use Rattle.std.specs.Prelude.{ℕ, zero, suc, Option, Some, None, List, [], ◌∷◌, ◌++◌, ◌==◌, slice_get, if◌then◌else◌}
use Rattle.base_trait.specs.Uses.{Read}
use Rattle.spec_match_compiler.specs.Picks.{Choice, picks}
use Rattle.spec_ir.specs.declared.declared.MapType.{MapType}
use Rattle.spec_ir.specs.CoreTerms as c
use Rattle.spec_ir.specs.CoreTerms.{Core, Cores}
use Rattle.spec_ir.specs.Specification.{Spec, Fun}
use Rattle.semantics_values.specs.Values.{Val, flag, word, made, vals}
use Rattle.semantics.specs.Outcomes.{Outcome, deep, wrong, gives, given, seen, branch, ◌>>=◌}
use Rattle.semantics.specs.Steps.{unary, binary, compared, resized, accessed, updated, shown}
use Rattle.semantics.specs.Direct.{with_own, group_of}
use Rattle.semantics.specs.Tails.{Ending, again, continued, ends}
use Rattle.semantics_laws.specs.Places.{vals_named}

-- what an arm gives on what the variables of its row name
abbrev pub with_named : {A : Type 0} → (List Val → Outcome A) → Option (List Val) → Outcome A
with_named arm None = wrong
with_named arm (Some vs) = arm vs

-- what the arm gives that is picked for a value
abbrev pub arm_picked : {A : Type 0} → (ℕ → List Val → Outcome A) → Val → Option Choice → Outcome A
arm_picked arm p None = wrong
arm_picked arm p (Some choice) = with_named (arm choice.0) (vals_named p choice.1)

-- `group` is the group of a function, g that of the term, and `calls` what calls of other groups give; a is the address of the
-- instruction. The last list is what was read before.
module _ (maps : List MapType) (group : ℕ → ℕ) (g : ℕ) (calls : ℕ → List Val → List Read → Outcome Val) (a : ℕ) where
  -- calls of other groups; one within the group has no meaning outside tail position
  abbrev pub others : ℕ → List Val → List Read → Outcome Val
  others = with_own group g (λ j args l. wrong) calls

  abbrev mutual
    -- the value of a term outside tail position
    pub core_value : List Val → Core → List Read → Outcome Val
    core_value env (c.var n) l = given (slice_get env n) l
    core_value env (c.flag b) l = gives (flag b) l
    core_value env (c.word w v) l = gives (word w v) l
    core_value env (c.un op w x) l = core_value env x l >>= λ p l. given (unary op w p) l
    core_value env (c.bin op w x y) l = core_value env x l >>= λ p l. core_value env y l >>= λ q l. given (binary op w p q) l
    core_value env (c.test k w x y) l = core_value env x l >>= λ p l. core_value env y l >>= λ q l. given (compared k w p q) l
    core_value env (c.cast kind from to x) l = core_value env x l >>= λ p l. given (resized kind from to p) l
    core_value env (c.let_in x body) l = core_value env x l >>= λ p l. core_value (env ++ p ∷ []) body l
    core_value env (c.if_else b x y) l = core_value env b l >>= λ p l. branch p (core_value env x l) (core_value env y l)
    core_value env (c.choose x by arms) l = core_value env x l >>= λ p l. arm_picked (λ r vs. core_arm env arms r vs l) p (picks by (shown p))
    core_value env (c.make ty case args) l = core_values env args l >>= λ ps l. gives (made ty case (vals ps)) l
    core_value env (c.call f args) l = core_values env args l >>= λ ps l. others f ps l
    core_value env (c.get m x k) l = core_value env x l >>= λ p l. core_value env k l >>= λ q l. seen (accessed maps m p q) l
    core_value env (c.put m x k v) l = core_value env x l >>= λ p l. core_value env k l >>= λ q l. core_value env v l >>= λ r l. given (updated maps a m p q r) l

    -- the values of terms, one after the other
    pub core_values : List Val → Cores → List Read → Outcome (List Val)
    core_values env c.no_core l = gives [] l
    core_values env (c.core_then x rest) l = core_value env x l >>= λ p l. core_values env rest l >>= λ ps l. gives (p ∷ ps) l

    -- arm number r, behind what the variables of its row name
    pub core_arm : List Val → Cores → ℕ → List Val → List Read → Outcome Val
    core_arm env c.no_core r vs l = wrong
    core_arm env (c.core_then x rest) zero vs l = core_value (env ++ vs) x l
    core_arm env (c.core_then x rest) (suc r) vs l = core_arm env rest r vs l

  abbrev pub called : ℕ → List Val → List Read → Outcome Ending
  called f ps l = if group f == g then gives (again f ps) l else calls f ps l >>= ends

  abbrev mutual
    -- where a term in tail position ends
    pub core_tail : List Val → Core → List Read → Outcome Ending
    core_tail env (c.let_in x body) l = core_value env x l >>= λ p l. core_tail (env ++ p ∷ []) body l
    core_tail env (c.if_else b x y) l = core_value env b l >>= λ p l. branch p (core_tail env x l) (core_tail env y l)
    core_tail env (c.choose x by arms) l = core_value env x l >>= λ p l. arm_picked (λ r vs. core_tail_arm env arms r vs l) p (picks by (shown p))
    core_tail env (c.call f args) l = core_values env args l >>= λ ps l. called f ps l
    core_tail env x l = core_value env x l >>= ends

    pub core_tail_arm : List Val → Cores → ℕ → List Val → List Read → Outcome Ending
    core_tail_arm env c.no_core r vs l = wrong
    core_tail_arm env (c.core_then x rest) zero vs l = core_tail (env ++ vs) x l
    core_tail_arm env (c.core_then x rest) (suc r) vs l = core_tail_arm env rest r vs l

-- where the core term of a function ends, if the function is there
abbrev pub core_or_wrong : {A : Type 0} → Option Fun → (Core → Outcome A) → Outcome A
core_or_wrong None f = wrong
core_or_wrong (Some fun) f = f fun.core

module _ (spec : Spec) (a : ℕ) where
  -- where a turn of group g ends: that of function j on arguments
  abbrev pub core_turn : (calls : ℕ → List Val → List Read → Outcome Val) → ℕ → ℕ → List Val → List Read → Outcome Ending
  core_turn calls g j args l = core_or_wrong (slice_get spec.funs j) (λ body. core_tail spec.maps (group_of spec) g calls a args body l)

  -- an activation that began with function i, with d turns from function j on
  abbrev pub core_turns : (calls : ℕ → List Val → List Read → Outcome Val) → ℕ → ℕ → ℕ → List Val → List Read → Outcome Val
  core_turns calls i zero j args l = deep i
  core_turns calls i (suc d) j args l = core_turn calls (group_of spec i) j args l >>= continued (core_turns calls i d)

  -- a call of function i, where calls of other groups go at most n deep, this one included, and each activation has d turns
  abbrev pub core_run : ℕ → ℕ → ℕ → List Val → List Read → Outcome Val
  core_run d zero i args l = wrong
  core_run d (suc n) i args l = core_turns (core_run d n) i d i args l
