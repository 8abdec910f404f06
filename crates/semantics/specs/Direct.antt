-- The direct meaning of typed terms (Lim and Reps, "TSL", TOPLAS 35(1), 2013: the concrete semantics).
--
-- Evaluation is eager and goes from left to right. A read of a map cell is seen with the cell's stamp; a
-- changed cell is stamped with the address of the instruction. A call of a function of another group starts
-- an activation with its own turns; a call within the group goes on with one turn less.
use Rattle.std.specs.Prelude.{ℕ, zero, suc, List, [], ◌∷◌, ◌++◌, Option, Some, None, slice_get, ◌==◌, if◌then◌else◌}
use Rattle.base_trait.specs.Uses.{Read}
use Rattle.spec_match_compiler.specs.Meets.{meets}
use Rattle.spec_ir.specs.declared.declared.MapType.{MapType}
use Rattle.spec_ir.specs.Terms as t
use Rattle.spec_ir.specs.Terms.{Term, Terms, Arms}
use Rattle.spec_ir.specs.Specification.{Spec, Fun}
use Rattle.semantics_values.specs.Values.{Val, flag, word, made, vals}
use Rattle.semantics.specs.Outcomes.{Outcome, deep, wrong, gives, given, seen, branch, ◌>>=◌}
use Rattle.semantics.specs.Steps.{unary, binary, compared, resized, accessed, updated, shown, bound}

-- `calls` is what a call of a function on arguments gives, and `a` the address of the instruction. The last
-- list is what was read before.
module _ (maps : List MapType) (calls : ℕ → List Val → List Read → Outcome Val) (a : ℕ) where
  abbrev mutual
    pub den : List Val → Term → List Read → Outcome Val
    den env (t.var n) l = given (slice_get env n) l
    den env (t.flag b) l = gives (flag b) l
    den env (t.word w v) l = gives (word w v) l
    den env (t.un op w x) l = den env x l >>= λ p l. given (unary op w p) l
    den env (t.bin op w x y) l = den env x l >>= λ p l. den env y l >>= λ q l. given (binary op w p q) l
    den env (t.test c w x y) l = den env x l >>= λ p l. den env y l >>= λ q l. given (compared c w p q) l
    den env (t.cast kind from to x) l = den env x l >>= λ p l. given (resized kind from to p) l
    den env (t.let_in x body) l = den env x l >>= λ p l. den (env ++ p ∷ []) body l
    den env (t.if_else c x y) l = den env c l >>= λ p l. branch p (den env x l) (den env y l)
    den env (t.match_on x arms) l = den env x l >>= λ p l. den_arms env p arms l
    den env (t.make ty case args) l = den_all env args l >>= λ ps l. gives (made ty case (vals ps)) l
    den env (t.call f args) l = den_all env args l >>= λ ps l. calls f ps l
    den env (t.get m x k) l = den env x l >>= λ p l. den env k l >>= λ q l. seen (accessed maps m p q) l
    den env (t.put m x k v) l = den env x l >>= λ p l. den env k l >>= λ q l. den env v l >>= λ r l. given (updated maps a m p q r) l

    -- the values of terms, one after the other
    pub den_all : List Val → Terms → List Read → Outcome (List Val)
    den_all env t.no_term l = gives [] l
    den_all env (t.term_then x rest) l = den env x l >>= λ p l. den_all env rest l >>= λ ps l. gives (p ∷ ps) l

    -- the first arm whose pattern a value meets
    pub den_arms : List Val → Val → Arms → List Read → Outcome Val
    den_arms env p t.no_arm l = wrong
    den_arms env p (t.arm_then pattern body rest) l = if meets pattern (shown p) then den (env ++ bound pattern p) body l else den_arms env p rest l

-- what a call gives where functions of group g are as `own` says, and the others as `calls` says
abbrev pub with_own : (group : ℕ → ℕ) → ℕ → (own calls : ℕ → List Val → List Read → Outcome Val) → ℕ → List Val → List Read → Outcome Val
with_own group g own calls j args l = if group j == g then own j args l else calls j args l

abbrev pub group_at : Option Fun → ℕ
group_at None = 0
group_at (Some f) = f.group

-- the group of a function
abbrev pub group_of : Spec → ℕ → ℕ
group_of spec j = group_at (slice_get spec.funs j)

-- what a function that is there gives
abbrev pub body_or_wrong : Option Fun → (Term → Outcome Val) → Outcome Val
body_or_wrong None f = wrong
body_or_wrong (Some fun) f = f fun.body

module _ (spec : Spec) (a : ℕ) where
  -- an activation that began with function i, with d turns from function j on: a call of a function of its
  -- group goes on with that function and one turn less
  abbrev pub turns : (calls : ℕ → List Val → List Read → Outcome Val) → ℕ → ℕ → ℕ → List Val → List Read → Outcome Val
  turns calls i zero j args l = deep i
  turns calls i (suc d) j args l = body_or_wrong (slice_get spec.funs j) (λ body. den spec.maps (with_own (group_of spec) (group_of spec i) (turns calls i d) calls) a args body l)

  -- a call of function i, where calls of other groups go at most n deep, this one included, and each
  -- activation has d turns
  abbrev pub run : ℕ → ℕ → ℕ → List Val → List Read → Outcome Val
  run d zero i args l = wrong
  run d (suc n) i args l = turns (run d n) i d i args l
