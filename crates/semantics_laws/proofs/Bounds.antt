-- The direct meaning at other bounds on turns.
use Rattle.std.proofs.Common.{ℕ, zero, suc, ◌≤◌, Bool, true, false, cond, List, [], ◌∷◌, ◌++◌, length, Option, Some, None, slice_get, refl, arith}
use Rattle.std.specs.Prelude.{◌==◌}
use Rattle.base_trait.specs.Uses.{Read}
use Rattle.spec_match_compiler.specs.Meets.{meets}
use Rattle.spec_ir.specs.declared.declared.MapType.{MapType}
use Rattle.spec_ir.specs.Terms as t
use Rattle.spec_ir.specs.Terms.{Term, Terms, Arms}
use Rattle.spec_ir.specs.Specification.{Spec, Fun}
use Rattle.semantics_values.specs.Values as v
use Rattle.semantics_values.specs.Values.{Val, vals}
use Rattle.semantics.specs.Outcomes as o
use Rattle.semantics.specs.Outcomes.{Outcome, given, seen, branch, ◌>>=◌ as ◌>>>◌}
use Rattle.semantics.specs.Steps.{unary, binary, compared, resized, accessed, updated, shown, bound}
use Rattle.semantics.specs.Direct.{den, den_all, den_arms, with_own, group_of, body_or_wrong, turns, run}
use Rattle.semantics_laws.specs.Bounds.{Settles, BoundsSettle}

itself : {A : Type 0} (x : Outcome A) → Settles x x
itself (o.deep i) = tt
itself o.wrong = refl
itself (o.gives x l) = refl

bind_settles : {A B : Type 0} (x y : Outcome A) (f g : A → List Read → Outcome B) → Settles x y → ((p : A) (l : List Read) → Settles (f p l) (g p l)) → Settles (x >>> f) (y >>> g)
bind_settles (o.deep i) y f g h k = tt
bind_settles o.wrong y f g h k = rw h refl
bind_settles (o.gives p l) y f g h k = rw h (k p l)

branch_settles : {A : Type 0} (c : Val) (p q r s : Outcome A) → Settles p r → Settles q s → Settles (branch c p q) (branch c r s)
branch_settles (v.flag true) p q r s h k = h
branch_settles (v.flag false) p q r s h k = k
branch_settles (v.word w n) p q r s h k = refl
branch_settles (v.made ty c vs) p q r s h k = refl
branch_settles (v.map m rest cells) p q r s h k = refl

either_settles : {A : Type 0} (b : Bool) (p q r s : Outcome A) → Settles p r → Settles q s → Settles (cond b p q) (cond b r s)
either_settles true p q r s h k = h
either_settles false p q r s h k = k

module _ (maps : List MapType) (calls more : ℕ → List Val → List Read → Outcome Val) (a : ℕ) (settle : (f : ℕ) (ps : List Val) (l : List Read) → Settles (calls f ps l) (more f ps l)) where
  mutual
    den_settles : (x : Term) (env : List Val) (l : List Read) → Settles (den maps calls a env x l) (den maps more a env x l)
    den_settles (t.var n) env l = itself (given (slice_get env n) l)
    den_settles (t.flag b) env l = refl
    den_settles (t.word w n) env l = refl
    den_settles (t.un op w x) env l = bind_settles _ _ _ _ (den_settles x env l) (λ p l. itself (given (unary op w p) l))
    den_settles (t.bin op w x y) env l = bind_settles _ _ _ _ (den_settles x env l) (λ p l. bind_settles _ _ _ _ (den_settles y env l) (λ q l. itself (given (binary op w p q) l)))
    den_settles (t.test c w x y) env l = bind_settles _ _ _ _ (den_settles x env l) (λ p l. bind_settles _ _ _ _ (den_settles y env l) (λ q l. itself (given (compared c w p q) l)))
    den_settles (t.cast kind from to x) env l = bind_settles _ _ _ _ (den_settles x env l) (λ p l. itself (given (resized kind from to p) l))
    den_settles (t.let_in x y) env l = bind_settles _ _ _ _ (den_settles x env l) (λ p l. den_settles y (env ++ p ∷ []) l)
    den_settles (t.if_else c x y) env l = bind_settles _ _ _ _ (den_settles c env l) (λ p l. branch_settles p _ _ _ _ (den_settles x env l) (den_settles y env l))
    den_settles (t.match_on x arms) env l = bind_settles _ _ _ _ (den_settles x env l) (λ p l. arms_settle arms env p l)
    den_settles (t.make ty c args) env l = bind_settles _ _ _ _ (all_settle args env l) (λ ps l. refl)
    den_settles (t.call f args) env l = bind_settles _ _ _ _ (all_settle args env l) (λ ps l. settle f ps l)
    den_settles (t.get m x k) env l = bind_settles _ _ _ _ (den_settles x env l) (λ p l. bind_settles _ _ _ _ (den_settles k env l) (λ q l. itself (seen (accessed maps m p q) l)))
    den_settles (t.put m x k y) env l =
        bind_settles _ _ _ _ (den_settles x env l) (λ p l. bind_settles _ _ _ _ (den_settles k env l) (λ q l. bind_settles _ _ _ _ (den_settles y env l) (λ r l. itself (given (updated maps a m p q r) l))))

    all_settle : (xs : Terms) (env : List Val) (l : List Read) → Settles (den_all maps calls a env xs l) (den_all maps more a env xs l)
    all_settle t.no_term env l = refl
    all_settle (t.term_then x xs) env l = bind_settles _ _ _ _ (den_settles x env l) (λ p l. bind_settles _ _ _ _ (all_settle xs env l) (λ ps l. refl))

    arms_settle : (arms : Arms) (env : List Val) (p : Val) (l : List Read) → Settles (den_arms maps calls a env p arms l) (den_arms maps more a env p arms l)
    arms_settle t.no_arm env p l = refl
    arms_settle (t.arm_then pattern body rest) env p l = either_settles (meets pattern (shown p)) _ _ _ _ (den_settles body (env ++ bound pattern p) l) (arms_settle rest env p l)

module _ (spec : Spec) (a : ℕ) where
  body_settles : (calls more own own' : ℕ → List Val → List Read → Outcome Val) (g : ℕ) (x : Option Fun) (args : List Val) (l : List Read)
      → ((f : ℕ) (ps : List Val) (m : List Read) → Settles (calls f ps m) (more f ps m)) → ((f : ℕ) (ps : List Val) (m : List Read) → Settles (own f ps m) (own' f ps m))
      → Settles (body_or_wrong x (λ body. den spec.maps (with_own (group_of spec) g own calls) a args body l)) (body_or_wrong x (λ body. den spec.maps (with_own (group_of spec) g own' more) a args body l))
  body_settles calls more own own' g None args l settle owns = refl
  body_settles calls more own own' g (Some fun) args l settle owns =
      den_settles spec.maps (with_own (group_of spec) g own calls) (with_own (group_of spec) g own' more) a
      (λ f ps m. either_settles (group_of spec f == g) (own f ps m) (calls f ps m) (own' f ps m) (more f ps m) (owns f ps m) (settle f ps m)) fun.body args l

  turns_settle : (calls more : ℕ → List Val → List Read → Outcome Val) (i d e j : ℕ) (args : List Val) (l : List Read) → d ≤ e → ((f : ℕ) (ps : List Val) (m : List Read) → Settles (calls f ps m) (more f ps m))
      → Settles (turns spec a calls i d j args l) (turns spec a more i e j args l)
  turns_settle calls more i zero e j args l le settle = tt
  turns_settle calls more i (suc d) zero j args l le settle = absurd (omega (arith, le))
  turns_settle calls more i (suc d) (suc e) j args l le settle =
      body_settles calls more (turns spec a calls i d) (turns spec a more i e) (group_of spec i) (slice_get spec.funs j) args l settle
      (λ f ps m. turns_settle calls more i d e f ps m (omega (arith, le)) settle)

  run_settles : (d e n i : ℕ) (args : List Val) (l : List Read) → d ≤ e → Settles (run spec a d n i args l) (run spec a e n i args l)
  run_settles d e zero i args l le = refl
  run_settles d e (suc n) i args l le = turns_settle (run spec a d n) (run spec a e n) i d e i args l le (λ f ps m. run_settles d e n f ps m le)

pub bounds_settle : BoundsSettle
bounds_settle = record {
  at_a_depth = run_settles;
  in_the_meaning = λ spec a d e i args l le. run_settles spec a d e (suc (length spec.funs)) i args l le;
}
