-- Two outcomes are the same, and what they give has a property.
use Rattle.std.proofs.Common.{◌≡◌, ℕ, suc, ◌+◌, Bool, true, false, cond, Option, Some, List, [], refl, sym, subst, arith}
use Rattle.std.proofs.lemmas.Option.{same_Some as some_same}
use Rattle.base_trait.specs.Uses.{Read}
use Rattle.spec_match_compiler.specs.Patterns.{Pattern}
use Rattle.spec_match_compiler.specs.Meets.{meets, bindings}
use Rattle.spec_match_compiler.specs.Picks.{Choice}
use Rattle.spec_ir.specs.declared.ty.Ty.{Ty}
use Rattle.spec_ir.specs.Environment.{Environment}
use Rattle.semantics_values.specs.Values as v
use Rattle.semantics_values.specs.Values.{Val}
use Rattle.semantics.specs.Outcomes as o
use Rattle.semantics.specs.Outcomes.{Outcome, given, seen, branch, ◌>>=◌ as ◌>>>◌}
use Rattle.semantics.specs.Steps.{shown, bound}
use Rattle.semantics_laws.proofs.Values.{IsOf, There}
use Rattle.semantics_laws.proofs.Maps.{ReadThere}
use Rattle.semantics_laws.specs.Places.{vals_named}
use Rattle.semantics_laws.specs.CoreDirect.{with_named, arm_picked}
use Rattle.semantics_laws.proofs.Named.{names_bound}

-- P holds of what an outcome gives, if it gives something
abbrev pub Holds : {A : Type 0} → (A → Type 0) → Outcome A → Type 0
Holds P (o.deep i) = Unit {0}
Holds P o.wrong = Unit {0}
Holds P (o.gives x l) = P x

abbrev pub Both : {A : Type 0} → (A → Type 0) → Outcome A → Outcome A → Type 0
Both P x y = (x ≡ y) × Holds P x

pub bind_both : {A B : Type 0} (P : A → Type 0) (Q : B → Type 0) (x y : Outcome A) (f g : A → List Read → Outcome B) → Both P x y → ((p : A) (l : List Read) → P p → Both Q (f p l) (g p l)) → Both Q (x >>> f) (y >>> g)
bind_both P Q x y f g h k = subst (λ z. Both Q (x >>> f) (z >>> g)) h.0 (at x h.1)
  where
    at : (z : Outcome _) → Holds P z → Both Q (z >>> f) (z >>> g)
    at (o.deep i) hold = (refl, tt)
    at o.wrong hold = (refl, tt)
    at (o.gives p l) hold = k p l hold

pub either_both : {A : Type 0} (P : A → Type 0) (b : Bool) (x y z u : Outcome A) → Both P x z → Both P y u → Both P (cond b x y) (cond b z u)
either_both P true x y z u h k = h
either_both P false x y z u h k = k

pub branch_both : {A : Type 0} (P : A → Type 0) (p : Val) (x y z u : Outcome A) → Both P x z → Both P y u → Both P (branch p x y) (branch p z u)
branch_both P (v.flag true) x y z u h k = h
branch_both P (v.flag false) x y z u h k = k
branch_both P (v.word w n) x y z u h k = (refl, tt)
branch_both P (v.made ty c ps) x y z u h k = (refl, tt)
branch_both P (v.map m rest cells) x y z u h k = (refl, tt)

module _ (env : Environment) where
  pub given_both : (ty : Ty) (x : Option Val) (l : List Read) → There env ty x → Both (IsOf env ty) (given x l) (given x l)
  given_both ty x l h = (refl, subst (λ z. Holds (IsOf env ty) (given z l)) (sym h.is) h.of)

  pub seen_both : (ty : Ty) (x : Option (Val × Read)) (l : List Read) → ReadThere env ty x → Both (IsOf env ty) (seen x l) (seen x l)
  seen_both ty x l h = (refl, subst (λ z. Holds (IsOf env ty) (seen z l)) (sym h.is) h.of)

  pub taken_as : (s t : Ty) (x y : Outcome Val) → s ≡ t → Both (IsOf env t) x y → Both (IsOf env s) x y
  taken_as s t x y e h = subst (λ z. Both (IsOf env z) x y) (sym e) h

-- ---- arms, where `arm` is what they give by their numbers
-- Arm number k, from n on, is the one that is chosen, and gives what y is.
abbrev pub Taken : {A : Type 0} → (A → Type 0) → (ℕ → List Val → Outcome A) → Val → ℕ → Choice → Outcome A → Type 0
Taken P arm p n c y = (k : ℕ) × (c.0 ≡ n + k) × Both P (with_named (arm k) (vals_named p c.1)) y

pub arm_taken : {A : Type 0} (P : A → Type 0) (pat : Pattern) (p : Val) (n : ℕ) (c : Choice) (arm : ℕ → List Val → Outcome A) (x y : Outcome A) (rest : Option Choice)
    → (meets pat (shown p) ≡ true → Both P (arm 0 (bound pat p)) x) → (rest ≡ Some c → Taken P (λ k. arm (suc k)) p (n + 1) c y)
    → (b : Bool) → meets pat (shown p) ≡ b → cond b (Some (n, bindings [] pat)) rest ≡ Some c → Taken P arm p n c (cond b x y)
arm_taken P pat p n c arm x y rest here later true e h =
    let same : (n, bindings [] pat) ≡ c = some_same (n, bindings [] pat) c h in
    let number : n ≡ n + 0 = omega arith in
    let both : Both P (with_named (arm 0) (vals_named p (bindings [] pat))) x = subst (λ o. Both P (with_named (arm 0) o) x) (sym (names_bound pat p e)) (here e) in
    subst (λ c. Taken P arm p n c x) same (0, number, both)
arm_taken P pat p n c arm x y rest here later false e h =
    let t = later h in
    let same = t.1 in
    let number : c.0 ≡ n + suc t.0 = omega (arith, same) in
    (suc t.0, number, t.2)

pub arm_chosen : {A : Type 0} (P : A → Type 0) (p : Val) (c : Choice) (o : Option Choice) (arm : ℕ → List Val → Outcome A) (y : Outcome A) → o ≡ Some c → Taken P arm p 0 c y → Both P (arm_picked arm p o) y
arm_chosen P p c o arm y e t =
    let same = t.1 in
    let number : t.0 ≡ c.0 = omega (arith, same) in
    subst (λ o. Both P (arm_picked arm p o) y) (sym e) (subst (λ k. Both P (with_named (arm k) (vals_named p c.1)) y) number t.2)
