-- Evaluations that give the same.
use Rattle.std.proofs.Common.{◌≡◌, ℕ, Bool, true, false, cond, List, [], ◌∷◌, ◌++◌, Option, Some, None, refl, sym, subst}
use Rattle.base_trait.specs.Algebra.{Algebra}
use Rattle.base_trait.specs.Uses.{Seen}
use Rattle.base_trait.specs.declared.tri.Tri.{Tri}
use Rattle.spec_match_compiler.specs.Values.{Place}
use Rattle.spec_match_compiler.specs.Decisions.{Decision, Decisions, row, on_case, on_word, on_flag, no_tree, tree_then}
use Rattle.spec_ir.specs.declared.ty.Ty.{Ty}
use Rattle.spec_ir.specs.Environment.{Case, Environment}
use Rattle.spec_ir.specs.Texts.{cases_of}
use Rattle.std.specs.Prelude.{slice_get}
use Rattle.semantics_laws.specs.CoreTypes.{Decides, AllDecide}
use Rattle.abstract_value_laws.specs.Abs.{Abs, Cases, no_case, absent, present}
use Rattle.support_tail_fixpoint.specs.Answer.{fails, gives}
use Rattle.support_tail_fixpoint.specs.Groups.{join_some}
use Rattle.abstract_semantics.specs.Answers.{Answer, Evaluation, branch, branches, joined, joined_from, then_on, ◌>>=◌}
use Rattle.abstract_semantics.specs.Choices.{abs_at, abs_named, arm_on, arms_present, cases_there, decided, flag_there, word_there}
use Rattle.abstract_semantics.proofs.Kept.{IsKept}

abbrev pub AreAlike : {A : Type 0} → Evaluation A → Evaluation A → Type 0
AreAlike f g = (l : List Seen) → f l ≡ g l

abbrev pub AllAlike : {A : Type 0} → List (Evaluation A) → List (Evaluation A) → Type 0
AllAlike [] [] = Unit {0}
AllAlike (f ∷ fs) (g ∷ gs) = AreAlike f g × AllAlike fs gs
AllAlike _ _ = ⊥

pub bind_alike : {A B : Type 0} (Fine : Type 0) (P : A → Type 0) (l : List Seen) (x y : Answer A) (f g : A → List Seen → Answer B) → IsKept Fine P l x → x ≡ y
    → ((z : A) (m : List Seen) → P z → f z m ≡ g z m) → x >>= f ≡ y >>= g
bind_alike Fine P l (fails i) y f g k e h = rw (sym e) refl
bind_alike Fine P l (gives None m) y f g k e h = rw (sym e) refl
bind_alike Fine P l (gives (Some z) m) y f g k e h = rw (sym e) (h z m k.0)

then_alike : {A B : Type 0} (r : Answer A) (f g : Option A → List Seen → Answer B) → ((y : Option A) (m : List Seen) → f y m ≡ g y m) → then_on r f ≡ then_on r g
then_alike (fails i) f g h = refl
then_alike (gives x m) f g h = h x m

-- ---- several, joined
module _ {A : Type 0} (j : A → A → A) where
  from_alike : (x : Option A) (fs gs : List (Evaluation A)) (l : List Seen) → AllAlike fs gs → joined_from j x fs l ≡ joined_from j x gs l
  from_alike x [] [] l h = refl
  from_alike x [] (g ∷ gs) l h = absurd h
  from_alike x (f ∷ fs) [] l h = absurd h
  from_alike x (f ∷ fs) (g ∷ gs) l h =
      subst (λ r. then_on (f l) (λ y l. joined_from j (join_some j x y) fs l) ≡ then_on r (λ y l. joined_from j (join_some j x y) gs l)) (h.0 l)
      (then_alike (f l) (λ y l. joined_from j (join_some j x y) fs l) (λ y l. joined_from j (join_some j x y) gs l) (λ y m. from_alike (join_some j x y) fs gs m h.1))

  pub joined_alike : (fs gs : List (Evaluation A)) → AllAlike fs gs → AreAlike (joined j fs) (joined j gs)
  joined_alike fs gs h l = from_alike None fs gs l h

  one_alike : (b : Bool) (f g : Evaluation A) → AreAlike f g → AllAlike (cond b (f ∷ []) []) (cond b (g ∷ []) [])
  one_alike true f g h = (h, tt)
  one_alike false f g h = tt

  chosen_alike : (b : Bool) (f g : Evaluation A) (fs gs : List (Evaluation A)) → AreAlike f g → AllAlike fs gs → AllAlike (cond b (f ∷ []) [] ++ fs) (cond b (g ∷ []) [] ++ gs)
  chosen_alike true f g fs gs h k = (h, k)
  chosen_alike false f g fs gs h k = k

  pub branch_alike : (t : Tri) (x y z u : Evaluation A) → AreAlike x z → AreAlike y u → AreAlike (branch j t x y) (branch j t z u)
  branch_alike t x y z u h k = joined_alike (branches j t x y) (branches j t z u) (chosen_alike t.may_true x z _ _ h (one_alike t.may_false y u k))

-- ---- choices by a decision
module _ {W N C A : Type 0} (B : Algebra W N C) (c : C) (j : A → A → A) (arm other : ℕ → List (Abs W N) → Evaluation A) (x : Abs W N) (env : Environment) (ty : Ty)
    (Row : ℕ → List (ℕ × Place) → Type 0) (row_alike : (r : ℕ) (binds : List (ℕ × Place)) → Row r binds → AreAlike (arm_on (arm r) (abs_named x binds)) (arm_on (other r) (abs_named x binds))) where
  mutual
    pub decided_alike : (t : Decision) → Decides env Row ty t → AreAlike (decided B c j arm x t) (decided B c j other x t)
    decided_alike (row r binds) h l = row_alike r binds h l
    decided_alike (on_case at arms) h l = joined_alike j _ _ (arms_alike arms (cases_of (slice_get env.datas h.0)) (cases_there (abs_at at x)) h.2) l
    decided_alike (on_word at n a b) h l = branch_alike j (word_there B c (abs_at at x) n) _ _ _ _ (decided_alike a h.3) (decided_alike b h.4) l
    decided_alike (on_flag at a b) h l = branch_alike j (flag_there (abs_at at x)) _ _ _ _ (decided_alike a h.1) (decided_alike b h.2) l

    arms_alike : (ts : Decisions) (ds : List Case) (cs : Cases W N) → AllDecide env Row ty ts ds → AllAlike (arms_present B c j arm x ts cs) (arms_present B c j other x ts cs)
    arms_alike no_tree ds cs h = tt
    arms_alike (tree_then t ts) [] cs h = absurd h
    arms_alike (tree_then t ts) (d ∷ ds) no_case h = tt
    arms_alike (tree_then t ts) (d ∷ ds) (absent cs) h = arms_alike ts ds cs h.1
    arms_alike (tree_then t ts) (d ∷ ds) (present xs cs) h = (decided_alike t h.0, arms_alike ts ds cs h.1)
