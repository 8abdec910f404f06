-- Evaluations whose logs have uses of a property alone.
use Rattle.std.proofs.Common.{ℕ, Bool, true, false, cond, List, [], ◌∷◌, ◌++◌, Option, Some, None, slice_get}
use Rattle.base_trait.specs.Algebra.{Algebra}
use Rattle.base_trait.specs.Lists.{Each}
use Rattle.base_trait.specs.Uses.{Seen}
use Rattle.base_trait.specs.declared.tri.Tri.{Tri}
use Rattle.spec_match_compiler.specs.Values.{Place}
use Rattle.spec_match_compiler.specs.Decisions.{Decision, Decisions, row, on_case, on_word, on_flag, no_tree, tree_then}
use Rattle.spec_ir.specs.declared.ty.Ty.{Ty}
use Rattle.spec_ir.specs.Environment.{Case, Environment}
use Rattle.spec_ir.specs.Texts.{cases_of}
use Rattle.semantics_laws.specs.CoreTypes.{AllDecide, Decides}
use Rattle.abstract_value_laws.specs.Abs.{Abs, Cases, absent, no_case, present}
use Rattle.support_tail_fixpoint.specs.Answer.{fails, gives}
use Rattle.support_tail_fixpoint.specs.Groups.{join_some}
use Rattle.abstract_semantics.specs.Answers.{Answer, Evaluation, behind, branch, branches, joined, joined_from, then_on, ◌>>=◌}
use Rattle.abstract_semantics.specs.Choices.{abs_at, abs_named, arm_on, arms_present, cases_there, decided, flag_there, word_there}
use Rattle.abstract_semantics.proofs.Kept.{IsKept}

pub each_append : (U : Seen → Type 0) (l m : List Seen) → Each U l → Each U m → Each U (l ++ m)
each_append U [] m h k = k
each_append U (u ∷ l) m h k = (h.0, each_append U l m h.1 k)

-- where it does not fail, each use in the log afterwards has the property
abbrev pub IsLogged : {A : Type 0} → (Seen → Type 0) → Answer A → Type 0
IsLogged U (fails i) = Unit {0}
IsLogged U (gives x after) = Each U after

module _ (U : Seen → Type 0) where
  -- from each such log
  abbrev pub Logging : {A : Type 0} → Evaluation A → Type 0
  Logging f = (l : List Seen) → Each U l → IsLogged U (f l)

  abbrev pub AllLogging : {A : Type 0} → List (Evaluation A) → Type 0
  AllLogging [] = Unit {0}
  AllLogging (f ∷ fs) = Logging f × AllLogging fs

  -- what follows is on a value that keeps P
  pub bind_logged : {A B : Type 0} (P : A → Type 0) (l : List Seen) (r : Answer A) (f : A → List Seen → Answer B) → IsKept (Unit {0}) P l r → IsLogged U r
      → ((x : A) (m : List Seen) → P x → Each U m → IsLogged U (f x m)) → IsLogged U (r >>= f)
  bind_logged P l (fails i) f h k go = tt
  bind_logged P l (gives None m) f h k go = k
  bind_logged P l (gives (Some x) m) f h k go = go x m h.0 k

  pub behind_logged : {A : Type 0} (l : List Seen) (r : Answer A) → Each U l → IsLogged U r → IsLogged U (behind l r)
  behind_logged l (fails i) h k = tt
  behind_logged l (gives x own) h k = each_append U l own h k

  module _ {A : Type 0} (j : A → A → A) where
    from_logged : (x : Option A) (fs : List (Evaluation A)) → AllLogging fs → Logging (joined_from j x fs)
    from_logged x [] k l h = h
    from_logged x (f ∷ fs) k l h = at (f l) (k.0 l h) (λ z m g. from_logged z fs k.1 m g)
      where
        at : (r : Answer A) → IsLogged U r → ((z : Option A) (m : List Seen) → Each U m → IsLogged U (joined_from j z fs m)) → IsLogged U (then_on r (λ y l. joined_from j (join_some j x y) fs l))
        at (fails i) g go = tt
        at (gives y m) g go = go (join_some j x y) m g

    pub joined_logged : (fs : List (Evaluation A)) → AllLogging fs → Logging (joined j fs)
    joined_logged fs k = from_logged None fs k

    chosen_logged : (b : Bool) (f : Evaluation A) (fs : List (Evaluation A)) → Logging f → AllLogging fs → AllLogging (cond b (f ∷ []) [] ++ fs)
    chosen_logged true f fs h k = (h, k)
    chosen_logged false f fs h k = k

    one_logged : (b : Bool) (f : Evaluation A) → Logging f → AllLogging (cond b (f ∷ []) [])
    one_logged true f h = (h, tt)
    one_logged false f h = tt

    pub branch_logged : (t : Tri) (f g : Evaluation A) → Logging f → Logging g → Logging (branch j t f g)
    branch_logged t f g h k = joined_logged (branches j t f g) (chosen_logged t.may_true f _ h (one_logged t.may_false g k))

-- ---- choices
module _ (U : Seen → Type 0) {A : Type 0} (j : A → A → A) {W N C : Type 0} (B : Algebra W N C) (c : C) (env : Environment) (arm : ℕ → List (Abs W N) → Evaluation A) (x : Abs W N) (ty : Ty)
    (Row : ℕ → List (ℕ × Place) → Type 0) (row_logged : (r : ℕ) (binds : List (ℕ × Place)) → Row r binds → Logging U (arm_on (arm r) (abs_named x binds))) where
  mutual
    pub decided_logged : (t : Decision) → Decides env Row ty t → Logging U (decided B c j arm x t)
    decided_logged (row r binds) h l k = row_logged r binds h l k
    decided_logged (on_case at arms) h l k = joined_logged U j _ (arms_logged arms (cases_of (slice_get env.datas h.0)) (cases_there (abs_at at x)) h.2) l k
    decided_logged (on_word at n a b) h l k = branch_logged U j (word_there B c (abs_at at x) n) _ _ (decided_logged a h.3) (decided_logged b h.4) l k
    decided_logged (on_flag at a b) h l k = branch_logged U j (flag_there (abs_at at x)) _ _ (decided_logged a h.1) (decided_logged b h.2) l k

    arms_logged : (ts : Decisions) (ds : List Case) (cs : Cases W N) → AllDecide env Row ty ts ds → AllLogging U (arms_present B c j arm x ts cs)
    arms_logged no_tree ds cs h = tt
    arms_logged (tree_then t ts) [] cs h = absurd h
    arms_logged (tree_then t ts) (d ∷ ds) no_case h = tt
    arms_logged (tree_then t ts) (d ∷ ds) (absent cs) h = arms_logged ts ds cs h.1
    arms_logged (tree_then t ts) (d ∷ ds) (present xs cs) h = (decided_logged t h.0, arms_logged ts ds cs h.1)
