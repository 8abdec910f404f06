-- Choices by a decision whose rows give the same.
use Rattle.std.proofs.Common.{ℕ, List}
use Rattle.base_trait.specs.Algebra.{Algebra}
use Rattle.spec_match_compiler.specs.Values.{Place}
use Rattle.spec_match_compiler.specs.Decisions.{Decision, Decisions, row, on_case, on_word, on_flag, no_tree, tree_then}
use Rattle.abstract_value_laws.specs.Abs.{Abs, Cases, no_case, absent, present}
use Rattle.abstract_semantics.specs.Answers.{Evaluation}
use Rattle.abstract_semantics.specs.Choices.{abs_at, abs_named, arm_on, arms_present, cases_there, decided, flag_there, word_there}
use Rattle.abstract_semantics.proofs.Alike.{AreAlike, AllAlike, branch_alike, joined_alike}
use Rattle.eval_code.specs.Valid.{EachRow, EachRowIn}

module _ {W N C A : Type 0} (B : Algebra W N C) (c : C) (j : A → A → A) (arm other : ℕ → List (Abs W N) → Evaluation A) (x : Abs W N) (P : ℕ → List (ℕ × Place) → Type 0)
    (row_alike : (r : ℕ) (binds : List (ℕ × Place)) → P r binds → AreAlike (arm_on (arm r) (abs_named x binds)) (arm_on (other r) (abs_named x binds))) where
  mutual
    pub rows_alike : (t : Decision) → EachRow P t → AreAlike (decided B c j arm x t) (decided B c j other x t)
    rows_alike (row r binds) h l = row_alike r binds h l
    rows_alike (on_case at arms) h l = joined_alike j _ _ (arms_alike arms (cases_there (abs_at at x)) h) l
    rows_alike (on_word at n a b) h l = branch_alike j (word_there B c (abs_at at x) n) _ _ _ _ (rows_alike a h.0) (rows_alike b h.1) l
    rows_alike (on_flag at a b) h l = branch_alike j (flag_there (abs_at at x)) _ _ _ _ (rows_alike a h.0) (rows_alike b h.1) l

    arms_alike : (ts : Decisions) (cs : Cases W N) → EachRowIn P ts → AllAlike (arms_present B c j arm x ts cs) (arms_present B c j other x ts cs)
    arms_alike no_tree cs h = tt
    arms_alike (tree_then t ts) no_case h = tt
    arms_alike (tree_then t ts) (absent cs) h = arms_alike ts cs h.1
    arms_alike (tree_then t ts) (present xs cs) h = (rows_alike t h.0, arms_alike ts cs h.1)
