-- Values as leaves.
use Rattle.std.proofs.Common.{◌≡◌, ℕ, Bool, true, false, cond, List, [], ◌∷◌, ◌++◌, Option, Some, None, option_map, refl, sym, ap, ◌∙◌}
use Rattle.base_trait.specs.Algebra.{Algebra}
use Rattle.base_trait.specs.Uses.{Seen}
use Rattle.base_trait.specs.declared.tri.Tri.{Tri}
use Rattle.spec_match_compiler.specs.Decisions.{Decision, Decisions, row, on_case, on_word, on_flag, no_tree, tree_then}
use Rattle.abstract_value_laws.specs.Abs.{Abs, Cases, no_case, absent, present}
use Rattle.abstract_value_laws.specs.Calls.{join_of}
use Rattle.support_tail_fixpoint.specs.Answer.{Yield, fails, gives, out_of}
use Rattle.support_tail_fixpoint.specs.Groups.{join_some}
use Rattle.abstract_semantics.specs.Answers.{Answer, Evaluation, branch, joined, joined_from, then_on, ◌>>=◌}
use Rattle.abstract_semantics.specs.Choices.{abs_at, abs_named, arm_on, arms_present, cases_there, decided, flag_there, word_there}
use Rattle.abstract_semantics.specs.Terms.{GroupArgs, leaf}
use Rattle.eval_memo.specs.declared.setting.Setting.{Setting}
use Rattle.eval_memo.specs.Settings.{join_yields, leaf_of}

module _ {X W N C : Type 0} (B : Algebra W N C) (cap : ℕ) (on : ℕ → List (Abs W N) → Answer (Abs W N)) (s : Setting X W N C) where
  pub leaf_bind : {A : Type 0} (r : Answer A) (f : A → List Seen → Answer (Abs W N)) → leaf_of B cap on s (r >>= f) ≡ (r >>= λ x l. leaf_of B cap on s (f x l))
  leaf_bind (fails i) f = refl
  leaf_bind (gives None l) f = refl
  leaf_bind (gives (Some x) l) f = refl

  abbrev j : Abs W N → Abs W N → Abs W N
  j = join_of B s.ctx.now cap

  leaf_some : (x y : Option (Abs W N)) → option_map leaf (join_some j x y) ≡ join_some (join_yields B cap on s) (option_map leaf x) (option_map leaf y)
  leaf_some None y = refl
  leaf_some (Some x) None = refl
  leaf_some (Some x) (Some y) = refl

  pub leaf_gives : (x : Option (Abs W N)) (l : List Seen) → leaf_of B cap on s (gives x l) ≡ gives (option_map leaf x) l
  leaf_gives None l = refl
  leaf_gives (Some x) l = refl

  -- one more evaluation, and then others, whose leaves are as they are
  leaf_step : (x : Option (Abs W N)) (r : Answer (Abs W N)) (rest : Option (Abs W N) → List Seen → Answer (Abs W N)) (later : Option (Yield (GroupArgs W N) (Abs W N)) → List Seen → Answer (Yield (GroupArgs W N) (Abs W N)))
      → ((y : Option (Abs W N)) (l : List Seen) → leaf_of B cap on s (rest y l) ≡ later (option_map leaf y) l)
      → leaf_of B cap on s (then_on r (λ y l. rest (join_some j x y) l)) ≡ then_on (leaf_of B cap on s r) (λ y l. later (join_some (join_yields B cap on s) (option_map leaf x) y) l)
  leaf_step x (fails i) rest later h = refl
  leaf_step x (gives y l) rest later h =
      h (join_some j x y) l ∙ ap (λ z. later z l) (leaf_some x y) ∙ ap (λ a. then_on a (λ y l. later (join_some (join_yields B cap on s) (option_map leaf x) y) l)) (sym (leaf_gives y l))

  pub leaf_branch : (o : Tri) (f g : Evaluation (Abs W N)) (l : List Seen) → leaf_of B cap on s (branch j o f g l) ≡ branch (join_yields B cap on s) o (λ l. leaf_of B cap on s (f l)) (λ l. leaf_of B cap on s (g l)) l
  leaf_branch o f g l = at o.may_true o.may_false
    where
      at : (a b : Bool) → leaf_of B cap on s (joined j (cond a (f ∷ []) [] ++ cond b (g ∷ []) []) l) ≡ joined (join_yields B cap on s) (cond a ((λ l. leaf_of B cap on s (f l)) ∷ []) [] ++ cond b ((λ l. leaf_of B cap on s (g l)) ∷ []) []) l
      at false false = refl
      at true false = leaf_step None (f l) (λ y l. gives y l) (λ y l. gives y l) leaf_gives
      at false true = leaf_step None (g l) (λ y l. gives y l) (λ y l. gives y l) leaf_gives
      at true true = leaf_step None (f l) (λ y l. joined_from j y (g ∷ []) l) (λ y l. joined_from (join_yields B cap on s) y ((λ l. leaf_of B cap on s (g l)) ∷ []) l)
          (λ y l. leaf_step y (g l) (λ y l. gives y l) (λ y l. gives y l) leaf_gives)

  leaf_arm : (o : Option (List (Abs W N))) (arm : List (Abs W N) → Evaluation (Abs W N)) (l : List Seen) → leaf_of B cap on s (arm_on arm o l) ≡ arm_on (λ vs l. leaf_of B cap on s (arm vs l)) o l
  leaf_arm None arm l = refl
  leaf_arm (Some vs) arm l = refl

  module _ (arm : ℕ → List (Abs W N) → Evaluation (Abs W N)) (x : Abs W N) where
    abbrev plainly : Decision → Evaluation (Abs W N)
    plainly by = decided B s.ctx.now j arm x by

    abbrev leafly : Decision → Evaluation (Yield (GroupArgs W N) (Abs W N))
    leafly by = decided B s.ctx.now (join_yields B cap on s) (λ r vs l. leaf_of B cap on s (arm r vs l)) x by

    same_branch : (o : Tri) (f g : Evaluation (Abs W N)) (f' g' : Evaluation (Yield (GroupArgs W N) (Abs W N))) → ((l : List Seen) → leaf_of B cap on s (f l) ≡ f' l) → ((l : List Seen) → leaf_of B cap on s (g l) ≡ g' l) → (l : List Seen)
        → leaf_of B cap on s (branch j o f g l) ≡ branch (join_yields B cap on s) o f' g' l
    same_branch o f g f' g' hf hg l = at o.may_true o.may_false
      where
        one : (x : Option (Abs W N)) (h h' : Bool) (k : Evaluation (Abs W N)) (k' : Evaluation (Yield (GroupArgs W N) (Abs W N))) → ((l : List Seen) → leaf_of B cap on s (k l) ≡ k' l) → (l : List Seen)
            → leaf_of B cap on s (joined_from j x (k ∷ []) l) ≡ joined_from (join_yields B cap on s) (option_map leaf x) (k' ∷ []) l
        one x h h' k k' e l = leaf_step x (k l) (λ y l. gives y l) (λ y l. gives y l) leaf_gives ∙ ap (λ a. then_on a (λ y l. gives (join_some (join_yields B cap on s) (option_map leaf x) y) l)) (e l)

        at : (a b : Bool) → leaf_of B cap on s (joined j (cond a (f ∷ []) [] ++ cond b (g ∷ []) []) l) ≡ joined (join_yields B cap on s) (cond a (f' ∷ []) [] ++ cond b (g' ∷ []) []) l
        at false false = refl
        at true false = one None true true f f' hf l
        at false true = one None true true g g' hg l
        at true true = leaf_step None (f l) (λ y l. joined_from j y (g ∷ []) l) (λ y l. joined_from (join_yields B cap on s) y (g' ∷ []) l) (λ y l. one y true true g g' hg l)
            ∙ ap (λ a. then_on a (λ y l. joined_from (join_yields B cap on s) (join_some (join_yields B cap on s) None y) (g' ∷ []) l)) (hf l)

    mutual
      pub leaf_decided : (by : Decision) (l : List Seen) → leaf_of B cap on s (plainly by l) ≡ leafly by l
      leaf_decided (row r binds) l = leaf_arm (abs_named x binds) (arm r) l
      leaf_decided (on_case at ts) l = leaf_present ts (cases_there (abs_at at x)) None l
      leaf_decided (on_word at n a b) l = same_branch (word_there B s.ctx.now (abs_at at x) n) (plainly a) (plainly b) (leafly a) (leafly b) (leaf_decided a) (leaf_decided b) l
      leaf_decided (on_flag at a b) l = same_branch (flag_there (abs_at at x)) (plainly a) (plainly b) (leafly a) (leafly b) (leaf_decided a) (leaf_decided b) l

      leaf_present : (ts : Decisions) (cs : Cases W N) (first : Option (Abs W N)) (l : List Seen)
          → leaf_of B cap on s (joined_from j first (arms_present B s.ctx.now j arm x ts cs) l) ≡ joined_from (join_yields B cap on s) (option_map leaf first) (arms_present B s.ctx.now (join_yields B cap on s) (λ r vs l. leaf_of B cap on s (arm r vs l)) x ts cs) l
      leaf_present no_tree cs first l = leaf_gives first l
      leaf_present (tree_then t ts) no_case first l = leaf_gives first l
      leaf_present (tree_then t ts) (absent cs) first l = leaf_present ts cs first l
      leaf_present (tree_then t ts) (present xs cs) first l =
          leaf_step first (plainly t l) (λ y l. joined_from j y (arms_present B s.ctx.now j arm x ts cs) l) (λ y l. joined_from (join_yields B cap on s) y (arms_present B s.ctx.now (join_yields B cap on s) (λ r vs l. leaf_of B cap on s (arm r vs l)) x ts cs) l)
          (λ y l. leaf_present ts cs y l)
          ∙ ap (λ a. then_on a (λ y l. joined_from (join_yields B cap on s) (join_some (join_yields B cap on s) (option_map leaf first) y) (arms_present B s.ctx.now (join_yields B cap on s) (λ r vs l. leaf_of B cap on s (arm r vs l)) x ts cs) l)) (leaf_decided t l)

  -- what has such a leaf
  pub leaf_gave : (r : Answer (Abs W N)) (y : Option (Yield (GroupArgs W N) (Abs W N))) (l : List Seen) → leaf_of B cap on s r ≡ gives y l → r ≡ gives (out_of y) l
  leaf_gave (fails i) y l e = absurd cc
  leaf_gave (gives None m) None l e = cc
  leaf_gave (gives None m) (Some y) l e = absurd cc
  leaf_gave (gives (Some x) m) None l e = absurd cc
  leaf_gave (gives (Some x) m) (Some y) l e = cc

  pub leaf_failed : (r : Answer (Abs W N)) (i : ℕ) → leaf_of B cap on s r ≡ fails i → r ≡ fails i
  leaf_failed (fails j) i e = cc
  leaf_failed (gives None m) i e = absurd cc
  leaf_failed (gives (Some x) m) i e = absurd cc
