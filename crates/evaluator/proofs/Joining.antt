-- What the first of two plans gives, joined behind others.
use Rattle.std.proofs.Common.{◌≡◌, ◌∙◌, ◌<◌, ◌++◌, ℕ, List, [], ◌∷◌, Option, length, map, option_map, refl, sym, ap, length-append, arith}
use Rattle.std.specs.Prelude.{All}
use Rattle.std.proofs.lemmas.List.{map-append}
use Rattle.std.proofs.lemmas.List.Elements.{All-nil, All-cons, All-head, All-tail}
use Rattle.base_trait.specs.Algebra.{Algebra}
use Rattle.base_trait.specs.Uses.{Seen}
use Rattle.abstract_value_laws.specs.Abs.{Abs}
use Rattle.support_tail_fixpoint.specs.Answer.{Yield, fails, gives}
use Rattle.support_tail_fixpoint.specs.Groups.{join_some}
use Rattle.abstract_semantics.specs.Answers.{Answer, then_on}
use Rattle.abstract_semantics.specs.Terms.{GroupArgs}
use Rattle.eval_memo.specs.declared.setting.Setting.{Setting}
use Rattle.eval_memo.specs.Settings.{join_yields}
use Rattle.eval_plans.specs.Plans.{Plan, both}
use Rattle.evaluator.specs.Arms.{Arms, given_plan}
use Rattle.evaluator.specs.Joins.{join_all, joined_behind}

-- of all but the last, and of the last
pub all_before : {V : Type 0} (P : V → Type 0) (xs : List V) (y : V) → All P (xs ++ y ∷ []) → All P xs
all_before P [] y h = All-nil P
all_before P (x ∷ xs) y h = All-cons P x xs (All-head P x (xs ++ y ∷ []) h) (all_before P xs y (All-tail P x (xs ++ y ∷ []) h))

pub last_of_all : {V : Type 0} (P : V → Type 0) (xs : List V) (y : V) → All P (xs ++ y ∷ []) → P y
last_of_all P [] y h = All-head P y [] h
last_of_all P (x ∷ xs) y h = last_of_all P xs y (All-tail P x (xs ++ y ∷ []) h)

pub shorter : {V : Type 0} (xs ys : List V) (y : V) → xs ≡ ys ++ y ∷ [] → length ys < length xs
shorter xs ys y e = let long = ap length e ∙ length-append ys (y ∷ []) in omega (arith, long)

module _ {A : Type 0} (j : A → A → A) where
  pub join_last : (xs : List (Option A)) (x y : Option A) → join_all j (xs ++ x ∷ []) y ≡ join_all j xs (join_some j x y)
  join_last [] x y = refl
  join_last (z ∷ xs) x y = ap (join_some j z) (join_last xs x y)

  pub behind_none : (r : Answer A) → r ≡ joined_behind j [] r
  behind_none (fails i) = refl
  behind_none (gives y l) = refl

  pub behind_one : (xs : List (Option A)) (x : Option A) (r : Answer A) → joined_behind j xs (then_on r (λ y l. gives (join_some j x y) l)) ≡ joined_behind j (xs ++ x ∷ []) r
  behind_one xs x (fails i) = refl
  behind_one xs x (gives y l) = ap (λ z. gives z l) (sym (join_last xs x y))

-- lists of what has been given, from the last on
module _ {V A : Type 0} (view : V → A) (j : A → A → A) (whole : Option A) where
  pub join_step : (xs left : List (Option V)) (x y z : Option V) → xs ≡ left ++ x ∷ [] → join_all j (map (option_map view) xs) (option_map view y) ≡ whole → option_map view z ≡ join_some j (option_map view x) (option_map view y)
      → join_all j (map (option_map view) left) (option_map view z) ≡ whole
  join_step xs left x y z split so joined =
      ap (join_all j (map (option_map view) left)) joined
      ∙ sym (join_last j (map (option_map view) left) (option_map view x) (option_map view y))
      ∙ ap (λ l. join_all j l (option_map view y)) (sym (ap (map (option_map view)) split ∙ map-append (option_map view) left (x ∷ [])))
      ∙ so

  pub join_done : (xs : List (Option V)) (n : ℕ) (y : Option V) → n ≡ 0 → n ≡ length xs → join_all j (map (option_map view) xs) (option_map view y) ≡ whole → option_map view y ≡ whole
  join_done [] n y none long so = so
  join_done (x ∷ xs) n y none long so = absurd (omega (arith, none, long))

module _ {X W N C : Type 0} (B : Algebra W N C) (cap : ℕ) (on : ℕ → List (Abs W N) → Answer (Abs W N)) (s : Setting X W N C) (env : List (Abs W N)) (arms : Arms) where
  abbrev Given : Type 0
  Given = Yield (GroupArgs W N) (Abs W N)

  abbrev j : Given → Given → Given
  j = join_yields B cap on s

  abbrev so : Plan W N → List Seen → Answer Given
  so p l = given_plan B cap on s env arms p l

  module _ (xs : List (Option Given)) (whole : Answer Given) (p : Plan W N) (l : List Seen) where
    -- the first has been given, and the second is left
    pub first_gave : (q r : Plan W N) (x : Option Given) (m : List Seen) → p ≡ both q r → whole ≡ joined_behind j xs (so p l) → so q l ≡ gives x m → whole ≡ joined_behind j (xs ++ x ∷ []) (so r m)
    first_gave q r x m is e gave =
        e ∙ ap (λ p. joined_behind j xs (so p l)) is
        ∙ ap (λ a. joined_behind j xs (then_on a (λ x m. then_on (so r m) (λ y n. gives (join_some j x y) n)))) gave
        ∙ behind_one j xs x (so r m)

    pub first_fails : (q r : Plan W N) (i : ℕ) → p ≡ both q r → whole ≡ joined_behind j xs (so p l) → so q l ≡ fails i → whole ≡ fails i
    first_fails q r i is e failed =
        e ∙ ap (λ p. joined_behind j xs (so p l)) is
        ∙ ap (λ a. joined_behind j xs (then_on a (λ x m. then_on (so r m) (λ y n. gives (join_some j x y) n)))) failed

    pub last_gave : (y : Option Given) (m : List Seen) → whole ≡ joined_behind j xs (so p l) → so p l ≡ gives y m → whole ≡ gives (join_all j xs y) m
    last_gave y m e gave = e ∙ ap (joined_behind j xs) gave

    pub last_fails : (i : ℕ) → whole ≡ joined_behind j xs (so p l) → so p l ≡ fails i → whole ≡ fails i
    last_fails i e failed = e ∙ ap (joined_behind j xs) failed
