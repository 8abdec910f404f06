-- An analysis by cases keeps the laws, and is sound.
use Rattle.std.proofs.Common.{◌≡◌, ◌∙◌, ℕ, zero, suc, false, List, [], ◌∷◌, ◌++◌, None, Some, IsTrue, inl, inr, ap, refl}
use Rattle.std.specs.Prelude.{map}
use Rattle.base_trait.specs.Lists.{AreAmong, Each}
use Rattle.base_trait.specs.Uses.{Seen}
use Rattle.base_trait.specs.declared.uses.Stamp.{Stamp}
use Rattle.base_trait.specs.declared.uses.Stamp.TheVariants.{At}
use Rattle.base_trait.proofs.Lists.{are_among_at, are_among_from}
use Rattle.fixpoint_theory.specs.Analysis.{Analysis, AnalysisLaws}
use Rattle.fixpoint_theory.specs.Code.{is_code}
use Rattle.fixpoint_theory.specs.Outcome.{AreOfStamps, HasTargets, IfPost, IfUses, Outcome, moves, sends, too_many, undecodable}
use Rattle.fixpoint_theory.specs.Runs.{Describes, IsSound, Machine, Step, deep, goes, left, no_decoding, stops}
use Rattle.fixpoint_theory.proofs.Bounded.{lists_both, lists_on}
use Rattle.fixpoint_cases.specs.ByCases.{MergeLaws, by_cases}
use Rattle.fixpoint_cases.specs.Cases.{IsSplit, Split, cases}
use Rattle.fixpoint_cases.specs.Laws.{AnalysesByCasesAreSound, AnalysesByCasesKeepTheLaws, IsOfElement, UnsplitElementsMoveAsBefore}
use Rattle.fixpoint_cases.specs.Lists.{OneOf}
use Rattle.fixpoint_cases.specs.Same.{SplitsAlike}
use Rattle.fixpoint_cases.specs.Sent.{merged, sent_by_cases, unless_many, where_split}
use Rattle.fixpoint_cases.proofs.Covering.{cases_cover, cases_fit}
use Rattle.fixpoint_cases.proofs.Describing.{merged_describes, one_describes}
use Rattle.fixpoint_cases.proofs.Lists.{each_both}
use Rattle.fixpoint_cases.proofs.SameCases.{same_cases}
use Rattle.fixpoint_cases.proofs.Sending.{all_cases_fit, all_cases_keep, all_so_far, all_uses, both_keep, lists_same, merged_keeps, merged_same, merged_uses, so_far_targets, split_keeps, split_same}

-- of images, what holds of each
each_image : {X Y : Type 0} (P : X → Type 0) (Q : Y → Type 0) (f : X → Y) → ((x : X) → P x → Q (f x)) → (xs : List X) → Each P xs → Each Q (map f xs)
each_image P Q f h [] each = tt
each_image P Q f h (x ∷ xs) each = (h x each.0, each_image P Q f h xs each.1)

one_image : {X Y : Type 0} (P : X → Type 0) (Q : Y → Type 0) (f : X → Y) → ((x : X) → P x → Q (f x)) → (xs : List X) → OneOf P xs → OneOf Q (map f xs)
one_image P Q f h [] one = absurd one
one_image P Q f h (x ∷ xs) (inl k) = inl (h x k)
one_image P Q f h (x ∷ xs) (inr k) = inr (one_image P Q f h xs k)

no_uses : (us vs : List Seen) → us ≡ [] → vs ≡ [] → us ++ vs ≡ []
no_uses us vs h k = ap (λ l. l ++ vs) h ∙ k

-- stamps of a larger list
uses_wider : (xs ys : List Stamp) (uses : List Seen) → AreAmong xs ys → AreOfStamps xs uses → AreOfStamps ys uses
uses_wider xs ys [] h of_xs = tt
uses_wider xs ys (u ∷ uses) h of_xs = (lists_on u.stamps xs ys of_xs.0 h, uses_wider xs ys uses h of_xs.1)

among_more : (s : Stamp) (xs ys : List Stamp) → AreAmong xs ys → AreAmong (s ∷ xs) (s ∷ ys)
among_more s xs ys h = (inl refl, are_among_from xs (s ∷ ys) (λ r m. inr (are_among_at xs ys r h m)))

-- what describes a step in the one analysis does so in the other
module _ {E W S : Type 0} (A : Analysis E W S) (split : Split E) (merge : List Seen → List Seen) (depth : ℕ) (M : Machine S) where
  described_too : (step : Step S) (o : Outcome E W) → Describes A M o step → Describes (by_cases A split merge depth) M o step
  described_too step (undecodable word) h = tt
  described_too (stops why) (too_many shown us) h = tt
  described_too (goes next reads) (too_many shown us) h = h
  described_too (stops deep) (moves targets post us) h = tt
  described_too (stops left) (moves targets post us) h = h
  described_too (stops (no_decoding word)) (moves targets post us) h = h
  described_too (goes next reads) (moves targets post us) h = h
  described_too (stops deep) (sends arrivals us) h = tt
  described_too (stops left) (sends arrivals us) h = h
  described_too (stops (no_decoding word)) (sends arrivals us) h = h
  described_too (goes next reads) (sends arrivals us) h = h

-- where elements are split at least once
module _ {E W S : Type 0} (A : Analysis E W S) (split : Split E) (merge : List Seen → List Seen) (more : ℕ) (laws : AnalysisLaws A) (is : IsSplit A.elements split) (merging : MergeLaws merge) where
  abbrev depth : ℕ
  depth = suc more

  abbrev leaves : ℕ → E → List E
  leaves at x = cases split depth at x

  abbrev outcomes : ℕ → E → List (Outcome E W)
  outcomes at x = map (A.transfer at) (leaves at x)

  -- what the cases come to, with merged uses
  abbrev sent : ℕ → E → Outcome E W
  sent at x = merged merge (sent_by_cases A.elements (outcomes at x))

  -- what holds of the element's transfer and of that holds of the transfer by cases
  of_both : (P : Outcome E W → Type 0) (at : ℕ) (x : E) → P (A.transfer at x) → P (sent at x) → P ((by_cases A split merge depth).transfer at x)
  of_both P at x h k = both_keep A.elements P (A.transfer at x) (split at x) (sent at x) h k

  of_element : (at : ℕ) (x : E) → A.elements.fits x → Each (IsOfElement A.elements x) (leaves at x)
  of_element at x fits = cases_fit A.elements split is depth at x fits

  only_fit : (x : E) (xs : List E) → Each (IsOfElement A.elements x) xs → Each A.elements.fits xs
  only_fit x [] h = tt
  only_fit x (y ∷ ys) h = (h.0.fits, only_fit x ys h.1)

  pub leaves_fit : (at : ℕ) (x : E) → A.elements.fits x → Each A.elements.fits (leaves at x)
  leaves_fit at x fits = only_fit x (leaves at x) (of_element at x fits)

  pub outcomes_fit : (at : ℕ) (x : E) → IsTrue (is_code A.code at) → A.elements.fits x → Each (IfPost A.elements.fits) (outcomes at x)
  outcomes_fit at x code fits =
      each_image A.elements.fits (IfPost A.elements.fits) (A.transfer at) (λ y fy. laws.transfer_fits at y code fy) (leaves at x) (leaves_fit at x fits)

  -- ---- stamps
  -- an element fits, and lists stamps of the instruction and of an element
  abbrev IsOfStamps : List Stamp → E → Type 0
  IsOfStamps stamps y = A.elements.fits y × AreAmong (A.elements.listed y) stamps

  joined_of : (stamps : List Stamp) (x y : E) → IsOfStamps stamps x → IsOfStamps stamps y → IsOfStamps stamps (A.elements.join x y)
  joined_of stamps x y h k = (
    laws.elements.join_fits x y h.0 k.0,
    lists_both (A.elements.listed (A.elements.join x y)) (A.elements.listed x) (A.elements.listed y) stamps (laws.elements.join_lists x y h.0 k.0) h.1 k.1,
  )

  posts_on : (xs ys : List Stamp) (arrivals : List (ℕ × E)) → AreAmong xs ys → Each (λ a. A.elements.fits a.1) arrivals → Each (λ a. AreAmong (A.elements.listed a.1) xs) arrivals
      → Each (λ a. IsOfStamps ys a.1) arrivals
  posts_on xs ys [] h fits lists = tt
  posts_on xs ys (a ∷ rest) h fits lists = ((fits.0, lists_on (A.elements.listed a.1) xs ys lists.0 h), posts_on xs ys rest h fits.1 lists.1)

  post_on : (xs ys : List Stamp) (o : Outcome E W) → AreAmong xs ys → IfPost A.elements.fits o → IfPost (λ post. AreAmong (A.elements.listed post) xs) o → IfPost (IsOfStamps ys) o
  post_on xs ys (undecodable word) h fits lists = tt
  post_on xs ys (too_many shown us) h fits lists = tt
  post_on xs ys (moves targets None us) h fits lists = tt
  post_on xs ys (moves targets (Some x) us) h fits lists = (fits, lists_on (A.elements.listed x) xs ys lists h)
  post_on xs ys (sends arrivals us) h fits lists = posts_on xs ys arrivals h fits lists

  lists_only : (stamps : List Stamp) (arrivals : List (ℕ × E)) → Each (λ a. IsOfStamps stamps a.1) arrivals → Each (λ a. AreAmong (A.elements.listed a.1) stamps) arrivals
  lists_only stamps [] h = tt
  lists_only stamps (a ∷ rest) h = (h.0.1, lists_only stamps rest h.1)

  post_lists : (stamps : List Stamp) (o : Outcome E W) → IfPost (IsOfStamps stamps) o → IfPost (λ post. AreAmong (A.elements.listed post) stamps) o
  post_lists stamps (undecodable word) h = tt
  post_lists stamps (too_many shown us) h = tt
  post_lists stamps (moves targets None us) h = tt
  post_lists stamps (moves targets (Some x) us) h = h.1
  post_lists stamps (sends arrivals us) h = lists_only stamps arrivals h

  outcome_lists : (at : ℕ) (x : E) → IsTrue (is_code A.code at) → A.elements.fits x
      → IfPost (λ post. AreAmong (A.elements.listed post) (At at ∷ A.elements.listed x)) ((by_cases A split merge depth).transfer at x)
  outcome_lists at x code fits =
      let stamps = At at ∷ A.elements.listed x in
      let each = each_image (IsOfElement A.elements x) (IfPost (IsOfStamps stamps)) (A.transfer at)
      (λ y h. post_on (At at ∷ A.elements.listed y) stamps (A.transfer at y) (among_more (At at) (A.elements.listed y) (A.elements.listed x) h.lists) (laws.transfer_fits at y code h.fits) (laws.transfer_lists at y code h.fits))
      (leaves at x) (of_element at x fits) in
      let kept = all_cases_keep A.elements (IsOfStamps stamps) (joined_of stamps) (outcomes at x) (sends [] []) tt each in
      of_both (IfPost (λ post. AreAmong (A.elements.listed post) stamps)) at x (laws.transfer_lists at x code fits)
      (post_lists stamps (sent at x) (merged_keeps A.elements (IsOfStamps stamps) (joined_of stamps) merge (sent_by_cases A.elements (outcomes at x)) kept))

  -- ---- uses
  uses_both : (stamps : List Stamp) (us vs : List Seen) → AreOfStamps stamps us → AreOfStamps stamps vs → AreOfStamps stamps (us ++ vs)
  uses_both stamps us vs h k = each_both (λ u. AreAmong u.stamps stamps) us vs h k

  use_on : (xs ys : List Stamp) (o : Outcome E W) → AreAmong xs ys → IfUses (AreOfStamps xs) o → IfUses (AreOfStamps ys) o
  use_on xs ys (undecodable word) h uses = tt
  use_on xs ys (too_many shown us) h uses = uses_wider xs ys us h uses
  use_on xs ys (moves targets post us) h uses = uses_wider xs ys us h uses
  use_on xs ys (sends arrivals us) h uses = uses_wider xs ys us h uses

  outcome_uses : (at : ℕ) (x : E) → IsTrue (is_code A.code at) → A.elements.fits x → IfUses (AreOfStamps (At at ∷ A.elements.listed x)) ((by_cases A split merge depth).transfer at x)
  outcome_uses at x code fits =
      let stamps = At at ∷ A.elements.listed x in
      let each = each_image (IsOfElement A.elements x) (IfUses (AreOfStamps stamps)) (A.transfer at)
      (λ y h. use_on (At at ∷ A.elements.listed y) stamps (A.transfer at y) (among_more (At at) (A.elements.listed y) (A.elements.listed x) h.lists) (laws.transfer_uses at y code h.fits))
      (leaves at x) (of_element at x fits) in
      of_both (IfUses (AreOfStamps stamps)) at x (laws.transfer_uses at x code fits)
      (merged_uses A.elements (AreOfStamps stamps) (uses_both stamps) merge (merging.stamps stamps) (sent_by_cases A.elements (outcomes at x))
      (all_uses A.elements (AreOfStamps stamps) (uses_both stamps) (outcomes at x) (sends [] []) tt each))

  outcome_unstamped : (at : ℕ) (x : E) → IsTrue (is_code A.code at) → A.elements.fits x → A.stamped ≡ false → IfUses (λ uses. uses ≡ []) ((by_cases A split merge depth).transfer at x)
  outcome_unstamped at x code fits none =
      let each = each_image (IsOfElement A.elements x) (IfUses (λ uses. uses ≡ [])) (A.transfer at) (λ y h. laws.transfer_unstamped at y code h.fits none) (leaves at x) (of_element at x fits) in
      of_both (IfUses (λ uses. uses ≡ [])) at x (laws.transfer_unstamped at x code fits none)
      (merged_uses A.elements (λ uses. uses ≡ []) no_uses merge (λ us h. ap merge h ∙ merging.none) (sent_by_cases A.elements (outcomes at x))
      (all_uses A.elements (λ uses. uses ≡ []) no_uses (outcomes at x) (sends [] []) refl each))

  pub keep_the_laws : SplitsAlike A.elements split → AnalysisLaws (by_cases A split merge depth)
  keep_the_laws alike = record {
    elements = laws.elements;
    code = laws.code;
    entry_fits = laws.entry_fits;
    entry_lists = laws.entry_lists;
    transfer_fits = λ at x code fits.
        of_both (IfPost A.elements.fits) at x (laws.transfer_fits at x code fits)
        (merged_keeps A.elements A.elements.fits laws.elements.join_fits merge (sent_by_cases A.elements (outcomes at x))
        (all_cases_fit A.elements laws.elements (outcomes at x) (sends [] []) tt (outcomes_fit at x code fits)));
    transfer_lists = outcome_lists;
    transfer_targets = λ at x code fits.
        of_both HasTargets at x (laws.transfer_targets at x code fits)
        (so_far_targets A.elements merge (sent_by_cases A.elements (outcomes at x)) (all_so_far A.elements (outcomes at x) (sends [] []) tt));
    transfer_uses = outcome_uses;
    transfer_unstamped = outcome_unstamped;
    transfer_same = λ at x y code fx fy same.
        split_same A.elements laws.elements (A.transfer at x) (A.transfer at y) (split at x) (split at y) (sent at x) (sent at y) (laws.transfer_same at x y code fx fy same) (alike at x y fx fy same)
        (merged_same A.elements laws.elements merge (sent_by_cases A.elements (outcomes at x)) (sent_by_cases A.elements (outcomes at y))
        (lists_same A.elements laws.elements (A.transfer at) (λ z fz. laws.transfer_fits at z code fz) (λ z w fz fw s. laws.transfer_same at z w code fz fw s)
        (leaves at x) (leaves at y) (sends [] []) (sends [] []) (leaves_fit at x fx) (leaves_fit at y fy) (same_cases A.elements split is alike depth at x y fx fy same) tt tt (tt, refl)));
  }

  pub by_cases_sound : (M : Machine S) → IsSound A M → IsSound (by_cases A split merge depth) M
  by_cases_sound M sound = record {
    entry = sound.entry;
    transfer = λ d x s fits code holds.
        let at = M.counter s in
        let one = one_image (λ leaf. A.elements.fits leaf × A.elements.holds leaf s) (λ o. Describes A M o (M.step d s)) (A.transfer at)
        (λ leaf h. sound.transfer d leaf s h.0 code h.1) (leaves at x) (cases_cover A.elements split is depth at x s fits holds) in
        let itself = sound.transfer d x s fits code holds in
        described_too A split merge depth M (M.step d s) ((by_cases A split merge depth).transfer at x)
        (split_keeps A.elements (λ o. Describes A M o (M.step d s)) (A.transfer at x) (split at x) (unless_many (A.transfer at x) (sent at x)) itself
        (merged_describes A M laws (M.step d s) merge merging.covers (A.transfer at x) (sent_by_cases A.elements (outcomes at x)) itself
        (one_describes A M laws (M.step d s) (outcomes at x) (sends [] []) tt (outcomes_fit at x code fits) one)));
    leaves = sound.leaves;
  }

pub keep_the_laws_by_cases : {E W S : Type 0} (A : Analysis E W S) → AnalysesByCasesKeepTheLaws A
keep_the_laws_by_cases A split merge zero laws is alike merging = record {
  elements = laws.elements;
  code = laws.code;
  entry_fits = laws.entry_fits;
  entry_lists = laws.entry_lists;
  transfer_fits = laws.transfer_fits;
  transfer_lists = laws.transfer_lists;
  transfer_targets = laws.transfer_targets;
  transfer_uses = laws.transfer_uses;
  transfer_unstamped = laws.transfer_unstamped;
  transfer_same = laws.transfer_same;
}
keep_the_laws_by_cases A split merge (suc more) laws is alike merging = keep_the_laws A split merge more laws is merging alike

pub sound_by_cases : {E W S : Type 0} (A : Analysis E W S) (M : Machine S) → AnalysesByCasesAreSound A M
sound_by_cases A M split merge zero laws is merging sound = record {
  entry = sound.entry;
  transfer = λ d x s fits code holds. described_too A split merge zero M (M.step d s) (A.transfer (M.counter s) x) (sound.transfer d x s fits code holds);
  leaves = sound.leaves;
}
sound_by_cases A M split merge (suc more) laws is merging sound = by_cases_sound A split merge more laws is merging M sound

-- an element that is not split
pub unsplit_elements_move_as_before : {E W S : Type 0} (A : Analysis E W S) → UnsplitElementsMoveAsBefore A
unsplit_elements_move_as_before A split merge zero at x h = refl
unsplit_elements_move_as_before A split merge (suc more) at x (inl none) = absurd cc
unsplit_elements_move_as_before A split merge (suc more) at x (inr none) =
    ap (λ s. where_split (A.transfer at x) s (unless_many (A.transfer at x) (merged merge (sent_by_cases A.elements (map (A.transfer at) (cases split (suc more) at x)))))) none
