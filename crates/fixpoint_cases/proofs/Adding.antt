-- The transfers of cases, one after the other.
use Rattle.std.proofs.Common.{◌≡◌, ◌∙◌, ℕ, suc, List, [], ◌∷◌, ◌++◌, Option, None, Some, IsTrue, ap, refl, sym, subst, append-nil}
use Rattle.std.specs.Prelude.{IfSome, fold, map}
use Rattle.std.proofs.lemmas.List.{append_assoc, map-append}
use Rattle.std.proofs.lemmas.List.Sums.{fold-append}
use Rattle.base_trait.specs.Lists.{Each}
use Rattle.base_trait.specs.Uses.{Seen}
use Rattle.fixpoint_theory.specs.Analysis.{Analysis, AnalysisLaws}
use Rattle.fixpoint_theory.specs.Code.{is_code}
use Rattle.fixpoint_theory.specs.Outcome.{IfPost, Outcome, SameOutcome, sends}
use Rattle.fixpoint_cases.specs.ByCases.{case_transfer}
use Rattle.fixpoint_cases.specs.Cases.{IsSplit, Split, cases, cases_of, cases_of_all}
use Rattle.fixpoint_cases.specs.Same.{AreSame, AreSameSplits, SplitsAlike}
use Rattle.fixpoint_cases.specs.Sent.{and_case, merged, sent_by_cases, unless_many, where_split}
use Rattle.fixpoint_cases.proofs.Covering.{all_cases_fit as all_fit, each_case_fits}
use Rattle.fixpoint_cases.proofs.SameCases.{same_at, same_of_all}
use Rattle.fixpoint_cases.proofs.SameLists.{same_lists}
use Rattle.fixpoint_cases.proofs.Sending.{all_cases_fit, case_same, images_fit, lists_same, merged_same, outcome_itself, outcome_on, split_same}

all_more : {E : Type 0} (later : E → List E) (xs : List E) (x : E) → cases_of_all later (xs ++ x ∷ []) ≡ cases_of_all later xs ++ later x
all_more later [] x = append-nil (later x)
all_more later (y ∷ ys) x = ap (λ l. later y ++ l) (all_more later ys x) ∙ sym (append_assoc (later y) (cases_of_all later ys) (later x))

-- of the one case of an element
pub made_more : {E W S : Type 0} (A : Analysis E W S) (laws : AnalysisLaws A) (at : ℕ) → IsTrue (is_code A.code at) → (c made : Outcome E W) (x : E) → A.elements.fits x → IfPost A.elements.fits c → IfPost A.elements.fits made
    → SameOutcome A.elements made (A.transfer at x) → SameOutcome A.elements (and_case A.elements c made) (and_case A.elements c (A.transfer at x))
made_more A laws at code c made x fx fc fm s = case_same A.elements laws.elements c c made (A.transfer at x) fc fc (outcome_itself A.elements laws.elements c) fm (laws.transfer_fits at x code fx) s

module _ {E W S : Type 0} (A : Analysis E W S) (laws : AnalysisLaws A) (split : Split E) (is : IsSplit A.elements split) (alike : SplitsAlike A.elements split) (at : ℕ) (code : IsTrue (is_code A.code at)) where
  -- what the transfers of elements come to, behind others
  abbrev pub after : Outcome E W → List E → Outcome E W
  after c xs = fold (and_case A.elements) c (map (A.transfer at) xs)

  after_same : (c d : Outcome E W) (xs ys : List E) → Each A.elements.fits xs → Each A.elements.fits ys → AreSame A.elements xs ys → IfPost A.elements.fits c → IfPost A.elements.fits d → SameOutcome A.elements c d
      → SameOutcome A.elements (after c xs) (after d ys)
  after_same c d xs ys fxs fys s fc fd h =
      lists_same A.elements laws.elements (A.transfer at) (λ z fz. laws.transfer_fits at z code fz) (λ z w fz fw s. laws.transfer_same at z w code fz fw s) xs ys c d fxs fys s fc fd h

  after_fits : (c : Outcome E W) (xs : List E) → IfPost A.elements.fits c → Each A.elements.fits xs → IfPost A.elements.fits (after c xs)
  after_fits c xs fc fxs =
      all_cases_fit A.elements laws.elements (map (A.transfer at) xs) c fc
      (images_fit A.elements laws.elements (A.transfer at) (λ z fz. laws.transfer_fits at z code fz) (λ z w fz fw s. laws.transfer_same at z w code fz fw s) xs fxs)

  -- of the cases of one element more
  pub element_more : (start c r : Outcome E W) (more : ℕ) (xs : List E) (x : E) → IfPost A.elements.fits start → IfPost A.elements.fits c → Each A.elements.fits xs → A.elements.fits x
      → SameOutcome A.elements c (after start (cases_of_all (cases split more at) xs)) → SameOutcome A.elements r (after c (cases split more at x))
      → SameOutcome A.elements r (after start (cases_of_all (cases split more at) (xs ++ x ∷ [])))
  element_more start c r more xs x fs fc fxs fx before h =
      let here = cases split more at x in
      let all = cases_of_all (cases split more at) xs in
      let fits = each_case_fits A.elements split is at more x fx in
      let whole : after start (cases_of_all (cases split more at) (xs ++ x ∷ [])) ≡ after (after start all) here =
      ap (after start) (all_more (cases split more at) xs x) ∙ ap (fold (and_case A.elements) start) (map-append (A.transfer at) all here)
      ∙ fold-append (and_case A.elements) start (map (A.transfer at) all) (map (A.transfer at) here) in
      subst (SameOutcome A.elements r) (sym whole)
      (outcome_on A.elements laws.elements r (after c here) (after (after start all) here) h
      (after_same c (after start all) here here fits fits (same_lists A.elements laws.elements here) fc (after_fits start all fs (all_fit A.elements split is at more xs fxs)) before))

  -- the cases of an element that is split into what is the same as these pieces, or not at all
  cases_same : (more : ℕ) (x : E) (o p : Option (List E)) → A.elements.fits x → IfSome o (Each A.elements.fits) → IfSome p (Each A.elements.fits) → AreSameSplits A.elements o p
      → AreSame A.elements (cases_of (cases split more at) x o) (cases_of (cases split more at) x p)
  cases_same more x None None fx fo fp s = (laws.elements.same_itself x, tt)
  cases_same more x None (Some ys) fx fo fp s = absurd s
  cases_same more x (Some xs) None fx fo fp s = absurd s
  cases_same more x (Some xs) (Some ys) fx fo fp s = same_of_all A.elements (cases split more at) (same_at A.elements split is alike at more) xs ys fo fp s

  of_cases_fit : (more : ℕ) (x : E) (o : Option (List E)) → A.elements.fits x → IfSome o (Each A.elements.fits) → Each A.elements.fits (cases_of (cases split more at) x o)
  of_cases_fit more x None fx fo = (fx, tt)
  of_cases_fit more x (Some xs) fx fo = all_fit A.elements split is at more xs fo

  split_fits : (x : E) → A.elements.fits x → IfSome (split at x) (Each A.elements.fits)
  split_fits x fx = by (split at x) refl
    where
      by : (o : Option (List E)) → split at x ≡ o → IfSome o (Each A.elements.fits)
      by None e = tt
      by (Some pieces) e = is.pieces_fit at x pieces fx e

  after_split : (c : Outcome E W) (more : ℕ) (x : E) (o : Option (List E)) → A.elements.fits x → IfSome o (Each A.elements.fits) → IfPost A.elements.fits c → AreSameSplits A.elements o (split at x)
      → SameOutcome A.elements (after c (cases_of (cases split more at) x o)) (after c (cases split (suc more) at x))
  after_split c more x o fx fo fc s =
      let fp = split_fits x fx in
      after_same c c (cases_of (cases split more at) x o) (cases split (suc more) at x) (of_cases_fit more x o fx fo) (of_cases_fit more x (split at x) fx fp)
      (cases_same more x o (split at x) fx fo fp s) fc fc (outcome_itself A.elements laws.elements c)

  pub of_split : (r c : Outcome E W) (more : ℕ) (x : E) (o : Option (List E)) → A.elements.fits x → IfSome o (Each A.elements.fits) → IfPost A.elements.fits c → AreSameSplits A.elements o (split at x)
      → SameOutcome A.elements r (after c (cases_of (cases split more at) x o)) → SameOutcome A.elements r (after c (cases split (suc more) at x))
  of_split r c more x o fx fo fc s h =
      outcome_on A.elements laws.elements r (after c (cases_of (cases split more at) x o)) (after c (cases split (suc more) at x)) h (after_split c more x o fx fo fc s)

  -- what an element comes to that is split so
  abbrev pub made_of : (List Seen → List Seen) → ℕ → E → Option (List E) → Outcome E W
  made_of merge more x o = where_split (A.transfer at x) o (unless_many (A.transfer at x) (merged merge (sent_by_cases A.elements (map (A.transfer at) (cases_of (cases split more at) x o)))))

  pub of_element : (merge : List Seen → List Seen) (r : Outcome E W) (more : ℕ) (x : E) (o : Option (List E)) → A.elements.fits x → IfSome o (Each A.elements.fits) → AreSameSplits A.elements o (split at x)
      → SameOutcome A.elements r (made_of merge more x o) → SameOutcome A.elements r (case_transfer A split merge (suc more) at x)
  of_element merge r more x o fx fo s h =
      let start : Outcome E W = sends [] [] in
      outcome_on A.elements laws.elements r (made_of merge more x o) (case_transfer A split merge (suc more) at x) h
      (split_same A.elements laws.elements (A.transfer at x) (A.transfer at x) o (split at x)
      (merged merge (after start (cases_of (cases split more at) x o))) (merged merge (after start (cases split (suc more) at x))) (outcome_itself A.elements laws.elements (A.transfer at x)) s
      (merged_same A.elements laws.elements merge (after start (cases_of (cases split more at) x o)) (after start (cases split (suc more) at x)) (after_split start more x o fx fo tt s)))
