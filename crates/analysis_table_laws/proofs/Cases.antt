-- What the transfers of cases give together: targets of 32 bits, uses of cells of states in their order, and elements that have their property.
use Rattle.std.proofs.Common.{ℕ, zero, suc, ◌<◌, ◌^◌, List, [], ◌∷◌, Option, Some, None, map}
use Rattle.std.specs.Prelude.{◌==◌, nat_lt, fold, IfSome, if◌then◌else◌}
use Rattle.base_trait.specs.Lists.{Each}
use Rattle.base_trait.specs.Uses.{Seen}
use Rattle.base_trait.proofs.Tests.{at_choice}
use Rattle.fixpoint_theory.specs.Analysis.{Analysis}
use Rattle.fixpoint_theory.specs.Elements.{Elements}
use Rattle.fixpoint_theory.specs.Outcome.{IfPost, IfUses, Outcome, addresses, arrivals_behind, at_each, moves, sends, too_many, undecodable}
use Rattle.fixpoint_cases.specs.ByCases.{case_transfer}
use Rattle.fixpoint_cases.specs.Cases.{Split, cases, cases_of, cases_of_all}
use Rattle.fixpoint_cases.specs.Pieces.{Piece, pieces_at, split_by, stretches}
use Rattle.fixpoint_cases.specs.Sent.{and_case, and_sent, merged, put, put_all, sent_by_cases}
use Rattle.fixpoint_cases.proofs.Lists.{each_both, each_there}
use Rattle.fixpoint_cases.proofs.Sending.{all_cases_keep, all_uses, both_keep, merged_keeps}
use Rattle.domain_laws.specs.States.{state_type}
use Rattle.analysis_transfer_laws.specs.Problem.{Problem}
use Rattle.analysis_transfer_laws.specs.Uses.{AreInOrder}
use Rattle.analysis_table_laws.specs.Domains.{PiecesKeep}
use Rattle.analysis_table_laws.specs.InvariantLaws.{IfShown}
use Rattle.analysis_table_laws.specs.Tables.{IsUseOf}
use Rattle.analysis_table_laws.proofs.Transfers.{IfTargets, IsOutcome}

-- ---- cases keep what pieces do
module _ {E : Type 0} (P : E → Type 0) (split : Split E) (keeps : (a : ℕ) (x : E) → P x → IfSome (split a x) (Each P)) where
  all_keep : (cases : E → List E) → ((x : E) → P x → Each P (cases x)) → (xs : List E) → Each P xs → Each P (cases_of_all cases xs)
  all_keep cases f [] h = tt
  all_keep cases f (x ∷ xs) h = each_both P (cases x) (cases_of_all cases xs) (f x h.0) (all_keep cases f xs h.1)

  one_keeps : (cases : E → List E) → ((x : E) → P x → Each P (cases x)) → (x : E) → P x → (o : Option (List E)) → IfSome o (Each P) → Each P (cases_of cases x o)
  one_keeps cases f x h None each = (h, tt)
  one_keeps cases f x h (Some pieces) each = all_keep cases f pieces each

  pub cases_keep : (depth a : ℕ) (x : E) → P x → Each P (cases split depth a x)
  cases_keep zero a x h = (h, tt)
  cases_keep (suc depth) a x h = one_keeps (cases split depth a) (λ y k. cases_keep depth a y k) x h (split a x) (keeps a x h)

module _ {Cell E : Type 0} (piece : Piece Cell E) (K : E → Type 0) (keeps : PiecesKeep piece K) where
  pieces_keep : (cell : Cell) (rs : List (ℕ × ℕ)) (x : E) → K x → Each K (pieces_at piece cell rs x)
  pieces_keep cell [] x h = tt
  pieces_keep cell (r ∷ rs) x h = each_there K (piece cell r.0 r.1 x) (pieces_at piece cell rs x) (keeps cell r.0 r.1 x h) (pieces_keep cell rs x h)

  chosen_keep : (a : ℕ) (x : E) → K x → (o : Option (Cell × List ℕ)) → IfSome (split_by piece (λ b y. o) a x) (Each K)
  chosen_keep a x h None = tt
  chosen_keep a x h (Some c) = pieces_keep c.0 (stretches 0 c.1) x h

  pub choices_keep : (choice : ℕ → E → Option (Cell × List ℕ)) (a : ℕ) (x : E) → K x → IfSome (split_by piece choice a x) (Each K)
  choices_keep choice a x h = chosen_keep a x h (choice a x)

-- ---- addresses
module _ {E S : Type 0} (D : Elements E S) (P : ℕ → Type 0) where
  put_at : (x : ℕ × E) (ys : List (ℕ × E)) → P x.0 → Each P (addresses ys) → Each P (addresses (put D x ys))
  put_at x [] h k = (h, tt)
  put_at x (y ∷ ys) h k =
      let later = put_at x ys h k.1 in
      at_choice (λ l. Each P (addresses l)) (x.0 == y.0) ((y.0, D.join y.1 x.1) ∷ ys) (if nat_lt x.0 y.0 then x ∷ y ∷ ys else y ∷ put D x ys)
      (λ e. k) (λ e. at_choice (λ l. Each P (addresses l)) (nat_lt x.0 y.0) (x ∷ y ∷ ys) (y ∷ put D x ys) (λ d. (h, k)) (λ d. (k.0, later)))

  put_all_at : (more ys : List (ℕ × E)) → Each P (addresses more) → Each P (addresses ys) → Each P (addresses (put_all D more ys))
  put_all_at [] ys h k = k
  put_all_at (x ∷ more) ys h k = put_all_at more (put D x ys) h.1 (put_at x ys h.0 k)

module _ {E : Type 0} (P : ℕ → Type 0) where
  each_at : (x : E) (targets : List ℕ) → Each P targets → Each P (addresses (at_each x targets))
  each_at x [] h = tt
  each_at x (to ∷ rest) h = (h.0, each_at x rest h.1)

  behind_at : (post : Option E) (targets : List ℕ) → Each P targets → Each P (addresses (arrivals_behind post targets))
  behind_at None targets h = tt
  behind_at (Some x) targets h = each_at x targets h

-- ---- outcomes
module _ {E W S : Type 0} (D : Elements E S) where
  -- what holds of so far and of a case holds of both, so of all
  pub all_cases : (Q : Outcome E W → Type 0) → ((c o : Outcome E W) → Q c → Q o → Q (and_case D c o)) → (os : List (Outcome E W)) (c : Outcome E W) → Q c → Each Q os → Q (fold (and_case D) c os)
  all_cases Q f [] c h each = h
  all_cases Q f (o ∷ os) c h each = all_cases Q f os (and_case D c o) (f c o h each.0) each.1

  -- ---- targets
  module _ (P : ℕ → Type 0) where
    sent_targets : (ys : List (ℕ × E)) (us : List Seen) (o : Outcome E W) → Each P (addresses ys) → IfTargets (Each P) o → IfTargets (Each P) (and_sent D ys us o)
    sent_targets ys us (undecodable w) h k = tt
    sent_targets ys us (too_many shown more) h k = tt
    sent_targets ys us (moves targets post more) h k = put_all_at D P (arrivals_behind post targets) ys (behind_at P post targets k) h
    sent_targets ys us (sends others more) h k = put_all_at D P others ys k h

    pub case_targets : (c o : Outcome E W) → IfTargets (Each P) c → IfTargets (Each P) o → IfTargets (Each P) (and_case D c o)
    case_targets (undecodable w) o h k = tt
    case_targets (too_many shown us) o h k = tt
    case_targets (moves targets post us) o h k = sent_targets (arrivals_behind post targets) us o (behind_at P post targets h) k
    case_targets (sends ys us) o h k = sent_targets ys us o h k

  -- ---- the word that is shown
  module _ (P : W → Type 0) where
    sent_shown : (ys : List (ℕ × E)) (us : List Seen) (o : Outcome E W) → IfShown P o → IfShown P (and_sent D ys us o)
    sent_shown ys us (undecodable w) h = tt
    sent_shown ys us (too_many shown more) h = h
    sent_shown ys us (moves targets post more) h = tt
    sent_shown ys us (sends others more) h = tt

    pub case_shown : (c o : Outcome E W) → IfShown P c → IfShown P o → IfShown P (and_case D c o)
    case_shown (undecodable w) o h k = tt
    case_shown (too_many shown us) o h k = h
    case_shown (moves targets post us) o h k = sent_shown (arrivals_behind post targets) us o k
    case_shown (sends ys us) o h k = sent_shown ys us o k

-- ---- where uses are merged
module _ {E W : Type 0} (merge : List Seen → List Seen) where
  pub merged_targets : (P : List ℕ → Type 0) (o : Outcome E W) → IfTargets P o → IfTargets P (merged merge o)
  merged_targets P (undecodable w) h = tt
  merged_targets P (too_many shown us) h = tt
  merged_targets P (moves targets post us) h = h
  merged_targets P (sends ys us) h = h

  pub merged_shown : (P : W → Type 0) (o : Outcome E W) → IfShown P o → IfShown P (merged merge o)
  merged_shown P (undecodable w) h = tt
  merged_shown P (too_many shown us) h = h
  merged_shown P (moves targets post us) h = tt
  merged_shown P (sends ys us) h = tt

each_image : {X Y : Type 0} (P : X → Type 0) (Q : Y → Type 0) (f : X → Y) → ((x : X) → P x → Q (f x)) → (xs : List X) → Each P xs → Each Q (map f xs)
each_image P Q f h [] each = tt
each_image P Q f h (x ∷ xs) each = (h x each.0, each_image P Q f h xs each.1)

used_of : {E W : Type 0} (p : Problem) (o : Outcome E W) → IfUses (λ uses. Each (IsUseOf p.spec) uses × AreInOrder (state_type p.spec).fields uses) o → IfUses (Each (IsUseOf p.spec)) o
used_of p (undecodable w) h = tt
used_of p (too_many shown us) h = h.0
used_of p (moves targets post us) h = h.0
used_of p (sends ys us) h = h.0

-- Of an analysis whose transfers give what tables may list, for elements that fit and have a property which joins and pieces keep.
module _ {E W S : Type 0} (A : Analysis E W S) (split : Split E) (merge : List Seen → List Seen) (p : Problem) (K : E → Type 0) (depth : ℕ)
    (joined : (x y : E) → K x → K y → K (A.elements.join x y))
    (used : (log : List Seen) → Each (IsUseOf p.spec) log → Each (IsUseOf p.spec) (merge log) × AreInOrder (state_type p.spec).fields (merge log))
    (keeps : (a : ℕ) (x : E) → A.elements.fits x × K x → IfSome (split a x) (Each (λ y. A.elements.fits y × K y)))
    (a : ℕ) (outcome : (x : E) → A.elements.fits x → K x → IsOutcome p K (A.transfer a x)) where
  abbrev Fine : E → Type 0
  Fine x = A.elements.fits x × K x

  abbrev made : ℕ → E → List (Outcome E W)
  made more x = map (A.transfer a) (cases split (suc more) a x)

  each_made : (Q : Outcome E W → Type 0) → ((x : E) → Fine x → Q (A.transfer a x)) → (more : ℕ) (x : E) → Fine x → Each Q (made more x)
  each_made Q f more x fine = each_image Fine Q (A.transfer a) f (cases split (suc more) a x) (cases_keep Fine split keeps (suc more) a x fine)

  abbrev all : ℕ → E → Outcome E W
  all more x = sent_by_cases A.elements (made more x)

  merged_into : (o : Outcome E W) → IfUses (Each (IsUseOf p.spec)) o → IfUses (λ uses. Each (IsUseOf p.spec) uses × AreInOrder (state_type p.spec).fields uses) (merged merge o)
  merged_into (undecodable w) h = tt
  merged_into (too_many shown us) h = used us h
  merged_into (moves targets post us) h = used us h
  merged_into (sends ys us) h = used us h

  by_all : (more : ℕ) (x : E) → Fine x → IsOutcome p K (merged merge (all more x))
  by_all more x fine = record {
    targets = merged_targets merge (Each (λ to. to < 2 ^ 32)) (all more x)
        (all_cases A.elements (IfTargets (Each (λ to. to < 2 ^ 32))) (case_targets A.elements (λ to. to < 2 ^ 32)) (made more x) (sends [] []) tt
        (each_made (IfTargets (Each (λ to. to < 2 ^ 32))) (λ y f. (outcome y f.0 f.1).targets) more x fine));
    uses = merged_into (all more x)
        (all_uses A.elements (Each (IsUseOf p.spec)) (λ us vs h k. each_both (IsUseOf p.spec) us vs h k) (made more x) (sends [] []) tt
        (each_made (IfUses (Each (IsUseOf p.spec))) (λ y f. used_of p (A.transfer a y) (outcome y f.0 f.1).uses) more x fine));
    post = merged_keeps A.elements K joined merge (all more x)
        (all_cases_keep A.elements K joined (made more x) (sends [] []) tt (each_made (IfPost K) (λ y f. (outcome y f.0 f.1).post) more x fine));
  }

  outcome_at : (n : ℕ) (x : E) → Fine x → IsOutcome p K (case_transfer A split merge n a x)
  outcome_at zero x fine = outcome x fine.0 fine.1
  outcome_at (suc more) x fine = both_keep A.elements (IsOutcome p K) (A.transfer a x) (split a x) (merged merge (all more x)) (outcome x fine.0 fine.1) (by_all more x fine)

  pub outcome_by_cases : (x : E) → A.elements.fits x → K x → IsOutcome p K (case_transfer A split merge depth a x)
  outcome_by_cases x fits kept = outcome_at depth x (fits, kept)

-- Of an analysis whose transfers show such words, for elements that fit.
module _ {E W S : Type 0} (A : Analysis E W S) (split : Split E) (merge : List Seen → List Seen) (Fits : W → Type 0) (depth : ℕ) (keeps : (a : ℕ) (x : E) → A.elements.fits x → IfSome (split a x) (Each A.elements.fits))
    (a : ℕ) (shown : (x : E) → A.elements.fits x → IfShown Fits (A.transfer a x)) where
  shown_at : (n : ℕ) (x : E) → A.elements.fits x → IfShown Fits (case_transfer A split merge n a x)
  shown_at zero x fits = shown x fits
  shown_at (suc more) x fits =
      let leaves = cases split (suc more) a x in
      let outcomes = map (A.transfer a) leaves in
      both_keep A.elements (IfShown Fits) (A.transfer a x) (split a x) (merged merge (sent_by_cases A.elements outcomes)) (shown x fits)
      (merged_shown merge Fits (sent_by_cases A.elements outcomes)
      (all_cases A.elements (IfShown Fits) (case_shown A.elements Fits) outcomes (sends [] []) tt
      (each_image A.elements.fits (IfShown Fits) (A.transfer a) shown leaves (cases_keep A.elements.fits split keeps (suc more) a x fits))))

  pub shown_by_cases : (x : E) → A.elements.fits x → IfShown Fits (case_transfer A split merge depth a x)
  shown_by_cases x fits = shown_at depth x fits
