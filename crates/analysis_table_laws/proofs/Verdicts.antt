-- Tables that are one have one verdict.
use Rattle.std.proofs.Common.{◌≡◌, ◌∙◌, ℕ, List, [], ◌∷◌, Option, Some, None, ap, refl}
use Rattle.std.specs.Prelude.{◌&&◌, ◌==◌, not, IfSome, if◌then◌else◌}
use Rattle.base_trait.specs.Identity.{same_list}
use Rattle.base_trait.specs.Lists.{Each}
use Rattle.fixpoint_theory.specs.Analysis.{Analysis, AnalysisLaws}
use Rattle.fixpoint_theory.specs.Code.{inside, is_code, outside}
use Rattle.fixpoint_theory.specs.Outcome.{AreSameArrivals, IfPost, Outcome, SameOutcome, SamePost, addresses, moves, sends, too_many, undecodable}
use Rattle.fixpoint_theory.specs.Table.{AreSameBlocks, AreSameTables, IsSameBlock, Listing, Listings, TableFits}
use Rattle.fixpoint_theory.specs.Verdicts.{accepted_or, does_absorb, fault_at, fault_of, first_fault, first_open, first_open_sent, is_open, lists_targets, open_at, open_from, or_else, same_use, verdict_of}
use Rattle.fixpoint_theory.specs.declared.verdict.Verdict.TheVariants.{Entry, Targets, TooManyTargets, Undecodable, Use}
use Rattle.fixpoint_theory.proofs.Tables.{same_addresses}
use Rattle.analysis_table_laws.specs.Laws.{SameTablesSameVerdict}

module _ {E W S : Type 0} (A : Analysis E W S) (laws : AnalysisLaws A) (t u : Listings E) (fits_t : TableFits A t) (fits_u : TableFits A u) (same : AreSameTables A t u) where
  -- ---- what is open
  absorb_from : (x y : E) → A.elements.fits x → A.elements.fits y → A.elements.same x y → (at : ℕ) (b c : Option (Listing E)) → t at ≡ b → u at ≡ c → AreSameBlocks A b c
      → does_absorb A b x ≡ does_absorb A c y
  absorb_from x y fx fy sxy at None None ist isu blocks = refl
  absorb_from x y fx fy sxy at (Some b) (Some c) ist isu blocks =
      laws.elements.same_absorbs b.elem c.elem x y (fits_t at b ist).1 (fits_u at c isu).1 fx fy blocks.elem sxy
  absorb_from x y fx fy sxy at None (Some c) ist isu blocks = absurd blocks
  absorb_from x y fx fy sxy at (Some b) None ist isu blocks = absurd blocks

  open_same : (x y : E) → A.elements.fits x → A.elements.fits y → A.elements.same x y → (at : ℕ) → is_open A t x at ≡ is_open A u y at
  open_same x y fx fy sxy at = ap (λ b. is_code A.code at && not b) (absorb_from x y fx fy sxy at (t at) (u at) refl refl (same at))

  first_open_same : (x y : E) → A.elements.fits x → A.elements.fits y → A.elements.same x y → (targets : List ℕ) → first_open A t x targets ≡ first_open A u y targets
  first_open_same x y fx fy sxy [] = refl
  first_open_same x y fx fy sxy (to ∷ rest) =
      ap (λ b. if b then Some to else first_open A t x rest) (open_same x y fx fy sxy to)
      ∙ ap (λ o. if is_open A u y to then Some to else o) (first_open_same x y fx fy sxy rest)

  open_from_same : (at : ℕ) (x y : Option E) → IfSome x A.elements.fits → IfSome y A.elements.fits → SamePost A.elements x y → (targets : List ℕ)
      → open_from A t at x targets ≡ open_from A u at y targets
  open_from_same at None None fx fy sxy targets = refl
  open_from_same at (Some x) (Some y) fx fy sxy targets = ap (open_at A t at) (first_open_same x y fx fy sxy targets)
  open_from_same at None (Some y) fx fy sxy targets = absurd sxy
  open_from_same at (Some x) None fx fy sxy targets = absurd sxy

  first_sent_same : (xs ys : List (ℕ × E)) → Each (λ a. A.elements.fits a.1) xs → Each (λ a. A.elements.fits a.1) ys → AreSameArrivals A.elements xs ys
      → first_open_sent A t xs ≡ first_open_sent A u ys
  first_sent_same [] [] fx fy sxy = refl
  first_sent_same [] (y ∷ ys) fx fy sxy = absurd sxy
  first_sent_same (x ∷ xs) [] fx fy sxy = absurd sxy
  first_sent_same (x ∷ xs) (y ∷ ys) fx fy sxy =
      ap (λ b. if b then Some x.0 else first_open_sent A t xs) (open_same x.1 y.1 fx.0 fy.0 sxy.1 x.0)
      ∙ ap (λ to. if is_open A u y.1 to then Some to else first_open_sent A t xs) sxy.0
      ∙ ap (λ o. if is_open A u y.1 y.0 then Some y.0 else o) (first_sent_same xs ys fx.1 fy.1 sxy.2)

  -- ---- the fault of a block
  lists_same : (b c : Listing E) → IsSameBlock A b c → (targets : List ℕ) → lists_targets A b targets ≡ lists_targets A c targets
  lists_same b c blocks targets =
      ap (λ ns. same_list ◌==◌ ns (inside A.code targets) && same_list ◌==◌ b.exits (outside A.code targets)) blocks.next
      ∙ ap (λ es. same_list ◌==◌ c.next (inside A.code targets) && same_list ◌==◌ es (outside A.code targets)) blocks.exits

  fault_same : (at : ℕ) (b c : Listing E) → IsSameBlock A b c → (given other : Outcome E W) → IfPost A.elements.fits given → IfPost A.elements.fits other → SameOutcome A.elements given other
      → fault_of A t at b given ≡ fault_of A u at c other
  fault_same at b c blocks (undecodable v) (undecodable w) fits fits_other outcomes = ap (λ w. Some (Undecodable at w)) outcomes
  fault_same at b c blocks (too_many x us) (too_many y us') fits fits_other outcomes = ap (λ w. Some (TooManyTargets at w)) outcomes.0
  fault_same at b c blocks (moves ts x us) (moves ts' y us') fits fits_other outcomes =
      ap (λ l. if not l then Some (Targets at) else (if not (same_list same_use b.uses us) then Some (Use at) else open_from A t at x ts)) (lists_same b c blocks ts)
      ∙ ap (λ vs. if not (lists_targets A c ts) then Some (Targets at) else (if not (same_list same_use vs us) then Some (Use at) else open_from A t at x ts)) blocks.uses
      ∙ ap (λ o. if not (lists_targets A c ts) then Some (Targets at) else (if not (same_list same_use c.uses us) then Some (Use at) else o)) (open_from_same at x y fits fits_other outcomes.1 ts)
      ∙ ap (λ ts. fault_of A u at c (moves ts y us)) outcomes.0
      ∙ ap (λ us. fault_of A u at c (moves ts' y us)) outcomes.2
  fault_same at b c blocks (sends xs us) (sends ys us') fits fits_other outcomes =
      ap (λ l. if not l then Some (Targets at) else (if not (same_list same_use b.uses us) then Some (Use at) else open_at A t at (first_open_sent A t xs))) (lists_same b c blocks (addresses xs))
      ∙ ap (λ vs. if not (lists_targets A c (addresses xs)) then Some (Targets at) else (if not (same_list same_use vs us) then Some (Use at) else open_at A t at (first_open_sent A t xs))) blocks.uses
      ∙ ap (λ o. if not (lists_targets A c (addresses xs)) then Some (Targets at) else (if not (same_list same_use c.uses us) then Some (Use at) else open_at A t at o)) (first_sent_same xs ys fits fits_other outcomes.0)
      ∙ ap (λ ts. if not (lists_targets A c ts) then Some (Targets at) else (if not (same_list same_use c.uses us) then Some (Use at) else open_at A u at (first_open_sent A u ys))) (same_addresses A laws xs ys outcomes.0)
      ∙ ap (λ us. fault_of A u at c (sends ys us)) outcomes.1
  fault_same at b c blocks (undecodable v) (sends ys us') fits fits_other outcomes = absurd outcomes
  fault_same at b c blocks (too_many x us) (sends ys us') fits fits_other outcomes = absurd outcomes
  fault_same at b c blocks (moves ts x us) (sends ys us') fits fits_other outcomes = absurd outcomes
  fault_same at b c blocks (sends xs us) (undecodable w) fits fits_other outcomes = absurd outcomes
  fault_same at b c blocks (sends xs us) (too_many y us') fits fits_other outcomes = absurd outcomes
  fault_same at b c blocks (sends xs us) (moves ts y us') fits fits_other outcomes = absurd outcomes
  fault_same at b c blocks (undecodable v) (too_many y us') fits fits_other outcomes = absurd outcomes
  fault_same at b c blocks (undecodable v) (moves ts' y us') fits fits_other outcomes = absurd outcomes
  fault_same at b c blocks (too_many x us) (undecodable w) fits fits_other outcomes = absurd outcomes
  fault_same at b c blocks (too_many x us) (moves ts' y us') fits fits_other outcomes = absurd outcomes
  fault_same at b c blocks (moves ts x us) (undecodable w) fits fits_other outcomes = absurd outcomes
  fault_same at b c blocks (moves ts x us) (too_many y us') fits fits_other outcomes = absurd outcomes

  fault_at_same : (at : ℕ) (b c : Option (Listing E)) → t at ≡ b → u at ≡ c → AreSameBlocks A b c → fault_at A t at b ≡ fault_at A u at c
  fault_at_same at None None ist isu blocks = refl
  fault_at_same at (Some b) (Some c) ist isu blocks =
      let fit_b = fits_t at b ist in
      let fit_c = fits_u at c isu in
      fault_same at b c blocks (A.transfer at b.elem) (A.transfer at c.elem) (laws.transfer_fits at b.elem fit_b.0 fit_b.1) (laws.transfer_fits at c.elem fit_c.0 fit_c.1)
      (laws.transfer_same at b.elem c.elem fit_b.0 fit_b.1 fit_c.1 blocks.elem)
  fault_at_same at None (Some c) ist isu blocks = absurd blocks
  fault_at_same at (Some b) None ist isu blocks = absurd blocks

  first_fault_same : (code : List ℕ) → first_fault A t code ≡ first_fault A u code
  first_fault_same [] = refl
  first_fault_same (at ∷ rest) =
      ap (λ o. or_else A t o (first_fault A t rest)) (fault_at_same at (t at) (u at) refl refl (same at))
      ∙ ap (or_else A u (fault_at A u at (u at))) (first_fault_same rest)

  pub verdict_same : verdict_of A t ≡ verdict_of A u
  verdict_same =
      ap (λ b. if b then Entry else accepted_or A t (first_fault A t A.code)) (open_same A.entry A.entry laws.entry_fits laws.entry_fits (laws.elements.same_itself A.entry) A.start)
      ∙ ap (λ o. if is_open A u A.entry A.start then Entry else accepted_or A u o) (first_fault_same A.code)

pub same_tables_same_verdict : {E W S : Type 0} (A : Analysis E W S) → AnalysisLaws A → SameTablesSameVerdict A
same_tables_same_verdict A laws t u fits_t fits_u same = verdict_same A laws t u fits_t fits_u same
