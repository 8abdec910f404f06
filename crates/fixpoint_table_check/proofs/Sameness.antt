-- The faults of a block do not depend on how elements are written.
use Rattle.std.proofs.Common.{◌≡◌, ◌∙◌, ℕ, ◌+◌, ◌<◌, IfOk, true, false, List, [], ◌∷◌, drop, length, get_or, map, Option, None, Some, IsTrue, if◌then◌else◌, ap, refl, sym, subst, add-one, drop-cons}
use Rattle.std.specs.Prelude.{IfSome, Result, Ok, Err, not, ◌&&◌}
use Rattle.base_trait.specs.Identity.{same_list}
use Rattle.base_trait.specs.Lists.{Each}
use Rattle.base_trait.specs.Uses.{Seen}
use Rattle.fixpoint_theory.specs.Analysis.{Analysis, AnalysisLaws}
use Rattle.fixpoint_theory.specs.Code.{is_code}
use Rattle.fixpoint_theory.specs.Outcome.{AreSameArrivals, IfPost, Outcome, SameOutcome, addresses, moves, sends, too_many, undecodable}
use Rattle.fixpoint_theory.specs.Table.{Listing, Listings, TableFits}
use Rattle.fixpoint_theory.specs.Verdicts.{ListsTargets, does_absorb, fault_of, first_open, first_open_sent, is_open, lists_targets, open_at, open_from, same_use}
use Rattle.fixpoint_theory.specs.declared.verdict.Verdict.TheVariants.{Targets, Use}
use Rattle.fixpoint_theory.proofs.Growth.{by_bool}
use Rattle.fixpoint_theory.proofs.Tables.{same_addresses}
use Rattle.fixpoint_theory.proofs.Verdicts.{lists_told, told_lists, uses_itself, uses_told}

module _ {E W S : Type 0} (A : Analysis E W S) (laws : AnalysisLaws A) (t : Listings E) (fits : TableFits A t) where
  absorb_same : (x y : E) (z : Option (Listing E)) → IfSome z (λ b. A.elements.fits b.elem) → A.elements.fits x → A.elements.fits y → A.elements.same x y
      → does_absorb A z x ≡ does_absorb A z y
  absorb_same x y None block fx fy same = refl
  absorb_same x y (Some b) block fx fy same = laws.elements.same_absorbs b.elem b.elem x y block block fx fy (laws.elements.same_itself b.elem) same

  block_fits : (at : ℕ) (z : Option (Listing E)) → t at ≡ z → IfSome z (λ b. A.elements.fits b.elem)
  block_fits at None is = tt
  block_fits at (Some b) is = (fits at b is).1

  pub open_same : (x y : E) (at : ℕ) → A.elements.fits x → A.elements.fits y → A.elements.same x y → is_open A t x at ≡ is_open A t y at
  open_same x y at fx fy same = ap (λ b. is_code A.code at && not b) (absorb_same x y (t at) (block_fits at (t at) refl) fx fy same)

  first_same : (x y : E) (targets : List ℕ) → A.elements.fits x → A.elements.fits y → A.elements.same x y → first_open A t x targets ≡ first_open A t y targets
  first_same x y [] fx fy same = refl
  first_same x y (to ∷ rest) fx fy same =
      ap (λ b. if b then Some to else first_open A t x rest) (open_same x y to fx fy same)
      ∙ ap (λ later. if is_open A t y to then Some to else later) (first_same x y rest fx fy same)

  sent_same : (xs ys : List (ℕ × E)) → Each (λ a. A.elements.fits a.1) xs → Each (λ a. A.elements.fits a.1) ys → AreSameArrivals A.elements xs ys
      → first_open_sent A t xs ≡ first_open_sent A t ys
  sent_same [] [] fx fy same = refl
  sent_same [] (y ∷ ys) fx fy same = absurd same
  sent_same (x ∷ xs) [] fx fy same = absurd same
  sent_same (x ∷ xs) (y ∷ ys) fx fy same =
      ap (λ b. if b then Some x.0 else first_open_sent A t xs) (open_same x.1 y.1 x.0 fx.0 fy.0 same.1)
      ∙ ap (λ to. if is_open A t y.1 to then Some to else first_open_sent A t xs) same.0
      ∙ ap (λ later. if is_open A t y.1 y.0 then Some y.0 else later) (sent_same xs ys fx.1 fy.1 same.2)

  -- Outcomes that are the same have the same fault.
  pub fault_same : (at : ℕ) (b : Listing E) (given told : Outcome E W) → IfPost A.elements.fits given → IfPost A.elements.fits told → SameOutcome A.elements given told
      → fault_of A t at b given ≡ fault_of A t at b told
  fault_same at b (undecodable v) (undecodable w) fx fy same = ap (λ w. fault_of A t at b (undecodable w)) same
  fault_same at b (undecodable v) (too_many w us') fx fy same = absurd same
  fault_same at b (undecodable v) (moves ts y us) fx fy same = absurd same
  fault_same at b (too_many v us) (undecodable w) fx fy same = absurd same
  fault_same at b (too_many v us) (too_many w us') fx fy same = ap (λ w. fault_of A t at b (too_many w us)) same.0
  fault_same at b (too_many v us) (moves ts y us') fx fy same = absurd same
  fault_same at b (moves ts x us) (undecodable w) fx fy same = absurd same
  fault_same at b (moves ts x us) (too_many w us') fx fy same = absurd same
  fault_same at b (undecodable v) (sends ys us) fx fy same = absurd same
  fault_same at b (too_many v us) (sends ys us') fx fy same = absurd same
  fault_same at b (moves ts x us) (sends ys us') fx fy same = absurd same
  fault_same at b (sends xs us) (undecodable w) fx fy same = absurd same
  fault_same at b (sends xs us) (too_many w us') fx fy same = absurd same
  fault_same at b (sends xs us) (moves ts y us') fx fy same = absurd same
  fault_same at b (sends xs us) (sends ys us') fx fy same =
      ap (λ tos. if not (lists_targets A b tos) then Some (Targets at) else (if not (same_list same_use b.uses us) then Some (Use at) else open_at A t at (first_open_sent A t xs))) (same_addresses A laws xs ys same.0)
      ∙ ap (λ us. if not (lists_targets A b (addresses ys)) then Some (Targets at) else (if not (same_list same_use b.uses us) then Some (Use at) else open_at A t at (first_open_sent A t xs))) same.1
      ∙ ap (λ o. if not (lists_targets A b (addresses ys)) then Some (Targets at) else (if not (same_list same_use b.uses us') then Some (Use at) else open_at A t at o)) (sent_same xs ys fx fy same.0)
  fault_same at b (moves ts None us) (moves ts' None us') fx fy same =
      ap (λ ts. fault_of A t at b (moves ts None us)) same.0 ∙ ap (λ us. fault_of A t at b (moves ts' None us)) same.2
  fault_same at b (moves ts None us) (moves ts' (Some y) us') fx fy same = absurd same.1
  fault_same at b (moves ts (Some x) us) (moves ts' None us') fx fy same = absurd same.1
  fault_same at b (moves ts (Some x) us) (moves ts' (Some y) us') fx fy same =
      ap (λ ts. fault_of A t at b (moves ts (Some x) us)) same.0
      ∙ ap (λ us. fault_of A t at b (moves ts' (Some x) us)) same.2
      ∙ ap (λ o. if not (lists_targets A b ts') then Some (Targets at) else (if not (same_list same_use b.uses us') then Some (Use at) else open_at A t at o))
      (first_same x y ts' fx fy same.1)

  -- ---- the fault of a block that lists its targets
  module _ (at : ℕ) (b : Listing E) (targets : List ℕ) (post : Option E) (uses : List Seen) (told : ListsTargets A t b targets) where
    by_uses : fault_of A t at b (moves targets post uses) ≡ (if not (same_list same_use b.uses uses) then Some (Use at) else open_from A t at post targets)
    by_uses = ap (λ c. if not c then Some (Targets at) else (if not (same_list same_use b.uses uses) then Some (Use at) else open_from A t at post targets)) (lists_told A t b targets told)

    pub use_fault : (b.uses ≡ uses → ⊥) → fault_of A t at b (moves targets post uses) ≡ Some (Use at)
    use_fault apart =
        by_uses ∙ by_bool (same_list same_use b.uses uses) (λ c. same_list same_use b.uses uses ≡ c → (if not c then Some (Use at) else open_from A t at post targets) ≡ Some (Use at))
        (λ e same. absurd (apart (uses_told b.uses uses same)))
        (λ e same. refl)
        refl

    pub open_fault : b.uses ≡ uses → fault_of A t at b (moves targets post uses) ≡ open_from A t at post targets
    open_fault same =
        let test : IsTrue (same_list same_use b.uses uses) = subst (λ us. IsTrue (same_list same_use b.uses us)) same (uses_itself b.uses) in
        by_uses ∙ ap (λ c. if not c then Some (Use at) else open_from A t at post targets) test

  -- ---- the fault of a block that lists the addresses to which cases send
  module _ (at : ℕ) (b : Listing E) (arrivals : List (ℕ × E)) (uses : List Seen) where
    pub no_list_fault : (ListsTargets A t b (addresses arrivals) → ⊥) → fault_of A t at b (sends arrivals uses) ≡ Some (Targets at)
    no_list_fault apart =
        by_bool (lists_targets A b (addresses arrivals))
        (λ c. lists_targets A b (addresses arrivals) ≡ c → (if not c then Some (Targets at) else (if not (same_list same_use b.uses uses) then Some (Use at) else open_at A t at (first_open_sent A t arrivals))) ≡ Some (Targets at))
        (λ e lists. absurd (apart (told_lists A t b (addresses arrivals) lists)))
        (λ e lists. refl)
        refl

    module _ (told : ListsTargets A t b (addresses arrivals)) where
      sent_by_uses : fault_of A t at b (sends arrivals uses) ≡ (if not (same_list same_use b.uses uses) then Some (Use at) else open_at A t at (first_open_sent A t arrivals))
      sent_by_uses = ap (λ c. if not c then Some (Targets at) else (if not (same_list same_use b.uses uses) then Some (Use at) else open_at A t at (first_open_sent A t arrivals))) (lists_told A t b (addresses arrivals) told)

      pub sent_use_fault : (b.uses ≡ uses → ⊥) → fault_of A t at b (sends arrivals uses) ≡ Some (Use at)
      sent_use_fault apart =
          sent_by_uses ∙ by_bool (same_list same_use b.uses uses) (λ c. same_list same_use b.uses uses ≡ c → (if not c then Some (Use at) else open_at A t at (first_open_sent A t arrivals)) ≡ Some (Use at))
          (λ e same. absurd (apart (uses_told b.uses uses same)))
          (λ e same. refl)
          refl

      pub sent_open_fault : b.uses ≡ uses → fault_of A t at b (sends arrivals uses) ≡ open_at A t at (first_open_sent A t arrivals)
      sent_open_fault same =
          let test : IsTrue (same_list same_use b.uses uses) = subst (λ us. IsTrue (same_list same_use b.uses us)) same (uses_itself b.uses) in
          sent_by_uses ∙ ap (λ c. if not c then Some (Use at) else open_at A t at (first_open_sent A t arrivals)) test

  -- ---- arrivals one by one, as they are seen
  module _ {X : Type 0} (view : X → ℕ × E) (xs : List X) (i : ℕ) (x : X) (within : i < length xs) (is : x ≡ get_or xs i x) where
    sent_split : first_open_sent A t (map view (drop i xs)) ≡ first_open_sent A t (view x ∷ map view (drop (i + 1) xs))
    sent_split =
        ap (λ l. first_open_sent A t (map view l)) (drop-cons xs i x within ∙ ap (λ k. get_or xs i x ∷ drop k xs) (sym (add-one i)))
        ∙ ap (λ z. first_open_sent A t (view z ∷ map view (drop (i + 1) xs))) (sym is)

    pub sent_more : is_open A t (view x).1 (view x).0 ≡ false → first_open_sent A t (map view (drop i xs)) ≡ first_open_sent A t (map view (drop (i + 1) xs))
    sent_more shut = sent_split ∙ ap (λ b. if b then Some (view x).0 else first_open_sent A t (map view (drop (i + 1) xs))) shut

    pub sent_here : is_open A t (view x).1 (view x).0 ≡ true → first_open_sent A t (map view (drop i xs)) ≡ Some (view x).0
    sent_here told = sent_split ∙ ap (λ b. if b then Some (view x).0 else first_open_sent A t (map view (drop (i + 1) xs))) told

  -- ---- targets one by one
  module _ (x : E) (xs : List ℕ) (i : ℕ) (within : i < length xs) where
    split : first_open A t x (drop i xs) ≡ first_open A t x (get_or xs i 0 ∷ drop (i + 1) xs)
    split = ap (first_open A t x) (drop-cons xs i 0 within ∙ ap (λ k. get_or xs i 0 ∷ drop k xs) (sym (add-one i)))

    pub open_more : is_open A t x (get_or xs i 0) ≡ false → first_open A t x (drop i xs) ≡ first_open A t x (drop (i + 1) xs)
    open_more shut = split ∙ ap (λ b. if b then Some (get_or xs i 0) else first_open A t x (drop (i + 1) xs)) shut

    pub open_here : is_open A t x (get_or xs i 0) ≡ true → first_open A t x (drop i xs) ≡ Some (get_or xs i 0)
    open_here is = split ∙ ap (λ b. if b then Some (get_or xs i 0) else first_open A t x (drop (i + 1) xs)) is

-- what a call gives
pub if_fault : {X F : Type 0} (result : Result X F) (x y : X) → IfOk result (λ v. v ≡ x) → x ≡ y → IfOk result (λ v. v ≡ y)
if_fault (Ok v) x y h e = h ∙ e
if_fault (Err error) x y h e = tt
