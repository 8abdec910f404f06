-- Tables of what a trace reached: they are closed, fit the image, and are one.
use Rattle.std.proofs.Common.{◌≡◌, ◌∙◌, ℕ, Bool, true, List, [], ◌∷◌, Option, None, Some, IsTrue, inl, inr, ap, cond, arith, refl, sym, subst}
use Rattle.std.specs.Prelude.{IfSome, IsSomeAnd, filter, not, ◌+◌}
use Rattle.base_trait.specs.Lists.{AreAmong, Each, IsAmong, IsAscending, IsAscendingFrom}
use Rattle.base_trait.specs.Uses.{Seen}
use Rattle.base_trait.specs.declared.uses.Stamp.{Stamp}
use Rattle.base_trait.specs.declared.uses.Stamp.TheVariants.{At}
use Rattle.base_trait.proofs.Lists.{ascending_lower, each_at, each_from}
use Rattle.fixpoint_theory.specs.Analysis.{Analysis, AnalysisLaws, IsOf}
use Rattle.fixpoint_theory.specs.Code.{inside, is_code, outside, stamps_of}
use Rattle.fixpoint_theory.specs.Laws.{CompleteTracesClose, TablesAreOne, TablesFitTheImage}
use Rattle.fixpoint_theory.specs.Outcome.{AreOfStamps, AreSameArrivals, HasTargets, IfPost, IfUses, Outcome, SameOutcome, addresses, moves, sends, too_many, undecodable}
use Rattle.fixpoint_theory.specs.WorklistState.{AllFine, IsFine, WorklistState, Reached, begin, nowhere, worklist_state}
use Rattle.fixpoint_theory.specs.Table.{AreSameBlocks, IsAbsorbed, IsBlockOf, IsBlockOfImage, IsSameBlock, IsTableOf, Listing, Listings, Reaches, TableFits, Tells}
use Rattle.fixpoint_theory.proofs.Bounded.{each_weaker, entry_of, lists_on, stamps_at}
use Rattle.fixpoint_theory.proofs.Closing.{IsAnswered, begin_fine, begin_settled, legal_above, legal_fine, legal_settled, met_above}
use Rattle.fixpoint_theory.proofs.Growth.{IsMet, arrive_met, by_bool}

-- ---- lists that keep what passes a test
among_kept : (test : ℕ → Bool) (x : ℕ) (xs : List ℕ) → IsAmong x (filter test xs) → IsAmong x xs × IsTrue (test x)
among_kept test x [] h = absurd h
among_kept test x (y ∷ xs) h =
    by_bool (test y) (λ b. test y ≡ b → IsAmong x (cond b (y ∷ filter test xs) (filter test xs)) → IsAmong x (y ∷ xs) × IsTrue (test x))
    (λ e is h. at_first is h (λ k. among_kept test x xs k))
    (λ e is h. let more = among_kept test x xs h in (inr more.0, more.1))
    refl h
  where
    at_first : test y ≡ true → IsAmong x (y ∷ filter test xs) → (IsAmong x (filter test xs) → IsAmong x xs × IsTrue (test x)) → IsAmong x (y ∷ xs) × IsTrue (test x)
    at_first is (inl same) more = (inl same, subst (λ z. IsTrue (test z)) (sym same) is)
    at_first is (inr k) more = let found = more k in (inr found.0, found.1)

kept_ascends : (test : ℕ → Bool) (low : ℕ) (xs : List ℕ) → IsAscendingFrom low xs → IsAscendingFrom low (filter test xs)
kept_ascends test low [] h = tt
kept_ascends test low (x ∷ xs) h =
    by_bool (test x) (λ b. IsAscendingFrom low (cond b (x ∷ filter test xs) (filter test xs)))
    (λ e. (h.0, kept_ascends test (x + 1) xs h.1))
    (λ e. ascending_lower (x + 1) low (filter test xs) (let first = h.0 in omega arith) (kept_ascends test (x + 1) xs h.1))

kept_pass : (test : ℕ → Bool) (xs : List ℕ) → Each (λ x. IsTrue (test x)) (filter test xs)
kept_pass test xs = each_from (λ x. IsTrue (test x)) (filter test xs) (λ x h. (among_kept test x xs h).1)

-- a list of targets ascends
pub targets_ascend : {E : Type 0} (targets : List ℕ) (post : Option E) (uses : List Seen) → HasTargets {E = E} {W = ℕ} (moves targets post uses) → IsAscending targets
targets_ascend targets None uses has = subst IsAscending (sym has) tt
targets_ascend targets (Some x) uses has = has

module _ {E W S : Type 0} (A : Analysis E W S) (laws : AnalysisLaws A) where
  -- the element of a block fits, if there is one
  abbrev BlockFits : Option (Listing E) → Type 0
  BlockFits y = IfSome y (λ b. A.elements.fits b.elem)

  block_fits : (t : Listings E) → TableFits A t → (at : ℕ) → BlockFits (t at)
  block_fits t fits at = from (t at) refl
    where
      from : (y : Option (Listing E)) → t at ≡ y → BlockFits y
      from None is = tt
      from (Some b) is = (fits at b is).1

  -- what is met at an address is absorbed by its block
  block_absorbs : (at : ℕ) (new : E) (y : Option (Listing E)) (x : Option (Reached E)) → A.elements.fits new → BlockFits y → IsFine A at x
      → IsBlockOf A at y x → IsMet A laws new x → IsSomeAnd y (λ b. IsTrue (A.elements.absorbs b.elem new))
  block_absorbs at new None None fits block fine is met = met
  block_absorbs at new None (Some r) fits block fine is met = absurd is
  block_absorbs at new (Some b) None fits block fine is met = absurd is
  block_absorbs at new (Some b) (Some r) fits block fine is met =
      laws.elements.same_absorbs b.elem r.elem new new block fine.1.0 fits fits is.0 (laws.elements.same_itself new) ∙ met

  -- the address of a block was reached
  reached_from : (at : ℕ) (b : Listing E) (y : Option (Listing E)) (x : Option (Reached E)) → y ≡ Some b → IsBlockOf A at y x
      → (r : Reached E) × (x ≡ Some r) × A.elements.same b.elem r.elem × Tells A b (A.transfer at b.elem)
  reached_from at b None x is h = cc
  reached_from at b (Some c) None is h = absurd h
  reached_from at b (Some c) (Some r) is h =
      let same : c ≡ b = cc in
      subst (λ (b : Listing E). (s : Reached E) × (Some r ≡ Some s) × A.elements.same b.elem s.elem × Tells A b (A.transfer at b.elem)) same (r, refl, h.0, h.1)

  -- what is met of an element is met of one that is the same
  same_met : (at : ℕ) (x y : E) (z : Option (Reached E)) → A.elements.fits x → A.elements.fits y → IsFine A at z → A.elements.same x y → IsMet A laws y z → IsMet A laws x z
  same_met at x y None fx fy fine same met = met
  same_met at x y (Some r) fx fy fine same met =
      laws.elements.same_absorbs r.elem r.elem x y fine.1.0 fine.1.0 fx fy (laws.elements.same_itself r.elem) same ∙ met

  module _ (t : Listings E) (p : WorklistState E) (table : IsTableOf A t p) (fits : TableFits A t) (fine : AllFine A p) where
    -- where what arrives is met, what is the same and arrives there is absorbed
    all_absorbed : (xs ys : List (ℕ × E)) → Each (λ a. A.elements.fits a.1) xs → Each (λ a. A.elements.fits a.1) ys → AreSameArrivals A.elements xs ys
        → Each (λ a. IsTrue (is_code A.code a.0) → IsMet A laws a.1 (p a.0)) ys → Each (λ a. IsTrue (is_code A.code a.0) → IsAbsorbed A t a.1 a.0) xs
    all_absorbed [] ys fx fy same met = tt
    all_absorbed (x ∷ xs) [] fx fy same met = absurd same
    all_absorbed (x ∷ xs) (y ∷ ys) fx fy same met = (
      λ code.
          let there : IsMet A laws y.1 (p x.0) = subst (λ a. IsTrue (is_code A.code a) → IsMet A laws y.1 (p a)) (sym same.0) met.0 code in
          block_absorbs x.0 x.1 (t x.0) (p x.0) fx.0 (block_fits t fits x.0) (fine x.0) (table x.0) (same_met x.0 x.1 y.1 (p x.0) fx.0 fy.0 (fine x.0) same.1 there),
      all_absorbed xs ys fx.1 fy.1 same.2 met.1,
    )

    -- where what a transfer gives is met, what the same transfer gives is absorbed
    met_absorbed : (x y : Outcome E W) → IfPost A.elements.fits x → IfPost A.elements.fits y → SameOutcome A.elements x y → IsAnswered A laws p y → Reaches A t x
    met_absorbed x (undecodable word) fx fy same answered = absurd answered
    met_absorbed x (too_many shown uses) fx fy same answered = absurd answered
    met_absorbed (undecodable word) (sends ys us) fx fy same answered = absurd same
    met_absorbed (too_many shown uses) (sends ys us) fx fy same answered = absurd same
    met_absorbed (moves ts post us') (sends ys us) fx fy same answered = absurd same
    met_absorbed (sends xs us) (moves ts post us') fx fy same answered = absurd same
    met_absorbed (sends xs us) (sends ys us') fx fy same answered = all_absorbed xs ys fx fy same.0 answered
    met_absorbed (undecodable word) (moves ts post us) fx fy same answered = absurd same
    met_absorbed (too_many shown uses) (moves ts post us) fx fy same answered = absurd same
    met_absorbed (moves ts None us) (moves ts' post' us') fx fy same answered = tt
    met_absorbed (moves ts (Some x) us) (moves ts' None us') fx fy same answered = absurd same.1
    met_absorbed (moves ts (Some x) us) (moves ts' (Some y) us') fx fy same answered =
        subst (λ ts. Each (λ to. IsTrue (is_code A.code to) → IsAbsorbed A t x to) ts) (sym same.0)
        (each_weaker (λ to. IsTrue (is_code A.code to) → IsMet A laws y (p to)) (λ to. IsTrue (is_code A.code to) → IsAbsorbed A t x to)
        (λ to met code. block_absorbs to x (t to) (p to) fx (block_fits t fits to) (fine to) (table to) (same_met to x y (p to) fx fy (fine to) same.1 (met code)))
        ts' answered)

    -- a block stands where its address is settled
    block_reaches : (at : ℕ) (b : Listing E) → t at ≡ Some b → ((r : Reached E) → p at ≡ Some r → IsAnswered A laws p (A.transfer at r.elem)) → Reaches A t (A.transfer at b.elem)
    block_reaches at b is settled =
        let found = reached_from at b (t at) (p at) is (table at) in
        let here : IsTrue (is_code A.code at) × IsOf A found.0.elem = subst (IsFine A at) found.1 (fine at) in
        let block = fits at b is in
        met_absorbed (A.transfer at b.elem) (A.transfer at found.0.elem)
        (laws.transfer_fits at b.elem block.0 block.1)
        (laws.transfer_fits at found.0.elem here.0 here.1.0)
        (laws.transfer_same at b.elem found.0.elem here.0 block.1 here.1.0 found.2)
        (settled found.0 found.1)

  pub full_traces_close : CompleteTracesClose A
  full_traces_close trace t legal complete fits table =
      let p = worklist_state A trace in
      let first = begin_fine A laws in
      let fine = legal_fine A laws (begin A) trace first in
      let settled = legal_settled A laws (begin A) trace first (begin_settled A laws) legal in
      record {
        entry = λ code.
            block_absorbs A.start A.entry (t A.start) (p A.start) laws.entry_fits (block_fits t fits A.start) (fine A.start) (table A.start)
            (met_above A laws A.start A.entry (begin A A.start) (p A.start) (entry_of A laws) (first A.start) (fine A.start)
            (legal_above A laws (begin A) trace first A.start)
            (arrive_met A laws A.entry nowhere A.start (entry_of A laws) (λ a. tt) code));
        tells = λ at b is. (reached_from at b (t at) (p at) is (table at)).3;
        reaches = λ at b is. block_reaches t p table fits fine at b is (λ r stands. settled at r stands (complete at r stands));
      }

  -- ---- the image
  uses_on : (xs ys : List Stamp) (uses : List Seen) → AreAmong xs ys → AreOfStamps xs uses → AreOfStamps ys uses
  uses_on xs ys uses h of_xs = each_from (λ u. AreAmong u.stamps ys) uses (λ u k. lists_on u.stamps xs ys (each_at (λ u. AreAmong u.stamps xs) uses u of_xs k) h)

  block_of_image : (at : ℕ) (b : Listing E) (given : Outcome E W) → IsTrue (is_code A.code at) → IsOf A b.elem → HasTargets given
      → IfUses (AreOfStamps (At at ∷ A.elements.listed b.elem)) given → Tells A b given → IsBlockOfImage A at b
  block_of_image at b (undecodable word) code of has uses tells = absurd tells
  block_of_image at b (too_many shown us) code of has uses tells = absurd tells
  block_of_image at b (moves targets post us) code of has uses tells =
      let ascends = targets_ascend targets post us has in
      record {
        code = code;
        stamps = of.1;
        next = subst (λ ns. IsAscending ns × Each (λ to. IsTrue (is_code A.code to)) ns) (sym tells.0)
            (kept_ascends (is_code A.code) 0 targets ascends, kept_pass (is_code A.code) targets);
        exits = subst IsAscending (sym tells.1) (kept_ascends (λ a. not (is_code A.code a)) 0 targets ascends);
        uses = subst (AreOfStamps (stamps_of A.code)) (sym tells.2)
            (uses_on (At at ∷ A.elements.listed b.elem) (stamps_of A.code) us (stamps_at A laws at b.elem code of) uses);
      }
  block_of_image at b (sends arrivals us) code of has uses tells =
      let targets = addresses arrivals in
      record {
        code = code;
        stamps = of.1;
        next = subst (λ ns. IsAscending ns × Each (λ to. IsTrue (is_code A.code to)) ns) (sym tells.0)
            (kept_ascends (is_code A.code) 0 targets has, kept_pass (is_code A.code) targets);
        exits = subst IsAscending (sym tells.1) (kept_ascends (λ a. not (is_code A.code a)) 0 targets has);
        uses = subst (AreOfStamps (stamps_of A.code)) (sym tells.2)
            (uses_on (At at ∷ A.elements.listed b.elem) (stamps_of A.code) us (stamps_at A laws at b.elem code of) uses);
      }

  pub tables_fit_the_image : TablesFitTheImage A
  tables_fit_the_image trace t fits table at b is =
      let p = worklist_state A trace in
      let found = reached_from at b (t at) (p at) is (table at) in
      let here : IsTrue (is_code A.code at) × IsOf A found.0.elem = subst (IsFine A at) found.1 (legal_fine A laws (begin A) trace (begin_fine A laws) at) in
      let block = fits at b is in
      let lists = lists_on (A.elements.listed b.elem) (A.elements.listed found.0.elem) (stamps_of A.code) (laws.elements.same_lists b.elem found.0.elem found.2) here.1.1 in
      block_of_image at b (A.transfer at b.elem) here.0 (block.1, lists) (laws.transfer_targets at b.elem here.0 block.1) (laws.transfer_uses at b.elem here.0 block.1) found.3

  -- ---- one table
  -- arrivals that are the same are at the same addresses
  pub same_addresses : (xs ys : List (ℕ × E)) → AreSameArrivals A.elements xs ys → addresses xs ≡ addresses ys
  same_addresses [] [] same = refl
  same_addresses [] (y ∷ ys) same = absurd same
  same_addresses (x ∷ xs) [] same = absurd same
  same_addresses (x ∷ xs) (y ∷ ys) same = ap (λ a. a ∷ addresses xs) same.0 ∙ ap (λ rest. y.0 ∷ rest) (same_addresses xs ys same.2)

  told_alike : (b c : Listing E) (x y : Outcome E W) → A.elements.same b.elem c.elem → SameOutcome A.elements x y → Tells A b x → Tells A c y → IsSameBlock A b c
  told_alike b c (undecodable word) y same alike tells tells' = absurd tells
  told_alike b c (too_many shown uses) y same alike tells tells' = absurd tells
  told_alike b c (moves ts post us) (undecodable word) same alike tells tells' = absurd tells'
  told_alike b c (moves ts post us) (too_many shown uses) same alike tells tells' = absurd tells'
  told_alike b c (moves ts post us) (sends ys us') same alike tells tells' = absurd alike
  told_alike b c (sends xs us) (undecodable word) same alike tells tells' = absurd tells'
  told_alike b c (sends xs us) (too_many shown uses) same alike tells tells' = absurd tells'
  told_alike b c (sends xs us) (moves ts post us') same alike tells tells' = absurd alike
  told_alike b c (sends xs us) (sends ys us') same alike tells tells' = let one = same_addresses xs ys alike.0 in record {
    elem = same;
    next = tells.0 ∙ ap (inside A.code) one ∙ sym tells'.0;
    exits = tells.1 ∙ ap (outside A.code) one ∙ sym tells'.1;
    uses = tells.2 ∙ alike.1 ∙ sym tells'.2;
  }
  told_alike b c (moves ts post us) (moves ts' post' us') same alike tells tells' = record {
    elem = same;
    next = tells.0 ∙ ap (inside A.code) alike.0 ∙ sym tells'.0;
    exits = tells.1 ∙ ap (outside A.code) alike.0 ∙ sym tells'.1;
    uses = tells.2 ∙ alike.2 ∙ sym tells'.2;
  }

  blocks_alike : (at : ℕ) (y z : Option (Listing E)) (x : Option (Reached E)) → IsFine A at x → BlockFits y → BlockFits z → IsBlockOf A at y x → IsBlockOf A at z x → AreSameBlocks A y z
  blocks_alike at None None x fine fy fz h k = tt
  blocks_alike at None (Some c) None fine fy fz h k = absurd k
  blocks_alike at None (Some c) (Some r) fine fy fz h k = absurd h
  blocks_alike at (Some b) None None fine fy fz h k = absurd h
  blocks_alike at (Some b) None (Some r) fine fy fz h k = absurd k
  blocks_alike at (Some b) (Some c) None fine fy fz h k = absurd h
  blocks_alike at (Some b) (Some c) (Some r) fine fy fz h k =
      let same = laws.elements.same_on b.elem r.elem c.elem h.0 (laws.elements.same_back c.elem r.elem k.0) in
      told_alike b c (A.transfer at b.elem) (A.transfer at c.elem) same (laws.transfer_same at b.elem c.elem fine.0 fy fz same) h.1 k.1

  pub tables_are_one : TablesAreOne A
  tables_are_one trace t u ft fu h k at =
      blocks_alike at (t at) (u at) (worklist_state A trace at) (legal_fine A laws (begin A) trace (begin_fine A laws) at) (block_fits t ft at) (block_fits u fu at) (h at) (k at)
