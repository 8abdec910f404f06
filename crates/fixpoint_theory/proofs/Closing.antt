-- The table of a complete legal trace is closed.
use Rattle.std.proofs.Common.{◌≡◌, ◌∙◌, ℕ, false, List, [], ◌∷◌, Option, None, Some, IsTrue, ap, refl, sym, subst}
use Rattle.std.specs.Prelude.{fold, IfSome}
use Rattle.base_trait.specs.Lists.{Each}
use Rattle.fixpoint_theory.specs.Analysis.{Analysis, AnalysisLaws, IsOf}
use Rattle.fixpoint_theory.specs.Code.{is_code}
use Rattle.fixpoint_theory.specs.Outcome.{IfPost, Moves, Outcome, moves, sends, too_many, undecodable}
use Rattle.fixpoint_theory.specs.WorklistState.{AllFine, IsFine, IsLegalFrom, WorklistState, Reached, begin, changed, done, nowhere, sent, transferred, transferred_from}
use Rattle.fixpoint_theory.proofs.Bounded.{absorbs_itself, absorbs_on, each_weaker, entry_of, transfer_of}
use Rattle.fixpoint_theory.proofs.Growth.{AllGrown, IsGrown, IsMet, all_fine, all_grown, all_met, arrive_fine, arrive_grown, by_change, grown_itself, sent_fine as each_fine, sent_grown as each_grown, sent_met as each_met}

module _ {E W S : Type 0} (A : Analysis E W S) (laws : AnalysisLaws A) where
  -- what a transfer gives is met at each target
  abbrev pub IsAnswered : WorklistState E → Outcome E W → Type 0
  IsAnswered p (undecodable word) = ⊥
  IsAnswered p (too_many shown uses) = ⊥
  IsAnswered p (moves targets post uses) = IfSome post (λ x. Each (λ to. IsTrue (is_code A.code to) → IsMet A laws x (p to)) targets)
  IsAnswered p (sends arrivals uses) = Each (λ a. IsTrue (is_code A.code a.0) → IsMet A laws a.1 (p a.0)) arrivals

  -- the transfers of all elements that are not pending are answered
  abbrev pub IsSettled : WorklistState E → Type 0
  IsSettled p = (a : ℕ) (r : Reached E) → p a ≡ Some r → r.pending ≡ false → IsAnswered p (A.transfer a r.elem)

  -- what stood at an address is absorbed
  abbrev pub IsAbove : Option (Reached E) → Option (Reached E) → Type 0
  IsAbove None y = Unit {0}
  IsAbove (Some r) None = ⊥
  IsAbove (Some r) (Some s) = IsTrue (A.elements.absorbs s.elem r.elem)

  abbrev pub AllAbove : WorklistState E → WorklistState E → Type 0
  AllAbove p q = (a : ℕ) → IsAbove (p a) (q a)

  above_itself : (a : ℕ) (x : Option (Reached E)) → IsFine A a x → IsAbove x x
  above_itself a None fine = tt
  above_itself a (Some r) fine = absorbs_itself A laws r.elem fine.1

  above_on : (a : ℕ) (x y z : Option (Reached E)) → IsFine A a x → IsFine A a y → IsFine A a z → IsAbove x y → IsAbove y z → IsAbove x z
  above_on a None y z fx fy fz g h = tt
  above_on a (Some r) None z fx fy fz g h = absurd g
  above_on a (Some r) (Some s) None fx fy fz g h = absurd h
  above_on a (Some r) (Some s) (Some t) fx fy fz g h = absorbs_on A laws t.elem s.elem r.elem fz.1 fy.1 fx.1 h g

  above_if_grown : (x y : Option (Reached E)) → IsGrown A laws x y → IsAbove x y
  above_if_grown None y g = tt
  above_if_grown (Some r) None g = g
  above_if_grown (Some r) (Some s) g = g.0

  pub met_above : (a : ℕ) (new : E) (x y : Option (Reached E)) → IsOf A new → IsFine A a x → IsFine A a y → IsAbove x y → IsMet A laws new x → IsMet A laws new y
  met_above a new None y fits fx fy g met = absurd met
  met_above a new (Some r) None fits fx fy g met = absurd g
  met_above a new (Some r) (Some s) fits fx fy g met = absorbs_on A laws s.elem r.elem new fy.1 fx.1 fits g met

  each_above : (p q : WorklistState E) (arrivals : List (ℕ × E)) → Each (λ a. IsOf A a.1) arrivals → AllFine A p → AllFine A q → AllAbove p q
      → Each (λ a. IsTrue (is_code A.code a.0) → IsMet A laws a.1 (p a.0)) arrivals → Each (λ a. IsTrue (is_code A.code a.0) → IsMet A laws a.1 (q a.0)) arrivals
  each_above p q [] fits fp fq above met = tt
  each_above p q (a ∷ rest) fits fp fq above met = (
    λ code. met_above a.0 a.1 (p a.0) (q a.0) fits.0 (fp a.0) (fq a.0) (above a.0) (met.0 code),
    each_above p q rest fits.1 fp fq above met.1,
  )

  answered_above : (p q : WorklistState E) (given : Outcome E W) → IfPost (IsOf A) given → AllFine A p → AllFine A q → AllAbove p q → IsAnswered p given → IsAnswered q given
  answered_above p q (undecodable word) fits fp fq above answered = answered
  answered_above p q (too_many shown uses) fits fp fq above answered = answered
  answered_above p q (moves targets None uses) fits fp fq above answered = tt
  answered_above p q (moves targets (Some x) uses) fits fp fq above answered =
      each_weaker (λ to. IsTrue (is_code A.code to) → IsMet A laws x (p to)) (λ to. IsTrue (is_code A.code to) → IsMet A laws x (q to))
      (λ to met code. met_above to x (p to) (q to) fits (fp to) (fq to) (above to) (met code))
      targets answered
  answered_above p q (sends arrivals uses) fits fp fq above answered = each_above p q arrivals fits fp fq above answered

  -- ---- a transfer
  done_fine : (a : ℕ) (x : Option (Reached E)) → IsFine A a x → IsFine A a (done x)
  done_fine a None fine = fine
  done_fine a (Some r) fine = fine

  done_above : (a : ℕ) (x : Option (Reached E)) → IsFine A a x → IsAbove x (done x)
  done_above a None fine = tt
  done_above a (Some r) fine = absorbs_itself A laws r.elem fine.1

  -- where an address is no longer pending
  pub one_done_fine : (at : ℕ) (p : WorklistState E) → AllFine A p → AllFine A (changed at done p)
  one_done_fine at p fine a = by_change at done p a (IsFine A a) (λ here. done_fine a (p a) (fine a)) (λ apart. fine a)

  one_done_above : (at : ℕ) (p : WorklistState E) → AllFine A p → AllAbove p (changed at done p)
  one_done_above at p fine a = by_change at done p a (IsAbove (p a)) (λ here. done_above a (p a) (fine a)) (λ apart. above_itself a (p a) (fine a))

  pub sent_fine : (given : Outcome E W) (p : WorklistState E) → IfPost (IsOf A) given → AllFine A p → AllFine A (sent A given p)
  sent_fine (undecodable word) p fits fine = fine
  sent_fine (too_many shown uses) p fits fine = fine
  sent_fine (moves targets None uses) p fits fine = fine
  sent_fine (moves targets (Some x) uses) p fits fine = all_fine A laws x targets p fits fine
  sent_fine (sends arrivals uses) p fits fine = each_fine A laws arrivals p fits fine

  sent_grown : (given : Outcome E W) (p : WorklistState E) → IfPost (IsOf A) given → AllFine A p → AllGrown A laws p (sent A given p)
  sent_grown (undecodable word) p fits fine a = grown_itself A laws a (p a) (fine a)
  sent_grown (too_many shown uses) p fits fine a = grown_itself A laws a (p a) (fine a)
  sent_grown (moves targets None uses) p fits fine a = grown_itself A laws a (p a) (fine a)
  sent_grown (moves targets (Some x) uses) p fits fine a = all_grown A laws x targets p fits fine a
  sent_grown (sends arrivals uses) p fits fine a = each_grown A laws arrivals p fits fine a

  sent_answers : (given : Outcome E W) (p : WorklistState E) → Moves given → IfPost (IsOf A) given → AllFine A p → IsAnswered (sent A given p) given
  sent_answers (undecodable word) p has fits fine = has
  sent_answers (too_many shown uses) p has fits fine = has
  sent_answers (moves targets None uses) p has fits fine = tt
  sent_answers (moves targets (Some x) uses) p has fits fine = all_met A laws x targets p fits fine
  sent_answers (sends arrivals uses) p has fits fine = each_met A laws arrivals p fits fine

  -- What stands still after arrivals stood there before.
  still : (p q : WorklistState E) (a : ℕ) (x y : Option (Reached E)) (s : Reached E) → IsGrown A laws x y → y ≡ Some s → s.pending ≡ false → x ≡ Some s
  still p q a None None s g is stands = cc
  still p q a None (Some t) s g is stands = absurd (g (let same : t ≡ s = cc in subst (λ (r : Reached E). r.pending ≡ false) (sym same) stands))
  still p q a (Some r) None s g is stands = absurd g
  still p q a (Some r) (Some t) s g is stands =
      let same : t ≡ s = cc in
      let e = g.1 (subst (λ (r : Reached E). r.pending ≡ false) (sym same) stands) in
      ap (λ r. Some r) (sym e ∙ same)

  -- what stood where an address is done
  done_from : (x : Option (Reached E)) (s : Reached E) → done x ≡ Some s → (r : Reached E) × (x ≡ Some r) × (r.elem ≡ s.elem)
  done_from None s is = cc
  done_from (Some r) s is = (r, refl, cc)

  -- A transfer with targets settles the address.
  pub transfer_fine : (p : WorklistState E) (at : ℕ) (x : Option (Reached E)) → AllFine A p → p at ≡ x → AllFine A (transferred_from A x p at)
  transfer_fine p at None fine is = fine
  transfer_fine p at (Some r) fine is =
      let here : IsTrue (is_code A.code at) × IsOf A r.elem = subst (IsFine A at) is (fine at) in
      sent_fine (A.transfer at r.elem) (changed at done p) (transfer_of A laws at r.elem here.0 here.1) (one_done_fine at p fine)

  transfer_above : (p : WorklistState E) (at : ℕ) (x : Option (Reached E)) → AllFine A p → p at ≡ x → AllAbove p (transferred_from A x p at)
  transfer_above p at None fine is a = above_itself a (p a) (fine a)
  transfer_above p at (Some r) fine is a =
      let here : IsTrue (is_code A.code at) × IsOf A r.elem = subst (IsFine A at) is (fine at) in
      let post = transfer_of A laws at r.elem here.0 here.1 in
      let mid = one_done_fine at p fine in
      above_on a (p a) (changed at done p a) (sent A (A.transfer at r.elem) (changed at done p) a)
      (fine a) (mid a) (sent_fine (A.transfer at r.elem) (changed at done p) post mid a)
      (one_done_above at p fine a)
      (above_if_grown (changed at done p a) (sent A (A.transfer at r.elem) (changed at done p) a) (sent_grown (A.transfer at r.elem) (changed at done p) post mid a))

  transfer_settles : (p : WorklistState E) (at : ℕ) (r : Reached E) → AllFine A p → IsSettled p → p at ≡ Some r → Moves (A.transfer at r.elem)
      → IsSettled (transferred_from A (Some r) p at)
  transfer_settles p at r fine settled is has a s stands calm =
      let here : IsTrue (is_code A.code at) × IsOf A r.elem = subst (IsFine A at) is (fine at) in
      let given = A.transfer at r.elem in
      let post = transfer_of A laws at r.elem here.0 here.1 in
      let mid = one_done_fine at p fine in
      let q = sent A given (changed at done p) in
      let q_fine = sent_fine given (changed at done p) post mid in
      let before = still (changed at done p) q a (changed at done p a) (q a) s (sent_grown given (changed at done p) post mid a) stands calm in
      by_change at done p a (λ x. x ≡ Some s → IsAnswered q (A.transfer a s.elem))
      (λ same e.
      let found = done_from (p a) s e in
      let one : r ≡ found.0 = let f : p a ≡ Some found.0 = found.1 in let g : p a ≡ Some r = subst (λ a. p a ≡ Some r) (sym same) is in cc in
      let elems : r.elem ≡ s.elem = ap (λ (r : Reached E). r.elem) one ∙ found.2 in
      let answered = sent_answers given (changed at done p) has post mid in
      subst (λ x. IsAnswered q (A.transfer a x)) elems (subst (λ a. IsAnswered q (A.transfer a r.elem)) (sym same) answered))
      (λ apart e.
      let old : IsTrue (is_code A.code a) × IsOf A s.elem = subst (IsFine A a) e (fine a) in
      answered_above p q (A.transfer a s.elem) (transfer_of A laws a s.elem old.0 old.1) fine q_fine
      (transfer_above p at (Some r) fine is)
      (settled a s e calm))
      before

  -- ---- traces
  pub begin_fine : AllFine A (begin A)
  begin_fine = arrive_fine A laws A.entry nowhere A.start (entry_of A laws) (λ a. tt)

  pub begin_settled : IsSettled (begin A)
  begin_settled a s stands calm =
      let before = still nowhere (begin A) a None (begin A a) s (arrive_grown A laws A.entry nowhere A.start (entry_of A laws) (λ a. tt) a) stands calm in
      cc

  pub legal_fine : (p : WorklistState E) (trace : List ℕ) → AllFine A p → AllFine A (fold (transferred A) p trace)
  legal_fine p [] fine = fine
  legal_fine p (at ∷ rest) fine = legal_fine (transferred A p at) rest (transfer_fine p at (p at) fine refl)

  transferred_settles : (p : WorklistState E) (at : ℕ) (r : Reached E) → AllFine A p → IsSettled p → p at ≡ Some r → Moves (A.transfer at r.elem) → IsSettled (transferred A p at)
  transferred_settles p at r fine settled is has =
      subst (λ x. IsSettled (transferred_from A x p at)) (sym is) (transfer_settles p at r fine settled is has)

  pub legal_settled : (p : WorklistState E) (trace : List ℕ) → AllFine A p → IsSettled p → IsLegalFrom A p trace → IsSettled (fold (transferred A) p trace)
  legal_settled p [] fine settled legal = settled
  legal_settled p (at ∷ rest) fine settled legal =
      legal_settled (transferred A p at) rest (transfer_fine p at (p at) fine refl)
      (transferred_settles p at legal.0.0 fine settled legal.0.1.stands legal.0.2) legal.1

  pub legal_above : (p : WorklistState E) (trace : List ℕ) → AllFine A p → AllAbove p (fold (transferred A) p trace)
  legal_above p [] fine a = above_itself a (p a) (fine a)
  legal_above p (at ∷ rest) fine a =
      let next = transfer_fine p at (p at) fine refl in
      above_on a (p a) (transferred A p at a) (fold (transferred A) (transferred A p at) rest a)
      (fine a) (next a) (legal_fine (transferred A p at) rest next a)
      (transfer_above p at (p at) fine refl a)
      (legal_above (transferred A p at) rest next a)
