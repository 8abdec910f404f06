-- Transfers and arrivals keep likeness.
use Rattle.std.proofs.Common.{◌≡◌, ◌∙◌, ℕ, ◌+◌, min, true, false, List, [], ◌∷◌, Option, None, Some, nat_lt, if◌then◌else◌, arith, refl, sym, subst}
use Rattle.std.specs.Prelude.{fold}
use Rattle.std.proofs.lemmas.Bool.Decides.{nat_tests}
use Rattle.base_trait.specs.Lists.{Each}
use Rattle.fixpoint_theory.specs.Analysis.{Analysis, AnalysisLaws}
use Rattle.fixpoint_theory.specs.Code.{is_code}
use Rattle.fixpoint_theory.specs.Outcome.{AreSameArrivals, IfPost, Outcome, SameOutcome, moves, sends, too_many, undecodable}
use Rattle.fixpoint_theory.specs.WorklistState.{WorklistState, Reached, arrive, arrive_as_sent, arrival, arrived, changed, done, grown, sent, transferred, transferred_from}
use Rattle.fixpoint_theory.proofs.Growth.{by_bool, by_same}
use Rattle.fixpoint_worklist.proofs.Fitting.{arrive_fit, one_done_fit}
use Rattle.fixpoint_worklist.specs.Fitting.{AllFit, IsFit}
use Rattle.fixpoint_worklist.specs.Likeness.{AllLike, IsLike}

module _ {E W S : Type 0} (A : Analysis E W S) (laws : AnalysisLaws A) where
  pub like_itself : (x : Option (Reached E)) → IsLike A x x
  like_itself None = tt
  like_itself (Some r) = record { elem = laws.elements.same_itself r.elem; changes = refl; pending = refl }

  pub like_on : (x y z : Option (Reached E)) → IsLike A x y → IsLike A y z → IsLike A x z
  like_on None None None h k = tt
  like_on None None (Some t) h k = k
  like_on None (Some s) z h k = absurd h
  like_on (Some r) None z h k = absurd h
  like_on (Some r) (Some s) None h k = k
  like_on (Some r) (Some s) (Some t) h k = record {
    elem = laws.elements.same_on r.elem s.elem t.elem h.elem k.elem;
    changes = h.changes ∙ k.changes;
    pending = h.pending ∙ k.pending;
  }

  pub like_back : (x y : Option (Reached E)) → IsLike A x y → IsLike A y x
  like_back None None h = tt
  like_back None (Some s) h = h
  like_back (Some r) None h = h
  like_back (Some r) (Some s) h = record { elem = laws.elements.same_back r.elem s.elem h.elem; changes = sym h.changes; pending = sym h.pending }

  -- a test of changes up to three
  few_told : (m n : ℕ) → min m A.joins ≡ min n A.joins → nat_lt m A.joins ≡ nat_lt n A.joins
  few_told m n h = grind (arith, nat_tests)

  more_told : (m n : ℕ) → min m A.joins ≡ min n A.joins → min (m + 1) A.joins ≡ min (n + 1) A.joins
  more_told m n h = omega arith

  pub grown_same : (m n : ℕ) (x x' y y' : E) → A.elements.fits x → A.elements.fits x' → A.elements.fits y → A.elements.fits y' → min m A.joins ≡ min n A.joins → A.elements.same x x' → A.elements.same y y'
      → A.elements.same (grown A m x y) (grown A n x' y')
  grown_same m n x x' y y' fx fx' fy fy' few sx sy =
      let told = few_told m n few in
      subst (λ b. A.elements.same (grown A m x y) (if b then A.elements.join x' y' else A.elements.widen x' y')) told
      (elim (nat_lt m A.joins) as (λ b. A.elements.same (if b then A.elements.join x y else A.elements.widen x y) (if b then A.elements.join x' y' else A.elements.widen x' y'))
      [ true ↦ laws.elements.same_join x x' y y' fx fx' fy fy' sx sy | false ↦ laws.elements.same_widen x x' y y' fx fx' fy fy' sx sy ])

  pub arrived_like : (a : ℕ) (x y : E) (u v : Option (Reached E)) → A.elements.fits x → A.elements.fits y → IsFit A a u → IsFit A a v → A.elements.same x y → IsLike A u v
      → IsLike A (arrived A x u) (arrived A y v)
  arrived_like a x y None None fx fy fu fv same like = record { elem = same; changes = refl; pending = refl }
  arrived_like a x y None (Some s) fx fy fu fv same like = absurd like
  arrived_like a x y (Some r) None fx fy fu fv same like = absurd like
  arrived_like a x y (Some r) (Some s) fx fy fu fv same like =
      subst (λ b. IsLike A (arrived A x (Some r)) (Some (arrival A b y s))) (laws.elements.same_absorbs r.elem s.elem x y fu.1 fv.1 fx fy like.elem same)
      (by_bool (A.elements.absorbs r.elem x) (λ b. IsLike A (Some (arrival A b x r)) (Some (arrival A b y s)))
      (λ e. like)
      (λ e. record {
        elem = grown_same r.changes s.changes r.elem s.elem x y fu.1 fv.1 fx fy like.changes like.elem same;
        changes = more_told r.changes s.changes like.changes;
        pending = refl;
      }))

  changed_like : (at a : ℕ) (f g : Option (Reached E) → Option (Reached E)) (p q : WorklistState E) → IsLike A (f (p a)) (g (q a)) → IsLike A (p a) (q a)
      → IsLike A (changed at f p a) (changed at g q a)
  changed_like at a f g p q here there =
      by_same a at (λ b. IsLike A (if b then f (p a) else p a) (if b then g (q a) else q a)) (λ e. here) (λ e. there)

  pub arrive_like : (x y : E) (p q : WorklistState E) (at : ℕ) → A.elements.fits x → A.elements.fits y → AllFit A p → AllFit A q → A.elements.same x y → AllLike A p q
      → AllLike A (arrive A x p at) (arrive A y q at)
  arrive_like x y p q at fx fy fp fq same like a =
      by_bool (is_code A.code at) (λ b. IsLike A ((if b then changed at (arrived A x) p else p) a) ((if b then changed at (arrived A y) q else q) a))
      (λ e. changed_like at a (arrived A x) (arrived A y) p q (arrived_like a x y (p a) (q a) fx fy (fp a) (fq a) same (like a)) (like a))
      (λ e. like a)

  pub all_like : (x y : E) (targets : List ℕ) (p q : WorklistState E) → A.elements.fits x → A.elements.fits y → AllFit A p → AllFit A q → A.elements.same x y → AllLike A p q
      → AllLike A (fold (arrive A x) p targets) (fold (arrive A y) q targets)
  all_like x y [] p q fx fy fp fq same like = like
  all_like x y (to ∷ rest) p q fx fy fp fq same like =
      all_like x y rest (arrive A x p to) (arrive A y q to) fx fy (arrive_fit A laws x p to fx fp) (arrive_fit A laws y q to fy fq) same (arrive_like x y p q to fx fy fp fq same like)

  pub each_like : (xs ys : List (ℕ × E)) (p q : WorklistState E) → Each (λ a. A.elements.fits a.1) xs → Each (λ a. A.elements.fits a.1) ys → AllFit A p → AllFit A q → AreSameArrivals A.elements xs ys
      → AllLike A p q → AllLike A (arrive_as_sent A xs p) (arrive_as_sent A ys q)
  each_like [] [] p q fx fy fp fq same like = like
  each_like [] (y ∷ ys) p q fx fy fp fq same like = absurd same
  each_like (x ∷ xs) [] p q fx fy fp fq same like = absurd same
  each_like (x ∷ xs) (y ∷ ys) p q fx fy fp fq same like =
      let here : AllLike A (arrive A x.1 p x.0) (arrive A y.1 q y.0) =
      subst (λ to. AllLike A (arrive A x.1 p x.0) (arrive A y.1 q to)) same.0 (arrive_like x.1 y.1 p q x.0 fx.0 fy.0 fp fq same.1 like) in
      each_like xs ys (arrive A x.1 p x.0) (arrive A y.1 q y.0) fx.1 fy.1 (arrive_fit A laws x.1 p x.0 fx.0 fp) (arrive_fit A laws y.1 q y.0 fy.0 fq) same.2 here

  pub sent_like : (given told : Outcome E W) (p q : WorklistState E) → IfPost A.elements.fits given → IfPost A.elements.fits told → AllFit A p → AllFit A q → SameOutcome A.elements given told → AllLike A p q → AllLike A (sent A given p) (sent A told q)
  sent_like (undecodable word) (undecodable other) p q fx fy fp fq same like = like
  sent_like (undecodable word) (too_many w us') p q fx fy fp fq same like = absurd same
  sent_like (undecodable word) (moves ts y us) p q fx fy fp fq same like = absurd same
  sent_like (too_many v us) (undecodable other) p q fx fy fp fq same like = absurd same
  sent_like (too_many v us) (too_many w us') p q fx fy fp fq same like = like
  sent_like (too_many v us) (moves ts y us') p q fx fy fp fq same like = absurd same
  sent_like (moves ts x us) (undecodable other) p q fx fy fp fq same like = absurd same
  sent_like (moves ts x us) (too_many w us') p q fx fy fp fq same like = absurd same
  sent_like (undecodable word) (sends ys us) p q fx fy fp fq same like = absurd same
  sent_like (too_many v us) (sends ys us') p q fx fy fp fq same like = absurd same
  sent_like (moves ts x us) (sends ys us') p q fx fy fp fq same like = absurd same
  sent_like (sends xs us) (undecodable other) p q fx fy fp fq same like = absurd same
  sent_like (sends xs us) (too_many w us') p q fx fy fp fq same like = absurd same
  sent_like (sends xs us) (moves ts y us') p q fx fy fp fq same like = absurd same
  sent_like (sends xs us) (sends ys us') p q fx fy fp fq same like = each_like xs ys p q fx fy fp fq same.0 like
  sent_like (moves ts None us) (moves ts' None us') p q fx fy fp fq same like = like
  sent_like (moves ts None us) (moves ts' (Some y) us') p q fx fy fp fq same like = absurd same.1
  sent_like (moves ts (Some x) us) (moves ts' None us') p q fx fy fp fq same like = absurd same.1
  sent_like (moves ts (Some x) us) (moves ts' (Some y) us') p q fx fy fp fq same like =
      subst (λ ts'. AllLike A (fold (arrive A x) p ts) (fold (arrive A y) q ts')) same.0 (all_like x y ts p q fx fy fp fq same.1 like)

  done_like : (x y : Option (Reached E)) → IsLike A x y → IsLike A (done x) (done y)
  done_like None None like = tt
  done_like None (Some s) like = like
  done_like (Some r) None like = like
  done_like (Some r) (Some s) like = record { elem = like.elem; changes = like.changes; pending = refl }

  pub one_done_like : (at : ℕ) (p q : WorklistState E) → AllLike A p q → AllLike A (changed at done p) (changed at done q)
  one_done_like at p q like a = changed_like at a done done p q (done_like (p a) (q a) (like a)) (like a)

  pub transferred_like : (p q : WorklistState E) (at : ℕ) → AllFit A p → AllFit A q → AllLike A p q → AllLike A (transferred A p at) (transferred A q at)
  transferred_like p q at fp fq like = from (p at) (q at) (fp at) (fq at) (like at)
    where
      from : (x y : Option (Reached E)) → IsFit A at x → IsFit A at y → IsLike A x y → AllLike A (transferred_from A x p at) (transferred_from A y q at)
      from None None fx fy h = like
      from None (Some s) fx fy h = absurd h
      from (Some r) None fx fy h = absurd h
      from (Some r) (Some s) fx fy h =
          sent_like (A.transfer at r.elem) (A.transfer at s.elem) (changed at done p) (changed at done q) (laws.transfer_fits at r.elem fx.0 fx.1) (laws.transfer_fits at s.elem fy.0 fy.1)
          (one_done_fit A laws at p fp) (one_done_fit A laws at q fq) (laws.transfer_same at r.elem s.elem fx.0 fx.1 fy.1 h.elem) (one_done_like at p q like)
