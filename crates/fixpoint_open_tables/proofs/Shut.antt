-- Tables of which no address is open.
use Rattle.std.proofs.Common.{◌≡◌, ◌∙◌, ℕ, Option, None, Some, ap, refl, sym, subst}
use Rattle.std.specs.Prelude.{IsSome, IsSomeAnd}
use Rattle.fixpoint_theory.specs.Analysis.{Analysis}
use Rattle.fixpoint_theory.specs.Outcome.{Outcome, moves, sends, too_many, undecodable}
use Rattle.fixpoint_theory.specs.Runs.{Machine}
use Rattle.fixpoint_theory.specs.Table.{IsClosed, Listing, Listings, Reaches, Tells}
use Rattle.fixpoint_open_tables.specs.declared.ending.Ending.{Ending}
use Rattle.fixpoint_open_tables.specs.Endings.{Endings, IsClosedButOpen, IsDecodable, IsNowhereOpen, ending_at}
use Rattle.fixpoint_open_tables.specs.Laws.{ClosedIfNowhereOpen, SoundIfNowhereOpen}
use Rattle.fixpoint_open_tables.specs.LeftOpen.{ending_of, left_open, opened}

module _ {E W S : Type 0} (A : Analysis E W S) where
  -- an outcome without an ending is the opened one
  tells_shut : (b : Listing E) (o : Outcome E W) → ending_of o ≡ None → Tells (left_open A) b (opened o) → Tells A b o
  tells_shut b (undecodable word) none tells = cc
  tells_shut b (too_many shown uses) none tells = cc
  tells_shut b (moves targets post uses) none tells = tells
  tells_shut b (sends arrivals uses) none tells = tells

  reaches_shut : (t : Listings E) (o : Outcome E W) → ending_of o ≡ None → Reaches (left_open A) t (opened o) → Reaches A t o
  reaches_shut t (undecodable word) none reaches = cc
  reaches_shut t (too_many shown uses) none reaches = cc
  reaches_shut t (moves targets post uses) none reaches = reaches
  reaches_shut t (sends arrivals uses) none reaches = reaches

  tells_open : (b : Listing E) (o : Outcome E W) → Tells A b o → Tells (left_open A) b (opened o)
  tells_open b (undecodable word) tells = absurd tells
  tells_open b (too_many shown uses) tells = absurd tells
  tells_open b (moves targets post uses) tells = tells
  tells_open b (sends arrivals uses) tells = tells

  reaches_open : (t : Listings E) (o : Outcome E W) → Reaches A t o → Reaches (left_open A) t (opened o)
  reaches_open t (undecodable word) reaches = absurd reaches
  reaches_open t (too_many shown uses) reaches = absurd reaches
  reaches_open t (moves targets post uses) reaches = reaches
  reaches_open t (sends arrivals uses) reaches = reaches

  told_shut : (b : Listing E) (o : Outcome E W) → Tells A b o → ending_of o ≡ None
  told_shut b (undecodable word) tells = absurd tells
  told_shut b (too_many shown uses) tells = absurd tells
  told_shut b (moves targets post uses) tells = refl
  told_shut b (sends arrivals uses) tells = refl

  closed_shut : (t : Listings E) (ends : Endings W) → IsNowhereOpen ends → IsClosedButOpen A t ends → IsClosed A t
  closed_shut t ends shut closed = record {
    entry = closed.closed.entry;
    tells = λ a b is. tells_shut b (A.transfer a b.elem) (none a b is) (closed.closed.tells a b is);
    reaches = λ a b is. reaches_shut t (A.transfer a b.elem) (none a b is) (closed.closed.reaches a b is);
  }
    where
      none : (a : ℕ) (b : Listing E) → t a ≡ Some b → ending_of (A.transfer a b.elem) ≡ None
      none a b is = sym (closed.endings a ∙ ap (ending_at A a) is) ∙ shut a

  closed_open : (t : Listings E) (ends : Endings W) → IsNowhereOpen ends → IsClosed A t → IsClosedButOpen A t ends
  closed_open t ends shut closed = record {
    closed = record {
      entry = closed.entry;
      tells = λ a b is. tells_open b (A.transfer a b.elem) (closed.tells a b is);
      reaches = λ a b is. reaches_open t (A.transfer a b.elem) (closed.reaches a b is);
    };
    endings = λ a. shut a ∙ sym (none a (t a) refl);
  }
    where
      none : (a : ℕ) (y : Option (Listing E)) → t a ≡ y → ending_at A a y ≡ None
      none a None is = refl
      none a (Some b) is = told_shut b (A.transfer a b.elem) (closed.tells a b is)

  pub closed_if_nowhere_open : ClosedIfNowhereOpen A
  closed_if_nowhere_open t ends shut = (closed_shut t ends shut, closed_open t ends shut)

-- two things that hold of what is there
paired : {X : Type 0} (P Q : X → Type 0) (y : Option X) → IsSomeAnd y P → IsSomeAnd y Q → IsSomeAnd y (λ x. P x × Q x)
paired P Q None h k = h
paired P Q (Some x) h k = (h, k)

first_of : {X : Type 0} (P Q : X → Type 0) (y : Option X) → IsSomeAnd y (λ x. P x × Q x) → IsSomeAnd y P
first_of P Q None h = h
first_of P Q (Some x) h = h.0

second_of : {X : Type 0} (P Q : X → Type 0) (y : Option X) → IsSomeAnd y (λ x. P x × Q x) → IsSomeAnd y Q
second_of P Q None h = h
second_of P Q (Some x) h = h.1

pub sound_if_nowhere_open : {E W S : Type 0} (A : Analysis E W S) (M : Machine S) → SoundIfNowhereOpen A M
sound_if_nowhere_open {E} {W} {S} A M t ends shut = (
  λ sound. record {
    holds = λ d n first s starts is code. sound.holds d n first s starts is (λ m q less was. shut (M.counter q)) code;
    decodes = λ d n first s word done starts is. nowhere (ends (M.counter s)) (shut (M.counter s)) (sound.decodes d n first s word done starts is (λ m q less was. shut (M.counter q)));
    leads = λ d n first s next reads starts is steps.
        paired _ _ (t (M.counter s))
        (sound.leads d n first s next reads starts is (λ m q less was. shut (M.counter q)) (shut (M.counter s)) steps)
        (sound.covers d n first s next reads starts is (λ m q less was. shut (M.counter q)) (subst IsDecodable (sym (shut (M.counter s))) tt) steps);
  },
  λ sound. record {
    holds = λ d n first s starts is until code. sound.holds d n first s starts is code;
    decodes = λ d n first s word done starts is until. absurd (sound.decodes d n first s word done starts is);
    leads = λ d n first s next reads starts is until none steps. first_of _ _ (t (M.counter s)) (sound.leads d n first s next reads starts is steps);
    covers = λ d n first s next reads starts is until decodable steps. second_of _ _ (t (M.counter s)) (sound.leads d n first s next reads starts is steps);
  },
)
  where
    nowhere : (y : Option (Ending W)) → y ≡ None → IsSome y → ⊥
    nowhere None none some = cc
    nowhere (Some e) none some = cc
