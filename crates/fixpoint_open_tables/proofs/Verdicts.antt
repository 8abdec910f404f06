-- The verdict on a table with its endings.
use Rattle.std.proofs.Common.{◌≡◌, ◌∙◌, ℕ, ◌<◌, ◌≤◌, Bool, true, false, Option, None, Some, IsTrue, arith, inl, inr, ap, refl, sym, subst}
use Rattle.std.specs.Prelude.{IfNone, IfSome, not}
use Rattle.std.proofs.lemmas.Bool.{cases_lt}
use Rattle.fixpoint_theory.specs.Analysis.{Analysis, AnalysisLaws}
use Rattle.fixpoint_theory.specs.Table.{Listings, TableFits}
use Rattle.fixpoint_theory.specs.declared.verdict.Verdict.{Verdict}
use Rattle.fixpoint_theory.specs.declared.verdict.Verdict.TheVariants.{Accepted, Entry, Open, Undecodable, TooManyTargets, Targets, Use}
use Rattle.fixpoint_theory.proofs.Verdicts.{accepted_are_closed}
use Rattle.fixpoint_open_tables.specs.declared.ending.Ending.{Ending}
use Rattle.fixpoint_open_tables.specs.Endings.{Endings, IsClosedButOpen, endings_of}
use Rattle.fixpoint_open_tables.specs.Instance.{left_open_laws}
use Rattle.fixpoint_open_tables.specs.Laws.{AcceptedAreClosedButOpen, VerdictsAreOne}
use Rattle.fixpoint_open_tables.specs.LeftOpen.{left_open}
use Rattle.fixpoint_open_tables.specs.Verdicts.{IsOfEnding, IsOfTable, IsSettled, IsUpTo, IsVerdict, closing}

less : (a c f : ℕ) → c ≤ f → (a ≤ f → ⊥) → c < a
less a c f up not_up = elim (cases_lt c a) [ inl below ↦ below | inr not_below ↦ absurd (not_up (omega (arith, up, not_below))) ]

pub not_shut : (b : Bool) → not b ≡ false → IsTrue b
not_shut true h = refl
not_shut false h = cc

module _ {E W S : Type 0} (A : Analysis E W S) (t : Listings E) (ends : Endings W) where
  of_both : (v w : Verdict W) → IsOfTable A t ends v → IsOfEnding A t ends w → ⊥
  of_both v w h k = k.wrong (h.endings k.address k.up_to)

  of_endings : (v w : Verdict W) → IsOfEnding A t ends v → IsOfEnding A t ends w → v ≡ w
  of_endings v w h k =
      elim (cases_lt h.address k.address) [
        | inl below ↦ absurd (h.wrong (k.least h.address below))
        | inr not_below ↦
            elim (cases_lt k.address h.address) [
              | inl above ↦ absurd (k.wrong (h.least k.address above))
              | inr not_above ↦
                  let same : h.address ≡ k.address = omega arith in
                  h.verdict ∙ ap (λ a. Targets a) same ∙ sym k.verdict
            ]
      ]

  pub one : (v w : Verdict W) → IsVerdict A t ends v → IsVerdict A t ends w → v ≡ w
  one v w (inl h) (inl k) = h.verdict ∙ sym k.verdict
  one v w (inl h) (inr k) = absurd (of_both v w h k)
  one v w (inr h) (inl k) = absurd (of_both w v k h)
  one v w (inr h) (inr k) = of_endings v w h k

  earlier : (a c : ℕ) (v : Verdict W) → IsUpTo c v → (IsUpTo a v → ⊥) → c < a
  earlier a c Accepted up not_up = absurd (not_up tt)
  earlier a c Entry up not_up = absurd up
  earlier a c (Open from to) up not_up = less a c from up not_up
  earlier a c (Undecodable where_ word) up not_up = less a c where_ up not_up
  earlier a c (TooManyTargets where_ shown) up not_up = less a c where_ up not_up
  earlier a c (Targets where_) up not_up = less a c where_ up not_up
  earlier a c (Use where_) up not_up = less a c where_ up not_up

  -- The verdict on the table, or on the first ending that is not the table's own.
  pub settled : (own : ℕ → Option (Ending W)) → ((a : ℕ) → own a ≡ endings_of A t a) → (apart : Option ℕ) (v w : Verdict W) → v ≡ closing A t ends
      → IfNone apart ((a : ℕ) → ends a ≡ own a) → IfSome apart (λ a. ends a ≡ own a → ⊥) → IfSome apart (λ a. (c : ℕ) → c < a → ends c ≡ own c)
      → IfNone apart (w ≡ v) → IfSome apart (λ a. IsSettled a v w) → IsVerdict A t ends w
  settled own told None v w is all wrong least kept other = inl (record { verdict = kept ∙ is; endings = λ a up. all a ∙ told a })
  settled own told (Some a) v w is all wrong least kept (inl other) =
      inr (record {
        address = a;
        up_to = subst (IsUpTo a) is other.0;
        wrong = λ h. wrong (h ∙ sym (told a));
        least = λ c below. least c below ∙ told c;
        verdict = other.1;
      })
  settled own told (Some a) v w is all wrong least kept (inr other) =
      inl (record { verdict = other.1 ∙ is; endings = λ c up. least c (earlier a c v (subst (IsUpTo c) (sym is) up) other.0) ∙ told c })

  module _ (laws : AnalysisLaws A) (fits : TableFits A t) where
    -- at an accepted table each address is tested
    up_to_accepted : (v : Verdict W) → v ≡ Accepted → (a : ℕ) → IsUpTo a v
    up_to_accepted v is a = subst (IsUpTo a) (sym is) tt

    accepted_closes : (v : Verdict W) → IsVerdict A t ends v → v ≡ Accepted → IsClosedButOpen A t ends
    accepted_closes v (inl h) is =
        let accepted = sym h.verdict ∙ is in
        record {
          closed = (accepted_are_closed (left_open A) (left_open_laws A laws) t fits).0 accepted;
          endings = λ a. h.endings a (up_to_accepted (closing A t ends) accepted a);
        }
    accepted_closes v (inr h) is = let other = h.verdict in cc

    closed_accepts : (v : Verdict W) → IsVerdict A t ends v → IsClosedButOpen A t ends → v ≡ Accepted
    closed_accepts v (inl h) closed = h.verdict ∙ (accepted_are_closed (left_open A) (left_open_laws A laws) t fits).1 closed.closed
    closed_accepts v (inr h) closed = absurd (h.wrong (closed.endings h.address))

pub verdicts_are_one : {E W S : Type 0} (A : Analysis E W S) → VerdictsAreOne A
verdicts_are_one A t ends v w h k = one A t ends v w h k

pub accepted_are_closed_but_open : {E W S : Type 0} (A : Analysis E W S) → AnalysisLaws A → AcceptedAreClosedButOpen A
accepted_are_closed_but_open A laws t ends v fits is = (accepted_closes A t ends laws fits v is, closed_accepts A t ends laws fits v is)
