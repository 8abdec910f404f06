-- The verdict on a table with its endings: there is one, where words are the same or not, and of tables that are alike it is the same.
use Rattle.std.proofs.Common.{◌≡◌, ◌∙◌, ◌⊎◌, ℕ, zero, suc, ◌+◌, ◌<◌, ◌≤◌, false, List, [], ◌∷◌, Option, Some, None, arith, ap, inl, inr, refl, sym, subst}
use Rattle.std.specs.Prelude.{◌==◌}
use Rattle.std.proofs.lemmas.Bool.{cases_lt}
use Rattle.std.proofs.lemmas.Bool.Decides.{nat_tests}
use Rattle.spec_ir.specs.Specification.{Spec}
use Rattle.semantics_values.specs.States.{State}
use Rattle.code_image.specs.Image.{Image}
use Rattle.fixpoint_theory.specs.Analysis.{Analysis}
use Rattle.fixpoint_theory.specs.Table.{Listing, Listings, TableFits}
use Rattle.fixpoint_theory.specs.Verdicts.{verdict_of}
use Rattle.fixpoint_theory.specs.declared.verdict.Verdict.{Verdict}
use Rattle.fixpoint_theory.specs.declared.verdict.Verdict.TheVariants.{Accepted, Entry, Open, Undecodable, TooManyTargets, Targets, Use}
use Rattle.fixpoint_theory.proofs.Verdicts.{accepted_are_closed}
use Rattle.fixpoint_open_tables.specs.Endings.{Endings, ending_at, endings_of}
use Rattle.fixpoint_open_tables.specs.Instance.{left_open_laws}
use Rattle.fixpoint_open_tables.specs.LeftOpen.{left_open}
use Rattle.fixpoint_open_tables.specs.Verdicts.{IsEnding, IsSettled, IsUpTo, IsVerdict, closing}
use Rattle.fixpoint_open_tables.specs.declared.ending.Ending.{Ending}
use Rattle.fixpoint_open_tables.proofs.Shut.{closed_if_nowhere_open}
use Rattle.fixpoint_open_tables.proofs.Verdicts.{settled, verdicts_are_one}
use Rattle.analysis_table_laws.proofs.Verdicts.{same_tables_same_verdict}
use Rattle.text_element_readers.specs.Reading.{ElementReading}
use Rattle.text_element_readers.specs.Words.{WordReading}
use Rattle.text_table_reader.specs.Blocks.{listings_of}
use Rattle.text_table_reader.specs.Endings.{endings_in}
use Rattle.text_table_reader.specs.Tables.{IsOpenTableIn}
use Rattle.text_table_reader.specs.Readings.{AreAlike}
use Rattle.analysis_transfer_laws.specs.Problem.{IsWellFormedProblem, Problem}
use Rattle.program_domains.specs.Analyses.{analysis}
use Rattle.program_domains.specs.Domains.{DomainOf}
use Rattle.program_domains.proofs.Decided.{AreDecided, IsDecided, endings_are_decided}
use Rattle.program_domains.proofs.Lawful.{IsLawful}
use Rattle.program_domains.proofs.OpenOutcomes.{endings_are_alike}
use Rattle.program_domains.proofs.Ready.{keeps_the_laws}
use Rattle.program_domains.proofs.Texts.{alike_are_same}

-- ---- there is one

at_most : (a b : ℕ) → (a ≤ b) ⊎ (a ≤ b → ⊥)
at_most a b = elim (cases_lt b a) [ inl above ↦ inr (λ h. absurd (omega (arith, above, h))) | inr not_above ↦ inl not_above ]

up_to : {W : Type 0} (a : ℕ) (x : Verdict W) → IsUpTo a x ⊎ (IsUpTo a x → ⊥)
up_to a Accepted = inl tt
up_to a Entry = inr (λ h. absurd h)
up_to a (Open from to) = at_most a from
up_to a (Undecodable where_ word) = at_most a where_
up_to a (TooManyTargets where_ shown) = at_most a where_
up_to a (Targets where_) = at_most a where_
up_to a (Use where_) = at_most a where_

settle : {W : Type 0} (a : ℕ) (x : Verdict W) → IsUpTo a x ⊎ (IsUpTo a x → ⊥) → (y : Verdict W) × IsSettled a x y
settle a x (inl up) = (Targets a, inl (up, refl))
settle a x (inr not_up) = (x, inr (not_up, refl))

module _ {E W S : Type 0} (A : Analysis E W S) (words : AreDecided W) (t : Listings E) (ends : Endings W) where
  -- The endings at the addresses before this one are right, or there is a first one that is wrong.
  abbrev FirstWrong : ℕ → Type 0
  FirstWrong n = ((a : ℕ) → a < n → IsEnding A t ends a) ⊎ ((at : ℕ) × (IsEnding A t ends at → ⊥) × ((a : ℕ) → a < at → IsEnding A t ends a))

  one_more : (n : ℕ) → FirstWrong n → IsDecided (ends n) (endings_of A t n) → FirstWrong (suc n)
  one_more n (inr found) own = inr found
  one_more n (inl all) (inr wrong) = inr (n, wrong, all)
  one_more n (inl all) (inl own) = inl (λ a below. by_less a below (cases_lt a n))
    where
      by_less : (a : ℕ) → a < suc n → (a < n) ⊎ (n ≤ a) → IsEnding A t ends a
      by_less a below (inl less) = all a less
      by_less a below (inr not_less) = let same : n ≡ a = omega (arith, below, not_less) in subst (λ z. IsEnding A t ends z) same own

  first_wrong : (n : ℕ) → FirstWrong n
  first_wrong zero = inl (λ a below. absurd (omega (arith, below)))
  first_wrong (suc n) = one_more n (first_wrong n) (endings_are_decided words (ends n) (endings_of A t n))

  by_wrong : (limit : ℕ) → ((a : ℕ) → limit ≤ a → IsEnding A t ends a) → FirstWrong limit → (x : Verdict W) × IsVerdict A t ends x
  by_wrong limit beyond (inl all) =
      (closing A t ends, settled A t ends (endings_of A t) (λ a. refl) None (closing A t ends) (closing A t ends) refl (λ a. by_less a (cases_lt a limit)) tt tt refl tt)
    where
      by_less : (a : ℕ) → (a < limit) ⊎ (limit ≤ a) → IsEnding A t ends a
      by_less a (inl below) = all a below
      by_less a (inr not_below) = beyond a not_below
  by_wrong limit beyond (inr found) =
      let own = settle found.0 (closing A t ends) (up_to found.0 (closing A t ends)) in
      (own.0, settled A t ends (endings_of A t) (λ a. refl) (Some found.0) (closing A t ends) own.0 refl tt found.1 found.2 tt own.1)

  -- where the endings are right from some address on
  has_verdict : (limit : ℕ) → ((a : ℕ) → limit ≤ a → IsEnding A t ends a) → (x : Verdict W) × IsVerdict A t ends x
  has_verdict limit beyond = by_wrong limit beyond (first_wrong limit)

-- From some address on nothing is listed.
none_beyond : {E : Type 0} (blocks : List (ℕ × Listing E)) → (limit : ℕ) × ((a : ℕ) → limit ≤ a → listings_of blocks a ≡ None)
none_beyond [] = (0, λ a h. refl)
none_beyond (b ∷ blocks) =
    let rest = none_beyond blocks in (
      b.0 + 1 + rest.0,
      λ a h.
          let past : b.0 < a = omega (arith, h) in
          let apart : (b.0 == a) ≡ false = grind (arith, nat_tests, past) in
          rw apart (rest.1 a (omega (arith, h))),
    )

no_end_beyond : {W : Type 0} (ends : List (ℕ × Option (Ending W))) → (limit : ℕ) × ((a : ℕ) → limit ≤ a → endings_in ends a ≡ None)
no_end_beyond [] = (0, λ a h. refl)
no_end_beyond (e ∷ ends) =
    let rest = no_end_beyond ends in (
      e.0 + 1 + rest.0,
      λ a h.
          let past : e.0 < a = omega (arith, h) in
          let apart : (e.0 == a) ≡ false = grind (arith, nat_tests, past) in
          rw apart (rest.1 a (omega (arith, h))),
    )

-- There is a verdict on a table that is read with its endings.
pub read_verdict : {E W S : Type 0} (A : Analysis E W S) → AreDecided W → (Reads : ElementReading E) (word_in : WordReading W) (spec : Spec) (base : List ℕ) (image : Image) (bytes : List ℕ) (t : Listings E) (ends : Endings W)
    → IsOpenTableIn Reads word_in spec base image bytes t ends → (x : Verdict W) × IsVerdict A t ends x
read_verdict A words Reads word_in spec base image bytes t ends is =
    let listed = none_beyond is.blocks in
    let ended = no_end_beyond is.ends in
    has_verdict A words t ends (listed.0 + ended.0)
    (λ a h. is.end_so a ∙ ended.1 a (omega (arith, h)) ∙ sym (ap (ending_at A a) (is.table a ∙ listed.1 a (omega (arith, h)))))

-- ---- there is one at most

module _ {E W S : Type 0} (A : Analysis E W S) (t u : Listings E) (ends others : Endings W) (same : closing A t ends ≡ closing A u others)
    (alike : (a : ℕ) → ends a ≡ others a) (own : (a : ℕ) → endings_of A t a ≡ endings_of A u a) where
  moved : (x : Verdict W) → IsVerdict A t ends x → IsVerdict A u others x
  moved x (inl h) = inl (record { verdict = h.verdict ∙ same; endings = λ a up. sym (alike a) ∙ h.endings a (subst (IsUpTo a) (sym same) up) ∙ own a })
  moved x (inr h) =
      inr (record {
        address = h.address;
        up_to = subst (IsUpTo h.address) same h.up_to;
        wrong = λ e. h.wrong (alike h.address ∙ e ∙ sym (own h.address));
        least = λ a below. sym (alike a) ∙ h.least a below ∙ own a;
        verdict = h.verdict;
      })

module _ {E W N C : Type 0} (domain : DomainOf E W N C) (p : Problem) (lawful : IsLawful domain p.spec) (posed : IsWellFormedProblem p) where
  abbrev A : Analysis E W State
  A = analysis domain p

  -- of tables that are alike, with endings that are the same
  pub one_verdict_of_both : (t u : Listings E) (ends others : Endings W) (x y : Verdict W) → TableFits A t → TableFits A u → AreAlike domain.elements t u → ((a : ℕ) → ends a ≡ others a)
      → IsVerdict A t ends x → IsVerdict A u others y → x ≡ y
  one_verdict_of_both t u ends others x y fits also alike same h k =
      let laws = left_open_laws A (keeps_the_laws domain p lawful posed) in
      let closes = same_tables_same_verdict (left_open A) laws t u fits also (alike_are_same (left_open A) domain.elements (λ x y same. same) t u alike) in
      verdicts_are_one A u others x y (moved A t u ends others closes same (endings_are_alike domain p lawful posed t u fits also alike) x h) k

  -- A table that is closed is accepted without endings.
  pub closed_is_accepted : (t : Listings E) → TableFits A t → verdict_of A t ≡ Accepted → IsVerdict A t (λ a. None) Accepted
  closed_is_accepted t fits accepted =
      let laws = keeps_the_laws domain p lawful posed in
      let closed = (closed_if_nowhere_open A t (λ a. None) (λ a. refl)).1 ((accepted_are_closed A laws t fits).0 accepted) in
      inl (record { verdict = sym ((accepted_are_closed (left_open A) (left_open_laws A laws) t fits).1 closed.closed); endings = λ a up. closed.endings a })
