-- A table that is closed is closed however many changes of an element join: neither transfers nor what a closed table is know of it.
use Rattle.std.proofs.Common.{◌≡◌, ℕ, zero, suc, List, [], ◌∷◌, Option, None, Some, map, ap, ap₂, refl, subst}
use Rattle.support_tail_fixpoint.specs.Answer.{fails, gives}
use Rattle.base_trait.specs.Uses.{Seen}
use Rattle.semantics_values.specs.States.{State}
use Rattle.semantics_values.specs.Values.{Val}
use Rattle.semantics.specs.Decode.{decoded}
use Rattle.abstract_value_laws.specs.Abs.{Abs}
use Rattle.abstract_semantics.specs.Answers.{Answer}
use Rattle.fixpoint_theory.specs.Analysis.{Analysis}
use Rattle.fixpoint_theory.specs.Outcome.{Outcome, moves, sends, too_many, undecodable}
use Rattle.fixpoint_theory.specs.Table.{IsClosed, Listing, Listings, Reaches, TableFits, Tells}
use Rattle.fixpoint_open_tables.specs.Endings.{ending_at, endings_of}
use Rattle.fixpoint_open_tables.specs.LeftOpen.{ending_of, left_open, opened}
use Rattle.fixpoint_cases.specs.ByCases.{case_transfer}
use Rattle.fixpoint_cases.specs.Cases.{Split, cases}
use Rattle.fixpoint_cases.specs.Sent.{merged, sent_by_cases, unless_many, where_split}
use Rattle.domain_laws.specs.States.{state_type}
use Rattle.analysis_transfer_laws.specs.Analysis.{analysis_of, of_states}
use Rattle.analysis_transfer_laws.specs.Problem.{IsWellFormedProblem, Problem}
use Rattle.analysis_transfer_laws.specs.Transfer.{arguments, counter_of, executed, fetched, moved, moved_to, outcome_of, transfer_of}
use Rattle.analysis_transfer_laws.specs.Uses.{merged_uses}
use Rattle.analysis_transfer.specs.Analysis.{calls_of}
use Rattle.analysis_cuts.specs.Analysis.{split_of}
use Rattle.code_image.specs.Image.{Image}
use Rattle.program_domains.specs.Analyses.{analysis}
use Rattle.program_domains.specs.Domains.{DomainOf}
use Rattle.program_laws.specs.AgreementLaws.{IsCodeOf, with_joins}

module _ (p : Problem) (joins : ℕ) where
  pub posed_too : IsWellFormedProblem p → IsWellFormedProblem (with_joins p joins)
  posed_too posed = record {
    accepted = posed.accepted;
    machine = posed.machine;
    image = posed.image;
    words = posed.words;
    addressed = posed.addressed;
    counter = posed.counter;
    lines = posed.lines;
  }

  pub code_too : (image : Image) → IsCodeOf p image → IsCodeOf (with_joins p joins) image
  code_too image of = record { addresses_are = of.addresses_are; words_are = of.words_are; code = of.code }

module _ {E W N C : Type 0} (domain : DomainOf E W N C) (p : Problem) (joins : ℕ) where
  -- the analysis, and the one where so many changes join
  abbrev pub A : Analysis E W State
  A = analysis domain p

  abbrev pub B : Analysis E W State
  B = analysis domain (with_joins p joins)

  abbrev calls : ℕ → ℕ → List (Abs W N) → Answer (Abs W N)
  calls = calls_of domain.base domain.cap domain.meaning p

  abbrev other_calls : ℕ → ℕ → List (Abs W N) → Answer (Abs W N)
  other_calls = calls_of domain.base domain.cap domain.meaning (with_joins p joins)

  -- ---- transfers
  moved_to_same : (x : E) (y : Abs W N) (log : List Seen) (counter : W) (o : Option (List ℕ)) → moved_to domain.base domain.meaning (with_joins p joins) x y log counter o ≡ moved_to domain.base domain.meaning p x y log counter o
  moved_to_same x y log counter None = refl
  moved_to_same x y log counter (Some targets) = refl

  moved_same : (x : E) (y : Abs W N) (log : List Seen) (o : Option (ℕ × W)) → moved domain.base domain.meaning (with_joins p joins) x y log o ≡ moved domain.base domain.meaning p x y log o
  moved_same x y log None = refl
  moved_same x y log (Some counter) = moved_to_same x y log counter.1 (domain.base.words.members domain.meaning.context counter.0 counter.1 p.limit)

  outcome_same : (x : E) (r : Answer (Abs W N)) → outcome_of domain.base domain.meaning (with_joins p joins) x r ≡ outcome_of domain.base domain.meaning p x r
  outcome_same x (fails i) = refl
  outcome_same x (gives None log) = refl
  outcome_same x (gives (Some y) log) = moved_same x y log (counter_of y)

  executed_same : (a : ℕ) (x : E) (code_word : ℕ) (o : Option Val)
      → executed domain.base domain.cap domain.meaning (with_joins p joins) other_calls a x code_word o ≡ executed domain.base domain.cap domain.meaning p calls a x code_word o
  executed_same a x code_word None = refl
  executed_same a x code_word (Some instruction) = outcome_same x (calls a p.machine.interp (arguments domain.base domain.cap domain.meaning p a x instruction))

  fetched_same : (a : ℕ) (x : E) (o : Option ℕ)
      → fetched domain.base domain.cap domain.meaning (with_joins p joins) other_calls a x o ≡ fetched domain.base domain.cap domain.meaning p calls a x o
  fetched_same a x None = refl
  fetched_same a x (Some code_word) = executed_same a x code_word (decoded p.machine.instr p.spec.rows code_word)

  abbrev split : Split E
  split = split_of p domain.elements domain.pieces

  abbrev merge : List Seen → List Seen
  merge = merged_uses (state_type p.spec).fields

  whole_same : (a : ℕ) (x : E)
      → transfer_of domain.base domain.cap domain.meaning (with_joins p joins) other_calls a x ≡ transfer_of domain.base domain.cap domain.meaning p calls a x
  whole_same a x = fetched_same a x (p.word_at a)

  all_same : (a : ℕ) (xs : List E)
      → map (transfer_of domain.base domain.cap domain.meaning (with_joins p joins) other_calls a) xs ≡ map (transfer_of domain.base domain.cap domain.meaning p calls a) xs
  all_same a [] = refl
  all_same a (x ∷ xs) = ap₂ (λ o os. o ∷ os) (whole_same a x) (all_same a xs)

  cases_same : (depth a : ℕ) (x : E)
      → case_transfer (analysis_of domain.base domain.cap domain.elements domain.meaning (with_joins p joins) other_calls) split merge depth a x
      ≡ case_transfer (analysis_of domain.base domain.cap domain.elements domain.meaning p calls) split merge depth a x
  cases_same zero a x = whole_same a x
  cases_same (suc more) a x =
      ap₂ (λ whole os. where_split whole (split a x) (unless_many whole (merged merge (sent_by_cases (of_states p.spec domain.elements) os)))) (whole_same a x) (all_same a (cases split (suc more) a x))

  transfer_same : (a : ℕ) (x : E) → B.transfer a x ≡ A.transfer a x
  transfer_same a x = cases_same p.cases a x

  -- ---- closed tables
  tells_too : (b : Listing E) (o : Outcome E W) → Tells B b o → Tells A b o
  tells_too b (undecodable code_word) tells = absurd tells
  tells_too b (too_many shown uses) tells = absurd tells
  tells_too b (moves targets post uses) tells = tells
  tells_too b (sends arrivals uses) tells = tells

  reaches_too : (t : Listings E) (o : Outcome E W) → Reaches B t o → Reaches A t o
  reaches_too t (undecodable code_word) reaches = absurd reaches
  reaches_too t (too_many shown uses) reaches = absurd reaches
  reaches_too t (moves targets None uses) reaches = reaches
  reaches_too t (moves targets (Some post) uses) reaches = reaches
  reaches_too t (sends arrivals uses) reaches = reaches

  pub fits_too : (t : Listings E) → TableFits B t → TableFits A t
  fits_too t fits at b is = fits at b is

  pub closed_too : (t : Listings E) → IsClosed B t → IsClosed A t
  closed_too t closed = record {
    entry = closed.entry;
    tells = λ at b is. tells_too b (A.transfer at b.elem) (subst (λ (o : Outcome E W). Tells B b o) (transfer_same at b.elem) (closed.tells at b is));
    reaches = λ at b is. reaches_too t (A.transfer at b.elem) (subst (λ (o : Outcome E W). Reaches B t o) (transfer_same at b.elem) (closed.reaches at b is));
  }

  -- ---- tables that are closed but where they are left open
  open_tells_too : (b : Listing E) (o : Outcome E W) → Tells (left_open B) b o → Tells (left_open A) b o
  open_tells_too b (undecodable code_word) tells = absurd tells
  open_tells_too b (too_many shown uses) tells = absurd tells
  open_tells_too b (moves targets post uses) tells = tells
  open_tells_too b (sends arrivals uses) tells = tells

  open_reaches_too : (t : Listings E) (o : Outcome E W) → Reaches (left_open B) t o → Reaches (left_open A) t o
  open_reaches_too t (undecodable code_word) reaches = absurd reaches
  open_reaches_too t (too_many shown uses) reaches = absurd reaches
  open_reaches_too t (moves targets None uses) reaches = reaches
  open_reaches_too t (moves targets (Some post) uses) reaches = reaches
  open_reaches_too t (sends arrivals uses) reaches = reaches

  open_transfer_same : (a : ℕ) (x : E) → opened (B.transfer a x) ≡ opened (A.transfer a x)
  open_transfer_same a x = ap (λ (o : Outcome E W). opened o) (transfer_same a x)

  pub open_closed_too : (t : Listings E) → IsClosed (left_open B) t → IsClosed (left_open A) t
  open_closed_too t closed = record {
    entry = closed.entry;
    tells = λ at b is. open_tells_too b (opened (A.transfer at b.elem)) (subst (λ (o : Outcome E W). Tells (left_open B) b o) (open_transfer_same at b.elem) (closed.tells at b is));
    reaches = λ at b is. open_reaches_too t (opened (A.transfer at b.elem)) (subst (λ (o : Outcome E W). Reaches (left_open B) t o) (open_transfer_same at b.elem) (closed.reaches at b is));
  }

  pub endings_too : (t : Listings E) (a : ℕ) → endings_of B t a ≡ endings_of A t a
  endings_too t a = at (t a)
    where
      at : (o : Option (Listing E)) → ending_at B a o ≡ ending_at A a o
      at None = refl
      at (Some b) = ap (λ (o : Outcome E W). ending_of o) (transfer_same a b.elem)
