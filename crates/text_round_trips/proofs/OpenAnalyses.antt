-- What is written of analyses that are left open is read, and accepted.
use Rattle.std.proofs.Common.{◌≡◌, ◌∙◌, ℕ, zero, suc, ◌<◌, ◌^◌, Bool, List, [], ◌∷◌, map, Option, Some, None, IsTrue, is_some, refl, sym, ap, subst, inl}
use Rattle.std.specs.Prelude.{IfSome}
use Rattle.std.specs.List.{list_all}
use Rattle.base_trait.specs.Algebra.{Algebra}
use Rattle.base_trait.specs.Laws.{Laws}
use Rattle.base_trait.specs.Lists.{Each}
use Rattle.base_trait.specs.Uses.{Seen}
use Rattle.semantics_values.specs.States.{State}
use Rattle.semantics_values.specs.Values.{Val}
use Rattle.semantics.specs.Decode.{decoded}
use Rattle.support_tail_fixpoint.specs.Answer.{fails, gives}
use Rattle.abstract_value_laws.specs.Abs.{Abs}
use Rattle.abstract_semantics.specs.Answers.{Answer}
use Rattle.code_image.specs.Faults.{IsImage}
use Rattle.code_image.specs.Image.{Image}
use Rattle.fixpoint_theory.specs.Analysis.{Analysis, AnalysisLaws}
use Rattle.fixpoint_theory.specs.Code.{is_code}
use Rattle.fixpoint_theory.specs.Elements.{Elements}
use Rattle.fixpoint_theory.specs.Outcome.{Outcome, SameOutcome, arrivals_behind, moves, sends, too_many, undecodable}
use Rattle.fixpoint_theory.specs.WorklistState.{IsComplete, IsLegal, worklist_state}
use Rattle.fixpoint_theory.specs.Table.{AreSameBlocks, AreSameTables, IsClosed, IsTableOf, Listing, Listings, TableFits, Tells}
use Rattle.fixpoint_theory.specs.Verdicts.{verdict_of}
use Rattle.fixpoint_theory.specs.declared.verdict.Verdict.TheVariants.{Accepted}
use Rattle.fixpoint_theory.proofs.Tables.{full_traces_close, tables_fit_the_image}
use Rattle.fixpoint_theory.proofs.Verdicts.{accepted_are_closed}
use Rattle.fixpoint_open_tables.specs.Endings.{Endings, ending_at, endings_of}
use Rattle.fixpoint_open_tables.specs.Instance.{left_open_laws}
use Rattle.fixpoint_open_tables.specs.LeftOpen.{ending_of, left_open, opened}
use Rattle.fixpoint_open_tables.specs.declared.ending.Ending.TheVariants.{Open, Undecodable}
use Rattle.fixpoint_open_tables.specs.Verdicts.{IsVerdict}
use Rattle.fixpoint_open_tables.proofs.Truth.{fits_image}
use Rattle.fixpoint_cases.specs.ByCases.{case_transfer}
use Rattle.fixpoint_cases.specs.Cases.{IsSplit, Split, cases}
use Rattle.fixpoint_cases.specs.Same.{SplitsAlike}
use Rattle.fixpoint_cases.specs.Sent.{and_case, and_sent, merged, sent_by_cases}
use Rattle.fixpoint_cases.proofs.Sending.{both_keep}
use Rattle.domain_laws.specs.States.{state_type}
use Rattle.domain_laws.specs.Domain.{Meaning}
use Rattle.analysis_transfer_laws.specs.Analysis.{analysis_of}
use Rattle.analysis_transfer_laws.specs.Laws.{IsAnalysed}
use Rattle.analysis_transfer_laws.specs.Problem.{Problem}
use Rattle.analysis_transfer_laws.specs.Transfer.{arguments, counter_of, executed, fetched, moved, moved_to, outcome_of, transfer_of}
use Rattle.analysis_transfer_laws.specs.Uses.{merged_uses}
use Rattle.analysis_transfer_laws.proofs.Ordered.{uses_are_merged}
use Rattle.analysis_transfer_laws.proofs.Keeping.{transfers_keep_the_laws}
use Rattle.analysis_cases.specs.Analysis.{case_analysis_of}
use Rattle.analysis_cases.proofs.Analyses.{case_analyses_keep_the_laws}
use Rattle.analysis_table_laws.proofs.Cases.{all_cases, outcome_by_cases, shown_by_cases}
use Rattle.analysis_table_laws.proofs.Transfers.{IsOutcome, transfer_is}
use Rattle.analysis_table_laws.proofs.Uses.{merged_of}
use Rattle.analysis_table_laws.proofs.Verdicts.{same_tables_same_verdict}
use Rattle.analysis_table_laws.specs.Domains.{ElementsKeep}
use Rattle.analysis_table_laws.specs.InvariantLaws.{IfShown, has_word}
use Rattle.analysis_table_laws.specs.Notes.{NotesKeep}
use Rattle.analysis_table_laws.specs.Tables.{IsPrintableTable}
use Rattle.analysis_table_laws.proofs.Shown.{shown_words_fit}
use Rattle.analysis_table_laws.proofs.Tables.{open_printable_by, open_tables_are_printable, printable_by}
use Rattle.text_elements.specs.Parts.{ElementText}
use Rattle.text_element_readers.specs.Reading.{ElementReading}
use Rattle.text_element_readers.specs.Words.{WordReading}
use Rattle.text_lines.specs.Lines.{is_inside}
use Rattle.text_table_reader.specs.Ends.{is_word_of}
use Rattle.text_table_reader.specs.Tables.{IsOpenTableIn}
use Rattle.text_table_reader.specs.Readings.{AreAlike, AreAlikeAt}
use Rattle.text_table_reader.proofs.Errors.{open_tables_are_alike, read_open_tables_fit}
use Rattle.text_round_trips.specs.Analyses.{IsOfImage}
use Rattle.text_round_trips.specs.FirstTexts.{IsOpenTextOf}
use Rattle.text_round_trips.specs.OpenAnalyses.{HasCodeWords, OpenTracesAreWritable, TextsOfOpenTracesAreAccepted}
use Rattle.text_round_trips.specs.TableLaws.{HasParts}
use Rattle.text_round_trips.specs.Writable.{AreEndingsOf, IsWritable, MayEnd, MayEndAt}
use Rattle.text_round_trips.proofs.Addresses.{words_are_code}
use Rattle.text_round_trips.proofs.Fitting.{fitting_tables_are_of_code}
use Rattle.text_round_trips.proofs.Tables.{open_texts_are_read}

-- the code word without decoding, if there is one, has the property
abbrev IfWord : {E W : Type 0} → (ℕ → Type 0) → Outcome E W → Type 0
IfWord P (undecodable code_word) = P code_word
IfWord P (too_many shown uses) = Unit {0}
IfWord P (moves targets post uses) = Unit {0}
IfWord P (sends arrivals uses) = Unit {0}

-- ---- code words without decoding are those of the code

module _ {E W N C : Type 0} (B : Algebra W N C) (cap : ℕ) (M : Meaning E W N C) (p : Problem) (calls : ℕ → ℕ → List (Abs W N) → Answer (Abs W N)) (P : ℕ → Type 0) (a : ℕ) (x : E) where
  moved_word : (y : Abs W N) (log : List Seen) (counter : ℕ × W) (o : Option (List ℕ)) → IfWord P (moved_to B M p x y log counter.1 o)
  moved_word y log counter None = tt
  moved_word y log counter (Some targets) = tt

  answer_word : (r : Answer (Abs W N)) → IfWord P (outcome_of B M p x r)
  answer_word (fails i) = tt
  answer_word (gives None log) = tt
  answer_word (gives (Some y) log) = at (counter_of y)
    where
      at : (o : Option (ℕ × W)) → IfWord P (moved B M p x y log o)
      at None = tt
      at (Some counter) = moved_word y log counter (B.words.members M.context counter.0 counter.1 p.limit)

  executed_word : (code_word : ℕ) → P code_word → (o : Option Val) → IfWord P (executed B cap M p calls a x code_word o)
  executed_word code_word is None = is
  executed_word code_word is (Some instruction) = answer_word (calls a p.machine.interp (arguments B cap M p a x instruction))

  fetched_word : (o : Option ℕ) → ((code_word : ℕ) → o ≡ Some code_word → P code_word) → IfWord P (fetched B cap M p calls a x o)
  fetched_word None is = tt
  fetched_word (Some code_word) is = executed_word code_word (is code_word refl) (decoded p.machine.instr p.spec.rows code_word)

-- ---- endings

module _ {E W S : Type 0} (A : Analysis E W S) (Fits : W → Type 0) where
  -- the block of an outcome may end as that does
  ending_fits : (o : Outcome E W) → IfShown Fits o → IfWord (λ w. w < 2 ^ 32) o → (b : Listing E) → Tells (left_open A) b (opened o) → MayEnd Fits (ending_of o) b.next b.exits
  ending_fits (undecodable code_word) shown small b tells = (tells.0, tells.1, small)
  ending_fits (too_many word uses) shown small b tells = (tells.0, tells.1, shown)
  ending_fits (moves targets post uses) shown small b tells = tt
  ending_fits (sends arrivals uses) shown small b tells = tt

  -- outcomes that are the same end alike
  ending_same : (x y : Outcome E W) → SameOutcome A.elements x y → ending_of x ≡ ending_of y
  ending_same (undecodable v) (undecodable w) same = ap (λ (z : ℕ). Some (Undecodable z)) same
  ending_same (undecodable v) (too_many y us) same = absurd same
  ending_same (undecodable v) (moves ts y us) same = absurd same
  ending_same (too_many x us) (undecodable w) same = absurd same
  ending_same (too_many x us) (too_many y us') same = ap (λ (z : W). Some (Open z)) same.0
  ending_same (too_many x us) (moves ts y us') same = absurd same
  ending_same (moves ts x us) (undecodable w) same = absurd same
  ending_same (moves ts x us) (too_many y us') same = absurd same
  ending_same (moves ts x us) (moves ts' y us') same = refl
  ending_same (undecodable v) (sends ys us') same = absurd same
  ending_same (too_many x us) (sends ys us') same = absurd same
  ending_same (moves ts x us) (sends ys us') same = absurd same
  ending_same (sends xs us) (undecodable w) same = absurd same
  ending_same (sends xs us) (too_many y us') same = absurd same
  ending_same (sends xs us) (moves ts y us') same = absurd same
  ending_same (sends xs us) (sends ys us') same = refl

-- ---- the same of cases

module _ {E W S : Type 0} (D : Elements E S) (P : ℕ → Type 0) where
  sent_word : (ys : List (ℕ × E)) (us : List Seen) (o : Outcome E W) → IfWord P o → IfWord P (and_sent D ys us o)
  sent_word ys us (undecodable w) h = h
  sent_word ys us (too_many shown more) h = tt
  sent_word ys us (moves targets post more) h = tt
  sent_word ys us (sends others more) h = tt

  case_word : (c o : Outcome E W) → IfWord P c → IfWord P o → IfWord P (and_case D c o)
  case_word (undecodable w) o h k = h
  case_word (too_many shown us) o h k = tt
  case_word (moves targets post us) o h k = sent_word (arrivals_behind post targets) us o k
  case_word (sends ys us) o h k = sent_word ys us o k

merged_word : {E W : Type 0} (merge : List Seen → List Seen) (P : ℕ → Type 0) (o : Outcome E W) → IfWord P o → IfWord P (merged merge o)
merged_word merge P (undecodable w) h = h
merged_word merge P (too_many shown us) h = tt
merged_word merge P (moves targets post us) h = tt
merged_word merge P (sends ys us) h = tt

every : {X Y : Type 0} (Q : Y → Type 0) (f : X → Y) → ((x : X) → Q (f x)) → (xs : List X) → Each Q (map f xs)
every Q f h [] = tt
every Q f h (x ∷ xs) = (h x, every Q f h xs)

module _ {E W S : Type 0} (A : Analysis E W S) (split : Split E) (merge : List Seen → List Seen) (P : ℕ → Type 0) where
  word_by_cases : (depth a : ℕ) → ((x : E) → IfWord P (A.transfer a x)) → (x : E) → IfWord P (case_transfer A split merge depth a x)
  word_by_cases zero a f x = f x
  word_by_cases (suc more) a f x =
      let made = map (A.transfer a) (cases split (suc more) a x) in
      both_keep A.elements (IfWord P) (A.transfer a x) (split a x) (merged merge (sent_by_cases A.elements made)) (f x)
      (merged_word merge P (sent_by_cases A.elements made) (all_cases A.elements (IfWord P) (case_word A.elements P) made (sends [] []) tt (every (IfWord P) (A.transfer a) f (cases split (suc more) a x))))

-- pieces that each have a property
if_split : {E : Type 0} {P : E → Type 0} (o : Option (List E)) → ((pieces : List E) → o ≡ Some pieces → Each P pieces) → IfSome o (Each P)
if_split None f = tt
if_split (Some pieces) f = f pieces refl

each_pair : {E : Type 0} (P Q : E → Type 0) (xs : List E) → Each P xs → Each Q xs → Each (λ x. P x × Q x) xs
each_pair P Q [] h k = tt
each_pair P Q (x ∷ xs) h k = ((h.0, k.0), each_pair P Q xs h.1 k.1)

both_split : {E : Type 0} (P Q : E → Type 0) (o : Option (List E)) → IfSome o (Each P) → IfSome o (Each Q) → IfSome o (Each (λ x. P x × Q x))
both_split P Q None h k = tt
both_split P Q (Some xs) h k = each_pair P Q xs h k

-- ---- traces

module _ {E W N C : Type 0} (B : Algebra W N C) (cap : ℕ) (D : Elements E State) (M : Meaning E W N C) (K : (ℕ → Bool) → E → Type 0) (p : Problem) (calls : ℕ → ℕ → List (Abs W N) → Answer (Abs W N)) (transfer : ℕ → E → Outcome E W) where
  -- the analysis by any transfers
  abbrev A : Analysis E W State
  A = record (analysis_of B cap D M p calls) { transfer = transfer }

  abbrev Is32 : W → Type 0
  Is32 = B.words.fits M.context 32

  -- The analysis keeps its laws, shows words of 32 bits, has no decoding of words of the code alone, and its tables that are left open are printable.
  pub record IsWritten : Type 1 where
    pub laws : AnalysisLaws A
    pub shown : (a : ℕ) (x : E) → IsTrue (is_code p.addresses a) → D.fits x → IfShown Is32 (transfer a x)
    pub word : (P : ℕ → Type 0) (a : ℕ) (x : E) → ((code_word : ℕ) → p.word_at a ≡ Some code_word → P code_word) → IfWord P (transfer a x)
    pub printable : (trace : List ℕ) (t : Listings E) → TableFits A t → IsTableOf (left_open A) t (worklist_state (left_open A) trace) → IsPrintableTable p.spec (K (has_word p)) t

  module _ (is_written : IsWritten) where
    open_laws : AnalysisLaws (left_open A)
    open_laws = left_open_laws A is_written.laws

    endings_fit : ((a code_word : ℕ) → p.word_at a ≡ Some code_word → code_word < 2 ^ 32) → (t : Listings E) → TableFits A t → IsClosed (left_open A) t → AreEndingsOf Is32 t (endings_of A t)
    endings_fit small t fits closed a = at (t a) refl
      where
        at : (o : Option (Listing E)) → t a ≡ o → MayEndAt Is32 (ending_at A a o) o
        at None e = refl
        at (Some b) e =
            let fine = fits a b e in
            ending_fits A Is32 (A.transfer a b.elem) (is_written.shown a b.elem fine.0 fine.1)
            (is_written.word (λ w. w < 2 ^ 32) a b.elem (λ code_word is. small a code_word is)) b (closed.tells a b e)

    -- tables that are alike are the same to the analysis that is left open
    same_at : (x y : Option (Listing E)) → AreAlikeAt D x y → AreSameBlocks (left_open A) x y
    same_at None None same = tt
    same_at (Some b) (Some c) same = record { elem = same.elem; next = same.next; exits = same.exits; uses = same.uses }
    same_at None (Some c) same = absurd same
    same_at (Some b) None same = absurd same

    same_tables : (t u : Listings E) → AreAlike D t u → AreSameTables (left_open A) t u
    same_tables t u same at = same_at (t at) (u at) (same at)

    -- and end alike
    endings_same : (t u : Listings E) → TableFits A t → TableFits A u → AreAlike D t u → (a : ℕ) → endings_of A t a ≡ endings_of A u a
    endings_same t u fits fits_other same a = at (t a) (u a) refl refl (same a)
      where
        at : (x y : Option (Listing E)) → t a ≡ x → u a ≡ y → AreAlikeAt D x y → ending_at A a x ≡ ending_at A a y
        at None None e f same = refl
        at (Some b) (Some c) e f same =
            let fine = fits a b e in
            ending_same A Is32 (A.transfer a b.elem) (A.transfer a c.elem) (is_written.laws.transfer_same a b.elem c.elem fine.0 fine.1 (fits_other a c f).1 same.elem)
        at None (Some c) e f same = absurd same
        at (Some b) None e f same = absurd same

    -- the table of a trace, with its endings, is one that its texts tell
    pub writable_by : (image : Image) (trace : List ℕ) (t : Listings E) → IsImage image → IsOfImage p image → HasCodeWords image → IsLegal (left_open A) trace → IsComplete (worklist_state (left_open A) trace)
        → TableFits A t → IsTableOf (left_open A) t (worklist_state (left_open A) trace) → IsWritable D K p.spec (is_word_of image) t × AreEndingsOf Is32 t (endings_of A t)
    writable_by image trace t is of_image small legal complete fits table =
        let own = fits_image A t (tables_fit_the_image (left_open A) open_laws trace t fits table) in
        let of_code = fitting_tables_are_of_code A image is of_image.addresses_are t fits own in
        let tells : (ℕ → Option ℕ) → ℕ → Bool = λ word_at a. is_some (word_at a) in
        let same : has_word p ≡ is_word_of image = ap tells of_image.words_are in
        let closed = full_traces_close (left_open A) open_laws trace t legal complete fits table in (
          record {
            fits = of_code.0;
            printable = subst (λ code. IsPrintableTable p.spec (K code) t) same (is_written.printable trace t fits table);
            of_code = of_code.1;
          },
          endings_fit (λ a code_word e. small a code_word (sym (ap (λ (f : ℕ → Option ℕ). f a) of_image.words_are) ∙ e)) t fits closed,
        )

    -- each of its texts is read as that table with them, and as none that is not accepted
    module _ (Reads : ElementReading E) (word_in : WordReading W) (IsText : ElementText E) (word_text : ℕ → W → List ℕ) where
      pub accepted_by : (image : Image) (base : List ℕ) (trace : List ℕ) (t : Listings E) (ends : Endings W) (text : List ℕ)
          → HasParts Reads word_in IsText word_text D K Is32 p.spec image → IsOfImage p image → HasCodeWords image → IsTrue (list_all is_inside base)
          → IsLegal (left_open A) trace → IsComplete (worklist_state (left_open A) trace) → TableFits A t → IsTableOf (left_open A) t (worklist_state (left_open A) trace)
          → ((a : ℕ) → ends a ≡ endings_of A t a) → IsOpenTextOf word_text (IsText p.spec) p.spec image base t ends text
          → IsOpenTableIn Reads word_in p.spec base image text t ends
          × ((u : Listings E) (others : Endings W) → IsOpenTableIn Reads word_in p.spec base image text u others → IsVerdict A u others Accepted)
      accepted_by image base trace t ends text parts of_image small inside legal complete fits table ended is_text =
          let writable = writable_by image trace t parts.is_image of_image small legal complete fits table in
          let may : AreEndingsOf Is32 t ends = λ a. subst (λ x. MayEndAt Is32 x (t a)) (sym (ended a)) (writable.1 a) in
          let read = open_texts_are_read Reads word_in IsText word_text D K Is32 p.spec image base parts inside text t ends writable.0 may is_text in
          let closed = full_traces_close (left_open A) open_laws trace t legal complete fits table in
          let accepted : verdict_of (left_open A) t ≡ Accepted = (accepted_are_closed (left_open A) open_laws t fits).1 closed in (
            read,
            λ u others other.
                let fits_read : TableFits A u = λ at b e.
                let fit = read_open_tables_fit Reads word_in D p.spec parts.laws base image text u others other at b e in
                (ap (λ code. is_code code at) of_image.addresses_are ∙ words_are_code image parts.is_image at ∙ fit.0, fit.1) in
                let alike = open_tables_are_alike Reads word_in D p.spec parts.laws base image text t u ends others read other in
                let same = same_tables_same_verdict (left_open A) open_laws t u fits fits_read (same_tables t u alike.0) in
                inl (record {
                  verdict = sym accepted ∙ same;
                  endings = λ a up. sym (alike.1 a) ∙ ended a ∙ endings_same t u fits fits_read alike.0 a;
                }),
          )

module _ {E W N C : Type 0} (B : Algebra W N C) (laws : Laws W N C B) (cap : ℕ) (D : Elements E State) (M : Meaning E W N C) (F : (ℕ → Bool) → N → Type 0) (K : (ℕ → Bool) → E → Type 0)
    (notes : (code : ℕ → Bool) → NotesKeep B.notes code (F code)) (elements : (code : ℕ → Bool) → ElementsKeep D M (F code) (K code)) where
  -- by the transfers of the instructions themselves
  is_written : (p : Problem) (calls : ℕ → ℕ → List (Abs W N) → Answer (Abs W N)) → IsAnalysed B cap D M p calls → IsWritten B cap D M K p calls (transfer_of B cap M p calls)
  is_written p calls h = record {
    laws = transfers_keep_the_laws B laws cap D M p calls h;
    shown = λ a x code fit. shown_words_fit B laws cap D M p calls a x h code fit;
    word = λ P a x is. fetched_word B cap M p calls P a x (p.word_at a) is;
    printable = λ trace t fits table. open_tables_are_printable B laws cap D M F K notes elements p calls trace t h fits table;
  }

  pub open_traces_are_writable : OpenTracesAreWritable B cap D M K
  open_traces_are_writable p calls image trace t h is of_image small legal complete fits table =
      writable_by B cap D M K p calls (transfer_of B cap M p calls) (is_written p calls h) image trace t is of_image small legal complete fits table

  pub texts_of_open_traces_are_accepted : (Reads : ElementReading E) (word_in : WordReading W) (IsText : ElementText E) (word_text : ℕ → W → List ℕ) → TextsOfOpenTracesAreAccepted B cap D M K Reads word_in IsText word_text
  texts_of_open_traces_are_accepted Reads word_in IsText word_text p calls image base trace t ends text h parts of_image small inside legal complete fits table ended is_text =
      accepted_by B cap D M K p calls (transfer_of B cap M p calls) (is_written p calls h) Reads word_in IsText word_text image base trace t ends text parts of_image small inside legal complete fits table ended is_text

  -- by the transfers of cases, where joins and what is left of elements keep what their texts tell
  module _ (p : Problem) (calls : ℕ → ℕ → List (Abs W N) → Answer (Abs W N)) (h : IsAnalysed B cap D M p calls) (split : Split E) (depth : ℕ) (is_split : IsSplit D split) (alike : SplitsAlike D split)
      (keeps : (a : ℕ) (x : E) → K (has_word p) x → IfSome (split a x) (Each (K (has_word p)))) where
    abbrev merge : List Seen → List Seen
    merge = merged_uses (state_type p.spec).fields

    abbrev whole : Analysis E W State
    whole = analysis_of B cap D M p calls

    abbrev by_cases : ℕ → E → Outcome E W
    by_cases a x = case_transfer whole split merge depth a x

    case_laws : AnalysisLaws (case_analysis_of B cap D M p calls split depth)
    case_laws = case_analyses_keep_the_laws B laws cap D M p calls split depth h is_split alike

    fit_keeps : (a : ℕ) (x : E) → D.fits x → IfSome (split a x) (Each D.fits)
    fit_keeps a x fit = if_split (split a x) (λ pieces e. is_split.pieces_fit a x pieces fit e)

    fine_keeps : (a : ℕ) (x : E) → D.fits x × K (has_word p) x → IfSome (split a x) (Each (λ y. D.fits y × K (has_word p) y))
    fine_keeps a x fine = both_split D.fits (K (has_word p)) (split a x) (fit_keeps a x fine.0) (keeps a x fine.1)

    case_outcomes : (a : ℕ) (x : E) → IsTrue (is_code p.addresses a) → D.fits x → K (has_word p) x → IsOutcome p (K (has_word p)) (by_cases a x)
    case_outcomes a x code fit kept =
        outcome_by_cases whole split merge p (K (has_word p)) depth (elements (has_word p)).join (λ log each. (merged_of p.spec (state_type p.spec).fields log each, (uses_are_merged (state_type p.spec).fields log).order)) fine_keeps a
        (λ y fy ky. transfer_is B laws cap D M p calls h (F (has_word p)) (K (has_word p)) (notes (has_word p)) (elements (has_word p)) a y code fy ky) x fit kept

    pub cases_are_printable : (trace : List ℕ) (t : Listings E) → TableFits (case_analysis_of B cap D M p calls split depth) t
        → IsTableOf (case_analysis_of B cap D M p calls split depth) t (worklist_state (case_analysis_of B cap D M p calls split depth) trace) → IsPrintableTable p.spec (K (has_word p)) t
    cases_are_printable trace t fits table =
        printable_by B laws cap D M p calls h (F (has_word p)) (K (has_word p)) (notes (has_word p)) (elements (has_word p)) by_cases case_laws case_outcomes trace t fits table

    pub cases_are_written : IsWritten B cap D M K p calls by_cases
    cases_are_written = record {
      laws = case_laws;
      shown = λ a x code fit. shown_by_cases whole split merge (B.words.fits M.context 32) depth fit_keeps a (λ y fy. shown_words_fit B laws cap D M p calls a y h code fy) x fit;
      word = λ P a x is. word_by_cases whole split merge P depth a (λ y. fetched_word B cap M p calls P a y (p.word_at a) is) x;
      printable = λ trace t fits table. open_printable_by B laws cap D M p calls h (F (has_word p)) (K (has_word p)) (notes (has_word p)) (elements (has_word p)) by_cases case_laws case_outcomes trace t fits table;
    }
