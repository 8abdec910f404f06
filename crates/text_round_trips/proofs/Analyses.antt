-- What is written of analyses is read, and accepted.
use Rattle.std.proofs.Common.{◌≡◌, ◌∙◌, ℕ, Bool, List, Option, Some, None, is_some, sym, ap, subst}
use Rattle.base_trait.specs.Algebra.{Algebra}
use Rattle.base_trait.specs.Laws.{Laws}
use Rattle.semantics_values.specs.States.{State}
use Rattle.abstract_value_laws.specs.Abs.{Abs}
use Rattle.abstract_semantics.specs.Answers.{Answer}
use Rattle.fixpoint_theory.specs.Analysis.{Analysis}
use Rattle.fixpoint_theory.specs.Code.{is_code}
use Rattle.fixpoint_theory.specs.Elements.{Elements}
use Rattle.fixpoint_theory.specs.Table.{AreSameBlocks, AreSameTables, Listing, Listings, TableFits}
use Rattle.fixpoint_theory.proofs.Tables.{full_traces_close, tables_fit_the_image}
use Rattle.fixpoint_theory.proofs.Verdicts.{accepted_are_closed}
use Rattle.domain_laws.specs.Domain.{Meaning}
use Rattle.analysis_transfer_laws.specs.Analysis.{analysis_of}
use Rattle.analysis_transfer_laws.specs.Problem.{Problem}
use Rattle.analysis_transfer_laws.proofs.Keeping.{transfers_keep_the_laws}
use Rattle.analysis_table_laws.proofs.Verdicts.{same_tables_same_verdict}
use Rattle.analysis_table_laws.specs.Domains.{ElementsKeep}
use Rattle.analysis_table_laws.specs.InvariantLaws.{has_word}
use Rattle.analysis_table_laws.specs.Notes.{NotesKeep}
use Rattle.analysis_table_laws.specs.Tables.{IsPrintableTable}
use Rattle.analysis_table_laws.proofs.Tables.{tables_are_printable}
use Rattle.text_elements.specs.Parts.{ElementText}
use Rattle.text_element_readers.specs.Reading.{ElementReading}
use Rattle.text_element_readers.specs.Words.{WordReading}
use Rattle.text_table_reader.specs.Ends.{is_word_of}
use Rattle.text_table_reader.specs.Readings.{AreAlike, AreAlikeAt}
use Rattle.text_table_reader.proofs.Errors.{read_tables_fit, tables_are_alike}
use Rattle.text_round_trips.specs.Analyses.{TextsOfTracesAreAccepted, TracesAreWritable}
use Rattle.text_round_trips.proofs.Addresses.{words_are_code}
use Rattle.text_round_trips.proofs.Fitting.{fitting_tables_are_of_code}
use Rattle.text_round_trips.proofs.Tables.{texts_are_read}

module _ {E W N C : Type 0} (B : Algebra W N C) (laws : Laws W N C B) (cap : ℕ) (D : Elements E State) (M : Meaning E W N C) (F : (ℕ → Bool) → N → Type 0) (K : (ℕ → Bool) → E → Type 0)
    (notes : (code : ℕ → Bool) → NotesKeep B.notes code (F code)) (elements : (code : ℕ → Bool) → ElementsKeep D M (F code) (K code)) where
  pub traces_are_writable : TracesAreWritable B cap D M K
  traces_are_writable p calls image trace t h is of_image fits table =
      let A = analysis_of B cap D M p calls in
      let own = tables_fit_the_image A (transfers_keep_the_laws B laws cap D M p calls h) trace t fits table in
      let of_code = fitting_tables_are_of_code A image is of_image.addresses_are t fits own in
      let tells : (ℕ → Option ℕ) → ℕ → Bool = λ word_at a. is_some (word_at a) in
      let same : has_word p ≡ is_word_of image = ap tells of_image.words_are in
      record {
        fits = of_code.0;
        printable = subst (λ code. IsPrintableTable p.spec (K code) t) same (tables_are_printable B laws cap D M F K notes elements p calls trace t h fits table);
        of_code = of_code.1;
      }

  module _ (p : Problem) (calls : ℕ → ℕ → List (Abs W N) → Answer (Abs W N)) where
    abbrev A : Analysis E W State
    A = analysis_of B cap D M p calls

    -- tables that are alike are the same to the analysis
    same_at : (x y : Option (Listing E)) → AreAlikeAt D x y → AreSameBlocks A x y
    same_at None None h = tt
    same_at (Some b) (Some c) h = record { elem = h.elem; next = h.next; exits = h.exits; uses = h.uses }
    same_at None (Some c) h = absurd h
    same_at (Some b) None h = absurd h

    same_tables : (t u : Listings E) → AreAlike D t u → AreSameTables A t u
    same_tables t u h at = same_at (t at) (u at) (h at)

  pub texts_of_traces_are_accepted : (Reads : ElementReading E) (word_in : WordReading W) (IsText : ElementText E) (word_text : ℕ → W → List ℕ) (Fits : W → Type 0)
      → TextsOfTracesAreAccepted B cap D M K Reads word_in IsText word_text Fits
  texts_of_traces_are_accepted Reads word_in IsText word_text Fits p calls image base trace t text h parts of_image inside legal complete fits table is_text =
      let keeps = transfers_keep_the_laws B laws cap D M p calls h in
      let writable = traces_are_writable p calls image trace t h parts.is_image of_image fits table in
      let read = texts_are_read Reads word_in IsText word_text D K Fits p.spec image base parts inside text t writable is_text in
      let closed = full_traces_close (A p calls) keeps trace t legal complete fits table in
      let accepted = (accepted_are_closed (A p calls) keeps t fits).1 closed in (
        read,
        λ u other.
            let fits_read : TableFits (A p calls) u = λ at b e.
            let fit = read_tables_fit Reads word_in D p.spec parts.laws base image text u other at b e in
            (ap (λ code. is_code code at) of_image.addresses_are ∙ words_are_code image parts.is_image at ∙ fit.0, fit.1) in
            let alike = tables_are_alike Reads word_in D p.spec parts.laws base image text t u read other in
            sym (same_tables_same_verdict (A p calls) keeps t u fits fits_read (same_tables p calls t u alike)) ∙ accepted,
      )
