-- A text is that of one table, up to how elements are written, or has one error.
use Rattle.std.proofs.Common.{◌≡◌, ◌∙◌, ◌≤◌, ◌⊎◌, ℕ, ◌+◌, ◌-◌, Bool, List, Option, Some, None, IsTrue, length, ap, inl, inr, refl, sym, subst}
use Rattle.std.specs.Prelude.{Result, Ok, Err}
use Rattle.spec_ir.specs.Specification.{Spec}
use Rattle.code_image.specs.Image.{Image}
use Rattle.fixpoint_theory.specs.Elements.{Elements}
use Rattle.fixpoint_theory.specs.Table.{Listing, Listings}
use Rattle.fixpoint_open_tables.specs.Endings.{Endings}
use Rattle.fixpoint_open_tables.specs.declared.ending.Ending.{Ending}
use Rattle.text_faults.specs.declared.table_error.TableError.{TableError}
use Rattle.text_lines.specs.Lines.{Lines, lines}
use Rattle.text_element_readers.specs.Laws.{ReadingLaws}
use Rattle.text_element_readers.specs.Reading.{ElementReading}
use Rattle.text_element_readers.specs.Words.{WordReading}
use Rattle.text_table_reader.specs.Blocks.{AreRead, listings_of}
use Rattle.text_table_reader.specs.Endings.{endings_in}
use Rattle.text_table_reader.specs.Heads.{Faulty, read_head}
use Rattle.text_table_reader.specs.Tables.{IsErrorIn, IsFaulty, IsFaultyBehind, IsOpenTableIn, IsTableIn, error_at}
use Rattle.text_table_reader.specs.Ends.{is_word_of}
use Rattle.text_table_reader.specs.Readings.{AreAlike, AreAlikeAt}
use Rattle.text_table_reader.proofs.Fits.{read_blocks_fit}
use Rattle.text_table_reader.proofs.One.{blocks_alike, reads_are_one}
use Rattle.text_table_reader.proofs.Shorter.{ending_shorter}
use Rattle.text_table_reader.proofs.Some.{something_is_read}

module _ {E W S : Type 0} (Reads : ElementReading E) (word_in : WordReading W) (D : Elements E S) (spec : Spec) (laws : ReadingLaws Reads D spec) (name : List ℕ) (image : Image) where
  abbrev code : ℕ → Bool
  code = is_word_of image

  -- ---- what two readings of lines have
  later_one : (ls later other : Lines) → read_head name image ls ≡ Ok later → read_head name image ls ≡ Ok other → later ≡ other
  later_one ls later other e f = let same : Ok later ≡ Ok other = sym e ∙ f in cc

  -- tables that are read of one text are alike, and end alike
  pub open_tables_are_alike : (bytes : List ℕ) (t u : Listings E) (x y : Endings W) → IsOpenTableIn Reads word_in spec name image bytes t x → IsOpenTableIn Reads word_in spec name image bytes u y
      → AreAlike D t u × ((a : ℕ) → x a ≡ y a)
  open_tables_are_alike bytes t u x y h k =
      let same = later_one (lines bytes) h.later k.later h.head k.head in
      let own = subst (λ ls. AreRead Reads word_in spec code 0 ls k.blocks k.ends None) (sym same) k.are_read in
      let one = reads_are_one Reads word_in D spec laws code 0 h.later h.blocks k.blocks h.ends k.ends None None h.are_read own in (
        (λ at.
            let alike = blocks_alike D h.blocks k.blocks one.0 at in
            subst (λ z. AreAlikeAt D z (u at)) (sym (h.table at)) (subst (λ z. AreAlikeAt D (listings_of h.blocks at) z) (sym (k.table at)) alike)),
        (λ a. h.end_so a ∙ ap (λ es. endings_in es a) one.1 ∙ sym (k.end_so a)),
      )

  pub tables_are_alike : (bytes : List ℕ) (t u : Listings E) → IsTableIn Reads word_in spec name image bytes t → IsTableIn Reads word_in spec name image bytes u → AreAlike D t u
  tables_are_alike bytes t u h k = (open_tables_are_alike bytes t u (λ a. None) (λ a. None) h k).0

  pub open_tables_have_no_error : (bytes : List ℕ) (t : Listings E) (x : Endings W) (error : TableError) → IsOpenTableIn Reads word_in spec name image bytes t x → IsErrorIn Reads word_in spec name image bytes error → ⊥
  open_tables_have_no_error bytes t x error h k = at k.faulty
    where
      at : IsFaulty Reads word_in spec name image (lines bytes) k.fault → ⊥
      at (inl e) = let one = h.head in cc
      at (inr f) =
          let same = later_one (lines bytes) h.later f.later h.head f.head in
          let own = subst (λ ls. AreRead Reads word_in spec code 0 ls f.blocks f.ends (Some f.left)) (sym same) f.are_read in
          let none_some = (reads_are_one Reads word_in D spec laws code 0 h.later h.blocks f.blocks h.ends f.ends None (Some f.left) h.are_read own).2 in
          cc

  pub tables_have_no_error : (bytes : List ℕ) (t : Listings E) (error : TableError) → IsTableIn Reads word_in spec name image bytes t → IsErrorIn Reads word_in spec name image bytes error → ⊥
  tables_have_no_error bytes t error h k = open_tables_have_no_error bytes t (λ a. None) error h k

  faults_one : (ls : Lines) (fault other : Faulty) → IsFaulty Reads word_in spec name image ls fault → IsFaulty Reads word_in spec name image ls other → fault ≡ other
  faults_one ls fault other (inl e) (inl f) = let same : Err fault ≡ Err other = sym e ∙ f in cc
  faults_one ls fault other (inl e) (inr k) = let ok = k.head in cc
  faults_one ls fault other (inr h) (inl f) = let ok = h.head in cc
  faults_one ls fault other (inr h) (inr k) =
      let same = later_one ls h.later k.later h.head k.head in
      let own = subst (λ ls. AreRead Reads word_in spec code 0 ls k.blocks k.ends (Some k.left)) (sym same) k.are_read in
      let somes = (reads_are_one Reads word_in D spec laws code 0 h.later h.blocks k.blocks h.ends k.ends (Some h.left) (Some k.left) h.are_read own).2 in
      let left : h.left ≡ k.left = cc in
      let one = h.is in
      let two = k.is in
      cc

  pub errors_are_one : (bytes : List ℕ) (error other : TableError) → IsErrorIn Reads word_in spec name image bytes error → IsErrorIn Reads word_in spec name image bytes other → error ≡ other
  errors_are_one bytes error other h k =
      h.is ∙ ap (λ (fault : Faulty). error_at (1 + (length (lines bytes) - length fault.left)) fault.rule) (faults_one (lines bytes) h.fault k.fault h.faulty k.faulty) ∙ sym k.is

  -- ---- one of both stands

  -- a table with its endings, or an error
  abbrev pub IsSomething : List ℕ → Type 0
  IsSomething bytes = ((t : Listings E) × (x : Endings W) × IsOpenTableIn Reads word_in spec name image bytes t x) ⊎ ((error : TableError) × IsErrorIn Reads word_in spec name image bytes error)

  pub open_tables_or_errors : (bytes : List ℕ) → IsSomething bytes
  open_tables_or_errors bytes = at (read_head name image (lines bytes)) refl
    where
      refused : (fault : Faulty) → IsFaulty Reads word_in spec name image (lines bytes) fault → IsSomething bytes
      refused fault is = inr (error_at (1 + (length (lines bytes) - length fault.left)) fault.rule, record { fault = fault; faulty = is; is = refl })

      read : (later : Lines) → read_head name image (lines bytes) ≡ Ok later → (blocks : List (ℕ × Listing E)) (ends : List (ℕ × Option (Ending W))) (fault : Option Lines)
          → AreRead Reads word_in spec code 0 later blocks ends fault → IsSomething bytes
      read later e blocks ends None is = inl (listings_of blocks, endings_in ends, record { blocks = blocks; ends = ends; later = later; head = e; are_read = is; table = λ a. refl; end_so = λ a. refl })
      read later e blocks ends (Some left) is =
          refused _ (inr (record { blocks = blocks; ends = ends; later = later; left = left; head = e; are_read = is; is = refl }))

      at : (o : Result Lines Faulty) → read_head name image (lines bytes) ≡ o → IsSomething bytes
      at (Err fault) e = refused fault (inl e)
      at (Ok later) e = let found = something_is_read Reads word_in D spec laws code (ending_shorter word_in spec code) 0 later in read later e found.0 found.1 found.2 found.3

  -- ---- what is read fits
  pub read_open_tables_fit : (bytes : List ℕ) (t : Listings E) (x : Endings W) → IsOpenTableIn Reads word_in spec name image bytes t x → (at : ℕ) (b : Listing E) → t at ≡ Some b → IsTrue (code at) × D.fits b.elem
  read_open_tables_fit bytes t x h at b e = read_blocks_fit Reads word_in D spec laws code 0 h.later h.blocks h.ends None h.are_read at b (sym (h.table at) ∙ e)

  pub read_tables_fit : (bytes : List ℕ) (t : Listings E) → IsTableIn Reads word_in spec name image bytes t → (at : ℕ) (b : Listing E) → t at ≡ Some b → IsTrue (code at) × D.fits b.elem
  read_tables_fit bytes t h at b e = read_open_tables_fit bytes t (λ a. None) h at b e
