-- Texts of tables tell them.
use Rattle.std.proofs.Common.{◌≡◌, ◌∙◌, ℕ, Bool, List, [], ◌∷◌, ◌++◌, Option, Some, None, IsTrue, refl, sym, ap, subst, inl, inr, arith}
use Rattle.std.specs.Prelude.{◌==◌, Ok}
use Rattle.std.specs.List.{list_all}
use Rattle.std.proofs.lemmas.Bool.{cases_Bool}
use Rattle.std.proofs.lemmas.Option.{none-some, same_Some}
use Rattle.base_trait.specs.Lists.{Each}
use Rattle.spec_ir.specs.Specification.{Spec}
use Rattle.code_image.specs.Image.{Image, Segment, addresses}
use Rattle.fixpoint_theory.specs.Elements.{Elements}
use Rattle.fixpoint_theory.specs.Table.{Listing, Listings}
use Rattle.fixpoint_open_tables.specs.Endings.{Endings}
use Rattle.analysis_table_laws.specs.Tables.{IsPrintable}
use Rattle.text_lines.specs.Lines.{is_inside, lines}
use Rattle.text_elements.specs.Parts.{ElementText}
use Rattle.text_element_readers.specs.Reading.{ElementReading}
use Rattle.text_element_readers.specs.Words.{WordReading}
use Rattle.text_tables.specs.Heads.{head}
use Rattle.text_tables.specs.Open.{AreOpenBlocks}
use Rattle.text_tables.proofs.Plain.{closed_texts_are_plain, open_blocks, plain_blocks}
use Rattle.text_table_reader.specs.Blocks.{listings_of}
use Rattle.text_table_reader.specs.Endings.{endings_in}
use Rattle.text_table_reader.specs.Ends.{is_word_of}
use Rattle.text_table_reader.specs.Heads.{read_head}
use Rattle.text_table_reader.specs.Tables.{IsOpenTableIn}
use Rattle.text_table_reader.proofs.Errors.{open_tables_are_alike, read_open_tables_fit, tables_are_alike}
use Rattle.text_round_trips.specs.FirstTexts.{IsOpenTextOf, IsTextOf, first_head}
use Rattle.text_round_trips.specs.TableLaws.{ConvertedTextsAreRead, HasParts, OpenTablesReadAreWritable, OpenTextsAreRead, OpenTextsAreTold, OpenTextsTellTables, TablesReadAreWritable, TextsAreRead, TextsAreTold, TextsTellTables}
use Rattle.text_round_trips.specs.Writable.{AreEndingsOf, IsBlockOfCode, IsWritable, MayEndAt}
use Rattle.text_round_trips.proofs.Added.{adds_both, whole_text}
use Rattle.text_round_trips.proofs.Addresses.{addresses_ascend, words_are_among, words_are_below}
use Rattle.text_round_trips.proofs.BlocksBack.{blocks_back, blocks_begin, ended, endings_are, found, table_is}
use Rattle.text_round_trips.proofs.BlocksTold.{BlocksTold, are_blocks, blocks_told, may_each_end}
use Rattle.text_round_trips.proofs.HeadsBack.{AreBlockLines, IsShort, first_back, head_back, short_from}
use Rattle.text_round_trips.proofs.HeadsTold.{IsHead, head_tells}

-- what holds of each block holds of each that is found
each_found : {E : Type 0} (P : Listing E → Type 0) (blocks : List (ℕ × Listing E)) → Each (λ b. P b.1) blocks → (at : ℕ) (b : Listing E) → listings_of blocks at ≡ Some b → P b
each_found P [] each at b e = absurd (none-some b e)
each_found P (c ∷ blocks) each at b e = elim (cases_Bool (c.0 == at)) [
  | inl same ↦ subst P (same_Some c.1 b (rw same at e)) each.0
  | inr apart ↦ each_found P blocks each.1 at b (rw apart at e)
]

module _ {E W S : Type 0} (Reads : ElementReading E) (word_in : WordReading W) (IsText : ElementText E) (word_text : ℕ → W → List ℕ) (D : Elements E S) (K : (ℕ → Bool) → E → Type 0) (Fits : W → Type 0) where
  module _ (spec : Spec) (image : Image) (base : List ℕ) (parts : HasParts Reads word_in IsText word_text D K Fits spec image) where
    abbrev code : ℕ → Bool
    code = is_word_of image

    short : Each IsShort image.segments
    short = short_from image.segments 1048576 parts.is_image.segments.size (omega arith)

    -- ---- told

    module _ (bytes : List ℕ) (t : Listings E) (m : Endings W) (h : IsOpenTableIn Reads word_in spec base image bytes t m) where
      blocks_are : BlocksTold Reads word_in IsText word_text D K Fits spec parts.elements parts.words parts.fields code 0 h.later h.blocks h.ends
      blocks_are = blocks_told Reads word_in IsText word_text D K Fits spec parts.elements parts.words parts.fields code 0 h.later h.blocks h.ends None h.are_read refl

      written_blocks : AreOpenBlocks word_text (IsText spec) spec t m (addresses image.segments) blocks_are.text
      written_blocks =
          are_blocks word_text (IsText spec) spec code t m (addresses image.segments) 0 h.blocks h.ends blocks_are.text (addresses_ascend image parts.is_image)
          (λ a low word. words_are_among image parts.is_image a word) blocks_are.of_code (λ a low. (h.table a, h.end_so a)) blocks_are.written

      told_head : IsHead base image (lines bytes) h.later → IsOpenTextOf word_text (IsText spec) spec image base t m bytes
      told_head (inl adds) = inl (record {
        blocks = blocks_are.text;
        are_blocks = written_blocks;
        lines = whole_text bytes (head base image ++ blocks_are.text) (adds_both (head base image) blocks_are.text (lines bytes) h.later [] adds blocks_are.adds);
      })
      told_head (inr one) = inr (record {
        segment = one.segment;
        only = one.only;
        order = one.order_is;
        blocks = blocks_are.text;
        are_blocks = written_blocks;
        lines = whole_text bytes (first_head base one.segment ++ blocks_are.text) (adds_both (first_head base one.segment) blocks_are.text (lines bytes) h.later [] one.adds blocks_are.adds);
      })

      text_told : IsOpenTextOf word_text (IsText spec) spec image base t m bytes
      text_told = told_head (head_tells base image (lines bytes) h.later h.head)

      read_writable : IsWritable D K spec code t
      read_writable = record {
        fits = read_open_tables_fit Reads word_in D spec parts.laws base image bytes t m h;
        printable = λ at b e. (each_found (λ c. IsPrintable spec (K code) c × IsBlockOfCode code c) h.blocks blocks_are.each at b (sym (h.table at) ∙ e)).0;
        of_code = λ at b e. (each_found (λ c. IsPrintable spec (K code) c × IsBlockOfCode code c) h.blocks blocks_are.each at b (sym (h.table at) ∙ e)).1;
      }

      read_ends : AreEndingsOf Fits t m
      read_ends a =
          subst (λ x. MayEndAt Fits x (t a)) (sym (h.end_so a)) (subst (λ b. MayEndAt Fits (endings_in h.ends a) b) (sym (h.table a))
          (may_each_end Reads word_in IsText word_text D K Fits spec parts.elements parts.words parts.fields code h.blocks h.ends blocks_are.may a))

    -- ---- read back

    module _ (inside : IsTrue (list_all is_inside base)) (text : List ℕ) (t : Listings E) (m : Endings W) (writable : IsWritable D K spec code t) (may : AreEndingsOf Fits t m) where
      -- what is not listed has no ending
      not_listed : (a : ℕ) → t a ≡ None → m a ≡ None
      not_listed a e = subst (MayEndAt Fits (m a)) e (may a)

      read_behind : (front blocks : List ℕ) → text ≡ front ++ blocks → read_head base image (lines (front ++ blocks)) ≡ Ok (lines blocks)
          → AreOpenBlocks word_text (IsText spec) spec t m (addresses image.segments) blocks → IsOpenTableIn Reads word_in spec base image text t m
      read_behind front blocks spelled front_read written =
          let within = λ (a : ℕ) (b : Listing E) (e : t a ≡ Some b). words_are_among image parts.is_image a (writable.fits a b e).0 in
          record {
            blocks = found t (addresses image.segments);
            ends = ended t m (addresses image.segments);
            later = lines blocks;
            head = ap (λ t. read_head base image (lines t)) spelled ∙ front_read;
            are_read = blocks_back Reads word_in IsText word_text D K Fits spec parts.elements parts.words parts.fields code (words_are_below image parts.is_image) t m writable may (addresses image.segments) 0 blocks
                (addresses_ascend image parts.is_image) written;
            table = table_is t (addresses image.segments) within;
            end_so = endings_are t m (addresses image.segments) within not_listed;
          }

      begin : (blocks : List ℕ) → AreOpenBlocks word_text (IsText spec) spec t m (addresses image.segments) blocks → AreBlockLines blocks
      begin blocks written = blocks_begin word_text (IsText spec) spec t m (addresses image.segments) blocks written

      one_short : (segments : List Segment) (s : Segment) → segments ≡ s ∷ [] → Each IsShort segments → IsShort s
      one_short segments s only each = (subst (Each IsShort) only each).0

      text_read : IsOpenTextOf word_text (IsText spec) spec image base t m text → IsOpenTableIn Reads word_in spec base image text t m
      text_read (inl h) = read_behind (head base image) h.blocks h.lines (head_back base image inside h.blocks short (begin h.blocks h.are_blocks)) h.are_blocks
      text_read (inr h) =
          read_behind (first_head base h.segment) h.blocks h.lines (first_back base image inside h.blocks h.segment h.order h.only (one_short image.segments h.segment h.only short)) h.are_blocks

    -- ---- of which no block is left open

    abbrev nowhere : Endings W
    nowhere a = None

    none_ends : (t : Listings E) → AreEndingsOf Fits t nowhere
    none_ends t a = at (t a)
      where
        at : (b : Option (Listing E)) → MayEndAt Fits None b
        at None = refl
        at (Some b) = tt

    plain_text : (t : Listings E) (text : List ℕ) → IsOpenTextOf word_text (IsText spec) spec image base t nowhere text → IsTextOf (IsText spec) spec image base t text
    plain_text t text (inl h) = inl ((closed_texts_are_plain word_text (IsText spec) spec image base t nowhere text (λ a. refl)).0 h)
    plain_text t text (inr h) = inr (record {
      segment = h.segment;
      only = h.only;
      order = h.order;
      blocks = h.blocks;
      are_blocks = plain_blocks word_text (IsText spec) spec t nowhere (λ a. refl) (addresses image.segments) h.blocks h.are_blocks;
      lines = h.lines;
    })

    open_text : (t : Listings E) (text : List ℕ) → IsTextOf (IsText spec) spec image base t text → IsOpenTextOf word_text (IsText spec) spec image base t nowhere text
    open_text t text (inl h) = inl ((closed_texts_are_plain word_text (IsText spec) spec image base t nowhere text (λ a. refl)).1 h)
    open_text t text (inr h) = inr (record {
      segment = h.segment;
      only = h.only;
      order = h.order;
      blocks = h.blocks;
      are_blocks = open_blocks word_text (IsText spec) spec t nowhere (λ a. refl) (addresses image.segments) h.blocks h.are_blocks;
      lines = h.lines;
    })

  -- ---- the laws

  pub open_texts_are_told : OpenTextsAreTold Reads word_in IsText word_text D K Fits
  open_texts_are_told spec image base parts bytes t m h = text_told spec image base parts bytes t m h

  pub open_tables_read_are_writable : OpenTablesReadAreWritable Reads word_in IsText word_text D K Fits
  open_tables_read_are_writable spec image base parts bytes t m h = (read_writable spec image base parts bytes t m h, read_ends spec image base parts bytes t m h)

  pub open_texts_are_read : OpenTextsAreRead Reads word_in IsText word_text D K Fits
  open_texts_are_read spec image base parts inside text t m writable may h = text_read spec image base parts inside text t m writable may h

  pub open_texts_tell_tables : OpenTextsTellTables Reads word_in IsText word_text D K Fits
  open_texts_tell_tables spec image base parts inside text t u m n writable may other may_other h k =
      open_tables_are_alike Reads word_in D spec parts.laws base image text t u m n (text_read spec image base parts inside text t m writable may h) (text_read spec image base parts inside text u n other may_other k)

  pub converted_texts_are_read : ConvertedTextsAreRead Reads word_in IsText word_text D K Fits
  converted_texts_are_read spec image base parts inside bytes new t m h k =
      text_read spec image base parts inside new t m (read_writable spec image base parts bytes t m h) (read_ends spec image base parts bytes t m h) k

  pub texts_are_told : TextsAreTold Reads word_in IsText word_text D K Fits
  texts_are_told spec image base parts bytes t h = plain_text spec image base parts t bytes (text_told spec image base parts bytes t (λ a. None) h)

  pub tables_read_are_writable : TablesReadAreWritable Reads word_in IsText word_text D K Fits
  tables_read_are_writable spec image base parts bytes t h = read_writable spec image base parts bytes t (λ a. None) h

  pub texts_are_read : TextsAreRead Reads word_in IsText word_text D K Fits
  texts_are_read spec image base parts inside text t writable h =
      text_read spec image base parts inside text t (λ a. None) writable (none_ends spec image base parts t) (open_text spec image base parts t text h)

  pub texts_tell_tables : TextsTellTables Reads word_in IsText word_text D K Fits
  texts_tell_tables spec image base parts inside text t u writable other h k =
      tables_are_alike Reads word_in D spec parts.laws base image text t u (texts_are_read spec image base parts inside text t writable h) (texts_are_read spec image base parts inside text u other k)
