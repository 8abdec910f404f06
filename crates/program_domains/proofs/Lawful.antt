-- What the laws of analyses ask of a domain.
use Rattle.std.proofs.Common.{◌≡◌, ◌∙◌, ℕ, ◌^◌, true, false, cond, max, Bool, IsTrue, List, ◌++◌, arith, refl, sym, ap}
use Rattle.std.specs.Prelude.{codes}
use Rattle.base_trait.specs.Algebra.{Algebra}
use Rattle.base_trait.specs.Laws.{Laws}
use Rattle.base_trait.proofs.Tests.{and_both}
use Rattle.base_product.specs.Instance.{paired_laws}
use Rattle.domain_affine_base.specs.Instance.{affine_laws}
use Rattle.spec_ir.specs.Specification.{Spec}
use Rattle.base_cuts.specs.Cuts.{CutLaws, Cuts}
use Rattle.domain_laws.specs.Domain.{DomainLaws}
use Rattle.domain_laws.specs.Pieces.{AreCut}
use Rattle.domain_laws.specs.States.{has_states, state_type}
use Rattle.domain_laws.specs.Cells.{cells}
use Rattle.domain_laws.proofs.Domain.{cells_keep_the_laws}
use Rattle.domain_laws.proofs.Fields.{made_for}
use Rattle.domain_laws.proofs.Pieces.{pairs_cut, stay_whole}
use Rattle.domain_cell_pieces.proofs.Pieces.{cells_are_cut}
use Rattle.domain_affine_laws.specs.Calls.{affine_elements}
use Rattle.domain_affine_laws.proofs.Domain.{of_states}
use Rattle.domain_product_laws.specs.Domain.{may_pair}
use Rattle.domain_product_laws.proofs.Domain.{pairs_are_domains}
use Rattle.state_cell_text.specs.Places.{state_fields}
use Rattle.text_words.specs.Readings.{Readings}
use Rattle.text_words.specs.Texts.{Texts}
use Rattle.text_elements.specs.Cells.{cell_lines}
use Rattle.text_elements.specs.Parts.{part_line}
use Rattle.text_elements.specs.Rows.{row_lines}
use Rattle.text_element_readers.specs.Reading.{CellsRead}
use Rattle.text_element_readers.specs.Laws.{ReadingLaws}
use Rattle.program_domains.specs.Domains.{DomainOf, cells_of, pair_of, relations}
use Rattle.program_domains.proofs.Read.{pairs_are_read, relations_are_read}
use Rattle.program_domains.proofs.Rows.{have_kept}
use Rattle.program_domains.proofs.Telling.{Tells, cells_tell_so, pairs_tell_so, relations_tell_so}
use Rattle.program_domains.proofs.Texts.{EachHasText, HaveOneText}

-- The base keeps its laws and joins, and lists at most 256 cells; the domain is one for the specification, and its elements are cut; each element has a text; and what is
-- read of lines is one element, which fits. What elements tell of claims is true, and the same of elements that are the same.
pub record IsLawful {E W N C : Type 0} (domain : DomainOf E W N C) (spec : Spec) : Type 0 where
  pub laws : Laws W N C domain.base
  pub joins : IsTrue domain.base.joins
  pub few : domain.cap ≡ 256
  pub keeps : DomainLaws domain.base domain.cap spec domain.elements domain.meaning
  pub cut : AreCut domain.elements domain.pieces
  pub written : EachHasText (domain.IsText spec)
  pub reads : ReadingLaws domain.Reads domain.elements spec
  pub tells : Tells (state_type spec).fields domain.elements domain.telling

-- Elements that are the same have one text.
abbrev pub IsExact : {E W N C : Type 0} → DomainOf E W N C → Spec → Type 0
IsExact domain spec = HaveOneText (domain.IsText spec) domain.elements.same

-- It is lawful and exact.
pub record IsPlain {E W N C : Type 0} (domain : DomainOf E W N C) (spec : Spec) : Type 0 where
  pub lawful : IsLawful domain spec
  pub exact : IsExact domain spec

module _ (spec : Spec) (has : has_states spec ≡ true) where
  -- ---- cells
  pub cells_are_plain : {W N C : Type 0} (base : Algebra W N C) (cuts : Cuts W C) (c : C) (name : List ℕ) (texts : Texts W N) (readings : Readings W N) → Laws W N C base → CutLaws base.words cuts → IsTrue base.joins → base.words.looks ≡ false
      → ReadingLaws (CellsRead readings 256 name) (cells base c 256 (state_type spec).fields) spec → IsPlain (cells_of (state_type spec) base cuts c 256 name texts readings) spec
  cells_are_plain base cuts c name texts readings laws cut joins unseen reads = record {
    lawful = record {
      laws = laws;
      joins = joins;
      few = refl;
      keeps = cells_keep_the_laws base laws c 256 (state_type spec) spec (made_for base (state_type spec) spec joins unseen has refl);
      cut = cells_are_cut base laws cuts cut joins c 256 (state_type spec).fields;
      written = λ x. (part_line name ++ cell_lines texts spec (state_fields spec) x, refl);
      reads = reads;
      tells = cells_tell_so base laws c 256 (state_type spec).fields;
    };
    exact = λ x y text other same h k. h ∙ ap (λ z. part_line name ++ cell_lines texts spec (state_fields spec) z) same ∙ sym k;
  }

  -- ---- affine relations
  pub relations_are_lawful : IsLawful (relations (state_type spec)) spec
  relations_are_lawful = record {
    laws = affine_laws;
    joins = refl;
    few = refl;
    keeps = of_states 256 (omega arith) spec has;
    cut = stay_whole (affine_elements (state_type spec));
    written = λ x.
        let found = have_kept x.k x.rows in
        let lines = row_lines found.0 in
        (part_line (codes "affine") ++ lines, record { lines = lines; rows = record { rows = found.0; generate = found.1.generate; add = found.1.add; lines = refl }; part = refl });
    reads = relations_are_read spec has;
    tells = relations_tell_so (state_type spec);
  }

-- ---- two side by side
module _ {E F V W M N C D : Type 0} (first : DomainOf E V M C) (second : DomainOf F W N D) (spec : Spec) where
  pub pairs_are_lawful : IsLawful first spec → IsLawful second spec → IsTrue (may_pair first.base second.base) → IsLawful (pair_of first second) spec
  pairs_are_lawful left right may =
      let capacity = λ (joins : Bool) (is : joins ≡ true). sym (ap (λ t. cond t 256 (2 ^ 32)) is) in
      record {
        laws = paired_laws first.base second.base left.laws right.laws;
        joins = and_both first.base.joins second.base.joins left.joins right.joins;
        few = ap (λ t. max t second.cap) left.few ∙ ap (λ t. max 256 t) right.few;
        keeps = pairs_are_domains first.base second.base left.laws right.laws first.cap second.cap first.meaning second.meaning first.elements second.elements spec
            (left.few ∙ capacity first.base.joins left.joins) (right.few ∙ capacity second.base.joins right.joins) may left.keeps right.keeps;
        cut = pairs_cut first.elements second.elements first.pieces second.pieces left.cut right.cut;
        written = λ x.
            let one = left.written x.0 in
            let other = right.written x.1 in
            (one.0 ++ other.0, record { left = one.0; right = other.0; first = one.1; second = other.1; both = refl });
        reads = pairs_are_read first.Reads second.Reads first.elements second.elements spec left.reads right.reads;
        tells = pairs_tell_so (state_type spec).fields first.elements second.elements first.telling second.telling left.tells right.tells;
      }

  pub pairs_are_plain : IsPlain first spec → IsPlain second spec → IsTrue (may_pair first.base second.base) → IsPlain (pair_of first second) spec
  pairs_are_plain left right may = record {
    lawful = pairs_are_lawful left.lawful right.lawful may;
    exact = λ x y text other same h k.
        let one = left.exact x.0 y.0 h.left k.left same.0 h.first k.first in
        let two = right.exact x.1 y.1 h.right k.right same.1 h.second k.second in
        h.both ∙ ap (λ (t : List ℕ). t ++ h.right) one ∙ ap (λ (t : List ℕ). k.left ++ t) two ∙ sym k.both;
  }
