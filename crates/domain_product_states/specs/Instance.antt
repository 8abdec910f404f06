-- The laws of elements of cells over two bases.
use Rattle.std.proofs.Common.{◌≡◌, ℕ, ◌^◌, max, Bool, true, false, cond, refl, IsTrue}
use Rattle.std.specs.Prelude.{◌&&◌, ◌||◌, not}
use Rattle.base_trait.specs.Algebra.{Algebra}
use Rattle.base_trait.specs.Laws.{Laws}
use Rattle.base_product.specs.Meaning.{paired}
use Rattle.spec_ir.specs.Specification.{Spec}
use Rattle.domain_laws.specs.Domain.{DomainLaws}
use Rattle.domain_laws.specs.States.{StateType, has_states, same_states, state_type}
use Rattle.domain_laws.specs.Calls.{cell_calls, is_for}
use Rattle.domain_laws.specs.Cells.{cells}
use Rattle.domain_laws.specs.Pieces.{AreCut}
use Rattle.domain_laws.proofs.Domain.{cells_keep_the_laws, it_joins}
use Rattle.domain_laws.proofs.Pieces.{pairs_cut}
use Rattle.base_cuts.specs.Cuts.{CutLaws, Cuts}
use Rattle.fixpoint_cases.specs.Pieces.{pair_piece}
use Rattle.domain_cell_pieces.specs.Pieces.{cell_piece}
use Rattle.domain_cell_pieces.proofs.Pieces.{cells_are_cut}
use Rattle.domain_product_laws.specs.Domain.{may_pair}
use Rattle.domain_product_laws.proofs.Domain.{pairs_are_domains}
use Rattle.domain_product_states.specs.Parts.{pair_elements, pair_of_cells}

split : (p q u v r : Bool) → IsTrue ((p && q) && (not (u || v) && r)) → IsTrue (p && (not u && r)) × IsTrue (q && (not v && r)) × IsTrue (p && (q && not (u && v)))
split true true false false r h = (h, h, refl)
split true true true v r h = cc
split true true false true r h = cc
split true false u v r h = cc
split false q u v r h = cc

module _ {V W M N C D : Type 0} (A : Algebra V M C) (B : Algebra W N D) where
  -- what is for a specification over the pair is so over each base, and both may stand side by side
  pub for_parts : (t : StateType) (spec : Spec) → IsTrue (is_for (paired A B) t spec) → IsTrue (is_for A t spec) × IsTrue (is_for B t spec) × IsTrue (may_pair A B)
  for_parts t spec h = split A.joins B.joins A.words.looks B.words.looks (has_states spec && same_states t (state_type spec)) h

  pub pairs_of_cells_keep_the_laws : Laws V M C A → Laws W N D B → (m n : ℕ) → m ≡ cond A.joins 256 (2 ^ 32) → n ≡ cond B.joins 256 (2 ^ 32)
      → (c : C × D) (t : StateType) (spec : Spec) → IsTrue (is_for (paired A B) t spec)
      → DomainLaws (paired A B) (max m n) spec (pair_elements A B c m n (max m n) t) (pair_of_cells A B c m n (max m n) t)
  pairs_of_cells_keep_the_laws a b m n e d c t spec made =
      let is = for_parts t spec made in
      pairs_are_domains A B a b m n (cell_calls A c.0 m t) (cell_calls B c.1 n t) (cells A c.0 m t.fields) (cells B c.1 n t.fields) spec e d is.2
      (cells_keep_the_laws A a c.0 m t spec is.0) (cells_keep_the_laws B b c.1 n t spec is.1)

  pub pairs_of_cells_are_cut : Laws V M C A → Laws W N D B → (K : Cuts V C) (L : Cuts W D) → CutLaws A.words K → CutLaws B.words L → (m n cap : ℕ) (c : C × D) (t : StateType) (spec : Spec)
      → IsTrue (is_for (paired A B) t spec)
      → AreCut (pair_elements A B c m n cap t) (pair_piece (cell_piece A K c.0 m t.fields) (cell_piece B L c.1 n t.fields))
  pairs_of_cells_are_cut a b K L k l m n cap c t spec made =
      let is = for_parts t spec made in
      pairs_cut (cells A c.0 m t.fields) (cells B c.1 n t.fields) (cell_piece A K c.0 m t.fields) (cell_piece B L c.1 n t.fields)
      (cells_are_cut A a K k (it_joins A t spec is.0) c.0 m t.fields) (cells_are_cut B b L l (it_joins B t spec is.1) c.1 n t.fields)
