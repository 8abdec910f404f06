-- The laws of values over pairs.
use Rattle.std.proofs.Common.{◌++◌}
use Rattle.base_trait.specs.Algebra.{Algebra}
use Rattle.base_trait.specs.Laws.{Laws}
use Rattle.base_trait.proofs.Lists.{among_left, among_right, are_among_at, are_among_from}
use Rattle.base_product.specs.Meaning.{paired}
use Rattle.domain_product_laws.specs.Laws.{MapPartsDescribe, MapPartsFit, PartsAreStates, PartsDescribe, PartsFit, PartsList, PartsShape, ZipDescribes, ZipFits, ZipIsState, ZipLists, ZipMapDescribes, ZipMapFits, ZipShapes}
use Rattle.domain_product_laws.proofs.Mapped.{mapped_describes, mapped_fits, mapped_form, mapped_lists, mapped_map_describes, mapped_map_fits, mapped_shape}
use Rattle.domain_product_laws.proofs.Values as values
use Rattle.domain_product_laws.proofs.Values.{meet, states_meet, zip_form}
use Rattle.domain_product_laws.proofs.ZippedMaps as maps

module _ {V W M N C D : Type 0} (A : Algebra V M C) (B : Algebra W N D) where
  -- ---- parts
  pub map_parts_describe : MapPartsDescribe A B
  map_parts_describe valuation f m h = (
    mapped_map_describes (paired A B) A (λ x. x.0) (λ x. x.0) valuation valuation (λ w n x d. d.0) (λ s x d. d.0) f m h,
    mapped_map_describes (paired A B) B (λ x. x.1) (λ x. x.1) valuation valuation (λ w n x d. d.1) (λ s x d. d.1) f m h,
  )

  pub map_parts_fit : MapPartsFit A B
  map_parts_fit c cap m h = (
    mapped_map_fits (paired A B) A (λ x. x.0) (λ x. x.0) c c.0 cap (λ w x d. d.0) m h,
    mapped_map_fits (paired A B) B (λ x. x.1) (λ x. x.1) c c.1 cap (λ w x d. d.1) m h,
  )

  pub parts_describe : PartsDescribe A B
  parts_describe valuation n x h = (
    mapped_describes (paired A B) A (λ x. x.0) (λ x. x.0) valuation valuation (λ w n x d. d.0) (λ s x d. d.0) x n h,
    mapped_describes (paired A B) B (λ x. x.1) (λ x. x.1) valuation valuation (λ w n x d. d.1) (λ s x d. d.1) x n h,
  )

  pub parts_fit : PartsFit A B
  parts_fit c cap x h = (
    mapped_fits (paired A B) A (λ x. x.0) (λ x. x.0) c c.0 cap (λ w x d. d.0) x h,
    mapped_fits (paired A B) B (λ x. x.1) (λ x. x.1) c c.1 cap (λ w x d. d.1) x h,
  )

  pub parts_list : PartsList A B
  parts_list stamps x h = (
    mapped_lists (paired A B) A (λ x. x.0) (λ x. x.0) stamps
        (λ x d. are_among_from (A.notes.listed x.note.0) stamps (λ s k. are_among_at (A.notes.listed x.note.0 ++ B.notes.listed x.note.1) stamps s d (among_left s (A.notes.listed x.note.0) (B.notes.listed x.note.1) k))) x h,
    mapped_lists (paired A B) B (λ x. x.1) (λ x. x.1) stamps
        (λ x d. are_among_from (B.notes.listed x.note.1) stamps (λ s k. are_among_at (A.notes.listed x.note.0 ++ B.notes.listed x.note.1) stamps s d (among_right s (A.notes.listed x.note.0) (B.notes.listed x.note.1) k))) x h,
  )

  pub parts_are_states : PartsAreStates A B
  parts_are_states c cap t x h = (
    (mapped_form (λ x. x.0) (λ x. x.0) t x h.0, (parts_fit c cap x h.1).0),
    (mapped_form (λ x. x.1) (λ x. x.1) t x h.0, (parts_fit c cap x h.1).1),
  )

module _ {V W M N C D : Type 0} (A : Algebra V M C) (B : Algebra W N D) (a : Laws V M C A) (b : Laws W N D B) where
  -- ---- both put side by side
  pub zip_map_describes : ZipMapDescribes A B
  zip_map_describes c cap valuation f x y fx fy e h g = maps.zip_map_describes A B a b c cap x y fx fy e valuation valuation valuation (λ w n t d. d) (λ w n t d. d) f h g

  pub zip_map_fits : ZipMapFits A B
  zip_map_fits c cap x y room fx fy e = maps.zip_map_fits A B a b c cap x y fx fy e room

  pub zip_describes : ZipDescribes A B
  zip_describes c cap valuation n s x y fx fy p q h g = values.described A B a b c cap valuation valuation valuation (λ w n t d. d) (λ w n t d. d) x y n (meet s x y p q) fx fy h g

  pub zip_fits : ZipFits A B
  zip_fits c cap s x y room fx fy p q = values.fits A B a b c cap room x y (meet s x y p q) fx fy

  pub zip_shapes : ZipShapes A B
  zip_shapes c cap s x y h g = values.shapes A B a b c cap s x y h g

  pub zip_lists : ZipLists A B
  zip_lists c cap stamps x y h g = values.lists A B a b c cap stamps x y h g

  pub zip_is_state : ZipIsState A B
  zip_is_state c cap t x y room h g = (zip_form A B a b c cap t x y h.0 g.0, values.fits A B a b c cap room x y (states_meet t x y h.0 g.0) h.1 g.1)

pub parts_shape : (V W M N : Type 0) → PartsShape V W M N
parts_shape V W M N s x h = (mapped_shape (λ x. x.0) (λ x. x.0) s x h, mapped_shape (λ x. x.1) (λ x. x.1) s x h)
