-- Pairs of elements keep what both parts keep.
use Rattle.std.proofs.Common.{ℕ, Bool, List, [], ◌∷◌}
use Rattle.base_trait.specs.Algebra.{Algebra}
use Rattle.base_trait.specs.Lists.{Each}
use Rattle.base_product.specs.Meaning.{paired}
use Rattle.abstract_map_laws.specs.declared.cell.AbstractCell.{AbstractCell}
use Rattle.abstract_map_laws.specs.Keys.{either_key}
use Rattle.abstract_map_laws.specs.Maps.{Map, cell, keys}
use Rattle.abstract_map_laws.proofs.Absorbing.{folded_each}
use Rattle.abstract_map_laws.proofs.Places.{each_cell, each_made}
use Rattle.abstract_value_laws.specs.Abs.{Abs, Cases, Parts, flag, word, made, map, no_case, absent, present, no_part, part}
use Rattle.fixpoint_theory.specs.Elements.{Elements}
use Rattle.fixpoint_theory.specs.Pairs.{paired as paired_elements}
use Rattle.domain_laws.specs.Domain.{Meaning}
use Rattle.domain_product_laws.specs.Calls.{first_value, mapped_cases, mapped_cells, mapped_parts, mapped_value, second_value, zip_cases, zip_cells, zip_map, zip_parts, zip_value, zipped}
use Rattle.domain_product_laws.specs.Domain.{pair_meaning}
use Rattle.analysis_table_laws.specs.Domains.{ElementsKeep}
use Rattle.analysis_table_laws.specs.Notes.{BothNotes, NotesKeep}
use Rattle.analysis_table_laws.specs.Values.{CaseMapsAre, HasNotes, MapHasNotes, PartMapsAre}
use Rattle.analysis_table_laws.proofs.Maps.{join_noted}
use Rattle.analysis_table_laws.proofs.Notes.{pairs_keep}

-- ---- values taken apart
module _ {V W M N : Type 0} (f : V → W) (g : M → N) (F : M → Type 0) (G : N → Type 0) (to : (note : M) → F note → G (g note)) where
  cells_mapped : (es : List (ℕ × AbstractCell V M)) → Each (λ e. F e.1.note) es → Each (λ e. G e.1.note) (mapped_cells f g es)
  cells_mapped [] h = tt
  cells_mapped (e ∷ es) h = (to e.1.note h.0, cells_mapped es h.1)

  mutual
    pub mapped_noted : (x : Abs V M) → HasNotes F x → HasNotes G (mapped_value f g x)
    mapped_noted (flag t) h = tt
    mapped_noted (word w x) h = tt
    mapped_noted (made t cs) h = cases_mapped cs h
    mapped_noted (map m x) h = (to x.rest.note h.0, cells_mapped x.cells h.1)

    cases_mapped : (cs : Cases V M) → CaseMapsAre (MapHasNotes F) cs → CaseMapsAre (MapHasNotes G) (mapped_cases f g cs)
    cases_mapped no_case h = tt
    cases_mapped (absent cs) h = cases_mapped cs h
    cases_mapped (present xs cs) h = (parts_mapped xs h.0, cases_mapped cs h.1)

    parts_mapped : (xs : Parts V M) → PartMapsAre (MapHasNotes F) xs → PartMapsAre (MapHasNotes G) (mapped_parts f g xs)
    parts_mapped no_part h = tt
    parts_mapped (part x xs) h = (mapped_noted x h.0, parts_mapped xs h.1)

-- ---- values put side by side
module _ {V W M N C D : Type 0} (A : Algebra V M C) (B : Algebra W N D) (c : C × D) (cap : ℕ) (code : ℕ → Bool) (F : M → Type 0) (G : N → Type 0) (first : NotesKeep A.notes code F) (second : NotesKeep B.notes code G) where
  abbrev Both : M × N → Type 0
  Both = BothNotes F G

  map_zipped : (m : ℕ) (x : Map V M) (y : Map W N) → MapHasNotes F m x → MapHasNotes G m y → MapHasNotes Both m (zip_map A B c cap x y)
  map_zipped m x y h k =
      folded_each (paired A B) c cap (zipped x y) (λ z. Both z.note) (join_noted (paired A B) c code Both (pairs_keep A.notes B.notes code F G first second) x.width) (
        (h.0, k.0),
        each_made (λ z. Both z.note) (either_key (keys x) (keys y)) (λ n. zip_cells (cell x n) (cell y n))
            (λ n a. (each_cell (λ z. F z.note) x.rest x.cells n h.0 h.1, each_cell (λ z. G z.note) y.rest y.cells n k.0 k.1)),
      )

  mutual
    pub zipped_noted : (x : Abs V M) (y : Abs W N) → HasNotes F x → HasNotes G y → HasNotes Both (zip_value A B c cap x y)
    zipped_noted (flag t) (flag u) h k = tt
    zipped_noted (word w x) (word u y) h k = tt
    zipped_noted (made ty cs) (made tz ds) h k = cases_zipped cs ds h k
    zipped_noted (map m x) (map n y) h k = map_zipped m x y h k
    zipped_noted _ _ h k = tt

    cases_zipped : (cs : Cases V M) (ds : Cases W N) → CaseMapsAre (MapHasNotes F) cs → CaseMapsAre (MapHasNotes G) ds → CaseMapsAre (MapHasNotes Both) (zip_cases A B c cap cs ds)
    cases_zipped (absent cs) (absent ds) h k = cases_zipped cs ds h k
    cases_zipped (absent cs) (present ys ds) h k = cases_zipped cs ds h k.1
    cases_zipped (present xs cs) (absent ds) h k = cases_zipped cs ds h.1 k
    cases_zipped (present xs cs) (present ys ds) h k = (parts_zipped xs ys h.0 k.0, cases_zipped cs ds h.1 k.1)
    cases_zipped _ _ h k = tt

    parts_zipped : (xs : Parts V M) (ys : Parts W N) → PartMapsAre (MapHasNotes F) xs → PartMapsAre (MapHasNotes G) ys → PartMapsAre (MapHasNotes Both) (zip_parts A B c cap xs ys)
    parts_zipped (part x xs) (part y ys) h k = (zipped_noted x y h.0 k.0, parts_zipped xs ys h.1 k.1)
    parts_zipped _ _ h k = tt

-- ---- domains side by side
pub domains_keep : {E L V W M N C D S : Type 0} (A : Algebra V M C) (B : Algebra W N D) (cap : ℕ) (code : ℕ → Bool) (P : Elements E S) (Q : Elements L S) (first : Meaning E V M C) (second : Meaning L W N D)
    (F : M → Type 0) (G : N → Type 0) (J : E → Type 0) (K : L → Type 0) → NotesKeep A.notes code F → NotesKeep B.notes code G → ElementsKeep P first F J → ElementsKeep Q second G K
    → ElementsKeep (paired_elements P Q) (pair_meaning A B cap first second) (BothNotes F G) (λ x. J x.0 × K x.1)
domains_keep A B cap code P Q first second F G J K notes others elements more = record {
  entry = λ lines. (elements.entry lines, more.entry lines);
  opened = λ pc x h. zipped_noted A B (first.context, second.context) cap code F G notes others (first.opened pc x.0) (second.opened pc x.1) (elements.opened pc x.0 h.0) (more.opened pc x.1 h.1);
  closed = λ before value k h. (
    elements.closed before.0 (first_value value) k.0 (mapped_noted (λ x. x.0) (λ x. x.0) (BothNotes F G) F (λ note b. b.0) value h),
    more.closed before.1 (second_value value) k.1 (mapped_noted (λ x. x.1) (λ x. x.1) (BothNotes F G) G (λ note b. b.1) value h),
  );
  join = λ x y h k. (elements.join x.0 y.0 h.0 k.0, more.join x.1 y.1 h.1 k.1);
  widen = λ x y h k. (elements.widen x.0 y.0 h.0 k.0, more.widen x.1 y.1 h.1 k.1);
  same = λ x y e h. (elements.same x.0 y.0 e.0 h.0, more.same x.1 y.1 e.1 h.1);
}
