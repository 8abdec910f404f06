-- Values with each word and each note replaced.
use Rattle.std.proofs.Common.{◌≡◌, ℕ, ◌≤◌, Bool, true, false, List, [], ◌∷◌, map as map_of, length, zero, suc, refl, sym, ap, subst, cond}
use Rattle.std.specs.Prelude.{◌^◌, ◌<◌, ◌==◌}
use Rattle.base_trait.specs.Algebra.{Algebra}
use Rattle.base_trait.specs.Lists.{Each, IsAscending}
use Rattle.base_trait.specs.declared.uses.Stamp.{Stamp}
use Rattle.abstract_map_laws.specs.declared.cell.AbstractCell.{AbstractCell}
use Rattle.abstract_map_laws.specs.Cells.{CellDescribes, CellFits, Held, ListsOnly}
use Rattle.abstract_map_laws.specs.Maps as maps
use Rattle.abstract_map_laws.specs.Maps.{EachCell, Map, cell, cell_in, keys}
use Rattle.semantics_values.specs.Values as v
use Rattle.semantics_values.specs.Values.{Val, Vals}
use Rattle.abstract_value_laws.specs.Abs.{Abs, Cases, Parts, flag, word, made, map, no_case, absent, present, no_part, part}
use Rattle.abstract_value_laws.specs.Describes.{CaseDescribes, Describes, PartsDescribe, held_at}
use Rattle.abstract_value_laws.specs.Fits.{CasesFit, Fits, PartsFit}
use Rattle.abstract_value_laws.specs.Shapes.{CaseShapes, CasesHave, CasesList, HasShape, ListsStamps, PartShapes, PartsHave, PartsList, Shape, case_then, datas, field_then, flags, maps as map_shape, no_field, no_more, words}
use Rattle.domain_laws.specs.declared.field.Field.{Field}
use Rattle.domain_laws.specs.declared.field.Field.TheVariants as field
use Rattle.domain_laws.specs.States.{StateType}
use Rattle.domain_laws.specs.Values.{AreOf, IsOf, IsStateForm}
use Rattle.domain_product_laws.specs.Calls.{mapped_cases, mapped_cell, mapped_cells, mapped_map, mapped_parts, mapped_value}

module _ {V W M N : Type 0} (f : V → W) (g : M → N) where
  mapped_keys : (es : List (ℕ × AbstractCell V M)) → map_of (λ (e : ℕ × AbstractCell W N). e.0) (mapped_cells f g es) ≡ map_of (λ (e : ℕ × AbstractCell V M). e.0) es
  mapped_keys [] = refl
  mapped_keys (e ∷ es) = ap (λ l. e.0 ∷ l) (mapped_keys es)

  mapped_length : (es : List (ℕ × AbstractCell V M)) → length (mapped_cells f g es) ≡ length es
  mapped_length [] = refl
  mapped_length (e ∷ es) = ap (λ n. suc n) (mapped_length es)

  mapped_at : (rest : AbstractCell V M) (es : List (ℕ × AbstractCell V M)) (k : ℕ) → cell_in (mapped_cell f g rest) (mapped_cells f g es) k ≡ mapped_cell f g (cell_in rest es k)
  mapped_at rest [] k = refl
  mapped_at rest (e ∷ es) k = place (e.0 == k) (mapped_at rest es k)
    where
      place : (b : Bool) → cell_in (mapped_cell f g rest) (mapped_cells f g es) k ≡ mapped_cell f g (cell_in rest es k)
          → cond b (mapped_cell f g e.1) (cell_in (mapped_cell f g rest) (mapped_cells f g es) k) ≡ mapped_cell f g (cond b e.1 (cell_in rest es k))
      place true i = refl
      place false i = i

  mapped_all : (P : AbstractCell V M → Type 0) (Q : AbstractCell W N → Type 0) → ((x : AbstractCell V M) → P x → Q (mapped_cell f g x)) → (es : List (ℕ × AbstractCell V M))
      → Each (λ (e : ℕ × AbstractCell V M). P e.1) es → Each (λ (e : ℕ × AbstractCell W N). Q e.1) (mapped_cells f g es)
  mapped_all P Q each [] h = tt
  mapped_all P Q each (e ∷ es) h = (each e.1 h.0, mapped_all P Q each es h.1)

  mapped_each : (P : AbstractCell V M → Type 0) (Q : AbstractCell W N → Type 0) → ((x : AbstractCell V M) → P x → Q (mapped_cell f g x)) → (m : Map V M) → EachCell P m → EachCell Q (mapped_map f g m)
  mapped_each P Q each m h = (each m.rest h.0, mapped_all P Q each m.cells h.1)

  -- ---- shape and form are kept
  mutual
    pub mapped_shape : (s : Shape) (x : Abs V M) → HasShape s x → HasShape s (mapped_value f g x)
    mapped_shape flags (flag t) h = tt
    mapped_shape (words w) (word u x) h = h
    mapped_shape (datas ty ss) (made tz cs) h = (h.0, cases_shape ss cs h.1)
    mapped_shape (map_shape m w) (map n x) h = h
    mapped_shape _ _ h = absurd h

    cases_shape : (ss : CaseShapes) (cs : Cases V M) → CasesHave ss cs → CasesHave ss (mapped_cases f g cs)
    cases_shape no_more no_case h = tt
    cases_shape (case_then s ss) (absent cs) h = cases_shape ss cs h
    cases_shape (case_then s ss) (present xs cs) h = (parts_shape s xs h.0, cases_shape ss cs h.1)
    cases_shape _ _ h = absurd h

    parts_shape : (ss : PartShapes) (xs : Parts V M) → PartsHave ss xs → PartsHave ss (mapped_parts f g xs)
    parts_shape no_field no_part h = tt
    parts_shape (field_then s ss) (part x xs) h = (mapped_shape s x h.0, parts_shape ss xs h.1)
    parts_shape _ _ h = absurd h

  mapped_is : (t : Field) (x : Abs V M) → IsOf t x → IsOf t (mapped_value f g x)
  mapped_is (field.Word w) (word u x) h = h
  mapped_is (field.Map m bound w d) (map n x) h = (h.0, h.1, subst (Each (λ k. k < bound)) (sym (mapped_keys x.cells)) h.2)
  mapped_is _ _ h = absurd h

  mapped_are : (fields : List Field) (xs : Parts V M) → AreOf fields xs → AreOf fields (mapped_parts f g xs)
  mapped_are [] no_part h = tt
  mapped_are (t ∷ fields) (part x xs) h = (mapped_is t x h.0, mapped_are fields xs h.1)
  mapped_are _ _ h = absurd h

  pub mapped_form : (t : StateType) (x : Abs V M) → IsStateForm t x → IsStateForm t (mapped_value f g x)
  mapped_form t (made ty (present (part (word w x) xs) no_case)) h = (h.0, h.1, mapped_are t.fields xs h.2)
  mapped_form _ _ h = absurd h

module _ {V W M N C D : Type 0} (A : Algebra V M C) (B : Algebra W N D) (f : V → W) (g : M → N) where
  -- ---- describing, where words and notes keep what they describe, from one valuation to another
  module _ (valuation other : List ℕ) (words : (w n : ℕ) (x : V) → A.words.describes valuation w n x → B.words.describes other w n (f x)) (notes : (s : Stamp) (x : M) → A.notes.describes s x → B.notes.describes s (g x)) where
    pub mapped_map_describes : (h : ℕ → Held) (m : Map V M) → maps.Describes A valuation h m → maps.Describes B other h (mapped_map f g m)
    mapped_map_describes h m d k = subst (λ t. CellDescribes B other m.width (h k) t) (sym (mapped_at f g m.rest m.cells k))
        (let here = d k in (words m.width (h k).number (cell m k).word here.0, notes (h k).stamp (cell m k).note here.1))

    mutual
      pub mapped_describes : (x : Abs V M) (n : Val) → Describes A valuation x n → Describes B other (mapped_value f g x) n
      mapped_describes (flag t) (v.flag b) h = h
      mapped_describes (word w x) (v.word u n) h = (h.0, words w n x h.1)
      mapped_describes (made ty cs) (v.made tz k ps) h = (h.0, cases_describe cs k ps h.1)
      mapped_describes (map m x) (v.map n rest cells) h = (h.0, mapped_map_describes (held_at rest cells) x h.1)
      mapped_describes _ _ h = absurd h

      cases_describe : (cs : Cases V M) (k : ℕ) (ps : Vals) → CaseDescribes A valuation cs k ps → CaseDescribes B other (mapped_cases f g cs) k ps
      cases_describe no_case k ps h = absurd h
      cases_describe (absent cs) zero ps h = absurd h
      cases_describe (absent cs) (suc k) ps h = cases_describe cs k ps h
      cases_describe (present xs cs) zero ps h = parts_describe xs ps h
      cases_describe (present xs cs) (suc k) ps h = cases_describe cs k ps h

      parts_describe : (xs : Parts V M) (ps : Vals) → PartsDescribe A valuation xs ps → PartsDescribe B other (mapped_parts f g xs) ps
      parts_describe no_part v.no_val h = tt
      parts_describe (part x xs) (v.val_then p ps) h = (mapped_describes x p h.0, parts_describe xs ps h.1)
      parts_describe _ _ h = absurd h

  -- ---- fitting
  module _ (c : C) (d : D) (cap : ℕ) (words : (w : ℕ) (x : V) → A.words.fits c w x → B.words.fits d w (f x)) where
    pub mapped_map_fits : (m : Map V M) → maps.Fits A c cap m → maps.Fits B d cap (mapped_map f g m)
    mapped_map_fits m fit = record {
      width = fit.width;
      cells = mapped_each f g (CellFits A c m.width) (CellFits B d m.width) (λ x h. words m.width x.word h) m fit.cells;
      order = subst (λ ks. IsAscending ks) (sym (mapped_keys f g m.cells)) fit.order;
      bound = subst (λ ks. Each (λ k. k < 2 ^ 32) ks) (sym (mapped_keys f g m.cells)) fit.bound;
      few = subst (λ n. n ≤ cap) (sym (mapped_length f g m.cells)) fit.few;
    }

    mutual
      pub mapped_fits : (x : Abs V M) → Fits A c cap x → Fits B d cap (mapped_value f g x)
      mapped_fits (flag t) h = tt
      mapped_fits (word w x) h = (h.0, words w x h.1)
      mapped_fits (made ty cs) h = cases_fit cs h
      mapped_fits (map m x) h = mapped_map_fits x h

      cases_fit : (cs : Cases V M) → CasesFit A c cap cs → CasesFit B d cap (mapped_cases f g cs)
      cases_fit no_case h = tt
      cases_fit (absent cs) h = cases_fit cs h
      cases_fit (present xs cs) h = (parts_fit xs h.0, cases_fit cs h.1)

      parts_fit : (xs : Parts V M) → PartsFit A c cap xs → PartsFit B d cap (mapped_parts f g xs)
      parts_fit no_part h = tt
      parts_fit (part x xs) h = (mapped_fits x h.0, parts_fit xs h.1)

  -- ---- stamps
  module _ (stamps : List Stamp) (notes : (x : AbstractCell V M) → ListsOnly A stamps x → ListsOnly B stamps (mapped_cell f g x)) where
    mutual
      pub mapped_lists : (x : Abs V M) → ListsStamps A stamps x → ListsStamps B stamps (mapped_value f g x)
      mapped_lists (flag t) h = tt
      mapped_lists (word w x) h = tt
      mapped_lists (made ty cs) h = cases_list cs h
      mapped_lists (map m x) h = mapped_each f g (ListsOnly A stamps) (ListsOnly B stamps) notes x h

      cases_list : (cs : Cases V M) → CasesList A stamps cs → CasesList B stamps (mapped_cases f g cs)
      cases_list no_case h = tt
      cases_list (absent cs) h = cases_list cs h
      cases_list (present xs cs) h = (parts_list xs h.0, cases_list cs h.1)

      parts_list : (xs : Parts V M) → PartsList A stamps xs → PartsList B stamps (mapped_parts f g xs)
      parts_list no_part h = tt
      parts_list (part x xs) h = (mapped_lists x h.0, parts_list xs h.1)
