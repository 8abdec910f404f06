-- The first address whose block is left open, if there is one.
use Rattle.std.proofs.Common.{◌≡◌, ◌∙◌, ◌==◌, ◌⊎◌, ℕ, ◌+◌, ◌<◌, ◌≤◌, Bool, true, false, List, [], ◌∷◌, Option, Some, None, arith, inl, inr, refl, sym, subst}
use Rattle.std.specs.Prelude.{IsSome}
use Rattle.std.proofs.lemmas.Bool.{cases_Bool, eq-eqb}
use Rattle.std.proofs.lemmas.Bool.Decides.{nat_tests}
use Rattle.base_trait.specs.Lists.{Each}
use Rattle.spec_ir.specs.Specification.{Spec}
use Rattle.code_image.specs.Image.{Image}
use Rattle.fixpoint_theory.specs.Table.{Listing, Listings}
use Rattle.fixpoint_open_tables.specs.Endings.{Endings}
use Rattle.fixpoint_open_tables.specs.declared.ending.Ending.{Ending}
use Rattle.text_lines.specs.Lines.{Lines}
use Rattle.text_element_readers.specs.Reading.{ElementReading}
use Rattle.text_element_readers.specs.Words.{WordReading}
use Rattle.text_table_reader.specs.Blocks.{AreRead, BlockRead, block, none, onto, stopped}
use Rattle.text_table_reader.specs.Endings.{endings_in}
use Rattle.text_table_reader.specs.Ends.{is_word_of}
use Rattle.text_table_reader.specs.Tables.{IsOpenTableIn, IsTableIn}
use Rattle.text_table_reader.specs.Readings.{IsFirstOpen}
use Rattle.text_table_reader.proofs.Fits.{at_code}

module _ {W : Type 0} where
  -- they stand at an address or behind it
  abbrev AreFrom : ℕ → List (ℕ × Option (Ending W)) → Type 0
  AreFrom low ends = Each (λ e. low ≤ e.0) ends

  lower_from : (low at : ℕ) (ends : List (ℕ × Option (Ending W))) → low ≤ at → AreFrom at ends → AreFrom low ends
  lower_from low at [] h each = tt
  lower_from low at (e ∷ ends) h each = let first = each.0 in (omega (arith, first, h), lower_from low at ends h each.1)

  none_before : (low a : ℕ) (ends : List (ℕ × Option (Ending W))) → AreFrom low ends → a < low → endings_in ends a ≡ None
  none_before low a [] each h = refl
  none_before low a (e ∷ ends) each h =
      let first = each.0 in
      let apart : (e.0 == a) ≡ false = grind (arith, nat_tests, first, h) in
      rw apart (none_before low a ends each.1 h)

  -- no block is left open, or there is a first one
  abbrev IsSomewhere : List (ℕ × Option (Ending W)) → Type 0
  IsSomewhere ends = ((a : ℕ) → endings_in ends a ≡ None) ⊎ ((at : ℕ) × IsFirstOpen (endings_in ends) at)

  first_of : (at : ℕ) (ending : Option (Ending W)) (ends : List (ℕ × Option (Ending W))) → AreFrom (at + 1) ends → IsSomewhere ends → IsSomewhere ((at, ending) ∷ ends)
  first_of at (Some x) ends from rest =
      let same = eq-eqb at at refl in
      inr (
        at,
        record {
          is_open = rw same refl;
          least = λ a below. let apart : (at == a) ≡ false = grind (arith, nat_tests, below) in rw apart (none_before (at + 1) a ends from (omega (arith, below)));
        },
      )
  first_of at None ends from (inl nowhere) = inl (λ a. elim (cases_Bool (at == a)) [ inl h ↦ rw h refl | inr h ↦ rw h (nowhere a) ])
  first_of at None ends from (inr (first, is)) =
      inr (
        first,
        record {
          is_open = elim (cases_Bool (at == first)) [
            | inl h ↦ absurd (no_some (endings_in ends first) (none_before (at + 1) first ends from (let same = number_is at first h in omega (arith, same))) is.is_open)
            | inr h ↦ rw h is.is_open
          ];
          least = λ a below. elim (cases_Bool (at == a)) [ inl h ↦ rw h refl | inr h ↦ rw h (is.least a below) ];
        },
      )
    where
      number_is : (x y : ℕ) → (x == y) ≡ true → x ≡ y
      number_is x y h = grind (arith, nat_tests, h)

      no_some : (o : Option (Ending W)) → o ≡ None → IsSome o → ⊥
      no_some None e some = let bad : false ≡ true = some in cc
      no_some (Some x) e some = cc

module _ {E W : Type 0} (Reads : ElementReading E) (word_in : WordReading W) (spec : Spec) where
  module _ (code : ℕ → Bool) where
    block_from : (low : ℕ) (ls left : Lines) (b : ℕ × Listing E) (ending : Option (Ending W)) → BlockRead Reads word_in spec code low ls (Some b) ending left → low ≤ b.0
    block_from low ls left b ending (block {at = a} {later = l} x e r) = (at_code code low ls a l e).0

    blocks_from : (low : ℕ) (ls : Lines) (blocks : List (ℕ × Listing E)) (ends : List (ℕ × Option (Ending W))) (fault : Option Lines) → AreRead Reads word_in spec code low ls blocks ends fault → AreFrom low ends
    blocks_from low ls blocks ends fault none = tt
    blocks_from low ls blocks ends fault (stopped some r) = tt
    blocks_from low ls blocks ends fault (onto {at = a} {later = l} {b = b} {ending = x} {blocks = bs} {ends = es} {fault = p} r rest) =
        let least = block_from low ls l (a, b) x r in
        (least, lower_from low (a + 1) es (omega (arith, least)) (blocks_from (a + 1) l bs es p rest))

    somewhere : (low : ℕ) (ls : Lines) (blocks : List (ℕ × Listing E)) (ends : List (ℕ × Option (Ending W))) (fault : Option Lines) → AreRead Reads word_in spec code low ls blocks ends fault → IsSomewhere ends
    somewhere low ls blocks ends fault none = inl (λ a. refl)
    somewhere low ls blocks ends fault (stopped some r) = inl (λ a. refl)
    somewhere low ls blocks ends fault (onto {at = a} {later = l} {ending = x} {blocks = bs} {ends = es} {fault = p} r rest) =
        first_of a x es (blocks_from (a + 1) l bs es p rest) (somewhere (a + 1) l bs es p rest)

  module _ (name : List ℕ) (image : Image) where
    -- of a table that is read no block is left open, or there is a first one
    pub closed_or_open : (bytes : List ℕ) (t : Listings E) (ends : Endings W) → IsOpenTableIn Reads word_in spec name image bytes t ends → IsTableIn Reads word_in spec name image bytes t ⊎ ((at : ℕ) × IsFirstOpen ends at)
    closed_or_open bytes t ends h = at (somewhere (is_word_of image) 0 h.later h.blocks h.ends None h.are_read)
      where
        at : IsSomewhere h.ends → IsTableIn Reads word_in spec name image bytes t ⊎ ((at : ℕ) × IsFirstOpen ends at)
        at (inl nowhere) =
            inl (record { blocks = h.blocks; ends = h.ends; later = h.later; head = h.head; are_read = h.are_read; table = h.table; end_so = λ a. sym (nowhere a) })
        at (inr (first, is)) =
            inr (first, record { is_open = subst (λ x. IsSome x) (sym (h.end_so first)) is.is_open; least = λ a below. h.end_so a ∙ is.least a below })
