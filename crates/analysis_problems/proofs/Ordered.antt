-- Ranges of an entry that is read have their ends in order.
use Rattle.std.proofs.Common.{◌≡◌, ℕ, suc, ◌+◌, ◌≤◌, ◌++◌, Bool, true, false, List, [], ◌∷◌, Option, Some, None, Result, Ok, Err, map, length, refl, subst}
use Rattle.std.specs.Prelude.{◌==◌, ◌^◌, is_some, nat_le, nat_lt}
use Rattle.base_trait.specs.Lists.{Each}
use Rattle.spec_ir.specs.declared.ty.Ty.{Ty}
use Rattle.spec_ir.specs.Specification.{Spec}
use Rattle.semantics_values.specs.declared.entry.GivenNumber.{GivenNumber}
use Rattle.semantics_values.specs.declared.entry.GivenNumber.TheVariants.{One, Any, Range}
use Rattle.semantics_values.specs.declared.entry.KeyAt.{KeyAt}
use Rattle.semantics_values.specs.declared.entry.KeyAt.TheVariants.{Whole, Rest, At}
use Rattle.semantics_values.specs.declared.entry.Line.{Line}
use Rattle.semantics_values.specs.Types.{key_count, environment_of}
use Rattle.state_cell_text.specs.declared.places.Place.{Place}
use Rattle.state_cell_text.specs.declared.places.Place.TheVariants as place
use Rattle.state_cell_text.specs.Keys.{key_number}
use Rattle.state_cell_text.specs.Places.{place_of}
use Rattle.state_text.specs.declared.entry_error.EntryError.{EntryError}
use Rattle.state_text.specs.Forms.{Form, IsValue, CellSuffix, single, run, whole as whole_part, rest as rest_part, at as at_part, from as from_part}
use Rattle.state_text.specs.Lines.{lines}
use Rattle.state_text.specs.Meaning.{Said, nothing, counter, cells, faulty, given_fits, sized, cell, at_key, run_cells, single_says, run_at, run_says, form_says, said}
use Rattle.state_text.specs.Parsing.{form}
use Rattle.state_text.specs.Reading.{GivenCells, none_found, any_given, line_of, with_cells, with_counter, with_line, Entry, single_number, counted, number_given, goes_on, read, read_from}
use Rattle.state_text.proofs.Shown.{shown}

-- a range has its ends in order
abbrev pub IsOrdered : GivenNumber → Type 0
IsOrdered (Range lo hi) = lo ≤ hi
IsOrdered _ = Unit {0}

abbrev pub AreOrdered : List Line → Type 0
AreOrdered ls = Each (λ l. IsOrdered l.given) ls

abbrev SaidOrdered : Said → Type 0
SaidOrdered (cells field cs) = Each (λ c. IsOrdered c.1) cs
SaidOrdered _ = Unit {0}

sized_ordered : (g : GivenNumber) (w : ℕ) (s : Said) → SaidOrdered s → SaidOrdered (sized g w s)
sized_ordered g w s h = by_test g w s h (given_fits g w) refl where
  by_test : (g : GivenNumber) (w : ℕ) (s : Said) → SaidOrdered s → (b : Bool) → given_fits g w ≡ b → SaidOrdered (sized g w s)
  by_test g w s h true e = rw e h
  by_test g w s h false e = rw e tt

at_key_ordered : (field w : ℕ) (g : GivenNumber) → IsOrdered g → (o : Option ℕ) → SaidOrdered (at_key field w g o)
at_key_ordered field w g h None = tt
at_key_ordered field w g h (Some k) = sized_ordered g w (cell field (At k) g) (h, tt)

module _ (spec : Spec) where
  single_ordered : (o : Option Place) (part : CellSuffix) (g : GivenNumber) → IsOrdered g → SaidOrdered (single_says spec o part g)
  single_ordered None part g h = tt
  single_ordered (Some place.Counter) whole_part g h = sized_ordered g 32 (counter g) tt
  single_ordered (Some place.Counter) rest_part g h = tt
  single_ordered (Some place.Counter) (at_part text) g h = tt
  single_ordered (Some place.Counter) (from_part text) g h = tt
  single_ordered (Some (place.Word field w)) whole_part g h = sized_ordered g w (cell field Whole g) (h, tt)
  single_ordered (Some (place.Word field w)) rest_part g h = tt
  single_ordered (Some (place.Word field w)) (at_part text) g h = tt
  single_ordered (Some (place.Word field w)) (from_part text) g h = tt
  single_ordered (Some (place.Map field key w)) whole_part g h = tt
  single_ordered (Some (place.Map field key w)) rest_part g h = sized_ordered g w (cell field Rest g) (h, tt)
  single_ordered (Some (place.Map field key w)) (at_part text) g h = at_key_ordered field w g h (key_number spec key text)
  single_ordered (Some (place.Map field key w)) (from_part text) g h = tt

  run_cells_ordered : (k : ℕ) (bytes : List ℕ) → Each (λ c. IsOrdered c.1) (run_cells k bytes)
  run_cells_ordered k [] = tt
  run_cells_ordered k (b ∷ bytes) = (tt, run_cells_ordered (suc k) bytes)

  run_at_ordered : (field : ℕ) (key : Ty) (bytes : List ℕ) (o : Option ℕ) → SaidOrdered (run_at spec field key bytes o)
  run_at_ordered field key bytes None = tt
  run_at_ordered field key bytes (Some k) = by_test (nat_lt (k + length bytes) (2 ^ 64)) refl (nat_le (k + length bytes) (key_count (environment_of spec) key)) refl where
    by_test : (b : Bool) → nat_lt (k + length bytes) (2 ^ 64) ≡ b → (c : Bool) → nat_le (k + length bytes) (key_count (environment_of spec) key) ≡ c → SaidOrdered (run_at spec field key bytes (Some k))
    by_test false e c f = rw e tt
    by_test true e false f = rw (e, f) tt
    by_test true e true f = rw (e, f) (run_cells_ordered k bytes)

  run_ordered : (o : Option Place) (text bytes : List ℕ) → SaidOrdered (run_says spec o text bytes)
  run_ordered None text bytes = tt
  run_ordered (Some place.Counter) text bytes = tt
  run_ordered (Some (place.Word field w)) text bytes = tt
  run_ordered (Some (place.Map field key w)) text bytes = by_width (w == 8) refl where
    by_width : (b : Bool) → (w == 8) ≡ b → SaidOrdered (run_says spec (Some (place.Map field key w)) text bytes)
    by_width false e = rw e tt
    by_width true e = rw e (run_at_ordered field key bytes (key_number spec key text))

  value_ordered : (g : GivenNumber) (text : List ℕ) → IsValue g text → IsOrdered g
  value_ordered (One v) text h = tt
  value_ordered Any text h = tt
  value_ordered (Range lo hi) text h = h.5

  form_ordered : (line : List ℕ) (o : Option Form) → form line ≡ o → SaidOrdered (form_says spec o)
  form_ordered line None e = tt
  form_ordered line (Some (single name part g)) e = let has = shown line (single name part g) e in single_ordered (place_of spec name) part g (value_ordered g has.0 has.4)
  form_ordered line (Some (run name text bytes)) e = run_ordered (place_of spec name) text bytes

  said_ordered : (line : List ℕ) → SaidOrdered (said spec line)
  said_ordered [] = tt
  said_ordered (b ∷ bytes) = by_comment b bytes (form_ordered (b ∷ bytes) (form (b ∷ bytes)) refl) (b == 35) refl where
    by_comment : (b : ℕ) (bytes : List ℕ) → SaidOrdered (form_says spec (form (b ∷ bytes))) → (c : Bool) → (b == 35) ≡ c → SaidOrdered (said spec (b ∷ bytes))
    by_comment b bytes h true e = rw e tt
    by_comment b bytes h false e = rw e h

  -- ---- what is found
  each_append : (xs ys : List Line) → AreOrdered xs → AreOrdered ys → AreOrdered (xs ++ ys)
  each_append [] ys h g = g
  each_append (x ∷ xs) ys h g = (h.0, each_append xs ys h.1 g)

  lines_ordered : (n field : ℕ) (cs : List (KeyAt × GivenNumber)) → Each (λ c. IsOrdered c.1) cs → AreOrdered (map (line_of n field) cs)
  lines_ordered n field [] h = tt
  lines_ordered n field (c ∷ cs) h = (h.0, lines_ordered n field cs h.1)

  with_counter_ordered : (n : ℕ) (g : GivenNumber) (found : GivenCells) → AreOrdered found.lines → (b : Bool) → is_some found.counter ≡ b → (more : GivenCells) → with_counter n g found ≡ Ok more → AreOrdered more.lines
  with_counter_ordered n g found h true e more m = let s = rw e at m in cc
  with_counter_ordered n g found h false e more m =
      let same : record { counter = Some g; lines = found.lines } ≡ more = let s = rw e at m in cc in
      subst (λ f. AreOrdered f.lines) same h

  with_cells_ordered : (n field : ℕ) (cs : List (KeyAt × GivenNumber)) → Each (λ c. IsOrdered c.1) cs → (found : GivenCells) → AreOrdered found.lines → (b : Bool) → any_given found.lines field cs ≡ b → (more : GivenCells)
      → with_cells n field cs found ≡ Ok more → AreOrdered more.lines
  with_cells_ordered n field cs f found h true e more m = let s = rw e at m in cc
  with_cells_ordered n field cs f found h false e more m =
      let same : record { counter = found.counter; lines = found.lines ++ map (line_of n field) cs } ≡ more = let s = rw e at m in cc in
      subst (λ f. AreOrdered f.lines) same (each_append found.lines (map (line_of n field) cs) h (lines_ordered n field cs f))

  with_line_ordered : (n : ℕ) (s : Said) → SaidOrdered s → (found : GivenCells) → AreOrdered found.lines → (more : GivenCells) → with_line n s found ≡ Ok more → AreOrdered more.lines
  with_line_ordered n nothing f found h more m = let same : found ≡ more = cc in subst (λ f. AreOrdered f.lines) same h
  with_line_ordered n (faulty x) f found h more m = cc
  with_line_ordered n (counter g) f found h more m = with_counter_ordered n g found h (is_some found.counter) refl more m
  with_line_ordered n (cells field cs) f found h more m = with_cells_ordered n field cs f found h (any_given found.lines field cs) refl more m

  counted_ordered : (ls : List Line) → AreOrdered ls → (o : Option ℕ) (e : Entry) → counted o ls ≡ Ok e → AreOrdered e.lines
  counted_ordered ls h None e m = cc
  counted_ordered ls h (Some pc) e m =
      let same : record { pc = pc; lines = ls } ≡ e = cc in
      subst (λ f. AreOrdered f.lines) same h

  read_ordered : (n : ℕ) (found : GivenCells) (ls : List (List ℕ)) (e : Entry) → AreOrdered found.lines → read_from spec n found ls ≡ Ok e → AreOrdered e.lines
  read_ordered n found [] e f h = counted_ordered found.lines f (number_given found.counter) e h
  read_ordered n found (line ∷ ls) e f h = by_line n found line ls e f (λ more g. read_ordered (n + 1) more ls e g) (with_line n (said spec line) found) refl h where
    by_line : (n : ℕ) (found : GivenCells) (line : List ℕ) (ls : List (List ℕ)) (e : Entry) → AreOrdered found.lines
        → ((more : GivenCells) → AreOrdered more.lines → read_from spec (n + 1) more ls ≡ Ok e → AreOrdered e.lines)
        → (r : Result GivenCells EntryError) → with_line n (said spec line) found ≡ r → goes_on spec r (λ more. read_from spec (n + 1) more ls) ≡ Ok e → AreOrdered e.lines
    by_line n found line ls e f ih (Err x) r h = cc
    by_line n found line ls e f ih (Ok more) r h = ih more (with_line_ordered n (said spec line) (said_ordered line) found f more r) h

pub entries_ordered : (spec : Spec) (bytes : List ℕ) (e : Entry) → read spec bytes ≡ Ok e → AreOrdered e.lines
entries_ordered spec bytes e h = read_ordered spec 1 none_found (lines bytes) e tt h
