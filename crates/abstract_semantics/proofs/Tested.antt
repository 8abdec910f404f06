-- A test that tells whether values fit.
use Rattle.std.proofs.Common.{ℕ, ◌<◌, ◌^◌, ◌&&◌, List, [], ◌∷◌, length, refl, IsTrue, arith}
use Rattle.std.specs.Prelude.{nat_le, nat_lt}
use Rattle.std.specs.List.{list_all}
use Rattle.std.proofs.lemmas.Bool.Decides.{nat_tests}
use Rattle.base_trait.specs.Algebra.{Algebra}
use Rattle.base_trait.specs.Laws.{Laws}
use Rattle.base_trait.specs.Lists.{Each, ascends_from}
use Rattle.base_trait.proofs.Lists.{all_told, ascends_told}
use Rattle.base_trait.proofs.Tests.{and_both, and_parts}
use Rattle.abstract_map_laws.specs.Cells.{CellFits}
use Rattle.abstract_map_laws.specs.Maps.{Map, EachCell, Fits as MapFits, keys}
use Rattle.spec_ir.specs.WellFormed.{is_width}
use Rattle.spec_ir.proofs.Checks.{width_is as width_from}
use Rattle.semantics_laws.proofs.Values.{width_to}
use Rattle.abstract_value_laws.specs.Abs.{Abs, Cases, Parts, flag, word, made, map, no_case, absent, present, no_part, part}
use Rattle.abstract_value_laws.specs.Fits.{CasesFit, Fits, PartsFit}
use Rattle.abstract_semantics.specs.Tests.{cases_fit, keys_fit, parts_fit, value_fits, words_fit}

pub each_mapped : {A : Type 0} (P Q : A → Type 0) (xs : List A) → ((x : A) → P x → Q x) → Each P xs → Each Q xs
each_mapped P Q [] f h = tt
each_mapped P Q (x ∷ xs) f h = (f x h.0, each_mapped P Q xs f h.1)

module _ {W N C : Type 0} (B : Algebra W N C) (laws : Laws W N C B) (c : C) (cap : ℕ) where
  words_told : (m : Map W N) → IsTrue (words_fit B c cap m) → EachCell (CellFits B c m.width) m
  words_told m h =
      let p = and_parts (B.words.fits_test c m.width m.rest.word) (list_all (λ e. B.words.fits_test c m.width e.1.word) m.cells) h in (
        (laws.words.fits_told c m.width m.rest.word).0 p.0,
        each_mapped _ _ m.cells (λ e k. (laws.words.fits_told c m.width e.1.word).0 k) ((all_told (λ e. B.words.fits_test c m.width e.1.word) m.cells).0 p.1),
      )

  words_tell : (m : Map W N) → EachCell (CellFits B c m.width) m → IsTrue (words_fit B c cap m)
  words_tell m h = and_both (B.words.fits_test c m.width m.rest.word) (list_all (λ e. B.words.fits_test c m.width e.1.word) m.cells) ((laws.words.fits_told c m.width m.rest.word).1 h.0)
      ((all_told (λ e. B.words.fits_test c m.width e.1.word) m.cells).1 (each_mapped _ _ m.cells (λ e k. (laws.words.fits_told c m.width e.1.word).1 k) h.1))

  below_told : (k : ℕ) → IsTrue (nat_lt k (2 ^ 32)) → k < 2 ^ 32
  below_told k h = grind (arith, nat_tests)

  below_tell : (k : ℕ) → k < 2 ^ 32 → IsTrue (nat_lt k (2 ^ 32))
  below_tell k h = grind (arith, nat_tests)

  map_told : (m : Map W N) → IsTrue (is_width m.width && (words_fit B c cap m && keys_fit B c cap m)) → MapFits B c cap m
  map_told m h =
      let p = and_parts (is_width m.width) (words_fit B c cap m && keys_fit B c cap m) h in
      let q = and_parts (words_fit B c cap m) (keys_fit B c cap m) p.1 in
      let r = and_parts (ascends_from 0 (keys m)) (list_all (λ k. nat_lt k (2 ^ 32)) (keys m) && nat_le (length m.cells) cap) q.1 in
      let s = and_parts (list_all (λ k. nat_lt k (2 ^ 32)) (keys m)) (nat_le (length m.cells) cap) r.1 in
      record {
        width = width_from m.width p.0;
        cells = words_told m q.0;
        order = (ascends_told 0 (keys m)).0 r.0;
        bound = each_mapped _ _ (keys m) below_told ((all_told (λ k. nat_lt k (2 ^ 32)) (keys m)).0 s.0);
        few = (let t = s.1 in grind (arith, nat_tests));
      }

  map_tells : (m : Map W N) → MapFits B c cap m → IsTrue (is_width m.width && (words_fit B c cap m && keys_fit B c cap m))
  map_tells m h =
      let few = h.few in
      and_both (is_width m.width) (words_fit B c cap m && keys_fit B c cap m) (width_to m.width h.width)
      (and_both (words_fit B c cap m) (keys_fit B c cap m) (words_tell m h.cells)
      (and_both (ascends_from 0 (keys m)) (list_all (λ k. nat_lt k (2 ^ 32)) (keys m) && nat_le (length m.cells) cap) ((ascends_told 0 (keys m)).1 h.order)
      (and_both (list_all (λ k. nat_lt k (2 ^ 32)) (keys m)) (nat_le (length m.cells) cap)
      ((all_told (λ k. nat_lt k (2 ^ 32)) (keys m)).1 (each_mapped _ _ (keys m) below_tell h.bound)) (grind (arith, nat_tests)))))

  mutual
    pub fit_told : (x : Abs W N) → IsTrue (value_fits B c cap x) → Fits B c cap x
    fit_told (flag t) h = tt
    fit_told (word w x) h = let p = and_parts (is_width w) (B.words.fits_test c w x) h in (width_from w p.0, (laws.words.fits_told c w x).0 p.1)
    fit_told (made ty cs) h = cases_told cs h
    fit_told (map m x) h = map_told x h

    cases_told : (cs : Cases W N) → IsTrue (cases_fit B c cap cs) → CasesFit B c cap cs
    cases_told no_case h = tt
    cases_told (absent cs) h = cases_told cs h
    cases_told (present xs cs) h = let p = and_parts (parts_fit B c cap xs) (cases_fit B c cap cs) h in (parts_told xs p.0, cases_told cs p.1)

    pub parts_told : (xs : Parts W N) → IsTrue (parts_fit B c cap xs) → PartsFit B c cap xs
    parts_told no_part h = tt
    parts_told (part x xs) h = let p = and_parts (value_fits B c cap x) (parts_fit B c cap xs) h in (fit_told x p.0, parts_told xs p.1)

  mutual
    pub fit_tells : (x : Abs W N) → Fits B c cap x → IsTrue (value_fits B c cap x)
    fit_tells (flag t) h = refl
    fit_tells (word w x) h = and_both (is_width w) (B.words.fits_test c w x) (width_to w h.0) ((laws.words.fits_told c w x).1 h.1)
    fit_tells (made ty cs) h = cases_tell cs h
    fit_tells (map m x) h = map_tells x h

    cases_tell : (cs : Cases W N) → CasesFit B c cap cs → IsTrue (cases_fit B c cap cs)
    cases_tell no_case h = refl
    cases_tell (absent cs) h = cases_tell cs h
    cases_tell (present xs cs) h = and_both (parts_fit B c cap xs) (cases_fit B c cap cs) (parts_tell xs h.0) (cases_tell cs h.1)

    pub parts_tell : (xs : Parts W N) → PartsFit B c cap xs → IsTrue (parts_fit B c cap xs)
    parts_tell no_part h = refl
    parts_tell (part x xs) h = and_both (value_fits B c cap x) (parts_fit B c cap xs) (fit_tells x h.0) (parts_tell xs h.1)
