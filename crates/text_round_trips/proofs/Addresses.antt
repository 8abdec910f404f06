-- The addresses of the code words of an image.
use Rattle.std.proofs.Common.{◌≡◌, ◌∙◌, ◌+◌, ◌%◌, ◌<◌, ◌^◌, ℕ, suc, true, false, List, [], ◌∷◌, length, IsTrue, is_some, sym, subst, inl, inr, arith, nat_le}
use Rattle.std.specs.Prelude.{◌==◌, ◌&&◌}
use Rattle.std.specs.List.{list_all, list_any}
use Rattle.std.proofs.lemmas.Bool.{and_parts, cases_Bool, eqb-true, leb-true}
use Rattle.base_trait.specs.Lists.{IsAmong, IsAscending, IsAscendingFrom}
use Rattle.base_trait.proofs.Tests.{or_sorted}
use Rattle.fixpoint_theory.specs.Code.{is_code}
use Rattle.code_image.specs.declared.order.Order.{Order}
use Rattle.code_image.specs.Faults.{IsImage, is_segment}
use Rattle.code_image.specs.Image.{Image, Segment, addresses, end_of, has_word, word_in}
use Rattle.code_image.specs.Laws.{ascend_from}
use Rattle.code_image.proofs.Addresses.{addresses_are_those_of_words}
use Rattle.text_table_reader.specs.Ends.{is_word_of}

ascending_from : (least : ℕ) (xs : List ℕ) → ascend_from least xs ≡ true → IsAscendingFrom least xs
ascending_from least [] h = tt
ascending_from least (x ∷ xs) h =
    let both = and_parts (nat_le least x) (ascend_from (suc x) xs) h in
    let one : suc x ≡ x + 1 = omega arith in
    (leb-true least x both.0, subst (λ n. IsAscendingFrom n xs) one (ascending_from (suc x) xs both.1))

any_among : (a : ℕ) (xs : List ℕ) → IsTrue (list_any (λ x. x == a) xs) → IsAmong a xs
any_among a [] h = absurd (let bad : false ≡ true = h in cc)
any_among a (x ∷ xs) h = elim (or_sorted (x == a) (list_any (λ y. y == a) xs) h) [ inl e ↦ inl (sym (eqb-true x a e)) | inr k ↦ inr (any_among a xs k) ]

word_below : (order : Order) (segments : List Segment) (a : ℕ) → list_all is_segment segments ≡ true → IsTrue (is_some (word_in order segments a)) → a < 2 ^ 32
word_below order [] a each h = absurd (let bad : false ≡ true = h in cc)
word_below order (s ∷ segments) a each h =
    let all = and_parts (is_segment s) (list_all is_segment segments) each in
    elim (cases_Bool (has_word s a)) [
      | inl e ↦
          let own = and_parts (s.base % 4 == 0) (length s.bytes % 4 == 0 && nat_le (end_of s) (2 ^ 32)) all.0 in
          let size = and_parts (length s.bytes % 4 == 0) (nat_le (end_of s) (2 ^ 32)) own.1 in
          let word = and_parts (a % 4 == 0) (nat_le s.base a && nat_le (a + 4) (end_of s)) e in
          let place = and_parts (nat_le s.base a) (nat_le (a + 4) (end_of s)) word.1 in
          let top = leb-true (end_of s) (2 ^ 32) size.1 in
          let below = leb-true (a + 4) (end_of s) place.1 in
          omega (arith, top, below)
      | inr e ↦ word_below order segments a all.1 (rw e at h)
    ]

module _ (image : Image) (is : IsImage image) where
  pub addresses_ascend : IsAscending (addresses image.segments)
  addresses_ascend = ascending_from 0 (addresses image.segments) (addresses_are_those_of_words image is).0

  pub words_are_among : (a : ℕ) → IsTrue (is_word_of image a) → IsAmong a (addresses image.segments)
  words_are_among a h = any_among a (addresses image.segments) ((addresses_are_those_of_words image is).1 a ∙ h)

  -- the test of code addresses is that of these
  pub words_are_code : (a : ℕ) → is_code (addresses image.segments) a ≡ is_word_of image a
  words_are_code a = (addresses_are_those_of_words image is).1 a

  pub words_are_below : (a : ℕ) → IsTrue (is_word_of image a) → a < 2 ^ 32
  words_are_below a h = word_below image.order image.segments a is.segments.each h
