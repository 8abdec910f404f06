-- What is read is a well-posed problem.
use Rattle.std.proofs.Common.{◌≡◌, ℕ, zero, suc, ◌+◌, ◌*◌, ◌<◌, ◌≤◌, ◌^◌, ◌%◌, ◌==◌, Bool, true, false, ◌&&◌, List, [], ◌∷◌, ◌++◌, length, refl, sym, ◌∙◌, subst, arith}
use Rattle.std.specs.Prelude.{nat_le, is_some}
use Rattle.std.specs.List.{list_all}
use Rattle.std.proofs.lemmas.Bool.{leb-true}
use Rattle.base_trait.specs.Lists.{IsAscendingFrom}
use Rattle.base_trait.proofs.Tests.{and_parts}
use Rattle.code_image.specs.declared.order.Order.{Order}
use Rattle.code_image.specs.Faults.{bytes_sum, is_segment}
use Rattle.code_image.specs.Image.{Segment, addresses, addresses_from, end_of, has_word, word_in, words_of}
use Rattle.code_image.specs.Laws.{AddressesAreThoseOfWords, ascend_from}
use Rattle.state_entry_laws.proofs.Reading.{entries_fit}
use Rattle.analysis_problems.proofs.Entries.{read_entries_fit}
use Rattle.analysis_problems.specs.ProblemLaws.{ReadProblemsAreWellPosed}

ascends : (least : ℕ) (xs : List ℕ) → ascend_from least xs ≡ true → IsAscendingFrom least xs
ascends least [] h = tt
ascends least (x ∷ xs) h =
    let parts = and_parts (nat_le least x) (ascend_from (suc x) xs) h in
    let next : suc x ≡ x + 1 = omega arith in
    (leb-true least x parts.0, subst (λ n. IsAscendingFrom n xs) next (ascends (suc x) xs parts.1))

-- ---- how many words there are
behind_run : (n a : ℕ) (xs : List ℕ) → length (addresses_from a n ++ xs) ≡ n + length xs
behind_run zero a xs = omega arith
behind_run (suc n) a xs = omega (arith, behind_run n (a + 4) xs)

four_bytes_each : (segments : List Segment) → 4 * length (addresses segments) ≤ bytes_sum segments
four_bytes_each [] = omega arith
four_bytes_each (s ∷ segments) = omega (arith, behind_run (words_of s) s.base (addresses segments), four_bytes_each segments)

-- ---- words stand inside memory
inside_memory : (s : Segment) (a : ℕ) → is_segment s ≡ true → has_word s a ≡ true → a < 2 ^ 32
inside_memory s a whole has =
    let sizes = and_parts (s.base % 4 == 0) (length s.bytes % 4 == 0 && nat_le (end_of s) (2 ^ 32)) whole in
    let end = leb-true (end_of s) (2 ^ 32) (and_parts (length s.bytes % 4 == 0) (nat_le (end_of s) (2 ^ 32)) sizes.1).1 in
    let place = and_parts (a % 4 == 0) (nat_le s.base a && nat_le (a + 4) (end_of s)) has in
    let last = leb-true (a + 4) (end_of s) (and_parts (nat_le s.base a) (nat_le (a + 4) (end_of s)) place.1).1 in
    omega (arith, end, last)

below_end : (order : Order) (a : ℕ) (segments : List Segment) → list_all is_segment segments ≡ true → is_some (word_in order segments a) ≡ true → a < 2 ^ 32
below_end order a [] each there = cc
below_end order a (s ∷ segments) each there = by (has_word s a) refl (λ k. below_end order a segments parts.1 k)
  where
    parts : (is_segment s ≡ true) × (list_all is_segment segments ≡ true)
    parts = and_parts (is_segment s) (list_all is_segment segments) each

    by : (b : Bool) → has_word s a ≡ b → (is_some (word_in order segments a) ≡ true → a < 2 ^ 32) → a < 2 ^ 32
    by true e later = inside_memory s a parts.0 e
    by false e later = later (rw e at there)

pub read_problems_are_well_posed : AddressesAreThoseOfWords → ReadProblemsAreWellPosed
read_problems_are_well_posed those_of_words spec m image bytes e limit joins cases accepted machine ok read =
    let words = those_of_words image ok in
    let four = four_bytes_each image.segments in
    let size = ok.segments.size in
    record {
      accepted = accepted;
      machine = machine;
      image = record { ascends = ascends 0 (addresses image.segments) words.0; few = omega (arith, four, size) };
      words = words.1;
      addressed = λ a h. below_end image.order a image.segments ok.segments.each (sym (words.1 a) ∙ h);
      counter = (entries_fit spec bytes e read).counter;
      lines = read_entries_fit spec bytes e read;
    }
