-- The blocks of tables of analyses that fit are those of the code.
use Rattle.std.proofs.Common.{◌≡◌, ◌∙◌, ◌<◌, ◌^◌, ℕ, Bool, List, [], ◌∷◌, IsTrue, sym, ap, subst, inl, inr}
use Rattle.std.specs.List.{list_any}
use Rattle.std.specs.Prelude.{◌==◌}
use Rattle.std.proofs.lemmas.Bool.{eq-eqb, or_left, or_right}
use Rattle.base_trait.specs.Lists.{AreAmong, Each, IsAmong}
use Rattle.base_trait.specs.Uses.{Seen}
use Rattle.base_trait.specs.declared.uses.Stamp.{Stamp}
use Rattle.base_trait.specs.declared.uses.Stamp.TheVariants.{Entry, At}
use Rattle.base_trait.proofs.Lists.{map_among}
use Rattle.text_words.specs.Readings.{StampFits}
use Rattle.fixpoint_theory.specs.Analysis.{Analysis}
use Rattle.fixpoint_theory.specs.Code.{is_code, stamps_of}
use Rattle.fixpoint_theory.specs.Outcome.{AreOfStamps}
use Rattle.text_table_reader.specs.Ends.{is_word_of}
use Rattle.text_round_trips.specs.TableLaws.{FittingTablesAreOfCode}
use Rattle.text_round_trips.proofs.Addresses.{words_are_below, words_are_code}

module _ (addresses : List ℕ) (code : ℕ → Bool) (same : (a : ℕ) → is_code addresses a ≡ code a) (below : (a : ℕ) → IsTrue (code a) → a < 2 ^ 32) where
  among_code : (a : ℕ) (xs : List ℕ) → IsAmong a xs → IsTrue (list_any (λ x. x == a) xs)
  among_code a [] h = absurd h
  among_code a (x ∷ xs) (inl e) = or_left (x == a) (list_any (λ y. y == a) xs) (eq-eqb x a (sym e))
  among_code a (x ∷ xs) (inr h) = or_right (x == a) (list_any (λ y. y == a) xs) (among_code a xs h)

  stamp_fits : (s : Stamp) → IsAmong s (stamps_of addresses) → StampFits code s
  stamp_fits Entry h = tt
  stamp_fits (At a) (inl e) = absurd (cc)
  stamp_fits (At a) (inr h) =
      let from = map_among (λ b. At b) (At a) addresses h in
      let here : a ≡ from.0 = (let stamps = from.2 in cc) in
      let word : IsTrue (code a) = sym (same a) ∙ among_code a addresses (subst (λ n. IsAmong n addresses) (sym here) from.1) in
      (below a word, word)

  stamps_fit : (stamps : List Stamp) → AreAmong stamps (stamps_of addresses) → Each (StampFits code) stamps
  stamps_fit [] h = tt
  stamps_fit (s ∷ stamps) h = (stamp_fits s h.0, stamps_fit stamps h.1)

  uses_fit : (uses : List Seen) → AreOfStamps (stamps_of addresses) uses → Each (λ u. Each (StampFits code) u.stamps) uses
  uses_fit [] h = tt
  uses_fit (u ∷ uses) h = (stamps_fit u.stamps h.0, uses_fit uses h.1)

  each_word : (xs : List ℕ) → Each (λ a. IsTrue (is_code addresses a)) xs → Each (λ a. IsTrue (code a)) xs
  each_word [] h = tt
  each_word (x ∷ xs) h = (sym (same x) ∙ h.0, each_word xs h.1)

pub fitting_tables_are_of_code : {E W S : Type 0} (A : Analysis E W S) → FittingTablesAreOfCode A
fitting_tables_are_of_code A image is here t fits own = (
  (λ at b e. let fit = fits at b e in (sym (same at) ∙ fit.0, fit.1)),
  (λ at b e.
      let block = own at b e in
      record {
        next = (block.next.0, each_word A.code (is_word_of image) same (words_are_below image is) b.next block.next.1);
        exits = block.exits;
        stamps = uses_fit A.code (is_word_of image) same (words_are_below image is) b.uses block.uses;
      }),
)
  where
    same : (a : ℕ) → is_code A.code a ≡ is_word_of image a
    same a = ap (λ code. is_code code a) here ∙ words_are_code image is a
