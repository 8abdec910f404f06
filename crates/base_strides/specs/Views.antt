-- Words as the code holds them: a set, which is none where the word is a stretch, and the stretch.
use Rattle.std.specs.Prelude.{ℕ, Bool, ◌==◌, ◌&&◌, ◌++◌, List, Option, Some, None, refl, IsTrue, ◌≡◌}
use Rattle.std.proofs.Common.{ap, sym, ◌∙◌}
use Rattle.std.specs.Hash as fed
use Rattle.std.specs.Cmp.{IsEquivalence, IsPartialEquivalence}
use Rattle.base_trait.specs.Identity.{IsIdentity, IsReflexive, identity_equiv, identity_partial}
use Rattle.base_trait.proofs.Lists.{number_itself, number_told}
use Rattle.base_trait.proofs.Tests.{and_both, and_parts}
use Rattle.base_kset.specs.Sets.{items_or_none}
use Rattle.base_kset.specs.Same.{same_set, same_set_is, same_set_equiv}
use Rattle.base_strides.specs.Stretch.{one}
use Rattle.base_strides.specs.Words.{Word, Listed, Strided}
use Rattle.base_strides.specs.declared.stretch.Stretch.{Stretch}

abbrev pub word_of : Option (List ℕ) → Stretch → Word
word_of (Some s) x = Listed s
word_of None x = Strided x

abbrev pub set_part : Word → Option (List ℕ)
set_part (Listed s) = Some s
set_part (Strided x) = None

abbrev pub stretch_part : Word → Stretch
stretch_part (Listed s) = one 0
stretch_part (Strided x) = x

abbrev pub same_stretch : Stretch → Stretch → Bool
same_stretch x y = (x.lo == y.lo) && ((x.step == y.step) && (x.hi == y.hi))

abbrev pub same_word : Word → Word → Bool
same_word x y = same_set (set_part x) (set_part y) && same_stretch (stretch_part x) (stretch_part y)

whole : (x : Word) → word_of (set_part x) (stretch_part x) ≡ x
whole (Listed s) = refl
whole (Strided x) = refl

abbrev made : ℕ → ℕ → ℕ → Stretch
made lo step hi = record { lo = lo; step = step; hi = hi }

same_stretch_is : (x y : Stretch) → IsTrue (same_stretch x y) → x ≡ y
same_stretch_is x y h =
    let a = and_parts (x.lo == y.lo) _ h in let b = and_parts (x.step == y.step) (x.hi == y.hi) a.1 in
    let lo = number_told x.lo y.lo a.0 in let step = number_told x.step y.step b.0 in let hi = number_told x.hi y.hi b.1 in
    ap (λ z. made z x.step x.hi) lo ∙ ap (λ z. made y.lo z x.hi) step ∙ ap (λ z. made y.lo y.step z) hi

pub same_word_itself : IsReflexive same_word
same_word_itself x =
    and_both (same_set (set_part x) (set_part x)) _ (same_set_equiv.refl (set_part x))
    (and_both _ _ (number_itself (stretch_part x).lo) (and_both _ _ (number_itself (stretch_part x).step) (number_itself (stretch_part x).hi)))

pub same_word_is : IsIdentity same_word
same_word_is x y h =
    let parts = and_parts (same_set (set_part x) (set_part y)) _ h in
    sym (whole x) ∙ ap (λ s. word_of s (stretch_part x)) (same_set_is (set_part x) (set_part y) parts.0)
    ∙ ap (word_of (set_part y)) (same_stretch_is (stretch_part x) (stretch_part y) parts.1) ∙ whole y

pub same_word_equiv : IsEquivalence same_word
same_word_equiv = identity_equiv same_word same_word_itself same_word_is

pub same_word_partial : IsPartialEquivalence same_word
same_word_partial = identity_partial same_word same_word_itself same_word_is

-- what a hash is fed
abbrev pub fed_word : Word → fed.HashWrites
fed_word x =
    fed.slice fed.u64 (items_or_none (set_part x))
    ++ (fed.u64 (stretch_part x).lo ++ (fed.u64 (stretch_part x).step ++ fed.u64 (stretch_part x).hi))

-- the stretch of a set is 0 alone
abbrev pub IsTied : Option (List ℕ) → Stretch → Type 0
IsTied (Some s) x = x ≡ one 0
IsTied None x = Unit {0}
