-- Words of each base are the same, or they are not, and so are endings.
use Rattle.std.proofs.Common.{◌≡◌, ◌∙◌, ◌⊎◌, ℕ, Bool, true, false, List, Option, Some, None, inl, inr, ap, refl, sym, subst}
use Rattle.std.specs.Prelude.{◌==◌}
use Rattle.base_trait.specs.Identity.{IsIdentity, IsReflexive, same_list, same_list_is, same_list_itself}
use Rattle.base_trait.proofs.Lists.{number_itself, number_told}
use Rattle.base_interval.specs.declared.range.Range.{Range}
use Rattle.base_bits.specs.declared.known.Known.{Known}
use Rattle.base_strides.specs.Views as strided
use Rattle.base_strides.specs.Words as strided_words
use Rattle.domain_affine_base.specs.Same.{same_word_is, same_word_itself}
use Rattle.domain_affine_base.specs.Words.{same_word}
use Rattle.domain_affine_base.specs.declared.word.Word.{Word}
use Rattle.support_command_line.specs.declared.bases.BaseName.{BaseName}
use Rattle.support_command_line.specs.declared.bases.BaseName.TheVariants as b
use Rattle.domain_laws.specs.States.{StateType}
use Rattle.fixpoint_open_tables.specs.declared.ending.Ending.{Ending}
use Rattle.fixpoint_open_tables.specs.declared.ending.Ending.TheVariants.{Open, Undecodable}
use Rattle.program_domains.specs.Named.{domain_of}

-- Each two are the same, or they are not.
abbrev pub IsDecided : {X : Type 0} → X → X → Type 0
IsDecided x y = (x ≡ y) ⊎ (x ≡ y → ⊥)

abbrev pub AreDecided : Type 0 → Type 0
AreDecided X = (x y : X) → IsDecided x y

by_test : {X : Type 0} (same : X → X → Bool) → IsReflexive same → IsIdentity same → AreDecided X
by_test same itself is x y = tested (same x y) refl
  where
    tested : (b : Bool) → same x y ≡ b → IsDecided x y
    tested true e = inl (is x y e)
    tested false e = inr (λ one. let told : same x y ≡ true = subst (λ z. same x z ≡ true) one (itself x) in let bad : false ≡ true = sym e ∙ told in cc)

numbers : AreDecided ℕ
numbers = by_test ◌==◌ number_itself number_told

lists : AreDecided (List ℕ)
lists = by_test (same_list ◌==◌) (same_list_itself ◌==◌ number_itself) (same_list_is ◌==◌ number_told)

sets : AreDecided (Option (List ℕ))
sets None None = inl refl
sets None (Some t) = inr (λ one. cc)
sets (Some s) None = inr (λ one. cc)
sets (Some s) (Some t) = from (lists s t)
  where
    from : IsDecided s t → IsDecided (Some s) (Some t)
    from (inl e) = inl (ap (λ (z : List ℕ). Some z) e)
    from (inr apart) = inr (λ one. let same : s ≡ t = cc in apart same)

abbrev range_of : ℕ → ℕ → Range
range_of lo hi = record { lo = lo; hi = hi }

ranges : AreDecided Range
ranges x y = from (numbers x.lo y.lo) (numbers x.hi y.hi)
  where
    from : IsDecided x.lo y.lo → IsDecided x.hi y.hi → IsDecided x y
    from (inl e) (inl f) = inl (ap (λ lo. range_of lo x.hi) e ∙ ap (λ hi. range_of y.lo hi) f)
    from (inl e) (inr apart) = inr (λ one. apart (ap (λ (z : Range). z.hi) one))
    from (inr apart) other = inr (λ one. apart (ap (λ (z : Range). z.lo) one))

abbrev known_of : ℕ → ℕ → Known
known_of v m = record { v = v; m = m }

bits : AreDecided Known
bits x y = from (numbers x.v y.v) (numbers x.m y.m)
  where
    from : IsDecided x.v y.v → IsDecided x.m y.m → IsDecided x y
    from (inl e) (inl f) = inl (ap (λ v. known_of v x.m) e ∙ ap (λ m. known_of y.v m) f)
    from (inl e) (inr apart) = inr (λ one. apart (ap (λ (z : Known). z.m) one))
    from (inr apart) other = inr (λ one. apart (ap (λ (z : Known). z.v) one))

strides : AreDecided strided_words.Word
strides = by_test strided.same_word strided.same_word_itself strided.same_word_is

forms : AreDecided Word
forms = by_test same_word same_word_itself same_word_is

pairs : {V W : Type 0} → AreDecided V → AreDecided W → AreDecided (V × W)
pairs {V} {W} first second x y = from (first x.0 y.0) (second x.1 y.1)
  where
    from : IsDecided x.0 y.0 → IsDecided x.1 y.1 → IsDecided x y
    from (inl e) (inl f) = inl (ap (λ z. (z, x.1)) e ∙ ap (λ z. (y.0, z)) f)
    from (inl e) (inr apart) = inr (λ one. apart (ap (λ (z : V × W). z.1) one))
    from (inr apart) other = inr (λ one. apart (ap (λ (z : V × W). z.0) one))

pub words_are_decided : (t : StateType) (base : BaseName) → AreDecided (domain_of t base).Word
words_are_decided t b.Const = sets
words_are_decided t b.KSet = sets
words_are_decided t b.Interval = ranges
words_are_decided t b.Affine = forms
words_are_decided t b.DefUse = sets
words_are_decided t b.ConstInterval = pairs sets ranges
words_are_decided t b.KSetInterval = pairs sets ranges
words_are_decided t b.KSetAffine = pairs sets forms
words_are_decided t b.KSetDefUse = pairs sets sets
words_are_decided t b.IntervalAffine = pairs ranges forms
words_are_decided t b.IntervalDefUse = pairs ranges sets
words_are_decided t b.AffineDefUse = pairs forms sets
words_are_decided t b.Bits = bits
words_are_decided t b.KSetBits = pairs sets bits
words_are_decided t b.IntervalBits = pairs ranges bits
words_are_decided t b.BitsDefUse = pairs bits sets
words_are_decided t b.Strides = strides
words_are_decided t b.StridesAffine = pairs strides forms
words_are_decided t b.StridesDefUse = pairs strides sets

-- ---- endings

module _ {W : Type 0} (words : AreDecided W) where
  abbrev undecodable_at : ℕ → Option (Ending W)
  undecodable_at v = Some (Undecodable v)

  number_ending : (v w : ℕ) → IsDecided v w → IsDecided (undecodable_at v) (undecodable_at w)
  number_ending v w (inl e) = inl (ap undecodable_at e)
  number_ending v w (inr apart) = inr (λ one. let same : v ≡ w = cc in apart same)

  word_ending : (x y : W) → IsDecided x y → IsDecided (Some (Open x)) (Some (Open y))
  word_ending x y (inl e) = inl (ap (λ z. Some (Open z)) e)
  word_ending x y (inr apart) = inr (λ one. let same : x ≡ y = cc in apart same)

  pub endings_are_decided : AreDecided (Option (Ending W))
  endings_are_decided None None = inl refl
  endings_are_decided None (Some y) = inr (λ one. cc)
  endings_are_decided (Some x) None = inr (λ one. cc)
  endings_are_decided (Some (Undecodable v)) (Some (Undecodable w)) = number_ending v w (numbers v w)
  endings_are_decided (Some (Undecodable v)) (Some (Open y)) = inr (λ one. cc)
  endings_are_decided (Some (Open x)) (Some (Undecodable w)) = inr (λ one. cc)
  endings_are_decided (Some (Open x)) (Some (Open y)) = word_ending x y (words x y)
