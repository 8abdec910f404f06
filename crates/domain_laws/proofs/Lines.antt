-- What lines give of a field.
use Rattle.std.proofs.Common.{◌≡◌, ℕ, ◌+◌, List, [], ◌∷◌, suc, Option, Some, None, refl, sym, ap, ◌∙◌, subst, arith, IsTrue}
use Rattle.std.specs.Prelude.{◌==◌, ◌≤◌, ◌^◌, IfSome, IsSomeAnd, slice_get, if◌then◌else◌}
use Rattle.base_trait.proofs.Lists.{each_at, each_from, number_told}
use Rattle.base_trait.proofs.Tests.{at_choice}
use Rattle.semantics_values.specs.declared.entry.GivenNumber.{GivenNumber}
use Rattle.semantics_values.specs.declared.entry.KeyAt.{KeyAt}
use Rattle.semantics_values.specs.declared.entry.KeyAt.TheVariants.{Whole, Rest, At}
use Rattle.semantics_values.specs.declared.entry.Line.{Line}
use Rattle.semantics.specs.Entries.{given_at, given_or, is_key}
use Rattle.domain_laws.specs.declared.field.Field.{Field}
use Rattle.domain_laws.specs.declared.field.Field.TheVariants.{Map}
use Rattle.domain_laws.specs.Entries.{GivenFits, LineFits, LinesFit, PlaceFits, field_at}
use Rattle.domain_laws.specs.Lines.{KeyFits, OfField, OfFields, OfKeys}

module _ (all : List Field) (lines : List Line) (fit : LinesFit all lines) where
  pub of_field : (i : ℕ) (f : Field) → slice_get all i ≡ Some f → OfField (suc i) f lines
  of_field i f there = each_from (λ l. l.field ≡ suc i → PlaceFits f l.key l.given) lines (λ l m e. of_line l e (each_at (LineFits all) lines l fit m))
    where
      of_line : (l : Line) → l.field ≡ suc i → LineFits all l → PlaceFits f l.key l.given
      of_line l e h =
          let at : IsSomeAnd (field_at all (suc i)) (λ g. PlaceFits g l.key l.given) = subst (λ n. IsSomeAnd (field_at all n) (λ g. PlaceFits g l.key l.given)) e h in
          subst (λ o. IsSomeAnd o (λ g. PlaceFits g l.key l.given)) there at

  of_fields : (i : ℕ) (fields : List Field) → ((j : ℕ) → slice_get fields j ≡ slice_get all (i + j)) → OfFields (suc i) fields lines
  of_fields i [] same = tt
  of_fields i (f ∷ fields) same =
      (of_field i f (sym (same 0 ∙ ap (slice_get all) (here i))), of_fields (suc i) fields (λ j. same (suc j) ∙ ap (slice_get all) (next i j)))
    where
      here : (m : ℕ) → m + 0 ≡ m
      here m = omega arith

      next : (m j : ℕ) → m + suc j ≡ suc m + j
      next m j = omega arith

  pub all_fit : OfFields 1 all lines
  all_fit = of_fields 0 all (λ j. ap (slice_get all) (start j))
    where
      start : (j : ℕ) → j ≡ 0 + j
      start j = omega arith

pub key_told : (j k : KeyAt) → IsTrue (is_key j k) → j ≡ k
key_told Whole Whole h = refl
key_told Rest Rest h = refl
key_told (At j) (At k) h = ap (λ i. At i) (number_told j k h)
key_told _ _ h = cc

-- what is given of a part is a line's
module _ (n : ℕ) (f : Field) (key : KeyAt) where
  pub given_at_fits : (lines : List Line) → OfField n f lines → IfSome (given_at lines n key) (PlaceFits f key)
  given_at_fits [] h = tt
  given_at_fits (l ∷ lines) h =
      at_choice (λ o. IfSome o (PlaceFits f key)) (l.field == n) (if is_key l.key key then Some l.given else given_at lines n key) (given_at lines n key)
      (λ e. at_choice (λ o. IfSome o (PlaceFits f key)) (is_key l.key key) (Some l.given) (given_at lines n key)
      (λ d. subst (λ k. PlaceFits f k l.given) (key_told l.key key d) (h.0 (number_told l.field n e))) (λ d. given_at_fits lines h.1))
      (λ e. given_at_fits lines h.1)

pub or_fits : (w : ℕ) (o : Option GivenNumber) (g : GivenNumber) → IfSome o (GivenFits w) → GivenFits w g → GivenFits w (given_or o g)
or_fits w None g h d = d
or_fits w (Some x) g h d = h

-- lines of a map name keys below 2^32
pub keys_fit : (n m keys width default : ℕ) → keys ≤ 2 ^ 32 → (lines : List Line) → OfField n (Map m keys width default) lines → OfKeys n width lines
keys_fit n m keys width default few [] h = tt
keys_fit n m keys width default few (l ∷ lines) h = ((λ e. of_key l.key l.given (h.0 e)), keys_fit n m keys width default few lines h.1)
  where
    of_key : (key : KeyAt) (g : GivenNumber) → PlaceFits (Map m keys width default) key g → KeyFits width key g
    of_key Whole g p = tt
    of_key Rest g p = tt
    of_key (At k) g p = let below = p.0 in (omega (arith, below, few), p.1)
