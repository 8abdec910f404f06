-- What names of types can mean.
use Rattle.std.proofs.Common.{◌≡◌, ℕ, ◌+◌, ◌<◌, ◌≤◌, Bool, true, false, ltb, cond, Option, Some, None, List, [], ◌∷◌, length, refl, subst, arith, bytes_eq, codes, drop}
use Rattle.std.proofs.lemmas.Bool.{lt-ltb}
use Rattle.std.proofs.lemmas.Bool.Decides.{nat_tests}
use Rattle.syntax_parser.specs.Tree as e
use Rattle.syntax_parser.specs.Tree.{Item}
use Rattle.spec_ir.specs.declared.ty.Ty.{Ty}
use Rattle.spec_ir.specs.declared.ty.Ty.TheVariants.{Bool as Flag, Word, Data as DataTy, Map as MapOf}
use Rattle.spec_ir.specs.WellFormed.{is_width}
use Rattle.spec_declarations.specs.declared.type_names.Meaning.{Meaning}
use Rattle.spec_declarations.specs.declared.type_names.Meaning.TheVariants.{Known, BadWidth, Unknown}
use Rattle.spec_declarations.specs.Declarations.{datas_from, maps_from}
use Rattle.spec_declarations.specs.TypeNames.{TypeTable, types_from, declared_named, number_from, numerals, word_named, word_meaning, is_word_name, type_named}
use Rattle.spec_declarations.proofs.Numerals.{numerals_length}

-- a word of a width, or a type within these counts of datatypes and map types
abbrev pub is_within : ℕ → ℕ → Ty → Bool
is_within a b Flag = true
is_within a b (Word w) = is_width w
is_within a b (DataTy t) = ltb t a
is_within a b (MapOf m) = ltb m b

same_meaning : (s t : Ty) → Known s ≡ Known t → s ≡ t
same_meaning s t e = cc

differ : {A : Type 0} (t : Ty) → Unknown ≡ Known t → A
differ t e = absurd cc

differ_width : {A : Type 0} (t : Ty) → BadWidth ≡ Known t → A
differ_width t e = absurd cc

-- ---- words

number_bound : (w : ℕ) (texts : List (List ℕ)) (text : List ℕ) (n : ℕ) → number_from w texts text ≡ Some n → (w ≤ n) × (n < w + length texts)
number_bound w [] text n h = absurd (none h)
  where
    none : None ≡ Some n → ⊥
    none e = cc
number_bound w (t ∷ texts) text n h = here (bytes_eq t text) h (λ k. number_bound (w + 1) texts text n k)
  where
    here : (b : Bool) → cond b (Some w) (number_from (w + 1) texts text) ≡ Some n
        → (number_from (w + 1) texts text ≡ Some n → (w + 1 ≤ n) × (n < w + 1 + length texts)) → (w ≤ n) × (n < w + length (t ∷ texts))
    here true e later = let same : w ≡ n = cc in (omega arith, omega arith)
    here false e later = let r = later e in (omega (arith, r.0), omega (arith, r.1))

word_fits : (a b : ℕ) (digits : List ℕ) (t : Ty) → word_named digits ≡ Known t → is_within a b t ≡ true
word_fits a b digits t h = cases (number_from 1 (numerals 1 64) digits) refl h
  where
    width : (w : ℕ) → number_from 1 (numerals 1 64) digits ≡ Some w → is_width w ≡ true
    width w e =
        let r = number_bound 1 (numerals 1 64) digits w e in
        let low : 1 ≤ w = r.0 in
        let high : w < 65 = omega (arith, r.1, numerals_length 1 64) in
        grind (arith, nat_tests)

    cases : (o : Option ℕ) → number_from 1 (numerals 1 64) digits ≡ o → word_meaning o ≡ Known t → is_within a b t ≡ true
    cases None e k = differ_width t k
    cases (Some w) e k = subst (λ s. is_within a b s ≡ true) (same_meaning (Word w) t k) (width w e)

-- ---- declared types

module _ (table : TypeTable) where
  declared_fits : (d m : ℕ) (items : List Item) (text : List ℕ) (t : Ty) → declared_named (types_from d m items) text ≡ Known t
      → is_within (d + length (datas_from table items)) (m + length (maps_from table items)) t ≡ true
  declared_fits d m [] text t h = differ t h
  declared_fits d m (e.datatype x ∷ items) text t h =
      let a = d + length (datas_from table (e.datatype x ∷ items)) in
      let b = m + length (maps_from table (e.datatype x ∷ items)) in
      let next : d + 1 + length (datas_from table items) ≡ a = omega arith in
      let low : d < a = omega arith in
      here (bytes_eq x.name.text text) (DataTy d) a b (declared_named (types_from (d + 1) m items) text) (lt-ltb d a low) h
      (λ k. subst (λ n. is_within n b t ≡ true) next (declared_fits (d + 1) m items text t k))
    where
      here : (c : Bool) (s : Ty) (a b : ℕ) (later : Meaning) → is_within a b s ≡ true → cond c (Known s) later ≡ Known t → (later ≡ Known t → is_within a b t ≡ true) → is_within a b t ≡ true
      here true s a b later fits k go = subst (λ u. is_within a b u ≡ true) (same_meaning s t k) fits
      here false s a b later fits k go = go k
  declared_fits d m (e.map_type x ∷ items) text t h =
      let a = d + length (datas_from table (e.map_type x ∷ items)) in
      let b = m + length (maps_from table (e.map_type x ∷ items)) in
      let next : m + 1 + length (maps_from table items) ≡ b = omega arith in
      let low : m < b = omega arith in
      here (bytes_eq x.name.text text) (MapOf m) a b (declared_named (types_from d (m + 1) items) text) (lt-ltb m b low) h
      (λ k. subst (λ n. is_within a n t ≡ true) next (declared_fits d (m + 1) items text t k))
    where
      here : (c : Bool) (s : Ty) (a b : ℕ) (later : Meaning) → is_within a b s ≡ true → cond c (Known s) later ≡ Known t → (later ≡ Known t → is_within a b t ≡ true) → is_within a b t ≡ true
      here true s a b later fits k go = subst (λ u. is_within a b u ≡ true) (same_meaning s t k) fits
      here false s a b later fits k go = go k
  declared_fits d m (e.function x ∷ items) text t h = declared_fits d m items text t h
  declared_fits d m (e.decode x ∷ items) text t h = declared_fits d m items text t h

  -- a type that a name means is there
  pub named_fits : (items : List Item) (text : List ℕ) (t : Ty) → type_named (types_from 0 0 items) text ≡ Known t
      → is_within (length (datas_from table items)) (length (maps_from table items)) t ≡ true
  unfolding type_named
  named_fits items text t h = flag (bytes_eq text (codes "BOOL")) h
    where
      a : ℕ
      a = length (datas_from table items)

      b : ℕ
      b = length (maps_from table items)

      plus : (n : ℕ) → 0 + n ≡ n
      plus n = omega arith

      zero_plus : is_within (0 + a) (0 + b) t ≡ true → is_within a b t ≡ true
      zero_plus k = subst (λ n. is_within a n t ≡ true) (plus b) (subst (λ n. is_within n (0 + b) t ≡ true) (plus a) k)

      word : (c : Bool) → cond c (word_named (drop 3 text)) (declared_named (types_from 0 0 items) text) ≡ Known t → is_within a b t ≡ true
      word true k = word_fits a b (drop 3 text) t k
      word false k = zero_plus (declared_fits 0 0 items text t k)

      flag : (c : Bool) → cond c (Known Flag) (cond (is_word_name text) (word_named (drop 3 text)) (declared_named (types_from 0 0 items) text)) ≡ Known t → is_within a b t ≡ true
      flag true k = subst (λ s. is_within a b s ≡ true) (same_meaning Flag t k) refl
      flag false k = word (is_word_name text) k
