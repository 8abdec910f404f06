-- Values of types, the words of which fit.
use Rattle.std.proofs.Common.{◌≡◌, ℕ, zero, suc, ◌++◌, Bool, true, List, [], ◌∷◌, length, Option, Some, None, slice_get, refl, ap, subst, arith}
use Rattle.std.specs.Prelude.{◌==◌, nat_lt, IfSome}
use Rattle.std.proofs.lemmas.Bool.{false≢true, eqb-true as same_number}
use Rattle.std.proofs.lemmas.Bool.Decides.{nat_tests}
use Rattle.spec_match_compiler.proofs.Truth.{and_left, and_right, both}
use Rattle.word_operations.specs.Width.{IsWidth}
use Rattle.base_trait.specs.Algebra.{Algebra}
use Rattle.base_trait.specs.declared.tri.Tri.{Tri}
use Rattle.abstract_map_laws.specs.Maps.{Map, Fits as MapFits}
use Rattle.spec_ir.specs.declared.ty.Ty.{Ty}
use Rattle.spec_ir.specs.declared.ty.Ty.TheVariants.{Bool as Flag, Word, Data as DataTy, Map as MapOf}
use Rattle.spec_ir.specs.declared.declared.MapType.{MapType}
use Rattle.spec_ir.specs.Environment.{Environment, Data, Case}
use Rattle.spec_ir.specs.WellFormed.{is_type}
use Rattle.semantics_laws.proofs.Values.{width_to}
use Rattle.abstract_value_laws.specs.Abs.{Abs, Cases, flag, word, made, map, parts}
use Rattle.abstract_value_laws.specs.Fits.{Fits, CasesFit, PartsFit}
use Rattle.abstract_value_laws.specs.Types.{has_width, of_data, has_type, have_cases, have_types}

module _ {W N C : Type 0} (B : Algebra W N C) (c : C) (cap : ℕ) (env : Environment) (P : Abs W N → Type 0) where
  -- The value has the type, its words fit, and P holds of it.
  pub record IsOf (ty : Ty) (x : Abs W N) : Type 0 where
    pub has : has_type env x ty ≡ true
    pub fits : Fits B c cap x
    pub also : P x

  abbrev pub AreOf : List Ty → List (Abs W N) → Type 0
  AreOf [] [] = Unit {0}
  AreOf (t ∷ ts) (x ∷ xs) = IsOf t x × AreOf ts xs
  AreOf _ _ = ⊥

  pub are_append : (ts us : List Ty) (xs ys : List (Abs W N)) → AreOf ts xs → AreOf us ys → AreOf (ts ++ us) (xs ++ ys)
  are_append [] us [] ys h k = k
  are_append [] us (x ∷ xs) ys h k = absurd h
  are_append (t ∷ ts) us [] ys h k = absurd h
  are_append (t ∷ ts) us (x ∷ xs) ys h k = (h.0, are_append ts us xs ys h.1 k)

  pub looked_up : (ts : List Ty) (xs : List (Abs W N)) (n : ℕ) (ty : Ty) → AreOf ts xs → slice_get ts n ≡ Some ty → IfSome (slice_get xs n) (IsOf ty)
  looked_up [] xs n ty h e = absurd cc
  looked_up (t ∷ ts) [] n ty h e = absurd h
  looked_up (t ∷ ts) (x ∷ xs) zero ty h e = let same : t ≡ ty = cc in subst (λ z. IsOf z x) same h.0
  looked_up (t ∷ ts) (x ∷ xs) (suc n) ty h e = looked_up ts xs n ty h.1 e

  pub are_typed : (ts : List Ty) (xs : List (Abs W N)) → AreOf ts xs → have_types env (parts xs) ts ≡ true
  are_typed [] [] h = refl
  are_typed [] (x ∷ xs) h = absurd h
  are_typed (t ∷ ts) [] h = absurd h
  are_typed (t ∷ ts) (x ∷ xs) h = both (has_type env x t) (have_types env (parts xs) ts) h.0.has (are_typed ts xs h.1)

  pub are_fit : (ts : List Ty) (xs : List (Abs W N)) → AreOf ts xs → PartsFit B c cap (parts xs)
  are_fit [] [] h = tt
  are_fit [] (x ∷ xs) h = absurd h
  are_fit (t ∷ ts) [] h = absurd h
  are_fit (t ∷ ts) (x ∷ xs) h = (h.0.fits, are_fit ts xs h.1)

  -- ---- forms of values
  pub record IsWord (w : ℕ) (x : Abs W N) : Type 0 where
    pub word_is : W
    pub is : x ≡ word w word_is
    pub width : IsWidth w
    pub fits : B.words.fits c w word_is

  pub word_there : (w : ℕ) (x : Abs W N) → IsOf (Word w) x → IsWord w x
  word_there w (word u x) h =
      let same : u ≡ w = same_number u w h.has in
      record { word_is = x; is = ap (λ z. word z x) same; width = subst IsWidth same h.fits.0; fits = subst (λ z. B.words.fits c z x) same h.fits.1 }
  word_there w (flag t) h = absurd (false≢true h.has)
  word_there w (made ty cs) h = absurd (false≢true h.has)
  word_there w (map m x) h = absurd (false≢true h.has)

  pub flag_is : (x : Abs W N) → IsOf Flag x → (t : Tri) × (x ≡ flag t)
  flag_is (flag t) h = (t, refl)
  flag_is (word u x) h = absurd (false≢true h.has)
  flag_is (made ty cs) h = absurd (false≢true h.has)
  flag_is (map m x) h = absurd (false≢true h.has)

  pub record IsMap (m : ℕ) (x : Abs W N) : Type 0 where
    pub map_is : Map W N
    pub is : x ≡ map m map_is
    pub ty : MapType
    pub declared : slice_get env.maps m ≡ Some ty
    pub width : ty.width ≡ map_is.width
    pub fits : MapFits B c cap map_is

  map_type : (o : Option MapType) (w : ℕ) → has_width o w ≡ true → (ty : MapType) × (o ≡ Some ty) × (ty.width ≡ w)
  map_type None w h = absurd (false≢true h)
  map_type (Some ty) w h = (ty, refl, same_number ty.width w h)

  pub map_there : (m : ℕ) (x : Abs W N) → IsOf (MapOf m) x → IsMap m x
  map_there m (map n x) h =
      let same : n ≡ m = same_number n m (and_left (n == m) _ h.has) in
      let t = map_type (slice_get env.maps m) x.width (and_right (n == m) _ h.has) in
      record { map_is = x; is = ap (λ z. map z x) same; ty = t.0; declared = t.1; width = t.2; fits = h.fits }
  map_there m (flag t) h = absurd (false≢true h.has)
  map_there m (word u x) h = absurd (false≢true h.has)
  map_there m (made ty cs) h = absurd (false≢true h.has)

  pub record IsMade (d : ℕ) (x : Abs W N) : Type 0 where
    pub cases_are : Cases W N
    pub is : x ≡ made d cases_are
    pub data_is : Data
    pub declared : slice_get env.datas d ≡ Some data_is
    pub typed : have_cases env cases_are data_is.cases ≡ true
    pub fits : CasesFit B c cap cases_are

  data_type : (o : Option Data) (f : List Case → Bool) → of_data o f ≡ true → (d : Data) × (o ≡ Some d) × (f d.cases ≡ true)
  data_type None f h = absurd (false≢true h)
  data_type (Some d) f h = (d, refl, h)

  pub made_there : (d : ℕ) (x : Abs W N) → IsOf (DataTy d) x → IsMade d x
  made_there d (made t cs) h =
      let same : t ≡ d = same_number t d (and_left (t == d) _ h.has) in
      let k = data_type (slice_get env.datas d) (have_cases env cs) (and_right (t == d) _ h.has) in
      record { cases_are = cs; is = ap (λ z. made z cs) same; data_is = k.0; declared = k.1; typed = k.2; fits = h.fits }
  made_there d (flag t) h = absurd (false≢true h.has)
  made_there d (word u x) h = absurd (false≢true h.has)
  made_there d (map m x) h = absurd (false≢true h.has)

  below_length : {A : Type 0} (xs : List A) (n : ℕ) (x : A) → slice_get xs n ≡ Some x → nat_lt n (length xs) ≡ true
  below_length [] n x e = absurd cc
  below_length (y ∷ ys) zero x e = grind (arith, nat_tests)
  below_length (y ∷ ys) (suc n) x e = let h = below_length ys n x e in grind (arith, nat_tests)

  -- the type is one of the environment
  pub type_is : (ty : Ty) (x : Abs W N) → IsOf ty x → is_type env ty ≡ true
  type_is Flag x h = refl
  type_is (Word w) x h = let k = word_there w x h in width_to w k.width
  type_is (DataTy d) x h = let k = made_there d x h in below_length env.datas d k.data_is k.declared
  type_is (MapOf m) x h = let k = map_there m x h in below_length env.maps m k.ty k.declared
