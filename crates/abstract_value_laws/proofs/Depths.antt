-- Datatypes unfold no deeper than there are datatypes.
use Rattle.std.proofs.Common.{◌≡◌, ℕ, zero, suc, ◌+◌, ◌<◌, ◌≤◌, Bool, true, false, Some, List, [], ◌∷◌, map, length, refl, sym, ap, ◌∙◌, arith, cond, option_map, unwrap_or}
use Rattle.std.specs.Prelude.{⊤, nat_lt, slice_get}
use Rattle.std.specs.List.{list_all}
use Rattle.std.proofs.lemmas.Bool.Decides.{nat_tests}
use Rattle.std.proofs.lemmas.Option.{slice_get-map}
use Rattle.std.proofs.lemmas.Bool.{lt-ltb as less_is, ltb-true as is_less, le-ltb as not_less_is}
use Rattle.base_trait.specs.Lists.{Each}
use Rattle.base_trait.proofs.Tests.{and_parts}
use Rattle.spec_match_compiler.specs.Shapes.{RanksBelow, fields_of}
use Rattle.spec_ir.specs.declared.ty.Ty.{Ty}
use Rattle.spec_ir.specs.declared.ty.Ty.TheVariants.{Bool as Flag, Word, Data as DataTy, Map as MapOf}
use Rattle.spec_ir.specs.declared.declared.MapType.{MapType}
use Rattle.spec_ir.specs.Environment.{Case, Data, Environment, field_types, shape_of, shapes_of}
use Rattle.spec_ir.specs.WellFormed.{IsWellFormed, is_type}

-- ---- items of lists
module _ {A : Type 0} where
  pub there : (xs : List A) (k : ℕ) → k < length xs → (x : A) × (slice_get xs k ≡ Some x)
  there [] k h = absurd (omega (arith, h))
  there (x ∷ xs) zero h = (x, refl)
  there (x ∷ xs) (suc k) h = there xs k (omega (arith, h))

  pub within : (xs : List A) (k : ℕ) (x : A) → slice_get xs k ≡ Some x → k < length xs
  within [] k x e = absurd cc
  within (y ∷ xs) zero x e = omega arith
  within (y ∷ xs) (suc k) x e = let later = within xs k x e in omega (arith, later)

  pub all_at : (f : A → Bool) (xs : List A) (k : ℕ) (x : A) → list_all f xs ≡ true → slice_get xs k ≡ Some x → f x ≡ true
  all_at f [] k x h e = absurd cc
  all_at f (y ∷ xs) zero x h e = let same : y ≡ x = cc in ap f (sym same) ∙ (and_parts (f y) (list_all f xs) h).0
  all_at f (y ∷ xs) (suc k) x h e = all_at f xs k x (and_parts (f y) (list_all f xs) h).1 e

  pub each_index : (P : A → Type 0) (xs : List A) → ((k : ℕ) (x : A) → slice_get xs k ≡ Some x → P x) → Each P xs
  each_index P [] f = tt
  each_index P (x ∷ xs) f = (f 0 x refl, each_index P xs (λ k y e. f (suc k) y e))

-- ---- how many of the first numbers have a rank below a bound
abbrev counts : Bool → ℕ
counts b = cond b 1 0

counts_more : (a b : Bool) → (a ≡ true → b ≡ true) → counts a ≤ counts b
counts_more true true f = omega arith
counts_more true false f = absurd (let t = f refl in cc)
counts_more false b f = omega arith

counts_most : (a : Bool) → counts a ≤ 1
counts_most true = omega arith
counts_most false = omega arith

module _ (rank : ℕ → ℕ) where
  abbrev below : ℕ → ℕ → ℕ
  below r zero = 0
  below r (suc n) = counts (nat_lt (rank n) r) + below r n

  below_more : (r s n : ℕ) → r ≤ s → below r n ≤ below s n
  below_more r s zero l = omega arith
  below_more r s (suc n) l =
      let first = counts_more (nat_lt (rank n) r) (nat_lt (rank n) s) (λ h. less_is (rank n) s (let k = is_less (rank n) r h in omega (arith, k, l))) in
      let later = below_more r s n l in
      omega (arith, first, later)

  below_most : (r n : ℕ) → below r n ≤ n
  below_most r zero = omega arith
  below_most r (suc n) = let first = counts_most (nat_lt (rank n) r) in let later = below_most r n in omega (arith, first, later)

  -- a number that the second bound counts, and the first doesn't
  below_less : (u r s n : ℕ) → u < n → r ≤ rank u → rank u < s → r ≤ s → below r n < below s n
  below_less u r s zero h a b l = absurd (omega (arith, h))
  below_less u r s (suc n) h a b l = at (nat_lt u n) refl (λ k. below_less u r s n k a b l)
    where
      at : (t : Bool) → nat_lt u n ≡ t → (u < n → below r n < below s n) → below r (suc n) < below s (suc n)
      at true e f =
          let first = counts_more (nat_lt (rank n) r) (nat_lt (rank n) s) (λ h. less_is (rank n) s (let k = is_less (rank n) r h in omega (arith, k, l))) in
          let later = f (is_less u n e) in
          omega (arith, first, later)
      at false e f =
          let same : u ≡ n = grind (arith, nat_tests) in
          let rise : rank u ≡ rank n = ap rank same in
          let none : counts (nat_lt (rank n) r) ≡ 0 = ap counts (not_less_is (rank n) r (omega (arith, a, rise))) in
          let one : counts (nat_lt (rank n) s) ≡ 1 = ap counts (less_is (rank n) s (omega (arith, b, rise))) in
          let later = below_more r s n l in
          omega (arith, none, one, later)

  -- a number that isn't counted
  below_few : (u r n : ℕ) → u < n → r ≤ rank u → below r n < n
  below_few u r zero h a = absurd (omega (arith, h))
  below_few u r (suc n) h a = at (nat_lt u n) refl (λ k. below_few u r n k a)
    where
      at : (t : Bool) → nat_lt u n ≡ t → (u < n → below r n < n) → below r (suc n) < suc n
      at true e f = let first = counts_most (nat_lt (rank n) r) in let later = f (is_less u n e) in omega (arith, first, later)
      at false e f =
          let same : u ≡ n = grind (arith, nat_tests) in
          let rise : rank u ≡ rank n = ap rank same in
          let none : counts (nat_lt (rank n) r) ≡ 0 = ap counts (not_less_is (rank n) r (omega (arith, a, rise))) in
          let later = below_most r n in
          omega (arith, none, later)

-- ---- unfolding to a depth meets what is declared, to the end
module _ (env : Environment) where
  abbrev pub deep_by : (ℕ → Type 0) → Ty → Type 0
  deep_by made Flag = ⊤
  deep_by made (Word w) = ⊤
  deep_by made (DataTy t) = made t
  deep_by made (MapOf m) = (d : MapType) × (slice_get env.maps m ≡ Some d)

  abbrev pub Deep : ℕ → ℕ → Type 0
  Deep zero t = ⊥
  Deep (suc n) t = (d : Data) × (slice_get env.datas t ≡ Some d) × Each (λ c. Each (deep_by (Deep n)) (field_types c)) d.cases

  -- the shapes of a constructor's fields
  shapes_at : (t k : ℕ) (d : Data) (c : Case) → slice_get env.datas t ≡ Some d → slice_get d.cases k ≡ Some c → fields_of (shapes_of env) t k ≡ Some (map shape_of (field_types c))
  shapes_at t k d c e f =
      let row : slice_get (shapes_of env) t ≡ Some (map (λ c. map shape_of (field_types c)) d.cases) = slice_get-map (λ d. map (λ c. map shape_of (field_types c)) d.cases) env.datas t ∙ ap (option_map (λ d. map (λ c. map shape_of (field_types c)) d.cases)) e in
      ap (λ o. slice_get (unwrap_or o []) k) row ∙ slice_get-map (λ c. map shape_of (field_types c)) d.cases k ∙ ap (option_map (λ c. map shape_of (field_types c))) f

  -- fields whose datatypes are of lower rank
  fields_deep : (made : ℕ → Type 0) (rank : ℕ → ℕ) (r : ℕ) (types : List Ty) → list_all (is_type env) types ≡ true → RanksBelow (shapes_of env) rank r (map shape_of types)
      → ((u : ℕ) → u < length env.datas → rank u < r → made u) → Each (deep_by made) types
  fields_deep made rank r [] a b f = tt
  fields_deep made rank r (Flag ∷ types) a b f = (tt, fields_deep made rank r types a b f)
  fields_deep made rank r (Word w ∷ types) a b f = (tt, fields_deep made rank r types (and_parts (is_type env (Word w)) (list_all (is_type env) types) a).1 b f)
  fields_deep made rank r (DataTy u ∷ types) a b f =
      let p = and_parts (nat_lt u (length env.datas)) (list_all (is_type env) types) a in
      (f u (is_less u (length env.datas) p.0) b.0, fields_deep made rank r types p.1 b.1 f)
  fields_deep made rank r (MapOf m ∷ types) a b f =
      let p = and_parts (nat_lt m (length env.maps)) (list_all (is_type env) types) a in
      (there env.maps m (is_less m (length env.maps) p.0), fields_deep made rank r types p.1 b f)

  module _ (ok : IsWellFormed env) where
    -- the types of a constructor's fields are types
    pub fields_typed : (t k : ℕ) (d : Data) (c : Case) → slice_get env.datas t ≡ Some d → slice_get d.cases k ≡ Some c → list_all (is_type env) (field_types c) ≡ true
    fields_typed t k d c e f =
        all_at (λ c. list_all (is_type env) (field_types c)) d.cases k c (all_at (λ d. list_all (λ c. list_all (is_type env) (field_types c)) d.cases) env.datas t d ok.fields e) f

    deep : (n t : ℕ) → t < length env.datas → below ok.types.rank (ok.types.rank t) (length env.datas) < n → Deep n t
    deep zero t h l = absurd (omega (arith, l))
    deep (suc n) t h l =
        let rank = ok.types.rank in
        let d = there env.datas t h in (
          d.0,
          d.1,
          each_index (λ c. Each (deep_by (Deep n)) (field_types c)) d.0.cases (λ k c f.
              fields_deep (Deep n) rank (rank t) (field_types c) (fields_typed t k d.0 c d.1 f) (ok.types.falls t k (map shape_of (field_types c)) (shapes_at t k d.0 c d.1 f))
              (λ u here lower. deep n u here (let less = below_less rank u (rank u) (rank t) (length env.datas) here (omega arith) lower (omega (arith, lower)) in omega (arith, less, l)))),
        )

    pub deep_of : (ty : Ty) → is_type env ty ≡ true → deep_by (Deep (length env.datas)) ty
    deep_of Flag h = tt
    deep_of (Word w) h = tt
    deep_of (DataTy t) h = let here = is_less t (length env.datas) h in deep (length env.datas) t here (below_few ok.types.rank t (ok.types.rank t) (length env.datas) here (omega arith))
    deep_of (MapOf m) h = there env.maps m (is_less m (length env.maps) h)
