-- Steps give values of their types.
use Rattle.std.proofs.Common.{◌≡◌, ℕ, zero, suc, ◌≤◌, ◌^◌, ◌&&◌, Bool, true, false, cond, List, [], ◌∷◌, length, Option, Some, None, slice_get, refl, sym, ap, subst, ◌∙◌}
use Rattle.std.specs.Prelude.{◌==◌, nat_lt, is_some}
use Rattle.std.proofs.lemmas.Bool.{false≢true}
use Rattle.spec_match_compiler.proofs.Truth.{both, equal_itself}
use Rattle.word_operations.specs.declared.kinds.UnaryOperation.{UnaryOperation}
use Rattle.word_operations.specs.declared.kinds.BinaryOperation.{BinaryOperation}
use Rattle.word_operations.specs.declared.kinds.WordComparison.{WordComparison}
use Rattle.word_operations.specs.Width.{IsWidth}
use Rattle.base_trait.specs.Algebra.{Algebra}
use Rattle.base_trait.specs.Laws.{Laws}
use Rattle.base_trait.specs.Uses.{Seen}
use Rattle.base_trait.specs.declared.tri.Tri.{Tri}
use Rattle.abstract_map_laws.specs.Keys.{Keys, one, some}
use Rattle.abstract_map_laws.specs.Maps.{Map, Fits as MapFits}
use Rattle.abstract_map_laws.specs.Calls.{access_of, update_of}
use Rattle.abstract_map_laws.specs.Laws.{HasRoom}
use Rattle.abstract_map_laws.proofs.Fitting.{update_fits}
use Rattle.abstract_map_laws.proofs.Reading.{access_fits}
use Rattle.spec_match_compiler.specs.Values.{Place}
use Rattle.spec_ir.specs.declared.ty.Ty.{Ty}
use Rattle.spec_ir.specs.declared.ty.Ty.TheVariants.{Bool as Flag, Word, Data as DataTy, Map as MapOf}
use Rattle.spec_ir.specs.declared.declared.MapType.{MapType}
use Rattle.spec_ir.specs.declared.term.CastKind.{CastKind}
use Rattle.spec_ir.specs.Environment.{Environment, Data, Case, field_types, key_type, value_type, key_of, value_of}
use Rattle.spec_ir.specs.Texts.{case_at, cases_of, fields_at}
use Rattle.spec_ir.specs.TermTypes.{CastFits}
use Rattle.semantics_values.specs.Types.{key_count}
use Rattle.semantics.specs.Steps.{casts}
use Rattle.semantics_laws.specs.Accepted.{is_key_type}
use Rattle.abstract_value_laws.specs.Abs.{Abs, Parts, flag, word, made, map, no_case, parts}
use Rattle.abstract_value_laws.specs.Calls.{join_of}
use Rattle.abstract_value_laws.specs.Fits.{CasesFit, PartsFit}
use Rattle.abstract_value_laws.specs.OfValues.{absent_onto, case_count, one_case}
use Rattle.abstract_value_laws.specs.Types.{has_type, have_cases, have_types, of_data}
use Rattle.support_tail_fixpoint.specs.Answer.{gives}
use Rattle.abstract_semantics.specs.Choices.{abs_at}
use Rattle.abstract_semantics.specs.Keys.{is_keyed, keys_of}
use Rattle.abstract_semantics.specs.Steps.{accessed, binary, cast_of, compared, made_of, put_at, put_of, read_of, resized, unary, updated}
use Rattle.abstract_semantics.proofs.Kept.{IsKept, guarded, keeps_itself, keeps_more, nothing}
use Rattle.abstract_semantics.proofs.Typed.{IsOf, AreOf, word_there, map_there, are_typed, are_fit}
use Rattle.abstract_semantics.proofs.Keyed.{IsBelow, key_below, keyed}

-- What the steps of an evaluation at address a keep, beside types and fitting.
pub record Invariant {W N C : Type 0} (B : Algebra W N C) (c : C) (cap : ℕ) (env : Environment) (a : ℕ) (P : Abs W N → Type 0) : Type 0 where
  pub flags : (t : Tri) → P (flag t)
  pub words : (w : ℕ) (x : W) → P (word w x)
  pub makes : (d k : ℕ) (ts : List Ty) (xs : List (Abs W N)) → AreOf B c cap env P ts xs → P (made d (one_case (case_count env d) k (parts xs)))
  pub fields : (place : Place) (x y : Abs W N) → P x → abs_at place x ≡ Some y → P y
  pub joins : (x y : Abs W N) → P x → P y → P (join_of B c cap x y)
  pub puts : (m : ℕ) (ty : MapType) (x : Map W N) (ks : Keys) (v : W) → slice_get env.maps m ≡ Some ty → IsBelow (key_count env ty.key) ks → P (map m x) → P (map m (update_of B c cap x ks (put_at B c a v)))

module _ {W N C : Type 0} (B : Algebra W N C) (laws : Laws W N C B) (c : C) (cap : ℕ) (env : Environment) (a : ℕ) (P : Abs W N → Type 0) (inv : Invariant B c cap env a P) (Fine : Type 0) where
  pub word_of : (w : ℕ) (x : W) → IsWidth w → B.words.fits c w x → IsOf B c cap env P (Word w) (word w x)
  word_of w x wide f = record { has = equal_itself w; fits = (wide, f); also = inv.words w x }

  pub flag_of : (t : Tri) → IsOf B c cap env P Flag (flag t)
  flag_of t = record { has = refl; fits = tt; also = inv.flags t }

  pub unary_kept : (op : UnaryOperation) (w : ℕ) (x : Abs W N) (l : List Seen) → IsOf B c cap env P (Word w) x → IsKept Fine (IsOf B c cap env P (Word w)) l (gives (unary B c op w x) l)
  unary_kept op w x l h =
      let k = word_there B c cap env P w x h in
      subst (λ z. IsKept Fine (IsOf B c cap env P (Word w)) l (gives (unary B c op w z) l)) (sym k.is)
      (guarded Fine (IsOf B c cap env P (Word w)) (w == w) _ l (word_of w (B.words.op1 c op w k.word_is) k.width (laws.words.op1_fits c op w k.word_is k.width k.fits)))

  pub binary_kept : (op : BinaryOperation) (w : ℕ) (x y : Abs W N) (l : List Seen) → IsOf B c cap env P (Word w) x → IsOf B c cap env P (Word w) y → IsKept Fine (IsOf B c cap env P (Word w)) l (gives (binary B c op w x y) l)
  binary_kept op w x y l h g =
      let k = word_there B c cap env P w x h in
      let i = word_there B c cap env P w y g in
      subst (λ z. IsKept Fine (IsOf B c cap env P (Word w)) l (gives (binary B c op w z y) l)) (sym k.is)
      (subst (λ z. IsKept Fine (IsOf B c cap env P (Word w)) l (gives (binary B c op w (word w k.word_is) z) l)) (sym i.is)
      (guarded Fine (IsOf B c cap env P (Word w)) (w == w && w == w) _ l (word_of w (B.words.op2 c op w k.word_is i.word_is) k.width (laws.words.op2_fits c op w k.word_is i.word_is k.width k.fits i.fits))))

  pub compared_kept : (q : WordComparison) (w : ℕ) (x y : Abs W N) (l : List Seen) → IsOf B c cap env P (Word w) x → IsOf B c cap env P (Word w) y → IsKept Fine (IsOf B c cap env P Flag) l (gives (compared B c q w x y) l)
  compared_kept q w x y l h g =
      let k = word_there B c cap env P w x h in
      let i = word_there B c cap env P w y g in
      subst (λ z. IsKept Fine (IsOf B c cap env P Flag) l (gives (compared B c q w z y) l)) (sym k.is)
      (subst (λ z. IsKept Fine (IsOf B c cap env P Flag) l (gives (compared B c q w (word w k.word_is) z) l)) (sym i.is)
      (guarded Fine (IsOf B c cap env P Flag) (w == w && w == w) _ l (flag_of (B.words.cmp c q w k.word_is i.word_is))))

  pub cast_fits : (kind : CastKind) (from to : ℕ) (x : W) → IsWidth from → IsWidth to → CastFits kind from to → B.words.fits c from x → B.words.fits c to (cast_of B c kind from to x)
  cast_fits CastKind.Zero from to x n w h f = laws.words.zext_fits c from to x (record { narrow = n; wide = w; order = h }) f
  cast_fits CastKind.Sign from to x n w h f = laws.words.sext_fits c from to x (record { narrow = n; wide = w; order = h }) f
  cast_fits CastKind.Cut from to x n w h f = laws.words.trunc_fits c from to x (record { narrow = w; wide = n; order = h }) f

  pub resized_kept : (kind : CastKind) (from to : ℕ) (x : Abs W N) (l : List Seen) → IsOf B c cap env P (Word from) x → IsWidth to → CastFits kind from to → IsKept Fine (IsOf B c cap env P (Word to)) l (gives (resized B c kind from to x) l)
  resized_kept kind from to x l h w f =
      let k = word_there B c cap env P from x h in
      subst (λ z. IsKept Fine (IsOf B c cap env P (Word to)) l (gives (resized B c kind from to z) l)) (sym k.is)
      (guarded Fine (IsOf B c cap env P (Word to)) (from == from && casts kind from to) _ l (word_of to (cast_of B c kind from to k.word_is) w (cast_fits kind from to k.word_is k.width w f k.fits)))

  -- ---- maps
  pub value_is : (m : ℕ) (ty : MapType) (x : Map W N) → slice_get env.maps m ≡ Some ty → ty.width ≡ x.width → value_type env m ≡ Word x.width
  value_is m ty x e w = ap value_of e ∙ ap Word w

  pub accessed_kept : (m : ℕ) (x key : Abs W N) (l : List Seen) → IsOf B c cap env P (MapOf m) x → IsKept Fine (IsOf B c cap env P (value_type env m)) l (accessed B c m x key l)
  accessed_kept m x key l h =
      let k = map_there B c cap env P m x h in
      subst (λ z. IsKept Fine (IsOf B c cap env P (value_type env m)) l (accessed B c m z key l)) (sym k.is)
      (subst (λ ty. IsKept Fine (IsOf B c cap env P ty) l (accessed B c m (map m k.map_is) key l)) (sym (value_is m k.ty k.map_is k.declared k.width)) (at k.map_is k.fits (m == m) (keys_of B c k.map_is key)))
    where
      read : (z : Map W N) → MapFits B c cap z → (o : Option Keys) → IsKept Fine (IsOf B c cap env P (Word z.width)) l (read_of B c m z l o)
      read z f None = nothing Fine (IsOf B c cap env P (Word z.width)) l
      read z f (Some ks) = (word_of z.width (access_of B c z ks).word f.width (access_fits B laws c cap z ks f), keeps_more l _)

      at : (z : Map W N) → MapFits B c cap z → (b : Bool) (o : Option Keys) → IsKept Fine (IsOf B c cap env P (Word z.width)) l (cond b (read_of B c m z l o) (gives None l))
      at z f true o = read z f o
      at z f false o = nothing Fine (IsOf B c cap env P (Word z.width)) l

  module _ (room : HasRoom B cap) where
    pub updated_kept : (m : ℕ) (x key v : Abs W N) (l : List Seen) → (is_key_type env (key_type env m) ≡ true) → key_count env (key_type env m) ≤ 2 ^ 32
        → IsOf B c cap env P (MapOf m) x → IsOf B c cap env P (key_type env m) key → IsOf B c cap env P (value_type env m) v
        → IsKept Fine (IsOf B c cap env P (MapOf m)) l (gives (updated B c cap a m x key v) l)
    updated_kept m x key v l kt few h g i =
        let k = map_there B c cap env P m x h in
        let q = word_there B c cap env P k.map_is.width v (subst (λ ty. IsOf B c cap env P ty v) (value_is m k.ty k.map_is k.declared k.width) i) in
        subst (λ z. IsKept Fine (IsOf B c cap env P (MapOf m)) l (gives (updated B c cap a m z key v) l)) (sym k.is)
        (subst (λ z. IsKept Fine (IsOf B c cap env P (MapOf m)) l (gives (updated B c cap a m (map m k.map_is) key z) l)) (sym q.is)
        (at k.map_is k.ty k.declared k.fits (subst (IsOf B c cap env P (MapOf m)) k.is h) q.word_is q.fits (m == m && k.map_is.width == k.map_is.width) (keys_of B c k.map_is key) refl))
      where
        width_kept : (z : Map W N) (ks : Keys) (y : W) → (update_of B c cap z ks (put_at B c a y)).width ≡ z.width
        width_kept z (one k) y = refl
        width_kept z (some ks all) y = refl

        put : (z : Map W N) (ty : MapType) → slice_get env.maps m ≡ Some ty → MapFits B c cap z → IsOf B c cap env P (MapOf m) (map m z) → (y : W) → B.words.fits c z.width y → (ks : Keys) → keys_of B c z key ≡ Some ks → (b : Bool)
            → IsKept Fine (IsOf B c cap env P (MapOf m)) l (gives (cond b (Some (map m (update_of B c cap z ks (put_at B c a y)))) None) l)
        put z ty d f h y fy ks e false = nothing Fine (IsOf B c cap env P (MapOf m)) l
        put z ty d f h y fy ks e true =
            let below : IsBelow (key_count env (key_type env m)) ks = key_below B laws c cap env P (key_type env m) z key ks kt g e in (
              record {
                has = subst (λ w. has_type env (map m (record { width = w; rest = z.rest; cells = z.cells })) (MapOf m) ≡ true) (sym (width_kept z ks y)) h.has;
                fits = update_fits B laws c cap z ks (put_at B c a y) room (keyed (key_count env (key_type env m)) ks few below) f fy;
                also = inv.puts m ty z ks y d (subst (λ t. IsBelow (key_count env (key_of t)) ks) d below) h.also;
              },
              keeps_itself l,
            )

        at : (z : Map W N) (ty : MapType) → slice_get env.maps m ≡ Some ty → MapFits B c cap z → IsOf B c cap env P (MapOf m) (map m z) → (y : W) → B.words.fits c z.width y → (b : Bool) (o : Option Keys) → keys_of B c z key ≡ o
            → IsKept Fine (IsOf B c cap env P (MapOf m)) l (gives (cond b (put_of B c cap a m z y o) None) l)
        at z ty d f h y fy false o e = nothing Fine (IsOf B c cap env P (MapOf m)) l
        at z ty d f h y fy true None e = nothing Fine (IsOf B c cap env P (MapOf m)) l
        at z ty d f h y fy true (Some ks) e = put z ty d f h y fy ks e (is_keyed ks)

  -- ---- constructors
  absent_typed : (ds : List Case) → have_cases {W = W} {N = N} env (absent_onto (length ds) no_case) ds ≡ true
  absent_typed [] = refl
  absent_typed (d ∷ ds) = absent_typed ds

  one_typed : (ds : List Case) (k : ℕ) (xs : Parts W N) (d : Case) → slice_get ds k ≡ Some d → have_types env xs (field_types d) ≡ true → have_cases env (one_case (length ds) k xs) ds ≡ true
  one_typed [] k xs d e h = absurd cc
  one_typed (q ∷ ds) zero xs d e h = let same : q ≡ d = cc in both (have_types env xs (field_types q)) _ (subst (λ z. have_types env xs (field_types z) ≡ true) (sym same) h) (absent_typed ds)
  one_typed (q ∷ ds) (suc k) xs d e h = one_typed ds k xs d e h

  absent_fit : (n : ℕ) → CasesFit B c cap (absent_onto n no_case)
  absent_fit zero = tt
  absent_fit (suc n) = absent_fit n

  one_fits : (n k : ℕ) (xs : Parts W N) → PartsFit B c cap xs → CasesFit B c cap (one_case n k xs)
  one_fits zero k xs h = tt
  one_fits (suc n) zero xs h = (h, absent_fit n)
  one_fits (suc n) (suc k) xs h = one_fits n k xs h

  pub made_kept : (d k : ℕ) (xs : List (Abs W N)) (l : List Seen) → is_some (case_at env (DataTy d) k) ≡ true → AreOf B c cap env P (fields_at (case_at env (DataTy d) k)) xs
      → IsKept Fine (IsOf B c cap env P (DataTy d)) l (gives (made_of env d k xs) l)
  made_kept d k xs l there h = guarded Fine (IsOf B c cap env P (DataTy d)) (nat_lt k (case_count env d)) _ l (record {
    has = both (d == d) _ (equal_itself d) (at (slice_get env.datas d) (case_at env (DataTy d) k) refl there (are_typed B c cap env P _ xs h));
    fits = one_fits (case_count env d) k (parts xs) (are_fit B c cap env P _ xs h);
    also = inv.makes d k _ xs h;
  })
    where
      at : (o : Option Data) (q : Option Case) → slice_get (cases_of o) k ≡ q → is_some q ≡ true → have_types env (parts xs) (fields_at q) ≡ true → of_data o (have_cases env (one_case (length (cases_of o)) k (parts xs))) ≡ true
      at None q e i t = absurd cc
      at (Some data_is) None e i t = absurd (false≢true i)
      at (Some data_is) (Some d) e i t = one_typed data_is.cases k (parts xs) d e t
