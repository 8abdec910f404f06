-- Merging keeps types.
use Rattle.std.proofs.Common.{◌≡◌, ℕ, Bool, true, false, cond, ◌&&◌, List, [], ◌∷◌, Option, Some, None, slice_get, refl, sym, subst}
use Rattle.std.specs.Prelude.{◌==◌}
use Rattle.spec_match_compiler.proofs.Truth.{and_left, and_right, both}
use Rattle.abstract_map_laws.specs.Maps.{Map}
use Rattle.spec_ir.specs.declared.ty.Ty.{Ty}
use Rattle.spec_ir.specs.declared.ty.Ty.TheVariants.{Bool as Flag, Word, Data as DataTy, Map as MapOf}
use Rattle.spec_ir.specs.Environment.{Case, Data, Environment, field_types}
use Rattle.abstract_value_laws.specs.Abs.{Abs, Cases, Parts, flag, word, made, map, no_case, absent, present, no_part, part}
use Rattle.abstract_value_laws.specs.Calls.{merge_of, merge_cases, merge_parts, same_type}
use Rattle.abstract_value_laws.specs.Types.{has_type, has_width, have_cases, have_types, of_data}

of_both : (o : Option Data) (f g k : List Case → Bool) → ((ds : List Case) → f ds ≡ true → g ds ≡ true → k ds ≡ true) → of_data o f ≡ true → of_data o g ≡ true → of_data o k ≡ true
of_both None f g k h p q = p
of_both (Some d) f g k h p q = h d.cases p q

either_type : {W N : Type 0} (env : Environment) (ty : Ty) (b : Bool) (x y : Abs W N) → has_type env x ty ≡ true → has_type env y ty ≡ true → has_type env (cond b x y) ty ≡ true
either_type env ty true x y h k = h
either_type env ty false x y h k = k

module _ {W N : Type 0} (env : Environment) (words : ℕ → W → W → W) (maps : Map W N → Map W N → Map W N) (wide : (x y : Map W N) → (maps x y).width ≡ x.width) where
  mutual
    pub merged_type : (ty : Ty) (x y : Abs W N) → has_type env x ty ≡ true → has_type env y ty ≡ true → has_type env (merge_of words maps x y) ty ≡ true
    merged_type Flag (flag t) (flag u) h k = refl
    merged_type (Word v) (word w x) (word u y) h k = either_type env (Word v) (w == u) (word w (words w x y)) (word w x) h h
    merged_type (DataTy d) (made t cs) (made u es) h k =
        both (t == d) _ (and_left (t == d) _ h) (of_both (slice_get env.datas d) (have_cases env cs) (have_cases env es) (have_cases env (merge_cases words maps cs es)) (λ ds p q. merged_cases ds cs es p q) (and_right (t == d) _ h) (and_right (u == d) _ k))
    merged_type (MapOf d) (map m x) (map n y) h k =
        either_type env (MapOf d) (same_type m x n y) (map m (maps x y)) (map m x) (subst (λ w. (m == d && has_width (slice_get env.maps d) w) ≡ true) (sym (wide x y)) h) h
    merged_type _ _ _ h k = cc

    pub merged_cases : (ds : List Case) (cs es : Cases W N) → have_cases env cs ds ≡ true → have_cases env es ds ≡ true → have_cases env (merge_cases words maps cs es) ds ≡ true
    merged_cases [] no_case no_case h k = refl
    merged_cases (d ∷ ds) (absent cs) (absent es) h k = merged_cases ds cs es h k
    merged_cases (d ∷ ds) (absent cs) (present ys es) h k =
        both (have_types env ys (field_types d)) _ (and_left (have_types env ys (field_types d)) _ k) (merged_cases ds cs es h (and_right (have_types env ys (field_types d)) _ k))
    merged_cases (d ∷ ds) (present xs cs) (absent es) h k =
        both (have_types env xs (field_types d)) _ (and_left (have_types env xs (field_types d)) _ h) (merged_cases ds cs es (and_right (have_types env xs (field_types d)) _ h) k)
    merged_cases (d ∷ ds) (present xs cs) (present ys es) h k =
        both (have_types env (merge_parts words maps xs ys) (field_types d)) _
        (merged_parts (field_types d) xs ys (and_left (have_types env xs (field_types d)) _ h) (and_left (have_types env ys (field_types d)) _ k))
        (merged_cases ds cs es (and_right (have_types env xs (field_types d)) _ h) (and_right (have_types env ys (field_types d)) _ k))
    merged_cases _ _ _ h k = cc

    pub merged_parts : (ts : List Ty) (xs ys : Parts W N) → have_types env xs ts ≡ true → have_types env ys ts ≡ true → have_types env (merge_parts words maps xs ys) ts ≡ true
    merged_parts [] no_part no_part h k = refl
    merged_parts (t ∷ ts) (part x xs) (part y ys) h k =
        both (has_type env (merge_of words maps x y) t) _ (merged_type t x y (and_left (has_type env x t) _ h) (and_left (has_type env y t) _ k))
        (merged_parts ts xs ys (and_right (has_type env x t) _ h) (and_right (has_type env y t) _ k))
    merged_parts _ _ _ h k = cc
