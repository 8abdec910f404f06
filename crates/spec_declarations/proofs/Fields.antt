-- Fields of the state, one after another.
use Rattle.std.proofs.Common.{◌≡◌, ◌∙◌, ℕ, ◌+◌, ◌<◌, ◌≤◌, ◌==◌, ◌++◌, Bool, true, false, cond, List, [], ◌∷◌, map, drop, length, get_or, sym, ap}
use Rattle.std.specs.List.{list_any}
use Rattle.std.proofs.lemmas.List.{drop_all, drop_more}
use Rattle.spec_ir.specs.declared.ty.Ty.{Ty}
use Rattle.spec_ir.specs.declared.ty.Ty.TheVariants.{Bool as Flag, Word, Data as DataTy, Map as MapOf}
use Rattle.spec_declarations.specs.MachineRules.{are_state_fields}

module _ {A : Type 0} (ty : A → Ty) (fs : List A) (i : ℕ) (maps : List ℕ) (whole : Bool) (so : whole ≡ are_state_fields maps (map ty (drop i fs))) where
  -- none is left
  pub fields_done : length fs ≤ i → true ≡ whole
  fields_done past = sym (so ∙ ap (λ l. are_state_fields maps (map ty l)) (drop_all i fs past))

  module _ (f : A) (l : i < length fs) (is : f ≡ get_or fs i f) (t : Ty) (told : t ≡ ty f) where
    next : whole ≡ are_state_fields maps (t ∷ map ty (drop (i + 1) fs))
    next = so ∙ ap (λ l. are_state_fields maps (map ty l)) (drop_more fs i f l) ∙ ap (λ f. are_state_fields maps (ty f ∷ map ty (drop (i + 1) fs))) (sym is) ∙ ap (λ t. are_state_fields maps (t ∷ map ty (drop (i + 1) fs))) (sym told)

    next_is : (u : Ty) → t ≡ u → whole ≡ are_state_fields maps (u ∷ map ty (drop (i + 1) fs))
    next_is u e = next ∙ ap (λ t. are_state_fields maps (t ∷ map ty (drop (i + 1) fs))) e

    pub word_next : (w : ℕ) (new : List ℕ) → t ≡ Word w → new ≡ maps → whole ≡ are_state_fields new (map ty (drop (i + 1) fs))
    word_next w new e same = next_is (Word w) e ∙ ap (λ m. are_state_fields m (map ty (drop (i + 1) fs))) (sym same)

    pub map_next : (m : ℕ) (new : List ℕ) → t ≡ MapOf m → false ≡ list_any (λ k. k == m) maps → new ≡ maps ++ m ∷ [] → whole ≡ are_state_fields new (map ty (drop (i + 1) fs))
    map_next m new e absent pushed =
        next_is (MapOf m) e ∙ ap (λ b. cond b false (are_state_fields (maps ++ m ∷ []) (map ty (drop (i + 1) fs)))) (sym absent) ∙ ap (λ m. are_state_fields m (map ty (drop (i + 1) fs))) (sym pushed)

    pub map_again : (m : ℕ) → t ≡ MapOf m → true ≡ list_any (λ k. k == m) maps → false ≡ whole
    map_again m e there = sym (next_is (MapOf m) e ∙ ap (λ b. cond b false (are_state_fields (maps ++ m ∷ []) (map ty (drop (i + 1) fs)))) (sym there))

    pub flag_stops : t ≡ Flag → false ≡ whole
    flag_stops e = sym (next_is Flag e)

    pub data_stops : (d : ℕ) → t ≡ DataTy d → false ≡ whole
    data_stops d e = sym (next_is (DataTy d) e)
