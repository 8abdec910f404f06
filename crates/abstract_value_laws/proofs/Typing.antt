-- A value has a type where it has the type's shape.
use Rattle.std.proofs.Common.{ℕ, zero, suc, List, [], ◌∷◌, length, refl, sym, ap, subst, ◌∙◌, IsTrue}
use Rattle.std.specs.Prelude.{◌==◌, slice_get}
use Rattle.base_trait.specs.Algebra.{Algebra}
use Rattle.base_trait.specs.Laws.{Laws}
use Rattle.base_trait.specs.Lists.{Each}
use Rattle.base_trait.proofs.Lists.{number_told}
use Rattle.base_trait.proofs.Tests.{and_both, and_parts}
use Rattle.spec_ir.specs.declared.ty.Ty.{Ty}
use Rattle.spec_ir.specs.declared.ty.Ty.TheVariants.{Bool as Flag, Word, Data as DataTy, Map as MapOf}
use Rattle.spec_ir.specs.Environment.{Case, Environment, field_types}
use Rattle.spec_ir.specs.Texts.{cases_of}
use Rattle.abstract_value_laws.specs.Abs.{Abs, Cases, Parts, flag, word, made, map, no_case, absent, present, no_part, part}
use Rattle.abstract_value_laws.specs.Shapes.{CasesHave, HasShape, PartsHave}
use Rattle.abstract_value_laws.specs.Calls.{join_of, widen_of}
use Rattle.abstract_value_laws.proofs.Joining.{join_shapes, same_number}
use Rattle.abstract_value_laws.proofs.Widening.{widen_shapes}
use Rattle.abstract_value_laws.specs.TypeLaws.{JoinIsTyped, TypesAreShapes, WidenIsTyped}
use Rattle.abstract_value_laws.specs.TypeShapes.{case_shapes, cases_at, part_shapes, shape_by, shape_of, width_of}
use Rattle.abstract_value_laws.specs.Types.{has_type, has_width, have_cases, have_types, of_data}
use Rattle.abstract_value_laws.proofs.Depths.{Deep, deep_by, deep_of}

module _ {W N : Type 0} (env : Environment) where
  mutual
    shaped : (n : ℕ) (x : Abs W N) (ty : Ty) → deep_by env (Deep env n) ty → IsTrue (has_type env x ty) → HasShape (shape_by env (cases_at env n) ty) x
    shaped n (flag t) Flag d h = tt
    shaped n (word w x) (Word u) d h = number_told w u h
    shaped zero (made t cs) (DataTy u) d h = absurd d
    shaped (suc n) (made t cs) (DataTy u) d h =
        let p = and_parts (t == u) (of_data (slice_get env.datas u) (have_cases env cs)) h in (
          number_told t u p.0,
          subst (λ o. CasesHave (case_shapes (shape_by env (cases_at env n)) (cases_of o)) cs) (sym d.1)
              (cases_shaped n cs d.0.cases d.2 (subst (λ o. IsTrue (of_data o (have_cases env cs))) d.1 p.1)),
        )
    shaped n (map m x) (MapOf k) d h =
        let p = and_parts (m == k) (has_width (slice_get env.maps k) x.width) h in
        (number_told m k p.0, sym (number_told d.0.width x.width (subst (λ o. IsTrue (has_width o x.width)) d.1 p.1)) ∙ ap width_of (sym d.1))
    shaped _ _ _ d h = cc

    cases_shaped : (n : ℕ) (cs : Cases W N) (ds : List Case) → Each (λ c. Each (deep_by env (Deep env n)) (field_types c)) ds → IsTrue (have_cases env cs ds) → CasesHave (case_shapes (shape_by env (cases_at env n)) ds) cs
    cases_shaped n no_case [] d h = tt
    cases_shaped n (absent cs) (c ∷ ds) d h = cases_shaped n cs ds d.1 h
    cases_shaped n (present xs cs) (c ∷ ds) d h = let p = and_parts (have_types env xs (field_types c)) (have_cases env cs ds) h in (parts_shaped n xs (field_types c) d.0 p.0, cases_shaped n cs ds d.1 p.1)
    cases_shaped _ _ _ d h = cc

    parts_shaped : (n : ℕ) (xs : Parts W N) (types : List Ty) → Each (deep_by env (Deep env n)) types → IsTrue (have_types env xs types) → PartsHave (part_shapes (shape_by env (cases_at env n)) types) xs
    parts_shaped n no_part [] d h = tt
    parts_shaped n (part x xs) (t ∷ types) d h = let p = and_parts (has_type env x t) (have_types env xs types) h in (shaped n x t d.0 p.0, parts_shaped n xs types d.1 p.1)
    parts_shaped _ _ _ d h = cc

  mutual
    typed : (n : ℕ) (x : Abs W N) (ty : Ty) → deep_by env (Deep env n) ty → HasShape (shape_by env (cases_at env n) ty) x → IsTrue (has_type env x ty)
    typed n (flag t) Flag d h = refl
    typed n (word w x) (Word u) d h = same_number w u h
    typed zero (made t cs) (DataTy u) d h = absurd d
    typed (suc n) (made t cs) (DataTy u) d h =
        and_both (t == u) (of_data (slice_get env.datas u) (have_cases env cs)) (same_number t u h.0)
        (subst (λ o. IsTrue (of_data o (have_cases env cs))) (sym d.1) (cases_typed n cs d.0.cases d.2 (subst (λ o. CasesHave (case_shapes (shape_by env (cases_at env n)) (cases_of o)) cs) d.1 h.1)))
    typed n (map m x) (MapOf k) d h =
        and_both (m == k) (has_width (slice_get env.maps k) x.width) (same_number m k h.0)
        (subst (λ o. IsTrue (has_width o x.width)) (sym d.1) (same_number d.0.width x.width (sym (h.1 ∙ ap width_of d.1))))
    typed _ (flag _) (Word _) d h = absurd h
    typed _ (flag _) (DataTy _) d h = absurd h
    typed _ (flag _) (MapOf _) d h = absurd h
    typed _ (word _ _) Flag d h = absurd h
    typed _ (word _ _) (DataTy _) d h = absurd h
    typed _ (word _ _) (MapOf _) d h = absurd h
    typed _ (made _ _) Flag d h = absurd h
    typed _ (made _ _) (Word _) d h = absurd h
    typed _ (made _ _) (MapOf _) d h = absurd h
    typed _ (map _ _) Flag d h = absurd h
    typed _ (map _ _) (Word _) d h = absurd h
    typed _ (map _ _) (DataTy _) d h = absurd h

    cases_typed : (n : ℕ) (cs : Cases W N) (ds : List Case) → Each (λ c. Each (deep_by env (Deep env n)) (field_types c)) ds → CasesHave (case_shapes (shape_by env (cases_at env n)) ds) cs → IsTrue (have_cases env cs ds)
    cases_typed n no_case [] d h = refl
    cases_typed n (absent cs) (c ∷ ds) d h = cases_typed n cs ds d.1 h
    cases_typed n (present xs cs) (c ∷ ds) d h = and_both (have_types env xs (field_types c)) (have_cases env cs ds) (parts_typed n xs (field_types c) d.0 h.0) (cases_typed n cs ds d.1 h.1)
    cases_typed _ no_case (_ ∷ _) d h = absurd h
    cases_typed _ (absent _) [] d h = absurd h
    cases_typed _ (present _ _) [] d h = absurd h

    parts_typed : (n : ℕ) (xs : Parts W N) (types : List Ty) → Each (deep_by env (Deep env n)) types → PartsHave (part_shapes (shape_by env (cases_at env n)) types) xs → IsTrue (have_types env xs types)
    parts_typed n no_part [] d h = refl
    parts_typed n (part x xs) (t ∷ types) d h = and_both (has_type env x t) (have_types env xs types) (typed n x t d.0 h.0) (parts_typed n xs types d.1 h.1)
    parts_typed _ no_part (_ ∷ _) d h = absurd h
    parts_typed _ (part _ _) [] d h = absurd h

pub types_are_shapes : {W N C : Type 0} (B : Algebra W N C) → TypesAreShapes B
types_are_shapes B env ty x ok h = let d = deep_of env ok ty h in (shaped env (length env.datas) x ty d, typed env (length env.datas) x ty d)

module _ {W N C : Type 0} (B : Algebra W N C) (L : Laws W N C B) where
  pub join_is_typed : JoinIsTyped B
  join_is_typed c cap env ty x y ok h a b =
      (types_are_shapes B env ty (join_of B c cap x y) ok h).1 (join_shapes B L c cap (shape_of env ty) x y ((types_are_shapes B env ty x ok h).0 a) ((types_are_shapes B env ty y ok h).0 b))

  pub widen_is_typed : WidenIsTyped B
  widen_is_typed c env ty old new ok h a b =
      (types_are_shapes B env ty (widen_of B c old new) ok h).1 (widen_shapes B L c (shape_of env ty) old new ((types_are_shapes B env ty old ok h).0 a) ((types_are_shapes B env ty new ok h).0 b))
