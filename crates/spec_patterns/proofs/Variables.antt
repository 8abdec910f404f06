-- The variables of a pattern have types of the environment.
use Rattle.std.proofs.Common.{◌≡◌, ℕ, ◌+◌, Bool, true, false, Option, Some, None, List, [], ◌∷◌, ◌++◌, refl, subst, ap, ◌∙◌}
use Rattle.std.specs.List.{list_all}
use Rattle.std.specs.Prelude.{if◌then◌else◌, bytes_eq}
use Rattle.std.proofs.lemmas.Bool.{and_from as and_both}
use Rattle.syntax_parser.specs.Tree as e
use Rattle.syntax_parser.specs.Tree.{Pattern, Patterns}
use Rattle.spec_ir.specs.declared.ty.Ty.{Ty}
use Rattle.spec_ir.specs.Environment.{Environment, Scope, Case, Data, Constructor, field_types, case_from, constructor_from, constructor_named, or_else}
use Rattle.spec_ir.specs.WellFormed.{IsWellFormed, is_scope, is_type}
use Rattle.spec_patterns.specs.Patterns.{fields_of, variables, part_variables}
use Rattle.spec_match_compiler.proofs.Truth.{and_left, and_right}

pub all_append : {A : Type 0} (f : A → Bool) (xs ys : List A) → list_all f xs ≡ true → list_all f ys ≡ true → list_all f (xs ++ ys) ≡ true
all_append f [] ys h k = k
all_append f (x ∷ xs) ys h k = and_both (f x) (list_all f (xs ++ ys)) (and_left (f x) (list_all f xs) h) (all_append f xs ys (and_right (f x) (list_all f xs) h) k)

module _ (env : Environment) where
  abbrev pub case_fits : Case → Bool
  case_fits c = list_all (is_type env) (field_types c)

  abbrev pub data_fits : Data → Bool
  data_fits d = list_all case_fits d.cases

  case_fields : (t n : ℕ) (cs : List Case) (name : List ℕ) (c : Constructor) → case_from t n cs name ≡ Some c → list_all case_fits cs ≡ true → list_all (is_type env) c.fields ≡ true
  case_fields t n [] name c h a = absurd cc
  case_fields t n (x ∷ rest) name c h a = at (bytes_eq x.name name) (case_fields t (n + 1) rest name c) h
    where
      at : (b : Bool) → (case_from t (n + 1) rest name ≡ Some c → list_all case_fits rest ≡ true → list_all (is_type env) c.fields ≡ true)
          → (if b then Some (record { ty = t; case = n; fields = field_types x }) else case_from t (n + 1) rest name) ≡ Some c → list_all (is_type env) c.fields ≡ true
      at true later k =
          let same : record { ty = t; case = n; fields = field_types x } ≡ c = cc in
          subst (λ (y : Constructor). list_all (is_type env) y.fields ≡ true) same (and_left (case_fits x) (list_all case_fits rest) a)
      at false later k = later k (and_right (case_fits x) (list_all case_fits rest) a)

  data_fields : (t : ℕ) (ds : List Data) (name : List ℕ) (c : Constructor) → constructor_from t ds name ≡ Some c → list_all data_fits ds ≡ true → list_all (is_type env) c.fields ≡ true
  data_fields t [] name c h a = absurd cc
  data_fields t (d ∷ rest) name c h a = at (case_from t 0 d.cases name) refl (data_fields (t + 1) rest name c) h
    where
      at : (o : Option Constructor) → case_from t 0 d.cases name ≡ o
          → (constructor_from (t + 1) rest name ≡ Some c → list_all data_fits rest ≡ true → list_all (is_type env) c.fields ≡ true)
          → or_else o (constructor_from (t + 1) rest name) ≡ Some c → list_all (is_type env) c.fields ≡ true
      at None e later k = later k (and_right (data_fits d) (list_all data_fits rest) a)
      at (Some x) e later k =
          let same : x ≡ c = cc in
          subst (λ (y : Constructor). list_all (is_type env) y.fields ≡ true) same (case_fields t 0 d.cases name x e (and_left (data_fits d) (list_all data_fits rest) a))

  -- the fields of a constructor that was found, or none
  found_fields : (wf : IsWellFormed env) (name : List ℕ) (o : Option Constructor) → constructor_named env name ≡ o → list_all (is_type env) (fields_of o) ≡ true
  found_fields wf name None h = refl
  found_fields wf name (Some c) h = data_fields 0 env.datas name c h wf.fields

  pub fields_are_types : (wf : IsWellFormed env) (name : List ℕ) → list_all (is_type env) (fields_of (constructor_named env name)) ≡ true
  fields_are_types wf name = found_fields wf name (constructor_named env name) refl

  mutual
    pub variables_are_typed : (wf : IsWellFormed env) (ty : Ty) (p : Pattern) → is_type env ty ≡ true → is_scope env (variables env ty p) ≡ true
    variables_are_typed wf ty (e.any span) h = refl
    variables_are_typed wf ty (e.bind name) h = and_both (is_type env ty) true h refl
    variables_are_typed wf ty (e.Pattern.word v w span) h = refl
    variables_are_typed wf ty (e.Pattern.flag b span) h = refl
    variables_are_typed wf ty (e.Pattern.make name parts span) h =
        parts_are_typed wf (fields_of (constructor_named env name.text)) parts (fields_are_types wf name.text)

    parts_are_typed : (wf : IsWellFormed env) (ts : List Ty) (ps : Patterns) → list_all (is_type env) ts ≡ true → is_scope env (part_variables env ts ps) ≡ true
    parts_are_typed wf [] e.Patterns.none h = refl
    parts_are_typed wf [] (e.Patterns.more p ps) h = refl
    parts_are_typed wf (t ∷ ts) e.Patterns.none h = refl
    parts_are_typed wf (t ∷ ts) (e.Patterns.more p ps) h =
        all_append (λ b. is_type env b.1) (variables env t p) (part_variables env ts ps)
        (variables_are_typed wf t p (and_left (is_type env t) (list_all (is_type env) ts) h))
        (parts_are_typed wf ts ps (and_right (is_type env t) (list_all (is_type env) ts) h))
