-- What the variables of a pattern name has their types.
use Rattle.std.proofs.Common.{◌≡◌, ℕ, ◌+◌, ◌<◌, true, ◌==◌, Option, Some, None, List, [], ◌∷◌, ◌++◌, length, slice_get, refl, sym, subst}
use Rattle.std.specs.Prelude.{is_some}
use Rattle.std.specs.List.{list_all}
use Rattle.std.proofs.lemmas.Bool.{false≢true, eqb-true as same_number, lt-ltb as less_is}
use Rattle.std.proofs.lemmas.Option.{slice_get_within}
use Rattle.spec_match_compiler.specs.Patterns.{Pattern, Patterns, any, bind, flag_is, word_is, case_is, no_pat, pat_then}
use Rattle.spec_match_compiler.specs.Meets.{meets, all_meet}
use Rattle.spec_match_compiler.proofs.Truth.{and_left, and_right, both, equal_itself}
use Rattle.spec_ir.specs.declared.ty.Ty.{Ty}
use Rattle.spec_ir.specs.declared.ty.Ty.TheVariants.{Bool as Flag, Word, Data as DataTy, Map as MapOf}
use Rattle.spec_ir.specs.Environment.{Environment, Data, Case, field_types}
use Rattle.spec_ir.specs.Texts.{cases_of, case_at, fields_at}
use Rattle.spec_ir.specs.TermTypes.{PatternTyped, PatternsTyped}
use Rattle.spec_ir.specs.WellFormed.{IsWellFormed, is_type}
use Rattle.spec_ir.specs.Cores.{variable_types, all_variable_types}
use Rattle.spec_ir.proofs.Lists.{all_at}
use Rattle.semantics_values.specs.Values as v
use Rattle.semantics_values.specs.Values.{Val, Vals, vals}
use Rattle.semantics_values.specs.Types.{of_case, has_type, have_types}
use Rattle.semantics.specs.Steps.{shown, all_shown, bound, all_bound}
use Rattle.semantics_laws.proofs.Values.{IsOf, AreOf, are_append, are_to}

-- the types of the variables of a pattern are those that are computed
module _ (env : Environment) where
  mutual
    pub variables_have : (n : ℕ) (ty : Ty) (p : Pattern) (vars : List Ty) → PatternTyped env n ty p vars → variable_types env ty p ≡ vars
    variables_have n ty any vars h = sym h
    variables_have n ty (bind i) vars h = sym h.1
    variables_have n Flag (flag_is b) vars h = sym h
    variables_have n (Word w) (word_is v) vars h = sym h.1
    variables_have n (DataTy t) (case_is i ps) vars h = all_have n (fields_at (case_at env (DataTy t) i)) ps vars h
    variables_have n ty p vars h = absurd h

    all_have : (n : ℕ) (ts : List Ty) (ps : Patterns) (vars : List Ty) → PatternsTyped env n ts ps vars → all_variable_types env ts ps ≡ vars
    all_have n [] no_pat vars h = sym h
    all_have n (t ∷ ts) (pat_then p ps) vars h = rw (variables_have n t p h.0 h.2, all_have (n + length h.0) ts ps h.1 h.3) (sym h.4)
    all_have n ts ps vars h = absurd h

module _ (env : Environment) (wf : IsWellFormed env) where
  -- ---- constructors
  fields_in : (o : Option Data) (t c : ℕ) (case : Case) → slice_get env.datas t ≡ o → slice_get (cases_of o) c ≡ Some case → list_all (is_type env) (field_types case) ≡ true
  fields_in None t c case e h = absurd cc
  fields_in (Some d) t c case e h =
      all_at (λ k. list_all (is_type env) (field_types k)) d.cases c case (all_at (λ d. list_all (λ k. list_all (is_type env) (field_types k)) d.cases) env.datas t d wf.fields e) h

  pub fields_are : (t c : ℕ) (case : Case) → case_at env (DataTy t) c ≡ Some case → list_all (is_type env) (field_types case) ≡ true
  fields_are t c case h = fields_in (slice_get env.datas t) t c case refl h

  data_in : (o : Option Data) (t c : ℕ) (case : Case) → slice_get env.datas t ≡ o → slice_get (cases_of o) c ≡ Some case → t < length env.datas
  data_in None t c case e h = absurd cc
  data_in (Some d) t c case e h = slice_get_within env.datas t d e

  pub data_is : (t c : ℕ) (case : Case) → case_at env (DataTy t) c ≡ Some case → is_type env (DataTy t) ≡ true
  data_is t c case h = less_is t (length env.datas) (data_in (slice_get env.datas t) t c case refl h)

  -- a constructor that is there, on values of its fields
  pub make_of : (t c : ℕ) (o : Option Case) (ps : List Val) → case_at env (DataTy t) c ≡ o → is_some o ≡ true → AreOf env (fields_at o) ps → IsOf env (DataTy t) (v.made t c (vals ps))
  make_of t c None ps e h k = absurd (false≢true h)
  make_of t c (Some case) ps e h k = record {
    has = both (t == t) (of_case (case_at env (DataTy t) c) (have_types env (vals ps))) (equal_itself t) (subst (λ o. of_case o (have_types env (vals ps)) ≡ true) (sym e) (are_to env (field_types case) ps k));
    is = data_is t c case e;
  }

  -- ---- patterns
  -- a constructor that a value meets
  case_bound : (n t c d : ℕ) (o : Option Case) (ps : Patterns) (more : List Ty) (qs : Vals) → case_at env (DataTy t) d ≡ o → c ≡ d → of_case o (have_types env qs) ≡ true
      → PatternsTyped env n (fields_at (case_at env (DataTy t) c)) ps more
      → ((ts : List Ty) → PatternsTyped env n ts ps more → have_types env qs ts ≡ true → list_all (is_type env) ts ≡ true → AreOf env more (all_bound ps qs)) → AreOf env more (all_bound ps qs)
  case_bound n t c d None ps more qs e same h k go = absurd (false≢true h)
  case_bound n t c d (Some case) ps more qs e same h k go =
      let here = subst (λ x. PatternsTyped env n (fields_at (case_at env (DataTy t) x)) ps more) same k in
      go (field_types case) (subst (λ o. PatternsTyped env n (fields_at o) ps more) e here) h (fields_are t d case e)

  mutual
    pub bound_of : (n : ℕ) (ty : Ty) (pat : Pattern) (more : List Ty) (p : Val) → PatternTyped env n ty pat more → IsOf env ty p → meets pat (shown p) ≡ true → AreOf env more (bound pat p)
    bound_of n ty any more p h k m = subst (λ ts. AreOf env ts (bound any p)) (sym h) tt
    bound_of n ty (bind i) more p h k m = subst (λ ts. AreOf env ts (p ∷ [])) (sym h.1) (k, tt)
    bound_of n Flag (flag_is b) more p h k m = subst (λ ts. AreOf env ts (bound (flag_is b) p)) (sym h) tt
    bound_of n (Word w) (flag_is b) more p h k m = absurd h
    bound_of n (DataTy t) (flag_is b) more p h k m = absurd h
    bound_of n (MapOf i) (flag_is b) more p h k m = absurd h
    bound_of n Flag (word_is x) more p h k m = absurd h
    bound_of n (Word w) (word_is x) more p h k m = subst (λ ts. AreOf env ts (bound (word_is x) p)) (sym h.1) tt
    bound_of n (DataTy t) (word_is x) more p h k m = absurd h
    bound_of n (MapOf i) (word_is x) more p h k m = absurd h
    bound_of n Flag (case_is c ps) more p h k m = absurd h
    bound_of n (Word w) (case_is c ps) more p h k m = absurd h
    bound_of n (MapOf i) (case_is c ps) more p h k m = absurd h
    bound_of n (DataTy t) (case_is c ps) more (v.flag b) h k m = absurd (false≢true m)
    bound_of n (DataTy t) (case_is c ps) more (v.word u x) h k m = absurd (false≢true m)
    bound_of n (DataTy t) (case_is c ps) more (v.map i rest cells) h k m = absurd (false≢true m)
    bound_of n (DataTy t) (case_is c ps) more (v.made s d qs) h k m =
        case_bound n t c d (case_at env (DataTy t) d) ps more qs refl (same_number c d (and_left (c == d) (all_meet ps (all_shown qs)) m)) (and_right (s == t) (of_case (case_at env (DataTy t) d) (have_types env qs)) k.has) h
        (λ ts g f i. all_bound_of n ts ps more qs g f i (and_right (c == d) (all_meet ps (all_shown qs)) m))

    all_bound_of : (n : ℕ) (ts : List Ty) (ps : Patterns) (more : List Ty) (qs : Vals) → PatternsTyped env n ts ps more → have_types env qs ts ≡ true → list_all (is_type env) ts ≡ true → all_meet ps (all_shown qs) ≡ true
        → AreOf env more (all_bound ps qs)
    all_bound_of n [] no_pat more qs h k i m = subst (λ ts. AreOf env ts (all_bound no_pat qs)) (sym h) tt
    all_bound_of n [] (pat_then p ps) more qs h k i m = absurd h
    all_bound_of n (t ∷ ts) no_pat more qs h k i m = absurd h
    all_bound_of n (t ∷ ts) (pat_then p ps) more v.no_val h k i m = absurd (false≢true k)
    all_bound_of n (t ∷ ts) (pat_then p ps) more (v.val_then q qs) h k i m =
        let one : IsOf env t q = record { has = and_left (has_type env q t) (have_types env qs ts) k; is = and_left (is_type env t) (list_all (is_type env) ts) i } in
        let here = bound_of n t p h.0 q h.2 one (and_left (meets p (shown q)) (all_meet ps (all_shown qs)) m) in
        let later =
        all_bound_of (n + length h.0) ts ps h.1 qs h.3 (and_right (has_type env q t) (have_types env qs ts) k) (and_right (is_type env t) (list_all (is_type env) ts) i)
        (and_right (meets p (shown q)) (all_meet ps (all_shown qs)) m) in
        subst (λ zs. AreOf env zs (bound p q ++ all_bound ps qs)) (sym h.4) (are_append env h.0 h.1 (bound p q) (all_bound ps qs) here later)
