-- What the variables of a row name has the types of its pattern's variables.
use Rattle.std.proofs.Common.{◌≡◌, ℕ, suc, ◌+◌, Option, Some, None, option_map, option_and_then, List, [], ◌∷◌, ◌++◌, length, slice_get, refl, sym, ap, ◌∙◌, subst, arith}
use Rattle.spec_match_compiler.specs.Values.{Place}
use Rattle.spec_match_compiler.specs.Patterns.{Pattern, Patterns, any, bind, flag_is, word_is, case_is, no_pat, pat_then}
use Rattle.spec_match_compiler.specs.Meets.{bindings, part_bindings}
use Rattle.spec_ir.specs.declared.ty.Ty.{Ty}
use Rattle.spec_ir.specs.declared.ty.Ty.TheVariants.{Bool as Flag, Word, Data as DataTy}
use Rattle.spec_ir.specs.Environment.{Environment}
use Rattle.spec_ir.specs.Texts.{case_at, fields_at}
use Rattle.spec_ir.specs.TermTypes.{PatternTyped, PatternsTyped}
use Rattle.semantics_laws.specs.Places.{all_of, type_at, types_named}
use Rattle.semantics_laws.proofs.Lists.{all_both}

module _ (env : Environment) where
  type_through : (at rest : Place) (o : Option Ty) → ((t : Ty) → type_at env t (at ++ rest) ≡ option_and_then (λ t. type_at env t rest) (type_at env t at))
      → option_and_then (λ t. type_at env t (at ++ rest)) o ≡ option_and_then (λ t. type_at env t rest) (option_and_then (λ t. type_at env t at) o)
  type_through at rest None go = refl
  type_through at rest (Some t) go = go t

  type_append : (ty : Ty) (at rest : Place) → type_at env ty (at ++ rest) ≡ option_and_then (λ t. type_at env t rest) (type_at env ty at)
  type_append ty [] rest = refl
  type_append ty (step ∷ at) rest = type_through at rest (slice_get (fields_at (case_at env ty step.0)) step.1) (λ t. type_append t at rest)

  -- fields, from number i on, of a constructor at a place have these types
  abbrev HasFields : Ty → Place → ℕ → ℕ → List Ty → Type 0
  HasFields root at c i ts = (j : ℕ) (u : Ty) → slice_get ts j ≡ Some u → type_at env root (at ++ (c, i + j) ∷ []) ≡ Some u

  has_fields : (root : Ty) (at : Place) (ty : Ty) (c : ℕ) → type_at env root at ≡ Some ty → HasFields root at c 0 (fields_at (case_at env ty c))
  has_fields root at ty c h j u k =
      let number : 0 + j ≡ j = omega arith in
      subst (λ n. type_at env root (at ++ (c, n) ∷ []) ≡ Some u) (sym number)
      (type_append root at ((c, j) ∷ []) ∙ ap (λ o. option_and_then (λ t. type_at env t ((c, j) ∷ [])) o) h ∙ ap (λ o. option_and_then (λ t. Some t) o) k)

  first_field : (root : Ty) (at : Place) (c i : ℕ) (t : Ty) (ts : List Ty) → HasFields root at c i (t ∷ ts) → type_at env root (at ++ (c, i) ∷ []) ≡ Some t
  first_field root at c i t ts h = let number : i + 0 ≡ i = omega arith in subst (λ n. type_at env root (at ++ (c, n) ∷ []) ≡ Some t) number (h 0 t refl)

  later_fields : (root : Ty) (at : Place) (c i : ℕ) (t : Ty) (ts : List Ty) → HasFields root at c i (t ∷ ts) → HasFields root at c (i + 1) ts
  later_fields root at c i t ts h j u k = let number : i + suc j ≡ i + 1 + j = omega arith in subst (λ n. type_at env root (at ++ (c, n) ∷ []) ≡ Some u) number (h (suc j) u k)

  abbrev typed_of : Ty → List (ℕ × Place) → Option (List Ty)
  typed_of root binds = all_of (λ b. type_at env root b.1) binds

  mutual
    typed_at : (root : Ty) (at : Place) (n : ℕ) (ty : Ty) (p : Pattern) (vars : List Ty) → type_at env root at ≡ Some ty → PatternTyped env n ty p vars → typed_of root (bindings at p) ≡ Some vars
    typed_at root at n ty any vars h k = ap Some (sym k)
    typed_at root at n ty (bind m) vars h k = ap (λ o. option_and_then (λ x. option_map (λ xs. x ∷ xs) (Some [])) o) h ∙ ap Some (sym k.1)
    typed_at root at n Flag (flag_is b) vars h k = ap Some (sym k)
    typed_at root at n (Word w) (word_is x) vars h k = ap Some (sym k.1)
    typed_at root at n (DataTy t) (case_is c ps) vars h k = parts_typed root at c 0 n (fields_at (case_at env (DataTy t) c)) ps vars (has_fields root at (DataTy t) c h) k
    typed_at root at n ty p vars h k = absurd k

    parts_typed : (root : Ty) (at : Place) (c i n : ℕ) (ts : List Ty) (ps : Patterns) (vars : List Ty) → HasFields root at c i ts → PatternsTyped env n ts ps vars → typed_of root (part_bindings at c i ps) ≡ Some vars
    parts_typed root at c i n [] no_pat vars h k = ap Some (sym k)
    parts_typed root at c i n (t ∷ ts) (pat_then p ps) vars h k =
        let here = typed_at root (at ++ (c, i) ∷ []) n t p k.0 (first_field root at c i t ts h) k.2 in
        let later = parts_typed root at c (i + 1) (n + length k.0) ts ps k.1 (later_fields root at c i t ts h) k.3 in
        all_both (λ b. type_at env root b.1) (bindings (at ++ (c, i) ∷ []) p) (part_bindings at c (i + 1) ps) k.0 k.1 here later ∙ ap Some (sym k.4)
    parts_typed root at c i n ts ps vars h k = absurd k

  pub names_typed : (n : ℕ) (ty : Ty) (p : Pattern) (vars : List Ty) → PatternTyped env n ty p vars → types_named env ty (bindings [] p) ≡ Some vars
  names_typed n ty p vars h = typed_at ty [] n ty p vars refl h
