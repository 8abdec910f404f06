-- What is known of a value of a type, and the types of places that tests look at.
use Rattle.std.proofs.Common.{◌≡◌, ℕ, zero, suc, ◌+◌, ◌<◌, ◌^◌, inl, inr, true, ◌==◌, Some, option_and_then, List, [], ◌∷◌, length, slice_get, map, refl, sym, ap, subst}
use Rattle.std.proofs.lemmas.Bool.{eqb-true as same_number}
use Rattle.spec_match_compiler.specs.declared.shape.Shape.TheVariants as shape
use Rattle.spec_match_compiler.specs.Values.{Place}
use Rattle.spec_match_compiler.specs.Patterns.{Pattern, Patterns, word_is, case_is, pat_then}
use Rattle.spec_match_compiler.specs.Knowledge.{Knowledge, Parts, unknown, flag_known, word_known, others, case_known, no_part, part_then, unknowns, put, put_part}
use Rattle.spec_match_compiler.specs.Rule.{Test, flag_test, word_test, case_test, can_match, all_can_match}
use Rattle.spec_match_compiler.proofs.Opens.{Before, Asks, Opens, OpensIn}
use Rattle.spec_match_compiler.proofs.Truth.{and_left, and_right}
use Rattle.spec_ir.specs.declared.ty.Ty.{Ty}
use Rattle.spec_ir.specs.declared.ty.Ty.TheVariants.{Bool as Flag, Word, Data as DataTy, Map as MapOf}
use Rattle.spec_ir.specs.Environment.{Environment, shape_of}
use Rattle.spec_ir.specs.Texts.{case_at, fields_at}
use Rattle.spec_ir.specs.TermTypes.{PatternTyped, PatternsTyped}
use Rattle.semantics_laws.specs.Places.{type_at}

-- what a test looks at has a type
abbrev pub LooksAt : Test → Ty → Type 0
LooksAt flag_test ty = ty ≡ Flag
LooksAt (word_test w ns n) ty = (ty ≡ Word w) × (n < 2 ^ w)
LooksAt (case_test t) ty = ty ≡ DataTy t

flag_shape : (ty : Ty) → shape.Bool ≡ shape_of ty → ty ≡ Flag
flag_shape Flag h = refl
flag_shape (Word w) h = absurd cc
flag_shape (DataTy t) h = absurd cc
flag_shape (MapOf m) h = absurd cc

word_shape : (w : ℕ) (ty : Ty) → shape.Word w ≡ shape_of ty → ty ≡ Word w
word_shape w Flag h = absurd cc
word_shape w (Word u) h = let same : w ≡ u = cc in ap Word (sym same)
word_shape w (DataTy t) h = absurd cc
word_shape w (MapOf m) h = absurd cc

data_shape : (t : ℕ) (ty : Ty) → shape.Data t ≡ shape_of ty → ty ≡ DataTy t
data_shape t Flag h = absurd cc
data_shape t (Word u) h = absurd cc
data_shape t (DataTy u) h = let same : t ≡ u = cc in ap DataTy (sym same)
data_shape t (MapOf m) h = absurd cc

module _ (env : Environment) where
  abbrev mutual
    -- This may be known of a value of a type.
    pub IsKnown : Ty → Knowledge → Type 0
    IsKnown ty (unknown s) = s ≡ shape_of ty
    IsKnown Flag (flag_known b) = Unit {0}
    IsKnown (Word w) (word_known n) = Unit {0}
    IsKnown (Word w) (others u ns) = u ≡ w
    IsKnown (DataTy t) (case_known c ks) = AreKnown (fields_at (case_at env (DataTy t) c)) ks
    IsKnown _ _ = ⊥

    pub AreKnown : List Ty → Parts → Type 0
    AreKnown [] no_part = Unit {0}
    AreKnown (t ∷ ts) (part_then k ks) = IsKnown t k × AreKnown ts ks
    AreKnown _ _ = ⊥

  pub fields_known : (ts : List Ty) → AreKnown ts (unknowns (map shape_of ts))
  fields_known [] = tt
  fields_known (t ∷ ts) = (refl, fields_known ts)

  -- A test looks at a place that is there, and what is known then is of the type, too.
  pub record Looks (ty : Ty) (k : Knowledge) (at : Place) (test : Test) : Type 0 where
    pub here : Ty
    pub there : type_at env ty at ≡ Some here
    pub looks : LooksAt test here
    pub keeps : (o : Knowledge) → IsKnown here o → IsKnown ty (put k at o)

  pub record LooksIn (ts : List Ty) (ks : Parts) (i : ℕ) (at : Place) (test : Test) : Type 0 where
    pub here : Ty
    pub there : option_and_then (λ t. type_at env t at) (slice_get ts i) ≡ Some here
    pub looks : LooksAt test here
    pub keeps : (o : Knowledge) → IsKnown here o → AreKnown ts (put_part ks i at o)

  others_type : (w : ℕ) (ns : List ℕ) (ty : Ty) → IsKnown ty (others w ns) → ty ≡ Word w
  others_type w ns (Word u) h = ap Word (sym h)
  others_type w ns Flag h = absurd h
  others_type w ns (DataTy t) h = absurd h
  others_type w ns (MapOf m) h = absurd h

  number_fits : (n m w : ℕ) (ty : Ty) (p : Pattern) (vars : List Ty) → p ≡ word_is m → ty ≡ Word w → PatternTyped env n ty p vars → m < 2 ^ w
  number_fits n m w ty p vars e h k = let here : PatternTyped env n (Word w) (word_is m) vars = subst (λ z. PatternTyped env n (Word w) z vars) e (subst (λ z. PatternTyped env n z p vars) h k) in here.0

  looks_here : (n : ℕ) (ty : Ty) (p : Pattern) (vars : List Ty) (k : Knowledge) (test : Test) → Asks p test → Before test k → PatternTyped env n ty p vars → IsKnown ty k → LooksAt test ty
  looks_here n ty p vars k flag_test asks before typed known = flag_shape ty (subst (λ z. IsKnown ty z) before known)
  looks_here n ty p vars k (word_test w ns m) asks (inl before) typed known = let is = word_shape w ty (subst (λ z. IsKnown ty z) before.0 known) in (is, number_fits n m w ty p vars asks is typed)
  looks_here n ty p vars k (word_test w ns m) asks (inr before) typed known = let is = others_type w ns ty (subst (λ z. IsKnown ty z) before.0 known) in (is, number_fits n m w ty p vars asks is typed)
  looks_here n ty p vars k (case_test t) asks before typed known = data_shape t ty (subst (λ z. IsKnown ty z) before known)

  mutual
    pub looks_at : (n : ℕ) (ty : Ty) (p : Pattern) (vars : List Ty) (k : Knowledge) (at : Place) (test : Test) → Opens p k at test → PatternTyped env n ty p vars → IsKnown ty k → can_match p k ≡ true → Looks ty k at test
    looks_at n ty p vars k [] test opens typed known can = record { here = ty; there = refl; looks = looks_here n ty p vars k test opens.0 opens.1 typed known; keeps = λ o h. h }
    looks_at n (DataTy t) (case_is c ps) vars (case_known d ks) (step ∷ at) test opens typed known can =
        let same : c ≡ d = same_number c d (and_left (c == d) (all_can_match ps ks) can) in
        let ts = fields_at (case_at env (DataTy t) d) in
        let fields : PatternsTyped env n ts ps vars = subst (λ z. PatternsTyped env n (fields_at (case_at env (DataTy t) z)) ps vars) same typed in
        let r = looks_in n ts ps vars ks step.1 at test opens.1 fields known (and_right (c == d) (all_can_match ps ks) can) in
        record {
          here = r.here;
          there = subst (λ z. option_and_then (λ t. type_at env t at) (slice_get (fields_at (case_at env (DataTy t) z)) step.1) ≡ Some r.here) (sym opens.0) r.there;
          looks = r.looks;
          keeps = r.keeps;
        }
    looks_at n Flag (case_is c ps) vars (case_known d ks) (step ∷ at) test opens typed known can = absurd known
    looks_at n (Word w) (case_is c ps) vars (case_known d ks) (step ∷ at) test opens typed known can = absurd known
    looks_at n (MapOf m) (case_is c ps) vars (case_known d ks) (step ∷ at) test opens typed known can = absurd known
    looks_at n ty p vars k (step ∷ at) test opens typed known can = absurd opens

    looks_in : (n : ℕ) (ts : List Ty) (ps : Patterns) (vars : List Ty) (ks : Parts) (i : ℕ) (at : Place) (test : Test) → OpensIn ps ks i at test → PatternsTyped env n ts ps vars → AreKnown ts ks → all_can_match ps ks ≡ true → LooksIn ts ks i at test
    looks_in n (t ∷ ts) (pat_then p ps) vars (part_then k ks) zero at test opens typed known can =
        let r = looks_at n t p typed.0 k at test opens typed.2 known.0 (and_left (can_match p k) (all_can_match ps ks) can) in
        record { here = r.here; there = r.there; looks = r.looks; keeps = λ o h. (r.keeps o h, known.1) }
    looks_in n (t ∷ ts) (pat_then p ps) vars (part_then k ks) (suc i) at test opens typed known can =
        let r = looks_in (n + length typed.0) ts ps typed.1 ks i at test opens typed.3 known.1 (and_right (can_match p k) (all_can_match ps ks) can) in
        record { here = r.here; there = r.there; looks = r.looks; keeps = λ o h. (known.0, r.keeps o h) }
    looks_in n [] (pat_then p ps) vars ks i at test opens typed known can = absurd typed
    looks_in n ts ps vars ks i at test opens typed known can = absurd opens
