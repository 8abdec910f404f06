-- Lists of terms and arms.
use Rattle.std.proofs.Common.{◌≡◌, List, [], ◌∷◌, ◌++◌, length, refl, ap, arith, Option, Some, None}
use Rattle.std.specs.List.{zip}
use Rattle.spec_match_compiler.specs.Patterns.{Pattern}
use Rattle.spec_ir.specs.Environment.{or_else}
use Rattle.spec_ir.specs.Terms.{Term, Terms, Arms, terms_onto, term_then, arms_onto, arm_then}
use Rattle.spec_ir.specs.CoreTerms.{Core, Cores, cores_onto, core_then}

pub terms_onto_more : (out : List Term) (t : Term) (rest : Terms) → terms_onto (out ++ t ∷ []) rest ≡ terms_onto out (term_then t rest)
terms_onto_more [] t rest = refl
terms_onto_more (x ∷ out) t rest = ap (term_then x) (terms_onto_more out t rest)

pub cores_onto_more : (out : List Core) (t : Core) (rest : Cores) → cores_onto (out ++ t ∷ []) rest ≡ cores_onto out (core_then t rest)
cores_onto_more [] t rest = refl
cores_onto_more (x ∷ out) t rest = ap (core_then x) (cores_onto_more out t rest)

pub arms_onto_more : (out : List (Pattern × Term)) (p : Pattern) (t : Term) (rest : Arms) → arms_onto (out ++ (p, t) ∷ []) rest ≡ arms_onto out (arm_then p t rest)
arms_onto_more [] p t rest = refl
arms_onto_more (x ∷ out) p t rest = ap (arm_then x.0 x.1) (arms_onto_more out p t rest)

pub zip_more : {A B : Type 0} (xs : List A) (ys : List B) (x : A) (y : B) → length xs ≡ length ys → zip (xs ++ x ∷ []) (ys ++ y ∷ []) ≡ zip xs ys ++ (x, y) ∷ []
zip_more [] [] x y h = refl
zip_more [] (b ∷ ys) x y h = absurd (omega arith)
zip_more (a ∷ xs) [] x y h = absurd (omega arith)
zip_more (a ∷ xs) (b ∷ ys) x y h = ap (λ l. (a, b) ∷ l) (zip_more xs ys x y (omega arith))

pub or_else_some : {A : Type 0} (o : Option A) (t : A) (rest : Option A) → or_else (or_else o (Some t)) rest ≡ or_else o (Some t)
or_else_some None t rest = refl
or_else_some (Some x) t rest = refl
