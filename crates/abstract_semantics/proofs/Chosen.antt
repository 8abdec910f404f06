-- Choices by decisions: what stands at a place has its type, and arms that keep something do so joined.
use Rattle.std.proofs.Common.{◌≡◌, ℕ, zero, suc, true, List, [], ◌∷◌, Option, Some, None, option_map, slice_get, refl, subst}
use Rattle.std.specs.Prelude.{◌==◌, IfSome, option_and_then}
use Rattle.std.proofs.lemmas.Bool.{false≢true}
use Rattle.spec_match_compiler.proofs.Truth.{and_left, and_right}
use Rattle.base_trait.specs.Algebra.{Algebra}
use Rattle.spec_match_compiler.specs.Values.{Place}
use Rattle.spec_match_compiler.specs.Decisions.{Decision, Decisions, row, on_case, on_word, on_flag, no_tree, tree_then}
use Rattle.spec_ir.specs.declared.ty.Ty.{Ty}
use Rattle.spec_ir.specs.declared.ty.Ty.TheVariants.{Bool as Flag, Word, Data as DataTy, Map as MapOf}
use Rattle.spec_ir.specs.Environment.{Environment, Data, Case, field_types}
use Rattle.spec_ir.specs.Texts.{cases_of, fields_at}
use Rattle.semantics_laws.specs.Places.{all_of, type_at, types_named}
use Rattle.semantics_laws.specs.CoreTypes.{Decides, AllDecide}
use Rattle.abstract_value_laws.specs.Abs.{Abs, Cases, Parts, flag, word, made, map, no_case, absent, present, no_part, part}
use Rattle.abstract_value_laws.specs.Fits.{Fits, CasesFit, PartsFit}
use Rattle.abstract_value_laws.specs.Types.{has_type, have_cases, have_types, of_data}
use Rattle.abstract_semantics.specs.Answers.{Evaluation}
use Rattle.abstract_semantics.specs.Choices.{abs_at, abs_in, abs_part, abs_named, arm_on, arms_present, cases_there, decided, flag_there, word_there}
use Rattle.abstract_semantics.proofs.Kept.{Keeping, AllKeeping, branch_kept, joined_kept}
use Rattle.abstract_semantics.proofs.Typed.{IsOf, AreOf}
use Rattle.abstract_semantics.proofs.Stepped.{Invariant}

module _ {W N C : Type 0} (B : Algebra W N C) (c : C) (cap : ℕ) (env : Environment) where
  -- type and fitting alone
  pub record IsFit (s : Ty) (y : Abs W N) : Type 0 where
    pub has : has_type env y s ≡ true
    pub fits : Fits B c cap y

  in_data : (place : Place) (k i : ℕ) (cs : Cases W N) (o : Option Data) (s : Ty) → of_data o (have_cases env cs) ≡ true → option_and_then (λ t. type_at env t place) (slice_get (fields_at (slice_get (cases_of o) k)) i) ≡ Some s
      → ((ds : List Case) → have_cases env cs ds ≡ true → option_and_then (λ t. type_at env t place) (slice_get (fields_at (slice_get ds k)) i) ≡ Some s → IfSome (abs_in place k i cs) (IsFit s)) → IfSome (abs_in place k i cs) (IsFit s)
  in_data place k i cs None s h e go = absurd (false≢true h)
  in_data place k i cs (Some data_is) s h e go = go data_is.cases h e

  mutual
    at_fits : (place : Place) (x : Abs W N) (ty s : Ty) → has_type env x ty ≡ true → Fits B c cap x → type_at env ty place ≡ Some s → IfSome (abs_at place x) (IsFit s)
    at_fits [] x ty s h f e = let same : ty ≡ s = cc in subst (λ t. IsFit t x) same (record { has = h; fits = f })
    at_fits (step ∷ place) (made t cs) (DataTy d) s h f e = in_data place step.0 step.1 cs (slice_get env.datas d) s (and_right (t == d) _ h) e (λ ds h e. case_fits place step.0 step.1 cs ds s h f e)
    at_fits (step ∷ place) (made t cs) Flag s h f e = absurd (false≢true h)
    at_fits (step ∷ place) (made t cs) (Word w) s h f e = absurd (false≢true h)
    at_fits (step ∷ place) (made t cs) (MapOf m) s h f e = absurd (false≢true h)
    at_fits (step ∷ place) (flag t) ty s h f e = tt
    at_fits (step ∷ place) (word w x) ty s h f e = tt
    at_fits (step ∷ place) (map m x) ty s h f e = tt

    case_fits : (place : Place) (k i : ℕ) (cs : Cases W N) (ds : List Case) (s : Ty) → have_cases env cs ds ≡ true → CasesFit B c cap cs
        → option_and_then (λ t. type_at env t place) (slice_get (fields_at (slice_get ds k)) i) ≡ Some s → IfSome (abs_in place k i cs) (IsFit s)
    case_fits place k i no_case ds s h f e = tt
    case_fits place zero i (absent cs) ds s h f e = tt
    case_fits place zero i (present xs cs) [] s h f e = absurd (false≢true h)
    case_fits place zero i (present xs cs) (d ∷ ds) s h f e = part_fits place i xs (field_types d) s (and_left (have_types env xs (field_types d)) _ h) f.0 e
    case_fits place (suc k) i (absent cs) [] s h f e = absurd (false≢true h)
    case_fits place (suc k) i (absent cs) (d ∷ ds) s h f e = case_fits place k i cs ds s h f e
    case_fits place (suc k) i (present xs cs) [] s h f e = absurd (false≢true h)
    case_fits place (suc k) i (present xs cs) (d ∷ ds) s h f e = case_fits place k i cs ds s (and_right (have_types env xs (field_types d)) _ h) f.1 e

    part_fits : (place : Place) (i : ℕ) (xs : Parts W N) (ts : List Ty) (s : Ty) → have_types env xs ts ≡ true → PartsFit B c cap xs
        → option_and_then (λ t. type_at env t place) (slice_get ts i) ≡ Some s → IfSome (abs_part place i xs) (IsFit s)
    part_fits place i no_part ts s h f e = tt
    part_fits place i (part x xs) [] s h f e = absurd (false≢true h)
    part_fits place zero (part x xs) (t ∷ ts) s h f e = at_fits place x t s (and_left (has_type env x t) _ h) f.0 e
    part_fits place (suc i) (part x xs) (t ∷ ts) s h f e = part_fits place i xs ts s (and_right (has_type env x t) _ h) f.1 e

module _ {W N C : Type 0} (B : Algebra W N C) (c : C) (cap : ℕ) (env : Environment) (a : ℕ) (P : Abs W N → Type 0) (inv : Invariant B c cap env a P) where
  -- what stands at a place has its type
  pub at_kept : (place : Place) (x : Abs W N) (ty s : Ty) → IsOf B c cap env P ty x → type_at env ty place ≡ Some s → IfSome (abs_at place x) (IsOf B c cap env P s)
  at_kept place x ty s h e = more (abs_at place x) refl (at_fits B c cap env place x ty s h.has h.fits e)
    where
      more : (o : Option (Abs W N)) → abs_at place x ≡ o → IfSome o (IsFit B c cap env s) → IfSome o (IsOf B c cap env P s)
      more None e k = tt
      more (Some y) e k = record { has = k.has; fits = k.fits; also = inv.fields place x y h.also e }

  pub named_kept : (x : Abs W N) (ty : Ty) (binds : List (ℕ × Place)) (more : List Ty) → IsOf B c cap env P ty x → types_named env ty binds ≡ Some more → IfSome (abs_named x binds) (AreOf B c cap env P more)
  named_kept x ty [] more h e = let same : [] ≡ more = cc in subst (λ ts. AreOf B c cap env P ts []) same tt
  named_kept x ty (b ∷ binds) more h e = first (type_at env ty b.1) refl (all_of (λ b. type_at env ty b.1) binds) refl e (λ ts e. named_kept x ty binds ts h e)
    where
      joined_of : (t : Ty) (ts : List Ty) (o : Option (Abs W N)) (os : Option (List (Abs W N))) → IfSome o (IsOf B c cap env P t) → IfSome os (AreOf B c cap env P ts)
          → IfSome (option_and_then (λ y. option_map (λ ys. y ∷ ys) os) o) (AreOf B c cap env P (t ∷ ts))
      joined_of t ts None os h k = tt
      joined_of t ts (Some y) None h k = tt
      joined_of t ts (Some y) (Some ys) h k = (h, k)

      first : (o : Option Ty) → type_at env ty b.1 ≡ o → (os : Option (List Ty)) → all_of (λ b. type_at env ty b.1) binds ≡ os → option_and_then (λ y. option_map (λ ys. y ∷ ys) os) o ≡ Some more
          → ((ts : List Ty) → all_of (λ b. type_at env ty b.1) binds ≡ Some ts → IfSome (abs_named x binds) (AreOf B c cap env P ts)) → IfSome (abs_named x (b ∷ binds)) (AreOf B c cap env P more)
      first None e os f g go = absurd cc
      first (Some t) e None f g go = absurd cc
      first (Some t) e (Some ts) f g go =
          let same : t ∷ ts ≡ more = cc in
          subst (λ z. IfSome (abs_named x (b ∷ binds)) (AreOf B c cap env P z)) same (joined_of t ts (abs_at b.1 x) (abs_named x binds) (at_kept b.1 x ty t h e) (go ts f))

  module _ {A : Type 0} (Fine : Type 0) (R : A → Type 0) (j : A → A → A) (keeps : (x y : A) → R x → R y → R (j x y)) (arm : ℕ → List (Abs W N) → Evaluation A) (x : Abs W N) (ty : Ty)
      (Row : ℕ → List (ℕ × Place) → Type 0) (row_kept : (r : ℕ) (binds : List (ℕ × Place)) → Row r binds → Keeping Fine R (arm_on (arm r) (abs_named x binds))) where
    mutual
      pub decided_kept : (t : Decision) → Decides env Row ty t → Keeping Fine R (decided B c j arm x t)
      decided_kept (row r binds) h l = row_kept r binds h l
      decided_kept (on_case at arms) h l = joined_kept Fine R j keeps _ (arms_kept arms (cases_of (slice_get env.datas h.0)) (cases_there (abs_at at x)) h.2) l
      decided_kept (on_word at n a b) h l = branch_kept Fine R j keeps (word_there B c (abs_at at x) n) _ _ (decided_kept a h.3) (decided_kept b h.4) l
      decided_kept (on_flag at a b) h l = branch_kept Fine R j keeps (flag_there (abs_at at x)) _ _ (decided_kept a h.1) (decided_kept b h.2) l

      pub arms_kept : (ts : Decisions) (ds : List Case) (cs : Cases W N) → AllDecide env Row ty ts ds → AllKeeping Fine R (arms_present B c j arm x ts cs)
      arms_kept no_tree ds cs h = tt
      arms_kept (tree_then t ts) [] cs h = absurd h
      arms_kept (tree_then t ts) (d ∷ ds) no_case h = tt
      arms_kept (tree_then t ts) (d ∷ ds) (absent cs) h = arms_kept ts ds cs h.1
      arms_kept (tree_then t ts) (d ∷ ds) (present xs cs) h = (decided_kept t h.0, arms_kept ts ds cs h.1)
