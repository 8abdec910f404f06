-- What holds of answers to claims.
use Rattle.std.specs.Prelude.{◌≡◌, ◌≢◌, ℕ, ◌+◌, ◌≤◌, ⊤, List, ◌∷◌, Some, IsSome, IsSomeAnd, IsTrue, length, ◌↔◌}
use Rattle.base_trait.specs.Algebra.{Algebra}
use Rattle.base_trait.specs.Lists.{Each}
use Rattle.support_modular_rows.specs.Submodule.{Congruent, dot}
use Rattle.semantics_values.specs.declared.entry.GivenNumber.{GivenNumber}
use Rattle.semantics_values.specs.declared.entry.GivenNumber.TheVariants.{One, Range}
use Rattle.semantics_values.specs.declared.entry.KeyAt.{KeyAt}
use Rattle.semantics_values.specs.States.{State}
use Rattle.semantics.specs.Runs as r
use Rattle.fixpoint_theory.specs.Code.{is_code}
use Rattle.fixpoint_theory.specs.Elements.{Elements}
use Rattle.fixpoint_theory.specs.Pairs.{paired}
use Rattle.fixpoint_theory.specs.Table.{Listing, Listings}
use Rattle.domain_laws.specs.declared.field.Field.{Field}
use Rattle.domain_laws.specs.Entries.{PlaceFits, field_at}
use Rattle.domain_laws.specs.States.{StateType, state_type}
use Rattle.domain_laws.specs.Cells.{cells}
use Rattle.domain_affine_element_laws.specs.Elements.{SameMembers}
use Rattle.domain_affine_element_laws.specs.Tracked.{number_at, valuation_of}
use Rattle.domain_affine_laws.specs.Calls.{affine_elements}
use Rattle.analysis_transfer_laws.specs.Problem.{Problem}
use Rattle.analysis_transfer_laws.specs.Runs.{Begins, IsTrueOfRuns, run_of}
use Rattle.analysis_query_laws.specs.Affine.{IsDescribed, affine_tell, meets_all}
use Rattle.analysis_query_laws.specs.Answers.{Telling, answer, column_of, form_of}
use Rattle.analysis_query_laws.specs.Cells.{cells_tell}
use Rattle.analysis_query_laws.specs.Claims.{Claim, IsTrueOf, Multiple, address_of, differs, never, range, sum, total}
use Rattle.analysis_query_laws.specs.Pairs.{pairs_tell}

-- These are numbers that a cell can have, which is there.
abbrev pub IsOfCell : List Field → ℕ → KeyAt → GivenNumber → Type 0
IsOfCell fields field key given = IsSomeAnd (field_at fields field) (λ f. PlaceFits f key given)

-- What elements that fit tell is true of each state of which they hold.
pub record TellTruly {X : Type 0} (fields : List Field) (fits : X → Type 0) (holds : X → State → Type 0) (K : Telling X) : Type 0 where
  pub ranges : (x : X) (s : State) (field : ℕ) (key : KeyAt) (lo hi : ℕ) → IsTrue K.takes_ranges → fits x → holds x s → IsOfCell fields field key (Range lo hi) → IsTrue (K.in_range x field key lo hi)
      → (lo ≤ number_at s (field, key)) × (number_at s (field, key) ≤ hi)
  pub others : (x : X) (s : State) (field : ℕ) (key : KeyAt) (v : ℕ) → IsTrue K.takes_ranges → fits x → holds x s → IsOfCell fields field key (One v) → IsTrue (K.excludes x field key v)
      → number_at s (field, key) ≢ v
  pub sums : (x : X) (s : State) (form : List ℕ) → IsTrue K.takes_sums → fits x → holds x s → length form ≡ length K.tracked + 1 → IsTrue (K.meets x form)
      → Congruent (dot form (1 ∷ valuation_of K.tracked s)) 0

abbrev pub CellsTellTruly : {W N C : Type 0} → Algebra W N C → Type 0
CellsTellTruly {W} {N} {C} B = (c : C) (cap : ℕ) (fields : List Field) → TellTruly fields (cells B c cap fields).fits (cells B c cap fields).holds (cells_tell B c)

abbrev pub RelationsTellTruly : Type 0
RelationsTellTruly = (t : StateType) → TellTruly t.fields (affine_elements t).fits (affine_elements t).holds (affine_tell t)

abbrev pub PairsTellTruly : {E F : Type 0} → Elements E State → Elements F State → Type 0
PairsTellTruly {E} {F} P Q = (fields : List Field) (K : Telling E) (L : Telling F) → TellTruly fields P.fits P.holds K → TellTruly fields Q.fits Q.holds L → TellTruly fields (paired P Q).fits (paired P Q).holds (pairs_tell K L)

-- Where rows describe some numbers, a form is 0 over each row exactly where it is 0 over 1 and all numbers that they describe.
abbrev pub SumsAreExact : Type 0
SumsAreExact =
    (k : ℕ) (rows : List (List ℕ)) (form some : List ℕ) → length form ≡ k + 1 → IsDescribed k rows some
    → IsTrue (meets_all rows form) ↔ ((numbers : List ℕ) → IsDescribed k rows numbers → Congruent (dot form (1 ∷ numbers)) 0)

-- What is told of a sum does not depend on how a submodule is written.
abbrev pub SumsAreOfMembers : Type 0
SumsAreOfMembers = (k : ℕ) (rows others : List (List ℕ)) (form : List ℕ) → length form ≡ k + 1 → SameMembers k rows others → meets_all rows form ≡ meets_all others form

-- The form of a sum of tracked cells is the sum.
abbrev pub FormsAreSums : Type 0
FormsAreSums =
    (cells : List (ℕ × KeyAt)) (c : ℕ) (parts : List Multiple) (s : State) → Each (λ p. IsSome (column_of cells p.1 p.2)) parts
    → (length (form_of cells c parts) ≡ length cells + 1) × Congruent (dot (form_of cells c parts) (1 ∷ valuation_of cells s)) (total s c parts)

-- The claim is one of the fields: what it says of a cell, it says of one that is there and by numbers that this can have; and the cells of a sum are
-- tracked.
abbrev pub IsClaim : {X : Type 0} → Telling X → List Field → Claim → Type 0
IsClaim K fields (range at field key lo hi) = IsOfCell fields field key (Range lo hi)
IsClaim K fields (sum at c parts) = Each (λ p. IsSome (column_of K.tracked p.1 p.2)) parts
IsClaim K fields (differs at field key v) = IsOfCell fields field key (One v)
IsClaim K fields (never at) = ⊤

module _ {E : Type 0} (D : Elements E State) (K : Telling E) where
  -- A yes of a table that is true of every run is true of every state at the claim's address, in every run from a state that the entry describes,
  -- under every bound on turns.
  abbrev pub ClaimsHold : {W N C : Type 0} → Algebra W N C → Type 0
  ClaimsHold B =
      (p : Problem) (t : Listings E) (claim : Claim) → IsTrueOfRuns B D p t → ((at : ℕ) (b : Listing E) → t at ≡ Some b → D.fits b.elem) → TellTruly (state_type p.spec).fields D.fits D.holds K
      → IsClaim K (state_type p.spec).fields claim → IsTrue (is_code p.addresses (address_of claim)) → IsTrue (answer K t claim)
      → (d n : ℕ) (first : State) → Begins p first → (run_of p d n first).stop ≡ r.Stop.bound → (run_of p d n first).state.pc ≡ address_of claim → IsTrueOf (run_of p d n first).state claim
