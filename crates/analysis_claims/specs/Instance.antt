-- What the domains tell is true.
use Rattle.std.proofs.Common.{◌≡◌, ℕ, Bool, List, IsTrue, max, subst}
use Rattle.std.specs.Prelude.{◌&&◌, not}
use Rattle.base_trait.specs.Algebra.{Algebra}
use Rattle.base_trait.specs.Laws.{Laws}
use Rattle.base_trait.proofs.Tests.{and_parts}
use Rattle.spec_ir.specs.Specification.{Spec}
use Rattle.semantics_values.specs.States.{State}
use Rattle.fixpoint_theory.specs.Elements.{Elements}
use Rattle.domain_laws.specs.declared.field.Field.{Field}
use Rattle.domain_laws.specs.States.{StateType, has_states, same_states, state_type}
use Rattle.domain_laws.specs.Calls as cells_of
use Rattle.domain_laws.proofs.Domain.{states_are}
use Rattle.base_product.specs.Meaning.{paired}
use Rattle.domain_product_states.specs.Parts.{pair_elements}
use Rattle.abstract_value_laws.specs.Abs.{Parts}
use Rattle.domain_laws.specs.Cells.{cells}
use Rattle.domain_affine_laws.specs.Calls as relations_of
use Rattle.domain_affine_laws.specs.Calls.{affine_elements}
use Rattle.domain_cells.specs.Views.{context_of, states_of}
use Rattle.domain_cells.specs.declared.domain.StateDomain.{StateDomain}
use Rattle.analysis_query_laws.specs.Affine.{affine_tell}
use Rattle.analysis_query_laws.specs.Answers.{Telling}
use Rattle.analysis_query_laws.specs.Cells.{cells_tell}
use Rattle.analysis_query_laws.specs.Laws.{TellTruly}
use Rattle.analysis_query_laws.proofs.Cells.{cells_tell_truly}
use Rattle.analysis_query_laws.proofs.Pairs.{both_truly}
use Rattle.analysis_query_laws.specs.Pairs.{pairs_tell}
use Rattle.analysis_query_laws.proofs.Relations.{relations_tell_truly}
use Rattle.analysis_claims.specs.Seen.{plain_values, seen_by}
use Rattle.domain_laws.proofs.Fields.{states_told}

-- what is told of plain forms is told of elements
pub seen_truly : {X E : Type 0} (view : X → E) (fields : List Field) (D : Elements E State) (K : Telling E) → TellTruly fields D.fits D.holds K
    → TellTruly fields (λ x. D.fits (view x)) (λ x. D.holds (view x)) (seen_by view K)
seen_truly view fields D K truly = record {
  ranges = λ x s field key lo hi. truly.ranges (view x) s field key lo hi;
  others = λ x s field key v. truly.others (view x) s field key v;
  sums = λ x s form. truly.sums (view x) s form;
}

module _ {X W N C : Type 0} (B : Algebra W N C) (L : Laws W N C B) (cap : ℕ) (it : StateDomain X W N C) (spec : Spec) (made : IsTrue (cells_of.is_for B (states_of it) spec)) where
  pub same_type : states_of it ≡ state_type spec
  same_type =
      let behind = (and_parts B.joins (not B.words.looks && (has_states spec && same_states (states_of it) (state_type spec))) made).1 in
      let has = (and_parts (not B.words.looks) (has_states spec && same_states (states_of it) (state_type spec)) behind).1 in
      states_told (states_of it) (state_type spec) (and_parts (has_states spec) (same_states (states_of it) (state_type spec)) has).1

  pub cells_truly : TellTruly (state_type spec).fields (λ x. (cells B (context_of it) cap (states_of it).fields).fits (plain_values {X = X} {W = W} {N = N} {C = C} x)) (λ x. (cells B (context_of it) cap (states_of it).fields).holds (plain_values {X = X} {W = W} {N = N} {C = C} x))
      (seen_by plain_values (cells_tell B (context_of it)))
  cells_truly =
      let D = cells B (context_of it) cap (states_of it).fields in
      let K = cells_tell B (context_of it) in
      seen_truly (plain_values {X = X} {W = W} {N = N} {C = C}) (state_type spec).fields D K (subst (λ t. TellTruly t.fields D.fits D.holds K) same_type (cells_tell_truly B L (context_of it) cap (states_of it).fields))

module _ (t : StateType) (spec : Spec) (made : IsTrue (relations_of.is_for t spec)) where
  pub relations_truly : TellTruly (state_type spec).fields (affine_elements t).fits (affine_elements t).holds (affine_tell t)
  relations_truly =
      subst (λ u. TellTruly u.fields (affine_elements t).fits (affine_elements t).holds (affine_tell t)) (states_told t (state_type spec) (and_parts (has_states spec) (same_states t (state_type spec)) made).1)
      (relations_tell_truly t)

module _ {X Y E F : Type 0} (view : X → E) (second_view : Y → F) (P : Elements E State) (Q : Elements F State) (K : Telling X) (L : Telling Y) (spec : Spec) (is is' other : Bool) (made : IsTrue (is && (is' && other))) where
  pub pairs_truly : (IsTrue is → TellTruly (state_type spec).fields (λ x. P.fits (view x)) (λ x. P.holds (view x)) K) → (IsTrue is' → TellTruly (state_type spec).fields (λ y. Q.fits (second_view y)) (λ y. Q.holds (second_view y)) L)
      → TellTruly (state_type spec).fields (λ (z : X × Y). P.fits (view z.0) × Q.fits (second_view z.1)) (λ z s. P.holds (view z.0) s × Q.holds (second_view z.1) s) (pairs_tell K L)
  pairs_truly first second =
      let parts = and_parts is (is' && other) made in
      let behind = and_parts is' other parts.1 in
      both_truly (state_type spec).fields (λ x. P.fits (view x)) (λ x. P.holds (view x)) (λ y. Q.fits (second_view y)) (λ y. Q.holds (second_view y)) K L (first parts.0) (second behind.0)

-- cells over two bases
module _ {V W M N C D : Type 0} (A : Algebra V M C) (B : Algebra W N D) (a : Laws V M C A) (b : Laws W N D B) (low high : ℕ) (c : C × D) (t : StateType) (spec : Spec) (made : IsTrue (cells_of.is_for (paired A B) t spec)) where
  pub paired_type : t ≡ state_type spec
  paired_type = states_are (paired A B) t spec made

  pub paired_truly : {X : Type 0} (view : X → Parts V M × Parts W N)
      → TellTruly (state_type spec).fields (λ x. (pair_elements A B c low high (max low high) t).fits (view x)) (λ x. (pair_elements A B c low high (max low high) t).holds (view x))
      (seen_by view (pairs_tell (cells_tell A c.0) (cells_tell B c.1)))
  paired_truly view =
      let D = pair_elements A B c low high (max low high) t in
      seen_truly view (state_type spec).fields D (pairs_tell (cells_tell A c.0) (cells_tell B c.1))
      (subst (λ u. TellTruly u.fields D.fits D.holds (pairs_tell (cells_tell A c.0) (cells_tell B c.1))) paired_type
      (both_truly t.fields (cells A c.0 low t.fields).fits (cells A c.0 low t.fields).holds (cells B c.1 high t.fields).fits (cells B c.1 high t.fields).holds (cells_tell A c.0) (cells_tell B c.1)
      (cells_tell_truly A a c.0 low t.fields) (cells_tell_truly B b c.1 high t.fields)))
