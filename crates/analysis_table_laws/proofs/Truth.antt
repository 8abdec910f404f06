-- Of tables that are one, one is true of every run where the other is.
use Rattle.std.proofs.Common.{◌≡◌, ℕ, List, Option, Some, None, IsTrue, refl, subst}
use Rattle.std.specs.Prelude.{IsSomeAnd}
use Rattle.base_trait.specs.Algebra.{Algebra}
use Rattle.base_trait.specs.Lists.{Each, IsAmong}
use Rattle.base_trait.specs.Uses.{AreCovering, Read}
use Rattle.semantics_values.specs.States.{State}
use Rattle.fixpoint_theory.specs.Elements.{Elements}
use Rattle.fixpoint_theory.specs.Table.{AreSameBlocks, Listing}
use Rattle.fixpoint_theory.proofs.Bounded.{same_elements_hold}
use Rattle.domain_laws.specs.Domain.{Meaning}
use Rattle.analysis_transfer_laws.specs.Analysis.{analysis_of}
use Rattle.analysis_transfer_laws.specs.Problem.{Problem}
use Rattle.analysis_transfer_laws.specs.Runs.{IsListed, run_of}
use Rattle.analysis_table_laws.specs.Laws.{SameTablesAreTrue}

-- blocks that are one list an address alike
listed_same : {E : Type 0} (p : Problem) (b c : Listing E) (to : ℕ) → b.next ≡ c.next → b.exits ≡ c.exits → IsListed p b to → IsListed p c to
listed_same p b c to next exits h = record {
  next = λ code. subst (IsAmong to) next (h.next code);
  exits = λ out. subst (IsAmong to) exits (h.exits out);
}

module _ {E W N C : Type 0} (B : Algebra W N C) (cap : ℕ) (D : Elements E State) (M : Meaning E W N C) where
  pub same_tables_are_true : SameTablesAreTrue B cap D M
  same_tables_are_true p calls t u h fits_t fits_u same true_of = record {
    holds = λ d n first begins is code. let s = (run_of p d n first).state in held s (t s.pc) (u s.pc) refl refl (same s.pc) (true_of.holds d n first begins is code);
    decodes = true_of.decodes;
    typed = true_of.typed;
    leads = λ d n first next reads begins is steps. let s = (run_of p d n first).state in led next.pc reads (t s.pc) (u s.pc) (same s.pc) (true_of.leads d n first next reads begins is steps);
  }
    where
      held : (s : State) (y z : Option (Listing E)) → t s.pc ≡ y → u s.pc ≡ z → AreSameBlocks (analysis_of B cap D M p calls) y z → IsSomeAnd y (λ b. D.holds b.elem s) → IsSomeAnd z (λ b. D.holds b.elem s)
      held s None None ist isu blocks holds = holds
      held s None (Some c) ist isu blocks holds = absurd holds
      held s (Some b) None ist isu blocks holds = absurd blocks
      held s (Some b) (Some c) ist isu blocks holds = same_elements_hold D h.domain.elements b.elem c.elem s (fits_t s.pc b ist).1 (fits_u s.pc c isu).1 blocks.elem holds

      led : (to : ℕ) (reads : List Read) (y z : Option (Listing E)) → AreSameBlocks (analysis_of B cap D M p calls) y z
          → IsSomeAnd y (λ b. IsListed p b to × (IsTrue B.notes.stamped → Each (AreCovering b.uses) reads)) → IsSomeAnd z (λ b. IsListed p b to × (IsTrue B.notes.stamped → Each (AreCovering b.uses) reads))
      led to reads None None blocks leads = leads
      led to reads None (Some c) blocks leads = absurd leads
      led to reads (Some b) None blocks leads = absurd blocks
      led to reads (Some b) (Some c) blocks leads =
          (listed_same p b c to blocks.next blocks.exits leads.0, λ stamped. subst (λ us. Each (AreCovering us) reads) blocks.uses (leads.1 stamped))
