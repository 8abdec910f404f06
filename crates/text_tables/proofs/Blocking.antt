-- Blocks of addresses, one further.
use Rattle.std.proofs.Common.{ℕ, List, [], ◌∷◌, ◌++◌, refl, sym, ap, ◌∙◌, append_assoc, append-nil}
use Rattle.spec_ir.specs.Specification.{Spec}
use Rattle.fixpoint_theory.specs.Table.{Listings}
use Rattle.text_elements.specs.Parts.{Appended}
use Rattle.text_tables.specs.Tables.{AreBlocks, IsAt, none, onto}

module _ {E : Type 0} (IsElement : E → List ℕ → Type 0) (spec : Spec) (t : Listings E) where
  -- Out of these addresses some are left: what is written of those makes, behind what was appended, what is written of all.
  abbrev pub Left : List ℕ → List ℕ → List ℕ → List ℕ → Type 0
  Left all left old out = (rest : List ℕ) → AreBlocks IsElement spec t left rest → Appended (AreBlocks IsElement spec t all) old (out ++ rest)

  pub all_left : (all old : List ℕ) → Left all all old old
  all_left all old rest blocks = record { text = rest; is = blocks; appended = refl }

  -- one address further
  pub one_less : (all left : List ℕ) (at : ℕ) (old out new : List ℕ) → Appended (IsAt IsElement spec at (t at)) out new → Left all (at ∷ left) old out → Left all left old new
  one_less all left at old out new here before rest blocks =
      let found = before (here.text ++ rest) (onto here.text rest here.is blocks) in
      record { text = found.text; is = found.is; appended = ap (λ (xs : List ℕ). xs ++ rest) here.appended ∙ append_assoc out here.text rest ∙ found.appended }

  -- none is left
  pub none_left : (all old out : List ℕ) → Left all [] old out → Appended (AreBlocks IsElement spec t all) old out
  none_left all old out before =
      let found = before [] none in
      record { text = found.text; is = found.is; appended = sym (append-nil out) ∙ found.appended }
