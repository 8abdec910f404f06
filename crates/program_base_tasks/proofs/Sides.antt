-- The domain of pairs of cells is that of the definitions.
use Rattle.std.proofs.Common.{◌≡◌, ℕ, Bool, true, false, List, IsTrue, option_map, ap, refl, subst, ◌∙◌}
use Rattle.std.specs.Prelude.{◌&&◌, ◌||◌, not}
use Rattle.base_trait.specs.Algebra.{Algebra}
use Rattle.base_cuts.specs.Cuts.{Cuts}
use Rattle.base_product.specs.Meaning.{paired}
use Rattle.spec_ir.specs.Specification.{Spec}
use Rattle.abstract_value_laws.specs.Abs.{Parts}
use Rattle.domain_laws.specs.States.{StateType, state_type}
use Rattle.domain_laws.specs.Calls.{is_for}
use Rattle.domain_laws.proofs.Domain.{states_are}
use Rattle.analysis_claims.specs.Seen.{seen_by}
use Rattle.analysis_query_laws.specs.Answers.{Telling}
use Rattle.text_words.specs.Readings.{Readings}
use Rattle.text_words.specs.Texts.{Texts}
use Rattle.program_domains.specs.Domains.{DomainOf, cells_of, pair_of}
use Rattle.program_domain_tasks.specs.Own.{Own}
use Rattle.program_base_tasks.proofs.Ties.{Tie}

-- two bases that join and do not look at the valuation
pub may_both : (p q u v : Bool) → IsTrue (p && not u) → IsTrue (q && not v) → IsTrue ((p && q) && not (u || v))
may_both true true false false h k = refl
may_both true true false true h k = cc
may_both true true true v h k = cc
may_both true false u v h k = cc
may_both false q u v h k = cc

-- a domain of the definitions, whose elements are seen by a view
module _ {X E W N C : Type 0} (view : X → E) (d : DomainOf E W N C) where
  abbrev pub own_by : Own X E W N C
  own_by = record {
    base = d.base;
    cap = d.cap;
    elements = d.elements;
    meaning = d.meaning;
    pieces = d.pieces;
    view = view;
    IsText = λ spec x. d.IsText spec (view x);
    Reads = λ spec is_word ls r left. d.Reads spec is_word ls (option_map view r) left;
    word_in = d.word_in;
    word_text = d.word_text;
  }

  abbrev pub told_by : Telling X
  told_by = seen_by view d.telling

  itself : Tie own_by told_by d
  itself = record { same = refl; tells = refl; text = λ spec x bytes is. is; reads = λ spec is_word ls r left is. is }

module _ {V W M N C D : Type 0} (A : Algebra V M C) (B : Algebra W N D) where
  -- A domain of pairs of cells is for the specification, and its words share what those of both bases do.
  abbrev pub IsMadeFor : C → D → C × D → StateType → Spec → Type 0
  IsMadeFor one other c t spec = IsTrue (is_for (paired A B) t spec) × ((c.0 ≡ one) × (c.1 ≡ other))

  module _ (K : Cuts V C) (L : Cuts W D) (low high : ℕ) (first second : List ℕ) (texts : Texts V M) (others : Texts W N) (readings : Readings V M) (later : Readings W N) where
    -- cells over two bases
    abbrev pub both_cells : C × D → StateType → DomainOf (Parts V M × Parts W N) (V × W) (M × N) (C × D)
    both_cells c t = pair_of (cells_of t A K c.0 low first texts readings) (cells_of t B L c.1 high second others later)

    pub both_tie : {X : Type 0} (view : X → Parts V M × Parts W N) (c : C × D) (t : StateType) (one : C) (other : D) (spec : Spec) → IsMadeFor one other c t spec
        → Tie (own_by view (both_cells c t)) (told_by view (both_cells c t)) (both_cells (one, other) (state_type spec))
    both_tie view c t one other spec made =
        subst (λ x. Tie (own_by view (both_cells c t)) (told_by view (both_cells c t)) x)
        (ap (λ x. both_cells (x, c.1) t) made.1.0 ∙ ap (λ y. both_cells (one, y) t) made.1.1 ∙ ap (λ u. both_cells (one, other) u) (states_are (paired A B) t spec made.0))
        (itself view (both_cells c t))
