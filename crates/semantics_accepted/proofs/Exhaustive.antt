-- A match without a fault has an arm for each value of the type that it is on, and its decision picks the first that the value meets.
use Rattle.std.proofs.Common.{◌≡◌, ℕ, suc, ◌+◌, ◌^◌, true, ◌==◌, Option, Some, None, option_map, unwrap_or, List, [], ◌∷◌, length, map, slice_get, refl, sym, ap, ◌∙◌}
use Rattle.std.specs.Prelude.{nat_lt, is_some}
use Rattle.std.proofs.lemmas.Bool.{false≢true, ltb-true as is_less}
use Rattle.std.proofs.lemmas.Option.{slice_get-map}
use Rattle.syntax_parser.specs.declared.tree.Span.{Span}
use Rattle.spec_match_compiler.specs.declared.shape.Shape.{Shape}
use Rattle.spec_match_compiler.specs.Values.{Value}
use Rattle.spec_match_compiler.specs.Patterns.{Pattern}
use Rattle.spec_match_compiler.specs.Shapes.{Types, fields_of, HasShape, HaveShapes, AreTypes, IsShape}
use Rattle.spec_match_compiler.specs.Picks.{Choice, numbered, first_match, picks}
use Rattle.spec_match_compiler.specs.Decisions.{Decision}
use Rattle.spec_match_compiler.specs.Knowledge.{unknown}
use Rattle.spec_match_compiler.specs.Answers as a
use Rattle.spec_match_compiler.specs.Answers.{Decided, MatchAnswer, decided, all_sizes, first_unnamed, with_rows, answer_by, match_answer}
use Rattle.spec_match_compiler.proofs.Truth.{and_left, and_right}
use Rattle.spec_match_compiler.proofs.Decided.{decided_tree}
use Rattle.spec_match_compiler.proofs.Granted.{types_limits, shape_limits, can_all_unknown}
use Rattle.spec_match_compiler.proofs.Soundness.{RowsSuit, sound}
use Rattle.spec_ir.specs.declared.ty.Ty.{Ty}
use Rattle.spec_ir.specs.declared.ty.Ty.TheVariants.{Bool as Flag, Word, Data as DataTy, Map as MapOf}
use Rattle.spec_ir.specs.Environment.{Environment, Data, Case, field_types, shape_of, shapes_of}
use Rattle.spec_ir.specs.Cores.{tree_of}
use Rattle.spec_ir.specs.Texts.{cases_of as cases_in, case_at}
use Rattle.spec_ir.specs.WellFormed.{IsWellFormed, is_type}
use Rattle.spec_typing.specs.Parts.{answer_fault, match_fault}
use Rattle.spec_typing.proofs.Rows.{AllSuit, shape_fits}
use Rattle.semantics_values.specs.Values as v
use Rattle.semantics_values.specs.Values.{Val, Vals}
use Rattle.semantics_values.specs.Types.{of_case, has_type, have_types}
use Rattle.semantics.specs.Steps.{shown, all_shown}

-- ---- a decision takes each value of the shape
suit_numbered : (types : Types) (s : Shape) (n : ℕ) (rows : List Pattern) → AllSuit types s rows → RowsSuit types s (numbered n rows)
suit_numbered types s n [] h = tt
suit_numbered types s n (p ∷ rows) h = (h.0, suit_numbered types s (n + 1) rows h.1)

-- a tree, where no example and no row is the answer
tree_in : (d : Decided) (n : ℕ) (t : Decision) → answer_by d n ≡ a.decision t → d ≡ a.tree t
tree_in (a.fails p) n t h = absurd cc
tree_in a.deeper n t h = absurd cc
tree_in (a.tree u) n t h = at (first_unnamed u 0 n) h
  where
    at : (o : Option ℕ) → with_rows u o ≡ a.decision t → a.tree u ≡ a.tree t
    at None k = let same : u ≡ t = cc in ap a.tree same
    at (Some r) k = absurd cc

takes : (types : Types) (all : AreTypes types) (s : Shape) (shape : IsShape types s) (rows : List Pattern) (t : Decision) → AllSuit types s rows → match_answer types s rows ≡ a.decision t → (x : Value) → HasShape types s x → (c : Choice) × (first_match (numbered 0 rows) x ≡ Some c) × (picks t x ≡ Some c)
unfolding match_answer
takes types all s shape rows t suit h x has =
    let is = decided_tree types (suc (all_sizes rows)) (numbered 0 rows) (unknown s) t (tree_in (decided types (suc (all_sizes rows)) (numbered 0 rows) (unknown s)) (length rows) t h) in
    let same = sound types (types_limits types all) s t (numbered 0 rows) (unknown s) x is (suit_numbered types s 0 rows suit) (refl, shape_limits types s shape) (can_all_unknown (numbered 0 rows) s) has in
    (same.0, same.2, same.1)

-- ---- values by their shapes
module _ (env : Environment) where
  -- the shapes of a constructor's fields
  pub shapes_at : (t c : ℕ) → fields_of (shapes_of env) t c ≡ option_map (λ k. map shape_of (field_types k)) (case_at env (DataTy t) c)
  shapes_at t c = at (slice_get env.datas t) refl
    where
      at : (o : Option Data) → slice_get env.datas t ≡ o → slice_get (unwrap_or (slice_get (shapes_of env) t) []) c ≡ option_map (λ k. map shape_of (field_types k)) (slice_get (cases_in (slice_get env.datas t)) c)
      at None e =
          let there : slice_get (shapes_of env) t ≡ None = slice_get-map (λ d. map (λ k. map shape_of (field_types k)) d.cases) env.datas t ∙ ap (option_map (λ d. map (λ k. map shape_of (field_types k)) d.cases)) e in
          rw (there, e) refl
      at (Some d) e =
          let there : slice_get (shapes_of env) t ≡ Some (map (λ k. map shape_of (field_types k)) d.cases) =
          slice_get-map (λ d. map (λ k. map shape_of (field_types k)) d.cases) env.datas t ∙ ap (option_map (λ d. map (λ k. map shape_of (field_types k)) d.cases)) e in
          rw (there, e) (slice_get-map (λ k. map shape_of (field_types k)) d.cases c)

  made_shape : (t s c : ℕ) (x : Option Case) (ps : Vals) → case_at env (DataTy t) c ≡ x → of_case x (have_types env ps) ≡ true
      → ((ts : List Ty) → have_types env ps ts ≡ true → HaveShapes (shapes_of env) (map shape_of ts) (all_shown ps)) → HasShape (shapes_of env) (shape_of (DataTy t)) (shown (v.made s c ps))
  made_shape t s c None ps e h go = absurd (false≢true h)
  made_shape t s c (Some case) ps e h go =
      (map shape_of (field_types case), shapes_at t c ∙ ap (option_map (λ k. map shape_of (field_types k))) e, go (field_types case) h)

  mutual
    pub shape_is : (p : Val) (ty : Ty) → has_type env p ty ≡ true → HasShape (shapes_of env) (shape_of ty) (shown p)
    shape_is (v.flag b) Flag h = tt
    shape_is (v.flag b) (Word w) h = absurd (false≢true h)
    shape_is (v.flag b) (DataTy t) h = absurd (false≢true h)
    shape_is (v.flag b) (MapOf i) h = absurd (false≢true h)
    shape_is (v.word u x) Flag h = absurd (false≢true h)
    shape_is (v.word u x) (Word w) h = is_less x (2 ^ w) (and_right (u == w) (nat_lt x (2 ^ w)) h)
    shape_is (v.word u x) (DataTy t) h = absurd (false≢true h)
    shape_is (v.word u x) (MapOf i) h = absurd (false≢true h)
    shape_is (v.made s c ps) Flag h = absurd (false≢true h)
    shape_is (v.made s c ps) (Word w) h = absurd (false≢true h)
    shape_is (v.made s c ps) (DataTy t) h = made_shape t s c (case_at env (DataTy t) c) ps refl (and_right (s == t) (of_case (case_at env (DataTy t) c) (have_types env ps)) h) (λ ts k. shapes_are ps ts k)
    shape_is (v.made s c ps) (MapOf i) h = absurd (false≢true h)
    shape_is (v.map n rest cells) Flag h = absurd (false≢true h)
    shape_is (v.map n rest cells) (Word w) h = absurd (false≢true h)
    shape_is (v.map n rest cells) (DataTy t) h = absurd (false≢true h)
    shape_is (v.map n rest cells) (MapOf i) h = tt

    shapes_are : (ps : Vals) (ts : List Ty) → have_types env ps ts ≡ true → HaveShapes (shapes_of env) (map shape_of ts) (all_shown ps)
    shapes_are v.no_val [] h = tt
    shapes_are v.no_val (t ∷ ts) h = absurd (false≢true h)
    shapes_are (v.val_then p ps) [] h = absurd (false≢true h)
    shapes_are (v.val_then p ps) (t ∷ ts) h = (shape_is p t (and_left (has_type env p t) (have_types env ps ts) h), shapes_are ps ts (and_right (has_type env p t) (have_types env ps ts) h))

  -- a constructor of which the shapes of fields are there is there
  pub case_there : (t c : ℕ) (shapes : List Shape) → fields_of (shapes_of env) t c ≡ Some shapes → is_some (case_at env (DataTy t) c) ≡ true
  case_there t c shapes h = at (case_at env (DataTy t) c) (sym (shapes_at t c) ∙ h)
    where
      at : (o : Option Case) → option_map (λ k. map shape_of (field_types k)) o ≡ Some shapes → is_some o ≡ true
      at None k = absurd cc
      at (Some case) k = refl

  module _ (wf : IsWellFormed env) where
    -- each value of the type meets one of the rows of a match without a fault, and the decision picks the first
    pub takes_all : (span : Span) (ty : Ty) (rows : List Pattern) → is_type env ty ≡ true → AllSuit (shapes_of env) (shape_of ty) rows → match_fault env span ty rows ≡ None → (p : Val) → has_type env p ty ≡ true
        → (c : Choice) × (first_match (numbered 0 rows) (shown p) ≡ Some c) × (picks (tree_of (match_answer (shapes_of env) (shape_of ty) rows)) (shown p) ≡ Some c)
    takes_all span ty rows is suit h p has = at (match_answer (shapes_of env) (shape_of ty) rows) refl h
      where
        at : (x : MatchAnswer) → match_answer (shapes_of env) (shape_of ty) rows ≡ x → answer_fault env span ty x ≡ None
            → (c : Choice) × (first_match (numbered 0 rows) (shown p) ≡ Some c) × (picks (tree_of (match_answer (shapes_of env) (shape_of ty) rows)) (shown p) ≡ Some c)
        at (a.decision t) e k =
            let c = takes (shapes_of env) wf.types (shape_of ty) (shape_fits env ty is) rows t suit e (shown p) (shape_is p ty has) in
            (c.0, c.1, ap (λ z. picks (tree_of z) (shown p)) e ∙ c.2)
        at (a.not_exhaustive q) e k = absurd cc
        at (a.useless r) e k = absurd cc
