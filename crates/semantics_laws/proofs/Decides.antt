-- The tree of the rule tests places that are there, and its rows are those of the match.
use Rattle.std.proofs.Common.{◌≡◌, ℕ, suc, ◌+◌, Bool, true, false, cond, Some, List, [], ◌∷◌, ◌++◌, map, slice_get, refl, sym, ap, ◌∙◌, subst, arith}
use Rattle.spec_match_compiler.specs.Values.{Place}
use Rattle.spec_match_compiler.specs.Patterns.{Pattern}
use Rattle.spec_match_compiler.specs.Meets.{bindings}
use Rattle.spec_match_compiler.specs.Picks.{Row, numbered}
use Rattle.spec_match_compiler.specs.Decisions.{Decision, Decisions, row, on_case, on_word, on_flag, no_tree, tree_then}
use Rattle.spec_match_compiler.specs.Knowledge.{Knowledge, flag_known, word_known, others, case_known, unknowns, put}
use Rattle.spec_match_compiler.specs.Rule.{Test, flag_test, word_test, case_test, can_match, first_test, still, made_known, IsTree, AreTrees}
use Rattle.spec_match_compiler.specs.Limits.{CanAll}
use Rattle.spec_match_compiler.proofs.Opens.{first_opens}
use Rattle.spec_match_compiler.proofs.Kept.{still_can}
use Rattle.spec_ir.specs.declared.ty.Ty.{Ty}
use Rattle.spec_ir.specs.declared.ty.Ty.TheVariants.{Bool as Flag, Word, Data as DataTy}
use Rattle.spec_ir.specs.Environment.{Environment, Case, field_types, shapes_of}
use Rattle.spec_ir.specs.Texts.{cases_of, case_at, fields_at}
use Rattle.spec_ir.specs.TermTypes.{PatternTyped}
use Rattle.semantics_laws.specs.CoreTypes.{Decides, AllDecide}
use Rattle.semantics_laws.proofs.Known.{IsKnown, AreKnown, fields_known, Looks, looks_at}
use Rattle.semantics_laws.proofs.Shaped.{case_shapes, cases_shaped}

-- what holds of each row
abbrev pub EachRow : (ℕ → Pattern → Type 0) → List Row → Type 0
EachRow Q [] = Unit {0}
EachRow Q (r ∷ rows) = Q r.0 r.1 × EachRow Q rows

pub each_numbered : (Q : ℕ → Pattern → Type 0) (n : ℕ) (ps : List Pattern) → ((k : ℕ) (p : Pattern) → slice_get ps k ≡ Some p → Q (n + k) p) → EachRow Q (numbered n ps)
each_numbered Q n [] h = tt
each_numbered Q n (p ∷ ps) h =
    let none : n + 0 ≡ n = omega arith in
    (subst (λ z. Q z p) none (h 0 p refl), each_numbered Q (n + 1) ps (λ k q e. let same : n + suc k ≡ n + 1 + k = omega arith in subst (λ z. Q z q) same (h (suc k) q e)))

each_more : (Q : ℕ → Pattern → Type 0) (b : Bool) (r : Row) (rows : List Row) → Q r.0 r.1 → EachRow Q rows → EachRow Q (cond b (r ∷ rows) rows)
each_more Q true r rows h g = (h, g)
each_more Q false r rows h g = g

each_still : (Q : ℕ → Pattern → Type 0) (rows : List Row) (k : Knowledge) → EachRow Q rows → EachRow Q (still rows k)
each_still Q [] k h = h
each_still Q (r ∷ rows) k h = each_more Q (can_match r.1 k) r (still rows k) h.0 (each_still Q rows k h.1)

module _ (env : Environment) (P : ℕ → List (ℕ × Place) → Type 0) (ty : Ty) where
  -- a row of a pattern that may stand where values have the type
  abbrev pub IsRow : ℕ → Pattern → Type 0
  IsRow r p = P r (bindings [] p) × ((n : ℕ) × (vars : List Ty) × PatternTyped env n ty p vars)

  -- where the first row asks for a test
  looks_first : (first : Row) (rest : List Row) (k : Knowledge) (at : Place) (test : Test) → EachRow IsRow (first ∷ rest) → IsKnown env ty k → CanAll (first ∷ rest) k → first_test first.1 k ≡ Some (at, test) → Looks env ty k at test
  looks_first first rest k at test each known can found =
      let typed = each.0.1 in
      looks_at env typed.0 ty first.1 typed.1 k at test (first_opens first.1 k (at, test) found) typed.2 known can.0

  -- constructors of datatype d, from number n on
  abbrev AreCases : ℕ → ℕ → List Case → Type 0
  AreCases d n cases = (j : ℕ) (c : Case) → slice_get cases j ≡ Some c → case_at env (DataTy d) (n + j) ≡ Some c

  all_cases : (d : ℕ) → AreCases d 0 (cases_of (slice_get env.datas d))
  all_cases d j c h = let same : 0 + j ≡ j = omega arith in subst (λ n. case_at env (DataTy d) n ≡ Some c) (sym same) h

  first_case : (d n : ℕ) (c : Case) (cases : List Case) → AreCases d n (c ∷ cases) → IsKnown env (DataTy d) (case_known n (unknowns (case_shapes c)))
  first_case d n c cases h =
      let none : n + 0 ≡ n = omega arith in
      let is : case_at env (DataTy d) n ≡ Some c = subst (λ z. case_at env (DataTy d) z ≡ Some c) none (h 0 c refl) in
      subst (λ o. AreKnown env (fields_at o) (unknowns (case_shapes c))) (sym is) (fields_known env (field_types c))

  later_cases : (d n : ℕ) (c : Case) (cases : List Case) → AreCases d n (c ∷ cases) → AreCases d (n + 1) cases
  later_cases d n c cases h j e k = let same : n + suc j ≡ n + 1 + j = omega arith in subst (λ z. case_at env (DataTy d) z ≡ Some e) same (h (suc j) e k)

  mutual
    pub decides : (t : Decision) (rows : List Row) (k : Knowledge) → IsTree (shapes_of env) rows k t → EachRow IsRow rows → IsKnown env ty k → CanAll rows k → Decides env P ty t
    decides (row r binds) [] k is each known can = absurd is
    decides (row r binds) (first ∷ rest) k is each known can = subst (λ bs. P r bs) (sym is.2) (subst (λ n. P n (bindings [] first.1)) (sym is.1) each.0.0)
    decides (on_flag at a b) [] k is each known can = absurd is
    decides (on_flag at a b) (first ∷ rest) k is each known can =
        let l = looks_first first rest k at flag_test each known can is.0 in
        let shows = λ (o : Knowledge) (h : IsKnown env Flag o). l.keeps o (subst (λ z. IsKnown env z o) (sym l.looks) h) in (
          l.there ∙ ap Some l.looks,
          decides a (still (first ∷ rest) (put k at (flag_known true))) (put k at (flag_known true)) is.1 (each_still IsRow (first ∷ rest) _ each) (shows (flag_known true) tt) (still_can (first ∷ rest) _),
          decides b (still (first ∷ rest) (put k at (flag_known false))) (put k at (flag_known false)) is.2 (each_still IsRow (first ∷ rest) _ each) (shows (flag_known false) tt) (still_can (first ∷ rest) _),
        )
    decides (on_word at n a b) [] k is each known can = absurd is
    decides (on_word at n a b) (first ∷ rest) k is each known can =
        let w = is.0 in
        let ns = is.1 in
        let l = looks_first first rest k at (word_test w ns n) each known can is.2 in
        let shows = λ (o : Knowledge) (h : IsKnown env (Word w) o). l.keeps o (subst (λ z. IsKnown env z o) (sym l.looks.0) h) in (
          w,
          l.there ∙ ap Some l.looks.0,
          l.looks.1,
          decides a (still (first ∷ rest) (put k at (word_known n))) (put k at (word_known n)) is.3 (each_still IsRow (first ∷ rest) _ each) (shows (word_known n) tt) (still_can (first ∷ rest) _),
          decides b (still (first ∷ rest) (put k at (others w (ns ++ n ∷ [])))) (put k at (others w (ns ++ n ∷ []))) is.4 (each_still IsRow (first ∷ rest) _ each) (shows (others w (ns ++ n ∷ [])) refl) (still_can (first ∷ rest) _),
        )
    decides (on_case at arms) [] k is each known can = absurd is
    decides (on_case at arms) (first ∷ rest) k is each known can =
        let d = is.0 in
        let l = looks_first first rest k at (case_test d) each known can is.1 in
        let shows = λ (o : Knowledge) (h : IsKnown env (DataTy d) o). l.keeps o (subst (λ z. IsKnown env z o) (sym l.looks) h) in (
          d,
          l.there ∙ ap Some l.looks,
          all_decide arms (first ∷ rest) k at d 0 (cases_of (slice_get env.datas d)) (all_cases d) (subst (λ cs. AreTrees (shapes_of env) (first ∷ rest) k at (made_known 0 cs) arms) (cases_shaped env d) is.2) each shows,
        )

    all_decide : (ts : Decisions) (rows : List Row) (k : Knowledge) (at : Place) (d n : ℕ) (cases : List Case) → AreCases d n cases → AreTrees (shapes_of env) rows k at (made_known n (map case_shapes cases)) ts → EachRow IsRow rows
        → ((o : Knowledge) → IsKnown env (DataTy d) o → IsKnown env ty (put k at o)) → AllDecide env P ty ts cases
    all_decide no_tree rows k at d n [] of are each shows = tt
    all_decide no_tree rows k at d n (c ∷ cases) of are each shows = absurd are
    all_decide (tree_then t ts) rows k at d n [] of are each shows = absurd are
    all_decide (tree_then t ts) rows k at d n (c ∷ cases) of are each shows =
        let o = case_known n (unknowns (case_shapes c)) in (
          decides t (still rows (put k at o)) (put k at o) are.0 (each_still IsRow rows (put k at o) each) (shows o (first_case d n c cases of)) (still_can rows (put k at o)),
          all_decide ts rows k at d (n + 1) cases (later_cases d n c cases of) are.1 each shows,
        )
