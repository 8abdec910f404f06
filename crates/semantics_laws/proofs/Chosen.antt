-- Decisions of matches in terms that leave nothing open.
use Rattle.std.proofs.Common.{◌≡◌, ℕ, suc, ◌+◌, Bool, true, false, cond, Option, Some, None, List, [], ◌∷◌, length, slice_get, refl, sym, ap, ◌∙◌, subst, arith}
use Rattle.std.proofs.lemmas.Option.{same_Some as some_same}
use Rattle.spec_match_compiler.specs.Values.{Place, Value}
use Rattle.spec_match_compiler.specs.Patterns.{Pattern}
use Rattle.spec_match_compiler.specs.Meets.{meets, bindings}
use Rattle.spec_match_compiler.specs.Picks.{Choice, numbered, first_match, picks}
use Rattle.spec_match_compiler.specs.Decisions.{Decision, row}
use Rattle.spec_match_compiler.specs.Knowledge.{unknown}
use Rattle.spec_match_compiler.specs.Rule.{IsTree}
use Rattle.spec_match_compiler.specs.Answers as a
use Rattle.spec_match_compiler.specs.Answers.{Decided, MatchAnswer, decided, all_sizes, first_unnamed, with_rows, answer_by, match_answer}
use Rattle.spec_match_compiler.specs.Shapes.{Types}
use Rattle.spec_match_compiler.specs.declared.shape.Shape.{Shape}
use Rattle.spec_match_compiler.proofs.Decided.{decided_tree}
use Rattle.spec_match_compiler.proofs.Granted.{can_all_unknown}
use Rattle.spec_ir.specs.declared.ty.Ty.{Ty}
use Rattle.spec_ir.specs.Environment.{Environment, shape_of, shapes_of}
use Rattle.spec_ir.specs.Terms.{Arms, patterns_of}
use Rattle.spec_ir.specs.Cores.{tree_of}
use Rattle.spec_ir.specs.WellFormed.{IsWellFormed, is_type}
use Rattle.semantics.specs.Steps.{shown}
use Rattle.semantics_laws.specs.Total.{AreDecided, decision_of}
use Rattle.semantics_laws.specs.CoreTypes.{Decides}
use Rattle.semantics_laws.proofs.Shaped.{some_of}
use Rattle.semantics_laws.proofs.Decides.{each_numbered, IsRow, decides}

-- the row that is the first that a value meets, by its number from n on
pub record Matched (n : ℕ) (ps : List Pattern) (c : Choice) : Type 0 where
  pub k : ℕ
  pub pattern : Pattern
  pub number : c.0 ≡ n + k
  pub there : slice_get ps k ≡ Some pattern
  pub binds : c.1 ≡ bindings [] pattern

matched_more : (n : ℕ) (p : Pattern) (ps : List Pattern) (c : Choice) (rest : Option Choice) → (rest ≡ Some c → Matched (n + 1) ps c) → (b : Bool) → cond b (Some (n, bindings [] p)) rest ≡ Some c → Matched n (p ∷ ps) c
matched_more n p ps c rest later true h =
    let same = some_same (n, bindings [] p) c h in
    record { k = 0; pattern = p; number = sym (ap (λ z. z.0) same) ∙ (let none : n ≡ n + 0 = omega arith in none); there = refl; binds = sym (ap (λ z. z.1) same) }
matched_more n p ps c rest later false h =
    let m = later h in
    let same = m.number in
    record { k = suc m.k; pattern = m.pattern; number = omega (arith, same); there = m.there; binds = m.binds }

pub matched : (n : ℕ) (ps : List Pattern) (x : Value) (c : Choice) → first_match (numbered n ps) x ≡ Some c → Matched n ps c
matched n [] x c h = absurd cc
matched n (p ∷ ps) x c h = matched_more n p ps c (first_match (numbered (n + 1) ps) x) (λ k. matched (n + 1) ps x c k) (meets p x) h

-- a decision is a tree of the rule
tree_in : (d : Decided) (n : ℕ) (t : Decision) → answer_by d n ≡ a.decision t → d ≡ a.tree t
tree_in (a.fails p) n t h = absurd cc
tree_in a.deeper n t h = absurd cc
tree_in (a.tree u) n t h = at (first_unnamed u 0 n) h
  where
    at : (o : Option ℕ) → with_rows u o ≡ a.decision t → a.tree u ≡ a.tree t
    at None k = let same : u ≡ t = cc in ap a.tree same
    at (Some r) k = absurd cc

rule_tree : (types : Types) (s : Shape) (rows : List Pattern) (t : Decision) → match_answer types s rows ≡ a.decision t → IsTree types (numbered 0 rows) (unknown s) t
unfolding match_answer
rule_tree types s rows t h = decided_tree types (suc (all_sizes rows)) (numbered 0 rows) (unknown s) t (tree_in (decided types (suc (all_sizes rows)) (numbered 0 rows) (unknown s)) (length rows) t h)

module _ (env : Environment) (wf : IsWellFormed env) (P : ℕ → List (ℕ × Place) → Type 0) (ty : Ty) (is : is_type env ty ≡ true) (arms : Arms) (all : AreDecided env ty arms) where
  -- the row that some value of the type meets first
  pub some_row : (c : Choice) × Matched 0 (patterns_of arms) c × ((picks (decision_of env ty arms) (shown (some_of env wf ty is).0)) ≡ Some c)
  some_row = let p = some_of env wf ty is in let c = all p.0 p.1 in (c.0, matched 0 (patterns_of arms) (shown p.0) c.0 c.1, c.2)

  -- each row of the match is right, so the decision is
  pub decision_right : ((k : ℕ) (p : Pattern) → slice_get (patterns_of arms) k ≡ Some p → IsRow env P ty k p) → Decides env P ty (decision_of env ty arms)
  decision_right right = at (match_answer (shapes_of env) (shape_of ty) (patterns_of arms)) refl
    where
      alone : picks (row 0 []) (shown (some_of env wf ty is).0) ≡ Some some_row.0 → P 0 []
      alone e =
          let m = some_row.1 in
          let same = some_same (0, []) some_row.0 e in
          let number = m.number in
          let first : 0 ≡ m.k = ap (λ z. z.0) same ∙ (let none : some_row.0.0 ≡ m.k = omega (arith, number) in none) in
          subst (λ n. P n []) (sym first) (subst (λ bs. P m.k bs) (sym (ap (λ z. z.1) same ∙ m.binds)) (right m.k m.pattern m.there).0)

      at : (x : MatchAnswer) → match_answer (shapes_of env) (shape_of ty) (patterns_of arms) ≡ x → Decides env P ty (decision_of env ty arms)
      at (a.decision t) e =
          let each = each_numbered (IsRow env P ty) 0 (patterns_of arms) (λ k p h. let same : k ≡ 0 + k = omega arith in subst (λ n. IsRow env P ty n p) same (right k p h)) in
          subst (λ z. Decides env P ty (tree_of z)) (sym e)
          (decides env P ty t (numbered 0 (patterns_of arms)) (unknown (shape_of ty)) (rule_tree (shapes_of env) (shape_of ty) (patterns_of arms) t e) each refl (can_all_unknown (numbered 0 (patterns_of arms)) (shape_of ty)))
      at (a.not_exhaustive q) e = subst (λ z. Decides env P ty (tree_of z)) (sym e) (alone (subst (λ z. picks (tree_of z) (shown (some_of env wf ty is).0) ≡ Some some_row.0) e some_row.2))
      at (a.useless r) e = subst (λ z. Decides env P ty (tree_of z)) (sym e) (alone (subst (λ z. picks (tree_of z) (shown (some_of env wf ty is).0) ≡ Some some_row.0) e some_row.2))
