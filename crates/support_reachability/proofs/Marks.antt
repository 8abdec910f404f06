-- Steps of the marking of targets.
use Rattle.std.proofs.Common.{◌≡◌, ◌⊎◌, ℕ, ◌+◌, ◌<◌, ◌≤◌, Bool, true, false, List, [], ◌∷◌, ◌++◌, length, get_or, set, refl, sym, ap, ◌∙◌, subst, inl, inr, arith, zero, suc, cond}
use Rattle.std.specs.List.{Contains}
use Rattle.std.proofs.lemmas.Bool.{cases_eq, cases_lt, false≢true}
use Rattle.std.proofs.lemmas.List.{length-set, get_or-set_same, get_or-set_other, get_or_past, get_or_default, set-get_or, length_push}
use Rattle.std.proofs.lemmas.List.Elements.{Contains-push, Contains-push_cases, Contains-append_left}
use Rattle.support_reachability.specs.Marks.{IsMarked, IsAmong, AreMarked, unmarked}

pub set_marks : (marks : List Bool) (i node : ℕ) → i < length marks → IsMarked marks node → IsMarked (set marks i true) node
set_marks marks i node l h = elim (cases_eq node i) [ inl e ↦ subst (λ n. IsMarked (set marks i true) n) (sym e) (get_or-set_same marks i true false l) | inr n ↦ get_or-set_other marks i node true false n ∙ h ]

pub set_only : (marks : List Bool) (i node : ℕ) → IsMarked (set marks i true) node → (node ≡ i) ⊎ IsMarked marks node
set_only marks i node h = elim (cases_eq node i) [ inl e ↦ inl e | inr n ↦ inr (sym (get_or-set_other marks i node true false n) ∙ h) ]

-- what is marked is within the list
pub is_within : (marks : List Bool) (node : ℕ) → IsMarked marks node → node < length marks
is_within marks node h = elim (cases_lt node (length marks)) [ inl l ↦ l | inr n ↦ absurd (false≢true (sym (get_or_past marks node false n) ∙ h)) ]

pub unmarked_less : (marks : List Bool) (i : ℕ) → i < length marks → get_or marks i false ≡ false → unmarked (set marks i true) + 1 ≡ unmarked marks
unmarked_less [] i l h = absurd (omega arith)
unmarked_less (true ∷ marks) zero l h = absurd (false≢true (sym h))
unmarked_less (false ∷ marks) zero l h = refl
unmarked_less (true ∷ marks) (suc i) l h = unmarked_less marks i (omega arith) h
unmarked_less (false ∷ marks) (suc i) l h = ap (λ n. n + 1) (unmarked_less marks i (omega arith) h)

pub among_none : (targets : List ℕ) (node : ℕ) → IsAmong targets 0 node → ⊥
among_none targets node w = omega (arith, w.1)

pub among_less : (targets : List ℕ) (n node : ℕ) → IsAmong targets n node → IsAmong targets (n + 1) node
among_less targets n node w = (w.0, omega (arith, w.1), w.2)

pub among_here : (targets : List ℕ) (n target : ℕ) → n < length targets → target ≡ get_or targets n target → IsAmong targets (n + 1) target
among_here targets n target l e = (n, omega arith, sym e)

pub among_cases : (targets : List ℕ) (n target node : ℕ) → n < length targets → target ≡ get_or targets n target → IsAmong targets (n + 1) node → IsAmong targets n node ⊎ (node ≡ target)
among_cases targets n target node l e w = elim (cases_lt w.0 n) [
  | inl b ↦ inl (w.0, b, w.2)
  | inr b ↦ inr (sym w.2 ∙ ap (λ k. get_or targets k node) (same w.0 w.1 b) ∙ get_or_default targets n node target l ∙ sym e)
]
  where
    same : (k : ℕ) → k < n + 1 → n ≤ k → k ≡ n
    same k p q = omega arith

module _ (targets : List ℕ) (n : ℕ) (old new : List Bool) (before after : List ℕ) where
  pub skip : (target : ℕ) → n < length targets → target ≡ get_or targets n target → (target < length new → IsMarked new target)
      → AreMarked targets n old new before after → AreMarked targets (n + 1) old new before after
  skip target l e there h = record {
    width = h.width;
    kept = h.kept;
    marked = λ node w b. elim (among_cases targets n target node l e w) [
      | inl before ↦ h.marked node before b
      | inr same ↦ subst (λ k. IsMarked new k) (sym same) (there (within node same b))
    ];
    only = λ node m. elim (h.only node m) [ inl o ↦ inl o | inr w ↦ inr (among_less targets n node w.0, w.1) ];
    stack_kept = h.stack_kept;
    stack_only = h.stack_only;
    weight = h.weight;
  }
    where
      within : (node : ℕ) → node ≡ target → node < length old → target < length new
      within node s b = omega (arith, h.width)

  pub push : (target : ℕ) → n < length targets → target ≡ get_or targets n target → target < length new → get_or new target false ≡ false
      → AreMarked targets n old new before after → AreMarked targets (n + 1) old (set new target true) before (after ++ target ∷ [])
  push target l e b not_yet h = record {
    width = length-set new target true ∙ h.width;
    kept = λ node m. set_marks new target node b (h.kept node m);
    marked = λ node w c. elim (among_cases targets n target node l e w) [
      | inl before ↦ set_marks new target node b (h.marked node before c)
      | inr same ↦ subst (λ k. IsMarked (set new target true) k) (sym same) here
    ];
    only = λ node m. elim (set_only new target node m) [
      | inl same ↦ inr (subst (λ k. IsAmong targets (n + 1) k × Contains (after ++ target ∷ []) k) (sym same) (among_here targets n target l e, Contains-push after target))
      | inr there ↦ elim (h.only node there) [ inl o ↦ inl o | inr w ↦ inr (among_less targets n node w.0, Contains-append_left after (target ∷ []) node w.1) ]
    ];
    stack_kept = λ node c. Contains-append_left after (target ∷ []) node (h.stack_kept node c);
    stack_only = λ node c. elim (Contains-push_cases after target node c) [
      | inl there ↦ elim (h.stack_only node there) [ inl o ↦ inl o | inr m ↦ inr (set_marks new target node b m) ]
      | inr same ↦ inr (subst (λ k. IsMarked (set new target true) k) same here)
    ];
    weight = omega (arith, unmarked_less new target b not_yet, length_push after target, h.weight);
  }
    where
      here : IsMarked (set new target true) target
      here = get_or-set_same new target true false b

-- a target is visited
pub visit_more : (targets : List ℕ) (n : ℕ) (old new next : List Bool) (before after later : List ℕ) (target : ℕ) → n < length targets → target ≡ get_or targets n target
    → AreMarked targets n old new before after → next ≡ set new target true → later ≡ cond (get_or new target true) after (after ++ target ∷ [])
    → AreMarked targets (n + 1) old next before later
visit_more targets n old new next before after later target l e h m s =
    subst (λ marks. AreMarked targets (n + 1) old marks before later) (sym m) (cases (get_or new target true) refl s)
  where
    cases : (b : Bool) → get_or new target true ≡ b → later ≡ cond b after (after ++ target ∷ []) → AreMarked targets (n + 1) old (set new target true) before later
    cases true is t =
        subst (λ stack. AreMarked targets (n + 1) old (set new target true) before stack) (sym t)
        (subst (λ marks. AreMarked targets (n + 1) old marks before after) (sym (ap (set new target) (sym is) ∙ set-get_or new target true))
        (skip targets n old new before after target l e (λ b. get_or_default new target false true b ∙ is) h))
    cases false is t =
        let b : target < length new = elim (cases_lt target (length new)) [ inl b ↦ b | inr past ↦ absurd (false≢true (sym is ∙ get_or_past new target true past)) ] in
        subst (λ stack. AreMarked targets (n + 1) old (set new target true) before stack) (sym t)
        (push targets n old new before after target l e b (get_or_default new target false true b ∙ is) h)

pub none_marked : (targets : List ℕ) (marks : List Bool) (stack : List ℕ) → AreMarked targets 0 marks marks stack stack
none_marked targets marks stack = record {
  width = refl;
  kept = λ node m. m;
  marked = λ node w b. absurd (among_none targets node w);
  only = λ node m. inl m;
  stack_kept = λ node c. c;
  stack_only = λ node c. inl c;
  weight = refl;
}
