-- The variables of a row name what those of its pattern name.
use Rattle.std.proofs.Common.{◌≡◌, ℕ, zero, suc, ◌+◌, Bool, true, false, cond, ◌==◌, Option, Some, None, option_map, option_and_then, [], ◌∷◌, ◌++◌, refl, sym, ap, ◌∙◌, subst, arith}
use Rattle.std.proofs.lemmas.Bool.{false≢true, eqb-true as same_number}
use Rattle.std.proofs.lemmas.Option.{same_Some as some_same}
use Rattle.spec_match_compiler.specs.Values.{Place}
use Rattle.spec_match_compiler.specs.Patterns.{Pattern, Patterns, any, bind, flag_is, word_is, case_is, no_pat, pat_then}
use Rattle.spec_match_compiler.specs.Meets.{meets, all_meet, bindings, part_bindings}
use Rattle.spec_match_compiler.proofs.Truth.{and_left, and_right, equal_itself}
use Rattle.semantics_values.specs.Values as v
use Rattle.semantics_values.specs.Values.{Val, Vals}
use Rattle.semantics.specs.Steps.{shown, all_shown, bound, all_bound}
use Rattle.semantics_laws.specs.Places.{all_of, val_at, val_in, vals_named}
use Rattle.semantics_laws.proofs.Lists.{all_both}

-- ---- places one behind the other
within : (b : Bool) (x y : Option Val) (z : Option Val) (u : Val) → cond b x None ≡ Some u → (x ≡ Some u → y ≡ z) → cond b y None ≡ z
within true x y z u h k = k h
within false x y z u h k = absurd cc

mutual
  at_append : (at rest : Place) (root u : Val) → val_at at root ≡ Some u → val_at (at ++ rest) root ≡ val_at rest u
  at_append [] rest root u h = ap (val_at rest) (some_same root u h)
  at_append (step ∷ at) rest (v.made t c vs) u h = within (c == step.0) (val_in at step.1 vs) (val_in (at ++ rest) step.1 vs) (val_at rest u) u h (λ k. in_append at rest step.1 vs u k)
  at_append (step ∷ at) rest (v.flag b) u h = absurd cc
  at_append (step ∷ at) rest (v.word w x) u h = absurd cc
  at_append (step ∷ at) rest (v.map m other cells) u h = absurd cc

  in_append : (at rest : Place) (i : ℕ) (vs : Vals) (u : Val) → val_in at i vs ≡ Some u → val_in (at ++ rest) i vs ≡ val_at rest u
  in_append at rest zero v.no_val u h = absurd cc
  in_append at rest (suc i) v.no_val u h = absurd cc
  in_append at rest zero (v.val_then p vs) u h = at_append at rest p u h
  in_append at rest (suc i) (v.val_then p vs) u h = in_append at rest i vs u h

-- ---- fields, from number i on, of a constructor at a place
abbrev HasFields : Val → Place → ℕ → ℕ → Vals → Type 0
HasFields root at c i vs = (j : ℕ) (u : Val) → val_in [] j vs ≡ Some u → val_at (at ++ (c, i + j) ∷ []) root ≡ Some u

has_fields : (root : Val) (at : Place) (t c d : ℕ) (vs : Vals) → val_at at root ≡ Some (v.made t d vs) → c ≡ d → HasFields root at c 0 vs
has_fields root at t c d vs h same j u k =
    let number : 0 + j ≡ j = omega arith in
    let here : (d == c) ≡ true = subst (λ x. (d == x) ≡ true) (sym same) (equal_itself d) in
    subst (λ n. val_at (at ++ (c, n) ∷ []) root ≡ Some u) (sym number) (at_append at ((c, j) ∷ []) root (v.made t d vs) h ∙ ap (λ b. cond b (val_in [] j vs) None) here ∙ k)

first_field : (root : Val) (at : Place) (c i : ℕ) (p : Val) (vs : Vals) → HasFields root at c i (v.val_then p vs) → val_at (at ++ (c, i) ∷ []) root ≡ Some p
first_field root at c i p vs h = let number : i + 0 ≡ i = omega arith in subst (λ n. val_at (at ++ (c, n) ∷ []) root ≡ Some p) number (h 0 p refl)

later_fields : (root : Val) (at : Place) (c i : ℕ) (p : Val) (vs : Vals) → HasFields root at c i (v.val_then p vs) → HasFields root at c (i + 1) vs
later_fields root at c i p vs h j u k = let number : i + suc j ≡ i + 1 + j = omega arith in subst (λ n. val_at (at ++ (c, n) ∷ []) root ≡ Some u) number (h (suc j) u k)

mutual
  -- in a value that meets the pattern at a place
  named_at : (root : Val) (at : Place) (pat : Pattern) (p : Val) → val_at at root ≡ Some p → meets pat (shown p) ≡ true → all_of (λ b. val_at b.1 root) (bindings at pat) ≡ Some (bound pat p)
  named_at root at any p h m = refl
  named_at root at (bind n) p h m = ap (λ o. option_and_then (λ x. option_map (λ xs. x ∷ xs) (Some [])) o) h
  named_at root at (flag_is b) p h m = refl
  named_at root at (word_is n) p h m = refl
  named_at root at (case_is c ps) (v.flag b) h m = absurd (false≢true m)
  named_at root at (case_is c ps) (v.word w x) h m = absurd (false≢true m)
  named_at root at (case_is c ps) (v.map n rest cells) h m = absurd (false≢true m)
  named_at root at (case_is c ps) (v.made t d vs) h m =
      let same = same_number c d (and_left (c == d) (all_meet ps (all_shown vs)) m) in
      parts_named root at c 0 ps vs (has_fields root at t c d vs h same) (and_right (c == d) (all_meet ps (all_shown vs)) m)

  parts_named : (root : Val) (at : Place) (c i : ℕ) (ps : Patterns) (vs : Vals) → HasFields root at c i vs → all_meet ps (all_shown vs) ≡ true → all_of (λ b. val_at b.1 root) (part_bindings at c i ps) ≡ Some (all_bound ps vs)
  parts_named root at c i no_pat vs h m = refl
  parts_named root at c i (pat_then p ps) v.no_val h m = absurd (false≢true m)
  parts_named root at c i (pat_then p ps) (v.val_then x vs) h m =
      let here = named_at root (at ++ (c, i) ∷ []) p x (first_field root at c i x vs h) (and_left (meets p (shown x)) (all_meet ps (all_shown vs)) m) in
      let later = parts_named root at c (i + 1) ps vs (later_fields root at c i x vs h) (and_right (meets p (shown x)) (all_meet ps (all_shown vs)) m) in
      all_both (λ b. val_at b.1 root) (bindings (at ++ (c, i) ∷ []) p) (part_bindings at c (i + 1) ps) (bound p x) (all_bound ps vs) here later

pub names_bound : (pat : Pattern) (p : Val) → meets pat (shown p) ≡ true → vals_named p (bindings [] pat) ≡ Some (bound pat p)
names_bound pat p m = named_at p [] pat p refl m
