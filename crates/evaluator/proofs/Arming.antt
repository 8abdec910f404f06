-- What nodes and ends give that go on with one of their arms.
use Rattle.std.proofs.Common.{cond, Bool, true, false, ◌≡◌, ◌∙◌, ◌++◌, ◌<◌, ◌≤◌, ℕ, zero, suc, List, [], ◌∷◌, Option, Some, None, option_map, slice_get, length, map, refl, sym, ap, subst, append-nil}
use Rattle.std.specs.Prelude.{All, IfSome}
use Rattle.std.proofs.lemmas.List.Elements.{All-head, All-nil, All-tail}
use Rattle.std.proofs.Math.ListN.{get_or}
use Rattle.std.proofs.lemmas.Option.{slice_get-map, slice_get_read, slice_get_past, same_Some as some_is}
use Rattle.base_trait.specs.Algebra.{Algebra}
use Rattle.base_trait.specs.Uses.{Seen}
use Rattle.spec_match_compiler.specs.Decisions.{Decision}
use Rattle.abstract_value_laws.specs.Abs.{Abs}
use Rattle.abstract_value_laws.specs.Calls.{join_of}
use Rattle.abstract_value_laws.specs.Fits.{Fits}
use Rattle.abstract_value.specs.View.{abs}
use Rattle.abstract_value.specs.declared.value.AbstractValue.{AbstractValue}
use Rattle.support_tail_fixpoint.specs.Answer.{Yield, gives}
use Rattle.abstract_semantics.specs.Answers.{Answer, Evaluation, branch, ◌>>=◌}
use Rattle.abstract_semantics.specs.Choices.{decided, flag_there}
use Rattle.abstract_semantics.specs.Terms.{GroupArgs}
use Rattle.eval_code.specs.Asks.{AllAskWithin, AsksWithin, EndAsksWithin}
use Rattle.eval_code.specs.Code as code
use Rattle.eval_code.specs.Code.{End, Node, Nodes, Stretch, Stretches, Tail, Tails, no_stretch, no_tail, stretch_then, stretches, tail_then, tails}
use Rattle.eval_code.specs.Views.{stretch as stretch_of, tail as tail_of}
use Rattle.eval_code.specs.declared.code.Stretch.{Stretch as StretchHere}
use Rattle.eval_code.specs.declared.code.Tail.{Tail as TailHere}
use Rattle.eval_code_meaning.specs.Meaning as of
use Rattle.eval_memo.specs.declared.setting.Setting.{Setting}
use Rattle.eval_memo.specs.Settings.{join_yields, leaf_of, spec_of}
use Rattle.eval_plans.specs.Plans.{Plan, PlanFits, arm, both, either, nothing, planned}
use Rattle.eval_plans.proofs.Fitting.{planned_fits}
use Rattle.eval_plans.proofs.Giving.{given_either, given_planned}
use Rattle.evaluator.specs.Arms.{Arms, ArmsAskWithin, Branch, BranchAsksWithin, GoesOn, IsChoice, arm_at, arms_of, condition_plan, decision_plan, end_plan, given_arm, given_branch, given_end, given_if_planned, node_plan, stretch_at, tail_at, tail_branch, tail_arms, stretch_branch, value_of_node, stretch_arms, ways_of}
use Rattle.evaluator.proofs.Leaves.{leaf_branch, leaf_decided}

-- ---- arms by their places
at_stretch : (ss : List Stretch) (i : ℕ) → stretch_at (stretches ss) i ≡ slice_get ss i
at_stretch [] i = refl
at_stretch (x ∷ ss) zero = refl
at_stretch (x ∷ ss) (suc i) = at_stretch ss i

pub stretch_there : (ss : List StretchHere) (i : ℕ) (x : StretchHere) → i < length ss → x ≡ get_or ss i x → Some (stretch_of x) ≡ stretch_at (stretches (map stretch_of ss)) i
stretch_there ss i x within is = sym (at_stretch (map stretch_of ss) i ∙ slice_get-map stretch_of ss i ∙ ap (option_map stretch_of) (slice_get_read ss (length ss) i x refl within is))

pub stretch_past : (ss : List StretchHere) (i : ℕ) → length ss ≤ i → None ≡ stretch_at (stretches (map stretch_of ss)) i
stretch_past ss i past = sym (at_stretch (map stretch_of ss) i ∙ slice_get-map stretch_of ss i ∙ ap (option_map stretch_of) (slice_get_past ss i past))

at_tail : (ts : List Tail) (i : ℕ) → tail_at (tails ts) i ≡ slice_get ts i
at_tail [] i = refl
at_tail (x ∷ ts) zero = refl
at_tail (x ∷ ts) (suc i) = at_tail ts i

pub tail_there : (ts : List TailHere) (i : ℕ) (x : TailHere) → i < length ts → x ≡ get_or ts i x → Some (tail_of x) ≡ tail_at (tails (map tail_of ts)) i
tail_there ts i x within is = sym (at_tail (map tail_of ts) i ∙ slice_get-map tail_of ts i ∙ ap (option_map tail_of) (slice_get_read ts (length ts) i x refl within is))

pub tail_past : (ts : List TailHere) (i : ℕ) → length ts ≤ i → None ≡ tail_at (tails (map tail_of ts)) i
tail_past ts i past = sym (at_tail (map tail_of ts) i ∙ slice_get-map tail_of ts i ∙ ap (option_map tail_of) (slice_get_past ts i past))

-- ---- what arms ask for
module _ (n : ℕ) (group : ℕ → ℕ) (g : ℕ) where
  tails_ask : (ts : Tails) (i : ℕ) (x : Branch) → AllAskWithin n group g ts → option_map tail_branch (tail_at ts i) ≡ Some x → BranchAsksWithin n group g x
  tails_ask no_tail i x h e = absurd cc
  tails_ask (tail_then y ts) zero x h e = subst (BranchAsksWithin n group g) (some_is (tail_branch y) x e) h.0
  tails_ask (tail_then y ts) (suc i) x h e = tails_ask ts i x h.1 e

  values_ask : (o : Option Stretch) (x : Branch) → option_map stretch_branch o ≡ Some x → BranchAsksWithin n group g x
  values_ask None x e = absurd cc
  values_ask (Some y) x e = subst (BranchAsksWithin n group g) (some_is (stretch_branch y) x e) tt

  pub branch_asks : (arms : Arms) (i : ℕ) (x : Branch) → ArmsAskWithin n group g arms → arm_at arms i ≡ Some x → BranchAsksWithin n group g x
  branch_asks (stretch_arms ss) i x h e = values_ask (stretch_at ss i) x e
  branch_asks (tail_arms ts) i x h e = tails_ask ts i x h e

  pub tail_asks : (t : Tail) (ns : Nodes) (x : End) → t ≡ code.tail ns x → AsksWithin n group g t → EndAsksWithin n group g x
  tail_asks t ns x is h = subst (AsksWithin n group g) is h

  pub ways_ask : (e : End) → EndAsksWithin n group g e → AllAskWithin n group g (ways_of e)
  ways_ask (code.slot s) h = tt
  ways_ask (code.again f args) h = tt
  ways_ask (code.either k x y) h = (h.0, (h.1, tt))
  ways_ask (code.pick x by arms) h = h

-- ---- what arms give
module _ {X W N C : Type 0} (B : Algebra W N C) (cap : ℕ) (on : ℕ → List (Abs W N) → Answer (Abs W N)) (s : Setting X W N C) (frame : List (Abs W N)) where
  abbrev j : Yield (GroupArgs W N) (Abs W N) → Yield (GroupArgs W N) (Abs W N) → Yield (GroupArgs W N) (Abs W N)
  j = join_yields B cap on s

  value_is : (ss : Stretches) (r : ℕ) (vs : List (Abs W N)) (x : Branch) (l : List Seen) → option_map stretch_branch (stretch_at ss r) ≡ Some x → given_arm B cap on s frame (stretch_arms ss) r vs l ≡ given_branch B cap on s (frame ++ vs) x l
  value_is no_stretch r vs x l e = absurd cc
  value_is (stretch_then y ss) zero vs x l e = ap (λ z. given_branch B cap on s (frame ++ vs) z l) (some_is (stretch_branch y) x e)
  value_is (stretch_then y ss) (suc r) vs x l e = value_is ss r vs x l e

  turn_is : (ts : Tails) (r : ℕ) (vs : List (Abs W N)) (x : Branch) (l : List Seen) → option_map tail_branch (tail_at ts r) ≡ Some x → given_arm B cap on s frame (tail_arms ts) r vs l ≡ given_branch B cap on s (frame ++ vs) x l
  turn_is no_tail r vs x l e = absurd cc
  turn_is (tail_then y ts) zero vs x l e = ap (λ z. given_branch B cap on s (frame ++ vs) z l) (some_is (tail_branch y) x e)
  turn_is (tail_then y ts) (suc r) vs x l e = turn_is ts r vs x l e

  pub arm_is : (arms : Arms) (r : ℕ) (vs : List (Abs W N)) (x : Branch) (l : List Seen) → arm_at arms r ≡ Some x → given_arm B cap on s frame arms r vs l ≡ given_branch B cap on s (frame ++ vs) x l
  arm_is (stretch_arms ss) r vs x l e = value_is ss r vs x l e
  arm_is (tail_arms ts) r vs x l e = turn_is ts r vs x l e

  no_value : (ss : Stretches) (r : ℕ) (vs : List (Abs W N)) (l : List Seen) → option_map stretch_branch (stretch_at ss r) ≡ None → given_arm B cap on s frame (stretch_arms ss) r vs l ≡ gives None l
  no_value no_stretch r vs l e = refl
  no_value (stretch_then y ss) zero vs l e = absurd cc
  no_value (stretch_then y ss) (suc r) vs l e = no_value ss r vs l e

  no_turn : (ts : Tails) (r : ℕ) (vs : List (Abs W N)) (l : List Seen) → option_map tail_branch (tail_at ts r) ≡ None → given_arm B cap on s frame (tail_arms ts) r vs l ≡ gives None l
  no_turn no_tail r vs l e = refl
  no_turn (tail_then y ts) zero vs l e = absurd cc
  no_turn (tail_then y ts) (suc r) vs l e = no_turn ts r vs l e

  pub arm_missing : (arms : Arms) (r : ℕ) (vs : List (Abs W N)) (l : List Seen) → arm_at arms r ≡ None → given_arm B cap on s frame arms r vs l ≡ gives None l
  arm_missing (stretch_arms ss) r vs l e = no_value ss r vs l e
  arm_missing (tail_arms ts) r vs l e = no_turn ts r vs l e

  -- ---- nodes that go on
  abbrev leaf : Answer (Abs W N) → Answer (Yield (GroupArgs W N) (Abs W N))
  leaf r = leaf_of B cap on s r

  abbrev stretch_so : Stretch → Evaluation (Abs W N)
  stretch_so x l = of.stretch_value B s.ctx.now cap (spec_of s) s.at on frame x l

  abbrev tail_so : Tail → Evaluation (Yield (GroupArgs W N) (Abs W N))
  tail_so x l = of.tail_turn B s.ctx.now cap (spec_of s) s.at on frame x l

  if_goes : (x y : Stretch) (o : Option (Abs W N)) (l : List Seen)
      → leaf (gives o l >>= λ p l. branch (join_of B s.ctx.now cap) (flag_there (Some p)) (of.stretch_value B s.ctx.now cap (spec_of s) s.at on frame x) (of.stretch_value B s.ctx.now cap (spec_of s) s.at on frame y) l)
      ≡ given_if_planned B cap on s frame (stretch_arms (stretch_then x (stretch_then y no_stretch))) (condition_plan o) l
  if_goes x y None l = refl
  if_goes x y (Some p) l =
      let arms = stretch_arms (stretch_then x (stretch_then y no_stretch)) in
      leaf_branch B cap on s (flag_there (Some p)) (of.stretch_value B s.ctx.now cap (spec_of s) s.at on frame x) (of.stretch_value B s.ctx.now cap (spec_of s) s.at on frame y) l
      ∙ sym (given_either j (given_arm B cap on s frame arms) (flag_there (Some p)) (arm 0 []) (arm 1 []) (λ l. leaf (stretch_so x l)) (λ l. leaf (stretch_so y l))
      (λ l. ap (λ fr. leaf (of.stretch_value B s.ctx.now cap (spec_of s) s.at on fr x l)) (append-nil frame)) (λ l. ap (λ fr. leaf (of.stretch_value B s.ctx.now cap (spec_of s) s.at on fr y l)) (append-nil frame)) l)

  choose_goes : (by : Decision) (ss : Stretches) (o : Option (Abs W N)) (l : List Seen)
      → leaf (gives o l >>= λ p l. decided B s.ctx.now (join_of B s.ctx.now cap) (λ r vs m. of.arm_value B s.ctx.now cap (spec_of s) s.at on frame ss r vs m) p by l)
      ≡ given_if_planned B cap on s frame (stretch_arms ss) (decision_plan B s.ctx.now o by) l
  choose_goes by ss None l = refl
  choose_goes by ss (Some p) l =
      leaf_decided B cap on s (λ r vs m. of.arm_value B s.ctx.now cap (spec_of s) s.at on frame ss r vs m) p by l
      ∙ sym (given_planned j (given_arm B cap on s frame (stretch_arms ss)) B s.ctx.now p by l)

  pub node_goes : (n : Node) → IsChoice n → (l : List Seen) → leaf (value_of_node B cap on s frame n l) ≡ given_if_planned B cap on s frame (stretch_arms (arms_of n)) (node_plan B s.ctx.now frame n) l
  node_goes (code.flag b) h l = absurd h
  node_goes (code.word w v) h l = absurd h
  node_goes (code.un op w x) h l = absurd h
  node_goes (code.bin op w x y) h l = absurd h
  node_goes (code.test k w x y) h l = absurd h
  node_goes (code.cast kind from to x) h l = absurd h
  node_goes (code.if_else k x y) h l = if_goes x y (slice_get frame k) l
  node_goes (code.choose x by arms) h l = choose_goes by arms (slice_get frame x) l
  node_goes (code.make d k args) h l = absurd h
  node_goes (code.call f args) h l = absurd h
  node_goes (code.get m x k) h l = absurd h
  node_goes (code.put m x k v) h l = absurd h

  -- ---- and ends
  either_goes : (x y : Tail) (o : Option (Abs W N)) (l : List Seen)
      → (gives o l >>= λ p l. branch j (flag_there (Some p)) (of.tail_turn B s.ctx.now cap (spec_of s) s.at on frame x) (of.tail_turn B s.ctx.now cap (spec_of s) s.at on frame y) l)
      ≡ given_if_planned B cap on s frame (tail_arms (tail_then x (tail_then y no_tail))) (condition_plan o) l
  either_goes x y None l = refl
  either_goes x y (Some p) l =
      let arms = tail_arms (tail_then x (tail_then y no_tail)) in
      sym (given_either j (given_arm B cap on s frame arms) (flag_there (Some p)) (arm 0 []) (arm 1 []) (of.tail_turn B s.ctx.now cap (spec_of s) s.at on frame x) (of.tail_turn B s.ctx.now cap (spec_of s) s.at on frame y)
      (λ l. ap (λ fr. of.tail_turn B s.ctx.now cap (spec_of s) s.at on fr x l) (append-nil frame)) (λ l. ap (λ fr. of.tail_turn B s.ctx.now cap (spec_of s) s.at on fr y l) (append-nil frame)) l)

  pick_goes : (by : Decision) (ts : Tails) (o : Option (Abs W N)) (l : List Seen)
      → (gives o l >>= λ p l. decided B s.ctx.now j (λ r vs m. of.arm_turn B s.ctx.now cap (spec_of s) s.at on frame ts r vs m) p by l)
      ≡ given_if_planned B cap on s frame (tail_arms ts) (decision_plan B s.ctx.now o by) l
  pick_goes by ts None l = refl
  pick_goes by ts (Some p) l = sym (given_planned j (given_arm B cap on s frame (tail_arms ts)) B s.ctx.now p by l)

  pub end_goes : (e : End) → GoesOn e → (l : List Seen) → given_end B cap on s frame e l ≡ given_if_planned B cap on s frame (tail_arms (ways_of e)) (end_plan B s.ctx.now frame e) l
  end_goes (code.slot x) h l = absurd h
  end_goes (code.again f args) h l = absurd h
  end_goes (code.either k x y) h l = either_goes x y (slice_get frame k) l
  end_goes (code.pick x by arms) h l = pick_goes by arms (slice_get frame x) l

-- ---- what plans name
module _ {W N C : Type 0} (B : Algebra W N C) (c : C) (cap : ℕ) where
  condition_fits : (o : Option (Abs W N)) (p : Plan W N) → condition_plan o ≡ Some p → PlanFits B c cap p
  condition_fits None p e = absurd cc
  condition_fits (Some x) p e = subst (PlanFits B c cap) (some_is (either (flag_there (Some x)) (arm 0 []) (arm 1 [])) p e) (at (flag_there (Some x)).may_true (flag_there (Some x)).may_false)
    where
      at : (a b : Bool) → PlanFits B c cap (cond a (cond b (both (arm 0 []) (arm 1 [])) (arm 0 [])) (cond b (arm 1 []) nothing))
      at true true = (All-nil (Fits B c cap), All-nil (Fits B c cap))
      at true false = All-nil (Fits B c cap)
      at false true = All-nil (Fits B c cap)
      at false false = tt

  decision_fits : (by : Decision) (o : Option (Abs W N)) (p : Plan W N) → IfSome o (Fits B c cap) → decision_plan B c o by ≡ Some p → PlanFits B c cap p
  decision_fits by None p h e = absurd cc
  decision_fits by (Some x) p h e = subst (PlanFits B c cap) (some_is (planned B c x by) p e) (planned_fits B c cap x h by)

module _ {X W N C : Type 0} (B : Algebra W N C) (c : C) (cap : ℕ) where
  slot_fits : (xs : List (AbstractValue X W N C)) (k : ℕ) → All (λ v. Fits B c cap (abs v)) xs → IfSome (slice_get (map abs xs) k) (Fits B c cap)
  slot_fits [] k h = tt
  slot_fits (x ∷ xs) zero h = All-head (λ v. Fits B c cap (abs v)) x xs h
  slot_fits (x ∷ xs) (suc k) h = slot_fits xs k (All-tail (λ v. Fits B c cap (abs v)) x xs h)

  pub node_plan_fits : (xs : List (AbstractValue X W N C)) (n : Node) (p : Plan W N) → All (λ v. Fits B c cap (abs v)) xs → node_plan B c (map abs xs) n ≡ Some p → PlanFits B c cap p
  node_plan_fits xs (code.if_else k x y) p h e = condition_fits B c cap (slice_get (map abs xs) k) p e
  node_plan_fits xs (code.choose x by arms) p h e = decision_fits B c cap by (slice_get (map abs xs) x) p (slot_fits xs x h) e
  node_plan_fits xs (code.flag b) p h e = absurd cc
  node_plan_fits xs (code.word w v) p h e = absurd cc
  node_plan_fits xs (code.un op w x) p h e = absurd cc
  node_plan_fits xs (code.bin op w x y) p h e = absurd cc
  node_plan_fits xs (code.test k w x y) p h e = absurd cc
  node_plan_fits xs (code.cast kind from to x) p h e = absurd cc
  node_plan_fits xs (code.make d k args) p h e = absurd cc
  node_plan_fits xs (code.call f args) p h e = absurd cc
  node_plan_fits xs (code.get m x k) p h e = absurd cc
  node_plan_fits xs (code.put m x k v) p h e = absurd cc

  pub end_plan_fits : (xs : List (AbstractValue X W N C)) (x : End) (p : Plan W N) → All (λ v. Fits B c cap (abs v)) xs → end_plan B c (map abs xs) x ≡ Some p → PlanFits B c cap p
  end_plan_fits xs (code.either k x y) p h e = condition_fits B c cap (slice_get (map abs xs) k) p e
  end_plan_fits xs (code.pick x by arms) p h e = decision_fits B c cap by (slice_get (map abs xs) x) p (slot_fits xs x h) e
  end_plan_fits xs (code.slot x) p h e = absurd cc
  end_plan_fits xs (code.again f args) p h e = absurd cc
