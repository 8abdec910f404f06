-- Activations under widening describe the direct meaning at every bound on its turns.
use Rattle.std.proofs.Common.{◌≡◌, ℕ, zero, suc, ◌<◌, ◌⊎◌, inl, inr, false, List, [], ◌∷◌, Option, Some, None, slice_get, refl, sym, subst, IsTrue}
use Rattle.std.specs.Prelude.{IfSome}
use Rattle.base_trait.specs.Algebra.{Algebra}
use Rattle.base_trait.specs.Laws.{Laws}
use Rattle.base_trait.specs.Uses.{Seen}
use Rattle.spec_ir.specs.declared.ty.Ty.{Ty}
use Rattle.spec_ir.specs.Environment.{Signature}
use Rattle.spec_ir.specs.Specification.{Spec, Fun}
use Rattle.semantics_values.specs.Types.{environment_of}
use Rattle.semantics.specs.Direct.{group_of}
use Rattle.abstract_value_laws.specs.Abs.{Abs}
use Rattle.abstract_value_laws.specs.Calls.{join_of}
use Rattle.abstract_value_laws.specs.TypeShapes.{shape_of}
use Rattle.abstract_value_laws.proofs.Typing.{types_are_shapes}
use Rattle.support_tail_fixpoint.specs.Groups.{EachIs}
use Rattle.support_tail_fixpoint.specs.Answer.{Yield, gives}
use Rattle.abstract_semantics.specs.Answers.{Answer}
use Rattle.abstract_semantics.specs.Terms.{GroupArgs, group_turn, merge_all, params_of}
use Rattle.abstract_semantics.proofs.Kept.{IsKept, Keeping, keeps_itself}
use Rattle.abstract_semantics.proofs.Typed.{IsOf, AreOf, type_is}
use Rattle.abstract_semantics.proofs.Stepped.{Invariant}
use Rattle.base_trait.specs.Uses.{Read}
use Rattle.semantics.specs.Outcomes as o
use Rattle.semantics.specs.Outcomes.{Outcome, ◌>>=◌ as ◌>>>>◌}
use Rattle.semantics_values.specs.Values.{Val}
use Rattle.abstract_value_laws.proofs.Typing.{types_are_shapes}
use Rattle.abstract_semantics.proofs.Meeting.{IsMet}
use Rattle.abstract_semantics.proofs.Standing.{AllStand, Stands}
use Rattle.std.specs.Prelude.{IsSomeAnd}
use Rattle.semantics.specs.Tails.{Ending, again, leaf as leaf_end}
use Rattle.semantics_laws.specs.CoreDirect.{core_tail}
use Rattle.abstract_semantics.proofs.Termed.{ArgsOf, IsYield}
use Rattle.abstract_semantics.proofs.Evaluating.{join_left, join_right}
use Rattle.std.specs.Prelude.{Contains, All}
use Rattle.std.specs.List.{AllByRecursion}
use Rattle.std.proofs.lemmas.List.Elements.{All-contains, All-from_recursion, recursion_from_All}
use Rattle.support_tail_fixpoint.specs.declared.driver_request.DriverRequest.TheVariants.{Out}
use Rattle.support_tail_fixpoint.specs.declared.policy.Policy.TheVariants.{Widen}
use Rattle.support_tail_fixpoint.specs.Absorbing.{Absorbing}
use Rattle.support_tail_fixpoint.specs.Answer.{IfGives, next_of, out_of}
use Rattle.support_tail_fixpoint.specs.Evaluation.{IsAnswer, IsEvaluated}
use Rattle.support_tail_fixpoint.specs.Laws.{StatesGoOn}
use Rattle.support_tail_fixpoint.specs.Rule.{Evaluated, IsActivation}
use Rattle.support_tail_fixpoint.specs.Turns.{AreMet, LeavesFit, NextFits}
use Rattle.support_tail_fixpoint.proofs.Absorbed.{arguments_are_met}
use Rattle.support_tail_fixpoint.proofs.Answered.{turns_are_evaluated}
use Rattle.support_tail_fixpoint.proofs.Parts.{leaves_hold}
use Rattle.semantics.specs.Tails.{continued}
use Rattle.semantics_laws.specs.Accepted.{IsAccepted}
use Rattle.semantics_laws.specs.CoreDirect.{core_or_wrong, core_turns}
use Rattle.support_tail_fixpoint.specs.Groups.{each_absorbs}
use Rattle.support_tail_fixpoint.proofs.Groups.{each_absorbed, held_one, merge_each_absorbs}
use Rattle.support_tail_fixpoint.proofs.Somes.{both_true, left_true, right_true}
use Rattle.abstract_value_laws.specs.Calls.{absorbs_of, widen_of}
use Rattle.abstract_value_laws.specs.Shapes.{HasShape}
use Rattle.support_tail_fixpoint.specs.Answer.{fails}
use Rattle.abstract_value_laws.proofs.Absorbing.{absorbs_describes, absorbs_itself}
use Rattle.abstract_value_laws.proofs.Joining.{join_absorbs}
use Rattle.abstract_value_laws.proofs.Widening.{widen_absorbs}
use Rattle.abstract_semantics.specs.Calls.{all_absorb, moves}
use Rattle.abstract_semantics.specs.Sound.{Covered, Follows, IsGood, Keeps}
use Rattle.abstract_semantics.proofs.Kept.{keeps_on}
use Rattle.abstract_semantics.proofs.Plain.{Nothing, keeps_nothing}
use Rattle.abstract_semantics.proofs.Called.{keeps_args, keeps_out, keys_fine, none_fails, right_of, turn_gives}
use Rattle.abstract_semantics.proofs.Turning.{HoldsFor, YieldStands, group_met}

module _ {W N C : Type 0} (B : Algebra W N C) (laws : Laws W N C B) (c : C) (cap : ℕ) (spec : Spec) (a : ℕ) (valuation : List ℕ) (joins : IsTrue B.joins) (ok : IsAccepted spec) where
  abbrev Of : Ty → Abs W N → Type 0
  Of = IsOf B c cap (environment_of spec) Nothing

  abbrev Args : ℕ → ℕ → List (Abs W N) → Type 0
  Args = ArgsOf B laws c cap spec a Nothing

  abbrev Fits : ℕ → GroupArgs W N → Type 0
  Fits g = EachIs (ArgsOf B laws c cap spec a Nothing g)

  abbrev inv : Invariant B c cap (environment_of spec) a Nothing
  inv = keeps_nothing B c cap (environment_of spec) a

  -- ---- absorption
  absorbs_self : (ts : List Ty) (xs : List (Abs W N)) → AreOf B c cap (environment_of spec) Nothing ts xs → IsTrue (all_absorb (absorbs_of B c) xs xs)
  absorbs_self [] [] h = refl
  absorbs_self [] (x ∷ xs) h = absurd h
  absorbs_self (t ∷ ts) [] h = absurd h
  absorbs_self (t ∷ ts) (x ∷ xs) h = both_true (absorbs_of B c x x) _ (absorbs_itself B laws c cap x h.0.fits) (absorbs_self ts xs h.1)

  shaped : (ty : Ty) (x : Abs W N) (h : IsOf B c cap (environment_of spec) Nothing ty x) (y : Abs W N) → IsOf B c cap (environment_of spec) Nothing ty y → HasShape (shape_of (environment_of spec) ty) y
  shaped ty x h y k = (types_are_shapes B (environment_of spec) ty y ok.types (type_is B c cap (environment_of spec) Nothing ty x h)).0 k.has

  lists_absorb : (f : Abs W N → Abs W N → Abs W N) → ((ty : Ty) (x y : Abs W N) → IsOf B c cap (environment_of spec) Nothing ty x → IsOf B c cap (environment_of spec) Nothing ty y → IsTrue (absorbs_of B c (f x y) x) × IsTrue (absorbs_of B c (f x y) y))
      → (ts : List Ty) (xs ys : List (Abs W N)) → AreOf B c cap (environment_of spec) Nothing ts xs → AreOf B c cap (environment_of spec) Nothing ts ys
      → IsTrue (all_absorb (absorbs_of B c) (merge_all f xs ys) xs) × IsTrue (all_absorb (absorbs_of B c) (merge_all f xs ys) ys)
  lists_absorb f each [] [] [] h k = (refl, refl)
  lists_absorb f each [] [] (y ∷ ys) h k = absurd k
  lists_absorb f each [] (x ∷ xs) ys h k = absurd h
  lists_absorb f each (t ∷ ts) [] ys h k = absurd h
  lists_absorb f each (t ∷ ts) (x ∷ xs) [] h k = absurd k
  lists_absorb f each (t ∷ ts) (x ∷ xs) (y ∷ ys) h k =
      let here = each t x y h.0 k.0 in
      let later = lists_absorb f each ts xs ys h.1 k.1 in
      (both_true (absorbs_of B c (f x y) x) _ here.0 later.0, both_true (absorbs_of B c (f x y) y) _ here.1 later.1)

  pub absorbing : (g : ℕ) → Absorbing (moves B c cap) (Fits g)
  absorbing g = record {
    join_absorbs = λ x y hx hy. merge_each_absorbs (all_absorb (absorbs_of B c)) (ArgsOf B laws c cap spec a Nothing g) (merge_all (join_of B c cap)) x y (λ f xs h. absorbs_self (params_of spec f) xs h.are)
        (λ f xs ys h k. lists_absorb (join_of B c cap) (λ ty x y p q. join_absorbs B laws c cap (shape_of (environment_of spec) ty) x y joins p.fits q.fits (shaped ty x p x p) (shaped ty x p y q)) (params_of spec f) xs ys h.are k.are) hx hy;
    widen_absorbs = λ x y hx hy. merge_each_absorbs (all_absorb (absorbs_of B c)) (ArgsOf B laws c cap spec a Nothing g) (merge_all (widen_of B c)) x y (λ f xs h. absorbs_self (params_of spec f) xs h.are)
        (λ f xs ys h k. lists_absorb (widen_of B c) (λ ty x y p q. widen_absorbs B laws c cap (shape_of (environment_of spec) ty) x y joins p.fits q.fits (shaped ty x p x p) (shaped ty x p y q)) (params_of spec f) xs ys h.are k.are) hx hy;
  }

  lists_absorbed : (ts : List Ty) (xs ys : List (Abs W N)) (ps : List Val) → AreOf B c cap (environment_of spec) Nothing ts xs → AreOf B c cap (environment_of spec) Nothing ts ys → IsTrue (all_absorb (absorbs_of B c) xs ys) → AllStand B valuation false ys ps → AllStand B valuation false xs ps
  lists_absorbed [] [] [] ps h k e st = st
  lists_absorbed [] [] (y ∷ ys) ps h k e st = absurd k
  lists_absorbed [] (x ∷ xs) ys ps h k e st = absurd h
  lists_absorbed (t ∷ ts) [] ys ps h k e st = absurd h
  lists_absorbed (t ∷ ts) (x ∷ xs) [] ps h k e st = absurd k
  lists_absorbed (t ∷ ts) (x ∷ xs) (y ∷ ys) [] h k e st = absurd st
  lists_absorbed (t ∷ ts) (x ∷ xs) (y ∷ ys) (p ∷ ps) h k e st = (
    record { describes = absorbs_describes B laws c cap valuation p x y h.0.fits k.0.fits (left_true (absorbs_of B c x y) _ e) st.0.describes; single = λ t. absurd cc },
    lists_absorbed ts xs ys ps h.1 k.1 (right_true (absorbs_of B c x y) _ e) st.1,
  )

  held_absorbed : (g f : ℕ) (ps : List Val) (xs ys : GroupArgs W N) → Fits g xs → Fits g ys → IsTrue (each_absorbs (all_absorb (absorbs_of B c)) xs ys) → HoldsFor B valuation false ys f ps → HoldsFor B valuation false xs f ps
  held_absorbed g f ps xs ys hx hy e st = record {
    holds = each_absorbed (all_absorb (absorbs_of B c)) (ArgsOf B laws c cap spec a Nothing g) (λ xs. AllStand B valuation false xs ps) f xs ys (λ i xs ys h k e st. lists_absorbed (params_of spec i) xs ys ps h.are k.are e st) hx hy e st.holds;
    alone = λ t. absurd cc;
  }

  -- ---- an activation of function f
  module _ (unroll delay : ℕ) (acalls : ℕ → List (Abs W N) → Answer (Abs W N)) (ccalls : ℕ → List Val → List Read → Outcome Val) (f : ℕ) (fun : Fun) (is : slice_get spec.funs f ≡ Some fun)
      (below : (h : ℕ) (s : Signature) (xs : List (Abs W N)) → ok.rank (group_of spec h) < ok.rank (group_of spec f) → slice_get (environment_of spec).funs h ≡ Some s → AreOf B c cap (environment_of spec) Nothing s.params xs
      → IsKept ⊥ (IsOf B c cap (environment_of spec) Nothing s.result_type) [] (acalls h xs))
      (below_met : (h : ℕ) (s : Signature) (xs : List (Abs W N)) (ps : List Val) (m : List Read) → ok.rank (group_of spec h) < ok.rank (group_of spec f) → slice_get (environment_of spec).funs h ≡ Some s → AreOf B c cap (environment_of spec) Nothing s.params xs
      → AllStand B valuation false xs ps → IsMet false (IsTrue B.notes.stamped) (Stands B valuation false) [] m (acalls h xs) (ccalls h ps m)) where
    abbrev turn_on : GroupArgs W N → List Seen → Answer (Yield (GroupArgs W N) (Abs W N))
    turn_on = group_turn B c cap spec a acalls (group_of spec f)

    turns_kept : (args : GroupArgs W N) → Fits (group_of spec f) args → Keeping ⊥ (IsYield B laws c cap spec a Nothing (group_of spec f) fun.result_type) (turn_on args)
    turns_kept = turn_gives B laws c cap spec a Nothing inv (λ x y h k. tt) (inl joins) ok ⊥ (Widen unroll delay) acalls (none_fails B c cap unroll delay) f fun is below

    next_given : (args : GroupArgs W N) (l : List Seen) → Fits (group_of spec f) args → IfGives (turn_on args l) (λ y. IfSome y.next (Fits (group_of spec f)))
    next_given args l h = at (turn_on args l) (turns_kept args h l)
      where
        at : (r : Answer (Yield (GroupArgs W N) (Abs W N))) → IsKept ⊥ (IsYield B laws c cap spec a Nothing (group_of spec f) fun.result_type) l r → IfGives r (λ y. IfSome y.next (Fits (group_of spec f)))
        at (fails i) k = tt
        at (gives None m) k = tt
        at (gives (Some y) m) k = k.0.next

    go_on : StatesGoOn turn_on (Fits (group_of spec f)) Keeps
    go_on = record { itself = keeps_itself; on = keeps_on; turns = λ args l y later h e. (subst (λ r. IsKept ⊥ (IsYield B laws c cap spec a Nothing (group_of spec f) fun.result_type) l r) e (turns_kept args h l)).1 }

    module _ (gs : GroupArgs W N) (fits : Fits (group_of spec f) gs) (leaves : Option (Abs W N)) (last : List Seen) (given : IsAnswer f turn_on (moves B c cap) (Widen unroll delay) gs [] (gives leaves last)) where
      abbrev ts : List (Evaluated (GroupArgs W N) (Abs W N))
      ts = given.turns

      evaluated : IsActivation (moves B c cap) (Widen unroll delay) gs given.turns (Out leaves) × Keeps [] last × All (IsEvaluated turn_on (Fits (group_of spec f)) Keeps last) given.turns
      evaluated = turns_are_evaluated (Fits (group_of spec f)) Keeps (moves B c cap) (Widen unroll delay) f turn_on gs [] last leaves (keeps_args B laws c cap spec a Nothing inv (λ x y h k. tt) (inl joins) ok (group_of spec f)) next_given go_on fits given

      abbrev IsTurn : Evaluated (GroupArgs W N) (Abs W N) → Type 0
      IsTurn turn = IsEvaluated turn_on (Fits (group_of spec f)) Keeps last turn

      turn_is : (turn : Evaluated (GroupArgs W N) (Abs W N)) → Contains given.turns turn → IsTurn turn
      turn_is turn one_ = All-contains IsTurn given.turns turn evaluated.2 one_

      -- what a turn gave is of its types
      yield_is : (turn : Evaluated (GroupArgs W N) (Abs W N)) (t : IsTurn turn) → IfSome t.yield (IsYield B laws c cap spec a Nothing (group_of spec f) fun.result_type)
      yield_is turn t = (subst (λ r. IsKept ⊥ (IsYield B laws c cap spec a Nothing (group_of spec f) fun.result_type) t.from r) t.gave (turns_kept turn.args t.fits t.from)).0

      next_fits : (turn : Evaluated (GroupArgs W N) (Abs W N)) → IsTurn turn → NextFits (Fits (group_of spec f)) turn
      next_fits turn t = subst (λ z. IfSome z (Fits (group_of spec f))) (sym t.next_is) (at t.yield (yield_is turn t))
        where
          at : (y : Option (Yield (GroupArgs W N) (Abs W N))) → IfSome y (IsYield B laws c cap spec a Nothing (group_of spec f) fun.result_type) → IfSome (next_of y) (Fits (group_of spec f))
          at None h = tt
          at (Some y) h = h.next

      leaves_fit : (turn : Evaluated (GroupArgs W N) (Abs W N)) → IsTurn turn → LeavesFit (Of fun.result_type) turn
      leaves_fit turn t = subst (λ z. IfSome z (Of fun.result_type)) (sym t.out_is) (at t.yield (yield_is turn t))
        where
          at : (y : Option (Yield (GroupArgs W N) (Abs W N))) → IfSome y (IsYield B laws c cap spec a Nothing (group_of spec f) fun.result_type) → IfSome (out_of y) (Of fun.result_type)
          at None h = tt
          at (Some y) h = h.out

      all_more : (P Q : Evaluated (GroupArgs W N) (Abs W N) → Type 0) (xs : List (Evaluated (GroupArgs W N) (Abs W N))) → ((x : Evaluated (GroupArgs W N) (Abs W N)) → P x → Q x) → All P xs → All Q xs
      all_more P Q xs go h = All-from_recursion Q xs (each xs (recursion_from_All P xs h))
        where
          each : (ys : List (Evaluated (GroupArgs W N) (Abs W N))) → AllByRecursion P ys → AllByRecursion Q ys
          each [] k = tt
          each (y ∷ ys) k = (go y k.0, each ys k.1)

      met : AreMet (moves B c cap) (Fits (group_of spec f)) given.turns gs × ((turn : Evaluated (GroupArgs W N) (Abs W N)) (next : GroupArgs W N) → Contains given.turns turn → turn.next ≡ Some next → AreMet (moves B c cap) (Fits (group_of spec f)) given.turns next)
      met = arguments_are_met (Fits (group_of spec f)) (moves B c cap) (Widen unroll delay) gs given.turns leaves (keeps_args B laws c cap spec a Nothing inv (λ x y h k. tt) (inl joins) ok (group_of spec f)) (absorbing (group_of spec f)) fits
          (all_more IsTurn (NextFits (Fits (group_of spec f))) given.turns next_fits evaluated.2) evaluated.0

      met_holds : (next : GroupArgs W N) (j : ℕ) (ps : List Val) (at : AreMet (moves B c cap) (Fits (group_of spec f)) given.turns next) → Fits (group_of spec f) next → HoldsFor B valuation false next j ps → HoldsFor B valuation false at.turn.args j ps
      met_holds next j ps at h st = by at.meets
        where
          by : (at.turn.args ≡ next) ⊎ IsTrue ((moves B c cap).absorbs at.turn.args next) → HoldsFor B valuation false at.turn.args j ps
          by (inl e) = subst (λ z. HoldsFor B valuation false z j ps) (sym e) st
          by (inr e) = held_absorbed (group_of spec f) j ps at.turn.args next at.fits h e st

      -- ---- a turn has leaves that describe the value, and the last log covers what was read
      record Reached (m : List Read) (n : Val) (more : List Read) : Type 0 where
        turn : Evaluated (GroupArgs W N) (Abs W N)
        is_one : Contains given.turns turn
        value : Abs W N
        is_ : turn.out ≡ Some value
        stands : Stands B valuation false value n
        covers : IsTrue B.notes.stamped → (log : List Seen) → Keeps last log → Covered log m → Covered log more

      abbrev IfReached : List Read → Outcome Val → Type 0
      IfReached m (o.deep j) = Unit {0}
      IfReached m o.wrong = Unit {0}
      IfReached m (o.gives n more) = Reached m n more

      reached_from : (m m1 : List Read) (x : Outcome Val) → (IsTrue B.notes.stamped → (log : List Seen) → Keeps last log → Covered log m → Covered log m1) → IfReached m1 x → IfReached m x
      reached_from m m1 (o.deep j) go h = tt
      reached_from m m1 o.wrong go h = tt
      reached_from m m1 (o.gives n more) go h = record {
        turn = h.turn;
        is_one = h.is_one;
        value = h.value;
        is_ = h.is_;
        stands = h.stands;
        covers = λ st log k cov. h.covers st log k (go st log k cov);
      }

      abbrev Chain : ℕ → Type 0
      Chain d = (turn : Evaluated (GroupArgs W N) (Abs W N)) (j : ℕ) (ps : List Val) (m : List Read) → Contains given.turns turn → HoldsFor B valuation false turn.args j ps → IfReached m (core_turns spec a ccalls f d j ps m)

      covering : (turn : Evaluated (GroupArgs W N) (Abs W N)) (t : IsTurn turn) (m m1 : List Read) → Follows (IsTrue B.notes.stamped) t.from m t.to m1 → IsTrue B.notes.stamped → (log : List Seen) → Keeps last log → Covered log m → Covered log m1
      covering turn t m m1 follows st log k cov = follows.covers st log (keeps_on t.to last log t.within k) cov

      -- one turn of the direct meaning, where the later ones are reached
      link : (n : ℕ) (later : Chain n) (turn : Evaluated (GroupArgs W N) (Abs W N)) (one_ : Contains given.turns turn) (t : IsTurn turn) (m : List Read) (x : Outcome Ending)
          → IsMet false (IsTrue B.notes.stamped) (YieldStands B valuation false) t.from m (gives t.yield t.to) x → IfReached m (x >>>> continued (core_turns spec a ccalls f n))
      link n later turn one_ t m (o.deep j) h = tt
      link n later turn one_ t m o.wrong h = tt
      link n later turn one_ t m (o.gives (leaf_end v) m1) h = by t.yield t.out_is h
        where
          at_leaf : (z : Option (Abs W N)) → turn.out ≡ z → IsSomeAnd z (λ x. Stands B valuation false x v) → Follows (IsTrue B.notes.stamped) t.from m t.to m1 → Reached m v m1
          at_leaf None e st follows = absurd st
          at_leaf (Some z) e st follows = record { turn = turn; is_one = one_; value = z; is_ = e; stands = st; covers = covering turn t m m1 follows }

          by : (y : Option (Yield (GroupArgs W N) (Abs W N))) → turn.out ≡ out_of y → IsGood (IsTrue B.notes.stamped) (YieldStands B valuation false) t.from m (leaf_end v) m1 (gives y t.to) → Reached m v m1
          by None e g = absurd g
          by (Some y) e g = at_leaf y.out e g.0.out g.1
      link n later turn one_ t m (o.gives (again j ps) m1) h = by t.yield t.next_is h
        where
          at_call : (z : Option (GroupArgs W N)) → turn.next ≡ z → IsSomeAnd z (λ gs. HoldsFor B valuation false gs j ps) → Follows (IsTrue B.notes.stamped) t.from m t.to m1 → IfReached m (core_turns spec a ccalls f n j ps m1)
          at_call None e st follows = absurd st
          at_call (Some next) e st follows =
              let there = met.1 turn next one_ e in
              let next_is : Fits (group_of spec f) next = subst (λ z. IfSome z (Fits (group_of spec f))) e (next_fits turn t) in
              reached_from m m1 (core_turns spec a ccalls f n j ps m1) (covering turn t m m1 follows) (later there.turn j ps m1 there.is_one (met_holds next j ps there next_is st))

          by : (y : Option (Yield (GroupArgs W N) (Abs W N))) → turn.next ≡ next_of y → IsGood (IsTrue B.notes.stamped) (YieldStands B valuation false) t.from m (again j ps) m1 (gives y t.to) → IfReached m (core_turns spec a ccalls f n j ps m1)
          by None e g = absurd g
          by (Some y) e g = at_call y.next e g.0.next g.1

      in_group : (turn : Evaluated (GroupArgs W N) (Abs W N)) (t : IsTurn turn) (j : ℕ) (ps : List Val) → HoldsFor B valuation false turn.args j ps → group_of spec j ≡ group_of spec f
      in_group turn t j ps st = (held_one (ArgsOf B laws c cap spec a Nothing (group_of spec f)) (λ xs. AllStand B valuation false xs ps) j turn.args t.fits st.holds).1.of_group

      chain : (d : ℕ) → Chain d
      chain zero turn j ps m one_ st = tt
      chain (suc n) turn j ps m one_ st = by (slice_get spec.funs j) refl (chain n)
        where
          t : IsTurn turn
          t = turn_is turn one_

          by : (z : Option Fun) → slice_get spec.funs j ≡ z → Chain n → IfReached m (core_or_wrong z (λ body. core_tail spec.maps (group_of spec) (group_of spec f) ccalls a ps body m) >>>> continued (core_turns spec a ccalls f n))
          by None e later = tt
          by (Some body) e later = link n later turn one_ t m _
              (subst (λ r. IsMet false (IsTrue B.notes.stamped) (YieldStands B valuation false) t.from m r (core_tail spec.maps (group_of spec) (group_of spec f) ccalls a ps body.core m)) t.gave
              (group_met B laws c cap spec a Nothing inv (inl joins) ok.types (keys_fine spec ok) valuation false (inl (refl, joins)) acalls ccalls ok.rank (group_of spec f) below below_met fun.result_type
              (λ h other d same. right_of B laws c cap spec a Nothing inv (λ x y h k. tt) (inl joins) ok f fun is h other d same) j body turn.args ps t.from m e t.fits st))

      pub activation_sound : (d j : ℕ) (ps : List Val) (m : List Read) → HoldsFor B valuation false gs j ps → IsMet false (IsTrue B.notes.stamped) (Stands B valuation false) [] m (gives leaves last) (core_turns spec a ccalls f d j ps m)
      activation_sound d j ps m st = by (core_turns spec a ccalls f d j ps m) (chain d met.0.turn j ps m met.0.is_one (met_holds gs j ps met.0 fits st))
        where
          ends_ : (z : Option (Abs W N)) (n : Val) (more : List Read) → IsSomeAnd z (λ x. Stands B valuation false x n) → Follows (IsTrue B.notes.stamped) [] m last more → IsGood (IsTrue B.notes.stamped) (Stands B valuation false) [] m n more (gives z last)
          ends_ None n more h follows = absurd h
          ends_ (Some x) n more h follows = (h, follows)

          by : (x : Outcome Val) → IfReached m x → IsMet false (IsTrue B.notes.stamped) (Stands B valuation false) [] m (gives leaves last) x
          by (o.deep i) h = tt
          by o.wrong h = tt
          by (o.gives n more) h =
              ends_ leaves n more (leaves_hold (Of fun.result_type) (λ x. Stands B valuation false x n) (moves B c cap) (Widen unroll delay) gs given.turns leaves (keeps_out B laws c cap spec a Nothing inv (λ x y h k. tt) (inl joins) ok fun.result_type)
              (λ y z hy hz st. side y z hy hz st) (all_more IsTurn (LeavesFit (Of fun.result_type)) given.turns leaves_fit evaluated.2) evaluated.0 h.turn h.value h.is_one h.is_ h.stands)
              (record { keeps = evaluated.1; covers = h.covers })
            where
              side : (y z : Abs W N) → Of fun.result_type y → Of fun.result_type z → Stands B valuation false y n ⊎ Stands B valuation false z n → Stands B valuation false (join_of B c cap y z) n
              side y z hy hz (inl st) = join_left B laws c cap spec a Nothing inv (inl joins) ok.types (keys_fine spec ok) valuation false (inl (refl, joins)) refl fun.result_type y z n hy hz st
              side y z hy hz (inr st) = join_right B laws c cap spec a Nothing inv (inl joins) ok.types (keys_fine spec ok) valuation false (inl (refl, joins)) refl fun.result_type y z n hy hz st
