-- Calls under a bound on turns are the direct meaning, over a base that does not join.
use Rattle.std.proofs.Common.{◌≡◌, ℕ, zero, suc, ◌<◌, ◌≤◌, inr, true, false, List, [], ◌∷◌, Option, Some, None, slice_get, refl, sym, ap, subst, ◌∙◌, arith, IsTrue}
use Rattle.std.specs.Prelude.{IfSome}
use Rattle.base_trait.specs.Algebra.{Algebra}
use Rattle.base_trait.specs.Laws.{Laws}
use Rattle.base_trait.specs.Uses.{Seen}
use Rattle.abstract_map_laws.specs.Laws.{HasRoom}
use Rattle.spec_ir.specs.Environment.{Signature}
use Rattle.spec_ir.specs.Specification.{Spec, Fun}
use Rattle.semantics_values.specs.Types.{environment_of}
use Rattle.semantics.specs.Direct.{group_of}
use Rattle.abstract_value_laws.specs.Abs.{Abs}
use Rattle.support_tail_fixpoint.specs.Groups.{EachIs, only as only_of}
use Rattle.support_tail_fixpoint.proofs.Groups.{only_is}
use Rattle.support_tail_fixpoint.specs.Answer.{Yield, gives}
use Rattle.abstract_semantics.specs.Answers.{Answer}
use Rattle.abstract_semantics.specs.Terms.{GroupArgs, group_turn, params_in, params_of}
use Rattle.abstract_semantics.proofs.Kept.{IsKept, Keeping}
use Rattle.abstract_semantics.proofs.Typed.{IsOf, AreOf, are_typed}
use Rattle.base_trait.specs.Uses.{Read}
use Rattle.semantics.specs.Outcomes as o
use Rattle.semantics.specs.Outcomes.{Outcome, ◌>>=◌ as ◌>>>>◌}
use Rattle.semantics_values.specs.Values.{Val}
use Rattle.abstract_semantics.proofs.Meeting.{IsMet}
use Rattle.abstract_semantics.proofs.Standing.{AllStand, Stands}
use Rattle.std.specs.Prelude.{IsSomeAnd}
use Rattle.std.proofs.lemmas.Option.{slice_get_within}
use Rattle.semantics.specs.Tails.{Ending, again, leaf as leaf_end}
use Rattle.semantics_laws.proofs.Turns.{FunOf, fun_of}
use Rattle.semantics_laws.specs.CoreDirect.{core_tail}
use Rattle.support_tail_fixpoint.proofs.Groups.{only_holds}
use Rattle.abstract_semantics.proofs.Termed.{ArgsOf, IsYield}
use Rattle.std.specs.Prelude.{map as list_map}
use Rattle.support_tail_fixpoint.specs.declared.driver_request.DriverRequest.TheVariants.{Out}
use Rattle.support_tail_fixpoint.specs.Answer.{next_of}
use Rattle.support_tail_fixpoint.specs.Evaluation.{IsAnswer}
use Rattle.support_tail_fixpoint.specs.Rule.{Evaluated}
use Rattle.semantics.specs.Tails.{continued}
use Rattle.semantics_laws.specs.Accepted.{IsAccepted}
use Rattle.semantics_laws.specs.CoreDirect.{core_or_wrong, core_turns}
use Rattle.support_tail_fixpoint.specs.Answer.{fails}
use Rattle.abstract_semantics.specs.Calls.{AreRight, moves}
use Rattle.abstract_semantics.specs.Sound.{Follows, IsGood}
use Rattle.abstract_semantics.proofs.Plain.{Nothing, keeps_nothing}
use Rattle.abstract_semantics.proofs.Called.{keys_fine, right_of, turn_gives}
use Rattle.abstract_semantics.proofs.Turning.{AskStands, HoldsFor, LeafStands, YieldStands, group_met}
use Rattle.semantics.specs.Direct.{run}
use Rattle.semantics_laws.specs.CoreDirect.{core_run}
use Rattle.semantics_laws.proofs.SameRuns.{cores_mean_the_same}
use Rattle.abstract_value_laws.specs.Describes.{Describes}
use Rattle.abstract_semantics.proofs.Called.{calls_kept}
use Rattle.abstract_semantics.proofs.Plain.{are_arguments, each_nothing}
use Rattle.abstract_semantics.proofs.Typed.{are_fit}
use Rattle.std.specs.Prelude.{◌+◌, fold}
use Rattle.support_tail_fixpoint.specs.declared.driver_request.DriverRequest.{DriverRequest}
use Rattle.support_tail_fixpoint.specs.declared.driver_request.DriverRequest.TheVariants.{OutOfFuel}
use Rattle.support_tail_fixpoint.specs.declared.policy.Policy.TheVariants.{Stop}
use Rattle.support_tail_fixpoint.specs.Evaluation.{ComeTo, EndsWith, Gave}
use Rattle.support_tail_fixpoint.specs.Leaves.{all_leaves, join_leaves}
use Rattle.support_tail_fixpoint.specs.Rule.{AreTurns, Ends, Follows as FollowsRule}
use Rattle.abstract_semantics.specs.Laws.{CallsAreTheMeaning}
use Rattle.abstract_semantics.proofs.Called.{all_fine}
use Rattle.abstract_semantics.proofs.Meeting.{exact_if, met_from}
use Rattle.abstract_semantics.proofs.SoundCalls.{all_stand, met_describes}

module _ {W N C : Type 0} (B : Algebra W N C) (laws : Laws W N C B) (c : C) (cap : ℕ) (spec : Spec) (a : ℕ) (valuation : List ℕ) (single : B.joins ≡ false) (room : HasRoom B cap) (ok : IsAccepted spec) where
  abbrev Fits : ℕ → GroupArgs W N → Type 0
  Fits g = EachIs (ArgsOf B laws c cap spec a Nothing g)

  -- ---- an activation of function f
  module _ (bound : ℕ) (acalls : ℕ → List (Abs W N) → Answer (Abs W N)) (ccalls : ℕ → List Val → List Read → Outcome Val) (f : ℕ) (fun : Fun) (is : slice_get spec.funs f ≡ Some fun)
      (below : (h : ℕ) (s : Signature) (xs : List (Abs W N)) → ok.rank (group_of spec h) < ok.rank (group_of spec f) → slice_get (environment_of spec).funs h ≡ Some s → AreOf B c cap (environment_of spec) Nothing s.params xs
      → IsKept (Unit {0}) (IsOf B c cap (environment_of spec) Nothing s.result_type) [] (acalls h xs))
      (below_met : (h : ℕ) (s : Signature) (xs : List (Abs W N)) (ps : List Val) (m : List Read) → ok.rank (group_of spec h) < ok.rank (group_of spec f) → slice_get (environment_of spec).funs h ≡ Some s → AreOf B c cap (environment_of spec) Nothing s.params xs
      → AllStand B valuation true xs ps → IsMet true (IsTrue B.notes.stamped) (Stands B valuation true) [] m (acalls h xs) (ccalls h ps m)) where
    abbrev turn_on : GroupArgs W N → List Seen → Answer (Yield (GroupArgs W N) (Abs W N))
    turn_on = group_turn B c cap spec a acalls (group_of spec f)

    turns_kept : (args : GroupArgs W N) → Fits (group_of spec f) args → Keeping (Unit {0}) (IsYield B laws c cap spec a Nothing (group_of spec f) fun.result_type) (turn_on args)
    turns_kept = turn_gives B laws c cap spec a Nothing (keeps_nothing B c cap (environment_of spec) a) (λ x y h k. tt) room ok (Unit {0}) (Stop bound) acalls (all_fine B c cap (Stop bound)) f fun is below

    abbrev Met : List Seen → List Read → Answer (Abs W N) → Outcome Val → Type 0
    Met = IsMet true (IsTrue B.notes.stamped) (Stands B valuation true)

    module _ (leaves : Option (Abs W N)) (asked : DriverRequest (Abs W N)) (answer : Answer (Abs W N)) where
      -- what a turn and those after it come to, where the direct turn ended so
      abbrev Later : ℕ → List (Evaluated (GroupArgs W N) (Abs W N)) → ℕ → Type 0
      Later number rest left = (next : GroupArgs W N) (j : ℕ) (ps : List Val) (l : List Seen) (m : List Read) → number + left ≡ bound → AreTurns (moves B c cap) (Stop bound) leaves asked number next rest → leaves ≡ all_leaves (moves B c cap) (list_map (λ turn. turn.out) rest)
          → ComeTo f turn_on rest asked l answer → Fits (group_of spec f) next → HoldsFor B valuation true next j ps → Met l m answer (core_turns spec a ccalls f (suc left) j ps m)

      next_is : (y : Option (Yield (GroupArgs W N) (Abs W N))) (l : List Seen) (r : Answer (Yield (GroupArgs W N) (Abs W N))) → r ≡ gives y l → (from : List Seen) → IsKept (Unit {0}) (IsYield B laws c cap spec a Nothing (group_of spec f) fun.result_type) from r → IfSome (next_of y) (Fits (group_of spec f))
      next_is y l r e from h = at y (subst (IsKept (Unit {0}) (IsYield B laws c cap spec a Nothing (group_of spec f) fun.result_type) from) e h)
        where
          at : (y : Option (Yield (GroupArgs W N) (Abs W N))) → IsKept (Unit {0}) (IsYield B laws c cap spec a Nothing (group_of spec f) fun.result_type) from (gives y l) → IfSome (next_of y) (Fits (group_of spec f))
          at None h = tt
          at (Some y) h = h.0.next

      -- the direct turn ended with a value
      at_leaf : (turn : Evaluated (GroupArgs W N) (Abs W N)) (rest : List (Evaluated (GroupArgs W N) (Abs W N))) (number : ℕ) (args : GroupArgs W N) (y : Yield (GroupArgs W N) (Abs W N)) (v : Val) (l l1 : List Seen) (m m1 : List Read)
          → AreTurns (moves B c cap) (Stop bound) leaves asked number args (turn ∷ rest) → leaves ≡ all_leaves (moves B c cap) (list_map (λ turn. turn.out) (turn ∷ rest)) → turn.out ≡ y.out → turn.next ≡ y.next → ComeTo f turn_on rest asked l1 answer
          → LeafStands B valuation true y v → Follows (IsTrue B.notes.stamped) l m l1 m1 → IsGood (IsTrue B.notes.stamped) (Stands B valuation true) l m v m1 answer
      at_leaf turn [] number args y v l l1 m m1 are same out next come st follows = ended turn.next (next ∙ st.alone refl) are.1 turn.out out same come
        where
          good : (z : Option (Abs W N)) (r : Answer (Abs W N)) → IsSomeAnd z (λ x. Stands B valuation true x v) → r ≡ gives z l1 → IsGood (IsTrue B.notes.stamped) (Stands B valuation true) l m v m1 r
          good None r h e = absurd h
          good (Some x) r h e = subst (IsGood (IsTrue B.notes.stamped) (Stands B valuation true) l m v m1) (sym e) (h, follows)

          ended : (n : Option (GroupArgs W N)) → n ≡ None → Ends (moves B c cap) (Stop bound) number turn.args n leaves asked → (z : Option (Abs W N)) → z ≡ y.out → leaves ≡ join_leaves (moves B c cap) None z
              → EndsWith f asked l1 answer → IsGood (IsTrue B.notes.stamped) (Stands B valuation true) l m v m1 answer
          ended (Some next) e ends_ z out same come = absurd cc
          ended None e ends_ z out same come =
              let come_out : EndsWith f (Out leaves) l1 answer = subst (λ q. EndsWith f q l1 answer) ends_ come in
              let leaves_are : leaves ≡ y.out = same ∙ only_one z ∙ out in
              good y.out answer st.out (come_out ∙ ap (λ q. gives q l1) leaves_are)
            where
              only_one : (z : Option (Abs W N)) → join_leaves (moves B c cap) None z ≡ z
              only_one None = refl
              only_one (Some x) = refl
      at_leaf turn (later ∷ rest) number args y v l l1 m m1 are same out next come st follows = absurd (none_next turn.next (next ∙ st.alone refl) are.1)
        where
          none_next : (n : Option (GroupArgs W N)) → n ≡ None → IsSomeAnd n (λ n. FollowsRule (moves B c cap) (Stop bound) number turn.args n later.args) → ⊥
          none_next None e h = h
          none_next (Some n) e h = absurd cc

      -- the direct turn asked for another
      at_again : (turn : Evaluated (GroupArgs W N) (Abs W N)) (rest : List (Evaluated (GroupArgs W N) (Abs W N))) (number left : ℕ) (args : GroupArgs W N) (y : Yield (GroupArgs W N) (Abs W N)) (j : ℕ) (ps : List Val) (l1 : List Seen) (m1 : List Read)
          → number + left ≡ bound → AreTurns (moves B c cap) (Stop bound) leaves asked number args (turn ∷ rest) → leaves ≡ all_leaves (moves B c cap) (list_map (λ turn. turn.out) (turn ∷ rest)) → turn.out ≡ y.out → turn.next ≡ y.next → ComeTo f turn_on rest asked l1 answer
          → AskStands B valuation true y j ps → IfSome y.next (Fits (group_of spec f)) → ((later : ℕ) → Later (number + 1) rest later) → Met l1 m1 answer (core_turns spec a ccalls f left j ps m1)
      at_again turn [] number left args y j ps l1 m1 sum are same out next come st fits go = ended y.next next st.next are.1 left sum
        where
          ended : (n : Option (GroupArgs W N)) → turn.next ≡ n → IsSomeAnd n (λ gs. HoldsFor B valuation true gs j ps) → Ends (moves B c cap) (Stop bound) number turn.args turn.next leaves asked → (k : ℕ) → number + k ≡ bound → Met l1 m1 answer (core_turns spec a ccalls f k j ps m1)
          ended None e h ends_ k sum = absurd h
          ended (Some n) e h ends_ zero sum =
              let is_deep : (number ≡ bound) × (asked ≡ OutOfFuel) = subst (λ q. Ends (moves B c cap) (Stop bound) number turn.args q leaves asked) e ends_ in
              subst (λ q. EndsWith f q l1 answer) is_deep.1 come
          ended (Some n) e h ends_ (suc k) sum =
              let is_deep : (number ≡ bound) × (asked ≡ OutOfFuel) = subst (λ q. Ends (moves B c cap) (Stop bound) number turn.args q leaves asked) e ends_ in
              absurd (omega (arith, sum, is_deep.0))
      at_again turn (later ∷ rest) number left args y j ps l1 m1 sum are same out next come st fits go = goes y.next next st.next fits are.1 left sum
        where
          no_leaves : all_leaves (moves B c cap) (list_map (λ turn. turn.out) (turn ∷ (later ∷ rest))) ≡ all_leaves (moves B c cap) (list_map (λ turn. turn.out) (later ∷ rest))
          no_leaves = ap (λ z. fold (join_leaves (moves B c cap)) (join_leaves (moves B c cap) None z) (list_map (λ turn. turn.out) (later ∷ rest))) (out ∙ st.alone refl)

          goes : (n : Option (GroupArgs W N)) → turn.next ≡ n → IsSomeAnd n (λ gs. HoldsFor B valuation true gs j ps) → IfSome n (Fits (group_of spec f))
              → IsSomeAnd turn.next (λ n. FollowsRule (moves B c cap) (Stop bound) number turn.args n later.args) → (k : ℕ) → number + k ≡ bound → Met l1 m1 answer (core_turns spec a ccalls f k j ps m1)
          goes None e h fit rule k sum = absurd h
          goes (Some n) e h fit rule zero sum =
              let by_rule : (number < bound) × (later.args ≡ n) = subst (λ q. IsSomeAnd q (λ n. FollowsRule (moves B c cap) (Stop bound) number turn.args n later.args)) e rule in
              absurd (omega (arith, sum, by_rule.0))
          goes (Some n) e h fit rule (suc k) sum =
              let by_rule : (number < bound) × (later.args ≡ n) = subst (λ q. IsSomeAnd q (λ n. FollowsRule (moves B c cap) (Stop bound) number turn.args n later.args)) e rule in
              go k later.args j ps l1 m1 (omega (arith, sum)) are.2 (same ∙ no_leaves) come (subst (Fits (group_of spec f)) (sym by_rule.1) fit) (subst (λ z. HoldsFor B valuation true z j ps) (sym by_rule.1) h)

      -- one turn, and those after it
      link : (turn : Evaluated (GroupArgs W N) (Abs W N)) (rest : List (Evaluated (GroupArgs W N) (Abs W N))) (number left : ℕ) (args : GroupArgs W N) (l : List Seen) (m : List Read) (x : Outcome Ending) (r : Answer (Yield (GroupArgs W N) (Abs W N)))
          → number + left ≡ bound → AreTurns (moves B c cap) (Stop bound) leaves asked number args (turn ∷ rest) → leaves ≡ all_leaves (moves B c cap) (list_map (λ turn. turn.out) (turn ∷ rest))
          → Gave r turn (ComeTo f turn_on rest asked) answer → IsKept (Unit {0}) (IsYield B laws c cap spec a Nothing (group_of spec f) fun.result_type) l r → IsMet true (IsTrue B.notes.stamped) (YieldStands B valuation true) l m r x
          → ((later : ℕ) → Later (number + 1) rest later) → Met l m answer (x >>>> continued (core_turns spec a ccalls f left))
      link turn rest number left args l m (o.deep i) r sum are same gave kept h go = at r h gave
        where
          at : (r : Answer (Yield (GroupArgs W N) (Abs W N))) → r ≡ fails i → Gave r turn (ComeTo f turn_on rest asked) answer → answer ≡ fails i
          at (fails k) e g = let same_ : k ≡ i = cc in g.2 ∙ ap fails same_
          at (gives y l1) e g = absurd cc
      link turn rest number left args l m o.wrong r sum are same gave kept h go = tt
      link turn rest number left args l m (o.gives (leaf_end v) m1) (fails i) sum are same gave kept h go = absurd h
      link turn rest number left args l m (o.gives (leaf_end v) m1) (gives None l1) sum are same gave kept h go = absurd h
      link turn rest number left args l m (o.gives (leaf_end v) m1) (gives (Some y) l1) sum are same gave kept h go = at_leaf turn rest number args y v l l1 m m1 are same gave.0 gave.1 gave.2 h.0 h.1
      link turn rest number left args l m (o.gives (again j ps) m1) (fails i) sum are same gave kept h go = absurd h
      link turn rest number left args l m (o.gives (again j ps) m1) (gives None l1) sum are same gave kept h go = absurd h
      link turn rest number left args l m (o.gives (again j ps) m1) (gives (Some y) l1) sum are same gave kept h go =
          met_from (IsTrue B.notes.stamped) (Stands B valuation true) true l m l1 m1 answer (core_turns spec a ccalls f left j ps m1) h.1 (at_again turn rest number left args y j ps l1 m1 sum are same gave.0 gave.1 gave.2 h.0 kept.0.next go)

      chain : (turns : List (Evaluated (GroupArgs W N) (Abs W N))) (number left : ℕ) → Later number turns left
      chain [] number left args j ps l m sum are same come fits st = absurd are
      chain (turn ∷ rest) number left args j ps l m sum are same come fits st = by (slice_get spec.funs j) refl (λ later. chain rest (number + 1) later)
        where
          first : turn.args ≡ args
          first = first_is rest are
            where
              first_is : (rest : List (Evaluated (GroupArgs W N) (Abs W N))) → AreTurns (moves B c cap) (Stop bound) leaves asked number args (turn ∷ rest) → turn.args ≡ args
              first_is [] are = are.0
              first_is (later ∷ rest) are = are.0

          fit : Fits (group_of spec f) turn.args
          fit = subst (Fits (group_of spec f)) (sym first) fits

          by : (z : Option Fun) → slice_get spec.funs j ≡ z → ((later : ℕ) → Later (number + 1) rest later) → Met l m answer (core_or_wrong z (λ body. core_tail spec.maps (group_of spec) (group_of spec f) ccalls a ps body m) >>>> continued (core_turns spec a ccalls f left))
          by None e go = tt
          by (Some body) e go = link turn rest number left args l m _ (turn_on turn.args l) sum are same come (turns_kept turn.args fit l)
              (group_met B laws c cap spec a Nothing (keeps_nothing B c cap (environment_of spec) a) room ok.types (keys_fine spec ok) valuation true (inr (refl, single)) acalls ccalls ok.rank (group_of spec f) below below_met fun.result_type
              (λ h other d same. right_of B laws c cap spec a Nothing (keeps_nothing B c cap (environment_of spec) a) (λ x y h k. tt) room ok f fun is h other d same) j body turn.args ps l m e fit (subst (λ z. HoldsFor B valuation true z j ps) (sym first) st)) go

    pub activation_exact : (gs : GroupArgs W N) (answer : Answer (Abs W N)) → Fits (group_of spec f) gs → IsAnswer f turn_on (moves B c cap) (Stop bound) gs [] answer → 1 ≤ bound → (j : ℕ) (ps : List Val) (m : List Read) → HoldsFor B valuation true gs j ps
        → Met [] m answer (core_turns spec a ccalls f bound j ps m)
    activation_exact gs answer fits given some_turn j ps m st = by bound refl
      where
        by : (n : ℕ) → bound ≡ n → Met [] m answer (core_turns spec a ccalls f bound j ps m)
        by zero e = absurd (omega (arith, e, some_turn))
        by (suc n) e = subst (λ z. Met [] m answer (core_turns spec a ccalls f z j ps m)) (sym e)
            (chain (all_leaves (moves B c cap) (list_map (λ turn. turn.out) given.turns)) given.asked answer given.turns 1 n gs j ps [] m (omega (arith, e)) given.by_rule refl given.come_to fits st)

module _ {W N C : Type 0} (B : Algebra W N C) (laws : Laws W N C B) (c : C) (cap : ℕ) (spec : Spec) (a : ℕ) (valuation : List ℕ) (single : B.joins ≡ false) (room : HasRoom B cap) (ok : IsAccepted spec) (d : ℕ) (some_turn : 1 ≤ d)
    (calls : ℕ → List (Abs W N) → Answer (Abs W N)) (right : AreRight B c cap spec a (Stop d) calls) where
  kept_below : (n : ℕ) (h : ℕ) (s : Signature) (xs : List (Abs W N)) → ok.rank (group_of spec h) < n → slice_get (environment_of spec).funs h ≡ Some s → AreOf B c cap (environment_of spec) Nothing s.params xs
      → IsKept (Unit {0}) (IsOf B c cap (environment_of spec) Nothing s.result_type) [] (calls h xs)
  kept_below n = calls_kept B laws c cap spec a Nothing (keeps_nothing B c cap (environment_of spec) a) (λ x y h k. tt) room ok (Unit {0}) (Stop d) calls (all_fine B c cap (Stop d)) right n

  calls_met : (n f : ℕ) (fun : Fun) (xs : List (Abs W N)) (ps : List Val) (m : List Read) → slice_get spec.funs f ≡ Some fun → AreOf B c cap (environment_of spec) Nothing fun.params xs → AllStand B valuation true xs ps
      → IsMet true (IsTrue B.notes.stamped) (Stands B valuation true) [] m (calls f xs) (core_run spec a d n f ps m)
  calls_met zero f fun xs ps m e h st = tt
  calls_met (suc n) f fun xs ps m e h st =
      let are : AreOf B c cap (environment_of spec) Nothing (params_of spec f) xs = subst (λ ts. AreOf B c cap (environment_of spec) Nothing ts xs) (sym (ap params_in e)) h in
      let here = slice_get_within spec.funs f fun e in
      let answer = right.answered f xs here (record { typed = are_typed B c cap (environment_of spec) Nothing (params_of spec f) xs are; fit = are_fit B c cap (environment_of spec) Nothing (params_of spec f) xs are }) in
      activation_exact B laws c cap spec a valuation single room ok d calls (core_run spec a d n) f fun e (kept_below (ok.rank (group_of spec f)))
      (λ h s ys qs r lt e k sy. at_signature h s ys qs r (fun_of spec h s e) k sy (λ g ys qs r e k sy. calls_met n h g ys qs r e k sy))
      (only_of f xs) (calls f xs) (only_is (ArgsOf B laws c cap spec a Nothing (group_of spec f)) f xs (record { there = here; of_group = refl; are = are })) answer some_turn f ps m
      (record { holds = only_holds (λ xs. AllStand B valuation true xs ps) f xs st; alone = λ t. (xs, refl) })
    where
      at_signature : (h : ℕ) (s : Signature) (ys : List (Abs W N)) (qs : List Val) (r : List Read) → FunOf spec h s → AreOf B c cap (environment_of spec) Nothing s.params ys → AllStand B valuation true ys qs
          → ((g : Fun) (ys : List (Abs W N)) (qs : List Val) (r : List Read) → slice_get spec.funs h ≡ Some g → AreOf B c cap (environment_of spec) Nothing g.params ys → AllStand B valuation true ys qs
          → IsMet true (IsTrue B.notes.stamped) (Stands B valuation true) [] r (calls h ys) (core_run spec a d n h qs r))
          → IsMet true (IsTrue B.notes.stamped) (Stands B valuation true) [] r (calls h ys) (core_run spec a d n h qs r)
      at_signature h s ys qs r g k sy go = go g.fun ys qs r g.is (subst (λ ts. AreOf B c cap (environment_of spec) Nothing ts ys) (ap (λ z. z.params) (sym g.same)) k) sy

pub calls_are_the_meaning : {W N C : Type 0} (B : Algebra W N C) → Laws W N C B → CallsAreTheMeaning B
calls_are_the_meaning B laws spec c cap a d calls valuation n f fun xs vs m ok single room some_turn right e args alone typed h =
    let are = are_arguments B c cap Nothing spec f fun xs e args (each_nothing xs) in
    let met = calls_met B laws c cap spec a valuation single room ok d some_turn calls right n f fun xs vs m e are (all_stand B valuation true xs vs (λ t. alone) h) in
    exact_if (IsTrue B.notes.stamped) (Describes B valuation) [] m (calls f xs) (run spec a d n f vs m)
    (subst (IsMet true (IsTrue B.notes.stamped) (Describes B valuation) [] m (calls f xs)) (cores_mean_the_same spec a d n f fun vs m ok e typed) (met_describes B valuation true [] m (calls f xs) (core_run spec a d n f vs m) met))
