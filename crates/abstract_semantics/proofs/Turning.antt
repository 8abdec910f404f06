-- Turns meet those of the direct meaning.
use Rattle.std.proofs.Common.{◌≡◌, ℕ, zero, suc, ◌<◌, ◌⊎◌, inl, inr, Bool, true, false, cond, List, [], ◌∷◌, ◌++◌, Option, Some, None, slice_get, refl, sym, ap, subst, ◌∙◌, arith, IsTrue}
use Rattle.std.specs.Prelude.{◌==◌, IfSome}
use Rattle.std.proofs.lemmas.Bool.Decides.{nat_tests}
use Rattle.base_trait.specs.Algebra.{Algebra}
use Rattle.base_trait.specs.Laws.{Laws}
use Rattle.base_trait.specs.Uses.{Seen}
use Rattle.abstract_map_laws.specs.Laws.{HasRoom}
use Rattle.spec_match_compiler.specs.Values.{Place}
use Rattle.spec_ir.specs.declared.ty.Ty.{Ty}
use Rattle.spec_ir.specs.declared.ty.Ty.TheVariants.{Bool as Flag}
use Rattle.spec_ir.specs.CoreTerms as t
use Rattle.spec_ir.specs.CoreTerms.{Core, Cores}
use Rattle.spec_ir.specs.Environment.{Signature}
use Rattle.spec_ir.specs.Specification.{Spec, Fun}
use Rattle.spec_ir.specs.WellFormed.{IsWellFormed}
use Rattle.semantics_values.specs.Types.{environment_of}
use Rattle.semantics.specs.Direct.{group_of}
use Rattle.semantics_laws.specs.Places.{types_named}
use Rattle.semantics_laws.specs.CoreTypes.{HasCoreType, ArmHasType}
use Rattle.semantics_laws.specs.CoreCalls.{CallsBelow, CallsInOrder, AllCallInOrder}
use Rattle.abstract_value_laws.specs.Abs.{Abs, flag, made, map, word, parts}
use Rattle.abstract_value_laws.specs.Calls.{join_of}
use Rattle.abstract_value_laws.specs.Types.{have_types}
use Rattle.support_tail_fixpoint.specs.Groups.{EachIs, merge_each, only as only_of}
use Rattle.support_tail_fixpoint.specs.Answer.{Yield, gives}
use Rattle.abstract_semantics.specs.Answers.{Answer, Evaluation, behind, branch}
use Rattle.abstract_semantics.specs.Choices.{abs_named, arm_on, flag_there}
use Rattle.abstract_semantics.specs.Terms.{GroupArgs, asked_with, asks, bodies, body_turn, called, group_turn, join_yields, leaf_of, merge_all, params_in, params_of, turn_arm, turn_of, value_of, values_of}
use Rattle.abstract_semantics.proofs.Kept.{IsKept, Keeping, behind_kept, nothing}
use Rattle.abstract_semantics.proofs.Typed.{IsOf, AreOf, are_append, are_typed}
use Rattle.abstract_semantics.proofs.Stepped.{Invariant}
use Rattle.abstract_semantics.proofs.Chosen.{named_kept}
use Rattle.base_trait.specs.Uses.{Read}
use Rattle.spec_match_compiler.specs.Picks.{Choice, picks}
use Rattle.spec_match_compiler.specs.Decisions.{Decision}
use Rattle.semantics_laws.specs.CoreTypes.{Decides}
use Rattle.semantics.specs.Outcomes as o
use Rattle.semantics.specs.Outcomes.{Outcome, ◌>>=◌ as ◌>>>>◌}
use Rattle.semantics.specs.Steps.{shown}
use Rattle.semantics_laws.specs.Places.{vals_named}
use Rattle.semantics_laws.specs.CoreDirect.{arm_picked, core_value, core_values, with_named}
use Rattle.semantics_values.specs.Values as v
use Rattle.semantics_values.specs.Values.{Val, vals}
use Rattle.abstract_semantics.specs.Choices.{decided}
use Rattle.abstract_semantics.proofs.Termed.{KeysAreFine, value_kept, values_kept}
use Rattle.abstract_semantics.proofs.Meeting.{IsMet, MayFail, behind_met, bind_met, branch_met, follows_itself}
use Rattle.abstract_semantics.proofs.Standing.{AllStand, Stands, named_stand, stand_append}
use Rattle.abstract_semantics.proofs.Deciding.{Mode, decided_met, flag_single, row_picked}
use Rattle.std.specs.Prelude.{IsSomeAnd}
use Rattle.std.proofs.lemmas.Option.{same_Some as some_same}
use Rattle.semantics.specs.Tails.{Ending, again, ends, leaf as leaf_end}
use Rattle.semantics_laws.proofs.Turns.{fun_of}
use Rattle.semantics_laws.specs.CoreDirect.{called as core_called, core_tail, core_tail_arm}
use Rattle.support_tail_fixpoint.specs.Groups.{held}
use Rattle.support_tail_fixpoint.proofs.Groups.{each_left, each_right, only_holds}
use Rattle.support_tail_fixpoint.proofs.Somes.{some_left, some_right}
use Rattle.abstract_semantics.proofs.Termed.{ArgsOf, IsYield, yields_joined}
use Rattle.abstract_semantics.proofs.Turned.{bodies_kept, body_kept, turn_arm_kept, turn_kept}
use Rattle.abstract_semantics.proofs.Meeting.{Has, IsOne, joined_met}
use Rattle.abstract_semantics.proofs.Evaluating.{join_left, join_right, value_met, values_met}

module _ {W N C : Type 0} (B : Algebra W N C) (valuation : List ℕ) (exact : Bool) where
  -- Group arguments hold what stands for the arguments of function f; where all is exact, that alone.
  pub record HoldsFor (gs : GroupArgs W N) (f : ℕ) (ps : List Val) : Type 0 where
    pub holds : IsSomeAnd (held gs f) (λ xs. AllStand B valuation exact xs ps)
    pub alone : IsTrue exact → (xs : List (Abs W N)) × (gs ≡ only_of f xs)

  -- what a turn gives stands for where the direct turn ends
  pub record LeafStands (y : Yield (GroupArgs W N) (Abs W N)) (n : Val) : Type 0 where
    pub out : IsSomeAnd y.out (λ x. Stands B valuation exact x n)
    pub alone : IsTrue exact → y.next ≡ None

  pub record AskStands (y : Yield (GroupArgs W N) (Abs W N)) (f : ℕ) (ps : List Val) : Type 0 where
    pub next : IsSomeAnd y.next (λ gs. HoldsFor gs f ps)
    pub alone : IsTrue exact → y.out ≡ None

  abbrev pub YieldStands : Yield (GroupArgs W N) (Abs W N) → Ending → Type 0
  YieldStands y (leaf_end n) = LeafStands y n
  YieldStands y (again f ps) = AskStands y f ps

module _ {W N C : Type 0} (B : Algebra W N C) (laws : Laws W N C B) (c : C) (cap : ℕ) (spec : Spec) (a : ℕ) (P : Abs W N → Type 0) (inv : Invariant B c cap (environment_of spec) a P)
    (room : HasRoom B cap) (formed : IsWellFormed (environment_of spec)) (keys_fine : KeysAreFine (environment_of spec)) (valuation : List ℕ) (exact : Bool) (mode : Mode B exact) where
  never : {Q : Type 0} → exact ≡ false → IsTrue exact → Q
  never e t = absurd (let h : true ≡ false = sym t ∙ e in cc)

  lists_left : exact ≡ false → (ts : List Ty) (xs ys : List (Abs W N)) (ps : List Val) → AreOf B c cap (environment_of spec) P ts xs → AreOf B c cap (environment_of spec) P ts ys → AllStand B valuation exact xs ps → AllStand B valuation exact (merge_all (join_of B c cap) xs ys) ps
  lists_left e [] [] [] ps h k st = st
  lists_left e [] [] (y ∷ ys) ps h k st = absurd k
  lists_left e [] (x ∷ xs) ys ps h k st = absurd h
  lists_left e (t ∷ ts) [] ys ps h k st = absurd h
  lists_left e (t ∷ ts) (x ∷ xs) [] ps h k st = absurd k
  lists_left e (t ∷ ts) (x ∷ xs) (y ∷ ys) [] h k st = absurd st
  lists_left e (t ∷ ts) (x ∷ xs) (y ∷ ys) (p ∷ ps) h k st = (join_left B laws c cap spec a P inv room formed keys_fine valuation exact mode e t x y p h.0 k.0 st.0, lists_left e ts xs ys ps h.1 k.1 st.1)

  lists_right : exact ≡ false → (ts : List Ty) (xs ys : List (Abs W N)) (ps : List Val) → AreOf B c cap (environment_of spec) P ts xs → AreOf B c cap (environment_of spec) P ts ys → AllStand B valuation exact ys ps → AllStand B valuation exact (merge_all (join_of B c cap) xs ys) ps
  lists_right e [] [] [] ps h k st = st
  lists_right e [] [] (y ∷ ys) ps h k st = absurd k
  lists_right e [] (x ∷ xs) ys ps h k st = absurd h
  lists_right e (t ∷ ts) [] ys ps h k st = absurd h
  lists_right e (t ∷ ts) (x ∷ xs) [] ps h k st = absurd k
  lists_right e (t ∷ ts) (x ∷ xs) (y ∷ ys) [] h k st = absurd st
  lists_right e (t ∷ ts) (x ∷ xs) (y ∷ ys) (p ∷ ps) h k st = (join_right B laws c cap spec a P inv room formed keys_fine valuation exact mode e t x y p h.0 k.0 st.0, lists_right e ts xs ys ps h.1 k.1 st.1)

  held_left : exact ≡ false → (g f : ℕ) (ps : List Val) (xs ys : GroupArgs W N) → EachIs (ArgsOf B laws c cap spec a P g) xs → EachIs (ArgsOf B laws c cap spec a P g) ys → HoldsFor B valuation exact xs f ps → HoldsFor B valuation exact (merge_each (merge_all (join_of B c cap)) xs ys) f ps
  held_left e g f ps xs ys hx hy st = record {
    holds = each_left (ArgsOf B laws c cap spec a P g) (λ xs. AllStand B valuation exact xs ps) (merge_all (join_of B c cap)) f xs ys (λ i xs ys h k st. lists_left e (params_of spec i) xs ys ps h.are k.are st) hx hy st.holds;
    alone = λ t. never e t;
  }

  held_right : exact ≡ false → (g f : ℕ) (ps : List Val) (xs ys : GroupArgs W N) → EachIs (ArgsOf B laws c cap spec a P g) xs → EachIs (ArgsOf B laws c cap spec a P g) ys → HoldsFor B valuation exact ys f ps → HoldsFor B valuation exact (merge_each (merge_all (join_of B c cap)) xs ys) f ps
  held_right e g f ps xs ys hx hy st = record {
    holds = each_right (ArgsOf B laws c cap spec a P g) (λ xs. AllStand B valuation exact xs ps) (merge_all (join_of B c cap)) f xs ys (λ i xs ys h k st. lists_right e (params_of spec i) xs ys ps h.are k.are st) hx hy st.holds;
    alone = λ t. never e t;
  }

  yield_left : exact ≡ false → (g : ℕ) (ty : Ty) (y z : Yield (GroupArgs W N) (Abs W N)) (n : Ending) → IsYield B laws c cap spec a P g ty y → IsYield B laws c cap spec a P g ty z → YieldStands B valuation exact y n → YieldStands B valuation exact (join_yields B c cap spec a y z) n
  yield_left e g ty y z (leaf_end n) hy hz st = record {
    out = some_left (IsOf B c cap (environment_of spec) P ty) (λ x. Stands B valuation exact x n) (join_of B c cap) (λ x y. join_left B laws c cap spec a P inv room formed keys_fine valuation exact mode e ty x y n) y.out z.out hy.out hz.out st.out;
    alone = λ t. never e t;
  }
  yield_left e g ty y z (again f ps) hy hz st = record {
    next = some_left (EachIs (ArgsOf B laws c cap spec a P g)) (λ gs. HoldsFor B valuation exact gs f ps) (merge_each (merge_all (join_of B c cap))) (λ xs ys. held_left e g f ps xs ys) y.next z.next hy.next hz.next st.next;
    alone = λ t. never e t;
  }

  yield_right : exact ≡ false → (g : ℕ) (ty : Ty) (y z : Yield (GroupArgs W N) (Abs W N)) (n : Ending) → IsYield B laws c cap spec a P g ty y → IsYield B laws c cap spec a P g ty z → YieldStands B valuation exact z n → YieldStands B valuation exact (join_yields B c cap spec a y z) n
  yield_right e g ty y z (leaf_end n) hy hz st = record {
    out = some_right (IsOf B c cap (environment_of spec) P ty) (λ x. Stands B valuation exact x n) (join_of B c cap) (λ x y. join_right B laws c cap spec a P inv room formed keys_fine valuation exact mode e ty x y n) y.out z.out hy.out hz.out st.out;
    alone = λ t. never e t;
  }
  yield_right e g ty y z (again f ps) hy hz st = record {
    next = some_right (EachIs (ArgsOf B laws c cap spec a P g)) (λ gs. HoldsFor B valuation exact gs f ps) (merge_each (merge_all (join_of B c cap))) (λ xs ys. held_right e g f ps xs ys) y.next z.next hy.next hz.next st.next;
    alone = λ t. never e t;
  }

  module _ (acalls : ℕ → List (Abs W N) → Answer (Abs W N)) (ccalls : ℕ → List Val → List Read → Outcome Val) (rank : ℕ → ℕ) (g : ℕ)
      (below : (f : ℕ) (s : Signature) (xs : List (Abs W N)) → rank (group_of spec f) < rank g → slice_get (environment_of spec).funs f ≡ Some s → AreOf B c cap (environment_of spec) P s.params xs
      → IsKept (MayFail exact) (IsOf B c cap (environment_of spec) P s.result_type) [] (acalls f xs))
      (below_met : (f : ℕ) (s : Signature) (xs : List (Abs W N)) (ps : List Val) (m : List Read) → rank (group_of spec f) < rank g → slice_get (environment_of spec).funs f ≡ Some s → AreOf B c cap (environment_of spec) P s.params xs
      → AllStand B valuation exact xs ps → IsMet exact (IsTrue B.notes.stamped) (Stands B valuation exact) [] m (acalls f xs) (ccalls f ps m)) (ty : Ty) where
    abbrev TurnMet : List Seen → List Read → Answer (Yield (GroupArgs W N) (Abs W N)) → Outcome Ending → Type 0
    TurnMet = IsMet exact (IsTrue B.notes.stamped) (YieldStands B valuation exact)

    abbrev Yields : Yield (GroupArgs W N) (Abs W N) → Type 0
    Yields = IsYield B laws c cap spec a P g ty

    joins_kept : (y z : Yield (GroupArgs W N) (Abs W N)) → IsYield B laws c cap spec a P g ty y → IsYield B laws c cap spec a P g ty z → IsYield B laws c cap spec a P g ty (join_yields B c cap spec a y z)
    joins_kept = yields_joined B laws c cap spec a P inv room formed keys_fine g ty

    leaf_met : (l : List Seen) (m : List Read) (r : Answer (Abs W N)) (x : Outcome Val) (s : Ty) → IsKept (MayFail exact) (IsOf B c cap (environment_of spec) P s) l r → IsMet exact (IsTrue B.notes.stamped) (Stands B valuation exact) l m r x
        → IsMet exact (IsTrue B.notes.stamped) (YieldStands B valuation exact) l m (leaf_of B c cap spec a acalls r) (x >>>> ends)
    leaf_met l m r x s h d = bind_met _ exact (MayFail exact) (IsOf B c cap (environment_of spec) P s) (Stands B valuation exact) (YieldStands B valuation exact) l m r x _ ends h d (λ x n l m hx sx. (record { out = sx; alone = λ t. refl }, follows_itself _ l m))

    asked_met : (f : ℕ) (s : Signature) (xs : List (Abs W N)) (ps : List Val) (l : List Seen) (m : List Read) → slice_get (environment_of spec).funs f ≡ Some s → AreOf B c cap (environment_of spec) P s.params xs → AllStand B valuation exact xs ps
        → IsMet exact (IsTrue B.notes.stamped) (YieldStands B valuation exact) l m (gives (asked_with spec f xs) l) (o.gives (again f ps) m)
    asked_met f s xs ps l m e h st =
        let fun = fun_of spec f s e in
        let params : s.params ≡ params_of spec f = ap (λ z. z.params) (sym fun.same) ∙ sym (ap params_in fun.is) in
        let typed : have_types (environment_of spec) (parts xs) (params_of spec f) ≡ true = are_typed B c cap (environment_of spec) P (params_of spec f) xs (subst (λ ts. AreOf B c cap (environment_of spec) P ts xs) params h) in
        let asked : asked_with spec f xs ≡ Some (asks f xs) = rw typed refl in
        subst (λ z. IsMet exact (IsTrue B.notes.stamped) (YieldStands B valuation exact) l m (gives z l) (o.gives (again f ps) m)) (sym asked)
        (record { next = record { holds = only_holds (λ xs. AllStand B valuation exact xs ps) f xs st; alone = λ t. (xs, refl) }; alone = λ t. refl }, follows_itself _ l m)

    call_met : (f : ℕ) (s : Signature) (xs : List (Abs W N)) (ps : List Val) (l : List Seen) (m : List Read) → (group_of spec f ≡ g) ⊎ (rank (group_of spec f) < rank g) → slice_get (environment_of spec).funs f ≡ Some s
        → AreOf B c cap (environment_of spec) P s.params xs → AllStand B valuation exact xs ps
        → IsMet exact (IsTrue B.notes.stamped) (YieldStands B valuation exact) l m (called B c cap spec a acalls g f xs l) (core_called spec.maps (group_of spec) g ccalls a f ps m)
    call_met f s xs ps l m order e h st = at (group_of spec f == g) refl order
      where
        at : (b : Bool) → (group_of spec f == g) ≡ b → (group_of spec f ≡ g) ⊎ (rank (group_of spec f) < rank g)
            → IsMet exact (IsTrue B.notes.stamped) (YieldStands B valuation exact) l m (cond b (gives (asked_with spec f xs) l) (leaf_of B c cap spec a acalls (behind l (acalls f xs)))) (cond b (o.gives (again f ps) m) (ccalls f ps m >>>> ends))
        at true is order = asked_met f s xs ps l m e h st
        at false is (inl same) = absurd (grind (arith, nat_tests))
        at false is (inr lt) = leaf_met l m (behind l (acalls f xs)) (ccalls f ps m) s.result_type (behind_kept (MayFail exact) _ l (acalls f xs) (below f s xs lt e h)) (behind_met _ _ exact l m (acalls f xs) (ccalls f ps m) (below_met f s xs ps m lt e h st))

    as_leaf : (x : Core) (vars : List Ty) (env : List (Abs W N)) (cenv : List Val) (l : List Seen) (m : List Read) → AreOf B c cap (environment_of spec) P vars env → AllStand B valuation exact env cenv → HasCoreType (environment_of spec) vars x ty → CallsBelow (group_of spec) rank g x
        → IsMet exact (IsTrue B.notes.stamped) (YieldStands B valuation exact) l m (leaf_of B c cap spec a acalls (value_of B c cap spec a acalls env x l)) (core_value spec.maps (group_of spec) g ccalls a cenv x m >>>> ends)
    as_leaf x vars env cenv l m h st ok b = leaf_met l m (value_of B c cap spec a acalls env x l) (core_value spec.maps (group_of spec) g ccalls a cenv x m) ty
        (value_kept B laws c cap spec a P inv room formed keys_fine (MayFail exact) acalls rank g below x vars env ty l h ok b)
        (value_met B laws c cap spec a P inv room formed keys_fine valuation exact mode acalls ccalls rank g below below_met x vars env cenv ty l m h st ok b)

    condition_met : (p : Abs W N) (n : Val) (f q : Evaluation (Yield (GroupArgs W N) (Abs W N))) (x y : Outcome Ending) (l : List Seen) (m : List Read) → Keeping (MayFail exact) (IsYield B laws c cap spec a P g ty) f → Keeping (MayFail exact) (IsYield B laws c cap spec a P g ty) q
        → Stands B valuation exact p n → ((l : List Seen) → IsMet exact (IsTrue B.notes.stamped) (YieldStands B valuation exact) l m (f l) x) → ((l : List Seen) → IsMet exact (IsTrue B.notes.stamped) (YieldStands B valuation exact) l m (q l) y)
        → IsMet exact (IsTrue B.notes.stamped) (YieldStands B valuation exact) l m (branch (join_yields B c cap spec a) (flag_there (Some p)) f q l) (o.branch n x y)
    condition_met (flag z) (v.flag true) f q x y l m kf kq st hf hq = branch_met _ (IsYield B laws c cap spec a P g ty) (YieldStands B valuation exact) (join_yields B c cap spec a) joins_kept exact (λ e. yield_left e g ty) (λ e. yield_right e g ty)
        z true f q x l m kf kq st.describes (flag_single B laws c cap (environment_of spec) a P inv valuation exact mode z st.single) hf
    condition_met (flag z) (v.flag false) f q x y l m kf kq st hf hq = branch_met _ (IsYield B laws c cap spec a P g ty) (YieldStands B valuation exact) (join_yields B c cap spec a) joins_kept exact (λ e. yield_left e g ty) (λ e. yield_right e g ty)
        z false f q y l m kf kq st.describes (flag_single B laws c cap (environment_of spec) a P inv valuation exact mode z st.single) hq
    condition_met p (v.word w n) f q x y l m kf kq st hf hq = tt
    condition_met p (v.made i k ps) f q x y l m kf kq st hf hq = tt
    condition_met p (v.map i rest cells) f q x y l m kf kq st hf hq = tt
    condition_met (word w z) (v.flag b) f q x y l m kf kq st hf hq = absurd st.describes
    condition_met (made i cs) (v.flag b) f q x y l m kf kq st hf hq = absurd st.describes
    condition_met (map i z) (v.flag b) f q x y l m kf kq st hf hq = absurd st.describes

    abbrev RowHas : List Ty → Cores → Ty → ℕ → List (ℕ × Place) → Type 0
    RowHas vars arms from r binds = (more : List Ty) × (types_named (environment_of spec) from binds ≡ Some more) × ArmHasType (environment_of spec) vars arms r more ty

    arm_given : (x : Option (List (Abs W N))) (arm : List (Abs W N) → Evaluation (Yield (GroupArgs W N) (Abs W N))) (more : List Ty) (l : List Seen) → IfSome x (AreOf B c cap (environment_of spec) P more)
        → ((vs : List (Abs W N)) → AreOf B c cap (environment_of spec) P more vs → IsKept (MayFail exact) (IsYield B laws c cap spec a P g ty) l (arm vs l)) → IsKept (MayFail exact) (IsYield B laws c cap spec a P g ty) l (arm_on arm x l)
    arm_given None arm more l h go = nothing (MayFail exact) (IsYield B laws c cap spec a P g ty) l
    arm_given (Some vs) arm more l h go = go vs h

    chosen_met : (p : Abs W N) (n : Val) (by_ : Decision) (arms : Cores) (vars : List Ty) (env : List (Abs W N)) (cenv : List Val) (from : Ty) (l : List Seen) (m : List Read) → IsOf B c cap (environment_of spec) P from p → Stands B valuation exact p n
        → AreOf B c cap (environment_of spec) P vars env → Decides (environment_of spec) (RowHas vars arms from) from by_ → AllCallInOrder (group_of spec) rank g arms
        → ((choice : Choice) (row : RowHas vars arms from choice.0 choice.1) (vs : List Val) (xs : List (Abs W N)) (l : List Seen) → AreOf B c cap (environment_of spec) P row.0 xs → AllStand B valuation exact xs vs
        → IsMet exact (IsTrue B.notes.stamped) (YieldStands B valuation exact) l m (turn_arm B c cap spec a acalls g env arms choice.0 xs l) (core_tail_arm spec.maps (group_of spec) g ccalls a cenv arms choice.0 vs m))
        → IsMet exact (IsTrue B.notes.stamped) (YieldStands B valuation exact) l m (decided B c (join_yields B c cap spec a) (λ r vs m. turn_arm B c cap spec a acalls g env arms r vs m) p by_ l)
        (arm_picked (λ r vs. core_tail_arm spec.maps (group_of spec) g ccalls a cenv arms r vs m) n (picks by_ (shown n)))
    chosen_met p n by_ arms vars env cenv from l m hp sp h decides b go = at (picks by_ (shown n)) refl
      where
        rows_kept : (r : ℕ) (binds : List (ℕ × Place)) → RowHas vars arms from r binds → Keeping (MayFail exact) (IsYield B laws c cap spec a P g ty) (arm_on (λ vs m. turn_arm B c cap spec a acalls g env arms r vs m) (abs_named p binds))
        rows_kept r binds row l = arm_given (abs_named p binds) (λ vs m. turn_arm B c cap spec a acalls g env arms r vs m) row.0 l (named_kept B c cap (environment_of spec) a P inv p from binds row.0 hp row.1)
            (λ vs hvs. turn_arm_kept B laws c cap spec a P inv room formed keys_fine (MayFail exact) acalls rank g below ty arms r vars env row.0 vs l h hvs row.2 b)

        named_are : (choice : Choice) (row : RowHas vars arms from choice.0 choice.1) (xs : List (Abs W N)) → abs_named p choice.1 ≡ Some xs → AreOf B c cap (environment_of spec) P row.0 xs
        named_are choice row xs e = some_is (abs_named p choice.1) e (named_kept B c cap (environment_of spec) a P inv p from choice.1 row.0 hp row.1)
          where
            some_is : (z : Option (List (Abs W N))) → z ≡ Some xs → IfSome z (AreOf B c cap (environment_of spec) P row.0) → AreOf B c cap (environment_of spec) P row.0 xs
            some_is None e k = absurd cc
            some_is (Some ys) e k = let same : ys ≡ xs = some_same ys xs e in subst (AreOf B c cap (environment_of spec) P row.0) same k

        with_values : (choice : Choice) → picks by_ (shown n) ≡ Some choice → (z : Option (List Val)) → vals_named n choice.1 ≡ z
            → IsMet exact (IsTrue B.notes.stamped) (YieldStands B valuation exact) l m (decided B c (join_yields B c cap spec a) (λ r vs m. turn_arm B c cap spec a acalls g env arms r vs m) p by_ l) (with_named (λ vs. core_tail_arm spec.maps (group_of spec) g ccalls a cenv arms choice.0 vs m) z)
        with_values choice e None f = tt
        with_values choice e (Some vs) f =
            let row = row_picked (environment_of spec) (RowHas vars arms from) from (shown n) choice by_ decides e in
            let named = named_stand B valuation exact p n choice.1 vs sp f in
            decided_met B laws c cap (environment_of spec) a P inv valuation exact mode (IsTrue B.notes.stamped) (IsYield B laws c cap spec a P g ty) (YieldStands B valuation exact) (join_yields B c cap spec a) joins_kept
            (λ e. yield_left e g ty) (λ e. yield_right e g ty) (λ r vs m. turn_arm B c cap spec a acalls g env arms r vs m) p n from hp sp (RowHas vars arms from) rows_kept m choice (core_tail_arm spec.maps (group_of spec) g ccalls a cenv arms choice.0 vs m)
            (λ l. subst (λ z. IsMet exact (IsTrue B.notes.stamped) (YieldStands B valuation exact) l m (arm_on (λ vs m. turn_arm B c cap spec a acalls g env arms choice.0 vs m) z l) (core_tail_arm spec.maps (group_of spec) g ccalls a cenv arms choice.0 vs m)) (sym named.is)
            (go choice row vs named.values l (named_are choice row named.values named.is) named.stand)) by_ decides e l

        at : (z : Option Choice) → picks by_ (shown n) ≡ z → IsMet exact (IsTrue B.notes.stamped) (YieldStands B valuation exact) l m (decided B c (join_yields B c cap spec a) (λ r vs m. turn_arm B c cap spec a acalls g env arms r vs m) p by_ l)
            (arm_picked (λ r vs. core_tail_arm spec.maps (group_of spec) g ccalls a cenv arms r vs m) n z)
        at None e = tt
        at (Some choice) e = with_values choice e (vals_named n choice.1) refl

    abbrev kept_turn : (x : Core) (vars : List Ty) (env : List (Abs W N)) (l : List Seen) → AreOf B c cap (environment_of spec) P vars env → HasCoreType (environment_of spec) vars x ty → CallsInOrder (group_of spec) rank g x → IsKept (MayFail exact) (IsYield B laws c cap spec a P g ty) l (turn_of B c cap spec a acalls g env x l)
    kept_turn = turn_kept B laws c cap spec a P inv room formed keys_fine (MayFail exact) acalls rank g below ty

    abbrev kept_value : (x : Core) (vars : List Ty) (env : List (Abs W N)) (s : Ty) (l : List Seen) → AreOf B c cap (environment_of spec) P vars env → HasCoreType (environment_of spec) vars x s → CallsBelow (group_of spec) rank g x → IsKept (MayFail exact) (IsOf B c cap (environment_of spec) P s) l (value_of B c cap spec a acalls env x l)
    kept_value = value_kept B laws c cap spec a P inv room formed keys_fine (MayFail exact) acalls rank g below

    abbrev met_value : (x : Core) (vars : List Ty) (env : List (Abs W N)) (cenv : List Val) (s : Ty) (l : List Seen) (m : List Read) → AreOf B c cap (environment_of spec) P vars env → AllStand B valuation exact env cenv → HasCoreType (environment_of spec) vars x s → CallsBelow (group_of spec) rank g x
        → IsMet exact (IsTrue B.notes.stamped) (Stands B valuation exact) l m (value_of B c cap spec a acalls env x l) (core_value spec.maps (group_of spec) g ccalls a cenv x m)
    met_value = value_met B laws c cap spec a P inv room formed keys_fine valuation exact mode acalls ccalls rank g below below_met

    mutual
      pub turn_met : (x : Core) (vars : List Ty) (env : List (Abs W N)) (cenv : List Val) (l : List Seen) (m : List Read) → AreOf B c cap (environment_of spec) P vars env → AllStand B valuation exact env cenv → HasCoreType (environment_of spec) vars x ty → CallsInOrder (group_of spec) rank g x
          → IsMet exact (IsTrue B.notes.stamped) (YieldStands B valuation exact) l m (turn_of B c cap spec a acalls g env x l) (core_tail spec.maps (group_of spec) g ccalls a cenv x m)
      turn_met (t.let_in x y) vars env cenv l m h st ok b =
          bind_met _ exact _ _ _ _ l m (value_of B c cap spec a acalls env x l) (core_value spec.maps (group_of spec) g ccalls a cenv x m) _ _ (kept_value x vars env ok.0 l h ok.1 b.0) (met_value x vars env cenv ok.0 l m h st ok.1 b.0) (λ p n l m hp sp.
          turn_met y (vars ++ ok.0 ∷ []) (env ++ p ∷ []) (cenv ++ n ∷ []) l m (are_append B c cap (environment_of spec) P vars (ok.0 ∷ []) env (p ∷ []) h (hp, tt)) (stand_append B valuation exact env (p ∷ []) cenv (n ∷ []) st (sp, tt)) ok.2 b.1)
      turn_met (t.if_else k x y) vars env cenv l m h st ok b =
          bind_met _ exact _ _ _ _ l m (value_of B c cap spec a acalls env k l) (core_value spec.maps (group_of spec) g ccalls a cenv k m) _ _ (kept_value k vars env Flag l h ok.0 b.0) (met_value k vars env cenv Flag l m h st ok.0 b.0) (λ p n l m hp sp.
          condition_met p n (turn_of B c cap spec a acalls g env x) (turn_of B c cap spec a acalls g env y) (core_tail spec.maps (group_of spec) g ccalls a cenv x m) (core_tail spec.maps (group_of spec) g ccalls a cenv y m) l m
          (λ l. kept_turn x vars env l h ok.1 b.1) (λ l. kept_turn y vars env l h ok.2 b.2) sp (λ l. turn_met x vars env cenv l m h st ok.1 b.1) (λ l. turn_met y vars env cenv l m h st ok.2 b.2))
      turn_met (t.choose x by_ arms) vars env cenv l m h st ok b =
          bind_met _ exact _ _ _ _ l m (value_of B c cap spec a acalls env x l) (core_value spec.maps (group_of spec) g ccalls a cenv x m) _ _ (kept_value x vars env ok.0 l h ok.1 b.0) (met_value x vars env cenv ok.0 l m h st ok.1 b.0) (λ p n l m hp sp.
          chosen_met p n by_ arms vars env cenv ok.0 l m hp sp h ok.2 b.1 (λ choice row vs xs l hvs svs. turn_arm_met arms choice.0 vars env cenv row.0 xs vs l m h st hvs svs row.2 b.1))
      turn_met (t.call f args) vars env cenv l m h st ok b =
          bind_met _ exact _ _ _ _ l m (values_of B c cap spec a acalls env args l) (core_values spec.maps (group_of spec) g ccalls a cenv args m) _ _ (values_kept B laws c cap spec a P inv room formed keys_fine (MayFail exact) acalls rank g below args vars env ok.0.params l h ok.2 b.1)
          (values_met B laws c cap spec a P inv room formed keys_fine valuation exact mode acalls ccalls rank g below below_met args vars env cenv ok.0.params l m h st ok.2 b.1) (λ xs ps l m hxs sxs.
          call_met f ok.0 xs ps l m b.0 ok.1 hxs sxs)
      turn_met (t.var n) vars env cenv l m h st ok b = as_leaf (t.var n) vars env cenv l m h st ok b
      turn_met (t.flag q) vars env cenv l m h st ok b = as_leaf (t.flag q) vars env cenv l m h st ok b
      turn_met (t.word w n) vars env cenv l m h st ok b = as_leaf (t.word w n) vars env cenv l m h st ok b
      turn_met (t.un op w x) vars env cenv l m h st ok b = as_leaf (t.un op w x) vars env cenv l m h st ok b
      turn_met (t.bin op w x y) vars env cenv l m h st ok b = as_leaf (t.bin op w x y) vars env cenv l m h st ok b
      turn_met (t.test k w x y) vars env cenv l m h st ok b = as_leaf (t.test k w x y) vars env cenv l m h st ok b
      turn_met (t.cast kind from to x) vars env cenv l m h st ok b = as_leaf (t.cast kind from to x) vars env cenv l m h st ok b
      turn_met (t.make d k args) vars env cenv l m h st ok b = as_leaf (t.make d k args) vars env cenv l m h st ok b
      turn_met (t.get i x k) vars env cenv l m h st ok b = as_leaf (t.get i x k) vars env cenv l m h st ok b
      turn_met (t.put i x k y) vars env cenv l m h st ok b = as_leaf (t.put i x k y) vars env cenv l m h st ok b

      turn_arm_met : (ts : Cores) (r : ℕ) (vars : List Ty) (env : List (Abs W N)) (cenv : List Val) (more : List Ty) (xs : List (Abs W N)) (vs : List Val) (l : List Seen) (m : List Read) → AreOf B c cap (environment_of spec) P vars env → AllStand B valuation exact env cenv
          → AreOf B c cap (environment_of spec) P more xs → AllStand B valuation exact xs vs → ArmHasType (environment_of spec) vars ts r more ty → AllCallInOrder (group_of spec) rank g ts
          → IsMet exact (IsTrue B.notes.stamped) (YieldStands B valuation exact) l m (turn_arm B c cap spec a acalls g env ts r xs l) (core_tail_arm spec.maps (group_of spec) g ccalls a cenv ts r vs m)
      turn_arm_met t.no_core r vars env cenv more xs vs l m h st hx sx ok b = absurd ok
      turn_arm_met (t.core_then x rest) zero vars env cenv more xs vs l m h st hx sx ok b =
          turn_met x (vars ++ more) (env ++ xs) (cenv ++ vs) l m (are_append B c cap (environment_of spec) P vars more env xs h hx) (stand_append B valuation exact env xs cenv vs st sx) ok b.0
      turn_arm_met (t.core_then x rest) (suc r) vars env cenv more xs vs l m h st hx sx ok b = turn_arm_met rest r vars env cenv more xs vs l m h st hx sx ok b.1

    -- ---- the bodies of a group
    module _ (right : (f : ℕ) (fun : Fun) → slice_get spec.funs f ≡ Some fun → group_of spec f ≡ g → HasCoreType (environment_of spec) fun.params fun.core ty × CallsInOrder (group_of spec) rank g fun.core) where
      one_body : (on : ℕ → List (Abs W N) → Evaluation (Yield (GroupArgs W N) (Abs W N))) (f : ℕ) (xs : List (Abs W N)) → IsOne (bodies B c cap spec a on (only_of f xs))
      one_body on zero xs = tt
      one_body on (suc f) xs = one_body (λ i. on (suc i)) f xs

      has_body : (on : ℕ → List (Abs W N) → Evaluation (Yield (GroupArgs W N) (Abs W N))) (Q : ℕ → List (Abs W N) → Type 0) (gs : GroupArgs W N) (f : ℕ) (ps : List Val) (S : Evaluation (Yield (GroupArgs W N) (Abs W N)) → Type 0)
          → EachIs Q gs → IsSomeAnd (held gs f) (λ xs. AllStand B valuation exact xs ps) → ((xs : List (Abs W N)) → Q f xs → AllStand B valuation exact xs ps → S (on f xs)) → Has S (bodies B c cap spec a on gs)
      has_body on Q [] f ps S h st go = absurd st
      has_body on Q (None ∷ gs) zero ps S h st go = absurd st
      has_body on Q (None ∷ gs) (suc f) ps S h st go = has_body (λ i. on (suc i)) (λ i. Q (suc i)) gs f ps S h.1 st go
      has_body on Q (Some xs ∷ gs) zero ps S h st go = inl (go xs h.0 st)
      has_body on Q (Some xs ∷ gs) (suc f) ps S h st go = inr (has_body (λ i. on (suc i)) (λ i. Q (suc i)) gs f ps S h.1 st go)

      pub group_met : (f : ℕ) (fun : Fun) (gs : GroupArgs W N) (ps : List Val) (l : List Seen) (m : List Read) → slice_get spec.funs f ≡ Some fun → EachIs (ArgsOf B laws c cap spec a P g) gs → HoldsFor B valuation exact gs f ps
          → IsMet exact (IsTrue B.notes.stamped) (YieldStands B valuation exact) l m (group_turn B c cap spec a acalls g gs l) (core_tail spec.maps (group_of spec) g ccalls a ps fun.core m)
      group_met f fun gs ps l m e h st =
          joined_met _ (IsYield B laws c cap spec a P g ty) (YieldStands B valuation exact) (join_yields B c cap spec a) joins_kept exact (λ e. yield_left e g ty) (λ e. yield_right e g ty)
          (bodies B c cap spec a (λ i xs. body_turn B c cap spec a acalls g (slice_get spec.funs i) xs) gs) l m (core_tail spec.maps (group_of spec) g ccalls a ps fun.core m)
          (bodies_kept B laws c cap spec a P inv room formed keys_fine (MayFail exact) acalls rank g below ty right (λ i xs. body_turn B c cap spec a acalls g (slice_get spec.funs i) xs) (ArgsOf B laws c cap spec a P g) gs h
          (λ f xs k. body_kept B laws c cap spec a P inv room formed keys_fine (MayFail exact) acalls rank g below ty right f (slice_get spec.funs f) refl xs k))
          (has_body (λ i xs. body_turn B c cap spec a acalls g (slice_get spec.funs i) xs) (ArgsOf B laws c cap spec a P g) gs f ps (λ q. (l : List Seen) → IsMet exact (IsTrue B.notes.stamped) (YieldStands B valuation exact) l m (q l) (core_tail spec.maps (group_of spec) g ccalls a ps fun.core m)) h st.holds
          (λ xs k sx l. subst (λ z. IsMet exact (IsTrue B.notes.stamped) (YieldStands B valuation exact) l m (body_turn B c cap spec a acalls g z xs l) (core_tail spec.maps (group_of spec) g ccalls a ps fun.core m)) (sym e)
          (let ok = right f fun e k.of_group in turn_met fun.core fun.params xs ps l m (subst (λ z. AreOf B c cap (environment_of spec) P (params_in z) xs) e k.are) sx ok.0 ok.1)))
          (λ t. let one_ = st.alone t in subst (λ z. IsOne (bodies B c cap spec a (λ i xs. body_turn B c cap spec a acalls g (slice_get spec.funs i) xs) z)) (sym one_.1) (one_body (λ i xs. body_turn B c cap spec a acalls g (slice_get spec.funs i) xs) f one_.0))
