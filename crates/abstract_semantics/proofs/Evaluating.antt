-- Terms meet the direct meaning.
use Rattle.std.proofs.Common.{◌≡◌, ℕ, zero, suc, ◌<◌, ◌^◌, inl, inr, Bool, true, false, cond, List, [], ◌∷◌, ◌++◌, Option, Some, None, slice_get, refl, sym, subst, IsTrue}
use Rattle.std.specs.Prelude.{◌==◌, IfSome}
use Rattle.word_operations.specs.Width.{IsWidth}
use Rattle.base_trait.specs.Algebra.{Algebra}
use Rattle.base_trait.specs.Laws.{Laws}
use Rattle.base_trait.specs.Uses.{Seen}
use Rattle.abstract_map_laws.specs.Laws.{HasRoom}
use Rattle.spec_match_compiler.specs.Values.{Place}
use Rattle.spec_ir.specs.declared.ty.Ty.{Ty}
use Rattle.spec_ir.specs.declared.ty.Ty.TheVariants.{Bool as Flag, Word, Data as DataTy, Map as MapOf}
use Rattle.spec_ir.specs.CoreTerms as t
use Rattle.spec_ir.specs.CoreTerms.{Core, Cores}
use Rattle.spec_ir.specs.Environment.{Signature, key_type, value_type}
use Rattle.spec_ir.specs.Specification.{Spec}
use Rattle.spec_ir.specs.Texts.{case_at, fields_at}
use Rattle.spec_ir.specs.WellFormed.{IsWellFormed}
use Rattle.semantics_values.specs.Types.{environment_of}
use Rattle.semantics.specs.Direct.{group_of}
use Rattle.semantics_laws.specs.Places.{types_named}
use Rattle.semantics_laws.specs.CoreTypes.{HasCoreType, HaveCoreTypes, ArmHasType}
use Rattle.semantics_laws.specs.CoreCalls.{CallsBelow, AllCallBelow}
use Rattle.abstract_value_laws.specs.Abs.{Abs, flag, made, map, word}
use Rattle.abstract_value_laws.specs.Calls.{join_of}
use Rattle.abstract_value_laws.specs.OfValues.{only}
use Rattle.abstract_value_laws.specs.TypeShapes.{shape_of}
use Rattle.abstract_value_laws.proofs.Typing.{types_are_shapes}
use Rattle.support_tail_fixpoint.specs.Answer.{gives}
use Rattle.abstract_semantics.specs.Answers.{Answer, Evaluation, behind, branch}
use Rattle.abstract_semantics.specs.Choices.{abs_named, arm_on, flag_there}
use Rattle.abstract_semantics.specs.Terms.{arm_of, value_of, values_of}
use Rattle.abstract_semantics.proofs.Kept.{IsKept, Keeping, nothing}
use Rattle.abstract_semantics.proofs.Typed.{IsOf, AreOf, are_append, type_is}
use Rattle.abstract_semantics.proofs.Stepped.{Invariant}
use Rattle.abstract_semantics.proofs.Chosen.{named_kept}
use Rattle.std.specs.Prelude.{nat_lt}
use Rattle.std.proofs.lemmas.Option.{same_Some as some_same}
use Rattle.std.proofs.lemmas.Bool.{lt-ltb as less_is}
use Rattle.base_trait.specs.Uses.{Read}
use Rattle.abstract_semantics.specs.Sound.{IsSingle}
use Rattle.spec_match_compiler.specs.Picks.{Choice, picks}
use Rattle.spec_match_compiler.specs.Decisions.{Decision}
use Rattle.semantics_laws.specs.CoreTypes.{Decides}
use Rattle.semantics.specs.Outcomes as o
use Rattle.semantics.specs.Outcomes.{Outcome}
use Rattle.semantics.specs.Steps.{is_word, shown}
use Rattle.semantics_laws.proofs.Values.{width_to}
use Rattle.semantics_laws.specs.Places.{vals_named}
use Rattle.semantics_laws.specs.CoreDirect.{arm_picked, core_arm, core_value, core_values, with_named}
use Rattle.spec_match_compiler.proofs.Truth.{both}
use Rattle.semantics_values.specs.Values as v
use Rattle.semantics_values.specs.Values.{Val, vals}
use Rattle.abstract_value_laws.proofs.Joining.{join_describes}
use Rattle.abstract_value_laws.proofs.Typing.{types_are_shapes}
use Rattle.abstract_semantics.specs.Choices.{decided}
use Rattle.abstract_semantics.proofs.Termed.{KeysAreFine, arm_kept, join_kept, value_kept, values_kept}
use Rattle.abstract_semantics.proofs.Meeting.{IsMet, MayFail, behind_met, bind_met, branch_met, follows_itself}
use Rattle.abstract_semantics.proofs.Standing.{AllStand, Stands, named_stand, stand_append}
use Rattle.abstract_semantics.proofs.Deciding.{Mode, decided_met, flag_single, row_picked}
use Rattle.abstract_semantics.proofs.Stepping.{accessed_met, binary_met, compared_met, made_met, resized_met, unary_met, updated_met, word_standing}

module _ {W N C : Type 0} (B : Algebra W N C) (laws : Laws W N C B) (c : C) (cap : ℕ) (spec : Spec) (a : ℕ) (P : Abs W N → Type 0) (inv : Invariant B c cap (environment_of spec) a P)
    (room : HasRoom B cap) (formed : IsWellFormed (environment_of spec)) (keys_fine : KeysAreFine (environment_of spec)) (valuation : List ℕ) (exact : Bool) (mode : Mode B exact) where
  -- where it is not exact, the base joins
  joins_if : exact ≡ false → IsTrue B.joins
  joins_if e = by mode
    where
      by : Mode B exact → IsTrue B.joins
      by (inl md) = md.1
      by (inr md) = absurd (let h = md.0 in cc)

  sound_single : exact ≡ false → (x : Abs W N) → IsTrue exact → IsSingle x
  sound_single e x t = absurd cc

  pub join_left : exact ≡ false → (ty : Ty) (x y : Abs W N) (n : Val) → IsOf B c cap (environment_of spec) P ty x → IsOf B c cap (environment_of spec) P ty y → Stands B valuation exact x n → Stands B valuation exact (join_of B c cap x y) n
  join_left e ty x y n h k st =
      let is = type_is B c cap (environment_of spec) P ty x h in
      record {
        describes = join_describes B laws c cap valuation n (shape_of (environment_of spec) ty) x y (joins_if e) h.fits k.fits ((types_are_shapes B (environment_of spec) ty x formed is).0 h.has) ((types_are_shapes B (environment_of spec) ty y formed is).0 k.has) (inl st.describes);
        single = λ t. sound_single e (join_of B c cap x y) t;
      }

  pub join_right : exact ≡ false → (ty : Ty) (x y : Abs W N) (n : Val) → IsOf B c cap (environment_of spec) P ty x → IsOf B c cap (environment_of spec) P ty y → Stands B valuation exact y n → Stands B valuation exact (join_of B c cap x y) n
  join_right e ty x y n h k st =
      let is = type_is B c cap (environment_of spec) P ty x h in
      record {
        describes = join_describes B laws c cap valuation n (shape_of (environment_of spec) ty) x y (joins_if e) h.fits k.fits ((types_are_shapes B (environment_of spec) ty x formed is).0 h.has) ((types_are_shapes B (environment_of spec) ty y formed is).0 k.has) (inr st.describes);
        single = λ t. sound_single e (join_of B c cap x y) t;
      }

  abbrev Met : List Seen → List Read → Answer (Abs W N) → Outcome Val → Type 0
  Met = IsMet exact (IsTrue B.notes.stamped) (Stands B valuation exact)

  -- a variable
  looked_met : (env : List (Abs W N)) (cenv : List Val) (n : ℕ) (l : List Seen) (m : List Read) → AllStand B valuation exact env cenv → IsMet exact (IsTrue B.notes.stamped) (Stands B valuation exact) l m (gives (slice_get env n) l) (o.given (slice_get cenv n) m)
  looked_met [] [] n l m h = tt
  looked_met [] (p ∷ ps) n l m h = absurd h
  looked_met (x ∷ xs) [] n l m h = absurd h
  looked_met (x ∷ xs) (p ∷ ps) zero l m h = (h.0, follows_itself _ l m)
  looked_met (x ∷ xs) (p ∷ ps) (suc n) l m h = looked_met xs ps n l m h.1

  -- a word of its width
  constant_met : (w n : ℕ) (l : List Seen) (m : List Read) → IsWidth w → n < 2 ^ w → IsMet exact (IsTrue B.notes.stamped) (Stands B valuation exact) l m (gives (cond (is_word w n) (Some (word w (B.words.constant c w n))) None) l) (o.gives (v.word w n) m)
  constant_met w n l m wide small =
      let is : is_word w n ≡ true = both _ (nat_lt n (2 ^ w)) (width_to w wide) (less_is n (2 ^ w) small) in
      subst (λ z. IsMet exact (IsTrue B.notes.stamped) (Stands B valuation exact) l m (gives (cond z (Some (word w (B.words.constant c w n))) None) l) (o.gives (v.word w n) m)) (sym is)
      (word_standing B laws c cap (environment_of spec) a P inv valuation exact mode w n (B.words.constant c w n) (laws.words.constant_sound c valuation w n wide small), follows_itself _ l m)

  flag_standing : (b : Bool) → Stands B valuation exact (flag (only b)) (v.flag b)
  flag_standing true = record { describes = refl; single = λ t. refl }
  flag_standing false = record { describes = refl; single = λ t. refl }

  module _ (acalls : ℕ → List (Abs W N) → Answer (Abs W N)) (ccalls : ℕ → List Val → List Read → Outcome Val) (rank : ℕ → ℕ) (g : ℕ)
      (below : (f : ℕ) (s : Signature) (xs : List (Abs W N)) → rank (group_of spec f) < rank g → slice_get (environment_of spec).funs f ≡ Some s → AreOf B c cap (environment_of spec) P s.params xs
      → IsKept (MayFail exact) (IsOf B c cap (environment_of spec) P s.result_type) [] (acalls f xs))
      (below_met : (f : ℕ) (s : Signature) (xs : List (Abs W N)) (ps : List Val) (m : List Read) → rank (group_of spec f) < rank g → slice_get (environment_of spec).funs f ≡ Some s → AreOf B c cap (environment_of spec) P s.params xs
      → AllStand B valuation exact xs ps → IsMet exact (IsTrue B.notes.stamped) (Stands B valuation exact) [] m (acalls f xs) (ccalls f ps m)) where
    abbrev kept_value : (x : Core) (vars : List Ty) (env : List (Abs W N)) (ty : Ty) (l : List Seen) → AreOf B c cap (environment_of spec) P vars env → HasCoreType (environment_of spec) vars x ty → CallsBelow (group_of spec) rank g x
        → IsKept (MayFail exact) (IsOf B c cap (environment_of spec) P ty) l (value_of B c cap spec a acalls env x l)
    kept_value = value_kept B laws c cap spec a P inv room formed keys_fine (MayFail exact) acalls rank g below

    abbrev kept_values : (ts : Cores) (vars : List Ty) (env : List (Abs W N)) (tys : List Ty) (l : List Seen) → AreOf B c cap (environment_of spec) P vars env → HaveCoreTypes (environment_of spec) vars ts tys → AllCallBelow (group_of spec) rank g ts
        → IsKept (MayFail exact) (AreOf B c cap (environment_of spec) P tys) l (values_of B c cap spec a acalls env ts l)
    kept_values = values_kept B laws c cap spec a P inv room formed keys_fine (MayFail exact) acalls rank g below

    other_met : (f : ℕ) (b : Bool) (r : Answer (Abs W N)) (q : Outcome Val) (l : List Seen) (m : List Read) → IsMet exact (IsTrue B.notes.stamped) (Stands B valuation exact) l m r q → IsMet exact (IsTrue B.notes.stamped) (Stands B valuation exact) l m r (cond b o.wrong q)
    other_met f true r q l m h = tt
    other_met f false r q l m h = h

    arm_given : (x : Option (List (Abs W N))) (arm : List (Abs W N) → Evaluation (Abs W N)) (ty : Ty) (more : List Ty) (l : List Seen) → IfSome x (AreOf B c cap (environment_of spec) P more)
        → ((vs : List (Abs W N)) → AreOf B c cap (environment_of spec) P more vs → IsKept (MayFail exact) (IsOf B c cap (environment_of spec) P ty) l (arm vs l)) → IsKept (MayFail exact) (IsOf B c cap (environment_of spec) P ty) l (arm_on arm x l)
    arm_given None arm ty more l h go = nothing (MayFail exact) (IsOf B c cap (environment_of spec) P ty) l
    arm_given (Some vs) arm ty more l h go = go vs h

    -- the branches of a condition
    condition_met : (p : Abs W N) (n : Val) (f q : Evaluation (Abs W N)) (x y : Outcome Val) (ty : Ty) (l : List Seen) (m : List Read) → Keeping (MayFail exact) (IsOf B c cap (environment_of spec) P ty) f → Keeping (MayFail exact) (IsOf B c cap (environment_of spec) P ty) q
        → Stands B valuation exact p n → ((l : List Seen) → IsMet exact (IsTrue B.notes.stamped) (Stands B valuation exact) l m (f l) x) → ((l : List Seen) → IsMet exact (IsTrue B.notes.stamped) (Stands B valuation exact) l m (q l) y)
        → IsMet exact (IsTrue B.notes.stamped) (Stands B valuation exact) l m (branch (join_of B c cap) (flag_there (Some p)) f q l) (o.branch n x y)
    condition_met (flag z) (v.flag true) f q x y ty l m kf kq st hf hq = branch_met _ (IsOf B c cap (environment_of spec) P ty) (Stands B valuation exact) (join_of B c cap) (join_kept B laws c cap spec a P inv room formed keys_fine ty) exact (λ e. join_left e ty) (λ e. join_right e ty)
        z true f q x l m kf kq st.describes (flag_single B laws c cap (environment_of spec) a P inv valuation exact mode z st.single) hf
    condition_met (flag z) (v.flag false) f q x y ty l m kf kq st hf hq = branch_met _ (IsOf B c cap (environment_of spec) P ty) (Stands B valuation exact) (join_of B c cap) (join_kept B laws c cap spec a P inv room formed keys_fine ty) exact (λ e. join_left e ty) (λ e. join_right e ty)
        z false f q y l m kf kq st.describes (flag_single B laws c cap (environment_of spec) a P inv valuation exact mode z st.single) hq
    condition_met p (v.word w n) f q x y ty l m kf kq st hf hq = tt
    condition_met p (v.made i k ps) f q x y ty l m kf kq st hf hq = tt
    condition_met p (v.map i rest cells) f q x y ty l m kf kq st hf hq = tt
    condition_met (word w z) (v.flag b) f q x y ty l m kf kq st hf hq = absurd st.describes
    condition_met (made i cs) (v.flag b) f q x y ty l m kf kq st hf hq = absurd st.describes
    condition_met (map i z) (v.flag b) f q x y ty l m kf kq st hf hq = absurd st.describes

    -- the rows of a choice
    abbrev RowHas : List Ty → Cores → Ty → Ty → ℕ → List (ℕ × Place) → Type 0
    RowHas vars arms from ty r binds = (more : List Ty) × (types_named (environment_of spec) from binds ≡ Some more) × ArmHasType (environment_of spec) vars arms r more ty

    chosen_met : (p : Abs W N) (n : Val) (by_ : Decision) (arms : Cores) (vars : List Ty) (env : List (Abs W N)) (cenv : List Val) (from ty : Ty) (l : List Seen) (m : List Read) → IsOf B c cap (environment_of spec) P from p → Stands B valuation exact p n
        → AreOf B c cap (environment_of spec) P vars env → AllStand B valuation exact env cenv → Decides (environment_of spec) (RowHas vars arms from ty) from by_ → AllCallBelow (group_of spec) rank g arms
        → ((choice : Choice) (row : RowHas vars arms from ty choice.0 choice.1) (vs : List Val) (xs : List (Abs W N)) (l : List Seen) → AreOf B c cap (environment_of spec) P row.0 xs → AllStand B valuation exact xs vs
        → IsMet exact (IsTrue B.notes.stamped) (Stands B valuation exact) l m (arm_of B c cap spec a acalls env arms choice.0 xs l) (core_arm spec.maps (group_of spec) g ccalls a cenv arms choice.0 vs m))
        → IsMet exact (IsTrue B.notes.stamped) (Stands B valuation exact) l m (decided B c (join_of B c cap) (λ r vs m. arm_of B c cap spec a acalls env arms r vs m) p by_ l)
        (arm_picked (λ r vs. core_arm spec.maps (group_of spec) g ccalls a cenv arms r vs m) n (picks by_ (shown n)))
    chosen_met p n by_ arms vars env cenv from ty l m hp sp h st decides b go = at (picks by_ (shown n)) refl
      where
        rows_kept : (r : ℕ) (binds : List (ℕ × Place)) → RowHas vars arms from ty r binds → Keeping (MayFail exact) (IsOf B c cap (environment_of spec) P ty) (arm_on (λ vs m. arm_of B c cap spec a acalls env arms r vs m) (abs_named p binds))
        rows_kept r binds row l = arm_given (abs_named p binds) (λ vs m. arm_of B c cap spec a acalls env arms r vs m) ty row.0 l (named_kept B c cap (environment_of spec) a P inv p from binds row.0 hp row.1)
            (λ vs hvs. arm_kept B laws c cap spec a P inv room formed keys_fine (MayFail exact) acalls rank g below arms r vars env row.0 vs ty l h hvs row.2 b)

        named_are : (choice : Choice) (row : RowHas vars arms from ty choice.0 choice.1) (xs : List (Abs W N)) → abs_named p choice.1 ≡ Some xs → AreOf B c cap (environment_of spec) P row.0 xs
        named_are choice row xs e = some_is (abs_named p choice.1) e (named_kept B c cap (environment_of spec) a P inv p from choice.1 row.0 hp row.1)
          where
            some_is : (z : Option (List (Abs W N))) → z ≡ Some xs → IfSome z (AreOf B c cap (environment_of spec) P row.0) → AreOf B c cap (environment_of spec) P row.0 xs
            some_is None e k = absurd cc
            some_is (Some ys) e k = let same : ys ≡ xs = some_same ys xs e in subst (AreOf B c cap (environment_of spec) P row.0) same k

        with_values : (choice : Choice) → picks by_ (shown n) ≡ Some choice → (z : Option (List Val)) → vals_named n choice.1 ≡ z
            → IsMet exact (IsTrue B.notes.stamped) (Stands B valuation exact) l m (decided B c (join_of B c cap) (λ r vs m. arm_of B c cap spec a acalls env arms r vs m) p by_ l) (with_named (λ vs. core_arm spec.maps (group_of spec) g ccalls a cenv arms choice.0 vs m) z)
        with_values choice e None f = tt
        with_values choice e (Some vs) f =
            let row = row_picked (environment_of spec) (RowHas vars arms from ty) from (shown n) choice by_ decides e in
            let named = named_stand B valuation exact p n choice.1 vs sp f in
            decided_met B laws c cap (environment_of spec) a P inv valuation exact mode (IsTrue B.notes.stamped) (IsOf B c cap (environment_of spec) P ty) (Stands B valuation exact) (join_of B c cap) (join_kept B laws c cap spec a P inv room formed keys_fine ty)
            (λ e. join_left e ty) (λ e. join_right e ty) (λ r vs m. arm_of B c cap spec a acalls env arms r vs m) p n from hp sp (RowHas vars arms from ty) rows_kept m choice (core_arm spec.maps (group_of spec) g ccalls a cenv arms choice.0 vs m)
            (λ l. subst (λ z. IsMet exact (IsTrue B.notes.stamped) (Stands B valuation exact) l m (arm_on (λ vs m. arm_of B c cap spec a acalls env arms choice.0 vs m) z l) (core_arm spec.maps (group_of spec) g ccalls a cenv arms choice.0 vs m)) (sym named.is)
            (go choice row vs named.values l (named_are choice row named.values named.is) named.stand)) by_ decides e l

        at : (z : Option Choice) → picks by_ (shown n) ≡ z → IsMet exact (IsTrue B.notes.stamped) (Stands B valuation exact) l m (decided B c (join_of B c cap) (λ r vs m. arm_of B c cap spec a acalls env arms r vs m) p by_ l)
            (arm_picked (λ r vs. core_arm spec.maps (group_of spec) g ccalls a cenv arms r vs m) n z)
        at None e = tt
        at (Some choice) e = with_values choice e (vals_named n choice.1) refl

    mutual
      pub value_met : (x : Core) (vars : List Ty) (env : List (Abs W N)) (cenv : List Val) (ty : Ty) (l : List Seen) (m : List Read) → AreOf B c cap (environment_of spec) P vars env → AllStand B valuation exact env cenv
          → HasCoreType (environment_of spec) vars x ty → CallsBelow (group_of spec) rank g x
          → IsMet exact (IsTrue B.notes.stamped) (Stands B valuation exact) l m (value_of B c cap spec a acalls env x l) (core_value spec.maps (group_of spec) g ccalls a cenv x m)
      value_met (t.var n) vars env cenv ty l m h st ok b = looked_met env cenv n l m st
      value_met (t.flag q) vars env cenv ty l m h st ok b = (flag_standing q, follows_itself _ l m)
      value_met (t.word w n) vars env cenv ty l m h st ok b = constant_met w n l m ok.0 ok.1
      value_met (t.un op w x) vars env cenv ty l m h st ok b =
          bind_met _ exact _ _ _ _ l m (value_of B c cap spec a acalls env x l) (core_value spec.maps (group_of spec) g ccalls a cenv x m) _ _ (kept_value x vars env (Word w) l h ok.0 b) (value_met x vars env cenv (Word w) l m h st ok.0 b) (λ p n l m hp sp.
          unary_met B laws c cap (environment_of spec) a P inv valuation exact mode op w p n l m hp sp)
      value_met (t.bin op w x y) vars env cenv ty l m h st ok b =
          bind_met _ exact _ _ _ _ l m (value_of B c cap spec a acalls env x l) (core_value spec.maps (group_of spec) g ccalls a cenv x m) _ _ (kept_value x vars env (Word w) l h ok.0 b.0) (value_met x vars env cenv (Word w) l m h st ok.0 b.0) (λ p n l m hp sp.
          bind_met _ exact _ _ _ _ l m (value_of B c cap spec a acalls env y l) (core_value spec.maps (group_of spec) g ccalls a cenv y m) _ _ (kept_value y vars env (Word w) l h ok.1 b.1) (value_met y vars env cenv (Word w) l m h st ok.1 b.1) (λ q k l m hq sq.
          binary_met B laws c cap (environment_of spec) a P inv valuation exact mode op w p q n k l m hp hq sp sq))
      value_met (t.test i w x y) vars env cenv ty l m h st ok b =
          bind_met _ exact _ _ _ _ l m (value_of B c cap spec a acalls env x l) (core_value spec.maps (group_of spec) g ccalls a cenv x m) _ _ (kept_value x vars env (Word w) l h ok.0 b.0) (value_met x vars env cenv (Word w) l m h st ok.0 b.0) (λ p n l m hp sp.
          bind_met _ exact _ _ _ _ l m (value_of B c cap spec a acalls env y l) (core_value spec.maps (group_of spec) g ccalls a cenv y m) _ _ (kept_value y vars env (Word w) l h ok.1 b.1) (value_met y vars env cenv (Word w) l m h st ok.1 b.1) (λ q k l m hq sq.
          compared_met B laws c cap (environment_of spec) a P inv valuation exact mode i w p q n k l m hp hq sp sq))
      value_met (t.cast kind from to x) vars env cenv ty l m h st ok b =
          bind_met _ exact _ _ _ _ l m (value_of B c cap spec a acalls env x l) (core_value spec.maps (group_of spec) g ccalls a cenv x m) _ _ (kept_value x vars env (Word from) l h ok.0 b) (value_met x vars env cenv (Word from) l m h st ok.0 b) (λ p n l m hp sp.
          resized_met B laws c cap (environment_of spec) a P inv valuation exact mode kind from to p n l m hp ok.1 ok.2 sp)
      value_met (t.let_in x y) vars env cenv ty l m h st ok b =
          bind_met _ exact _ _ _ _ l m (value_of B c cap spec a acalls env x l) (core_value spec.maps (group_of spec) g ccalls a cenv x m) _ _ (kept_value x vars env ok.0 l h ok.1 b.0) (value_met x vars env cenv ok.0 l m h st ok.1 b.0) (λ p n l m hp sp.
          value_met y (vars ++ ok.0 ∷ []) (env ++ p ∷ []) (cenv ++ n ∷ []) ty l m (are_append B c cap (environment_of spec) P vars (ok.0 ∷ []) env (p ∷ []) h (hp, tt)) (stand_append B valuation exact env (p ∷ []) cenv (n ∷ []) st (sp, tt)) ok.2 b.1)
      value_met (t.if_else k x y) vars env cenv ty l m h st ok b =
          bind_met _ exact _ _ _ _ l m (value_of B c cap spec a acalls env k l) (core_value spec.maps (group_of spec) g ccalls a cenv k m) _ _ (kept_value k vars env Flag l h ok.0 b.0) (value_met k vars env cenv Flag l m h st ok.0 b.0) (λ p n l m hp sp.
          condition_met p n (value_of B c cap spec a acalls env x) (value_of B c cap spec a acalls env y) (core_value spec.maps (group_of spec) g ccalls a cenv x m) (core_value spec.maps (group_of spec) g ccalls a cenv y m) ty l m
          (λ l. kept_value x vars env ty l h ok.1 b.1) (λ l. kept_value y vars env ty l h ok.2 b.2) sp (λ l. value_met x vars env cenv ty l m h st ok.1 b.1) (λ l. value_met y vars env cenv ty l m h st ok.2 b.2))
      value_met (t.choose x by_ arms) vars env cenv ty l m h st ok b =
          bind_met _ exact _ _ _ _ l m (value_of B c cap spec a acalls env x l) (core_value spec.maps (group_of spec) g ccalls a cenv x m) _ _ (kept_value x vars env ok.0 l h ok.1 b.0) (value_met x vars env cenv ok.0 l m h st ok.1 b.0) (λ p n l m hp sp.
          chosen_met p n by_ arms vars env cenv ok.0 ty l m hp sp h st ok.2 b.1 (λ choice row vs xs l hvs svs. arm_met arms choice.0 vars env cenv row.0 xs vs ty l m h st hvs svs row.2 b.1))
      value_met (t.make d k args) vars env cenv ty l m h st ok b =
          bind_met _ exact _ _ _ _ l m (values_of B c cap spec a acalls env args l) (core_values spec.maps (group_of spec) g ccalls a cenv args m) _ _ (kept_values args vars env (fields_at (case_at (environment_of spec) (DataTy d) k)) l h ok.1 b)
          (values_met args vars env cenv (fields_at (case_at (environment_of spec) (DataTy d) k)) l m h st ok.1 b) (λ xs ps l m hxs sxs.
          made_met B laws c cap (environment_of spec) a P inv valuation exact mode d k xs ps l m ok.0 sxs)
      value_met (t.call f args) vars env cenv ty l m h st ok b =
          bind_met _ exact _ _ _ _ l m (values_of B c cap spec a acalls env args l) (core_values spec.maps (group_of spec) g ccalls a cenv args m) _ _ (kept_values args vars env ok.0.params l h ok.2 b.1)
          (values_met args vars env cenv ok.0.params l m h st ok.2 b.1) (λ xs ps l m hxs sxs.
          other_met f (group_of spec f == g) (behind l (acalls f xs)) (ccalls f ps m) l m (behind_met _ _ exact l m (acalls f xs) (ccalls f ps m) (below_met f ok.0 xs ps m b.0 ok.1 hxs sxs)))
      value_met (t.get i x k) vars env cenv ty l m h st ok b =
          bind_met _ exact _ _ _ _ l m (value_of B c cap spec a acalls env x l) (core_value spec.maps (group_of spec) g ccalls a cenv x m) _ _ (kept_value x vars env (MapOf i) l h ok.1 b.0) (value_met x vars env cenv (MapOf i) l m h st ok.1 b.0) (λ p n l m hp sp.
          bind_met _ exact _ _ _ _ l m (value_of B c cap spec a acalls env k l) (core_value spec.maps (group_of spec) g ccalls a cenv k m) _ _ (kept_value k vars env (key_type (environment_of spec) i) l h ok.2 b.1) (value_met k vars env cenv (key_type (environment_of spec) i) l m h st ok.2 b.1) (λ q r l m hq sq.
          accessed_met B laws c cap (environment_of spec) a P inv valuation exact mode i p q n r l m (keys_fine i ok.0).0 hp hq sp sq))
      value_met (t.put i x k y) vars env cenv ty l m h st ok b =
          bind_met _ exact _ _ _ _ l m (value_of B c cap spec a acalls env x l) (core_value spec.maps (group_of spec) g ccalls a cenv x m) _ _ (kept_value x vars env (MapOf i) l h ok.1 b.0) (value_met x vars env cenv (MapOf i) l m h st ok.1 b.0) (λ p n l m hp sp.
          bind_met _ exact _ _ _ _ l m (value_of B c cap spec a acalls env k l) (core_value spec.maps (group_of spec) g ccalls a cenv k m) _ _ (kept_value k vars env (key_type (environment_of spec) i) l h ok.2 b.1) (value_met k vars env cenv (key_type (environment_of spec) i) l m h st ok.2 b.1) (λ q r l m hq sq.
          bind_met _ exact _ _ _ _ l m (value_of B c cap spec a acalls env y l) (core_value spec.maps (group_of spec) g ccalls a cenv y m) _ _ (kept_value y vars env (value_type (environment_of spec) i) l h ok.3 b.2) (value_met y vars env cenv (value_type (environment_of spec) i) l m h st ok.3 b.2) (λ u w l m hu su.
          updated_met B laws c cap (environment_of spec) a P inv valuation exact mode i p q u n r w l m (keys_fine i ok.0).0 (keys_fine i ok.0).1 hp hq hu sp sq su)))

      pub values_met : (ts : Cores) (vars : List Ty) (env : List (Abs W N)) (cenv : List Val) (tys : List Ty) (l : List Seen) (m : List Read) → AreOf B c cap (environment_of spec) P vars env → AllStand B valuation exact env cenv
          → HaveCoreTypes (environment_of spec) vars ts tys → AllCallBelow (group_of spec) rank g ts
          → IsMet exact (IsTrue B.notes.stamped) (AllStand B valuation exact) l m (values_of B c cap spec a acalls env ts l) (core_values spec.maps (group_of spec) g ccalls a cenv ts m)
      values_met t.no_core vars env cenv tys l m h st ok b = (tt, follows_itself _ l m)
      values_met (t.core_then x rest) vars env cenv [] l m h st ok b = absurd ok
      values_met (t.core_then x rest) vars env cenv (ty ∷ tys) l m h st ok b =
          bind_met _ exact _ _ _ _ l m (value_of B c cap spec a acalls env x l) (core_value spec.maps (group_of spec) g ccalls a cenv x m) _ _ (kept_value x vars env ty l h ok.0 b.0) (value_met x vars env cenv ty l m h st ok.0 b.0) (λ p n l m hp sp.
          bind_met _ exact _ _ _ _ l m (values_of B c cap spec a acalls env rest l) (core_values spec.maps (group_of spec) g ccalls a cenv rest m) _ _ (kept_values rest vars env tys l h ok.1 b.1) (values_met rest vars env cenv tys l m h st ok.1 b.1) (λ ps ns l m hps sps.
          ((sp, sps), follows_itself _ l m)))

      pub arm_met : (ts : Cores) (r : ℕ) (vars : List Ty) (env : List (Abs W N)) (cenv : List Val) (more : List Ty) (xs : List (Abs W N)) (vs : List Val) (ty : Ty) (l : List Seen) (m : List Read) → AreOf B c cap (environment_of spec) P vars env → AllStand B valuation exact env cenv
          → AreOf B c cap (environment_of spec) P more xs → AllStand B valuation exact xs vs → ArmHasType (environment_of spec) vars ts r more ty → AllCallBelow (group_of spec) rank g ts
          → IsMet exact (IsTrue B.notes.stamped) (Stands B valuation exact) l m (arm_of B c cap spec a acalls env ts r xs l) (core_arm spec.maps (group_of spec) g ccalls a cenv ts r vs m)
      arm_met t.no_core r vars env cenv more xs vs ty l m h st hx sx ok b = absurd ok
      arm_met (t.core_then x rest) zero vars env cenv more xs vs ty l m h st hx sx ok b =
          value_met x (vars ++ more) (env ++ xs) (cenv ++ vs) ty l m (are_append B c cap (environment_of spec) P vars more env xs h hx) (stand_append B valuation exact env xs cenv vs st sx) ok b.0
      arm_met (t.core_then x rest) (suc r) vars env cenv more xs vs ty l m h st hx sx ok b = arm_met rest r vars env cenv more xs vs ty l m h st hx sx ok b.1
