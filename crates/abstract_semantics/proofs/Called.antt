-- Calls give values of their types: from the groups of lowest rank on.
use Rattle.std.proofs.Common.{◌≡◌, ℕ, zero, suc, ◌<◌, ◌≤◌, ◌^◌, true, List, [], ◌∷◌, length, Option, Some, None, slice_get, refl, sym, ap, subst, ◌∙◌, arith}
use Rattle.std.specs.Prelude.{IfSome}
use Rattle.base_trait.specs.Algebra.{Algebra}
use Rattle.base_trait.specs.Laws.{Laws}
use Rattle.base_trait.specs.Uses.{Seen}
use Rattle.abstract_map_laws.specs.Laws.{HasRoom}
use Rattle.spec_ir.specs.declared.ty.Ty.{Ty}
use Rattle.spec_ir.specs.declared.ty.Ty.TheVariants.{Bool as Flag, Word, Data as DataTy, Map as MapOf}
use Rattle.spec_ir.specs.Environment.{Environment, Signature, key_type}
use Rattle.spec_ir.specs.Specification.{Spec, Fun}
use Rattle.spec_ir.specs.WellFormed.{IsWellFormed, is_width}
use Rattle.semantics_values.specs.Types.{environment_of, key_count}
use Rattle.semantics.specs.Direct.{group_at, group_of}
use Rattle.semantics_laws.specs.Accepted.{is_key_type}
use Rattle.semantics_laws.specs.CoreTypes.{HasCoreType}
use Rattle.semantics_laws.specs.CoreCalls.{CallsInOrder}
use Rattle.abstract_value_laws.specs.Abs.{Abs}
use Rattle.abstract_value_laws.specs.Calls.{join_of}
use Rattle.abstract_value_laws.specs.TypeShapes.{shape_of}
use Rattle.abstract_value_laws.proofs.Typing.{types_are_shapes}
use Rattle.support_tail_fixpoint.specs.Groups.{EachIs, only as only_of}
use Rattle.support_tail_fixpoint.proofs.Groups.{merge_each_kept, only_is}
use Rattle.support_tail_fixpoint.specs.Answer.{Yield, gives}
use Rattle.abstract_semantics.specs.Answers.{Answer}
use Rattle.abstract_semantics.specs.Terms.{GroupArgs, group_turn, merge_all, params_in, params_of}
use Rattle.abstract_semantics.proofs.Kept.{IsKept, Keeping}
use Rattle.abstract_semantics.proofs.Typed.{IsOf, AreOf, are_fit, are_typed, type_is}
use Rattle.abstract_semantics.proofs.Stepped.{Invariant}
use Rattle.std.proofs.Common.{pow_mono}
use Rattle.std.specs.Prelude.{nat_le}
use Rattle.std.proofs.lemmas.Option.{slice_get_within}
use Rattle.std.proofs.lemmas.Bool.{false≢true, leb-true as is_at_most}
use Rattle.std.proofs.lemmas.List.{length-map}
use Rattle.spec_match_compiler.proofs.Truth.{and_left, and_right}
use Rattle.support_tail_fixpoint.specs.declared.policy.Policy.{Policy}
use Rattle.support_tail_fixpoint.specs.declared.policy.Policy.TheVariants.{Widen}
use Rattle.support_tail_fixpoint.specs.Answer.{IfGives, Succeeds, YieldFits, fails}
use Rattle.support_tail_fixpoint.specs.Evaluation.{IsAnswer}
use Rattle.support_tail_fixpoint.specs.Fitting.{KeepsArgs, KeepsOut}
use Rattle.support_tail_fixpoint.proofs.Answered.{answers_fit, widened_answers_succeed}
use Rattle.spec_ir.specs.declared.declared.MapType.{MapType}
use Rattle.std.specs.Prelude.{map, unwrap_or}
use Rattle.std.proofs.Common.{option_map}
use Rattle.std.proofs.lemmas.Option.{slice_get-map}
use Rattle.abstract_value_laws.proofs.Depths.{there}
use Rattle.spec_ir.specs.Environment.{Data, field_types, key_of, shape_of as shape_of_type, shapes_of}
use Rattle.spec_ir.specs.Texts.{cases_of}
use Rattle.spec_ir.proofs.Lists.{all_at}
use Rattle.semantics_laws.specs.Accepted.{IsAccepted, is_map}
use Rattle.semantics_laws.proofs.Turns.{FunOf, fun_of}
use Rattle.semantics_laws.proofs.CoreTyped.{cores_have_types}
use Rattle.semantics_laws.proofs.Order.{cores_call_in_order}
use Rattle.abstract_value_laws.specs.Calls.{widen_of}
use Rattle.abstract_value_laws.proofs.Widening.{widen_fits, widen_shapes}
use Rattle.abstract_semantics.specs.Sound.{Keeps}
use Rattle.abstract_semantics.specs.Calls.{AreRight, moves}
use Rattle.abstract_semantics.proofs.Termed.{ArgsOf, IsYield, KeysAreFine, args_joined, join_kept}
use Rattle.abstract_semantics.proofs.Turned.{group_kept}

-- ---- keys of accepted specifications
few_keys : (env : Environment) → IsWellFormed env → (ty : Ty) → is_key_type env ty ≡ true → key_count env ty ≤ 2 ^ 32
few_keys env ok (Word w) h = pow_mono (is_at_most w 32 (and_right (is_width w) (nat_le w 32) h))
few_keys env ok (DataTy d) h = at (slice_get env.datas d) refl
  where
    at : (o : Option Data) → slice_get env.datas d ≡ o → length (cases_of o) ≤ 2 ^ 32
    at None e = omega arith
    at (Some data_is) e =
        let shapes : slice_get (shapes_of env) d ≡ Some (map (λ k. map shape_of_type (field_types k)) data_is.cases) =
        slice_get-map (λ d. map (λ k. map shape_of_type (field_types k)) d.cases) env.datas d ∙ ap (option_map (λ d. map (λ k. map shape_of_type (field_types k)) d.cases)) e in
        let small : length (unwrap_or (slice_get (shapes_of env) d) []) < 2 ^ 32 = ok.types.cases d in
        let few : length (map (λ k. map shape_of_type (field_types k)) data_is.cases) < 2 ^ 32 = subst (λ o. length (unwrap_or o []) < 2 ^ 32) shapes small in
        omega (arith, subst (λ n. n < 2 ^ 32) (length-map data_is.cases (λ k. map shape_of_type (field_types k))) few)
few_keys env ok Flag h = absurd (false≢true h)
few_keys env ok (MapOf m) h = absurd (false≢true h)

pub keys_fine : (spec : Spec) → IsAccepted spec → KeysAreFine (environment_of spec)
keys_fine spec ok m lt = at (slice_get spec.maps m) refl
  where
    at : (o : Option MapType) → slice_get spec.maps m ≡ o → (is_key_type (environment_of spec) (key_type (environment_of spec) m) ≡ true) × (key_count (environment_of spec) (key_type (environment_of spec) m) ≤ 2 ^ 32)
    at None e = let h = there spec.maps m lt in absurd cc
    at (Some d) e =
        let is : is_key_type (environment_of spec) d.key ≡ true = and_left (is_key_type (environment_of spec) d.key) _ (all_at (is_map (environment_of spec)) spec.maps m d ok.maps e) in
        let same : key_type (environment_of spec) m ≡ d.key = ap key_of e in
        (subst (λ t. is_key_type (environment_of spec) t ≡ true) (sym same) is, subst (λ t. key_count (environment_of spec) t ≤ 2 ^ 32) (sym same) (few_keys (environment_of spec) ok.types d.key is))

-- where an evaluation fails
abbrev pub IfFails : {A : Type 0} → Type 0 → Answer A → Type 0
IfFails Fine (fails i) = Fine
IfFails Fine (gives x l) = Unit {0}

-- What activations come to that fail is fine, where it is of their turns.
abbrev pub FailsFine : {W N C : Type 0} → Algebra W N C → C → ℕ → Policy → Type 0 → Type 1
FailsFine {W} {N} B c cap policy Fine =
    (Fits : GroupArgs W N → Type 0) (deep : ℕ) (turn_on : GroupArgs W N → List Seen → Answer (Yield (GroupArgs W N) (Abs W N))) (args : GroupArgs W N) (answer : Answer (Abs W N))
    → KeepsArgs (moves B c cap) Fits → ((args : GroupArgs W N) (l : List Seen) → Fits args → IfGives (turn_on args l) (λ y. IfSome y.next Fits)) → ((args : GroupArgs W N) (l : List Seen) → Fits args → IfFails Fine (turn_on args l))
    → Fits args → IsAnswer deep turn_on (moves B c cap) policy args [] answer → IfFails Fine answer

pub all_fine : {W N C : Type 0} (B : Algebra W N C) (c : C) (cap : ℕ) (policy : Policy) → FailsFine B c cap policy (Unit {0})
all_fine B c cap policy Fits deep turn_on args (fails i) keeps gives_ succeeds h is = tt
all_fine B c cap policy Fits deep turn_on args (gives x l) keeps gives_ succeeds h is = tt

succeeds_if : {A : Type 0} (r : Answer A) → IfFails ⊥ r → Succeeds r
succeeds_if (fails i) h = h
succeeds_if (gives x l) h = tt

fails_if : {A : Type 0} (r : Answer A) → Succeeds r → IfFails ⊥ r
fails_if (fails i) h = h
fails_if (gives x l) h = tt

pub none_fails : {W N C : Type 0} (B : Algebra W N C) (c : C) (cap unroll delay : ℕ) → FailsFine B c cap (Widen unroll delay) ⊥
none_fails B c cap unroll delay Fits deep turn_on args answer keeps gives_ succeeds h is =
    fails_if answer (widened_answers_succeed Fits (moves B c cap) unroll delay deep turn_on args [] answer keeps gives_ h (λ args l k. succeeds_if (turn_on args l) (succeeds args l k)) is)

module _ {W N C : Type 0} (B : Algebra W N C) (laws : Laws W N C B) (c : C) (cap : ℕ) (spec : Spec) (a : ℕ) (P : Abs W N → Type 0) (inv : Invariant B c cap (environment_of spec) a P)
    (widens : (x y : Abs W N) → P x → P y → P (widen_of B c x y)) (room : HasRoom B cap) (ok : IsAccepted spec) where
  widen_kept : (ty : Ty) (x y : Abs W N) → IsOf B c cap (environment_of spec) P ty x → IsOf B c cap (environment_of spec) P ty y → IsOf B c cap (environment_of spec) P ty (widen_of B c x y)
  widen_kept ty x y h k =
      let is = type_is B c cap (environment_of spec) P ty x h in
      record {
        has = (types_are_shapes B (environment_of spec) ty (widen_of B c x y) ok.types is).1
            (widen_shapes B laws c (shape_of (environment_of spec) ty) x y ((types_are_shapes B (environment_of spec) ty x ok.types is).0 h.has) ((types_are_shapes B (environment_of spec) ty y ok.types is).0 k.has));
        fits = widen_fits B laws c cap x y h.fits k.fits;
        also = widens x y h.also k.also;
      }

  all_widened : (ts : List Ty) (xs ys : List (Abs W N)) → AreOf B c cap (environment_of spec) P ts xs → AreOf B c cap (environment_of spec) P ts ys → AreOf B c cap (environment_of spec) P ts (merge_all (widen_of B c) xs ys)
  all_widened [] [] [] h k = tt
  all_widened [] [] (y ∷ ys) h k = absurd k
  all_widened [] (x ∷ xs) ys h k = absurd h
  all_widened (t ∷ ts) [] ys h k = absurd h
  all_widened (t ∷ ts) (x ∷ xs) [] h k = absurd k
  all_widened (t ∷ ts) (x ∷ xs) (y ∷ ys) h k = (widen_kept t x y h.0 k.0, all_widened ts xs ys h.1 k.1)

  args_widened : (g f : ℕ) (xs ys : List (Abs W N)) → ArgsOf B laws c cap spec a P g f xs → ArgsOf B laws c cap spec a P g f ys → ArgsOf B laws c cap spec a P g f (merge_all (widen_of B c) xs ys)
  args_widened g f xs ys h k = record { there = h.there; of_group = h.of_group; are = all_widened (params_of spec f) xs ys h.are k.are }

  pub keeps_args : (g : ℕ) → KeepsArgs (moves B c cap) (EachIs (ArgsOf B laws c cap spec a P g))
  keeps_args g = record {
    join_args = λ x y hx hy. merge_each_kept (ArgsOf B laws c cap spec a P g) (merge_all (join_of B c cap)) x y (args_joined B laws c cap spec a P inv room ok.types (keys_fine spec ok) g) hx hy;
    widen_args = λ x y hx hy. merge_each_kept (ArgsOf B laws c cap spec a P g) (merge_all (widen_of B c)) x y (args_widened g) hx hy;
  }

  pub keeps_out : (ty : Ty) → KeepsOut (moves B c cap) (IsOf B c cap (environment_of spec) P ty)
  keeps_out ty = record { join_out = join_kept B laws c cap spec a P inv room ok.types (keys_fine spec ok) ty }

  -- the bodies of a group have the type of its results, and call in order
  pub right_of : (f : ℕ) (fun : Fun) → slice_get spec.funs f ≡ Some fun → (h : ℕ) (other : Fun) → slice_get spec.funs h ≡ Some other → group_of spec h ≡ group_of spec f
      → HasCoreType (environment_of spec) other.params other.core fun.result_type × CallsInOrder (group_of spec) ok.rank (group_of spec f) other.core
  right_of f fun e h other d same =
      let group : group_of spec f ≡ fun.group = ap group_at e in
      let others : group_of spec h ≡ other.group = ap group_at d in
      let one : other.result_type ≡ fun.result_type = ok.alike h f other fun d e (sym others ∙ same ∙ group) in (
        subst (HasCoreType (environment_of spec) other.params other.core) one (cores_have_types spec h other ok d),
        subst (λ z. CallsInOrder (group_of spec) ok.rank z other.core) (sym others ∙ same) (cores_call_in_order spec ok h other d),
      )

  from_nothing : (l : List Seen) → Keeps [] l
  from_nothing l r h = absurd h

  finished : (Fine : Type 0) (Q : Abs W N → Type 0) (r : Answer (Abs W N)) → IfGives r Q → IfFails Fine r → IsKept Fine Q [] r
  finished Fine Q (fails i) h k = k
  finished Fine Q (gives x l) h k = (h, from_nothing l)

  -- ---- an answer of an activation
  module _ (Fine : Type 0) (policy : Policy) (calls : ℕ → List (Abs W N) → Answer (Abs W N)) (fails_fine : FailsFine B c cap policy Fine) where
    abbrev BelowKept : ℕ → Type 0
    BelowKept n = (h : ℕ) (s : Signature) (xs : List (Abs W N)) → ok.rank (group_of spec h) < n → slice_get (environment_of spec).funs h ≡ Some s → AreOf B c cap (environment_of spec) P s.params xs
        → IsKept Fine (IsOf B c cap (environment_of spec) P s.result_type) [] (calls h xs)

    pub turn_gives : (f : ℕ) (fun : Fun) → slice_get spec.funs f ≡ Some fun → BelowKept (ok.rank (group_of spec f))
        → (args : GroupArgs W N) → EachIs (ArgsOf B laws c cap spec a P (group_of spec f)) args → Keeping Fine (IsYield B laws c cap spec a P (group_of spec f) fun.result_type) (group_turn B c cap spec a calls (group_of spec f) args)
    turn_gives f fun e below args h = group_kept B laws c cap spec a P inv room ok.types (keys_fine spec ok) Fine calls ok.rank (group_of spec f) below fun.result_type (right_of f fun e) args h

    yield_fits : (g : ℕ) (ty : Ty) (l : List Seen) (r : Answer (Yield (GroupArgs W N) (Abs W N))) → IsKept Fine (IsYield B laws c cap spec a P g ty) l r
        → IfGives r (YieldFits (EachIs (ArgsOf B laws c cap spec a P g)) (IsOf B c cap (environment_of spec) P ty))
    yield_fits g ty l (fails i) h = tt
    yield_fits g ty l (gives None m) h = tt
    yield_fits g ty l (gives (Some y) m) h = (h.0.out, h.0.next)

    next_fits : (g : ℕ) (ty : Ty) (l : List Seen) (r : Answer (Yield (GroupArgs W N) (Abs W N))) → IsKept Fine (IsYield B laws c cap spec a P g ty) l r → IfGives r (λ y. IfSome y.next (EachIs (ArgsOf B laws c cap spec a P g)))
    next_fits g ty l (fails i) h = tt
    next_fits g ty l (gives None m) h = tt
    next_fits g ty l (gives (Some y) m) h = h.0.next

    fails_so : {A : Type 0} (Q : A → Type 0) (l : List Seen) (r : Answer A) → IsKept Fine Q l r → IfFails Fine r
    fails_so Q l (fails i) h = h
    fails_so Q l (gives x m) h = tt

    pub answer_kept : (f : ℕ) (fun : Fun) → slice_get spec.funs f ≡ Some fun → BelowKept (ok.rank (group_of spec f)) → (args : GroupArgs W N) (answer : Answer (Abs W N)) → EachIs (ArgsOf B laws c cap spec a P (group_of spec f)) args
        → IsAnswer f (group_turn B c cap spec a calls (group_of spec f)) (moves B c cap) policy args [] answer → IsKept Fine (IsOf B c cap (environment_of spec) P fun.result_type) [] answer
    answer_kept f fun e below args answer h is =
        finished Fine (IsOf B c cap (environment_of spec) P fun.result_type) answer
        (answers_fit (EachIs (ArgsOf B laws c cap spec a P (group_of spec f))) (IsOf B c cap (environment_of spec) P fun.result_type) (moves B c cap) policy f (group_turn B c cap spec a calls (group_of spec f)) args [] answer
        (keeps_args (group_of spec f)) (keeps_out fun.result_type) (λ args l k. yield_fits (group_of spec f) fun.result_type l _ (turn_gives f fun e below args k l)) h is)
        (fails_fine (EachIs (ArgsOf B laws c cap spec a P (group_of spec f))) f (group_turn B c cap spec a calls (group_of spec f)) args answer (keeps_args (group_of spec f))
        (λ args l k. next_fits (group_of spec f) fun.result_type l _ (turn_gives f fun e below args k l)) (λ args l k. fails_so _ l _ (turn_gives f fun e below args k l)) h is)

    module _ (right : AreRight B c cap spec a policy calls) where
      pub calls_kept : (n : ℕ) → BelowKept n
      calls_kept zero f s xs lt e h = absurd (omega (arith, lt))
      calls_kept (suc n) f s xs lt e h = at (fun_of spec f s e) (λ g r ys small. calls_kept n g r ys (omega (arith, small, lt)))
        where
          at : FunOf spec f s → BelowKept (ok.rank (group_of spec f)) → IsKept Fine (IsOf B c cap (environment_of spec) P s.result_type) [] (calls f xs)
          at fun below =
              let params : s.params ≡ params_of spec f = ap (λ z. z.params) (sym fun.same) ∙ sym (ap params_in fun.is) in
              let are : AreOf B c cap (environment_of spec) P (params_of spec f) xs = subst (λ ts. AreOf B c cap (environment_of spec) P ts xs) params h in
              let here = slice_get_within spec.funs f fun.fun fun.is in
              let given = right.answered f xs here (record { typed = are_typed B c cap (environment_of spec) P (params_of spec f) xs are; fit = are_fit B c cap (environment_of spec) P (params_of spec f) xs are }) in
              subst (λ z. IsKept Fine (IsOf B c cap (environment_of spec) P z) [] (calls f xs)) (ap (λ z. z.result_type) fun.same)
              (answer_kept f fun.fun fun.is below (only_of f xs) (calls f xs) (only_is (ArgsOf B laws c cap spec a P (group_of spec f)) f xs (record { there = here; of_group = refl; are = are })) given)
