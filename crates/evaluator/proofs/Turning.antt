-- Bodies of the functions of a group, one after the other.
use Rattle.std.proofs.Common.{◌≡◌, ◌∙◌, ◌&&◌, ℕ, zero, suc, ◌+◌, Bool, true, false, List, [], ◌∷◌, length, Option, Some, None, option_map, slice_get, refl, sym, ap, subst, add-one}
use Rattle.std.specs.Prelude.{All, IfSome}
use Rattle.std.proofs.lemmas.List.Elements.{All-cons, All-nil}
use Rattle.std.proofs.lemmas.Option.{same_Some as some_is}
use Rattle.base_trait.specs.Algebra.{Algebra}
use Rattle.base_trait.specs.Uses.{Seen}
use Rattle.spec_ir.specs.declared.ty.Ty.{Ty}
use Rattle.spec_ir.specs.Specification.{Spec}
use Rattle.semantics_values.specs.Types.{environment_of}
use Rattle.eval_code.specs.Asks.{AsksWithin}
use Rattle.eval_code.specs.Code.{FunCode, Tail}
use Rattle.eval_code.specs.Views.{code}
use Rattle.eval_code_accepted.proofs.Asking.{accepted_code_asks_within}
use Rattle.eval_code_meaning.specs.Meaning.{code_turn}
use Rattle.eval_code_meaning.proofs.Groups.{body_alike}
use Rattle.abstract_value_laws.specs.Abs.{Abs, parts as parts_of}
use Rattle.abstract_value_laws.specs.Fits.{Fits, PartsFit}
use Rattle.abstract_value_laws.specs.Types.{has_type, have_types}
use Rattle.support_tail_fixpoint.specs.Answer.{Yield, fails, gives}
use Rattle.support_tail_fixpoint.specs.Groups.{join_some, only}
use Rattle.abstract_semantics.specs.Answers.{Answer, Evaluation, joined_from, then_on}
use Rattle.abstract_semantics.specs.Terms as terms
use Rattle.abstract_semantics.specs.Terms.{GroupArgs, params_of}
use Rattle.eval_memo.specs.declared.setting.Setting.{Setting}
use Rattle.eval_memo.specs.Ready.{ArgsOf, EachFrom, IsReady}
use Rattle.eval_memo.specs.Settings.{body_turn, from_number, given_bodies, group_of, group_turn, join_yields, spec_of}
use Rattle.evaluator.specs.Arms.{given_tail}

both_true : (a b : Bool) → (a && b) ≡ true → b ≡ true
both_true true b e = e
both_true false b e = absurd cc

-- ---- lists that are there, each such as its function has
pub each_head : {A : Type 0} (P : ℕ → A → Type 0) (i : ℕ) (o : Option A) (xs : List (Option A)) → EachFrom P i (o ∷ xs) → IfSome o (P i)
each_head P zero o xs h = h.0
each_head P (suc i) o xs h = each_head (λ k. P (suc k)) i o xs h

next_so : {A : Type 0} (P : ℕ → A → Type 0) (i : ℕ) (o : Option A) (xs : List (Option A)) → EachFrom P i (o ∷ xs) → EachFrom P (suc i) xs
next_so P zero o xs h = h.1
next_so P (suc i) o xs h = next_so (λ k. P (suc k)) i o xs h

pub each_next : {A : Type 0} (P : ℕ → A → Type 0) (i : ℕ) (o : Option A) (xs : List (Option A)) → EachFrom P i (o ∷ xs) → EachFrom P (i + 1) xs
each_next P i o xs h = rw (add-one) (next_so P i o xs h)

module _ {X W N C : Type 0} (B : Algebra W N C) (cap : ℕ) (on : ℕ → List (Abs W N) → Answer (Abs W N)) (s : Setting X W N C) (g : ℕ) where
  abbrev j : Yield (GroupArgs W N) (Abs W N) → Yield (GroupArgs W N) (Abs W N) → Yield (GroupArgs W N) (Abs W N)
  j = join_yields B cap on s

  abbrev given_from : ℕ → Option (Yield (GroupArgs W N) (Abs W N)) → GroupArgs W N → Evaluation (Yield (GroupArgs W N) (Abs W N))
  given_from = given_bodies B cap on s g

  number_is : {A : Type 0} (i : ℕ) (f : ℕ → A) → from_number B cap on s g i f zero ≡ f i
  number_is zero f = refl
  number_is (suc i) f = number_is i (λ k. f (suc k))

  number_next : {A : Type 0} (i : ℕ) (f : ℕ → A) → (λ k. from_number B cap on s g i f (suc k)) ≡ from_number B cap on s g (suc i) f
  number_next zero f = refl
  number_next (suc i) f = number_next i (λ k. f (suc k))

  -- ---- a turn on arguments of one function alone is its body
  only_body : (f : ℕ → List (Abs W N) → Evaluation (Yield (GroupArgs W N) (Abs W N))) (i : ℕ) (xs : List (Abs W N)) → terms.bodies B s.ctx.now cap (spec_of s) s.at f (only i xs) ≡ f i xs ∷ []
  only_body f zero xs = refl
  only_body f (suc i) xs = only_body (λ k. f (suc k)) i xs

  pub only_turn : (i : ℕ) (xs : List (Abs W N)) (l : List Seen) → group_turn B cap on s g (only i xs) l ≡ given_from i None (Some xs ∷ []) l
  only_turn i xs l = ap (λ fs. joined_from j None fs l) (only_body (body_turn B cap on s g) i xs) ∙ sym (ap (λ f. joined_from j None (f xs ∷ []) l) (number_is i (body_turn B cap on s g)))

  -- ---- one body, whose code gives what its core term gives
  module _ (i : ℕ) (first : Option (Yield (GroupArgs W N) (Abs W N))) (xs : List (Abs W N)) (x : Tail) (l : List Seen) (is : (m : List Seen) → body_turn B cap on s g i xs m ≡ given_tail B cap on s xs x m) where
    pub body_some : given_from i first (Some xs ∷ []) l ≡ then_on (given_tail B cap on s xs x l) (λ y l. gives (join_some j first y) l)
    body_some = ap (λ f. then_on (f xs l) (λ y l. gives (join_some j first y) l)) (number_is i (body_turn B cap on s g)) ∙ ap (λ r. then_on r (λ y l. gives (join_some j first y) l)) (is l)

    pub body_fails : (k : ℕ) → given_tail B cap on s xs x l ≡ fails k → given_from i first (Some xs ∷ []) l ≡ fails k
    body_fails k e = body_some ∙ ap (λ r. then_on r (λ y l. gives (join_some j first y) l)) e

    pub body_gives : (y : Option (Yield (GroupArgs W N) (Abs W N))) (m : List Seen) → given_tail B cap on s xs x l ≡ gives y m → given_from i first (Some xs ∷ []) l ≡ gives (join_some j first y) m
    body_gives y m e = body_some ∙ ap (λ r. then_on r (λ y l. gives (join_some j first y) l)) e

  -- ---- one body after the other
  later_so : (i : ℕ) (first : Option (Yield (GroupArgs W N) (Abs W N))) (rest : GroupArgs W N) (l : List Seen)
      → joined_from j first (terms.bodies B s.ctx.now cap (spec_of s) s.at (λ k. from_number B cap on s g i (body_turn B cap on s g) (suc k)) rest) l ≡ given_from (i + 1) first rest l
  later_so i first rest l =
      rw (add-one) (ap (λ f. joined_from j first (terms.bodies B s.ctx.now cap (spec_of s) s.at f rest) l) (number_next i (body_turn B cap on s g)))

  bodies_step : (i : ℕ) (first : Option (Yield (GroupArgs W N) (Abs W N))) (o : Option (List (Abs W N))) (rest : GroupArgs W N) (l : List Seen)
      → given_from i first (o ∷ rest) l ≡ then_on (given_from i first (o ∷ []) l) (λ y l. given_from (i + 1) y rest l)
  bodies_step i first None rest l = later_so i first rest l
  bodies_step i first (Some xs) rest l = at (from_number B cap on s g i (body_turn B cap on s g) zero xs l)
    where
      at : (r : Answer (Yield (GroupArgs W N) (Abs W N)))
          → then_on r (λ y l. joined_from j (join_some j first y) (terms.bodies B s.ctx.now cap (spec_of s) s.at (λ k. from_number B cap on s g i (body_turn B cap on s g) (suc k)) rest) l)
          ≡ then_on (then_on r (λ y l. gives (join_some j first y) l)) (λ y l. given_from (i + 1) y rest l)
      at (fails k) = refl
      at (gives y m) = later_so i (join_some j first y) rest m

  pub bodies_fail : (i : ℕ) (first : Option (Yield (GroupArgs W N) (Abs W N))) (o : Option (List (Abs W N))) (rest : GroupArgs W N) (l : List Seen) (k : ℕ) → given_from i first (o ∷ []) l ≡ fails k → given_from i first (o ∷ rest) l ≡ fails k
  bodies_fail i first o rest l k is = bodies_step i first o rest l ∙ ap (λ r. then_on r (λ y l. given_from (i + 1) y rest l)) is

  pub bodies_next : (i : ℕ) (first : Option (Yield (GroupArgs W N) (Abs W N))) (o : Option (List (Abs W N))) (rest : GroupArgs W N) (l : List Seen) (y : Option (Yield (GroupArgs W N) (Abs W N))) (m : List Seen)
      → given_from i first (o ∷ []) l ≡ gives y m → given_from i first (o ∷ rest) l ≡ given_from (i + 1) y rest m
  bodies_next i first o rest l y m is = bodies_step i first o rest l ∙ ap (λ r. then_on r (λ y l. given_from (i + 1) y rest l)) is

-- ---- what is known of a body
module _ {X W N C : Type 0} (B : Algebra W N C) (cap : ℕ) (s : Setting X W N C) where
  pub args_fit : (xs : List (Abs W N)) → PartsFit B s.ctx.now cap (parts_of xs) → All (Fits B s.ctx.now cap) xs
  args_fit [] h = All-nil (Fits B s.ctx.now cap)
  args_fit (x ∷ xs) h = All-cons (Fits B s.ctx.now cap) x xs h.0 (args_fit xs h.1)

  -- as many values as types
  counted : (ts : List Ty) (xs : List (Abs W N)) → have_types (environment_of (spec_of s)) (parts_of xs) ts ≡ true → length xs ≡ length ts
  counted [] [] e = refl
  counted [] (x ∷ xs) e = absurd cc
  counted (t ∷ ts) [] e = absurd cc
  counted (t ∷ ts) (x ∷ xs) e = ap suc (counted ts xs (both_true (has_type (environment_of (spec_of s)) x t) (have_types (environment_of (spec_of s)) (parts_of xs) ts) e))

  module _ (spec : Spec) (on : ℕ → List (Abs W N) → Answer (Abs W N)) (ready : IsReady B cap s spec on) (g i : ℕ) (t : Tail) (is : option_map (λ f. f.body) (slice_get (code s.cir.now) i) ≡ Some t) where
    with_code : (P : Tail → Type 0) → ((f : FunCode) → slice_get (code s.cir.now) i ≡ Some f → P f.body) → P t
    with_code P go = at (slice_get (code s.cir.now) i) refl is
      where
        at : (o : Option FunCode) → slice_get (code s.cir.now) i ≡ o → option_map (λ f. f.body) o ≡ Some t → P t
        at None k e = absurd cc
        at (Some f) k e = subst P (some_is f.body t e) (go f k)

    -- the body of a function of the group asks for turns of functions that are there, of the group
    pub body_asks : group_of s i ≡ g → AsksWithin (length (spec_of s).funs) (group_of s) g t
    body_asks of_group =
        with_code (AsksWithin (length (spec_of s).funs) (group_of s) g)
        (λ f k. subst (λ z. AsksWithin (length (spec_of s).funs) (group_of s) z f.body) of_group (accepted_code_asks_within (spec_of s) (code s.cir.now) i f ready.accepted ready.code_is k))

    -- and its code gives what its core term gives
    pub body_is : (xs : List (Abs W N)) → ArgsOf B cap s g i xs → (m : List Seen) → body_turn B cap on s g i xs m ≡ given_tail B cap on s xs t m
    body_is xs are m =
        with_code (λ t. body_turn B cap on s g i xs m ≡ given_tail B cap on s xs t m)
        (λ f k. sym (body_alike B s.ctx.now cap (spec_of s) s.at on (code s.cir.now) ready.code_is ready.accepted g i (slice_get (spec_of s).funs i) refl xs (are.of_group, counted (params_of (spec_of s) i) xs are.are.typed) m)
        ∙ ap (λ o. code_turn B s.ctx.now cap (spec_of s) s.at on o xs m) k)
