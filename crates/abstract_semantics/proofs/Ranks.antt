-- An accepted specification is accepted by the depths of its groups.
use Rattle.std.proofs.Common.{◌≡◌, ◌⊎◌, ℕ, zero, suc, ◌<◌, ◌≤◌, max, Bool, true, false, cond, ◌==◌, Some, List, [], ◌∷◌, length, slice_get, refl, sym, ap, ap₂, ◌∙◌, subst, inl, inr, arith}
use Rattle.std.specs.List.{All}
use Rattle.std.proofs.Math.Nat.{le-max_left, le-max_right, max-le}
use Rattle.std.proofs.lemmas.Bool.Decides.{nat_tests}
use Rattle.std.proofs.lemmas.List.Elements.{All-nil, All-cons}
use Rattle.base_trait.specs.Lists.{Each}
use Rattle.spec_ir.specs.Specification.{Spec, Fun}
use Rattle.spec_calls.specs.declared.call.Call.{Call}
use Rattle.spec_calls.specs.Calls.{calls}
use Rattle.semantics.specs.Direct.{group_at, group_of}
use Rattle.semantics_laws.specs.Accepted.{IsAccepted, IsInOrder, IsRight}
use Rattle.abstract_semantics.specs.GroupRanks.{RanksCount, call_depth, calls_depth, depth_of, functions_depth, rank_of}

-- ---- what holds of each item
each_from : {A : Type 0} (P : A → Type 0) (xs : List A) → All P xs → Each P xs
each_from P [] h = tt
each_from P (x ∷ xs) h = (h 0 x (omega arith), each_from P xs (λ i d lt. h (suc i) d (omega (arith, lt))))

all_from : {A : Type 0} (P : A → Type 0) (xs : List A) → Each P xs → All P xs
all_from P [] h = All-nil P
all_from P (x ∷ xs) h = All-cons P x xs h.0 (all_from P xs h.1)

each_more : {A : Type 0} (P Q : A → Type 0) (xs : List A) → ((x : A) → P x → Q x) → Each P xs → Each Q xs
each_more P Q [] f h = tt
each_more P Q (x ∷ xs) f h = (f x h.0, each_more P Q xs f h.1)

each_both : {A : Type 0} (P Q R : A → Type 0) (xs : List A) → ((x : A) → P x → Q x → R x) → Each P xs → Each Q xs → Each R xs
each_both P Q R [] f h k = tt
each_both P Q R (x ∷ xs) f h k = (f x h.0 k.0, each_both P Q R xs f h.1 k.1)

each_free : {A : Type 0} (P : A → Type 0) (xs : List A) → ((x : A) → P x) → Each P xs
each_free P [] f = tt
each_free P (x ∷ xs) f = (f x, each_free P xs f)

each_at : {A : Type 0} (P : A → Type 0) (xs : List A) → ((i : ℕ) (x : A) → slice_get xs i ≡ Some x → P x) → Each P xs
each_at P [] f = tt
each_at P (x ∷ xs) f = (f 0 x refl, each_at P xs (λ i y e. f (suc i) y e))

module _ (spec : Spec) (rank : ℕ → ℕ) where
  -- a call from group g is of that group, or of one of lower rank
  abbrev IsNext : ℕ → Call → Type 0
  IsNext g c = (group_of spec c.fun ≡ g) ⊎ (rank (group_of spec c.fun) < rank g)

  abbrev AreNext : Fun → Type 0
  AreNext f = Each (IsNext f.group) (calls true f.body)

  -- ---- depths that are the same at lower ranks give the same
  module _ (d e : ℕ → ℕ) (g : ℕ) (same : (x : ℕ) → rank x < rank g → d x ≡ e x) where
    call_same : (c : Call) → IsNext g c → call_depth spec d g c ≡ call_depth spec e g c
    call_same c h = picked (group_of spec c.fun == g) refl h
      where
        picked : (b : Bool) → (group_of spec c.fun == g) ≡ b → IsNext g c → cond b 0 (suc (d (group_of spec c.fun))) ≡ cond b 0 (suc (e (group_of spec c.fun)))
        picked true k h = refl
        picked false k (inl h) = absurd (grind (arith, nat_tests))
        picked false k (inr h) = ap suc (same (group_of spec c.fun) h)

    calls_same : (cs : List Call) → Each (IsNext g) cs → calls_depth spec d g cs ≡ calls_depth spec e g cs
    calls_same [] h = refl
    calls_same (c ∷ cs) h = ap₂ max (call_same c h.0) (calls_same cs h.1)

    function_same : (f : Fun) (b : Bool) → (f.group == g) ≡ b → AreNext f → cond b (calls_depth spec d g (calls true f.body)) 0 ≡ cond b (calls_depth spec e g (calls true f.body)) 0
    function_same f false k h = refl
    function_same f true k h = calls_same (calls true f.body) (subst (λ x. Each (IsNext x) (calls true f.body)) (grind (arith, nat_tests)) h)

    functions_same : (fs : List Fun) → Each AreNext fs → functions_depth spec d g fs ≡ functions_depth spec e g fs
    functions_same [] h = refl
    functions_same (f ∷ fs) h = ap₂ max (function_same f (f.group == g) refl h.0) (functions_same fs h.1)

  -- ---- depths that are below ranks stay below them
  module _ (d : ℕ → ℕ) (g : ℕ) (below : (x : ℕ) → d x ≤ rank x) where
    call_below : (c : Call) → IsNext g c → call_depth spec d g c ≤ rank g
    call_below c h = picked (group_of spec c.fun == g) refl h
      where
        picked : (b : Bool) → (group_of spec c.fun == g) ≡ b → IsNext g c → cond b 0 (suc (d (group_of spec c.fun))) ≤ rank g
        picked true k h = omega arith
        picked false k (inl h) = absurd (grind (arith, nat_tests))
        picked false k (inr h) = omega (arith, below (group_of spec c.fun), h)

    calls_below : (cs : List Call) → Each (IsNext g) cs → calls_depth spec d g cs ≤ rank g
    calls_below [] h = omega arith
    calls_below (c ∷ cs) h = max-le (call_below c h.0) (calls_below cs h.1)

    function_below : (f : Fun) (b : Bool) → (f.group == g) ≡ b → AreNext f → cond b (calls_depth spec d g (calls true f.body)) 0 ≤ rank g
    function_below f false k h = omega arith
    function_below f true k h = calls_below (calls true f.body) (subst (λ x. Each (IsNext x) (calls true f.body)) (grind (arith, nat_tests)) h)

    functions_below : (fs : List Fun) → Each AreNext fs → functions_depth spec d g fs ≤ rank g
    functions_below [] h = omega arith
    functions_below (f ∷ fs) h = max-le (function_below f (f.group == g) refl h.0) (functions_below fs h.1)

  module _ (ordered : Each AreNext spec.funs) where
    depth_below : (k g : ℕ) → depth_of spec k g ≤ rank g
    depth_below zero g = omega arith
    depth_below (suc k) g = functions_below (depth_of spec k) g (depth_below k) spec.funs ordered

    -- depths are settled once there are as many steps as the rank of the group
    settled : (k m g : ℕ) → rank g ≤ k → rank g ≤ m → depth_of spec k g ≡ depth_of spec m g
    settled zero m g lk lm = omega (arith, depth_below m g, lk)
    settled (suc k) zero g lk lm = omega (arith, depth_below (suc k) g, lm)
    settled (suc k) (suc m) g lk lm = functions_same (depth_of spec k) (depth_of spec m) g (λ x lt. settled k m x (omega (arith, lt, lk)) (omega (arith, lt, lm))) spec.funs ordered

  -- ---- a call of another group is counted
  module _ (d : ℕ → ℕ) (g : ℕ) where
    abbrev IsCounted : ℕ → Call → Type 0
    IsCounted n c = (group_of spec c.fun ≡ g) ⊎ (d (group_of spec c.fun) < n)

    call_counted : (c : Call) → IsCounted (call_depth spec d g c) c
    call_counted c = picked (group_of spec c.fun == g) refl
      where
        picked : (b : Bool) → (group_of spec c.fun == g) ≡ b → IsCounted (cond b 0 (suc (d (group_of spec c.fun)))) c
        picked true k = inl (grind (arith, nat_tests))
        picked false k = inr (omega arith)

    counted_more : (m n : ℕ) → m ≤ n → (c : Call) → IsCounted m c → IsCounted n c
    counted_more m n le c (inl h) = inl h
    counted_more m n le c (inr h) = inr (omega (arith, h, le))

    calls_counted : (cs : List Call) → Each (IsCounted (calls_depth spec d g cs)) cs
    calls_counted [] = tt
    calls_counted (c ∷ cs) =
        let own = call_depth spec d g c in
        let rest = calls_depth spec d g cs in
        (counted_more own (max own rest) (le-max_left own rest) c (call_counted c), each_more (IsCounted rest) (IsCounted (max own rest)) cs (counted_more rest (max own rest) (le-max_right own rest)) (calls_counted cs))

    function_counted : (f : Fun) (n : ℕ) (b : Bool) → f.group ≡ g → (f.group == g) ≡ b → cond b (calls_depth spec d g (calls true f.body)) 0 ≤ n → Each (IsCounted n) (calls true f.body)
    function_counted f n true e k le = each_more (IsCounted (calls_depth spec d g (calls true f.body))) (IsCounted n) (calls true f.body) (counted_more (calls_depth spec d g (calls true f.body)) n le) (calls_counted (calls true f.body))
    function_counted f n false e k le = absurd (grind (arith, nat_tests))

    functions_counted : (fs : List Fun) (i : ℕ) (f : Fun) (n : ℕ) → slice_get fs i ≡ Some f → f.group ≡ g → functions_depth spec d g fs ≤ n → Each (IsCounted n) (calls true f.body)
    functions_counted [] i f n e own le = absurd cc
    functions_counted (x ∷ fs) zero f n e own le =
        let is : x ≡ f = cc in
        let first = cond (x.group == g) (calls_depth spec d g (calls true x.body)) 0 in
        subst (λ z. Each (IsCounted n) (calls true z.body)) is (function_counted x n (x.group == g) (ap (λ z. z.group) is ∙ own) refl (omega (arith, le-max_left first (functions_depth spec d g fs), le)))
    functions_counted (x ∷ fs) (suc i) f n e own le =
        let first = cond (x.group == g) (calls_depth spec d g (calls true x.body)) 0 in
        functions_counted fs i f n e own (omega (arith, le-max_right first (functions_depth spec d g fs), le))

  -- ---- so depths fall where ranks do
  module _ (ordered : Each AreNext spec.funs) where
    abbrev Falls : ℕ → ℕ → Call → Type 0
    Falls n g c = rank (group_of spec c.fun) < rank g → depth_of spec n (group_of spec c.fun) < depth_of spec n g

    counted_falls : (n g : ℕ) → rank g ≤ suc n → (c : Call) → IsCounted (depth_of spec n) g (depth_of spec (suc n) g) c → Falls (suc n) g c
    counted_falls n g le c (inl e) lt = let same : rank g < rank g = subst (λ x. rank x < rank g) e lt in absurd (omega (arith, same))
    counted_falls n g le c (inr h) lt = omega (arith, h, settled ordered n (suc n) (group_of spec c.fun) (omega (arith, le, lt)) (omega (arith, le, lt)))

    each_falls : (n i : ℕ) (f : Fun) → slice_get spec.funs i ≡ Some f → rank f.group ≤ n → Each (Falls n f.group) (calls true f.body)
    each_falls zero i f e le = each_free (Falls 0 f.group) (calls true f.body) (λ c lt. absurd (omega (arith, lt, le)))
    each_falls (suc n) i f e le =
        each_more (IsCounted (depth_of spec n) f.group (depth_of spec (suc n) f.group)) (Falls (suc n) f.group) (calls true f.body) (counted_falls n f.group le)
        (functions_counted (depth_of spec n) f.group spec.funs i f (depth_of spec (suc n) f.group) e refl (omega arith))

-- ---- the law
module _ (spec : Spec) (ok : IsAccepted spec) where
  ordered : Each (AreNext spec ok.rank) spec.funs
  ordered = each_at (AreNext spec ok.rank) spec.funs (λ i f e. each_more (IsInOrder spec ok.rank i) (IsNext spec ok.rank f.group) (calls true f.body) (next i f e) (each_from (IsInOrder spec ok.rank i) (calls true f.body) (ok.right i f e).calls_in_order))
    where
      next : (i : ℕ) (f : Fun) → slice_get spec.funs i ≡ Some f → (c : Call) → IsInOrder spec ok.rank i c → IsNext spec ok.rank f.group c
      next i f e c (inl h) = inl (h.0 ∙ ap group_at e)
      next i f e c (inr h) = inr (subst (λ g. ok.rank (group_of spec c.fun) < ok.rank g) (ap group_at e) h)

  calls_again : (i : ℕ) (f : Fun) → slice_get spec.funs i ≡ Some f → All (IsInOrder spec (rank_of spec) i) (calls true f.body)
  calls_again i f e =
      all_from (IsInOrder spec (rank_of spec) i) (calls true f.body)
      (each_both (IsInOrder spec ok.rank i) (Falls spec ok.rank ordered (length spec.funs) f.group) (IsInOrder spec (rank_of spec) i) (calls true f.body) again
      (each_from (IsInOrder spec ok.rank i) (calls true f.body) (ok.right i f e).calls_in_order) (each_falls spec ok.rank ordered (length spec.funs) i f e (ok.right i f e).bound))
    where
      again : (c : Call) → IsInOrder spec ok.rank i c → Falls spec ok.rank ordered (length spec.funs) f.group c → IsInOrder spec (rank_of spec) i c
      again c (inl h) falls = inl h
      again c (inr h) falls = inr (subst (λ g. rank_of spec (group_of spec c.fun) < rank_of spec g) (sym (ap group_at e)) (falls (subst (λ g. ok.rank (group_of spec c.fun) < ok.rank g) (ap group_at e) h)))

  right_again : (i : ℕ) (f : Fun) → slice_get spec.funs i ≡ Some f → IsRight spec (rank_of spec) i f
  right_again i f e =
      let right = ok.right i f e in
      record {
        typed = right.typed;
        total = right.total;
        core = right.core;
        calls_in_order = calls_again i f e;
        first = right.first;
        of_group = right.of_group;
        bound = omega (arith, depth_below spec ok.rank ordered (length spec.funs) f.group, right.bound);
      }

pub ranks_count : RanksCount
ranks_count spec ok = (record { types = ok.types; maps = ok.maps; rank = rank_of spec; right = right_again spec ok; alike = ok.alike; machine = ok.machine }, refl)
