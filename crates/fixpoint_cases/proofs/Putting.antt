-- Elements that arrive beside others.
use Rattle.std.proofs.Common.{◌≡◌, ◌∙◌, ℕ, ◌+◌, ◌≤◌, ◌==◌, nat_lt, true, false, List, [], ◌∷◌, if◌then◌else◌, arith, inl, inr, ap, refl, subst}
use Rattle.std.proofs.lemmas.Bool.Decides.{nat_tests}
use Rattle.base_trait.specs.Lists.{Each, IsAmong, IsAscendingFrom}
use Rattle.base_trait.proofs.Lists.{number_told}
use Rattle.fixpoint_theory.specs.Elements.{ElementLaws, Elements}
use Rattle.fixpoint_theory.specs.Outcome.{AreSameArrivals, addresses, at_each}
use Rattle.fixpoint_theory.proofs.Bounded.{bounds_hold}
use Rattle.fixpoint_theory.proofs.Growth.{by_bool}
use Rattle.fixpoint_cases.specs.Lists.{OneOf}
use Rattle.fixpoint_cases.specs.Sent.{put, put_all}

not_below : (a b : ℕ) → (a == b) ≡ false → nat_lt a b ≡ false → b + 1 ≤ a
not_below a b apart above = grind (arith, nat_tests)

below : (a b : ℕ) → nat_lt a b ≡ true → a + 1 ≤ b
below a b h = grind (arith, nat_tests)

module _ {E S : Type 0} (D : Elements E S) where
  -- ---- a property of elements that joins keep
  module _ (P : E → Type 0) (joined : (x y : E) → P x → P y → P (D.join x y)) where
    pub put_keeps : (x : ℕ × E) (ys : List (ℕ × E)) → P x.1 → Each (λ a. P a.1) ys → Each (λ a. P a.1) (put D x ys)
    put_keeps x [] px pys = (px, tt)
    put_keeps x (y ∷ ys) px pys =
        by_bool (x.0 == y.0) (λ b. Each (λ a. P a.1) (if b then (y.0, D.join y.1 x.1) ∷ ys else (if nat_lt x.0 y.0 then x ∷ y ∷ ys else y ∷ put D x ys)))
        (λ e. (joined y.1 x.1 pys.0 px, pys.1))
        (λ e. by_bool (nat_lt x.0 y.0) (λ b. Each (λ a. P a.1) (if b then x ∷ y ∷ ys else y ∷ put D x ys))
        (λ e. (px, pys))
        (λ e. (pys.0, put_keeps x ys px pys.1)))

    pub all_keep : (xs ys : List (ℕ × E)) → Each (λ a. P a.1) xs → Each (λ a. P a.1) ys → Each (λ a. P a.1) (put_all D xs ys)
    all_keep [] ys pxs pys = pys
    all_keep (x ∷ xs) ys pxs pys = all_keep xs (put D x ys) pxs.1 (put_keeps x ys pxs.0 pys)

  -- ---- addresses ascend
  pub put_ascends : (low : ℕ) (x : ℕ × E) (ys : List (ℕ × E)) → low ≤ x.0 → IsAscendingFrom low (addresses ys) → IsAscendingFrom low (addresses (put D x ys))
  put_ascends low x [] h ascends = (h, tt)
  put_ascends low x (y ∷ ys) h ascends =
      by_bool (x.0 == y.0) (λ b. (x.0 == y.0) ≡ b → IsAscendingFrom low (addresses (if b then (y.0, D.join y.1 x.1) ∷ ys else (if nat_lt x.0 y.0 then x ∷ y ∷ ys else y ∷ put D x ys))))
      (λ e is. ascends)
      (λ e apart. by_bool (nat_lt x.0 y.0) (λ b. nat_lt x.0 y.0 ≡ b → IsAscendingFrom low (addresses (if b then x ∷ y ∷ ys else y ∷ put D x ys)))
      (λ e is. (h, (below x.0 y.0 is, ascends.1)))
      (λ e is. (ascends.0, put_ascends (y.0 + 1) x ys (not_below x.0 y.0 apart is) ascends.1))
      refl)
      refl

  pub all_ascend : (xs ys : List (ℕ × E)) → IsAscendingFrom 0 (addresses ys) → IsAscendingFrom 0 (addresses (put_all D xs ys))
  all_ascend [] ys ascends = ascends
  all_ascend (x ∷ xs) ys ascends = all_ascend xs (put D x ys) (put_ascends 0 x ys (omega arith) ascends)

  module _ (laws : ElementLaws D) where
    pub put_fits : (x : ℕ × E) (ys : List (ℕ × E)) → D.fits x.1 → Each (λ a. D.fits a.1) ys → Each (λ a. D.fits a.1) (put D x ys)
    put_fits x ys fx fys = put_keeps D.fits laws.join_fits x ys fx fys

    pub all_fit : (xs ys : List (ℕ × E)) → Each (λ a. D.fits a.1) xs → Each (λ a. D.fits a.1) ys → Each (λ a. D.fits a.1) (put_all D xs ys)
    all_fit xs ys fxs fys = all_keep D.fits laws.join_fits xs ys fxs fys

    -- ---- elements that are the same
    pub arrivals_itself : (xs : List (ℕ × E)) → AreSameArrivals D xs xs
    arrivals_itself [] = tt
    arrivals_itself (x ∷ xs) = (refl, laws.same_itself x.1, arrivals_itself xs)

    pub arrivals_on : (xs ys zs : List (ℕ × E)) → AreSameArrivals D xs ys → AreSameArrivals D ys zs → AreSameArrivals D xs zs
    arrivals_on [] [] [] h k = tt
    arrivals_on [] [] (z ∷ zs) h k = absurd k
    arrivals_on [] (y ∷ ys) zs h k = absurd h
    arrivals_on (x ∷ xs) [] zs h k = absurd h
    arrivals_on (x ∷ xs) (y ∷ ys) [] h k = absurd k
    arrivals_on (x ∷ xs) (y ∷ ys) (z ∷ zs) h k = (h.0 ∙ k.0, laws.same_on x.1 y.1 z.1 h.1 k.1, arrivals_on xs ys zs h.2 k.2)

    pub put_same : (a : ℕ) (u v : E) (xs ys : List (ℕ × E)) → D.fits u → D.fits v → D.same u v → Each (λ a. D.fits a.1) xs → Each (λ a. D.fits a.1) ys → AreSameArrivals D xs ys
        → AreSameArrivals D (put D (a, u) xs) (put D (a, v) ys)
    put_same a u v [] [] fu fv s fxs fys same = (refl, s, tt)
    put_same a u v [] (y ∷ ys) fu fv s fxs fys same = absurd same
    put_same a u v (x ∷ xs) [] fu fv s fxs fys same = absurd same
    put_same a u v (x ∷ xs) (y ∷ ys) fu fv s fxs fys same = subst (λ b. AreSameArrivals D (put D (a, u) (x ∷ xs)) (put D (a, v) ((b, y.1) ∷ ys))) same.0 (at_one (put_same a u v xs ys fu fv s fxs.1 fys.1 same.2))
      where
        at_one : AreSameArrivals D (put D (a, u) xs) (put D (a, v) ys) → AreSameArrivals D (put D (a, u) (x ∷ xs)) (put D (a, v) ((x.0, y.1) ∷ ys))
        at_one later =
            by_bool (a == x.0) (λ b. AreSameArrivals D (if b then (x.0, D.join x.1 u) ∷ xs else (if nat_lt a x.0 then (a, u) ∷ x ∷ xs else x ∷ put D (a, u) xs))
            (if b then (x.0, D.join y.1 v) ∷ ys else (if nat_lt a x.0 then (a, v) ∷ (x.0, y.1) ∷ ys else (x.0, y.1) ∷ put D (a, v) ys)))
            (λ e. (refl, laws.same_join x.1 y.1 u v fxs.0 fys.0 fu fv same.1 s, same.2))
            (λ e. by_bool (nat_lt a x.0) (λ b. AreSameArrivals D (if b then (a, u) ∷ x ∷ xs else x ∷ put D (a, u) xs) (if b then (a, v) ∷ (x.0, y.1) ∷ ys else (x.0, y.1) ∷ put D (a, v) ys))
            (λ e. (refl, s, (refl, same.1, same.2)))
            (λ e. (refl, same.1, later)))

    pub all_same : (us vs xs ys : List (ℕ × E)) → Each (λ a. D.fits a.1) us → Each (λ a. D.fits a.1) vs → AreSameArrivals D us vs → Each (λ a. D.fits a.1) xs → Each (λ a. D.fits a.1) ys
        → AreSameArrivals D xs ys → AreSameArrivals D (put_all D us xs) (put_all D vs ys)
    all_same [] [] xs ys fu fv s fx fy same = same
    all_same [] (v ∷ vs) xs ys fu fv s fx fy same = absurd s
    all_same (u ∷ us) [] xs ys fu fv s fx fy same = absurd s
    all_same (u ∷ us) (v ∷ vs) xs ys fu fv s fx fy same =
        let here : AreSameArrivals D (put D u xs) (put D v ys) =
        subst (λ b. AreSameArrivals D (put D u xs) (put D (b, v.1) ys)) s.0 (put_same u.0 u.1 v.1 xs ys fu.0 fv.0 s.1 fx fy same) in
        all_same us vs (put D u xs) (put D v ys) fu.1 fv.1 s.2 (put_fits u xs fu.0 fx) (put_fits v ys fv.0 fy) here

    -- ---- an element that holds of a state
    module _ (to : ℕ) (s : S) where
      -- it arrives at this address
      abbrev pub IsHeld : ℕ × E → Type 0
      IsHeld a = (to ≡ a.0) × D.holds a.1 s

      put_old : (x : ℕ × E) (ys : List (ℕ × E)) → D.fits x.1 → Each (λ a. D.fits a.1) ys → OneOf IsHeld ys → OneOf IsHeld (put D x ys)
      put_old x [] fx fys h = absurd h
      put_old x (y ∷ ys) fx fys h =
          by_bool (x.0 == y.0) (λ b. OneOf IsHeld (if b then (y.0, D.join y.1 x.1) ∷ ys else (if nat_lt x.0 y.0 then x ∷ y ∷ ys else y ∷ put D x ys)))
          (λ e. joined h)
          (λ e. by_bool (nat_lt x.0 y.0) (λ b. OneOf IsHeld (if b then x ∷ y ∷ ys else y ∷ put D x ys))
          (λ e. inr h)
          (λ e. later h (λ k. put_old x ys fx fys.1 k)))
        where
          joined : OneOf IsHeld (y ∷ ys) → OneOf IsHeld ((y.0, D.join y.1 x.1) ∷ ys)
          joined (inl k) = inl (k.0, (bounds_hold D laws y.1 x.1 s fys.0 fx (inl k.1)).0)
          joined (inr k) = inr k

          later : OneOf IsHeld (y ∷ ys) → (OneOf IsHeld ys → OneOf IsHeld (put D x ys)) → OneOf IsHeld (y ∷ put D x ys)
          later (inl k) more = inl k
          later (inr k) more = inr (more k)

      put_new : (x : ℕ × E) (ys : List (ℕ × E)) → D.fits x.1 → Each (λ a. D.fits a.1) ys → IsHeld x → OneOf IsHeld (put D x ys)
      put_new x [] fx fys h = inl h
      put_new x (y ∷ ys) fx fys h =
          by_bool (x.0 == y.0) (λ b. (x.0 == y.0) ≡ b → OneOf IsHeld (if b then (y.0, D.join y.1 x.1) ∷ ys else (if nat_lt x.0 y.0 then x ∷ y ∷ ys else y ∷ put D x ys)))
          (λ e is. inl (h.0 ∙ number_told x.0 y.0 is, (bounds_hold D laws y.1 x.1 s fys.0 fx (inr h.1)).0))
          (λ e is. by_bool (nat_lt x.0 y.0) (λ b. OneOf IsHeld (if b then x ∷ y ∷ ys else y ∷ put D x ys))
          (λ e. inl h)
          (λ e. inr (put_new x ys fx fys.1 h)))
          refl

      pub all_old : (xs ys : List (ℕ × E)) → Each (λ a. D.fits a.1) xs → Each (λ a. D.fits a.1) ys → OneOf IsHeld ys → OneOf IsHeld (put_all D xs ys)
      all_old [] ys fxs fys h = h
      all_old (x ∷ xs) ys fxs fys h = all_old xs (put D x ys) fxs.1 (put_fits x ys fxs.0 fys) (put_old x ys fxs.0 fys h)

      pub all_new : (xs ys : List (ℕ × E)) → Each (λ a. D.fits a.1) xs → Each (λ a. D.fits a.1) ys → OneOf IsHeld xs → OneOf IsHeld (put_all D xs ys)
      all_new [] ys fxs fys h = absurd h
      all_new (x ∷ xs) ys fxs fys (inl k) = all_old xs (put D x ys) fxs.1 (put_fits x ys fxs.0 fys) (put_new x ys fxs.0 fys k)
      all_new (x ∷ xs) ys fxs fys (inr k) = all_new xs (put D x ys) fxs.1 (put_fits x ys fxs.0 fys) k

      -- an element behind an instruction, at one of its targets
      pub held_at_each : (x : E) (targets : List ℕ) → D.holds x s → IsAmong to targets → OneOf IsHeld (at_each x targets)
      held_at_each x [] h among = absurd among
      held_at_each x (a ∷ rest) h (inl e) = inl (e, h)
      held_at_each x (a ∷ rest) h (inr k) = inr (held_at_each x rest h k)

      pub held_among : (xs : List (ℕ × E)) → OneOf IsHeld xs → (x : E) × IsAmong (to, x) xs × D.holds x s
      held_among [] h = absurd h
      held_among (x ∷ xs) (inl k) = (x.1, inl (ap (λ n. (n, x.1)) k.0), k.1)
      held_among (x ∷ xs) (inr k) = let more = held_among xs k in (more.0, inr more.1, more.2)

      pub among_held : (xs : List (ℕ × E)) (x : E) → IsAmong (to, x) xs → D.holds x s → OneOf IsHeld xs
      among_held [] x among h = absurd among
      among_held (y ∷ ys) x (inl e) h = inl (ap (λ (a : ℕ × E). a.0) e, subst (λ (a : ℕ × E). D.holds a.1 s) e h)
      among_held (y ∷ ys) x (inr k) h = inr (among_held ys x k h)
