-- Where an element goes among those that arrive.
use Rattle.std.proofs.Common.{◌≡◌, ◌∙◌, ℕ, zero, suc, ◌+◌, ◌<◌, ◌≤◌, ◌==◌, arith, nat_lt, Bool, true, false, cond, get_or, set, take, drop, List, [], ◌∷◌, ◌++◌, length, map, Ok, Err, ap, ap₂, refl, sym, subst, drop-cons, add-one, append_assoc}
use Rattle.std.proofs.lemmas.List.{drop-map, get_or-map, length-map, map-append, map-set, set_split, take-map, take_more}
use Rattle.std.proofs.lemmas.List.Sums.{fold-append}
use Rattle.std.specs.List.{insert}
use Rattle.base_trait.specs.Lists.{Each}
use Rattle.fixpoint_theory.specs.Elements.{ElementLaws, Elements}
use Rattle.fixpoint_theory.specs.Outcome.{AreSameArrivals, at_each}
use Rattle.fixpoint_cases.specs.Sent.{put, put_all}
use Rattle.fixpoint_cases.proofs.Putting.{all_fit, arrivals_itself, arrivals_on, put_same}
use Rattle.fixpoint_case_leaves.specs.Places.{joined, put_at}

-- place i has the item v
module _ {X E S : Type 0} (D : Elements E S) (view : X → ℕ × E) (xs : List X) (i : ℕ) (v : X) (lt : i < length xs) (is : v ≡ get_or xs i v) (to : ℕ) (x : E) where
  seen_at : get_or (map view xs) i (to, x) ≡ view v
  seen_at = get_or-map view xs i v (to, x) lt ∙ ap view (sym is)

  lt_seen : i < length (map view xs)
  lt_seen = subst (λ n. i < n) (sym (length-map xs view)) lt

  -- the items before it are passed
  module _ (passed : put D (to, x) (map view xs) ≡ take i (map view xs) ++ put D (to, x) (drop i (map view xs))) where
    rest : drop i (map view xs) ≡ view v ∷ drop (suc i) (map view xs)
    rest = drop-cons (map view xs) i (to, x) lt_seen ∙ ap (λ y. y ∷ drop (suc i) (map view xs)) seen_at

    here : put D (to, x) (map view xs) ≡ take i (map view xs) ++ put D (to, x) (view v ∷ drop (suc i) (map view xs))
    here = passed ∙ ap (λ ys. take i (map view xs) ++ put D (to, x) ys) rest

    -- what comes of the items from there on, by the two tests
    abbrev from_here : Bool → Bool → List (ℕ × E)
    from_here same first =
        cond same (joined D (to, x) (view v) ∷ drop (suc i) (map view xs)) (cond first ((to, x) ∷ view v ∷ drop (suc i) (map view xs)) (view v ∷ put D (to, x) (drop (suc i) (map view xs))))

    pub at_same : (to == (view v).0) ≡ true → put D (to, x) (map view xs) ≡ put_at D (to, x) (map view xs) (Ok i)
    at_same e =
        here ∙ ap (λ b. take i (map view xs) ++ from_here b (nat_lt to (view v).0)) e
        ∙ ap (λ y. take i (map view xs) ++ joined D (to, x) y ∷ drop (suc i) (map view xs)) (sym seen_at)
        ∙ sym (set_split (map view xs) i (joined D (to, x) (get_or (map view xs) i (to, x))) lt_seen)

    apart : (first : Bool) → (to == (view v).0) ≡ false → nat_lt to (view v).0 ≡ first → put D (to, x) (map view xs) ≡ take i (map view xs) ++ from_here false first
    apart first e b = here ∙ ap₂ (λ b c. take i (map view xs) ++ from_here b c) e b

    pub at_before : (to == (view v).0) ≡ false → nat_lt to (view v).0 ≡ true → put D (to, x) (map view xs) ≡ put_at D (to, x) (map view xs) (Err i)
    at_before e b = apart true e b ∙ ap (λ ys. take i (map view xs) ++ (to, x) ∷ ys) (sym rest)

    pub at_later : (to == (view v).0) ≡ false → nat_lt to (view v).0 ≡ false → put D (to, x) (map view xs) ≡ take (i + 1) (map view xs) ++ put D (to, x) (drop (i + 1) (map view xs))
    at_later e b =
        let more : take (i + 1) (map view xs) ≡ take i (map view xs) ++ view v ∷ [] = take_more (map view xs) i (to, x) lt_seen ∙ ap (λ y. take i (map view xs) ++ y ∷ []) seen_at in
        apart false e b
        ∙ sym (ap₂ (λ ys n. ys ++ put D (to, x) (drop n (map view xs))) more (add-one i) ∙ append_assoc (take i (map view xs)) (view v ∷ []) (put D (to, x) (drop (suc i) (map view xs))))

dropped_all : {X : Type 0} (ys : List X) (n : ℕ) → length ys ≤ n → drop n ys ≡ []
dropped_all [] zero h = refl
dropped_all [] (suc n) h = refl
dropped_all (y ∷ ys) zero h = absurd (omega (arith, h))
dropped_all (y ∷ ys) (suc n) h = dropped_all ys n (omega (arith, h))

-- all items are passed
pub at_end : {E S : Type 0} (D : Elements E S) (ys : List (ℕ × E)) (n to : ℕ) (x : E) → length ys ≤ n → put D (to, x) ys ≡ take n ys ++ put D (to, x) (drop n ys) → put D (to, x) ys ≡ put_at D (to, x) ys (Err n)
at_end D ys n to x h passed =
    let gone = dropped_all ys n h in
    passed ∙ ap (λ l. take n ys ++ put D (to, x) l) gone ∙ ap (λ l. take n ys ++ (to, x) ∷ l) (sym gone)

-- ---- what a call writes
each_set : {X E : Type 0} (P : E → Type 0) (view : X → E) (xs : List X) (i : ℕ) (w : X) → Each P (map view xs) → P (view w) → Each P (map view (set xs i w))
each_set P view [] i w each pw = tt
each_set P view (x ∷ xs) zero w each pw = (pw, each.1)
each_set P view (x ∷ xs) (suc i) w each pw = (each.0, each_set P view xs i w each.1 pw)

each_insert : {X E : Type 0} (P : E → Type 0) (view : X → E) (xs : List X) (i : ℕ) (w : X) → Each P (map view xs) → P (view w) → Each P (map view (insert xs i w))
each_insert P view xs zero w each pw = (pw, each)
each_insert P view [] (suc i) w each pw = (pw, tt)
each_insert P view (x ∷ xs) (suc i) w each pw = (each.0, each_insert P view xs i w each.1 pw)

module _ {E S : Type 0} (D : Elements E S) (laws : ElementLaws D) where
  set_same : (ys : List (ℕ × E)) (i : ℕ) (y z : ℕ × E) → y.0 ≡ z.0 → D.same y.1 z.1 → AreSameArrivals D (set ys i y) (set ys i z)
  set_same [] i y z e s = tt
  set_same (w ∷ ys) zero y z e s = (e, s, arrivals_itself D laws ys)
  set_same (w ∷ ys) (suc i) y z e s = (refl, laws.same_itself w.1, set_same ys i y z e s)

  insert_same : (ys : List (ℕ × E)) (i : ℕ) (y z : ℕ × E) → y.0 ≡ z.0 → D.same y.1 z.1 → AreSameArrivals D (insert ys i y) (insert ys i z)
  insert_same ys zero y z e s = (e, s, arrivals_itself D laws ys)
  insert_same [] (suc i) y z e s = (e, s, tt)
  insert_same (w ∷ ys) (suc i) y z e s = (refl, laws.same_itself w.1, insert_same ys i y z e s)

  -- as they are seen
  module _ {X : Type 0} (view : X → ℕ × E) (xs : List X) (i : ℕ) (w : X) (to : ℕ) (x : E) where
    pub joined_put : (v : X) → i < length xs → v ≡ get_or xs i v → (view w).0 ≡ (view v).0 → D.same (view w).1 (D.join (view v).1 x)
        → put D (to, x) (map view xs) ≡ put_at D (to, x) (map view xs) (Ok i) → AreSameArrivals D (map view (set xs i w)) (put D (to, x) (map view xs))
    joined_put v lt is at s place =
        let seen : get_or (map view xs) i (to, x) ≡ view v = get_or-map view xs i v (to, x) lt ∙ ap view (sym is) in
        subst (AreSameArrivals D (map view (set xs i w))) (sym place)
        (subst (λ l. AreSameArrivals D l (set (map view xs) i (joined D (to, x) (get_or (map view xs) i (to, x))))) (sym (map-set view xs i w))
        (subst (λ y. AreSameArrivals D (set (map view xs) i (view w)) (set (map view xs) i (joined D (to, x) y))) (sym seen)
        (set_same (map view xs) i (view w) (joined D (to, x) (view v)) at s)))

    pub inserted_put : (view w).0 ≡ to → D.same (view w).1 x → put D (to, x) (map view xs) ≡ put_at D (to, x) (map view xs) (Err i)
        → AreSameArrivals D (map view (insert xs i w)) (put D (to, x) (map view xs))
    inserted_put at s place =
        subst (AreSameArrivals D (map view (insert xs i w))) (sym place)
        (subst (λ l. AreSameArrivals D l (insert (map view xs) i (to, x))) (sym inserted)
        (insert_same (map view xs) i (view w) (to, x) at s))
      where
        inserted : map view (insert xs i w) ≡ insert (map view xs) i (view w)
        inserted = map-append view (take i xs) (w ∷ drop i xs) ∙ ap₂ (λ ys zs. ys ++ zs) (sym (take-map view i xs)) (ap (λ l. view w ∷ l) (sym (drop-map view i xs)))

  pub set_fits : {X : Type 0} (view : X → ℕ × E) (xs : List X) (i : ℕ) (w : X) → Each (λ a. D.fits a.1) (map view xs) → D.fits (view w).1 → Each (λ a. D.fits a.1) (map view (set xs i w))
  set_fits view xs i w each fits = each_set (λ a. D.fits a.1) view xs i w each fits

  pub insert_fits : {X : Type 0} (view : X → ℕ × E) (xs : List X) (i : ℕ) (w : X) → Each (λ a. D.fits a.1) (map view xs) → D.fits (view w).1 → Each (λ a. D.fits a.1) (map view (insert xs i w))
  insert_fits view xs i w each fits = each_insert (λ a. D.fits a.1) view xs i w each fits

  -- ---- one arrival more
  pub one_more : (xs : List (ℕ × E)) (y : ℕ × E) (first before later : List (ℕ × E)) → Each (λ a. D.fits a.1) xs → D.fits y.1 → Each (λ a. D.fits a.1) first → Each (λ a. D.fits a.1) before
      → AreSameArrivals D before (put_all D xs first) → AreSameArrivals D later (put D y before) → AreSameArrivals D later (put_all D (xs ++ y ∷ []) first)
  one_more xs y first before later fx fy ff fb h k =
      let sent = put_all D xs first in
      subst (AreSameArrivals D later) (sym (fold-append (λ ys z. put D z ys) first xs (y ∷ [])))
      (arrivals_on D laws later (put D y before) (put D y sent) k (put_same D laws y.0 y.1 y.1 before sent fy fy (laws.same_itself y.1) fb (all_fit D laws xs first fx ff) h))

  pub each_at : (x : E) (targets : List ℕ) → D.fits x → Each (λ a. D.fits a.1) (at_each x targets)
  each_at x [] fits = tt
  each_at x (to ∷ rest) fits = (fits, each_at x rest fits)

-- one target more
pub each_more : {E : Type 0} (x : E) (targets : List ℕ) (i : ℕ) → i < length targets → at_each x (take (i + 1) targets) ≡ at_each x (take i targets) ++ (get_or targets i 0, x) ∷ []
each_more x targets i lt = ap (at_each x) (take_more targets i 0 lt) ∙ map-append (λ to. (to, x)) (take i targets) (get_or targets i 0 ∷ [])
