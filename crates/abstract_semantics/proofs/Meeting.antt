-- Evaluations that meet the direct meaning: soundly, or exactly.
use Rattle.std.proofs.Common.{◌≡◌, ℕ, Bool, true, false, cond, List, [], ◌∷◌, ◌++◌, Option, Some, None, ◌⊎◌, inl, inr, refl, sym, ap, subst, IsTrue}
use Rattle.std.specs.Prelude.{IfSome, not, ⊤}
use Rattle.base_trait.specs.Uses.{Seen, Read}
use Rattle.base_trait.specs.Algebra.{can_be}
use Rattle.base_trait.specs.declared.tri.Tri.{Tri}
use Rattle.semantics.specs.Outcomes as v
use Rattle.semantics.specs.Outcomes.{Outcome, ◌>>=◌ as ◌>>>◌}
use Rattle.support_tail_fixpoint.specs.Answer.{fails, gives}
use Rattle.support_tail_fixpoint.specs.Groups.{join_some}
use Rattle.abstract_semantics.specs.Answers.{Answer, Evaluation, behind, branch, joined, joined_from, then_on, ◌>>=◌}
use Rattle.abstract_semantics.specs.Sound.{Keeps, Follows, IsGood, IsSound, IsExact}
use Rattle.abstract_semantics.proofs.Kept.{IsKept, Keeping, AllKeeping, covering_right, keeps_itself, keeps_more, keeps_on}

-- where the direct meaning is deep
abbrev pub DeepMet : {A : Type 0} → Bool → Answer A → ℕ → Type 0
DeepMet false r i = ⊤
DeepMet true r i = r ≡ fails i

-- sound where it is not exact
abbrev pub IsMet : {A V : Type 0} → Bool → Type 0 → (A → V → Type 0) → List Seen → List Read → Answer A → Outcome V → Type 0
IsMet exact stamped R l m r (v.deep i) = DeepMet exact r i
IsMet exact stamped R l m r v.wrong = ⊤
IsMet exact stamped R l m r (v.gives n more) = IsGood stamped R l m n more r

pub sound_if : {A V : Type 0} (stamped : Type 0) (R : A → V → Type 0) (l : List Seen) (m : List Read) (r : Answer A) (o : Outcome V) → IsMet false stamped R l m r o → IsSound stamped R l m r o
sound_if stamped R l m r (v.deep i) h = tt
sound_if stamped R l m r v.wrong h = tt
sound_if stamped R l m r (v.gives n more) h = h

pub exact_if : {A V : Type 0} (stamped : Type 0) (R : A → V → Type 0) (l : List Seen) (m : List Read) (r : Answer A) (o : Outcome V) → IsMet true stamped R l m r o → IsExact stamped R l m r o
exact_if stamped R l m r (v.deep i) h = h
exact_if stamped R l m r v.wrong h = tt
exact_if stamped R l m r (v.gives n more) h = h

-- whether an evaluation may fail where it need not be exact
abbrev pub MayFail : Bool → Type 0
MayFail false = ⊥
MayFail true = Unit {0}

-- where all is exact, a flag is one truth value
abbrev pub ChosenMet : Bool → Tri → Type 0
ChosenMet false t = ⊤
ChosenMet true t = t.may_true ≡ not t.may_false

-- one of several evaluations
abbrev pub Has : {A : Type 0} → (Evaluation A → Type 0) → List (Evaluation A) → Type 0
Has Q [] = ⊥
Has Q (f ∷ fs) = Q f ⊎ Has Q fs

-- one alone
abbrev pub IsOne : {A : Type 0} → List (Evaluation A) → Type 0
IsOne (f ∷ []) = Unit {0}
IsOne _ = ⊥

module _ (stamped : Type 0) where
  pub follows_itself : (l : List Seen) (m : List Read) → Follows stamped l m l m
  follows_itself l m = record { keeps = keeps_itself l; covers = λ st log k cov. cov }

  pub follows_on : (l : List Seen) (m : List Read) (l1 : List Seen) (m1 : List Read) (l2 : List Seen) (m2 : List Read) → Follows stamped l m l1 m1 → Follows stamped l1 m1 l2 m2 → Follows stamped l m l2 m2
  follows_on l m l1 m1 l2 m2 f g = record {
    keeps = keeps_on l l1 l2 f.keeps g.keeps;
    covers = λ st log k cov. g.covers st log k (f.covers st log (keeps_on l1 l2 log g.keeps k) cov);
  }

  -- a log that grew later
  pub follows_grown : (l : List Seen) (m : List Read) (l1 : List Seen) (m1 : List Read) (l2 : List Seen) → Follows stamped l m l1 m1 → Keeps l1 l2 → Follows stamped l m l2 m1
  follows_grown l m l1 m1 l2 f h = record { keeps = keeps_on l l1 l2 f.keeps h; covers = λ st log k cov. f.covers st log (keeps_on l1 l2 log h k) cov }

  -- a log that grew before
  pub follows_grew : (l : List Seen) (m : List Read) (l1 : List Seen) (l2 : List Seen) (m1 : List Read) → Keeps l l1 → Follows stamped l1 m l2 m1 → Follows stamped l m l2 m1
  follows_grew l m l1 l2 m1 h f = record { keeps = keeps_on l l1 l2 h f.keeps; covers = f.covers }

  module _ {A V : Type 0} (R : A → V → Type 0) where
    good_from : (l : List Seen) (m : List Read) (l1 : List Seen) (m1 : List Read) (n : V) (m2 : List Read) (r : Answer A) → Follows stamped l m l1 m1 → IsGood stamped R l1 m1 n m2 r → IsGood stamped R l m n m2 r
    good_from l m l1 m1 n m2 (fails i) f h = h
    good_from l m l1 m1 n m2 (gives None l2) f h = h
    good_from l m l1 m1 n m2 (gives (Some x) l2) f h = (h.0, follows_on l m l1 m1 l2 m2 f h.1)

    pub good_grew : (l : List Seen) (m : List Read) (l1 : List Seen) (n : V) (m2 : List Read) (r : Answer A) → Keeps l l1 → IsGood stamped R l1 m n m2 r → IsGood stamped R l m n m2 r
    good_grew l m l1 n m2 (fails i) f h = h
    good_grew l m l1 n m2 (gives None l2) f h = h
    good_grew l m l1 n m2 (gives (Some x) l2) f h = (h.0, follows_grew l m l1 l2 m2 f h.1)

    pub met_from : (exact : Bool) (l : List Seen) (m : List Read) (l1 : List Seen) (m1 : List Read) (r : Answer A) (o : Outcome V) → Follows stamped l m l1 m1 → IsMet exact stamped R l1 m1 r o → IsMet exact stamped R l m r o
    met_from exact l m l1 m1 r (v.deep i) f h = h
    met_from exact l m l1 m1 r v.wrong f h = tt
    met_from exact l m l1 m1 r (v.gives n m2) f h = good_from l m l1 m1 n m2 r f h

    pub good_behind : (l : List Seen) (m : List Read) (n : V) (more : List Read) (r : Answer A) → IsGood stamped R [] m n more r → IsGood stamped R l m n more (behind l r)
    good_behind l m n more (fails i) h = h
    good_behind l m n more (gives None own) h = h
    good_behind l m n more (gives (Some x) own) h =
        (h.0, record { keeps = keeps_more l own; covers = λ st log k cov. h.1.covers st log (λ q c. k q (covering_right l own q c)) cov })

    deep_behind : (exact : Bool) (l : List Seen) (r : Answer A) (i : ℕ) → DeepMet exact r i → DeepMet exact (behind l r) i
    deep_behind false l r i h = tt
    deep_behind true l r i h = ap (behind l) h

    -- a call's own reads, behind those before
    pub behind_met : (exact : Bool) (l : List Seen) (m : List Read) (r : Answer A) (o : Outcome V) → IsMet exact stamped R [] m r o → IsMet exact stamped R l m (behind l r) o
    behind_met exact l m r (v.deep i) h = deep_behind exact l r i h
    behind_met exact l m r v.wrong h = tt
    behind_met exact l m r (v.gives n more) h = good_behind l m n more r h

    pub guarded_met : (exact : Bool) (b d : Bool) (x : A) (l : List Seen) (n : V) (m : List Read) → b ≡ true → d ≡ true → R x n → IsMet exact stamped R l m (gives (cond b (Some x) None) l) (v.given (cond d (Some n) None) m)
    guarded_met exact b d x l n m e f h = subst (λ z. IsMet exact stamped R l m (gives (cond z (Some x) None) l) (v.given (cond d (Some n) None) m)) (sym e)
        (subst (λ z. IsMet exact stamped R l m (gives (Some x) l) (v.given (cond z (Some n) None) m)) (sym f) (h, follows_itself l m))

  deep_bind : {A B : Type 0} (exact : Bool) (r : Answer A) (f : A → List Seen → Answer B) (i : ℕ) → DeepMet exact r i → DeepMet exact (r >>= f) i
  deep_bind false r f i h = tt
  deep_bind true r f i h = ap (λ z. z >>= f) h

  pub bind_met : {A V A' V' : Type 0} (exact : Bool) (Fine : Type 0) (P : A → Type 0) (R : A → V → Type 0) (S : A' → V' → Type 0) (l : List Seen) (m : List Read) (r : Answer A) (o : Outcome V) (f : A → List Seen → Answer A') (g : V → List Read → Outcome V')
      → IsKept Fine P l r → IsMet exact stamped R l m r o → ((x : A) (n : V) (l1 : List Seen) (m1 : List Read) → P x → R x n → IsMet exact stamped S l1 m1 (f x l1) (g n m1)) → IsMet exact stamped S l m (r >>= f) (o >>> g)
  bind_met exact Fine P R S l m r (v.deep i) f g p h k = deep_bind exact r f i h
  bind_met exact Fine P R S l m r v.wrong f g p h k = tt
  bind_met exact Fine P R S l m (fails i) (v.gives n m1) f g p h k = absurd h
  bind_met exact Fine P R S l m (gives None l1) (v.gives n m1) f g p h k = absurd h
  bind_met exact Fine P R S l m (gives (Some x) l1) (v.gives n m1) f g p h k = met_from S exact l m l1 m1 (f x l1) (g n m1) h.1 (k x n l1 m1 p.0 h.0)

  -- ---- several evaluations, joined
  module _ {A V : Type 0} (P : A → Type 0) (R : A → V → Type 0) (j : A → A → A) (keeps : (x y : A) → P x → P y → P (j x y)) where
    -- one alone
    one_good : (l : List Seen) (m : List Read) (n : V) (more : List Read) (r : Answer A) → IsGood stamped R l m n more r → IsGood stamped R l m n more (then_on r (λ y l. gives (join_some j None y) l))
    one_good l m n more (fails i) h = h
    one_good l m n more (gives None l1) h = h
    one_good l m n more (gives (Some x) l1) h = h

    one_deep : (exact : Bool) (r : Answer A) (i : ℕ) → DeepMet exact r i → DeepMet exact (then_on r (λ y l. gives (join_some j None y) l)) i
    one_deep false r i h = tt
    one_deep true r i h = ap (λ z. then_on z (λ y l. gives (join_some j None y) l)) h

    pub one_met : (exact : Bool) (f : Evaluation A) (l : List Seen) (m : List Read) (o : Outcome V) → IsMet exact stamped R l m (f l) o → IsMet exact stamped R l m (joined j (f ∷ []) l) o
    one_met exact f l m (v.deep i) h = one_deep exact (f l) i h
    one_met exact f l m v.wrong h = tt
    one_met exact f l m (v.gives n more) h = one_good l m n more (f l) h

    -- one of several, where none fails
    module _ (left : (x y : A) (n : V) → P x → P y → R x n → R (j x y) n) (right : (x y : A) (n : V) → P x → P y → R y n → R (j x y) n) (m : List Read) (n : V) (more : List Read) where
      held_good : (x : A) (fs : List (Evaluation A)) (l0 l : List Seen) → P x → R x n → Follows stamped l0 m l more → AllKeeping ⊥ P fs → IsGood stamped R l0 m n more (joined_from j (Some x) fs l)
      held_good x [] l0 l p h f k = (h, f)
      held_good x (g ∷ fs) l0 l p h f k = at (g l) (k.0 l) (λ z l1 q d e. held_good z fs l0 l1 q d e k.1)
        where
          at : (r : Answer A) → IsKept ⊥ P l r → ((z : A) (l1 : List Seen) → P z → R z n → Follows stamped l0 m l1 more → IsGood stamped R l0 m n more (joined_from j (Some z) fs l1))
              → IsGood stamped R l0 m n more (then_on r (λ y l. joined_from j (join_some j (Some x) y) fs l))
          at (fails i) q go = absurd q
          at (gives None l1) q go = go x l1 p h (follows_grown l0 m l more l1 f q.1)
          at (gives (Some y) l1) q go = go (j x y) l1 (keeps x y p q.0) (left x y n p q.0 h) (follows_grown l0 m l more l1 f q.1)

      member_good : (x : Option A) (fs : List (Evaluation A)) (l : List Seen) → IfSome x P → AllKeeping ⊥ P fs → Has (λ f. (l : List Seen) → IsGood stamped R l m n more (f l)) fs → IsGood stamped R l m n more (joined_from j x fs l)
      member_good x [] l p k h = absurd h
      member_good x (g ∷ fs) l p k (inl h) = at x p (g l) (k.0 l) (h l)
        where
          at : (x : Option A) → IfSome x P → (r : Answer A) → IsKept ⊥ P l r → IsGood stamped R l m n more r → IsGood stamped R l m n more (then_on r (λ y l. joined_from j (join_some j x y) fs l))
          at x p (fails i) q d = absurd q
          at x p (gives None l1) q d = absurd d
          at None p (gives (Some y) l1) q d = held_good y fs l l1 q.0 d.0 d.1 k.1
          at (Some x) p (gives (Some y) l1) q d = held_good (j x y) fs l l1 (keeps x y p q.0) (right x y n p q.0 d.0) d.1 k.1
      member_good x (g ∷ fs) l p k (inr h) = at x p (g l) (k.0 l) (λ z l1 q. member_good z fs l1 q k.1 h)
        where
          at : (x : Option A) → IfSome x P → (r : Answer A) → IsKept ⊥ P l r → ((z : Option A) (l1 : List Seen) → IfSome z P → IsGood stamped R l1 m n more (joined_from j z fs l1))
              → IsGood stamped R l m n more (then_on r (λ y l. joined_from j (join_some j x y) fs l))
          at x p (fails i) q go = absurd q
          at None p (gives y l1) q go = good_grew R l m l1 n more _ q.1 (go y l1 q.0)
          at (Some x) p (gives None l1) q go = good_grew R l m l1 n more _ q.1 (go (Some x) l1 p)
          at (Some x) p (gives (Some y) l1) q go = good_grew R l m l1 n more _ q.1 (go (Some (j x y)) l1 (keeps x y p q.0))

    pub member_met : (left : (x y : A) (n : V) → P x → P y → R x n → R (j x y) n) (right : (x y : A) (n : V) → P x → P y → R y n → R (j x y) n) (fs : List (Evaluation A)) (l : List Seen) (m : List Read) (o : Outcome V) → AllKeeping ⊥ P fs → Has (λ f. (l : List Seen) → IsMet false stamped R l m (f l) o) fs → IsMet false stamped R l m (joined j fs l) o
    member_met left right fs l m (v.deep i) k h = tt
    member_met left right fs l m v.wrong k h = tt
    member_met left right fs l m (v.gives n more) k h = member_good left right m n more None fs l tt k h

    pub joined_met : (exact : Bool) (left : exact ≡ false → (x y : A) (n : V) → P x → P y → R x n → R (j x y) n) (right : exact ≡ false → (x y : A) (n : V) → P x → P y → R y n → R (j x y) n) (fs : List (Evaluation A)) (l : List Seen) (m : List Read) (o : Outcome V) → AllKeeping (MayFail exact) P fs → Has (λ f. (l : List Seen) → IsMet exact stamped R l m (f l) o) fs
        → (IsTrue exact → IsOne fs) → IsMet exact stamped R l m (joined j fs l) o
    joined_met false left right fs l m o k h one = member_met (left refl) (right refl) fs l m o k h
    joined_met true left right [] l m o k h one = absurd h
    joined_met true left right (f ∷ []) l m o k (inl h) one = one_met true f l m o (h l)
    joined_met true left right (f ∷ []) l m o k (inr h) one = absurd h
    joined_met true left right (f ∷ (g ∷ fs)) l m o k h one = absurd (one refl)

    -- ---- the branches of a condition
    pub branch_met : (exact : Bool) (left : exact ≡ false → (x y : A) (n : V) → P x → P y → R x n → R (j x y) n) (right : exact ≡ false → (x y : A) (n : V) → P x → P y → R y n → R (j x y) n) (t : Tri) (b : Bool) (f g : Evaluation A) (o : Outcome V) (l : List Seen) (m : List Read) → Keeping (MayFail exact) P f → Keeping (MayFail exact) P g → IsTrue (can_be t b) → ChosenMet exact t
        → ((l : List Seen) → IsMet exact stamped R l m (cond b f g l) o) → IsMet exact stamped R l m (branch j t f g l) o
    branch_met true left right t true f g o l m kf kg c s h = at t.may_true t.may_false c s
      where
        at : (p q : Bool) → IsTrue p → p ≡ not q → IsMet true stamped R l m (joined j ((cond p (f ∷ []) []) ++ (cond q (g ∷ []) [])) l) o
        at true false c s = one_met true f l m o (h l)
        at true true c s = absurd cc
        at false q c s = absurd cc
    branch_met true left right t false f g o l m kf kg c s h = at t.may_true t.may_false c s
      where
        at : (p q : Bool) → IsTrue q → p ≡ not q → IsMet true stamped R l m (joined j ((cond p (f ∷ []) []) ++ (cond q (g ∷ []) [])) l) o
        at false true c s = one_met true g l m o (h l)
        at true true c s = absurd cc
        at p false c s = absurd cc
    branch_met false left right t true f g o l m kf kg c s h = at t.may_true t.may_false c
      where
        at : (p q : Bool) → IsTrue p → IsMet false stamped R l m (joined j ((cond p (f ∷ []) []) ++ (cond q (g ∷ []) [])) l) o
        at true false c = member_met (left refl) (right refl) (f ∷ []) l m o (kf, tt) (inl h)
        at true true c = member_met (left refl) (right refl) (f ∷ g ∷ []) l m o (kf, (kg, tt)) (inl h)
        at false q c = absurd cc
    branch_met false left right t false f g o l m kf kg c s h = at t.may_true t.may_false c
      where
        at : (p q : Bool) → IsTrue q → IsMet false stamped R l m (joined j ((cond p (f ∷ []) []) ++ (cond q (g ∷ []) [])) l) o
        at false true c = member_met (left refl) (right refl) (g ∷ []) l m o (kg, tt) (inl h)
        at true true c = member_met (left refl) (right refl) (f ∷ g ∷ []) l m o (kf, (kg, tt)) (inr (inl h))
        at p false c = absurd cc
