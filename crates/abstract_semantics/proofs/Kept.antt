-- Evaluations that keep something: a property of values, and what the log covered.
use Rattle.std.proofs.Common.{Bool, true, false, cond, List, [], ◌∷◌, ◌++◌, Option, Some, None, inl, inr}
use Rattle.std.specs.Prelude.{IfSome}
use Rattle.base_trait.specs.Uses.{Seen, Read, AreCovering}
use Rattle.base_trait.specs.declared.tri.Tri.{Tri}
use Rattle.support_tail_fixpoint.specs.Answer.{fails, gives}
use Rattle.support_tail_fixpoint.specs.Groups.{join_some}
use Rattle.abstract_semantics.specs.Answers.{Answer, Evaluation, behind, branch, branches, joined, joined_from, then_on, ◌>>=◌}
use Rattle.abstract_semantics.specs.Sound.{Keeps}

-- ---- logs
pub keeps_itself : (l : List Seen) → Keeps l l
keeps_itself l r h = h

pub keeps_on : (l m n : List Seen) → Keeps l m → Keeps m n → Keeps l n
keeps_on l m n h k r c = k r (h r c)

covering_left : (l m : List Seen) (r : Read) → AreCovering l r → AreCovering (l ++ m) r
covering_left [] m r h = absurd h
covering_left (u ∷ us) m r (inl h) = inl h
covering_left (u ∷ us) m r (inr h) = inr (covering_left us m r h)

pub covering_right : (l m : List Seen) (r : Read) → AreCovering m r → AreCovering (l ++ m) r
covering_right [] m r h = h
covering_right (u ∷ us) m r h = inr (covering_right us m r h)

pub keeps_more : (l m : List Seen) → Keeps l (l ++ m)
keeps_more l m r h = covering_left l m r h

-- ---- From a log: a value of P where there is one, and what the log covered is covered. Where it fails, `Fine`.
abbrev pub IsKept : {A : Type 0} → (Fine : Type 0) → (A → Type 0) → List Seen → Answer A → Type 0
IsKept Fine P l (fails i) = Fine
IsKept Fine P l (gives x after) = IfSome x P × Keeps l after

-- from each log
abbrev pub Keeping : {A : Type 0} → (Fine : Type 0) → (A → Type 0) → Evaluation A → Type 0
Keeping Fine P f = (l : List Seen) → IsKept Fine P l (f l)

abbrev pub AllKeeping : {A : Type 0} → (Fine : Type 0) → (A → Type 0) → List (Evaluation A) → Type 0
AllKeeping Fine P [] = Unit {0}
AllKeeping Fine P (f ∷ fs) = Keeping Fine P f × AllKeeping Fine P fs

module _ (Fine : Type 0) where
  pub kept_from : {A : Type 0} (P : A → Type 0) (l m : List Seen) (r : Answer A) → Keeps l m → IsKept Fine P m r → IsKept Fine P l r
  kept_from P l m (fails i) h k = k
  kept_from P l m (gives x n) h k = (k.0, keeps_on l m n h k.1)

  pub bind_kept : {A B : Type 0} (P : A → Type 0) (Q : B → Type 0) (l : List Seen) (r : Answer A) (f : A → List Seen → Answer B)
      → IsKept Fine P l r → ((x : A) (m : List Seen) → P x → IsKept Fine Q m (f x m)) → IsKept Fine Q l (r >>= f)
  bind_kept P Q l (fails i) f h k = h
  bind_kept P Q l (gives None m) f h k = (tt, h.1)
  bind_kept P Q l (gives (Some x) m) f h k = kept_from Q l m (f x m) h.1 (k x m h.0)

  pub behind_kept : {A : Type 0} (P : A → Type 0) (l : List Seen) (r : Answer A) → IsKept Fine P [] r → IsKept Fine P l (behind l r)
  behind_kept P l (fails i) h = h
  behind_kept P l (gives x own) h = (h.0, keeps_more l own)

  pub guarded : {A : Type 0} (P : A → Type 0) (b : Bool) (x : A) (l : List Seen) → P x → IsKept Fine P l (gives (cond b (Some x) None) l)
  guarded P true x l h = (h, keeps_itself l)
  guarded P false x l h = (tt, keeps_itself l)

  pub nothing : {A : Type 0} (P : A → Type 0) (l : List Seen) → IsKept Fine P l (gives None l)
  nothing P l = (tt, keeps_itself l)

  -- ---- several, joined
  module _ {A : Type 0} (P : A → Type 0) (j : A → A → A) (keeps : (x y : A) → P x → P y → P (j x y)) where
    some_kept : (x y : Option A) → IfSome x P → IfSome y P → IfSome (join_some j x y) P
    some_kept None y h k = k
    some_kept (Some x) None h k = h
    some_kept (Some x) (Some y) h k = keeps x y h k

    pub from_kept : (x : Option A) (fs : List (Evaluation A)) (l : List Seen) → IfSome x P → AllKeeping Fine P fs → IsKept Fine P l (joined_from j x fs l)
    from_kept x [] l h k = (h, keeps_itself l)
    from_kept x (f ∷ fs) l h k = at (f l) (k.0 l) (λ z m g. from_kept z fs m g k.1)
      where
        at : (r : Answer A) → IsKept Fine P l r → ((z : Option A) (m : List Seen) → IfSome z P → IsKept Fine P m (joined_from j z fs m)) → IsKept Fine P l (then_on r (λ y l. joined_from j (join_some j x y) fs l))
        at (fails i) g go = g
        at (gives y m) g go = kept_from P l m (joined_from j (join_some j x y) fs m) g.1 (go (join_some j x y) m (some_kept x y h g.0))

    pub joined_kept : (fs : List (Evaluation A)) → AllKeeping Fine P fs → Keeping Fine P (joined j fs)
    joined_kept fs k l = from_kept None fs l tt k

    chosen_kept : (b : Bool) (f : Evaluation A) (fs : List (Evaluation A)) → Keeping Fine P f → AllKeeping Fine P fs → AllKeeping Fine P (cond b (f ∷ []) [] ++ fs)
    chosen_kept true f fs h k = (h, k)
    chosen_kept false f fs h k = k

    one_kept : (b : Bool) (f : Evaluation A) → Keeping Fine P f → AllKeeping Fine P (cond b (f ∷ []) [])
    one_kept true f h = (h, tt)
    one_kept false f h = tt

    pub branch_kept : (t : Tri) (f g : Evaluation A) → Keeping Fine P f → Keeping Fine P g → Keeping Fine P (branch j t f g)
    branch_kept t f g h k = joined_kept (branches j t f g) (chosen_kept t.may_true f _ h (one_kept t.may_false g k))
