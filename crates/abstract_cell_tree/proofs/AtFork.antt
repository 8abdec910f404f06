-- What is known of a tree whose node is a fork.
use Rattle.std.proofs.Common.{◌≡◌, ℕ, ◌+◌, ◌<◌, ◌≤◌, List, ◌++◌, length, sym, ap, subst, ◌∙◌, arith, length-append, Ok, Err, Result}
use Rattle.std.specs.Prelude.{IfOk}
use Rattle.std.specs.declared.rc.Rc.{Rc}
use Rattle.std.specs.declared.alloc.Global.{Global}
use Rattle.abstract_cell_tree.specs.Entries.{listed_at, put, removed, Between}
use Rattle.abstract_cell_tree.specs.Nodes.{entries, IsSound, Parted}
use Rattle.abstract_cell_tree.specs.declared.branch.Node.{Node}
use Rattle.abstract_cell_tree.specs.declared.branch.Node.TheVariants as node
use Rattle.abstract_cell_tree.specs.declared.branch.Fork.{Fork}
use Rattle.abstract_cell_tree.proofs.Beside.{listed_left, listed_right, put_left, put_right, put_between, put_some, removed_left, removed_right, removed_between, side_by_side}

pub record AtFork (V : Type 0) (d : List (ℕ × V)) (f : Fork V) : Type 0 where
  pub is : d ≡ f.left ++ f.right
  pub parts : Parted V f.low f.split f.high f.count f.left f.right

pub at_fork : {V : Type 0} (n : Node V) (d : List (ℕ × V)) (r : Rc (Fork V) Global) (f : Fork V) → entries n ≡ d → IsSound n → n ≡ node.Fork r → f ≡ r.value → AtFork V d f
at_fork {V} n d r f view sound is value = subst (λ g. AtFork V d g) (sym value) (record {
  is = sym view ∙ ap entries is;
  parts = subst IsSound is sound;
})

module _ {V : Type 0} (d : List (ℕ × V)) (f : Fork V) (h : AtFork V d f) (k : ℕ) where
  pub get_left : k < f.split → listed_at k f.left ≡ listed_at k d
  get_left less = sym (ap (listed_at k) h.is ∙ listed_left k f.split (f.high + 1) f.left f.right less h.parts.above)

  pub get_right : f.split ≤ k → listed_at k f.right ≡ listed_at k d
  get_right more = sym (ap (listed_at k) h.is ∙ listed_right k f.low f.split f.left f.right more h.parts.below)

  pub within : Between f.low (f.high + 1) d
  within = subst (λ l. Between f.low (f.high + 1) l) (sym h.is) (side_by_side f.low f.split (f.high + 1) f.left f.right h.parts.below h.parts.above)

  pub some : 1 ≤ length d
  some = let a = h.parts.some_left in subst (λ l. 1 ≤ length l) (sym h.is) (omega (arith, length-append f.left f.right, a))

  -- ---- a value put on one side
  module _ (x : V) (new : List (ℕ × V)) where
    pub put_on_left : k < f.split → new ≡ put k x f.left → new ++ f.right ≡ put k x d
    put_on_left less e = ap (λ l. l ++ f.right) e ∙ sym (ap (put k x) h.is ∙ put_left k x f.split (f.high + 1) f.left f.right less h.parts.above)

    pub put_on_right : f.split ≤ k → new ≡ put k x f.right → f.left ++ new ≡ put k x d
    put_on_right more e = ap (λ l. f.left ++ l) e ∙ sym (ap (put k x) h.is ∙ put_right k x f.low f.split f.left f.right more h.parts.below)

    pub put_left_between : f.low ≤ k → k < f.split → new ≡ put k x f.left → Between f.low f.split new
    put_left_between low less e = subst (λ l. Between f.low f.split l) (sym e) (put_between k x f.low f.split f.left low less h.parts.below)

    pub put_right_between : k ≤ f.high → f.split ≤ k → new ≡ put k x f.right → Between f.split (f.high + 1) new
    put_right_between high more e = subst (λ l. Between f.split (f.high + 1) l) (sym e) (put_between k x f.split (f.high + 1) f.right more (omega arith) h.parts.above)

    pub put_has_some : (l : List (ℕ × V)) → new ≡ put k x l → 1 ≤ length new
    put_has_some l e = subst (λ t. 1 ≤ length t) (sym e) (put_some k x l)

  -- ---- an entry removed from one side
  module _ (new : List (ℕ × V)) where
    pub removed_on_left : k < f.split → new ≡ removed k f.left → new ++ f.right ≡ removed k d
    removed_on_left less e = ap (λ l. l ++ f.right) e ∙ sym (ap (removed k) h.is ∙ removed_left k f.split (f.high + 1) f.left f.right less h.parts.above)

    pub removed_on_right : f.split ≤ k → new ≡ removed k f.right → f.left ++ new ≡ removed k d
    removed_on_right more e = ap (λ l. f.left ++ l) e ∙ sym (ap (removed k) h.is ∙ removed_right k f.low f.split f.left f.right more h.parts.below)

    pub removed_left_between : new ≡ removed k f.left → Between f.low f.split new
    removed_left_between e = subst (λ l. Between f.low f.split l) (sym e) (removed_between k f.low f.split f.left h.parts.below)

    pub removed_right_between : new ≡ removed k f.right → Between f.split (f.high + 1) new
    removed_right_between e = subst (λ l. Between f.split (f.high + 1) l) (sym e) (removed_between k f.split (f.high + 1) f.right h.parts.above)

-- what holds of each answer holds of each that follows from it
pub if_ok : {T E : Type 0} (P Q : T → Type 0) (r : Result T E) → ((x : T) → P x → Q x) → IfOk r P → IfOk r Q
if_ok P Q (Ok x) f h = f x h
if_ok P Q (Err e) f h = h
