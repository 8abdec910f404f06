-- The laws of a base: of its words, and of its notes.
use Rattle.std.specs.Prelude.{◌≡◌, ℕ, ◌^◌, ◌<◌, ◌≤◌, Bool, true, false, List, ◌++◌, length, Option, Some, None, IsSome, IsTrue, ◌⊎◌, ◌↔◌, ◌∷◌, []}
use Rattle.word_operations.specs.declared.kinds.UnaryOperation.{UnaryOperation}
use Rattle.word_operations.specs.declared.kinds.BinaryOperation.{BinaryOperation}
use Rattle.word_operations.specs.declared.kinds.WordComparison.{WordComparison}
use Rattle.word_operations.specs.Op1.{op1_of}
use Rattle.word_operations.specs.Op2.{op2_of}
use Rattle.word_operations.specs.Cmp.{cmp_of}
use Rattle.word_operations.specs.Casts.{zext_of, sext_of, trunc_of}
use Rattle.word_operations.specs.Width.{IsWidth}
use Rattle.base_trait.specs.declared.uses.Stamp.{Stamp}
use Rattle.base_trait.specs.declared.uses.Stamp.TheVariants.{Entry, At}
use Rattle.base_trait.specs.Algebra.{Algebra, Words, Notes, can_be}
use Rattle.base_trait.specs.Lists.{IsAmong, AreAmong, Each, IsAscending}
use Rattle.base_trait.specs.Uses.{IsKey, AreCovering}

-- where join and widening owe anything: on a base that joins, or of equal sides
abbrev pub MayJoin : {A : Type 0} → Bool → A → A → Type 0
MayJoin joins x y = IsTrue joins ⊎ (x ≡ y)

-- a cast goes from a width to one that is no less
pub record IsExtension (from to : ℕ) : Type 0 where
  pub narrow : IsWidth from
  pub wide : IsWidth to
  pub order : from ≤ to

-- The laws of words.
pub record WordLaws (W C : Type 0) (joins : Bool) (B : Words W C) : Type 0 where
  -- a number that is described is below 2 ^ w
  pub described_fits : (valuation : List ℕ) (w n : ℕ) (x : W) → B.describes valuation w n x → n < 2 ^ w
  -- where a base does not look at the valuation, its words stand for the same numbers in each
  pub unseen : (valuation other : List ℕ) (w n : ℕ) (x : W) → B.looks ≡ false → B.describes valuation w n x → B.describes other w n x
  -- the test tells whether a word fits
  pub fits_told : (c : C) (w : ℕ) (x : W) → IsTrue (B.fits_test c w x) ↔ B.fits c w x
  -- ---- operations describe the results on words
  pub constant_sound : (c : C) (valuation : List ℕ) (w n : ℕ) → IsWidth w → n < 2 ^ w → B.describes valuation w n (B.constant c w n)
  pub any_sound : (c : C) (valuation : List ℕ) (w n : ℕ) → IsWidth w → IsTrue joins → n < 2 ^ w → B.describes valuation w n (B.any c w)
  pub range_sound : (c : C) (valuation : List ℕ) (w low high n : ℕ) → IsWidth w → IsTrue joins → low ≤ n → n ≤ high → high < 2 ^ w
      → B.describes valuation w n (B.range c w low high)
  pub op1_sound : (c : C) (valuation : List ℕ) (op : UnaryOperation) (w n : ℕ) (x : W) → IsWidth w → B.fits c w x
      → B.describes valuation w n x → B.describes valuation w (op1_of op w n) (B.op1 c op w x)
  pub op2_sound : (c : C) (valuation : List ℕ) (op : BinaryOperation) (w m n : ℕ) (x y : W) → IsWidth w → B.fits c w x → B.fits c w y
      → B.describes valuation w m x → B.describes valuation w n y → B.describes valuation w (op2_of op w m n) (B.op2 c op w x y)
  pub cmp_sound : (c : C) (valuation : List ℕ) (k : WordComparison) (w m n : ℕ) (x y : W) → IsWidth w → B.fits c w x → B.fits c w y
      → B.describes valuation w m x → B.describes valuation w n y → IsTrue (can_be (B.cmp c k w x y) (cmp_of k w m n))
  pub zext_sound : (c : C) (valuation : List ℕ) (from to n : ℕ) (x : W) → IsExtension from to → B.fits c from x
      → B.describes valuation from n x → B.describes valuation to (zext_of from to n) (B.zext c from to x)
  pub sext_sound : (c : C) (valuation : List ℕ) (from to n : ℕ) (x : W) → IsExtension from to → B.fits c from x
      → B.describes valuation from n x → B.describes valuation to (sext_of from to n) (B.sext c from to x)
  pub trunc_sound : (c : C) (valuation : List ℕ) (from to n : ℕ) (x : W) → IsExtension to from → B.fits c from x
      → B.describes valuation from n x → B.describes valuation to (trunc_of from to n) (B.trunc c from to x)
  -- ---- what is known of a word is right
  pub exact_fits : (c : C) (w v : ℕ) (x : W) → IsWidth w → B.fits c w x → B.exact c w x ≡ Some v → v < 2 ^ w
  pub exact_only : (c : C) (valuation : List ℕ) (w n v : ℕ) (x : W) → IsWidth w → B.fits c w x
      → B.exact c w x ≡ Some v → B.describes valuation w n x → n ≡ v
  pub may_sound : (c : C) (valuation : List ℕ) (w n : ℕ) (x : W) → IsWidth w → B.fits c w x
      → B.describes valuation w n x → IsTrue (B.may c w x n)
  pub members_hold : (c : C) (valuation : List ℕ) (w limit n : ℕ) (ns : List ℕ) (x : W) → IsWidth w → B.fits c w x
      → B.members c w x limit ≡ Some ns → B.describes valuation w n x → IsAmong n ns
  pub members_ascend : (c : C) (w limit : ℕ) (ns : List ℕ) (x : W) → IsWidth w → B.fits c w x
      → B.members c w x limit ≡ Some ns → IsAscending ns
  pub members_fit : (c : C) (w limit : ℕ) (ns : List ℕ) (x : W) → IsWidth w → B.fits c w x
      → B.members c w x limit ≡ Some ns → Each (λ n. (n < 2 ^ w) × IsTrue (B.may c w x n)) ns
  pub members_few : (c : C) (w limit : ℕ) (ns : List ℕ) (x : W) → IsWidth w → B.fits c w x
      → B.members c w x limit ≡ Some ns → length ns ≤ limit
  pub members_none : (c : C) (w limit : ℕ) (x : W) → IsWidth w → B.fits c w x
      → (B.members c w x limit ≡ None) ↔ (limit < B.size c w x)
  -- ---- join and widening are upper bounds
  pub join_describes : (c : C) (valuation : List ℕ) (w n : ℕ) (x y : W) → IsWidth w → MayJoin joins x y → B.fits c w x → B.fits c w y
      → B.describes valuation w n x ⊎ B.describes valuation w n y → B.describes valuation w n (B.join c w x y)
  pub join_absorbs : (c : C) (w : ℕ) (x y : W) → IsWidth w → MayJoin joins x y → B.fits c w x → B.fits c w y
      → IsTrue (B.absorbs c w (B.join c w x y) x) × IsTrue (B.absorbs c w (B.join c w x y) y)
  pub join_least : (c : C) (w : ℕ) (x y z : W) → IsWidth w → B.fits c w x → B.fits c w y → B.fits c w z
      → IsTrue (B.absorbs c w z x) → IsTrue (B.absorbs c w z y) → IsTrue (B.absorbs c w z (B.join c w x y))
  pub widen_describes : (c : C) (valuation : List ℕ) (w n : ℕ) (old new : W) → IsWidth w → MayJoin joins old new → B.fits c w old → B.fits c w new
      → B.describes valuation w n old ⊎ B.describes valuation w n new → B.describes valuation w n (B.widen c w old new)
  pub widen_absorbs : (c : C) (w : ℕ) (old new : W) → IsWidth w → MayJoin joins old new → B.fits c w old → B.fits c w new
      → IsTrue (B.absorbs c w (B.widen c w old new) old) × IsTrue (B.absorbs c w (B.widen c w old new) new)
  -- ---- absorption
  pub absorbs_itself : (c : C) (w : ℕ) (x : W) → IsWidth w → B.fits c w x → IsTrue (B.absorbs c w x x)
  pub absorbs_on : (c : C) (w : ℕ) (x y z : W) → IsWidth w → B.fits c w x → B.fits c w y → B.fits c w z
      → IsTrue (B.absorbs c w x y) → IsTrue (B.absorbs c w y z) → IsTrue (B.absorbs c w x z)
  pub absorbs_describes : (c : C) (valuation : List ℕ) (w n : ℕ) (old new : W) → IsWidth w → B.fits c w old → B.fits c w new
      → IsTrue (B.absorbs c w old new) → B.describes valuation w n new → B.describes valuation w n old
  -- ---- widening ends
  pub widen_keeps : (c : C) (w : ℕ) (old new : W) → IsWidth w → IsTrue joins → B.fits c w old → B.fits c w new
      → IsTrue (B.absorbs c w old new) → B.widen c w old new ≡ old
  pub widen_falls : (c : C) (w : ℕ) (old new : W) → IsWidth w → IsTrue joins → B.fits c w old → B.fits c w new
      → B.absorbs c w old new ≡ false → B.rank c w (B.widen c w old new) < B.rank c w old
  pub rank_height : (c : C) (w : ℕ) (x : W) → IsWidth w → B.fits c w x → B.rank c w x ≤ B.height w
  -- ---- a base that does not join has one number a word
  pub is_exact : (c : C) (w : ℕ) (x : W) → IsWidth w → joins ≡ false → B.fits c w x → IsSome (B.exact c w x)
  pub not_both : (c : C) (k : WordComparison) (w : ℕ) (x y : W) → IsWidth w → joins ≡ false → B.fits c w x → B.fits c w y
      → IsTrue (can_be (B.cmp c k w x y) true) → can_be (B.cmp c k w x y) false ≡ false
  -- ---- results fit their widths
  pub constant_fits : (c : C) (w n : ℕ) → IsWidth w → n < 2 ^ w → B.fits c w (B.constant c w n)
  pub any_fits : (c : C) (w : ℕ) → IsWidth w → B.fits c w (B.any c w)
  pub range_fits : (c : C) (w low high : ℕ) → IsWidth w → low ≤ high → high < 2 ^ w → B.fits c w (B.range c w low high)
  pub op1_fits : (c : C) (op : UnaryOperation) (w : ℕ) (x : W) → IsWidth w → B.fits c w x → B.fits c w (B.op1 c op w x)
  pub op2_fits : (c : C) (op : BinaryOperation) (w : ℕ) (x y : W) → IsWidth w → B.fits c w x → B.fits c w y → B.fits c w (B.op2 c op w x y)
  pub zext_fits : (c : C) (from to : ℕ) (x : W) → IsExtension from to → B.fits c from x → B.fits c to (B.zext c from to x)
  pub sext_fits : (c : C) (from to : ℕ) (x : W) → IsExtension from to → B.fits c from x → B.fits c to (B.sext c from to x)
  pub trunc_fits : (c : C) (from to : ℕ) (x : W) → IsExtension to from → B.fits c from x → B.fits c to (B.trunc c from to x)
  pub join_fits : (c : C) (w : ℕ) (x y : W) → IsWidth w → B.fits c w x → B.fits c w y → B.fits c w (B.join c w x y)
  pub widen_fits : (c : C) (w : ℕ) (old new : W) → IsWidth w → B.fits c w old → B.fits c w new → B.fits c w (B.widen c w old new)

-- The laws of notes.
pub record NoteLaws (N : Type 0) (joins : Bool) (B : Notes N) : Type 0 where
  -- ---- notes of definitions
  pub entry_sound : B.describes Entry B.entry
  pub at_sound : (a : ℕ) → B.describes (At a) (B.at a)
  -- ---- join and widening are upper bounds
  pub join_describes : (s : Stamp) (x y : N) → MayJoin joins x y → B.describes s x ⊎ B.describes s y → B.describes s (B.join x y)
  pub join_absorbs : (x y : N) → MayJoin joins x y → IsTrue (B.absorbs (B.join x y) x) × IsTrue (B.absorbs (B.join x y) y)
  pub join_least : (x y z : N) → IsTrue (B.absorbs z x) → IsTrue (B.absorbs z y) → IsTrue (B.absorbs z (B.join x y))
  pub widen_describes : (s : Stamp) (old new : N) → MayJoin joins old new → B.describes s old ⊎ B.describes s new → B.describes s (B.widen old new)
  pub widen_absorbs : (old new : N) → MayJoin joins old new → IsTrue (B.absorbs (B.widen old new) old) × IsTrue (B.absorbs (B.widen old new) new)
  -- ---- absorption
  pub absorbs_itself : (x : N) → IsTrue (B.absorbs x x)
  pub absorbs_on : (x y z : N) → IsTrue (B.absorbs x y) → IsTrue (B.absorbs y z) → IsTrue (B.absorbs x z)
  pub absorbs_describes : (s : Stamp) (old new : N) → IsTrue (B.absorbs old new) → B.describes s new → B.describes s old
  -- ---- widening ends: by each list of stamps that holds those of both sides
  pub widen_keeps : (old new : N) → IsTrue joins → IsTrue (B.absorbs old new) → B.widen old new ≡ old
  pub widen_falls : (stamps : List Stamp) (old new : N) → IsTrue joins → AreAmong (B.listed old) stamps → AreAmong (B.listed new) stamps
      → B.absorbs old new ≡ false → B.rank stamps (B.widen old new) < B.rank stamps old
  pub rank_height : (stamps : List Stamp) (x : N) → B.rank stamps x ≤ B.height (length stamps)
  -- ---- reads are covered, and no use names another map or key
  pub reads_cover : (m : ℕ) (key : Option ℕ) (k : ℕ) (s : Stamp) (x : N) → IsTrue B.stamped → IsKey key k → B.describes s x
      → AreCovering (B.reads m key x) (record { of_map = m; key = k; stamp = s })
  pub reads_name : (m : ℕ) (key : Option ℕ) (x : N) → Each (λ u. (u.of_map ≡ m) × (u.key ≡ key)) (B.reads m key x)
  pub reads_nothing : (m : ℕ) (key : Option ℕ) (x : N) → B.stamped ≡ false → B.reads m key x ≡ []
  -- ---- no call lists a stamp that it was not lent
  pub entry_lists : AreAmong (B.listed B.entry) (Entry ∷ [])
  pub at_lists : (a : ℕ) → AreAmong (B.listed (B.at a)) (At a ∷ [])
  pub join_lists : (x y : N) → AreAmong (B.listed (B.join x y)) (B.listed x ++ B.listed y)
  pub widen_lists : (old new : N) → AreAmong (B.listed (B.widen old new)) (B.listed old ++ B.listed new)
  pub reads_list : (m : ℕ) (key : Option ℕ) (x : N) → Each (λ u. AreAmong u.stamps (B.listed x)) (B.reads m key x)

pub record Laws (W N C : Type 0) (B : Algebra W N C) : Type 0 where
  pub words : WordLaws W C B.joins B.words
  pub notes : NoteLaws N B.joins B.notes
