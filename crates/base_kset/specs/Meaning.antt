-- The base of sets of at most K numbers. A word is such a set, or none where it is any.
use Rattle.std.specs.Prelude.{ℕ, ◌^◌, ◌<◌, Bool, true, false, not, List, [], ◌∷◌, length, Option, Some, None, nat_le, if◌then◌else◌, ⊤}
use Rattle.std.specs.List.{list_any, list_all, range_with_len}
use Rattle.word_operations.specs.declared.kinds.WordComparison.{WordComparison}
use Rattle.word_operations.specs.Op1.{op1_of}
use Rattle.word_operations.specs.Op2.{op2_of}
use Rattle.word_operations.specs.Cmp.{cmp_of}
use Rattle.word_operations.specs.Casts.{zext_of, sext_of, trunc_of}
use Rattle.base_trait.specs.Algebra.{Algebra, Words}
use Rattle.base_trait.specs.Lists.{IsAmong}
use Rattle.base_trait.specs.NoNotes.{no_notes}
use Rattle.base_trait.specs.declared.tri.Tri.{Tri}
use Rattle.base_kset.specs.Sets.{has, bounded, images, products, union, from_to, IsSet, is_set}

-- the word stands for the number
abbrev pub Stands : Option (List ℕ) → ℕ → Type 0
Stands None n = ⊤
Stands (Some s) n = IsAmong n s

-- the word is one of w bits
abbrev pub Fits : ℕ → ℕ → Option (List ℕ) → Type 0
Fits K w None = ⊤
Fits K w (Some s) = IsSet K w s

-- whether it is one
abbrev pub fits_word : ℕ → ℕ → Option (List ℕ) → Bool
fits_word K w None = true
fits_word K w (Some s) = is_set K w s

-- some pair of numbers passes the test
abbrev pub some_pair : (ℕ → ℕ → Bool) → List ℕ → List ℕ → Bool
some_pair test s t = list_any (λ x. list_any (test x) t) s

-- whether the comparison has this truth value
abbrev pub outcome : WordComparison → ℕ → Bool → ℕ → ℕ → Bool
outcome k w true x y = cmp_of k w x y
outcome k w false x y = not (cmp_of k w x y)

abbrev pub compared : WordComparison → ℕ → Option (List ℕ) → Option (List ℕ) → Tri
compared k w (Some s) (Some t) = record { may_true = some_pair (outcome k w true) s t; may_false = some_pair (outcome k w false) s t }
compared k w _ _ = record { may_true = true; may_false = true }

-- any absorbs every word, and a set each set whose numbers it has
abbrev pub absorbs_set : Option (List ℕ) → Option (List ℕ) → Bool
absorbs_set None new = true
absorbs_set (Some s) None = false
absorbs_set (Some s) (Some t) = list_all (has s) t

abbrev pub one_item : List ℕ → Option ℕ
one_item (x ∷ []) = Some x
one_item _ = None

abbrev pub the_number : Option (List ℕ) → Option ℕ
the_number None = None
the_number (Some s) = one_item s

abbrev pub may_be : Option (List ℕ) → ℕ → Bool
may_be None k = true
may_be (Some s) k = has s k

abbrev pub rank_of : Option (List ℕ) → ℕ
rank_of None = 0
rank_of (Some s) = 1

-- any has every number of the width
abbrev pub all_of : ℕ → Option (List ℕ) → List ℕ
all_of w None = range_with_len 0 (2 ^ w)
all_of w (Some s) = s

abbrev pub size_of : ℕ → Option (List ℕ) → ℕ
size_of w None = 2 ^ w
size_of w (Some s) = length s

abbrev pub words : ℕ → Words (Option (List ℕ)) (Unit {0})
words K = record {
  describes = λ valuation w n x. Stands x n × (n < 2 ^ w);
  fits = λ c w x. Fits K w x;
  fits_test = λ c w x. fits_word K w x;
  looks = false;
  constant = λ c w v. bounded K (v ∷ []);
  any = λ c w. None;
  range = λ c w low high. from_to K low high;
  op1 = λ c op w x. images K (op1_of op w) x;
  op2 = λ c op w x y. products K (op2_of op w) x y;
  cmp = λ c k w x y. compared k w x y;
  zext = λ c from to x. images K (zext_of from to) x;
  sext = λ c from to x. images K (sext_of from to) x;
  trunc = λ c from to x. images K (trunc_of from to) x;
  join = λ c w x y. union K x y;
  widen = λ c w old new. if absorbs_set old new then old else None;
  absorbs = λ c w old new. absorbs_set old new;
  rank = λ c w x. rank_of x;
  height = λ w. 1;
  exact = λ c w x. the_number x;
  may = λ c w x k. may_be x k;
  members = λ c w x limit. if nat_le (size_of w x) limit then Some (all_of w x) else None;
  size = λ c w x. size_of w x;
}

abbrev pub kset : ℕ → Algebra (Option (List ℕ)) (Unit {0}) (Unit {0})
kset K = record { joins = true; words = words K; notes = no_notes }
