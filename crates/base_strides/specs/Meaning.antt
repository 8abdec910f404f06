-- The base of sets of at most 16 numbers and strided intervals.
use Rattle.std.specs.Prelude.{ℕ, zero, suc, ◌+◌, ◌-◌, ◌*◌, ◌/◌, ◌^◌, ◌<◌, ◌≤◌, Bool, true, false, List, [], ◌∷◌, ◌++◌, map, length, take, Option, Some, None, ◌&&◌, nat_lt, nat_le, if◌then◌else◌}
use Rattle.std.specs.List.{list_all, flat_map}
use Rattle.word_operations.specs.declared.kinds.WordComparison.{WordComparison}
use Rattle.word_operations.specs.declared.kinds.WordComparison.TheVariants.{Eq, Ne, LtU, LeU, LtS, LeS}
use Rattle.word_operations.specs.Op1.{op1_of}
use Rattle.word_operations.specs.Op2.{op2_of}
use Rattle.word_operations.specs.Casts.{sext_of, trunc_of}
use Rattle.base_trait.specs.Algebra.{Algebra, Words}
use Rattle.base_trait.specs.Lists.{IsAmong}
use Rattle.base_trait.specs.NoNotes.{no_notes}
use Rattle.base_trait.specs.declared.tri.Tri.{Tri}
use Rattle.base_kset.specs.Sets.{set_with, has, IsSet, is_set}
use Rattle.base_kset.specs.Meaning.{some_pair, outcome, one_item}
use Rattle.base_interval.specs.Compare.{compared as compared_ranges}
use Rattle.base_strides.specs.Gcd.{gcd}
use Rattle.base_strides.specs.Rows.{range, op1_row, op2_row, trunc_row, sext_row}
use Rattle.base_strides.specs.Sound.{IsPart}
use Rattle.base_strides.specs.Stretch.{Holds, stretch, divides, has_number, is_within, apart, common_step, hull_of, hull, more, numbers}
use Rattle.base_strides.specs.Words.{Word, Listed, Strided}
use Rattle.base_strides.specs.declared.stretch.Stretch.{Stretch}

-- the greatest size of a set
abbrev pub most : ℕ
most = 16

-- ---- what a word stands for
abbrev pub Stands : Word → ℕ → Type 0
Stands (Listed s) n = IsAmong n s
Stands (Strided x) n = Holds x n

-- a stretch of more numbers than a set may have
pub record IsLong (w : ℕ) (x : Stretch) : Type 0 where
  pub part : IsPart w x
  pub many : most ≤ more x

abbrev pub is_long : ℕ → Stretch → Bool
is_long w x = nat_le x.lo x.hi && (divides x.step (x.hi - x.lo) && (nat_lt x.hi (2 ^ w) && nat_le most (more x)))

abbrev pub Fits : ℕ → Word → Type 0
Fits w (Listed s) = IsSet most w s
Fits w (Strided x) = IsLong w x

abbrev pub fits_word : ℕ → Word → Bool
fits_word w (Listed s) = is_set most w s
fits_word w (Strided x) = is_long w x

-- ---- words of numbers and of stretches
-- the set of its numbers where they are at most 16, else the stretch
abbrev pub of_stretch : Stretch → Word
of_stretch x = if nat_lt (more x) most then Listed (numbers x) else Strided x

-- the set with more numbers, where they are at most 16, else their hull
abbrev pub collected : List ℕ → List ℕ → Word
collected s ns = if nat_le (length (set_with s ns)) most then Listed (set_with s ns) else of_stretch (hull (s ++ ns))

-- the least stretch that holds each number of the word
abbrev pub span : Word → Stretch
span (Listed s) = hull s
span (Strided x) = x

-- ---- operations: number by number of sets, else of the spans
abbrev pub on_one : (ℕ → ℕ) → (Stretch → Stretch) → Word → Word
on_one f row (Listed s) = collected [] (map f s)
on_one f row (Strided x) = of_stretch (row x)

abbrev pub on_two : (ℕ → ℕ → ℕ) → (Stretch → Stretch → Stretch) → Word → Word → Word
on_two f row (Listed s) (Listed t) = collected [] (flat_map (λ x. map (f x) t) s)
on_two f row (Listed s) (Strided y) = of_stretch (row (hull s) y)
on_two f row (Strided x) y = of_stretch (row x (span y))

-- ---- comparisons
-- whether the classes of two stretches have a number in common, as far as their steps tell
abbrev pub may_meet : Stretch → Stretch → Bool
may_meet x y = divides (gcd x.step y.step) (apart x.lo y.lo)

abbrev pub equal_stretches : ℕ → Stretch → Stretch → Tri
equal_stretches w x y = record {
  may_true = (compared_ranges Eq w (range x) (range y)).may_true && may_meet x y;
  may_false = (compared_ranges Eq w (range x) (range y)).may_false;
}

abbrev pub turned : Tri → Tri
turned t = record { may_true = t.may_false; may_false = t.may_true }

-- by ends, and of equality by classes too
abbrev pub compared_stretches : WordComparison → ℕ → Stretch → Stretch → Tri
compared_stretches Eq w x y = equal_stretches w x y
compared_stretches Ne w x y = turned (equal_stretches w x y)
compared_stretches LtU w x y = compared_ranges LtU w (range x) (range y)
compared_stretches LeU w x y = compared_ranges LeU w (range x) (range y)
compared_stretches LtS w x y = compared_ranges LtS w (range x) (range y)
compared_stretches LeS w x y = compared_ranges LeS w (range x) (range y)

abbrev pub compared : WordComparison → ℕ → Word → Word → Tri
compared k w (Listed s) (Listed t) = record { may_true = some_pair (outcome k w true) s t; may_false = some_pair (outcome k w false) s t }
compared k w (Listed s) (Strided y) = compared_stretches k w (hull s) y
compared k w (Strided x) y = compared_stretches k w x (span y)

-- ---- join and widening
abbrev pub absorbs_word : Word → Word → Bool
absorbs_word (Listed s) (Listed t) = list_all (has s) t
absorbs_word (Listed s) (Strided y) = false
absorbs_word (Strided x) y = is_within x (span y)

abbrev pub join_of : Word → Word → Word
join_of (Listed s) (Listed t) = collected s t
join_of (Listed s) (Strided y) = of_stretch (hull_of (hull s) y)
join_of (Strided x) y = of_stretch (hull_of x (span y))

-- the stops that count: the first 64
abbrev pub heeded : List ℕ → List ℕ
heeded = take 64

-- the greatest stop that is at most n, or 0
abbrev pub stop_below : List ℕ → ℕ → ℕ
stop_below [] n = 0
stop_below (t ∷ ts) n = if nat_le t n && nat_le (stop_below ts n) t then t else stop_below ts n

-- the least stop that is at least n, or the greatest number
abbrev pub stop_above : ℕ → List ℕ → ℕ → ℕ
stop_above top [] n = top
stop_above top (t ∷ ts) n = if nat_le n t && nat_le t (stop_above top ts n) then t else stop_above top ts n

-- An end that the new one does not pass stays. Another goes to the next stop, and as many steps back from it as
-- the class demands.
abbrev pub widened_low : List ℕ → ℕ → ℕ → ℕ → ℕ
widened_low stops step old new = if nat_le old new then old else new - (new - stop_below stops new) / step * step

abbrev pub widened_high : ℕ → List ℕ → ℕ → ℕ → ℕ
widened_high w stops old new = if nat_le new old then old else stop_above (2 ^ w - 1) stops new

abbrev pub widened : List ℕ → ℕ → Stretch → Stretch → Stretch
widened stops w old new =
    stretch (widened_low stops (common_step old new) old.lo new.lo) (common_step old new) (widened_high w stops old.hi new.hi)

abbrev pub grown : List ℕ → ℕ → Word → Word → Word
grown stops w (Listed s) (Listed t) =
    if nat_le (length (set_with s t)) most then Listed (set_with s t) else Strided (widened stops w (hull s) (hull t))
grown stops w (Listed s) (Strided y) = Strided (widened stops w (hull s) y)
grown stops w (Strided x) y = Strided (widened stops w x (span y))

abbrev pub widen_of : List ℕ → ℕ → Word → Word → Word
widen_of stops w old new = if absorbs_word old new then old else grown (heeded stops) w old new

-- ---- ranks
abbrev pub how_many : (ℕ → Bool) → List ℕ → ℕ
how_many test [] = 0
how_many test (t ∷ ts) = (if test t then 1 else 0) + how_many test ts

-- how often a number can be halved, as far as it is below 2 ^ w
abbrev pub halvings : ℕ → ℕ → ℕ
halvings zero n = 0
halvings (suc w) n = if nat_lt n 2 then 0 else 1 + halvings w (n / 2)

-- stops that the low end, and the high end, can still go to
abbrev pub low_stops : List ℕ → Stretch → ℕ
low_stops stops x = how_many (λ t. nat_le (t + x.step) x.lo) (0 ∷ stops)

abbrev pub high_stops : List ℕ → ℕ → Stretch → ℕ
high_stops stops w x = how_many (λ t. nat_le (x.hi + x.step) t) ((2 ^ w - 1) ∷ stops)

abbrev pub stretch_rank : List ℕ → ℕ → Stretch → ℕ
stretch_rank stops w x = 131 * halvings w x.step + (low_stops stops x + high_stops stops w x)

abbrev pub rank_of : List ℕ → ℕ → Word → ℕ
rank_of stops w (Listed s) = 131 * w + 131 + (most - length s)
rank_of stops w (Strided x) = stretch_rank stops w x

-- ---- what is known of a word
abbrev pub exact_of : Word → Option ℕ
exact_of (Listed s) = one_item s
exact_of (Strided x) = None

abbrev pub may_be : Word → ℕ → Bool
may_be (Listed s) k = has s k
may_be (Strided x) k = has_number x k

abbrev pub all_of : Word → List ℕ
all_of (Listed s) = s
all_of (Strided x) = numbers x

abbrev pub size_of : Word → ℕ
size_of (Listed s) = length s
size_of (Strided x) = more x + 1

abbrev pub members_of : Word → ℕ → Option (List ℕ)
members_of x limit = if nat_le (size_of x) limit then Some (all_of x) else None

-- ---- the base. Its context is the list of stops.
abbrev pub words : Words Word (List ℕ)
words = record {
  describes = λ valuation w n x. Stands x n × (n < 2 ^ w);
  fits = λ c w x. Fits w x;
  fits_test = λ c w x. fits_word w x;
  looks = false;
  constant = λ c w v. Listed (v ∷ []);
  any = λ c w. of_stretch (stretch 0 1 (2 ^ w - 1));
  range = λ c w low high. of_stretch (stretch low 1 high);
  op1 = λ c op w x. on_one (op1_of op w) (op1_row op w) x;
  op2 = λ c op w x y. on_two (op2_of op w) (op2_row op w) x y;
  cmp = λ c k w x y. compared k w x y;
  zext = λ c from to x. x;
  sext = λ c from to x. on_one (sext_of from to) (sext_row from to) x;
  trunc = λ c from to x. on_one (trunc_of from to) (trunc_row to) x;
  join = λ c w x y. join_of x y;
  widen = λ c w old new. widen_of c w old new;
  absorbs = λ c w old new. absorbs_word old new;
  rank = λ c w x. rank_of (heeded c) w x;
  height = λ w. 131 * w + 147;
  exact = λ c w x. exact_of x;
  may = λ c w x k. may_be x k;
  members = λ c w x limit. members_of x limit;
  size = λ c w x. size_of x;
}

abbrev pub strides : Algebra Word (Unit {0}) (List ℕ)
strides = record { joins = true; words = words; notes = no_notes }
