-- Counts of leaves, up to just past the limit.
use Rattle.std.specs.Prelude.{◌≡◌, ℕ, ◌+◌, ◌<◌, min, nat_lt, Bool, false, Option, Some, None, List, [], ◌∷◌, length, slice_index_or}
use Rattle.spec_ir.specs.declared.ty.Ty.TheVariants.{Bool as Flag, Word, Data as DataTy, Map as MapOf}
use Rattle.spec_declarations.specs.declared.type_names.Meaning.{Meaning}
use Rattle.spec_declarations.specs.declared.type_names.Meaning.TheVariants.{Known, BadWidth, Unknown}
use Rattle.spec_declarations.specs.Leaves.{Made, most_leaves, past_leaves}

-- ---- leaves but those of the datatypes in fields; none where a type is unknown

abbrev pub one_more : Option ℕ → Option ℕ
one_more None = None
one_more (Some n) = Some (n + 1)

abbrev pub plain_with : Option ℕ → Meaning → Option ℕ
plain_with n (Known Flag) = one_more n
plain_with n (Known (Word w)) = one_more n
plain_with n (Known (DataTy d)) = n
plain_with n (Known (MapOf m)) = one_more n
plain_with n BadWidth = one_more n
plain_with n Unknown = None

abbrev pub plain_fields : Option ℕ → List Meaning → Option ℕ
plain_fields n [] = n
plain_fields n (f ∷ fields) = plain_fields (plain_with n f) fields

abbrev pub plain_cases : Option ℕ → Made → Option ℕ
plain_cases n [] = n
plain_cases n (c ∷ cases) = plain_cases (plain_fields (one_more n) c) cases

abbrev pub plain : Made → Option ℕ
plain cases = plain_cases (Some 0) cases

-- ---- counts

-- a sum, up to one past the limit
abbrev pub capped_sum : Option ℕ → Option ℕ → Option ℕ
capped_sum None b = None
capped_sum (Some a) None = None
capped_sum (Some a) (Some b) = Some (min (a + b) past_leaves)

-- a count with those of datatypes
abbrev pub total : Option ℕ → List (Option ℕ) → List ℕ → Option ℕ
total n counts [] = n
total n counts (d ∷ held) = total (capped_sum n (slice_index_or counts d None)) counts held

-- what each datatype holds, and its other leaves
module _ (graph : List (List ℕ)) (own : List (Option ℕ)) where
  mutual
    -- the leaves of a datatype: its own, and those of all that it holds
    pub data CountOf : ℕ → ℕ → Type 0 where
      counted : {d p m : ℕ} → slice_index_or own d None ≡ Some p → SumOf (slice_index_or graph d []) m → CountOf d (p + m)

    pub data SumOf : List ℕ → ℕ → Type 0 where
      nothing : SumOf [] 0
      next : {d m n : ℕ} {ds : List ℕ} → CountOf d m → SumOf ds n → SumOf (d ∷ ds) (m + n)

  -- what the counts say of a datatype
  abbrev pub count_in : List (Option ℕ) → ℕ → Option ℕ
  count_in counts d = total (capped_sum (Some 0) (slice_index_or own d None)) counts (slice_index_or graph d [])

  -- a count is right, up to one past the limit
  abbrev pub IsCount : ℕ → ℕ → Type 0
  IsCount d k = (n : ℕ) × CountOf d n × (k ≡ min n past_leaves)

  abbrev pub AreSound : List (Option ℕ) → Type 0
  AreSound counts = (d k : ℕ) → slice_index_or counts d None ≡ Some k → IsCount d k

  -- among the first n datatypes all are counted that can be
  abbrev pub AreSettled : List (Option ℕ) → ℕ → Type 0
  AreSettled counts n = (d : ℕ) → d < n → slice_index_or counts d None ≡ None → count_in counts d ≡ None

  pub record AreCounts (counts : List (Option ℕ)) : Type 0 where
    pub width : length counts ≡ length graph
    pub sound : AreSound counts
    pub settled : AreSettled counts (length graph)

-- whether a count is past the limit
abbrev pub is_past : Option ℕ → Bool
is_past None = false
is_past (Some k) = nat_lt most_leaves k

-- how many datatypes are not counted
abbrev pub uncounted : List (Option ℕ) → ℕ
uncounted [] = 0
uncounted (None ∷ counts) = uncounted counts + 1
uncounted (Some n ∷ counts) = uncounted counts
