-- What cases send together: the elements behind them, address by address.
use Rattle.std.specs.Prelude.{ℕ, ◌==◌, nat_lt, List, [], ◌∷◌, ◌++◌, Option, None, Some, fold, if◌then◌else◌}
use Rattle.base_trait.specs.Uses.{Seen}
use Rattle.fixpoint_theory.specs.Elements.{Elements}
use Rattle.fixpoint_theory.specs.Outcome.{Outcome, arrivals_behind, moves, sends, too_many, undecodable}

module _ {E S : Type 0} (D : Elements E S) where
  -- one more element that arrives, among those that do, by ascending addresses: beside what another case sent there both join
  abbrev pub put : ℕ × E → List (ℕ × E) → List (ℕ × E)
  put x [] = x ∷ []
  put x (y ∷ ys) = if x.0 == y.0 then (y.0, D.join y.1 x.1) ∷ ys else (if nat_lt x.0 y.0 then x ∷ y ∷ ys else y ∷ put x ys)

  abbrev pub put_all : List (ℕ × E) → List (ℕ × E) → List (ℕ × E)
  put_all more arrivals = fold (λ ys x. put x ys) arrivals more

  module _ {W : Type 0} where
    -- one case more, behind cases that each have targets
    abbrev pub and_sent : List (ℕ × E) → List Seen → Outcome E W → Outcome E W
    and_sent arrivals uses (undecodable word) = undecodable word
    and_sent arrivals uses (too_many shown more) = too_many shown more
    and_sent arrivals uses (moves targets post more) = sends (put_all (arrivals_behind post targets) arrivals) (uses ++ more)
    and_sent arrivals uses (sends others more) = sends (put_all others arrivals) (uses ++ more)

    abbrev pub and_case : Outcome E W → Outcome E W → Outcome E W
    and_case (undecodable word) leaf = undecodable word
    and_case (too_many shown uses) leaf = too_many shown uses
    and_case (moves targets post uses) leaf = and_sent (arrivals_behind post targets) uses leaf
    and_case (sends arrivals uses) leaf = and_sent arrivals uses leaf

    -- What cases with these outcomes come to: what they send, with the uses of all; or the first of them that has no decoding, or too many targets.
    abbrev pub sent_by_cases : List (Outcome E W) → Outcome E W
    sent_by_cases leaves = fold and_case (sends [] []) leaves

-- The same outcome with its uses merged.
abbrev pub merged : {E W : Type 0} → (List Seen → List Seen) → Outcome E W → Outcome E W
merged merge (undecodable word) = undecodable word
merged merge (too_many shown uses) = too_many shown (merge uses)
merged merge (moves targets post uses) = moves targets post (merge uses)
merged merge (sends arrivals uses) = sends arrivals (merge uses)

-- The outcome of cases; that of the whole where a case has too many targets.
abbrev pub unless_many : {E W : Type 0} → Outcome E W → Outcome E W → Outcome E W
unless_many whole (undecodable word) = undecodable word
unless_many whole (too_many shown uses) = whole
unless_many whole (moves targets post uses) = moves targets post uses
unless_many whole (sends arrivals uses) = sends arrivals uses

-- The outcome of pieces; that of the whole where it is not split.
abbrev pub where_split : {E W : Type 0} → Outcome E W → Option (List E) → Outcome E W → Outcome E W
where_split whole None by_pieces = whole
where_split whole (Some pieces) by_pieces = by_pieces
