-- What an answer of a table is good for: each run, or each run until it is at an address that is left open.
use Rattle.std.specs.Prelude.{◌≡◌, ◌⊎◌, ℕ, IsSome, List, ◌++◌, codes}
use Rattle.fixpoint_open_tables.specs.Endings.{Endings, IsNowhereOpen}

-- the line before an answer that is good until then
abbrev pub until_open : List ℕ
until_open = codes "until open\n"

-- Some address is left open.
abbrev pub IsSomewhereOpen : {W : Type 0} → Endings W → Type 0
IsSomewhereOpen ends = (at : ℕ) × IsSome (ends at)

-- The bytes are a text, behind that line exactly where some address is left open.
abbrev pub IsMarked : {W : Type 0} → Endings W → List ℕ → List ℕ → Type 0
IsMarked ends text bytes = (IsNowhereOpen ends × (bytes ≡ text)) ⊎ (IsSomewhereOpen ends × (bytes ≡ until_open ++ text))

-- They are so a text of this kind.
abbrev pub Marked : {W : Type 0} → Endings W → (List ℕ → Type 0) → List ℕ → Type 0
Marked ends Is bytes = (text : List ℕ) × Is text × IsMarked ends text bytes
