-- The comparisons of cells with known numbers on which the counter may hang, in the order of evaluation.
use Rattle.std.specs.Prelude.{ℕ, zero, suc, ◌==◌, ◌^◌, ◌||◌, nat_lt, Bool, true, false, if◌then◌else◌, List, [], ◌∷◌, ◌++◌, Option, Some, None}
use Rattle.word_operations.specs.declared.kinds.WordComparison.{WordComparison}
use Rattle.word_operations.specs.declared.kinds.WordComparison.TheVariants.{LtS, LeS}
use Rattle.spec_ir.specs.CoreTerms as t
use Rattle.spec_ir.specs.CoreTerms.{Core, Cores}
use Rattle.semantics_values.specs.Values.{Val}
use Rattle.analysis_choices.specs.declared.comparison.CellComparison.{CellComparison}
use Rattle.analysis_choices.specs.declared.symbol.ShiftedCell.{ShiftedCell}
use Rattle.analysis_choices.specs.declared.symbol.Symbol.{Symbol}
use Rattle.analysis_choices.specs.declared.symbol.Symbol.TheVariants.{Number}
use Rattle.analysis_choices.specs.Matches.{arm_of}
use Rattle.analysis_choices.specs.Symbols.{as_cell, decided, symbol_of}

-- what is there, as a list
abbrev pub in_list : {A : Type 0} → Option A → List A
in_list None = []
in_list (Some x) = x ∷ []

-- with a number of 32 bits
abbrev pub with_number : WordComparison → Bool → ℕ → Option ShiftedCell → Option CellComparison
with_number k on_left n None = None
with_number k on_left n (Some cell) = if nat_lt n (2 ^ 32) then Some (record { cell = cell; op = k; on_left = on_left; number = n }) else None

-- of two words
abbrev pub of_sides : WordComparison → Symbol → Symbol → Option CellComparison
of_sides k x (Number n) = with_number k true n (as_cell x)
of_sides k (Number n) y = with_number k false n (as_cell y)
of_sides k x y = None

-- whether it compares the numbers themselves, at each width alike
abbrev pub is_unsigned : WordComparison → Bool
is_unsigned LtS = false
is_unsigned LeS = false
is_unsigned k = true

-- signed comparisons of 32 bits alone
abbrev pub of_words : WordComparison → ℕ → Symbol → Symbol → Option CellComparison
of_words k w x y = if w == 32 || is_unsigned k then of_sides k x y else None

-- of the branches that may be taken
abbrev pub of_branches : Option Bool → List CellComparison → List CellComparison → List CellComparison
of_branches (Some true) x y = x
of_branches (Some false) x y = y
of_branches None x y = x ++ y

-- of the arm that is taken, if it is known
abbrev pub of_arm : (ℕ → List Symbol → List CellComparison) → Option (ℕ × List Symbol) → List CellComparison
of_arm f None = []
of_arm f (Some arm) = f arm.0 arm.1

module _ (instruction : Val) where
  abbrev mutual
    pub compared : List Symbol → Core → List CellComparison
    compared env (t.var n) = []
    compared env (t.flag b) = []
    compared env (t.word w v) = []
    compared env (t.un op w x) = compared env x
    compared env (t.bin op w x y) = compared env x ++ compared env y
    compared env (t.test k w x y) = in_list (of_words k w (symbol_of env x) (symbol_of env y))
    compared env (t.cast kind from to x) = compared env x
    compared env (t.let_in x body) = compared (env ++ symbol_of env x ∷ []) body
    compared env (t.if_else b x y) = compared env b ++ of_branches (decided env b) (compared env x) (compared env y)
    compared env (t.choose x by arms) = of_arm (λ r more. arm_at (env ++ more) arms r) (arm_of instruction (symbol_of env x) by)
    compared env (t.make d k args) = arm_at env args 0
    compared env (t.call f args) = []
    compared env (t.get m x k) = []
    compared env (t.put m x k v) = []

    pub arm_at : List Symbol → Cores → ℕ → List CellComparison
    arm_at env t.no_core r = []
    arm_at env (t.core_then x rest) zero = compared env x
    arm_at env (t.core_then x rest) (suc r) = arm_at env rest r
