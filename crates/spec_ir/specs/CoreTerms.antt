-- A core term as plain data.
use Rattle.std.specs.Prelude.{ℕ, Bool, List, [], ◌∷◌}
use Rattle.word_operations.specs.declared.kinds.UnaryOperation.{UnaryOperation}
use Rattle.word_operations.specs.declared.kinds.BinaryOperation.{BinaryOperation}
use Rattle.word_operations.specs.declared.kinds.WordComparison.{WordComparison}
use Rattle.spec_match_compiler.specs.Decisions.{Decision}
use Rattle.spec_ir.specs.declared.term.CastKind.{CastKind}

mutual
  pub data Core : Type 0 where
    var : ℕ → Core
    flag : Bool → Core
    word : ℕ → ℕ → Core
    un : UnaryOperation → ℕ → Core → Core
    bin : BinaryOperation → ℕ → Core → Core → Core
    test : WordComparison → ℕ → Core → Core → Core
    cast : CastKind → ℕ → ℕ → Core → Core
    let_in : Core → Core → Core
    if_else : Core → Core → Core → Core
    choose : Core → Decision → Cores → Core
    make : ℕ → ℕ → Cores → Core
    call : ℕ → Cores → Core
    get : ℕ → Core → Core → Core
    put : ℕ → Core → Core → Core → Core

  pub data Cores : Type 0 where
    no_core : Cores
    core_then : Core → Cores → Cores

-- a list in front of more
abbrev pub cores_onto : List Core → Cores → Cores
cores_onto [] rest = rest
cores_onto (t ∷ ts) rest = core_then t (cores_onto ts rest)

abbrev pub cores : List Core → Cores
cores ts = cores_onto ts no_core
