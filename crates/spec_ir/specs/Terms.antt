-- A typed term as plain data.
use Rattle.std.specs.Prelude.{ℕ, Bool, List, [], ◌∷◌}
use Rattle.word_operations.specs.declared.kinds.UnaryOperation.{UnaryOperation}
use Rattle.word_operations.specs.declared.kinds.BinaryOperation.{BinaryOperation}
use Rattle.word_operations.specs.declared.kinds.WordComparison.{WordComparison}
use Rattle.spec_match_compiler.specs.Patterns.{Pattern}
use Rattle.spec_ir.specs.declared.term.CastKind.{CastKind}

mutual
  pub data Term : Type 0 where
    -- the place of a variable in the list of names in scope, outermost first
    var : ℕ → Term
    flag : Bool → Term
    -- width and number
    word : ℕ → ℕ → Term
    un : UnaryOperation → ℕ → Term → Term
    bin : BinaryOperation → ℕ → Term → Term → Term
    test : WordComparison → ℕ → Term → Term → Term
    -- from and to which width
    cast : CastKind → ℕ → ℕ → Term → Term
    let_in : Term → Term → Term
    if_else : Term → Term → Term → Term
    match_on : Term → Arms → Term
    -- datatype, constructor, arguments
    make : ℕ → ℕ → Terms → Term
    call : ℕ → Terms → Term
    get : ℕ → Term → Term → Term
    put : ℕ → Term → Term → Term → Term

  pub data Terms : Type 0 where
    no_term : Terms
    term_then : Term → Terms → Terms

  pub data Arms : Type 0 where
    no_arm : Arms
    arm_then : Pattern → Term → Arms → Arms

-- a list in front of more
abbrev pub terms_onto : List Term → Terms → Terms
terms_onto [] rest = rest
terms_onto (t ∷ ts) rest = term_then t (terms_onto ts rest)

abbrev pub terms : List Term → Terms
terms ts = terms_onto ts no_term

abbrev pub arms_onto : List (Pattern × Term) → Arms → Arms
arms_onto [] rest = rest
arms_onto (a ∷ as_) rest = arm_then a.0 a.1 (arms_onto as_ rest)

abbrev pub arms : List (Pattern × Term) → Arms
arms as_ = arms_onto as_ no_arm

-- the patterns of a match
abbrev pub patterns_of : Arms → List Pattern
patterns_of no_arm = []
patterns_of (arm_then p t rest) = p ∷ patterns_of rest
