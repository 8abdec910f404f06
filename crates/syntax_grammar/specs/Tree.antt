-- The tree of a specification as plain data: terms, patterns and declarations with their lists.
use Rattle.std.specs.Prelude.{ℕ, Bool, List, [], ◌∷◌}
use Rattle.syntax_lexer.specs.declared.token.Keyword.{Keyword}
use Rattle.syntax_grammar.specs.declared.tree.Span.{Span}
use Rattle.syntax_grammar.specs.declared.tree.Name.{Name}
use Rattle.syntax_grammar.specs.declared.tree.Num.{Num}
use Rattle.syntax_grammar.specs.declared.tree.BinOp.{BinOp}
use Rattle.syntax_grammar.specs.declared.tree.PreOp.{PreOp}
use Rattle.syntax_grammar.specs.declared.tree.FieldDecl.{FieldDecl}
use Rattle.syntax_grammar.specs.declared.tree.MapDecl.{MapDecl}
use Rattle.syntax_grammar.specs.declared.tree.PartDecl.{PartDecl}
use Rattle.syntax_grammar.specs.declared.tree.GuardDecl.{GuardDecl}
use Rattle.syntax_grammar.specs.declared.tree.ArgDecl.{ArgDecl}

mutual
  pub data Pattern : Type 0 where
    any : Span → Pattern
    bind : Name → Pattern
    word : Num → Num → Span → Pattern
    flag : Bool → Span → Pattern
    make : Name → Patterns → Span → Pattern

  pub data Patterns : Type 0 where
    none : Patterns
    more : Pattern → Patterns → Patterns

mutual
  pub data Term : Type 0 where
    let_in : Name → Term → Term → Span → Term
    if_else : Term → Term → Term → Span → Term
    binary : BinOp → Term → Term → Span → Term
    prefix : PreOp → Term → Span → Term
    get : Term → Term → Span → Term
    put : Term → Term → Term → Span → Term
    word : Num → Num → Span → Term
    flag : Bool → Span → Term
    var : Name → Term
    call : Name → Terms → Span → Term
    make : Name → Terms → Span → Term
    operation : Keyword → Term → Term → Span → Term
    cast : Keyword → Term → Num → Span → Term
    match_on : Term → Arms → Span → Term
    paren : Term → Span → Term

  pub data Terms : Type 0 where
    none : Terms
    more : Term → Terms → Terms

  pub data Arms : Type 0 where
    no_arm : Arms
    arm : Pattern → Term → Span → Arms → Arms

abbrev pub patterns : List Pattern → Patterns
patterns [] = Patterns.none
patterns (p ∷ ps) = Patterns.more p (patterns ps)

abbrev pub terms : List Term → Terms
terms [] = Terms.none
terms (t ∷ ts) = Terms.more t (terms ts)

-- an arm of a match
pub record Arm : Type 0 where
  pub pat : Pattern
  pub body : Term
  pub span : Span

abbrev pub arms : List Arm → Arms
arms [] = no_arm
arms (a ∷ rest) = arm a.pat a.body a.span (arms rest)

-- a constructor of a datatype
pub record Constructor : Type 0 where
  pub name : Name
  pub fields : List FieldDecl
  pub span : Span

pub record Datatype : Type 0 where
  pub name : Name
  pub cases : List Constructor
  pub span : Span

pub record Function : Type 0 where
  pub name : Name
  pub params : List FieldDecl
  pub result_type : Name
  pub body : Term
  pub span : Span

-- a row of a decode section
pub record Row : Type 0 where
  pub parts : List PartDecl
  pub guards : List GuardDecl
  pub case : Name
  pub args : List ArgDecl
  pub span : Span

pub record DecodeSection : Type 0 where
  pub rows : List Row
  pub span : Span

-- a declaration
pub data Item : Type 0 where
  datatype : Datatype → Item
  map_type : MapDecl → Item
  function : Function → Item
  decode : DecodeSection → Item

-- a whole specification, with the length of its source
pub record Tree : Type 0 where
  pub items : List Item
  pub end : ℕ
