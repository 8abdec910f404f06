-- What checking a specification answers.
use Rattle.std.specs.Prelude.{◌≡◌, ◌⊎◌, ℕ, ◌+◌, List, [], ◌∷◌, map, Result, Ok, Err}
use Rattle.syntax_lexer.specs.declared.token.Token.{Token}
use Rattle.syntax_parser.specs.Exact.{HasTree}
use Rattle.syntax_parser.specs.Tree.{Tree, Item, Function}
use Rattle.spec_ir.specs.declared.spec.SpecUse.{SpecUse}
use Rattle.spec_ir.specs.declared.spec.Spec.{Spec as CheckedSpec}
use Rattle.spec_ir.specs.declared.spec_error.SpecError.{SpecError}
use Rattle.spec_ir.specs.declared.spec_error.SpecError.TheVariants.{NoMemory}
use Rattle.spec_ir.specs.Environment.{Environment, Signature}
use Rattle.spec_ir.specs.Specification.{Spec, Fun}
use Rattle.spec_ir.specs.Views.{specification}
use Rattle.spec_names.specs.Names.{names_fault}
use Rattle.spec_declarations.specs.Types.{IsTypesFault, NoTypesFault}
use Rattle.spec_declarations.specs.Declarations.{declared}
use Rattle.spec_declarations.specs.MachineRules.{instr_of, machine_fault, machine_of}
use Rattle.spec_calls.specs.declared.group.Group.{Group}
use Rattle.spec_calls.specs.Groups.{IsGroupOf}
use Rattle.spec_calls.specs.Recursion.{IsRecursionFault, NoRecursionFault}
use Rattle.spec_decode_rows.specs.Rows.{decode_fault, rows_of}
use Rattle.spec_decode_rows.specs.Decoded.{decoded}
use Rattle.spec_checker.specs.Passes.{Pass, computed, ◌followed_by◌}
use Rattle.spec_checker.specs.Functions.{functions, function_names, body_of, core_of_body, bodies, terms_fault}

-- A tree that the parser answers.
abbrev pub IsParsed : Tree → Type 0
IsParsed tree = (tokens : List Token) × (end : ℕ) × HasTree tokens end tree

module _ (env : Environment) where
  -- terms, and the calls of functions behind them
  abbrev pub functions_pass : List Item → Pass
  functions_pass items =
      computed (terms_fault env items)
      followed_by record { fault = IsRecursionFault (function_names items) (bodies env items); none = NoRecursionFault (bodies env items) }

  -- the same, and decode rows behind them
  abbrev pub later_passes : Tree → Pass
  later_passes tree = functions_pass tree.items followed_by computed (decode_fault env (instr_of tree) tree)

module _ (wanted : SpecUse) (tree : Tree) where
  -- the machine, and terms, calls and rows behind it
  abbrev pub machine_passes : Pass
  machine_passes = computed (machine_fault wanted tree) followed_by later_passes (declared tree.items) tree

  -- types, and those behind them
  abbrev pub type_passes : Pass
  type_passes = record { fault = IsTypesFault tree.items; none = NoTypesFault tree.items } followed_by machine_passes

  -- All passes in their order: names, types, the machine, terms, calls, rows.
  abbrev pub passes : Pass
  passes = computed (names_fault tree) followed_by type_passes

  -- The first fault of a tree.
  abbrev pub IsFirstFault : SpecError → Type 0
  IsFirstFault = passes.fault

  -- No fault stands.
  abbrev pub IsFaultless : Type 0
  IsFaultless = passes.none

-- the group of a function
abbrev pub group_of : Fun → Group
group_of f = record { number = f.group; loops = f.loops }

module _ (env : Environment) (items : List Item) where
  -- Function number n by its signature, with its typed term and its core term.
  pub record IsFun (n : ℕ) (f : Function) (s : Signature) (g : Fun) : Type 0 where
    pub name : g.name ≡ s.name
    pub params : g.params ≡ s.params
    pub result_type : g.result_type ≡ s.result_type
    pub body : g.body ≡ body_of env f s
    pub core : g.core ≡ core_of_body env f s
    pub group : IsGroupOf (bodies env items) n (group_of g)

  -- functions from number n on
  abbrev pub AreFunsFrom : ℕ → List Function → List Signature → List Fun → Type 0
  AreFunsFrom n [] [] [] = Unit {0}
  AreFunsFrom n (f ∷ fs) (s ∷ ss) (g ∷ gs) = IsFun n f s g × AreFunsFrom (n + 1) fs ss gs
  AreFunsFrom n _ _ _ = ⊥

  -- The functions of items.
  abbrev pub AreFuns : List Fun → Type 0
  AreFuns = AreFunsFrom 0 (functions items) env.funs

module _ (tree : Tree) where
  -- The checked specification of a tree without faults.
  pub record IsSpecOf (wanted : SpecUse) (s : Spec) : Type 0 where
    pub datas : s.datas ≡ (declared tree.items).datas
    pub maps : s.maps ≡ (declared tree.items).maps
    pub funs : AreFuns (declared tree.items) tree.items s.funs
    pub rows : s.rows ≡ map (decoded (declared tree.items)) (rows_of tree.items)
    pub machine : s.machine ≡ machine_of wanted tree

module _ (wanted : SpecUse) (tree : Tree) where
  -- The specification where there is no fault, else the first fault, or memory ran out.
  abbrev pub Answers : Result CheckedSpec SpecError → Type 0
  Answers (Ok s) = IsFaultless wanted tree × IsSpecOf tree wanted (specification s)
  Answers (Err e) = IsFirstFault wanted tree e ⊎ (e ≡ NoMemory)

  -- The other way: what the first fault, or none, says of the answer.
  abbrev pub IsRefusal : SpecError → Result CheckedSpec SpecError → Type 0
  IsRefusal e (Ok s) = ⊥
  IsRefusal e (Err f) = (f ≡ e) ⊎ (f ≡ NoMemory)

  abbrev pub IsAccepted : Result CheckedSpec SpecError → Type 0
  IsAccepted (Ok s) = Unit {0}
  IsAccepted (Err f) = f ≡ NoMemory

  -- What `check` answers, both ways.
  pub record IsChecked (result : Result CheckedSpec SpecError) : Type 0 where
    pub answer : Answers result
    pub refused : (e : SpecError) → IsFirstFault wanted tree e → IsRefusal e result
    pub accepted : IsFaultless wanted tree → IsAccepted result
