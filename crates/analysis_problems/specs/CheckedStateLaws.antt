-- The fields of states of a specification that was checked.
use Rattle.std.specs.Prelude.{◌<◌, ◌^◌, length}
use Rattle.syntax_parser.specs.Tree.{Tree}
use Rattle.spec_ir.specs.declared.spec.SpecUse.{SpecUse}
use Rattle.spec_ir.specs.Specification.{Spec}
use Rattle.spec_names.specs.Limits.{most_fields}
use Rattle.spec_checker.specs.Check.{IsFaultless, IsSpecOf}
use Rattle.domain_laws.specs.States.{state_type}

-- Behind the counter, states have fewer fields than a constructor may have.
abbrev pub StatesHaveFewFields : Type 0
StatesHaveFewFields = (wanted : SpecUse) (tree : Tree) (s : Spec) → IsFaultless wanted tree → IsSpecOf tree wanted s → length (state_type s).fields < most_fields

-- Their number is one of 32 bits.
abbrev pub FieldsHaveNumbers : Type 0
FieldsHaveNumbers = (wanted : SpecUse) (tree : Tree) (s : Spec) → IsFaultless wanted tree → IsSpecOf tree wanted s → length (state_type s).fields < 2 ^ 32
