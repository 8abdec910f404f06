-- What operators make of their operands: types, typed terms and core terms.
use Rattle.std.specs.Prelude.{ℕ, true, false, Option, Some}
use Rattle.word_operations.specs.declared.kinds.UnaryOperation.{UnaryOperation}
use Rattle.syntax_parser.specs.declared.tree.PreOp.{PreOp}
use Rattle.spec_ir.specs.declared.ty.Ty.{Ty}
use Rattle.spec_ir.specs.declared.ty.Ty.TheVariants.{Bool as Flag, Word}
use Rattle.spec_ir.specs.Terms as s
use Rattle.spec_ir.specs.Terms.{Term}
use Rattle.spec_ir.specs.CoreTerms as c
use Rattle.spec_ir.specs.CoreTerms.{Core}
use Rattle.spec_term_forms.specs.Operators.{Operator, both, either, operation, comparison}

-- the width of a word
abbrev pub width_of : Option Ty → ℕ
width_of (Some (Word w)) = w
width_of _ = 0

-- the type of a result, by the type of the first operand
abbrev pub operator_type : Operator → Option Ty → Option Ty
operator_type (operation op) ty = ty
operator_type _ ty = Some Flag

abbrev pub prefix_type : PreOp → Option Ty → Option Ty
prefix_type PreOp.Bang ty = Some Flag
prefix_type _ ty = ty

abbrev pub operator_term : Operator → ℕ → Term → Term → Term
operator_term both w x y = s.if_else x y (s.flag false)
operator_term either w x y = s.if_else x (s.flag true) y
operator_term (operation op) w x y = s.bin op w x y
operator_term (comparison c) w x y = s.test c w x y

abbrev pub prefix_term : PreOp → ℕ → Term → Term
prefix_term PreOp.Bang w x = s.if_else x (s.flag false) (s.flag true)
prefix_term PreOp.Tilde w x = s.un UnaryOperation.Not w x
prefix_term PreOp.Minus w x = s.un UnaryOperation.Neg w x

abbrev pub operator_core : Operator → ℕ → Core → Core → Core
operator_core both w x y = c.if_else x y (c.flag false)
operator_core either w x y = c.if_else x (c.flag true) y
operator_core (operation op) w x y = c.bin op w x y
operator_core (comparison k) w x y = c.test k w x y

abbrev pub prefix_core : PreOp → ℕ → Core → Core
prefix_core PreOp.Bang w x = c.if_else x (c.flag false) (c.flag true)
prefix_core PreOp.Tilde w x = c.un UnaryOperation.Not w x
prefix_core PreOp.Minus w x = c.un UnaryOperation.Neg w x
