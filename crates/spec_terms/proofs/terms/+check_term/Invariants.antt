use denote.Param.Weighed.{most}
use Rattle.std.proofs.Common.{◌≡◌, ◌+◌, ◌*◌, ◌++◌, max, map, drop, length, None}
use Rattle.std.specs.List.{zip}
use Rattle.syntax_parser.specs.Tree.{arms as arm_trees, terms as exprs}
use Rattle.syntax_parser.specs.View.{arm as arm_tree, term as expr}
use Rattle.syntax_parser.specs.declared.tree.Arm.{size-Arm}
use Rattle.syntax_parser.specs.declared.tree.Expr.{size-Expr}
use Rattle.spec_match_compiler.specs.Views.{pat}
use Rattle.spec_ir.specs.CoreTerms.{cores_onto}
use Rattle.spec_ir.specs.Environment.{or_else}
use Rattle.spec_ir.specs.Terms.{arms_onto, terms_onto}
use Rattle.spec_ir.specs.Views.{core, term}
use Rattle.spec_typing.specs.Cores.{arm_cores, cores_in}
use Rattle.spec_typing.specs.Terms.{argument_faults, arms_fault, arms_of, arms_type, rows_of, terms_of}
use Rattle.spec_terms.proofs.terms.+check_term.Given as goal

abbrev pub decreases-check_term : goal.decreases-check_term
decreases-check_term l = 6 * size-Expr l.e.now

abbrev pub decreases-check_of_type : goal.decreases-check_of_type
decreases-check_of_type l = 6 * size-Expr l.e.now + 1

abbrev pub decreases-check_let : goal.decreases-check_let
decreases-check_let l = 6 * max (size-Expr l.x.now) (size-Expr l.body.now) + 3

abbrev pub decreases-check_conditional : goal.decreases-check_conditional
decreases-check_conditional l = 6 * max (size-Expr l.c.now) (max (size-Expr l.yes.now) (size-Expr l.no.now)) + 3

abbrev pub decreases-check_operands : goal.decreases-check_operands
decreases-check_operands l = 6 * max (size-Expr l.x.now) (size-Expr l.y.now) + 3

abbrev pub decreases-check_prefix : goal.decreases-check_prefix
decreases-check_prefix l = 6 * size-Expr l.x.now + 3

abbrev pub decreases-check_cast : goal.decreases-check_cast
decreases-check_cast l = 6 * size-Expr l.x.now + 3

abbrev pub decreases-check_get : goal.decreases-check_get
decreases-check_get l = 6 * max (size-Expr l.x.now) (size-Expr l.key.now) + 3

abbrev pub decreases-check_put : goal.decreases-check_put
decreases-check_put l = 6 * max (size-Expr l.x.now) (max (size-Expr l.key.now) (size-Expr l.v.now)) + 3

abbrev pub decreases-check_call : goal.decreases-check_call
decreases-check_call l = 6 * most size-Expr l.args.now + 3

abbrev pub decreases-check_constructor : goal.decreases-check_constructor
decreases-check_constructor l = 6 * most size-Expr l.args.now + 3

abbrev pub decreases-check_arguments : goal.decreases-check_arguments
decreases-check_arguments l = 6 * most size-Expr l.args.now + 2

abbrev pub decreases-check_match : goal.decreases-check_match
decreases-check_match l = 6 * max (size-Expr l.x.now) (most size-Arm l.arms.now) + 3

abbrev pub decreases-check_arms : goal.decreases-check_arms
decreases-check_arms l = 6 * most size-Arm l.arms.now + 2

abbrev pub decreases-check_arm : goal.decreases-check_arm
decreases-check_arm l = 6 * size-Arm l.arm.now + 1

-- nothing stands in what is out; and what is out is in front of what is left
abbrev pub invariant-check_arguments-loop-i : goal.invariant-check_arguments-loop-i
invariant-check_arguments-loop-i l =
    let env = l.environment in
    let scope = l.initial.scope in
    record {
      faults : argument_faults env scope l.types (exprs (map expr l.args)) ≡ argument_faults env scope (drop l.i l.types) (exprs (map expr (drop l.i l.args)));
      terms : terms_of env scope (exprs (map expr l.args)) ≡ terms_onto (map term l.out.terms.items) (terms_of env scope (exprs (map expr (drop l.i l.args))));
      cores : cores_in env scope (exprs (map expr l.args)) ≡ cores_onto (map core l.out.cores.items) (cores_in env scope (exprs (map expr (drop l.i l.args))));
      scope : l.scope ≡ l.initial.scope;
    }

-- the same for arms; the first of them fixes the type
abbrev pub invariant-check_arms-loop-i : goal.invariant-check_arms-loop-i
invariant-check_arms-loop-i l =
    let env = l.environment in
    let scope = l.initial.scope in
    let rest = arm_trees (map arm_tree (drop l.i l.arms)) in
    let all = arm_trees (map arm_tree l.arms) in
    record {
      faults : arms_fault env scope l.from None all ≡ arms_fault env scope l.from l.out.ty rest;
      ty : arms_type env scope l.from all ≡ or_else l.out.ty (arms_type env scope l.from rest);
      patterns : rows_of env scope l.from all ≡ map pat l.out.patterns.items ++ rows_of env scope l.from rest;
      terms : arms_of env scope l.from all ≡ arms_onto (zip (map pat l.out.patterns.items) (map term l.out.terms.items)) (arms_of env scope l.from rest);
      cores : arm_cores env scope l.from all ≡ cores_onto (map core l.out.cores.items) (arm_cores env scope l.from rest);
      counts : length l.out.patterns.items ≡ length l.out.terms.items;
      scope : l.scope ≡ l.initial.scope;
    }
