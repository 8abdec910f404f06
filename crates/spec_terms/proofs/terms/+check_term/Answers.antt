use Rattle.std.proofs.Common.{◌≡◌, ◌∙◌, ◌+◌, get_or, [], ◌∷◌, ◌++◌, length, map, drop, append_assoc, arith, rules, sym, ap, None, Some, true}
use Rattle.std.proofs.lemmas.List.{map-append, length-append, length-map, drop_more as drop_from}
use Rattle.syntax_parser.specs.Tree.{arms as arm_trees, terms as exprs}
use Rattle.syntax_parser.specs.View.{arm as arm_tree, term as expr}
use Rattle.spec_match_compiler.specs.Views.{pat}
use Rattle.spec_match_compiler.proofs.Loops.{drop_here}
use Rattle.spec_ir.specs.declared.ty.Ty.TheVariants.{Bool as Flag}
use Rattle.spec_ir.specs.Answers.{◌then◌}
use Rattle.spec_ir.specs.Environment.{or_else, shape_of, shapes_of}
use Rattle.spec_ir.specs.Views.{core, term}
use Rattle.spec_ir.specs.WellFormed.{is_scope, is_type}
use Rattle.spec_patterns.specs.Patterns.{pattern_of, variables}
use Rattle.spec_typing.specs.Cores.{core_in}
use Rattle.spec_typing.specs.Parts.{wanted}
use Rattle.spec_typing.specs.Terms.{argument_faults, arm_fault, arms_fault, arms_type, rows_of, term_of, type_of, part}
use Rattle.spec_terms.proofs.Lists.{arms_onto_more, cores_onto_more, or_else_some, terms_onto_more, zip_more}
use Rattle.spec_typing.proofs.Rows.{AllSuit, rows_suit, suit_all}
use Rattle.spec_typing.proofs.Types.{no_arms, type_fits}
use Rattle.spec_terms.proofs.terms.+check_term.Goals as goal

pub check_arguments-loop-i-preserved : goal.check_arguments-loop-i-preserved
check_arguments-loop-i-preserved t c =
    let i = c.loop-i.i in
    let env = c.args.environment.now in
    let scope = c.args.scope.now in
    let a = c.index-args-i.result in
    let ht = drop_from c.args.types.now i Flag (omega arith) in
    let ha = drop_here c.args.args.now i a c.index-args-i.is (omega arith) in
    let h = rw ha at (rw ht at c.loop-i.invariant) in
    let fine : wanted env (get_or c.args.types.now i Flag) (part env scope (expr a)) ≡ None = search rules in
    let here : term c.in_ok-arg.arg.term ≡ term_of env scope (expr a) = search rules in
    let core_here : core c.in_ok-arg.arg.core ≡ core_in env scope (expr a) = search rules in
    let out : c.push.new.self.terms.items ≡ c.loop-i.out.terms.items ++ c.in_ok-arg.arg.term ∷ [] = search rules in
    let core_out : c.push.new.self.cores.items ≡ c.loop-i.out.cores.items ++ c.in_ok-arg.arg.core ∷ [] = search rules in
    record {
      faults = h.faults ∙ ap (λ o. o then argument_faults env scope (drop (i + 1) c.args.types.now) (exprs (map expr (drop (i + 1) c.args.args.now)))) fine;
      terms = rw (out, map-append, terms_onto_more, here) h.terms;
      cores = rw (core_out, map-append, cores_onto_more, core_here) h.cores;
      scope = search rules;
    }

pub check_let-enter-requires-clause-ty : goal.check_let-enter-requires-clause-ty
check_let-enter-requires-clause-ty t c =
    type_fits c.args.environment.now c.requires.declared c.args.scope.now (expr c.args.x.now) c.in_ok-x.x.ty c.requires.scope c.in_ok-x.ensures.answer c.in_ok-x.ensures.ty

pub check_match-check_arms-requires : goal.check_match-check_arms-requires
check_match-check_arms-requires t c =
    let fits : is_type c.args.environment.now c.in_ok-x.x.ty ≡ true =
    type_fits c.args.environment.now c.requires.declared c.args.scope.now (expr c.args.x.now) c.in_ok-x.x.ty c.requires.scope c.in_ok-x.ensures.answer c.in_ok-x.ensures.ty in
    (omega (arith, c.decreases), (c.requires.declared, (rw c.in_ok-x.ensures.scope c.requires.scope, fits)))

pub check_match-finish_match-requires-clause-ty : goal.check_match-finish_match-requires-clause-ty
check_match-finish_match-requires-clause-ty t c =
    type_fits c.args.environment.now c.requires.declared c.args.scope.now (expr c.args.x.now) c.in_ok-x.x.ty c.requires.scope c.in_ok-x.ensures.answer c.in_ok-x.ensures.ty

pub check_match-finish_match-requires-clause-patterns : goal.check_match-finish_match-requires-clause-patterns
check_match-finish_match-requires-clause-patterns t c =
    let env = c.args.environment.now in
    let ty = c.in_ok-x.x.ty in
    let rows : AllSuit (shapes_of env) (shape_of ty) (map pat c.in-Ok.arms.patterns.items) =
    rw c.in-Ok.ensures.patterns (rows_suit env c.check_term.new.scope ty (arm_trees (map arm_tree c.args.arms.now)) None c.in-Ok.ensures.answer) in
    suit_all (shapes_of env) (shape_of ty) c.in-Ok.arms.patterns.items rows

pub check_match-finish_match-requires-clause-none : goal.check_match-finish_match-requires-clause-none
check_match-finish_match-requires-clause-none t c = λ q.
    let env = c.args.environment.now in
    let ty = c.in_ok-x.x.ty in
    let trees = arm_trees (map arm_tree c.args.arms.now) in
    let fits : is_type env ty ≡ true =
    type_fits env c.requires.declared c.args.scope.now (expr c.args.x.now) ty c.requires.scope c.in_ok-x.ensures.answer c.in_ok-x.ensures.ty in
    let s : is_scope env c.check_term.new.scope ≡ true = rw c.in_ok-x.ensures.scope c.requires.scope in
    let none : arms_type env c.check_term.new.scope ty trees ≡ None = sym c.in-Ok.ensures.ty ∙ q in
    let empty : rows_of env c.check_term.new.scope ty trees ≡ [] = no_arms env c.requires.declared c.check_term.new.scope ty trees s fits c.in-Ok.ensures.answer none in
    c.in-Ok.ensures.patterns ∙ empty

pub check_arms-loop-i-preserved : goal.check_arms-loop-i-preserved
check_arms-loop-i-preserved t c =
    let i = c.loop-i.i in
    let env = c.args.environment.now in
    let scope = c.args.scope.now in
    let from = c.args.from in
    let before = c.loop-i.out in
    let a = c.index-arms-i.result in
    let p = (arm_tree a).pat in
    let body = (arm_tree a).body in
    let inner = scope ++ variables env from p in
    let rest = arm_trees (map arm_tree (drop (i + 1) c.args.arms.now)) in
    let ha = drop_here c.args.arms.now i a c.index-arms-i.is (omega arith) in
    let h = rw ha at c.loop-i.invariant in
    let fine : arm_fault env scope from before.ty p body ≡ None = search rules in
    let kind : type_of env inner body ≡ Some c.in_ok-arm.arm.ty = search rules in
    let here : pat c.in_ok-arm.arm.pattern ≡ pattern_of env scope from p = search rules in
    let term_here : term c.in_ok-arm.arm.body.term ≡ term_of env inner body = search rules in
    let core_here : core c.in_ok-arm.arm.body.core ≡ core_in env inner body = search rules in
    let out : c.push.new.self.patterns.items ≡ before.patterns.items ++ c.in_ok-arm.arm.pattern ∷ [] = search rules in
    let terms_out : c.push.new.self.terms.items ≡ before.terms.items ++ c.in_ok-arm.arm.body.term ∷ [] = search rules in
    let cores_out : c.push.new.self.cores.items ≡ before.cores.items ++ c.in_ok-arm.arm.body.core ∷ [] = search rules in
    let ty_out : c.push.new.self.ty ≡ or_else before.ty (Some c.in_ok-arm.arm.ty) = search rules in
    let counts : length (map pat before.patterns.items) ≡ length (map term before.terms.items) = rw (length-map, length-map) h.counts in
    let zipped = zip_more (map pat before.patterns.items) (map term before.terms.items) (pat c.in_ok-arm.arm.pattern) (term c.in_ok-arm.arm.body.term) counts in
    record {
      faults = h.faults ∙ ap (λ o. o then arms_fault env scope from (or_else before.ty (type_of env inner body)) rest) fine ∙ ap (λ o. arms_fault env scope from o rest) (ap (or_else before.ty) kind ∙ sym ty_out);
      ty = rw (ty_out, or_else_some) (h.ty ∙ ap (or_else before.ty) kind);
      patterns = rw (out, map-append, append_assoc, here) h.patterns;
      terms = rw (out, terms_out, map-append, map-append, zipped, arms_onto_more, here, term_here) h.terms;
      cores = rw (cores_out, map-append, cores_onto_more, core_here) h.cores;
      counts = rw (out, terms_out, length-append, length-append) (ap (λ n. n + 1) h.counts);
      scope = search rules;
    }
