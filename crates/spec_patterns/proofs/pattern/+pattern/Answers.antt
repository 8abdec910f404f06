use Rattle.std.proofs.Common.{◌≡◌, ◌∙◌, ◌+◌, List, get_or, [], ◌∷◌, ◌++◌, map, drop, arith, rules, refl, sym, ap, None, append_assoc}
use Rattle.std.proofs.lemmas.List.{map-append, drop_all, drop_more as drop_from}
use Rattle.syntax_parser.specs.Tree.{patterns}
use Rattle.syntax_parser.specs.View.{pattern}
use Rattle.spec_match_compiler.specs.Views.{pat}
use Rattle.spec_match_compiler.proofs.Loops.{drop_here}
use Rattle.spec_ir.specs.declared.ty.Ty.TheVariants.{Bool as Flag}
use Rattle.spec_ir.specs.Answers.{◌then◌}
use Rattle.spec_patterns.specs.Patterns.{pattern_fault, part_faults, part_variables, parts_of, pattern_of, variables}
use Rattle.spec_patterns.proofs.Lists.{pats_onto, pats_onto_more, pats_onto_none}
use Rattle.spec_patterns.proofs.pattern.+pattern.Goals as goal

pub checked_parts-loop-i-preserved : goal.checked_parts-loop-i-preserved
checked_parts-loop-i-preserved t c =
    let i = c.loop-i.i in
    let env = c.args.environment.now in
    let ty = get_or c.args.types.now i Flag in
    let p = c.index-parts-i.result in
    let before = c.loop-i.scope in
    let ht = drop_from c.args.types.now i Flag (omega arith) in
    let hp = drop_here c.args.parts.now i p c.index-parts-i.is (omega arith) in
    let h = rw hp at (rw ht at c.loop-i.invariant) in
    let fine : pattern_fault env ty (pattern p) ≡ None = search rules in
    let here : pat c.in_ok-part.part ≡ pattern_of env before ty (pattern p) = search rules in
    let after : c.checked_pattern.new.scope ≡ before ++ variables env ty (pattern p) = search rules in
    let out : c.push.new.self.items ≡ c.loop-i.out.items ++ c.in_ok-part.part ∷ [] = search rules in
    record {
      faults = h.faults ∙ ap (λ o. o then part_faults env (drop (i + 1) c.args.types.now) (patterns (map pattern (drop (i + 1) c.args.parts.now)))) fine;
      made = rw (out, map-append, pats_onto_more, here, after) h.made;
      scope = rw (after, append_assoc) h.scope;
    }

pub checked_parts-returns-clause-patterns : goal.checked_parts-returns-clause-patterns
checked_parts-returns-clause-patterns t c =
    let et = drop_all c.loop-i.i c.args.types.now (omega arith) in
    let h = rw et at c.loop-i.invariant.made in
    sym (h ∙ pats_onto_none (map pat c.loop-i.out.items))
