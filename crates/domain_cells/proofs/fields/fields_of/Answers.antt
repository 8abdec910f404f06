use Rattle.std.proofs.Common.{◌≡◌, ◌∷◌, ◌++◌, [], true, map, ap, subst, sym, ◌∙◌}
use Rattle.spec_ir.specs.Views.{specification}
use Rattle.semantics_values.specs.Types.{environment_of}
use Rattle.domain_laws.specs.States.{field_of, fields_of, is_field}
use Rattle.domain_cells.proofs.Lists.{next_field, next_right}
use Rattle.domain_cells.proofs.fields.fields_of.Goals as goal

pub field_of-requires : goal.field_of-requires
field_of-requires c =
    let env = environment_of (specification c.args.spec.now) in
    record { right = subst (λ f. is_field (field_of env f.1) ≡ true) c.index-fields-i.is (next_right env c.all_but_first-fields.result.now c.loop-i.i c.index-fields-i.result c.loop-i-test.true c.index-fields-i.is c.loop-i.invariant.right).0 }

pub loop-i-preserved : goal.loop-i-preserved
loop-i-preserved c =
    let env = environment_of (specification c.args.spec.now) in
    let fields = c.all_but_first-fields.result.now in
    record {
      whole = next_field env fields c.loop-i.i c.index-fields-i.result c.loop-i-test.true c.index-fields-i.is c.loop-i.out.items c.push.new.self.items (fields_of env (map (λ f. f.1) fields)) (c.in_ok-push.ensures.items ∙ ap (λ f. c.loop-i.out.items ++ f ∷ []) (c.field_of.ensures ∙ ap (λ f. field_of env f.1) (sym c.index-fields-i.is))) c.loop-i.invariant.whole;
      right = (next_right env fields c.loop-i.i c.index-fields-i.result c.loop-i-test.true c.index-fields-i.is c.loop-i.invariant.right).1;
    }
