use Rattle.std.proofs.Common.{◌≡◌, ◌<◌, map, sym, subst, ap, ◌∙◌, rules}
use Rattle.spec_ir.specs.Views.{specification}
use Rattle.semantics_values.specs.Types.{environment_of}
use Rattle.abstract_value_laws.specs.Abs.{made, parts}
use Rattle.abstract_value_laws.specs.Fits.{Fits}
use Rattle.abstract_value_laws.specs.OfValues.{one_case}
use Rattle.abstract_value.specs.View.{abs, cases_of}
use Rattle.abstract_value.proofs.Views.{abs_Data}
use Rattle.eval_operations.proofs.Fitting.{made_is, one_fits, parts_fit}
use Rattle.eval_operations.proofs.constructors.make_value.Goals as goal

pub returns-clause-value : goal.returns-clause-value
returns-clause-value g c =
    let count = c.case_count-count.result in
    let xs = map abs c.args.fields.items in
    let within : c.args.case < count = search rules in
    let one : cases_of c.in_ok-one_case.field-0 ≡ one_case count c.args.case (parts xs) = search rules in
    made_is (environment_of (specification c.args.spec.now)) c.args.ty c.args.case count xs _ c.case_count-count.ensures within
    (abs_Data c.args.ty c.in_ok-one_case.field-0 ∙ ap (λ cs. made c.args.ty cs) one)

pub returns-clause-fits : goal.returns-clause-fits
returns-clause-fits g c =
    let B = g.B.Base.algebra in
    let ctx = c.args.ctx.now in
    let cap = g.B.Base.CAP in
    let count = c.case_count-count.result in
    let xs = map abs c.args.fields.items in
    let one : cases_of c.in_ok-one_case.field-0 ≡ one_case count c.args.case (parts xs) = search rules in
    subst (λ z. Fits B ctx cap z) (sym (abs_Data c.args.ty c.in_ok-one_case.field-0 ∙ ap (λ cs. made c.args.ty cs) one)) (one_fits B ctx cap count c.args.case (parts xs) (parts_fit B ctx cap c.args.fields.items c.requires.fits))
