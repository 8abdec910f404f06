use Rattle.std.proofs.Common.{◌≡◌, map, ap, sym, ◌∙◌, rules, arith}
use Rattle.spec_ir.specs.Views.{specification}
use Rattle.semantics_values.specs.Types.{environment_of}
use Rattle.semantics_values.specs.Values as v
use Rattle.semantics_values.specs.Values.{vals}
use Rattle.semantics_values.specs.Views.{val}
use Rattle.semantics_values.specs.declared.value.Value.{size-Value}
use Rattle.semantics_values.specs.declared.value.Value.TheViews.{sized-Made}
use Rattle.abstract_value_laws.specs.Abs.{made}
use Rattle.abstract_value_laws.specs.OfValues.{case_count, of_value, of_values, one_case}
use Rattle.abstract_value.specs.View.{cases_of}
use Rattle.abstract_value.proofs.Falling.{part_falls}
use Rattle.abstract_value.proofs.OfValues.{made_fits_of, map_fits_of, map_is, val_Made, values_fit_here, values_pushed, word_fits_of, word_is}
use Rattle.abstract_value.proofs.Views.{abs_Data}
use Rattle.abstract_value.proofs.of_value.+of_value.Goals as goal

pub of_value-of_values-requires : goal.of_value-of_values-requires
of_value-of_values-requires g t c κs within =
    let ev : val c.args.v.now ≡ v.made c.in-Made.ty c.in-Made.case (vals (map val c.in-Made.parts.items)) = ap val c.in-Made.is ∙ val_Made c.in-Made.ty c.in-Made.case c.in-Made.parts in
    let fits = rw ev at c.requires.value in
    let deeper = sized-Made c.in-Made.ty c.in-Made.case c.in-Made.parts in
    let whole = ap size-Value c.in-Made.is in
    let vs : c.deref.result.now ≡ c.in-Made.parts.items = c.deref.ensures.value in
    (rw vs (omega (arith, deeper, whole, c.decreases)), (within.0, (within.1.0, (within.1.1.0, (within.1.1.1, rw vs fits.1)))))

pub of_value-returns-in_ok-one_case-in-Made : goal.of_value-returns-in_ok-one_case-in-Made
of_value-returns-in_ok-one_case-in-Made g t c =
    let b = g.B.Base.algebra in
    let ctx = c.args.ctx.now in
    let cap = g.B.Base.CAP in
    let env = environment_of (specification c.args.spec.now) in
    let r = c.in_ok-one_case-in-Made.field-0 in
    let ps = vals (map val c.in-Made.parts.items) in
    let here : cases_of r ≡ one_case (case_count env c.in-Made.ty) c.in-Made.case (of_values b ctx cap env ps) = search rules in
    abs_Data c.in-Made.ty r ∙ ap (λ z. made c.in-Made.ty z) here ∙ ap (λ z. of_value b ctx cap env z) (sym (ap val c.in-Made.is ∙ val_Made c.in-Made.ty c.in-Made.case c.in-Made.parts))

pub of_values-loop-value-preserved : goal.of_values-loop-value-preserved
of_values-loop-value-preserved g t c =
    let b = g.B.Base.algebra in
    let ctx = c.args.ctx.now in
    let cap = g.B.Base.CAP in
    let env = environment_of (specification c.args.spec.now) in
    let vs = c.args.values.now in
    let i = c.loop-value.value-index in
    record {
      whole = values_pushed b ctx cap env c.of_value.result vs i c.value-item.result c.loop-value.out.items c.in_ok-out-2.out.items (of_values b ctx cap env (vals (map val vs))) c.loop-value-test.true c.value-item.is c.in_ok-out-2.ensures c.of_value.ensures c.loop-value.invariant.whole;
      fits = (values_fit_here env vs i c.value-item.result c.value-item.is c.loop-value-test.true c.loop-value.invariant.fits).1;
    }

pub of_value-constant-requires-clause-width : goal.of_value-constant-requires-clause-width
of_value-constant-requires-clause-width g t c =
    let env = environment_of (specification c.args.spec.now) in
    (word_fits_of env c.args.v.now c.in-Word.w c.in-Word.v c.in-Word.is c.requires.value).0

pub of_value-constant-requires-clause-number : goal.of_value-constant-requires-clause-number
of_value-constant-requires-clause-number g t c =
    let env = environment_of (specification c.args.spec.now) in
    (word_fits_of env c.args.v.now c.in-Word.w c.in-Word.v c.in-Word.is c.requires.value).1

pub of_value-returns-in_ok-constant-in-Word : goal.of_value-returns-in_ok-constant-in-Word
of_value-returns-in_ok-constant-in-Word g t c =
    let b = g.B.Base.algebra in
    let ctx = c.args.ctx.now in
    let cap = g.B.Base.CAP in
    let env = environment_of (specification c.args.spec.now) in
    word_is env b ctx cap _ c.args.v.now c.in-Word.w c.in-Word.v c.in_ok-constant-in-Word.field-0 c.in-Word.is c.in_ok-constant-in-Word.ensures.value

pub of_value-one_case-requires : goal.of_value-one_case-requires
of_value-one_case-requires g t c =
    let env = environment_of (specification c.args.spec.now) in
    made_fits_of env c.args.v.now c.in-Made.ty c.in-Made.case c.case_count.result c.in-Made.parts c.in-Made.is c.case_count.ensures c.requires.value

pub of_value-of_map-requires : goal.of_value-of_map-requires
of_value-of_map-requires g t c =
    let env = environment_of (specification c.args.spec.now) in
    record { map = map_fits_of env c.args.v.now c.in-Map.m c.map_width.result c.in-Map.is c.map_width.ensures c.requires.value }

pub of_value-returns-in_ok-of_map-in-Map : goal.of_value-returns-in_ok-of_map-in-Map
of_value-returns-in_ok-of_map-in-Map g t c =
    let b = g.B.Base.algebra in
    let ctx = c.args.ctx.now in
    let cap = g.B.Base.CAP in
    let env = environment_of (specification c.args.spec.now) in
    map_is env b ctx cap _ c.args.v.now c.in-Map.m c.map_width.result c.in_ok-of_map-in-Map.field-0 c.in-Map.is c.map_width.ensures c.in_ok-of_map-in-Map.ensures.value

pub of_values-of_value-requires : goal.of_values-of_value-requires
of_values-of_value-requires g t c κs within =
    let fits = values_fit_here (environment_of (specification c.args.spec.now)) c.args.values.now c.loop-value.value-index c.value-item.result c.value-item.is c.loop-value-test.true c.loop-value.invariant.fits in
    (part_falls _ c.args.values.now c.loop-value.value-index c.value-item.result c.value-item.is c.loop-value-test.true 2 t c.decreases, (within.0, (within.1.0, (within.1.1.0, (within.1.1.1, fits.0)))))
