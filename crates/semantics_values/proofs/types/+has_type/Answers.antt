use Rattle.std.proofs.Common.{◌≡◌, ◌==◌, false, length, map, drop, arith, ap, sym, Some, ◌∙◌, []}
use Rattle.std.proofs.Math.Seq.{drop-length}
use Rattle.spec_ir.specs.declared.ty.Ty.TheVariants.{Data}
use Rattle.spec_ir.specs.Texts.{case_at}
use Rattle.spec_ir.specs.Views.{specification, case_of}
use Rattle.semantics_values.specs.Types.{environment_of, have_types, of_case}
use Rattle.semantics_values.specs.Values.{vals}
use Rattle.semantics_values.specs.Views.{val}
use Rattle.semantics_values.proofs.Lists.{fields_end, values_end}
use Rattle.semantics_values.proofs.types.+has_type.Goals as goal

pub have_types-returns-then-i-fields : goal.have_types-returns-then-i-fields
have_types-returns-then-i-fields t c =
    let env = environment_of (specification c.args.spec.now) in
    let i = c.loop-i.i in
    let end : i ≡ length c.args.fields.now = omega (arith, c.loop-i.invariant.within) in
    let none : drop i c.args.fields.now ≡ [] = rw end (drop-length c.args.fields.now) in
    let step : have_types env (vals (map val (drop i c.args.parts.now))) (map (λ f. f.1) (drop i c.args.fields.now)) ≡ false = rw none (fields_end env c.args.parts.now i (omega arith)) in
    sym (c.loop-i.invariant.whole ∙ step)

pub have_types-returns : goal.have_types-returns
have_types-returns t c =
    let env = environment_of (specification c.args.spec.now) in
    let i = c.loop-i.i in
    let end : i ≡ length c.args.parts.now = omega arith in
    let none : drop i c.args.parts.now ≡ [] = rw end (drop-length c.args.parts.now) in
    let whole = rw none at c.loop-i.invariant.whole in
    ap (λ n. n == length c.args.fields.now) (sym end) ∙ values_end env (λ f. f.1) c.args.fields.now i c.loop-i.invariant.within ∙ sym whole

pub is_constructor-returns-in-Some : goal.is_constructor-returns-in-Some
is_constructor-returns-in-Some t c =
    let env = environment_of (specification c.args.spec.now) in
    let there : case_at env (Data c.args.number) c.args.case ≡ Some (case_of c.in-Some.case.now) = sym c.in-Some.ensures in
    let fields = c.deref.ensures.value in
    c.have_types.ensures ∙ ap (λ fs. have_types env (vals (map val c.args.parts.now)) (map (λ f. f.1) fs)) fields ∙ ap (λ k. of_case k (have_types env (vals (map val c.args.parts.now)))) (sym there)
