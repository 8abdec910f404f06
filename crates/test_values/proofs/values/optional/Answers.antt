use Rattle.std.proofs.Common.{sym, subst}
use Rattle.std.specs.Prelude.{option_map}
use Rattle.abstract_value_laws.specs.Fits.{Fits}
use Rattle.abstract_value.specs.Constructors.{spread}
use Rattle.abstract_value.specs.View.{case_of}
use Rattle.abstract_value.proofs.Views.{abs_Data}
use Rattle.test_values.proofs.TwoCases.{two_fit}
use Rattle.test_values.proofs.values.optional.Goals as goal

pub returns : goal.returns
returns g c =
    let cases = c.in_ok-cases.cases in
    subst (Fits g.B.Base.algebra c.args.ctx.now g.B.Base.CAP) (sym (abs_Data 0 cases))
    (two_fit g.B.Base.algebra c.args.ctx.now g.B.Base.CAP (option_map (λ f. f.value.items)) case_of c.none_case.result c.some_case.result
    (spread c.none.result) (spread c.in_ok-first.first) (spread cases) c.none.ensures.value c.none_case.ensures c.in_ok-first.ensures.value
    c.some_case.ensures c.in_ok-cases.ensures.value)
