use Rattle.std.proofs.Common.{◌≡◌, map, ap, ◌∙◌}
use Rattle.abstract_map.proofs.Whole.{if_ok}
use Rattle.abstract_value_laws.specs.Abs.{cases, parts}
use Rattle.abstract_value_laws.specs.OfValues as of
use Rattle.abstract_value.specs.Constructors.{only, spread}
use Rattle.abstract_value.specs.View.{abs, case_of, cases_of}
use Rattle.abstract_value.proofs.Alone.{one_seen}
use Rattle.abstract_value.proofs.of_value.one_case.Goals as goal

pub returns : goal.returns
returns g c =
    let n = c.args.count in
    let k = c.args.case in
    let xs = c.args.values.items in
    if_ok (λ r. spread r ≡ only n k xs) (λ r. cases_of r ≡ of.one_case n k (parts (map abs xs))) c.one.result (λ r e. ap (λ l. cases (map case_of l)) e ∙ one_seen n k xs c.requires) c.one.ensures.value
