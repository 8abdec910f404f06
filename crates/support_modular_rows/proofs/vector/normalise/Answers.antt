use Rattle.std.proofs.Common.{◌≡◌, ◌+◌, ◌*◌, ◌%◌, ◌^◌, ◌<◌, ◌∙◌, sym, ap, get_or, arith, ℕ}
use Rattle.std.proofs.Math.Nat.{mul-mod_left}
use Rattle.std.proofs.lemmas.List.{get_or-replicate}
use Rattle.support_modular_rows.proofs.Powers.{unit_power}
use Rattle.support_modular_rows.proofs.vector.normalise.Goals as goal

pub returns : goal.returns
returns c =
    let v : ℕ = c.odd_part.ensures.power.0 in
    let unit : ℕ = c.inverse-unit.result in
    let is = sym c.odd_part.ensures.power.2 in
    let multiple : (j : ℕ) → j < 65 → get_or c.add_multiple.result j 0 ≡ c.inverse-unit.result * get_or c.args.x.now j 0 % 2 ^ 32 =
    λ j lt. c.add_multiple.ensures j lt ∙ ap (λ z. (z + c.inverse-unit.result * get_or c.args.x.now j 0) % 2 ^ 32) (get_or-replicate 65 j 0 0 lt)
    ∙ (let f : 0 + c.inverse-unit.result * get_or c.args.x.now j 0 ≡ c.inverse-unit.result * get_or c.args.x.now j 0 = omega arith in ap (λ z. z % 2 ^ 32) f) in
    record {
      unit = c.inverse-unit.result;
      back = c.odd_part.result;
      inverse = (let f : c.inverse-unit.result * c.odd_part.result ≡ c.odd_part.result * c.inverse-unit.result = omega arith in ap (λ z. z % 2 ^ 32) f) ∙ c.inverse-unit.ensures;
      multiple = multiple;
      power = v;
      small = c.odd_part.ensures.power.1;
      leading = multiple c.args.column c.requires.within ∙ ap (λ z. c.inverse-unit.result * z % 2 ^ 32) is ∙ unit_power c.odd_part.result c.inverse-unit.result v c.odd_part.ensures.power.1 c.inverse-unit.ensures;
      divides = ap (λ z. z % 2 ^ v) is ∙ mul-mod_left c.odd_part.result (2 ^ v);
    }
