use Rattle.std.proofs.Common.{◌≡◌, ◌<◌, max, refl, ap, ◌∙◌, arith}
use Rattle.std.specs.Prelude.{◌^◌, ◌&&◌, IfOk, IsOkAnd}
use Rattle.base_trait.proofs.Tests.{and_parts}
use Rattle.spec_ir.specs.Views.{specification}
use Rattle.domain_laws.specs.States.{state_type}
use Rattle.abstract_value_laws.specs.Fits.{Fits}
use Rattle.abstract_map.proofs.Whole.{if_ok}
use Rattle.abstract_value.specs.View.{abs}
use Rattle.domain_product_laws.specs.Calls.{zip_value}
use Rattle.domain_product_laws.specs.Domain.{may_pair}
use Rattle.domain_product_laws.proofs.Values.{Meet, states_meet}
use Rattle.domain_product.proofs.Parts.{made_of, state_at, told}
use Rattle.domain_product.proofs.domain.PairDomainDomain.open.Goals as goal

pub pair_results-requires-clause-left : goal.pair_results-requires-clause-left
pair_results-requires-clause-left g c =
    let first = g.A.Domain.meaning c.args.self.now.first in
    let second = g.B.Domain.meaning c.args.self.now.second in
    let spec = specification c.args.spec.now in
    let x = g.A.Domain.view c.args.x.now.0 in
    let one = and_parts (g.A.Domain.is_for c.args.self.now.first spec) (g.B.Domain.is_for c.args.self.now.second spec && may_pair g.A.B.Base.algebra g.B.B.Base.algebra) c.requires.made in
    let laws = g.met.A.Domain.laws c.args.self.now.first spec one.0 in
    let range = c.ranges.pc.fits in
    let below : c.args.pc < 2 ^ 32 = omega (arith, range) in
    if_ok (λ k. k ≡ (first.context, second.context)) (λ k. Fits g.A.B.Base.algebra k.0 g.A.B.Base.CAP (abs c.in_ok-left.left)) c.ctx.result
    (λ k e. (state_at g.A.B.Base.algebra g.A.B.Base.CAP (state_type spec) k.0 first.context (abs c.in_ok-left.left) (first.opened c.args.pc x) (ap (λ z. z.0) e) c.in_ok-left.ensures.value (laws.open_fits c.args.pc x below c.requires.fits.0)).1) c.ctx.ensures.value

pub pair_results-requires-clause-right : goal.pair_results-requires-clause-right
pair_results-requires-clause-right g c =
    let first = g.A.Domain.meaning c.args.self.now.first in
    let second = g.B.Domain.meaning c.args.self.now.second in
    let spec = specification c.args.spec.now in
    let y = g.B.Domain.view c.args.x.now.1 in
    let one = and_parts (g.A.Domain.is_for c.args.self.now.first spec) (g.B.Domain.is_for c.args.self.now.second spec && may_pair g.A.B.Base.algebra g.B.B.Base.algebra) c.requires.made in
    let two = and_parts (g.B.Domain.is_for c.args.self.now.second spec) (may_pair g.A.B.Base.algebra g.B.B.Base.algebra) one.1 in
    let laws = g.met.B.Domain.laws c.args.self.now.second spec two.0 in
    let range = c.ranges.pc.fits in
    let below : c.args.pc < 2 ^ 32 = omega (arith, range) in
    if_ok (λ v. abs v ≡ second.opened c.args.pc y) (λ v. IfOk c.ctx.result (λ k. Fits g.B.B.Base.algebra k.1 g.B.B.Base.CAP (abs v))) c.open-right.result
    (λ v d. if_ok (λ k. k ≡ (first.context, second.context)) (λ k. Fits g.B.B.Base.algebra k.1 g.B.B.Base.CAP (abs v)) c.ctx.result
    (λ k e. (state_at g.B.B.Base.algebra g.B.B.Base.CAP (state_type spec) k.1 second.context (abs v) (second.opened c.args.pc y) (ap (λ z. z.1) e) d (laws.open_fits c.args.pc y below c.requires.fits.1)).1) c.ctx.ensures.value) c.open-right.ensures.value

pub pair_results-requires-clause-widths : goal.pair_results-requires-clause-widths
pair_results-requires-clause-widths g c =
    let first = g.A.Domain.meaning c.args.self.now.first in
    let second = g.B.Domain.meaning c.args.self.now.second in
    let spec = specification c.args.spec.now in
    let x = g.A.Domain.view c.args.x.now.0 in
    let y = g.B.Domain.view c.args.x.now.1 in
    let one = and_parts (g.A.Domain.is_for c.args.self.now.first spec) (g.B.Domain.is_for c.args.self.now.second spec && may_pair g.A.B.Base.algebra g.B.B.Base.algebra) c.requires.made in
    let two = and_parts (g.B.Domain.is_for c.args.self.now.second spec) (may_pair g.A.B.Base.algebra g.B.B.Base.algebra) one.1 in
    let a = g.met.A.Domain.laws c.args.self.now.first spec one.0 in
    let b = g.met.B.Domain.laws c.args.self.now.second spec two.0 in
    let range = c.ranges.pc.fits in
    let below : c.args.pc < 2 ^ 32 = omega (arith, range) in
    let left = state_at g.A.B.Base.algebra g.A.B.Base.CAP (state_type spec) first.context first.context (abs c.in_ok-left.left) (first.opened c.args.pc x) refl c.in_ok-left.ensures.value (a.open_fits c.args.pc x below c.requires.fits.0) in
    if_ok (λ v. abs v ≡ second.opened c.args.pc y) (λ v. Meet (abs c.in_ok-left.left) (abs v)) c.open-right.result
    (λ v d. states_meet (state_type spec) (abs c.in_ok-left.left) (abs v) left.0
    (state_at g.B.B.Base.algebra g.B.B.Base.CAP (state_type spec) second.context second.context (abs v) (second.opened c.args.pc y) refl d (b.open_fits c.args.pc y below c.requires.fits.1)).0) c.open-right.ensures.value

pub returns : goal.returns
returns g c =
    let a = g.A.B.Base.algebra in
    let b = g.B.B.Base.algebra in
    let cap = max g.A.B.Base.CAP g.B.B.Base.CAP in
    let first = g.A.Domain.meaning c.args.self.now.first in
    let second = g.B.Domain.meaning c.args.self.now.second in
    let left = abs c.in_ok-left.left in
    let x = first.opened c.args.pc (g.A.Domain.view c.args.x.now.0) in
    let y = second.opened c.args.pc (g.B.Domain.view c.args.x.now.1) in
    let same : zip_value a b (first.context, second.context) cap left y ≡ zip_value a b (first.context, second.context) cap x y = ap (λ z. zip_value a b (first.context, second.context) cap z y) c.in_ok-left.ensures.value in
    record {
      value = made_of c.pair_results.result c.open-right.result (λ v. abs v ≡ y) (λ v r. IsOkAnd c.ctx.result (λ z. abs r ≡ zip_value a b z cap left (abs v))) (λ r. abs r ≡ zip_value a b (first.context, second.context) cap x y) c.open-right.ensures.value
          (λ v r d h. told c.ctx.result (λ z. z ≡ (first.context, second.context)) (λ z. abs r ≡ zip_value a b z cap left (abs v)) (abs r ≡ zip_value a b (first.context, second.context) cap x y) c.ctx.ensures.value
          (λ z e w. w ∙ ap (λ u. zip_value a b u cap left (abs v)) e ∙ ap (λ u. zip_value a b (first.context, second.context) cap left u) d ∙ same) h) c.pair_results.ensures;
    }
