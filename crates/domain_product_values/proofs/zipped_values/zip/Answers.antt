use Rattle.std.proofs.Common.{◌≡◌, ◌≤◌, max, sym, subst, arith}
use Rattle.base_product.specs.Instance.{paired_capacity}
use Rattle.base_product.specs.Meaning.{paired}
use Rattle.abstract_map_laws.proofs.Fitting.{room}
use Rattle.abstract_value_laws.specs.Fits.{Fits}
use Rattle.abstract_map.proofs.Whole.{if_ok}
use Rattle.abstract_value.specs.View.{abs}
use Rattle.domain_product_laws.specs.Calls.{zip_value}
use Rattle.domain_product_laws.proofs.Values.{fits}
use Rattle.domain_product_values.proofs.Values.{value_fits_more}
use Rattle.domain_product_values.proofs.zipped_values.zip.Goals as goal

pub returns-clause-fits : goal.returns-clause-fits
returns-clause-fits g c =
    let a = g.A.Base.algebra in
    let b = g.B.Base.algebra in
    let m = g.A.Base.CAP in
    let n = g.B.Base.CAP in
    let cap = max m n in
    let ctx = c.args.ctx.now in
    let x = abs c.args.x.now in
    let y = abs c.args.y.now in
    let space = room (paired a b) cap (paired_capacity m n a.joins b.joins g.met.A.Base.capacity g.met.B.Base.capacity) in
    let left : m ≤ cap = omega arith in
    let right : n ≤ cap = omega arith in
    if_ok (λ r. abs r ≡ zip_value a b ctx cap x y) (λ r. Fits (paired a b) ctx cap (abs r)) c.zip_value.result
    (λ r e. subst (λ z. Fits (paired a b) ctx cap z) (sym e) (fits a b g.met.A.Base.laws g.met.B.Base.laws ctx cap space x y c.requires.widths (value_fits_more a ctx.0 m cap left x c.requires.left) (value_fits_more b ctx.1 n cap right y c.requires.right)))
    c.zip_value.ensures
