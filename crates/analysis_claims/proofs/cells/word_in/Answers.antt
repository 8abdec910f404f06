use Rattle.std.proofs.Common.{◌≡◌, ◌-◌, ◌<◌, length, IfOk, sym, ap, subst, arith}
use Rattle.analysis_query_laws.specs.Cells.{word_of}
use Rattle.analysis_claims.proofs.Values.{fits_at, found_in, nothing_in}
use Rattle.analysis_claims.proofs.cells.word_in.Goals as goal

pub returns-then-place-eq0 : goal.returns-then-place-eq0
returns-then-place-eq0 g c = ap (λ o. word_of o c.args.key) (sym (nothing_in c.args.values.now c.args.field c.then-place-eq0.either))

pub word_of-requires : goal.word_of-requires
word_of-requires g c =
    let positive : 0 < c.args.field = omega (arith, c.if-place-eq0.false) in
    let within : c.args.field - 1 < length c.args.values.now = omega (arith, positive) in
    fits_at g.B.Base.algebra c.args.ctx.now g.B.Base.CAP c.args.values.now (c.args.field - 1) c.index-values-place.result c.index-values-place.is within c.requires

pub returns : goal.returns
returns g c =
    let positive : 0 < c.args.field = omega (arith, c.if-place-eq0.false) in
    let within : c.args.field - 1 < length c.args.values.now = omega (arith, positive) in
    subst (λ o. IfOk c.word_of.result (λ r. r ≡ word_of o c.args.key)) (sym (found_in c.args.values.now c.args.field c.index-values-place.result c.index-values-place.is within positive)) c.word_of.ensures
