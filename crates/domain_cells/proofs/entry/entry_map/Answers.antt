use Rattle.std.proofs.Common.{◌≡◌, ◌-◌, ap, drop, get_or, length, sym, subst, ◌∙◌, arith}
use Rattle.std.proofs.lemmas.List.{drop_all}
use Rattle.base_trait.specs.Lists.{Each}
use Rattle.semantics_values.specs.declared.entry.GivenNumber.TheVariants.{One}
use Rattle.semantics_values.specs.declared.entry.KeyAt.TheVariants.{Whole}
use Rattle.domain_laws.specs.Entry.{map_of, with_cells}
use Rattle.domain_laws.specs.Lines.{KeyFits}
use Rattle.domain_cells.proofs.Lists.{each_get, line_width, named}
use Rattle.domain_cells.proofs.entry.entry_map.Goals as goal

pub with_line-requires-clause-key : goal.with_line-requires-clause-key
with_line-requires-clause-key g c =
    let i = c.loop-left.invariant in
    each_get (λ l. l.field ≡ c.args.field → KeyFits c.loop-left.m.width l.key l.given) c.args.lines.now (c.loop-left.left - 1) _ (omega (arith, c.loop-left-test.true, i.bound)) (subst (λ w. Each (λ l. l.field ≡ c.args.field → KeyFits w l.key l.given) c.args.lines.now) (sym i.width) c.requires.lines)

pub loop-left-preserved : goal.loop-left-preserved
loop-left-preserved g c =
    let b = g.B.Base.algebra in
    let ctx = c.args.ctx.now in
    let cap = g.B.Base.CAP in
    let i = c.loop-left.invariant in
    let line = get_or c.args.lines.now (c.loop-left.left - 1) (record { field = 0; key = Whole; given = One 0; line = 0 }) in
    record {
      fits = c.in_ok-m-2.ensures.fits;
      width = ap (λ m. m.width) c.in_ok-m-2.ensures.value ∙ line_width b ctx cap c.args.field line c.loop-left.m ∙ i.width;
      bound = omega (arith, i.bound);
      whole = named b ctx cap c.args.field c.args.lines.now (map_of b ctx c.args.w c.args.rest) c.loop-left.m c.in_ok-m-2.m c.loop-left.left (record { field = 0; key = Whole; given = One 0; line = 0 }) c.loop-left-test.true i.bound i.whole c.in_ok-m-2.ensures.value;
    }

pub loop-left-init : goal.loop-left-init
loop-left-init g c =
    let b = g.B.Base.algebra in
    let ctx = c.args.ctx.now in
    let cap = g.B.Base.CAP in
    let lines = c.args.lines.now in
    record {
      fits = c.in_ok-m.ensures.fits;
      width = ap (λ m. m.width) c.in_ok-m.ensures.value;
      bound = omega arith;
      whole = c.in_ok-m.ensures.value ∙ sym (ap (λ l. with_cells b ctx cap c.args.field l (map_of b ctx c.args.w c.args.rest)) (drop_all (length lines) lines (omega arith)));
    }

pub returns : goal.returns
returns g c =
    let b = g.B.Base.algebra in
    let ctx = c.args.ctx.now in
    let cap = g.B.Base.CAP in
    let none : c.loop-left.left ≡ 0 = omega (arith, c.loop-left-test.false) in
    c.loop-left.invariant.whole ∙ ap (λ k. with_cells b ctx cap c.args.field (drop k c.args.lines.now) (map_of b ctx c.args.w c.args.rest)) none
