use Rattle.std.proofs.Common.{◌≤◌, sym, subst}
use Rattle.word_operations.specs.Casts.{sext_of}
use Rattle.base_interval.specs.Sext.{sext_mono}
use Rattle.base_strides.proofs.rows.sext.Goals as goal

pub new-requires : goal.new-requires
new-requires c =
    let ends = c.requires.word in
    subst (λ z. z ≤ c.sext-2.result) (sym c.sext.ensures.value)
    (subst (λ z. sext_of c.args.from c.args.to c.args.x.lo ≤ z) (sym c.sext-2.ensures.value)
    (sext_mono c.args.from c.args.to c.args.x.lo c.args.x.hi c.requires.widths.order ends.0 ends.1))
