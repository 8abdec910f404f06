use Rattle.std.proofs.Common.{◌≡◌, IfOk, subst}
use Rattle.std.specs.Prelude.{if◌then◌else◌}
use Rattle.base_strides.specs.Instance.{word_laws}
use Rattle.base_strides.specs.Meaning.{absorbs_word, grown, widen_of}
use Rattle.base_strides.proofs.Fitting.{fits_of}
use Rattle.base_strides.proofs.base.StridesBase.widen.Goals as goal

pub returns-clause-fits : goal.returns-clause-fits
returns-clause-fits c =
    let w = c.args.w in let old = c.args.old.now in let new = c.args.new.now in
    fits_of w c.widen.result (widen_of c.args.ctx.now w old new)
    (subst (λ z. IfOk c.widen.result (λ r. r ≡ (if absorbs_word old new then old else grown z w old new))) c.stops.ensures.heeded c.widen.ensures.value)
    (word_laws.widen_fits c.args.ctx.now w old new c.requires.width c.requires.left c.requires.right)
