use Rattle.std.proofs.Common.{◌≡◌, ◌<◌, length, map, sym, ap, subst, ◌∙◌, Ok, Err}
use Rattle.base_trait.specs.Uses.{seen}
use Rattle.analysis_transfer_laws.specs.Uses.{either_stamp, with_use}
use Rattle.analysis_uses.specs.Places.{put}
use Rattle.analysis_uses.proofs.Places.{more_put, new_put}
use Rattle.analysis_uses.proofs.merge.add_use.Goals as goal

pub returns-in_ok-add_stamps-in-Ok : goal.returns-in_ok-add_stamps-in-Ok
returns-in_ok-add_stamps-in-Ok c =
    let one = seen c.args.one.now in
    let v = c.index_mut.result.now in
    more_put one c.args.uses.now.items c.in-Ok.i v (subst (λ us. c.in-Ok.i < length us) c.deref.ensures.value c.in-Ok.ensures.within) c.index_mut.ensures.value c.add_stamps.new.stamps
    (c.in_ok-add_stamps-in-Ok.ensures ∙ ap (λ ss. either_stamp ss v.from.items) c.deref-in-Ok.ensures.value)
    ∙ sym (subst (λ us. with_use c.args.fields.now one (map seen us) ≡ put one (map seen us) (Ok c.in-Ok.i)) c.deref.ensures.value c.in-Ok.ensures.place)

pub returns-in_ok-insert-in-Err : goal.returns-in_ok-insert-in-Err
returns-in_ok-insert-in-Err c =
    let one = seen c.args.one.now in
    ap (λ us. map seen us) c.in_ok-insert-in-Err.ensures.items ∙ new_put one c.args.uses.now.items c.in-Err.i c.in_ok-order_stamps-in-Err.field-0 c.in_ok-order_stamps-in-Err.ensures
    ∙ sym (subst (λ us. with_use c.args.fields.now one (map seen us) ≡ put one (map seen us) (Err c.in-Err.i)) c.deref.ensures.value c.in-Err.ensures.place)
