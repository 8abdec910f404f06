use Rattle.std.proofs.Common.{◌≡◌, ◌+◌, ap, ◌∙◌, sym, subst, length, take, slice_get, Some, get_or, []}
use Rattle.support_modular_rows.specs.Submodule.{IsMember}
use Rattle.support_modular_rows.specs.Reduction.{IsPlace}
use Rattle.support_modular_rows.proofs.Places.{place_item, place_adds, get_any}
use Rattle.support_modular_rows.proofs.Store.{kept}
use Rattle.support_modular_rows.proofs.rows.Rows.row.Goals as goal

pub returns-clause-item : goal.returns-clause-item
returns-clause-item c =
    let place : IsPlace (length c.self.inside.slots.items) c.self.inside.slots.items c.args.i c.kept_place-place.result =
    subst (λ rs. IsPlace (length rs) rs c.args.i c.kept_place-place.result) c.deref.ensures.value c.kept_place-place.ensures in
    let here : c.index-slot.result.now ≡ get_or c.self.inside.slots.items c.kept_place-place.result [] =
    c.index-slot.ensures ∙ get_any c.self.inside.slots.items c.kept_place-place.result c.index-slot.result.now [] place.within in
    ap (λ s. slice_get s.rows c.args.i) (sym c.self.view_is)
    ∙ place_item c.self.inside.k c.self.inside.slots.items c.args.i c.kept_place-place.result c.self.invariant place
    ∙ ap (λ r. Some (take (c.self.inside.k + 1) r)) (sym here)

pub returns-clause-adds : goal.returns-clause-adds
returns-clause-adds c h =
    let place : IsPlace (length c.self.inside.slots.items) c.self.inside.slots.items c.args.i c.kept_place-place.result =
    subst (λ rs. IsPlace (length rs) rs c.args.i c.kept_place-place.result) c.deref.ensures.value c.kept_place-place.ensures in
    let here : c.index-slot.result.now ≡ get_or c.self.inside.slots.items c.kept_place-place.result [] =
    c.index-slot.ensures ∙ get_any c.self.inside.slots.items c.kept_place-place.result c.index-slot.result.now [] place.within in
    place_adds c.self.inside.k c.self.inside.slots.items c.args.i c.kept_place-place.result c.self.invariant place
    (subst (λ r. IsMember c.self.inside.k (take c.args.i (kept c.self.inside.k c.self.inside.slots.items)) (take (c.self.inside.k + 1) r)) here
    (subst (λ s. IsMember s.k (take c.args.i s.rows) (take (c.self.inside.k + 1) c.index-slot.result.now)) (sym c.self.view_is) h))
