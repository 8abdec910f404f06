use Rattle.std.proofs.Common.{◌∙◌, Some, nat_cmp, ap, cond, subst, sym}
use Rattle.std.specs.BTreeMap.{get, insert_entry, is_at}
use Rattle.fixpoint_open_tables.specs.Gathering.{IsPut}
use Rattle.fixpoint_open_tables.specs.Places.{AreInside, placed}
use Rattle.fixpoint_open_tables.proofs.Places.{is_put, one_inside}
use Rattle.fixpoint_open_tables.proofs.endings.Endings.insert.Goals as goal

pub invariant_of-self-2 : goal.invariant_of-self-2
invariant_of-self-2 g c =
    let xs = c.self.inside.listed.items in
    let ps = c.self.inside.places.entries in
    subst (λ ys. AreInside ys c.insert.new.self.entries) (sym c.in_ok-put.ensures.items)
    (one_inside xs c.args.ending c.args.at ps c.insert.new.self.entries c.self.invariant (c.in_ok-insert.ensures.entries ∙ ap (insert_entry nat_cmp ps c.args.at) (c.len-place.ensures ∙ c.self.inside.listed.ok.0)))

pub returns : goal.returns
returns g c =
    let xs = c.self.inside.listed.items in
    let m = c.self.inside.places in
    let n = c.insert.new.self in
    subst (λ es. IsPut es (placed c.put.new.list.items n.entries) c.args.at (Some c.args.ending)) c.self.view_is
    (subst (λ ys. IsPut (placed xs m.entries) (placed ys n.entries) c.args.at (Some c.args.ending)) (sym c.in_ok-put.ensures.items)
    (is_put xs c.args.ending c.args.at m n c.self.invariant (c.in_ok-insert.ensures.entries ∙ ap (insert_entry nat_cmp m.entries c.args.at) (c.len-place.ensures ∙ c.self.inside.listed.ok.0))
    (λ q. c.in_ok-insert.ensures.updates.0 q ∙ ap (λ i. cond (is_at (nat_cmp c.args.at) q) (Some i) (get nat_cmp m q)) (c.len-place.ensures ∙ c.self.inside.listed.ok.0))))
