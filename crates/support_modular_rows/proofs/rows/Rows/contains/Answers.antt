use Rattle.std.proofs.Common.{subst, IsTrue}
use Rattle.std.specs.Bool.{MatchBool}
use Rattle.support_modular_rows.specs.Submodule.{IsMember}
use Rattle.support_modular_rows.specs.Reduction.{InSpan}
use Rattle.support_modular_rows.proofs.Store.{decided_to, decided_from, match_map, match_iff, kept}
use Rattle.support_modular_rows.proofs.rows.Rows.contains.Goals as goal

pub returns : goal.returns
returns c =
    let k = c.self.inside.k in
    let rs = c.self.inside.slots.items in
    let r = c.args.row.now in
    let span : MatchBool c.holds.result (InSpan c.self.inside.slots.items c.args.row.now) (InSpan c.self.inside.slots.items c.args.row.now → ⊥) =
    subst (λ rs. MatchBool c.holds.result (InSpan rs c.args.row.now) (InSpan rs c.args.row.now → ⊥)) c.deref.ensures.value c.holds.ensures in
    subst (λ s. (IsTrue c.holds.result → IsMember s.k s.rows c.args.row.now) × (IsMember s.k s.rows c.args.row.now → IsTrue c.holds.result)) c.self.view_is
    (match_iff c.holds.result (IsMember k (kept k rs) r)
    (match_map c.holds.result (InSpan rs r) (InSpan rs r → ⊥) (IsMember k (kept k rs) r) (IsMember k (kept k rs) r → ⊥)
    (decided_to k rs r c.self.invariant) (λ no h. no (decided_from k rs r c.self.invariant h)) span))
