use Rattle.std.proofs.Common.{◌≡◌, ◌+◌, ◌∷◌, ◌++◌, ap, ◌∙◌, sym, subst, length, List, ℕ, take, drop}
use Rattle.std.specs.Bool.{MatchBool}
use Rattle.support_modular_rows.specs.Submodule.{IsMember}
use Rattle.support_modular_rows.specs.Reduction.{InSpan, SameSpan, IsStore, kept_from}
use Rattle.support_modular_rows.proofs.Store.{decided_to, decided_from, match_map, kept, added_to, added_from, put_back}
use Rattle.support_modular_rows.proofs.rows.Rows.insert.Goals as goal

pub returns-clause-members : goal.returns-clause-members
returns-clause-members c =
    let k = c.self.inside.k in
    let old = c.self.inside.slots.items in
    let new = c.take_in.new.rows in
    let r = c.args.row.now in
    let size : length c.take_in.new.rows ≡ c.self.inside.slots.len = c.take_in.auto.rows ∙ c.deref_mut.ensures.len in
    let same : SameSpan (length c.self.inside.slots.items) (c.args.row.now ∷ c.self.inside.slots.items) c.take_in.new.rows =
    subst (λ old. SameSpan (length old) (c.args.row.now ∷ old) c.take_in.new.rows) c.deref_mut.ensures.value c.take_in.ensures.span in
    let whole : length c.take_in.new.rows ≡ c.self.inside.k + 1 = c.take_in.auto.rows ∙ ap length c.deref_mut.ensures.value ∙ c.self.invariant.size in
    let store : IsStore c.self.inside.k c.take_in.new.rows = record { few = c.self.invariant.few; size = whole; reduced = c.take_in.ensures.reduced } in
    subst (λ s. (x : List ℕ) →
    (IsMember s.k (kept_from (c.self.inside.k + 1) 0 (take c.self.inside.slots.len (c.take_in.new.rows ++ drop (length c.take_in.new.rows) c.self.inside.slots.items))) x → IsMember s.k (c.args.row.now ∷ s.rows) x)
    × (IsMember s.k (c.args.row.now ∷ s.rows) x → IsMember s.k (kept_from (c.self.inside.k + 1) 0 (take c.self.inside.slots.len (c.take_in.new.rows ++ drop (length c.take_in.new.rows) c.self.inside.slots.items))) x))
    c.self.view_is
    (subst (λ l. (x : List ℕ) → (IsMember k (kept k l) x → IsMember k (r ∷ kept k old) x) × (IsMember k (r ∷ kept k old) x → IsMember k (kept k l) x))
    (sym (put_back c.self.inside.slots.len new old size))
    (λ x. (added_to k old new r x c.self.invariant same, added_from k old new r x c.self.invariant store same)))

pub returns-clause-grew : goal.returns-clause-grew
returns-clause-grew c =
    let k = c.self.inside.k in
    let old = c.self.inside.slots.items in
    let r = c.args.row.now in
    let grew : MatchBool c.take_in.result (InSpan c.self.inside.slots.items c.args.row.now → ⊥) (InSpan c.self.inside.slots.items c.args.row.now) =
    subst (λ rs. MatchBool c.take_in.result (InSpan rs c.args.row.now → ⊥) (InSpan rs c.args.row.now)) c.deref_mut.ensures.value c.take_in.ensures.grew in
    subst (λ s. MatchBool c.take_in.result (IsMember s.k s.rows c.args.row.now → ⊥) (IsMember s.k s.rows c.args.row.now)) c.self.view_is
    (match_map c.take_in.result (InSpan old r → ⊥) (InSpan old r) (IsMember k (kept k old) r → ⊥) (IsMember k (kept k old) r)
    (λ no h. no (decided_from k old r c.self.invariant h)) (decided_to k old r c.self.invariant) grew)
