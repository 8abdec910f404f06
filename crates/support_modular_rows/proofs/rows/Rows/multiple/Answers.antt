use Rattle.std.proofs.Common.{◌+◌, ◌<◌, ℕ, Option, Some, None, sym, subst}
use Rattle.std.specs.Option.{IfNone, IfSome}
use Rattle.support_modular_rows.specs.Multiples.{AreLeastMultiples, AreMultiples, IsLeastMultiple, IsMultiple}
use Rattle.support_modular_rows.proofs.Multiples.{least_from, none_from}
use Rattle.support_modular_rows.proofs.rows.Rows.multiple.Goals as goal

some_map : (o : Option ℕ) (P Q : ℕ → Type 0) → ((c : ℕ) → P c → Q c) → IfSome o P → IfSome o Q
some_map (Some c) P Q f h = f c h
some_map None P Q f h = h

none_map : (o : Option ℕ) (P Q : Type 0) → (P → Q) → IfNone o P → IfNone o Q
none_map (Some c) P Q f h = h
none_map None P Q f h = f h

pub returns-clause-some : goal.returns-clause-some
returns-clause-some c =
    let within : c.args.cell < c.self.inside.k = subst (λ s. c.args.cell < s.k) (sym c.self.view_is) c.requires in
    subst (λ s. IfSome c.multiple.result (λ d. IsLeastMultiple s.k s.rows c.args.cell d)) c.self.view_is
    (some_map c.multiple.result (AreLeastMultiples c.self.inside.slots.items (c.args.cell + 1)) _
    (least_from c.self.inside.k c.self.inside.slots.items c.args.cell within c.self.invariant)
    (subst (λ rs. IfSome c.multiple.result (λ d. AreLeastMultiples rs (c.args.cell + 1) d)) c.deref.ensures.value c.multiple.ensures.some))

pub returns-clause-none : goal.returns-clause-none
returns-clause-none c =
    let within : c.args.cell < c.self.inside.k = subst (λ s. c.args.cell < s.k) (sym c.self.view_is) c.requires in
    subst (λ s. IfNone c.multiple.result ((d : ℕ) → IsMultiple s.k s.rows c.args.cell d → ⊥)) c.self.view_is
    (none_map c.multiple.result ((d : ℕ) → AreMultiples c.self.inside.slots.items (c.args.cell + 1) d → ⊥) _
    (none_from c.self.inside.k c.self.inside.slots.items c.args.cell within c.self.invariant)
    (subst (λ rs. IfNone c.multiple.result ((d : ℕ) → AreMultiples rs (c.args.cell + 1) d → ⊥)) c.deref.ensures.value c.multiple.ensures.none))
