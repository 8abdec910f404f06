use Rattle.std.proofs.Common.{◌≡◌, ◌∙◌, ℕ, List, Some, None, sym}
use Rattle.std.specs.Prelude.{bytes_eq, if◌then◌else◌}
use Rattle.std.specs.Ordering.{nat_cmp}
use Rattle.std.specs.Cmp.Lexicographic.{slice_cmp}
use Rattle.std.specs.BTreeMap as tree
use Rattle.std.proofs.lemmas.Map.Text.{btree_map_updates_str}
use Rattle.spec_ir.specs.Environment.{or_else}
use Rattle.spec_ir.specs.Found.{found}
use Rattle.spec_ir.specs.Scopes.{constructor_of}
use Rattle.spec_ir.proofs.Entered.{entered}
use Rattle.spec_ir.proofs.table.enter_case.Goals as goal

pub returns : goal.returns
returns c = λ other.
    let key = c.as_str-name.result.now in
    let old = c.args.table.now in
    let new = c.insert.new.self in
    let step : found new other ≡ or_else (found old other) (if bytes_eq key other then Some (constructor_of c.args.constructor) else None) =
    entered (λ ds. tree.get_by (λ k. slice_cmp nat_cmp ds k.now) old) (λ ds. tree.get_by (λ k. slice_cmp nat_cmp ds k.now) new) key other c.args.constructor
    (sym c.contains_key.ensures ∙ c.if-contains_key.false)
    (btree_map_updates_str key old new (Some c.args.constructor) c.in_ok-insert.ensures.updates other) in
    rw (← c.as_str-name.ensures) step
