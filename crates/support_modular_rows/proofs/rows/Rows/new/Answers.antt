use Rattle.std.proofs.Common.{◌+◌, ap, ◌∙◌, sym, subst}
use Rattle.std.proofs.Math.ListN.{replicate}
use Rattle.std.proofs.lemmas.List.{length-replicate}
use Rattle.support_modular_rows.specs.Reduction.{IsStore, kept_from}
use Rattle.support_modular_rows.proofs.Store.{zeros_reduced, zeros_kept, zeros_of, zero_row}
use Rattle.support_modular_rows.proofs.rows.Rows.new.Goals as goal

pub invariant_of-result : goal.invariant_of-result
invariant_of-result c =
    subst (IsStore c.args.k) (sym c.in_ok-slots.ensures) (record {
      few = c.requires;
      size = length-replicate (c.args.k + 1) zero_row;
      reduced = zeros_reduced (replicate (c.args.k + 1) zero_row) (zeros_of (c.args.k + 1));
    })

pub returns : goal.returns
returns c =
    ap (λ r. record { k = c.args.k; rows = r })
    (ap (kept_from (c.args.k + 1) 0) c.in_ok-slots.ensures ∙ zeros_kept (c.args.k + 1) 0 (replicate (c.args.k + 1) zero_row) (zeros_of (c.args.k + 1)))
