-- A check where blocks may be left open makes at most two transfers for each address that the text of a table lists.
use Rattle.std.proofs.Common.{ℕ, ◌+◌, ◌≤◌, List, arith, inr, refl}
use Rattle.std.specs.BTreeMap.{IsOrdered, btree_map_len}
use Rattle.std.specs.Ordering.{nat_cmp}
use Rattle.spec_ir.specs.Specification.{Spec}
use Rattle.code_image.specs.Image.{Image}
use Rattle.fixpoint_theory.specs.Views.{listings}
use Rattle.fixpoint_theory.specs.declared.table.Table.{Table}
use Rattle.fixpoint_open_tables.specs.Endings.{Endings}
use Rattle.text_table_reader.specs.Tables.{IsOpenTableIn}
use Rattle.text_table_reader.proofs.Views.{open_table_seen}
use Rattle.program_domains.specs.Work.{IsOpenWorkOn}
use Rattle.program_domain_tasks.specs.Own.{Own, as_defined}
use Rattle.program_domain_tasks.proofs.Working.{few_read, listings_seen}

module _ {X E W N C : Type 0} (own : Own X E W N C) (spec : Spec) (image : Image) (base bytes : List ℕ) (table : Table X) where
  pub own_open_works : (ends : Endings W) → IsOpenTableIn own.Reads own.word_in spec base image bytes (listings (λ x. x) table) ends → IsOrdered nat_cmp table.blocks
      → (old new : ℕ) → new ≤ old + (btree_map_len table.blocks + btree_map_len table.blocks) → IsOpenWorkOn (as_defined own) image base spec bytes old new
  own_open_works ends is ordered old new most =
      let seen = open_table_seen own.view own.Reads (as_defined own).Reads own.word_in spec base image (λ ls r left is. (r, refl, is)) bytes (listings (λ x. x) table) (listings own.view table) ends (listings_seen own.view table) is in
      let few = few_read own.view (as_defined own).Reads own.word_in spec image base bytes table ends seen ordered in
      inr (listings own.view table, ends, seen, omega (arith, most, few))
