-- What a table of constructors has at a name.
use Rattle.std.specs.Prelude.{ℕ, Option, List, option_map}
use Rattle.std.specs.Ordering.{nat_cmp}
use Rattle.std.specs.Cmp.Lexicographic.{slice_cmp}
use Rattle.std.specs.BTreeMap as tree
use Rattle.std.specs.BTreeMap.{BTreeMap}
use Rattle.spec_ir.specs.Environment as e
use Rattle.spec_ir.specs.Scopes.{constructor_of}
use Rattle.spec_ir.specs.declared.names.Constructor.{Constructor}
use denote.Ref.{Bor}

abbrev pub found : BTreeMap (Bor (List ℕ)) Constructor → List ℕ → Option e.Constructor
found table name = option_map constructor_of (tree.get_by (λ k. slice_cmp nat_cmp name k.now) table)
