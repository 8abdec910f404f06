use Rattle.std.proofs.Common.{◌≡◌, ◌++◌, drop, map}
use Rattle.semantics_values.specs.Values.{vals}
use Rattle.semantics_values.specs.Views.{val}
use Rattle.code_image.specs.Listing.{field_texts}
use Rattle.code_image.proofs.listing.push_fields.Given as goal

abbrev pub invariant-loop-i : goal.invariant-loop-i
invariant-loop-i l = l.initial.out.items ++ field_texts l.fields (vals (map val l.parts)) ≡ l.out.items ++ field_texts (drop l.i l.fields) (vals (map val (drop l.i l.parts)))
