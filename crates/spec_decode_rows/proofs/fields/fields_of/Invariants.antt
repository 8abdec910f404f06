use Rattle.std.proofs.Common.{◌≡◌, ◌≤◌, ◌++◌, length, map, drop}
use Rattle.spec_decode_rows.specs.Fields.{fields_from}
use Rattle.spec_decode_rows.specs.Fits.{widths_sum}
use Rattle.spec_decode_rows.specs.Views.{field}
use Rattle.spec_decode_rows.proofs.fields.fields_of.Given as goal

abbrev pub invariant-loop-p : goal.invariant-loop-p
invariant-loop-p l = record {
  out_is : fields_from 0 l.parts ≡ map field l.fields.items ++ fields_from (length l.fields.items) (drop l.p-index l.parts);
  within : widths_sum (drop l.p-index l.parts) ≤ 32;
}
