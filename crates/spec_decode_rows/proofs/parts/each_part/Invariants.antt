use Rattle.std.proofs.Common.{◌≡◌, ◌≤◌, ◌++◌, map, drop}
use Rattle.std.specs.List.{list_all}
use Rattle.spec_decode_rows.specs.Decoded.{part_of}
use Rattle.spec_decode_rows.specs.Fits.{part_fits, widths_sum}
use Rattle.spec_decode_rows.proofs.parts.each_part.Given as goal

abbrev pub invariant-loop-p : goal.invariant-loop-p
invariant-loop-p l = record {
  fits : list_all part_fits l.parts ≡ list_all part_fits (drop l.p-index l.parts);
  out_is : map part_of l.parts ≡ l.out.items ++ map part_of (drop l.p-index l.parts);
  within : widths_sum (drop l.p-index l.parts) ≤ 32;
}
