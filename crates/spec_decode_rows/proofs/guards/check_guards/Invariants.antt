use Rattle.std.proofs.Common.{◌≡◌, ◌++◌, map, drop}
use Rattle.std.specs.List.{list_all}
use Rattle.spec_decode_rows.specs.Decoded.{guard_of}
use Rattle.spec_decode_rows.specs.Fits.{guard_fits}
use Rattle.spec_decode_rows.specs.Views.{field}
use Rattle.spec_decode_rows.proofs.guards.check_guards.Given as goal

abbrev pub invariant-loop-g : goal.invariant-loop-g
invariant-loop-g l = record {
  fits : list_all (guard_fits (map field l.fields)) l.guards ≡ list_all (guard_fits (map field l.fields)) (drop l.g-index l.guards);
  out_is : map (guard_of (map field l.fields)) l.guards ≡ l.out.items ++ map (guard_of (map field l.fields)) (drop l.g-index l.guards);
}
