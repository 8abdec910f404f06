use Rattle.std.proofs.Common.{◌≡◌, ◌++◌, map, drop}
use Rattle.spec_decode_rows.specs.Decoded.{arg_of}
use Rattle.spec_decode_rows.specs.Fits.{args_fit}
use Rattle.spec_decode_rows.specs.Views.{field}
use Rattle.spec_decode_rows.proofs.arguments.check_arguments.Given as goal

abbrev pub invariant-loop-i : goal.invariant-loop-i
invariant-loop-i l = record {
  fits : args_fit (map field l.fields) l.args l.types ≡ args_fit (map field l.fields) (drop l.i l.args) (drop l.i l.types);
  out_is : map (arg_of (map field l.fields)) l.args ≡ l.out.items ++ map (arg_of (map field l.fields)) (drop l.i l.args);
}
