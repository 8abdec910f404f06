use Rattle.std.proofs.Common.{◌≡◌, ◌++◌, map, drop}
use Rattle.spec_match_compiler.specs.Views.{knowledge}
use Rattle.spec_match_compiler.proofs.Changed.{changed}
use Rattle.spec_match_compiler.proofs.put.+put_knowledge.Given as goal

abbrev pub invariant-put_part-loop-i : goal.invariant-put_part-loop-i
invariant-put_part-loop-i l =
    map knowledge l.out.items ++ changed l.field l.at (knowledge l.there) l.i (map knowledge (drop l.i l.parts))
    ≡ changed l.field l.at (knowledge l.there) 0 (map knowledge l.parts)
