use Rattle.std.proofs.Common.{◌≡◌, ◌+◌, ◌-◌, ◌*◌, ◌/◌, ◌%◌, ◌^◌, suc, false, [], ◌∷◌, ◌++◌, arith, rules, append_assoc}
use Rattle.std.specs.Fmt.{digit_glyph}
use Rattle.std.specs.String.{string_bytes}
use Rattle.state_cell_text.proofs.writer.push_hex.Goals as goal
use Rattle.syntax_cursor.proofs.Turns.{turn}

pub loop-i-preserved : goal.loop-i-preserved
loop-i-preserved c =
    let left = c.args.count - (c.loop-i.i + 1) in
    let t : c.args.count - c.loop-i.i ≡ suc left = turn c.args.count c.loop-i.i (omega arith) in
    let h = rw t at c.loop-i.invariant in
    let e : c.args.count - 1 - c.loop-i.i ≡ left = omega arith in
    let p : string_bytes c.push.new.self ≡ string_bytes c.loop-i.out ++ digit_glyph false (c.args.value / 2 ^ (4 * left) % 16) ∷ [] = search (rules, e) in
    rw (p, append_assoc) h
