use Rattle.std.proofs.Common.{◌≡◌, ◌+◌, ◌*◌, ◌%◌, ◌^◌, ◌<◌, ◌++◌, map, sym, ap₂, subst, ◌∙◌, arith}
use Rattle.std.specs.Prelude.{IfOk}
use Rattle.std.specs.Int.{bit_at}
use Rattle.std.proofs.lemmas.Nat.{one_shl}
use Rattle.std.proofs.lemmas.Nat.Bits.{bit_at-lt}
use Rattle.base_trait.specs.Lists.{Each}
use Rattle.base_bits.specs.Members.{choices}
use Rattle.base_bits.specs.Listing.{choices_doubled, choices_kept, choices_room}
use Rattle.base_bits.proofs.members.with_bit.Goals as goal

pub with_each_bit-requires : goal.with_each_bit-requires
with_each_bit-requires c =
    let within = c.requires.bit in
    let width = c.requires.width in
    let bit : 1 * 2 ^ c.args.i % 2 ^ 64 ≡ 2 ^ c.args.i = one_shl c.args.i 64 (omega (arith, within, width)) in
    let room = choices_room c.args.w c.args.i c.args.x c.requires.width.1 c.requires.word c.requires.bit c.if-x-i-eq1.true in
    subst (λ l. Each (λ n. n + 1 * 2 ^ c.args.i % 2 ^ 64 < 2 ^ 64) l) (sym (c.deref.ensures.value ∙ c.requires.so_far))
    (subst (λ b. Each (λ n. n + b < 2 ^ 64) (map (λ n. c.args.x.v + n) (choices c.args.i c.args.x.m))) (sym bit) room)

pub returns-then-x-i-eq1 : goal.returns-then-x-i-eq1
returns-then-x-i-eq1 c =
    let within = c.requires.bit in
    let width = c.requires.width in
    let bit : 1 * 2 ^ c.args.i % 2 ^ 64 ≡ 2 ^ c.args.i = one_shl c.args.i 64 (omega (arith, within, width)) in
    let items = c.deref.ensures.value ∙ c.requires.so_far in
    subst (λ l. IfOk c.with_each_bit.result (λ v. v.items ≡ l))
    (ap₂ (λ l b. l ++ map (λ n. n + b) l) items bit ∙ sym (choices_doubled c.args.x.v c.args.x.m c.args.i c.if-x-i-eq1.true)) c.with_each_bit.ensures

pub returns-else-x-i-eq1 : goal.returns-else-x-i-eq1
returns-else-x-i-eq1 c =
    let other = c.if-x-i-eq1.false in
    let clear : bit_at c.args.x.m c.args.i ≡ 0 = omega (arith, other, bit_at-lt c.args.x.m c.args.i) in
    c.requires.so_far ∙ sym (choices_kept c.args.x.v c.args.x.m c.args.i clear)
