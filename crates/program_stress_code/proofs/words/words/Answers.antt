use Rattle.std.proofs.Common.{◌≡◌, ◌∙◌, ◌+◌, ◌-◌, ◌++◌, ◌∷◌, ℕ, List, zero, append_assoc, ap, arith, rules, sym}
use Rattle.std.specs.Prelude.{if◌then◌else◌, ◌==◌, nat_lt}
use Rattle.program_stress_code.specs.Words.{instruction, last_word, next_state, state_after, word_at, words, words_from}
use Rattle.program_stress_code.proofs.Steps.{state_step, words_step}
use Rattle.program_stress_code.proofs.words.words.Goals as goal

pub loop-i-preserved : goal.loop-i-preserved
loop-i-preserved c =
    let number = c.args.number in
    let count = c.args.count in
    let i = c.loop-i.i in
    let state : c.next_state-state.result ≡ state_after number (i + 1) = c.next_state-state.ensures ∙ ap next_state c.loop-i.invariant.state ∙ sym (state_step number i) in
    let word : c.word.result ≡ word_at number count i = c.word.ensures ∙ ap (λ s. if i + 1 == count then last_word else instruction (nat_lt (i + 2) count) s) state in
    let h = rw (words_step number count i c.loop-i-test.true) at c.loop-i.invariant.out in
    record {
      state = state;
      out = rw (c.in_ok-push.ensures.items, append_assoc, word) h;
    }

pub returns : goal.returns
returns c =
    let none : c.args.count - c.loop-i.i ≡ zero = omega (arith, c.loop-i-test.false) in
    let whole : c.loop-i.out.items ++ words_from c.args.number c.args.count c.loop-i.i zero ≡ words c.args.number c.args.count = rw none at c.loop-i.invariant.out in
    search (rules, whole)
