use Rattle.std.proofs.Common.{arith}
use Rattle.syntax_lexer.proofs.Lexemes.{front_run, word_token, mark_token, word_fault, byte_fault, stops_at_front}
use Rattle.syntax_lexer.proofs.Options.{if_err}
use Rattle.syntax_lexer.proofs.scan.token_at.Goals as goal

pub word_kind-requires : goal.word_kind-requires
word_kind-requires c = front_run c.args.source.now c.word_len-word.result c.word_len-word.ensures c.if-word-gt0.true

pub returns-in_err-kind-clause-fault : goal.returns-in_err-kind-clause-fault
returns-in_err-kind-clause-fault c =
    if_err c.from_residual.result c.in_err-kind.field-0.0 _ c.from_residual.ensures.1
    (word_fault c.args.at c.word_len-word.result c.args.source.now _ c.word_len-word.ensures c.if-word-gt0.true c.in_err-kind.ensures.fault)

pub returns-then-word-gt0-clause-ok : goal.returns-then-word-gt0-clause-ok
returns-then-word-gt0-clause-ok c = word_token c.args.at c.word_len-word.result c.args.source.now c.in_ok-kind.kind c.word_len-word.ensures c.if-word-gt0.true c.in_ok-kind.ensures.ok

pub returns-in-Some-clause-ok : goal.returns-in-Some-clause-ok
returns-in-Some-clause-ok c =
    rw c.text.ensures (mark_token c.args.at c.args.source.now c.in-Some.mark (stops_at_front c.args.source.now c.word_len-word.result c.word_len-word.ensures (omega arith)) c.in-Some.ensures.some c.in-Some.ensures.longest)

pub returns-in-None-clause-fault : goal.returns-in-None-clause-fault
returns-in-None-clause-fault c =
    λ _. byte_fault c.args.at c.args.source.now c.requires.some c.requires.apart (stops_at_front c.args.source.now c.word_len-word.result c.word_len-word.ensures (omega arith)) c.in-None.ensures.none
