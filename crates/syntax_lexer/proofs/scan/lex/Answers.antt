use Rattle.std.proofs.Common.{arith}
use Rattle.syntax_lexer.specs.Source as source
use Rattle.syntax_lexer.proofs.Steps.{left, separator_read, separator_within, token_read, token_within, first_fault, all_read}
use Rattle.syntax_lexer.proofs.Unique.{one_list, list_or_fault, memory_only, fault_or_memory, only_passed, refusal_passed}
use Rattle.syntax_lexer.proofs.scan.lex.Goals as goal

pub loop-at-init : goal.loop-at-init
loop-at-init c = record { read = rw c.new-tokens.ensures.items source.nothing; within = omega arith }

pub loop-at-preserved-in-Some : goal.loop-at-preserved-in-Some
loop-at-preserved-in-Some c =
    let is = left c.args.source.now c.loop-at.at in
    record {
      read = separator_read c.args.source.now c.loop-at.tokens.items c.loop-at.at c.in-Some.len _ is c.loop-at.invariant.read c.in-Some.ensures.some c.in-Some.ensures.within;
      within = separator_within c.args.source.now c.loop-at.at c.in-Some.len _ is c.loop-at.invariant.within c.in-Some.ensures.within;
    }

pub loop-at-preserved : goal.loop-at-preserved
loop-at-preserved c =
    let is = left c.args.source.now c.loop-at.at in
    record {
      read = rw c.in_ok-push-in-None.ensures.items (token_read c.args.source.now c.loop-at.tokens.items c.loop-at.at c.in_ok-token-in-None.token _ is c.loop-at.invariant.read c.in_ok-token-in-None.ensures.ok);
      within = token_within c.args.source.now c.loop-at.at c.in_ok-token-in-None.token _ is c.loop-at.invariant.within c.in_ok-token-in-None.ensures.ok;
    }

pub returns-in_err-token-in-None-clause-complete : goal.returns-in_err-token-in-None-clause-complete
returns-in_err-token-in-None-clause-complete c =
    λ tokens lexed. only_passed c.from_residual.result c.in_err-token-in-None.field-0.0 tokens c.from_residual.ensures.1
    (memory_only c.args.source.now tokens c.in_err-token-in-None.field-0.0 (λ other. first_fault c.args.source.now c.loop-at.tokens.items c.loop-at.at _ _ (left c.args.source.now c.loop-at.at)
    c.loop-at.invariant.read (c.in_err-token-in-None.ensures.fault other)) lexed)

pub returns-in_err-token-in-None-clause-refused : goal.returns-in_err-token-in-None-clause-refused
returns-in_err-token-in-None-clause-refused c =
    λ e first. refusal_passed c.from_residual.result c.in_err-token-in-None.field-0.0 e c.from_residual.ensures.1
    (fault_or_memory c.args.source.now e c.in_err-token-in-None.field-0.0 (λ other. first_fault c.args.source.now c.loop-at.tokens.items c.loop-at.at _ _ (left c.args.source.now c.loop-at.at)
    c.loop-at.invariant.read (c.in_err-token-in-None.ensures.fault other)) first)

pub returns-clause-complete : goal.returns-clause-complete
returns-clause-complete c =
    λ tokens lexed. one_list c.args.source.now c.loop-at.tokens.items tokens
    (all_read c.args.source.now c.loop-at.tokens.items c.loop-at.at c.loop-at.invariant.within c.loop-at-test.false c.loop-at.invariant.read) lexed

pub returns-clause-refused : goal.returns-clause-refused
returns-clause-refused c =
    λ e first. list_or_fault c.args.source.now c.loop-at.tokens.items e
    (all_read c.args.source.now c.loop-at.tokens.items c.loop-at.at c.loop-at.invariant.within c.loop-at-test.false c.loop-at.invariant.read) first
