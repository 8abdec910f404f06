use Rattle.std.proofs.Common.{List, subst, sym, rules}
use Rattle.syntax_lexer.specs.declared.token.Token.{Token}
use Rattle.syntax_lexer.specs.Source.{IsLexedFrom}
use Rattle.syntax_parser.specs.View.{tree as tree_of}
use Rattle.program_common.specs.SpecFaults.{IsParsedFrom}
use Rattle.program_common.proofs.Giving.{no_tokens, no_tree, not_checked}
use Rattle.program_common.proofs.source.specification_of.Goals as goal

pub returns-in_err-tokens : goal.returns-in_err-tokens
returns-in_err-tokens c =
    let refused = no_tokens c.args.wanted c.args.source.now c.in_err-tokens.field-0.0 c.in_err-tokens.ensures.fault in
    search (rules, refused)

pub returns-in_err-tree : goal.returns-in_err-tree
returns-in_err-tree c =
    let lexed = subst (λ (tokens : List Token). IsLexedFrom c.args.source.now tokens) (sym c.deref.ensures.value) c.in_ok-tokens.ensures.ok in
    let refused = no_tree c.args.wanted c.args.source.now c.deref.result.now c.in_err-tree.field-0.0 lexed c.in_err-tree.ensures.answer in
    search (rules, refused)

pub returns-in_err-check : goal.returns-in_err-check
returns-in_err-check c =
    let lexed = subst (λ (tokens : List Token). IsLexedFrom c.args.source.now tokens) (sym c.deref.ensures.value) c.in_ok-tokens.ensures.ok in
    let parsed : IsParsedFrom c.args.source.now (tree_of c.in_ok-tree.tree) = record { tokens = c.deref.result.now; lexed = lexed; parsed = c.in_ok-tree.ensures.answer } in
    let refused = not_checked c.args.wanted c.args.source.now (tree_of c.in_ok-tree.tree) c.in_err-check.field-0.0 parsed c.in_err-check.ensures.answer in
    search (rules, refused)
