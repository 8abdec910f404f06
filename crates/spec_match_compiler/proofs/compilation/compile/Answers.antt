use Rattle.std.proofs.Common.{◌≡◌, map, rules}
use Rattle.std.proofs.lemmas.Result.{err_from_is_err_and}
use Rattle.std.proofs.lemmas.List.{length-map}
use Rattle.spec_match_compiler.specs.declared.knowledge.Knowledge.{Unknown}
use Rattle.spec_match_compiler.specs.Picks.{numbered}
use Rattle.spec_match_compiler.specs.Rule.{IsTree}
use Rattle.spec_match_compiler.specs.Refusals.{FailsWith}
use Rattle.spec_match_compiler.specs.Compiled.{IsTreeOf}
use Rattle.spec_match_compiler.specs.Views.{types, pat, tree, knowledge, candidate}
use Rattle.spec_match_compiler.proofs.Granted.{types_limits, rows_suit, rows_limits, can_all_unknown, known_Unknown}
use Rattle.spec_match_compiler.proofs.Answering.{picks_first, exhaustive, of_use, no_use, refused}
use Rattle.spec_match_compiler.proofs.Enough.{answer_tree, answer_useless, answer_refused}
use Rattle.spec_match_compiler.proofs.compilation.compile.Goals as goal

pub decide-requires-clause-sig : goal.decide-requires-clause-sig
decide-requires-clause-sig c = types_limits (types c.args.sig.now) c.requires.types

pub decide-requires-clause-rows : goal.decide-requires-clause-rows
decide-requires-clause-rows c =
    let rows : map candidate c.in_ok-left.left.items ≡ numbered 0 (map pat c.args.rows.now) = search rules in
    let suit = rows_suit (types c.args.sig.now) c.args.shape 0 c.args.rows.now c.requires.patterns in
    rw rows (rows_limits (types c.args.sig.now) c.requires.types c.args.shape (numbered 0 (map pat c.args.rows.now)) suit)

pub decide-requires-clause-can : goal.decide-requires-clause-can
decide-requires-clause-can c = rw (known_Unknown c.args.shape) (can_all_unknown (map candidate c.in_ok-left.left.items) c.args.shape)

pub returns-in_err-decision-clause-refusal : goal.returns-in_err-decision-clause-refusal
returns-in_err-decision-clause-refusal c =
    let rows : map candidate c.in_ok-left.left.items ≡ numbered 0 (map pat c.args.rows.now) = search rules in
    let suit = rows_suit (types c.args.sig.now) c.args.shape 0 c.args.rows.now c.requires.patterns in
    let p = err_from_is_err_and c.from_residual-in_err-decision.result c.from_residual-in_err-decision.ensures.1 in
    let deeper : FailsWith (types c.args.sig.now) (map candidate c.in_ok-left.left.items) (knowledge (Unknown c.args.shape)) c.in_err-decision.field-0.0 = c.in_err-decision.ensures in
    let fails = rw (known_Unknown c.args.shape) at (rw rows at deeper) in
    rw (p.1, p.2) (refused (types c.args.sig.now) c.requires.types c.args.shape c.requires.shape (map pat c.args.rows.now) suit c.in_err-decision.field-0.0 fails)

pub returns-in-Some-clause-refusal : goal.returns-in-Some-clause-refusal
returns-in-Some-clause-refusal c =
    let suit = rows_suit (types c.args.sig.now) c.args.shape 0 c.args.rows.now c.requires.patterns in
    let is : IsTreeOf (types c.args.sig.now) c.args.shape (map pat c.args.rows.now) (tree c.in_ok-decision.decision) =
    let rows : map candidate c.in_ok-left.left.items ≡ numbered 0 (map pat c.args.rows.now) = search rules in
    let here : IsTree (types c.args.sig.now) (map candidate c.in_ok-left.left.items) (knowledge (Unknown c.args.shape)) (tree c.in_ok-decision.decision) = c.in_ok-decision.ensures in
    rw (known_Unknown c.args.shape) at (rw rows at here) in
    let h = rw c.in-Some.is at c.in_ok-row.ensures in (
      exhaustive (types c.args.sig.now) c.requires.types c.args.shape c.requires.shape (map pat c.args.rows.now) suit (tree c.in_ok-decision.decision) is,
      rw length-map h.0,
      no_use (types c.args.sig.now) c.requires.types c.args.shape c.requires.shape (map pat c.args.rows.now) suit (tree c.in_ok-decision.decision) c.in-Some.row is h.1,
      λ q l. of_use (types c.args.sig.now) c.requires.types c.args.shape c.requires.shape (map pat c.args.rows.now) suit (tree c.in_ok-decision.decision) q is (h.2 q l),
    )

pub returns-in-None-clause-first_match : goal.returns-in-None-clause-first_match
returns-in-None-clause-first_match c =
    let suit = rows_suit (types c.args.sig.now) c.args.shape 0 c.args.rows.now c.requires.patterns in
    let is : IsTreeOf (types c.args.sig.now) c.args.shape (map pat c.args.rows.now) (tree c.in_ok-decision.decision) =
    let rows : map candidate c.in_ok-left.left.items ≡ numbered 0 (map pat c.args.rows.now) = search rules in
    let here : IsTree (types c.args.sig.now) (map candidate c.in_ok-left.left.items) (knowledge (Unknown c.args.shape)) (tree c.in_ok-decision.decision) = c.in_ok-decision.ensures in
    rw (known_Unknown c.args.shape) at (rw rows at here) in
    picks_first (types c.args.sig.now) c.requires.types c.args.shape c.requires.shape (map pat c.args.rows.now) suit (tree c.in_ok-decision.decision) is

pub returns-in-None-clause-exhaustive : goal.returns-in-None-clause-exhaustive
returns-in-None-clause-exhaustive c =
    let suit = rows_suit (types c.args.sig.now) c.args.shape 0 c.args.rows.now c.requires.patterns in
    let is : IsTreeOf (types c.args.sig.now) c.args.shape (map pat c.args.rows.now) (tree c.in_ok-decision.decision) =
    let rows : map candidate c.in_ok-left.left.items ≡ numbered 0 (map pat c.args.rows.now) = search rules in
    let here : IsTree (types c.args.sig.now) (map candidate c.in_ok-left.left.items) (knowledge (Unknown c.args.shape)) (tree c.in_ok-decision.decision) = c.in_ok-decision.ensures in
    rw (known_Unknown c.args.shape) at (rw rows at here) in
    exhaustive (types c.args.sig.now) c.requires.types c.args.shape c.requires.shape (map pat c.args.rows.now) suit (tree c.in_ok-decision.decision) is

pub returns-in-None-clause-of_use : goal.returns-in-None-clause-of_use
returns-in-None-clause-of_use c =
    let suit = rows_suit (types c.args.sig.now) c.args.shape 0 c.args.rows.now c.requires.patterns in
    let is : IsTreeOf (types c.args.sig.now) c.args.shape (map pat c.args.rows.now) (tree c.in_ok-decision.decision) =
    let rows : map candidate c.in_ok-left.left.items ≡ numbered 0 (map pat c.args.rows.now) = search rules in
    let here : IsTree (types c.args.sig.now) (map candidate c.in_ok-left.left.items) (knowledge (Unknown c.args.shape)) (tree c.in_ok-decision.decision) = c.in_ok-decision.ensures in
    rw (known_Unknown c.args.shape) at (rw rows at here) in
    let h = rw c.in-None.is at c.in_ok-row.ensures in
    λ r l. of_use (types c.args.sig.now) c.requires.types c.args.shape c.requires.shape (map pat c.args.rows.now) suit (tree c.in_ok-decision.decision) r is (h r l)

pub returns-in_err-decision-clause-answer : goal.returns-in_err-decision-clause-answer
returns-in_err-decision-clause-answer c =
    let rows : map candidate c.in_ok-left.left.items ≡ numbered 0 (map pat c.args.rows.now) = search rules in
    let p = err_from_is_err_and c.from_residual-in_err-decision.result c.from_residual-in_err-decision.ensures.1 in
    let deeper : FailsWith (types c.args.sig.now) (map candidate c.in_ok-left.left.items) (knowledge (Unknown c.args.shape)) c.in_err-decision.field-0.0 = c.in_err-decision.ensures in
    let fails = rw (known_Unknown c.args.shape) at (rw rows at deeper) in
    rw (p.1, p.2) (answer_refused (types c.args.sig.now) c.args.shape (map pat c.args.rows.now) c.in_err-decision.field-0.0 fails)

pub returns-in-Some-clause-answer : goal.returns-in-Some-clause-answer
returns-in-Some-clause-answer c =
    let is : IsTreeOf (types c.args.sig.now) c.args.shape (map pat c.args.rows.now) (tree c.in_ok-decision.decision) =
    let rows : map candidate c.in_ok-left.left.items ≡ numbered 0 (map pat c.args.rows.now) = search rules in
    let here : IsTree (types c.args.sig.now) (map candidate c.in_ok-left.left.items) (knowledge (Unknown c.args.shape)) (tree c.in_ok-decision.decision) = c.in_ok-decision.ensures in
    rw (known_Unknown c.args.shape) at (rw rows at here) in
    let h = rw c.in-Some.is at c.in_ok-row.ensures in
    answer_useless (types c.args.sig.now) c.args.shape (map pat c.args.rows.now) (tree c.in_ok-decision.decision) c.in-Some.row is (rw length-map h.0) h.1 h.2

pub returns-in-None-clause-answer : goal.returns-in-None-clause-answer
returns-in-None-clause-answer c =
    let is : IsTreeOf (types c.args.sig.now) c.args.shape (map pat c.args.rows.now) (tree c.in_ok-decision.decision) =
    let rows : map candidate c.in_ok-left.left.items ≡ numbered 0 (map pat c.args.rows.now) = search rules in
    let here : IsTree (types c.args.sig.now) (map candidate c.in_ok-left.left.items) (knowledge (Unknown c.args.shape)) (tree c.in_ok-decision.decision) = c.in_ok-decision.ensures in
    rw (known_Unknown c.args.shape) at (rw rows at here) in
    let h = rw c.in-None.is at c.in_ok-row.ensures in
    answer_tree (types c.args.sig.now) c.args.shape (map pat c.args.rows.now) (tree c.in_ok-decision.decision) is (λ r l. h r (rw length-map at l))
