use Rattle.std.proofs.Common.{◌≡◌, true, length, sym, ◌∙◌, rules, subst}
use Rattle.std.proofs.lemmas.List.{length-map}
use Rattle.test_match_compiler.specs.Premises.{shape_fits}
use Rattle.spec_match_compiler.specs.Views.{types}
use Rattle.test_match_compiler.proofs.Checked.{are_types, rows_suit, is_a_shape}
use Rattle.test_match_compiler.proofs.answer.compiled.Goals as goal

pub compile-requires-clause-types : goal.compile-requires-clause-types
compile-requires-clause-types c = are_types (types c.args.sig.now) (sym c.are_types.ensures ∙ c.if-not-are_types.false)

pub compile-requires-clause-patterns : goal.compile-requires-clause-patterns
compile-requires-clause-patterns c =
    rows_suit (types c.args.sig.now) c.args.shape c.args.rows.now (c.all_rows_suit.ensures c.if-not-all_rows_suit.false)

pub compile-requires-clause-shape : goal.compile-requires-clause-shape
compile-requires-clause-shape c =
    let len : c.len.result ≡ length c.args.sig.now.datas.items = search rules in
    let fits : shape_fits c.len.result c.args.shape ≡ true = sym c.is_shape.ensures ∙ c.if-not-is_shape.false in
    is_a_shape (types c.args.sig.now) c.args.shape (rw length-map (subst (λ n. shape_fits n c.args.shape ≡ true) len fits))
