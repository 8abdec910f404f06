use Rattle.std.proofs.Common.{subst, sym, ◌∙◌}
use Rattle.std.proofs.lemmas.Bool.{ne_eqb}
use Rattle.abstract_value_laws.specs.Fits.{Fits}
use Rattle.abstract_value.specs.View.{abs}
use Rattle.domain_product_laws.specs.Calls.{mapped_value}
use Rattle.domain_product_states.proofs.Walks.{word_of, words_absorbed, words_differ}
use Rattle.domain_product_states.proofs.sides.word_absorbs.Goals as goal

pub absorbs-requires-clause-left : goal.absorbs-requires-clause-left
absorbs-requires-clause-left g c =
    let B = g.S.To.Base.algebra in
    let k = c.args.ctx.now in
    subst (λ x. B.words.fits k c.args.w x) (sym c.old_word.ensures) c.requires.old

pub absorbs-requires-clause-right : goal.absorbs-requires-clause-right
absorbs-requires-clause-right g c =
    let B = g.S.To.Base.algebra in
    let k = c.args.ctx.now in
    let seen = word_of g.S.Sides.new_word_of g.S.Sides.new_note_of c.args.y.now c.in-Word.u c.in-Word.other c.in-Word.is in
    let fit = subst (Fits B k g.S.To.Base.CAP) seen c.requires.new in
    subst (λ x. B.words.fits k c.args.w x) (sym c.new_word.ensures) (subst (λ w. B.words.fits k w (g.S.Sides.new_word_of c.in-Word.other)) (sym c.if-w-u.true) fit.1)

pub returns-then-w-u : goal.returns-then-w-u
returns-then-w-u g c =
    words_absorbed g.S.To.Base.algebra c.args.ctx.now c.args.w c.in-Word.u (g.S.Sides.old_word_of c.args.word.now) (g.S.Sides.new_word_of c.in-Word.other) c.old_word.result.now c.new_word.result.now (mapped_value g.S.Sides.new_word_of g.S.Sides.new_note_of (abs c.args.y.now)) c.absorbs.result
    (word_of g.S.Sides.new_word_of g.S.Sides.new_note_of c.args.y.now c.in-Word.u c.in-Word.other c.in-Word.is) c.if-w-u.true c.old_word.ensures c.new_word.ensures c.absorbs.ensures.value

pub returns-else-w-u : goal.returns-else-w-u
returns-else-w-u g c =
    ne_eqb c.args.w c.in-Word.u c.if-w-u.false
    ∙ words_differ g.S.To.Base.algebra c.args.ctx.now c.args.w c.in-Word.u (g.S.Sides.old_word_of c.args.word.now) (g.S.Sides.new_word_of c.in-Word.other) (mapped_value g.S.Sides.new_word_of g.S.Sides.new_note_of (abs c.args.y.now))
    (word_of g.S.Sides.new_word_of g.S.Sides.new_note_of c.args.y.now c.in-Word.u c.in-Word.other c.in-Word.is) c.if-w-u.false
