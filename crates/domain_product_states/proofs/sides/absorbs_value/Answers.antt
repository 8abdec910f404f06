use Rattle.std.proofs.Common.{subst, sym, ap, ◌∙◌}
use Rattle.abstract_value_laws.specs.Calls.{absorbs_of}
use Rattle.abstract_value_laws.specs.Fits.{Fits}
use Rattle.abstract_value.specs.View.{abs}
use Rattle.abstract_value.proofs.Views.{abs_Data, abs_Flag}
use Rattle.domain_product_laws.specs.Calls.{mapped_value}
use Rattle.domain_product_states.specs.Leaves.{IsLeaf}
use Rattle.domain_product_states.proofs.Walks.{map_of_value, word_of}
use Rattle.domain_product_states.proofs.sides.absorbs_value.Goals as goal

pub word_absorbs-requires-clause-width : goal.word_absorbs-requires-clause-width
word_absorbs-requires-clause-width g c =
    let fit = subst (Fits g.S.To.Base.algebra c.args.ctx.now g.S.To.Base.CAP) (word_of g.S.Sides.old_word_of g.S.Sides.old_note_of c.args.x.now c.in-Word.w c.in-Word.word c.in-Word.is) c.requires.old in
    fit.0

pub word_absorbs-requires-clause-old : goal.word_absorbs-requires-clause-old
word_absorbs-requires-clause-old g c =
    let fit = subst (Fits g.S.To.Base.algebra c.args.ctx.now g.S.To.Base.CAP) (word_of g.S.Sides.old_word_of g.S.Sides.old_note_of c.args.x.now c.in-Word.w c.in-Word.word c.in-Word.is) c.requires.old in
    fit.1

pub map_absorbs-requires-clause-old : goal.map_absorbs-requires-clause-old
map_absorbs-requires-clause-old g c = subst (Fits g.S.To.Base.algebra c.args.ctx.now g.S.To.Base.CAP) (map_of_value g.S.Sides.old_word_of g.S.Sides.old_note_of c.args.x.now c.in-Map.map c.in-Map.m c.in-Map.is) c.requires.old

pub returns-in-Word : goal.returns-in-Word
returns-in-Word g c =
    c.word_absorbs.ensures
    ∙ ap (λ t. absorbs_of g.S.To.Base.algebra c.args.ctx.now t (mapped_value g.S.Sides.new_word_of g.S.Sides.new_note_of (abs c.args.y.now))) (sym (word_of g.S.Sides.old_word_of g.S.Sides.old_note_of c.args.x.now c.in-Word.w c.in-Word.word c.in-Word.is))

pub returns-in-Map : goal.returns-in-Map
returns-in-Map g c =
    c.map_absorbs.ensures
    ∙ ap (λ t. absorbs_of g.S.To.Base.algebra c.args.ctx.now t (mapped_value g.S.Sides.new_word_of g.S.Sides.new_note_of (abs c.args.y.now))) (sym (map_of_value g.S.Sides.old_word_of g.S.Sides.old_note_of c.args.x.now c.in-Map.map c.in-Map.m c.in-Map.is))

pub returns-in-Flag : goal.returns-in-Flag
returns-in-Flag g c = absurd (subst (λ t. IsLeaf t) (ap abs c.in-Flag.is ∙ abs_Flag _ _ _ _ c.in-Flag._t) c.requires.leaf)

pub returns-in-Data : goal.returns-in-Data
returns-in-Data g c = absurd (subst (λ t. IsLeaf t) (ap abs c.in-Data.is ∙ abs_Data c.in-Data._ty c.in-Data._cases) c.requires.leaf)
