use Rattle.std.proofs.Common.{◌≡◌, ◌∙◌, ap, subst, sym}
use Rattle.abstract_map.proofs.Whole.{if_ok}
use Rattle.abstract_value_laws.specs.Abs.{map, word}
use Rattle.domain_laws.specs.declared.field.Field.TheVariants.{Word, Map}
use Rattle.domain_laws.specs.Entries.{GivenFits}
use Rattle.domain_laws.specs.Entry.{entry_value, given, map_of, with_cells}
use Rattle.domain_laws.specs.Lines.{IsField, OfField}
use Rattle.domain_laws.proofs.Entries.{rest_fits, word_fits}
use Rattle.domain_laws.proofs.Lines.{keys_fit}
use Rattle.abstract_value.specs.View.{abs}
use Rattle.domain_cells.proofs.entry.entry_value.Goals as goal

pub word_value-requires-clause-width : goal.word_value-requires-clause-width
word_value-requires-clause-width g c = subst IsField c.in-Word.is c.requires.right

pub word_value-requires-clause-given : goal.word_value-requires-clause-given
word_value-requires-clause-given g c =
    let of : OfField c.args.number (Word c.in-Word.w) c.args.lines.now = subst (λ f. OfField c.args.number f c.args.lines.now) c.in-Word.is c.requires.lines in
    subst (GivenFits c.in-Word.w) (sym c.given_word.ensures) (word_fits c.args.lines.now c.args.number c.in-Word.w of)

pub map_value-requires-clause-width : goal.map_value-requires-clause-width
map_value-requires-clause-width g c =
    let m = c.in-Map in
    let fine : IsField (Map m.map m._keys m.width m.default) = subst IsField m.is c.requires.right in
    fine.0

pub map_value-requires-clause-rest : goal.map_value-requires-clause-rest
map_value-requires-clause-rest g c =
    let m = c.in-Map in
    let of : OfField c.args.number (Map m.map m._keys m.width m.default) c.args.lines.now = subst (λ f. OfField c.args.number f c.args.lines.now) m.is c.requires.lines in
    let fine : IsField (Map m.map m._keys m.width m.default) = subst IsField m.is c.requires.right in
    subst (GivenFits m.width) (sym c.given_rest-rest.ensures) (rest_fits c.args.lines.now c.args.number m.map m._keys m.width m.default fine of)

pub map_value-requires-clause-lines : goal.map_value-requires-clause-lines
map_value-requires-clause-lines g c =
    let m = c.in-Map in
    let of : OfField c.args.number (Map m.map m._keys m.width m.default) c.args.lines.now = subst (λ f. OfField c.args.number f c.args.lines.now) m.is c.requires.lines in
    let fine : IsField (Map m.map m._keys m.width m.default) = subst IsField m.is c.requires.right in
    keys_fit c.args.number m.map m._keys m.width m.default fine.2 c.args.lines.now of

pub returns-in-Word : goal.returns-in-Word
returns-in-Word g c =
    let b = g.B.Base.algebra in
    let ctx = c.args.ctx.now in
    let cap = g.B.Base.CAP in
    let w = c.in-Word.w in
    if_ok (λ r. abs r ≡ word w (given b ctx w c.given_word.result)) (λ r. abs r ≡ entry_value b ctx cap c.args.lines.now c.args.number c.args.field) c.word_value.result
    (λ r e. e ∙ ap (λ k. word w (given b ctx w k)) c.given_word.ensures ∙ ap (entry_value b ctx cap c.args.lines.now c.args.number) (sym c.in-Word.is)) c.word_value.ensures

pub returns-in-Map : goal.returns-in-Map
returns-in-Map g c =
    let b = g.B.Base.algebra in
    let ctx = c.args.ctx.now in
    let cap = g.B.Base.CAP in
    let m = c.in-Map in
    let lines = c.args.lines.now in
    let n = c.args.number in
    if_ok (λ r. abs r ≡ map m.map (with_cells b ctx cap n lines (map_of b ctx m.width c.given_rest-rest.result))) (λ r. abs r ≡ entry_value b ctx cap lines n c.args.field) c.map_value.result
    (λ r e. e ∙ ap (λ k. map m.map (with_cells b ctx cap n lines (map_of b ctx m.width k))) c.given_rest-rest.ensures ∙ ap (entry_value b ctx cap lines n) (sym m.is)) c.map_value.ensures
