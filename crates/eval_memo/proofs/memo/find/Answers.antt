use Rattle.eval_memo.proofs.Looking.{answer_holds, answer_new, answer_tells, values_tell}
use Rattle.eval_memo.proofs.memo.find.Goals as goal

pub returns-clause-there : goal.returns-clause-there
returns-clause-there g c =
    let tells = values_tell g.B.Word.PartialEq.eq g.B.Note.PartialEq.eq g.met.B.Word.Eq.laws.refl g.met.B.Note.Eq.laws.refl g.met.B.Base.same_words g.met.B.Base.same_notes in
    answer_tells _ tells c.args.function c.args.args.now c.args.memo.now.calls.entries c.get.result c.get.ensures.value

pub returns-clause-held : goal.returns-clause-held
returns-clause-held g c =
    let tells = values_tell g.B.Word.PartialEq.eq g.B.Note.PartialEq.eq g.met.B.Word.Eq.laws.refl g.met.B.Note.Eq.laws.refl g.met.B.Base.same_words g.met.B.Base.same_notes in
    answer_holds _ tells c.args.function c.args.args.now c.args.memo.now.calls.entries c.get.result c.get.ensures.value

pub returns-clause-new : goal.returns-clause-new
returns-clause-new g c =
    let tells = values_tell g.B.Word.PartialEq.eq g.B.Note.PartialEq.eq g.met.B.Word.Eq.laws.refl g.met.B.Note.Eq.laws.refl g.met.B.Base.same_words g.met.B.Base.same_notes in
    answer_new _ tells c.args.function c.args.args.now c.args.memo.now.calls.entries c.get.result c.get.ensures.value
