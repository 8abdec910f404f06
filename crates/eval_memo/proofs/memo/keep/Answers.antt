use Rattle.std.proofs.Common.{◌∙◌, map, ap, sym, inl, inr, rules, subst}
use Rattle.std.specs.Prelude.{IsNone, IsSome}
use Rattle.eval_memo.specs.Memos.{Stands, gave, remembered}
use Rattle.eval_memo.proofs.Looking.{again, again_holds, again_new, kept_new, values_tell}
use Rattle.eval_memo.proofs.Memoing.{stands_more}
use Rattle.eval_memo.proofs.memo.keep.Goals as goal

pub returns-then-is_none-clause-memo : goal.returns-then-is_none-clause-memo
returns-then-is_none-clause-memo g c =
    let none : IsNone c.in_ok-insert.field-0 = search rules in
    let tells = values_tell g.B.Word.PartialEq.eq g.B.Note.PartialEq.eq g.met.B.Word.Eq.laws.refl g.met.B.Note.Eq.laws.refl g.met.B.Base.same_words g.met.B.Base.same_notes in
    let es = c.args.memo.now.calls.entries in
    let new = again_new _ tells c.args.call c.in_ok-insert.field-0 es c.in_ok-insert.ensures.old none in
    let more = stands_more (g.K.Known.calls c.args.setting.now.ctx.now) g.K.Counted.before g.K.Counted.ticked (map remembered es) c.args.steps.now (gave c.args.call.function c.args.call.args.items c.args.outcome) c.requires.memo new c.requires.value in
    let is = ap (map remembered) c.in_ok-insert.ensures.entries ∙ kept_new _ tells c.args.call c.args.outcome c.in_ok-insert.field-0 es c.in_ok-insert.ensures.old none in
    rw (c.tick.ensures, is) more

pub returns-then-is_none-clause-kept : goal.returns-then-is_none-clause-kept
returns-then-is_none-clause-kept g c =
    let none : IsNone c.in_ok-insert.field-0 = search rules in
    let tells = values_tell g.B.Word.PartialEq.eq g.B.Note.PartialEq.eq g.met.B.Word.Eq.laws.refl g.met.B.Note.Eq.laws.refl g.met.B.Base.same_words g.met.B.Base.same_notes in
    let es = c.args.memo.now.calls.entries in
    inl (again_new _ tells c.args.call c.in_ok-insert.field-0 es c.in_ok-insert.ensures.old none, ap (map remembered) c.in_ok-insert.ensures.entries ∙ kept_new _ tells c.args.call c.args.outcome c.in_ok-insert.field-0 es c.in_ok-insert.ensures.old none)

pub returns-else-is_none-clause-memo : goal.returns-else-is_none-clause-memo
returns-else-is_none-clause-memo g c =
    let some : IsSome c.in_ok-insert.field-0 = search rules in
    let tells = values_tell g.B.Word.PartialEq.eq g.B.Note.PartialEq.eq g.met.B.Word.Eq.laws.refl g.met.B.Note.Eq.laws.refl g.met.B.Base.same_words g.met.B.Base.same_notes in
    let calls = g.K.Known.calls c.args.setting.now.ctx.now in
    let es = c.args.memo.now.calls.entries in
    let is = ap (map remembered) c.in_ok-insert.ensures.entries ∙ again _ tells calls c.args.call c.args.outcome c.in_ok-insert.field-0 es c.requires.memo.true_of c.requires.value c.in_ok-insert.ensures.old some in
    subst (λ now. Stands calls g.K.Counted.before g.K.Counted.ticked now c.args.steps.now) (sym is) c.requires.memo

pub returns-else-is_none-clause-kept : goal.returns-else-is_none-clause-kept
returns-else-is_none-clause-kept g c =
    let some : IsSome c.in_ok-insert.field-0 = search rules in
    let tells = values_tell g.B.Word.PartialEq.eq g.B.Note.PartialEq.eq g.met.B.Word.Eq.laws.refl g.met.B.Note.Eq.laws.refl g.met.B.Base.same_words g.met.B.Base.same_notes in
    let calls = g.K.Known.calls c.args.setting.now.ctx.now in
    let es = c.args.memo.now.calls.entries in
    inr (again_holds _ tells c.args.call c.in_ok-insert.field-0 es c.in_ok-insert.ensures.old some, ap (map remembered) c.in_ok-insert.ensures.entries ∙ again _ tells calls c.args.call c.args.outcome c.in_ok-insert.field-0 es c.requires.memo.true_of c.requires.value c.in_ok-insert.ensures.old some)
