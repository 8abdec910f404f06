use Rattle.std.proofs.Common.{subst, sym}
use Rattle.support_command_line.specs.Bases.{base_text}
use Rattle.spec_ir.specs.Views.{specification}
use Rattle.program_domain_tasks.specs.Own.{OwnWork}
use Rattle.program_domain_tasks.specs.Read.{task_of}
use Rattle.program_base_tasks.proofs.over.do_task.Goals as goal

pub returns-in-Check-clause-work : goal.returns-in-Check-clause-work
returns-in-Check-clause-work g c =
    let s = c.args.it.now in
    subst (λ task. OwnWork (record { base = g.D.B.Base.algebra; cap = g.D.B.Base.CAP; elements = g.D.Domain.elements c.args.domain.now; meaning = g.D.Domain.meaning c.args.domain.now; pieces = g.D.Domain.pieces c.args.domain.now; view = g.D.Domain.view; IsText = g.D.WriteElement.IsText; Reads = g.D.ReadElement.Reads c.args.domain.now; word_in = g.D.ReadElement.word_in c.args.domain.now; word_text = g.D.WriteElement.word_text }) s.image.now (base_text c.args.base) (task_of (specification s.spec.now) s.image.now task) c.args.steps.now c.check_in_domain.new.steps) (sym c.in-Check.is) c.check_in_domain.ensures.work

pub returns-in-Slice-clause-work : goal.returns-in-Slice-clause-work
returns-in-Slice-clause-work g c =
    let s = c.args.it.now in
    subst (λ task. OwnWork (record { base = g.D.B.Base.algebra; cap = g.D.B.Base.CAP; elements = g.D.Domain.elements c.args.domain.now; meaning = g.D.Domain.meaning c.args.domain.now; pieces = g.D.Domain.pieces c.args.domain.now; view = g.D.Domain.view; IsText = g.D.WriteElement.IsText; Reads = g.D.ReadElement.Reads c.args.domain.now; word_in = g.D.ReadElement.word_in c.args.domain.now; word_text = g.D.WriteElement.word_text }) s.image.now (base_text c.args.base) (task_of (specification s.spec.now) s.image.now task) c.args.steps.now c.slice_in_domain.new.steps) (sym c.in-Slice.is) c.slice_in_domain.ensures.work

pub returns-in-Claims-clause-work : goal.returns-in-Claims-clause-work
returns-in-Claims-clause-work g c =
    let s = c.args.it.now in
    subst (λ task. OwnWork (record { base = g.D.B.Base.algebra; cap = g.D.B.Base.CAP; elements = g.D.Domain.elements c.args.domain.now; meaning = g.D.Domain.meaning c.args.domain.now; pieces = g.D.Domain.pieces c.args.domain.now; view = g.D.Domain.view; IsText = g.D.WriteElement.IsText; Reads = g.D.ReadElement.Reads c.args.domain.now; word_in = g.D.ReadElement.word_in c.args.domain.now; word_text = g.D.WriteElement.word_text }) s.image.now (base_text c.args.base) (task_of (specification s.spec.now) s.image.now task) c.args.steps.now c.claims_in_domain.new.steps) (sym c.in-Claims.is) c.claims_in_domain.ensures.work

pub returns-in-CheckOpen-clause-work : goal.returns-in-CheckOpen-clause-work
returns-in-CheckOpen-clause-work g c =
    let s = c.args.it.now in
    subst (λ task. OwnWork (record { base = g.D.B.Base.algebra; cap = g.D.B.Base.CAP; elements = g.D.Domain.elements c.args.domain.now; meaning = g.D.Domain.meaning c.args.domain.now; pieces = g.D.Domain.pieces c.args.domain.now; view = g.D.Domain.view; IsText = g.D.WriteElement.IsText; Reads = g.D.ReadElement.Reads c.args.domain.now; word_in = g.D.ReadElement.word_in c.args.domain.now; word_text = g.D.WriteElement.word_text }) s.image.now (base_text c.args.base) (task_of (specification s.spec.now) s.image.now task) c.args.steps.now c.check_open_in_domain.new.steps) (sym c.in-CheckOpen.is) c.check_open_in_domain.ensures.work

pub returns-in-SliceOpen-clause-work : goal.returns-in-SliceOpen-clause-work
returns-in-SliceOpen-clause-work g c =
    let s = c.args.it.now in
    subst (λ task. OwnWork (record { base = g.D.B.Base.algebra; cap = g.D.B.Base.CAP; elements = g.D.Domain.elements c.args.domain.now; meaning = g.D.Domain.meaning c.args.domain.now; pieces = g.D.Domain.pieces c.args.domain.now; view = g.D.Domain.view; IsText = g.D.WriteElement.IsText; Reads = g.D.ReadElement.Reads c.args.domain.now; word_in = g.D.ReadElement.word_in c.args.domain.now; word_text = g.D.WriteElement.word_text }) s.image.now (base_text c.args.base) (task_of (specification s.spec.now) s.image.now task) c.args.steps.now c.slice_open_in_domain.new.steps) (sym c.in-SliceOpen.is) c.slice_open_in_domain.ensures.work

pub returns-in-ClaimsOpen-clause-work : goal.returns-in-ClaimsOpen-clause-work
returns-in-ClaimsOpen-clause-work g c =
    let s = c.args.it.now in
    subst (λ task. OwnWork (record { base = g.D.B.Base.algebra; cap = g.D.B.Base.CAP; elements = g.D.Domain.elements c.args.domain.now; meaning = g.D.Domain.meaning c.args.domain.now; pieces = g.D.Domain.pieces c.args.domain.now; view = g.D.Domain.view; IsText = g.D.WriteElement.IsText; Reads = g.D.ReadElement.Reads c.args.domain.now; word_in = g.D.ReadElement.word_in c.args.domain.now; word_text = g.D.WriteElement.word_text }) s.image.now (base_text c.args.base) (task_of (specification s.spec.now) s.image.now task) c.args.steps.now c.claims_open_in_domain.new.steps) (sym c.in-ClaimsOpen.is) c.claims_open_in_domain.ensures.work
