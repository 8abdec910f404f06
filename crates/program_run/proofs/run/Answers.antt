use Rattle.std.proofs.Common.{◌∙◌, List, ℕ, refl, subst}
use Rattle.support_io.specs.SinkState.{Appends, AppendsFront}
use Rattle.program_common.specs.Outcomes.{outcome_of}
use Rattle.program_run.specs.Output.{cut, written}
use Rattle.program_run.proofs.Ending.{by_answered}
use Rattle.program_run.proofs.Giving.{no_room}
use Rattle.program_run.proofs.run.Goals as goal

pub returns-in-Ok-write_whole-clause-ends : goal.returns-in-Ok-write_whole-clause-ends
returns-in-Ok-write_whole-clause-ends g c =
    let line = c.deref.ensures.value ∙ c.in-Ok-line.ensures in
    written (outcome_of c.in-Ok.outcome) c.in-Ok.ensures.comes c.status-status.ensures
    (subst (λ (bytes : List ℕ). Appends (g.S.Sink.state c.args.sink.now) (g.S.Sink.state c.write_whole.new.sink) bytes) line c.in-Ok-write_whole.ensures.ok)

pub returns-in-Ok-write_whole-clause-answered : goal.returns-in-Ok-write_whole-clause-answered
returns-in-Ok-write_whole-clause-answered g c told answer =
    by_answered _ _ _ _ _ _ told answer (returns-in-Ok-write_whole-clause-ends g c)

pub returns-clause-ends : goal.returns-clause-ends
returns-clause-ends g c =
    let line = c.deref.ensures.value ∙ c.in-Ok-line.ensures in
    cut (outcome_of c.in-Ok.outcome) c.in-Ok.ensures.comes refl (no_room _ _ _ c.in-Err.field-0 c.in-Err.ensures.room_suffices line)
    (subst (λ (bytes : List ℕ). AppendsFront (g.S.Sink.state c.args.sink.now) (g.S.Sink.state c.write_whole.new.sink) bytes) line c.in-Err.ensures.front)
