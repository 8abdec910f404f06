use Rattle.std.proofs.Common.{◌≡◌, ◌∙◌, ℕ, Bor, List, ap, subst, rules}
use Rattle.spec_ir.specs.declared.spec.SpecUse.TheVariants.{Library}
use Rattle.spec_ir.specs.Views.{specification}
use Rattle.support_command_line.specs.Views.{borrowed, call_of}
use Rattle.concrete_function_calls.specs.Calls.{call_end}
use Rattle.concrete_function_calls.specs.Ends.{end_of}
use Rattle.program_common.specs.Outcomes.{Stops, answer_of}
use Rattle.program_common.specs.Reading.{Gave}
use Rattle.program_common.specs.Sources.{IsSpecification, Specifies, source_inputs}
use Rattle.program_common.proofs.Readings.{reads_still, reads_stopped}
use Rattle.program_common.proofs.Steps.{gives_too}
use Rattle.program_run.specs.Steps.{CallSteps, answered}
use Rattle.program_run.proofs.Chain.{called, no_source, no_specification}
use Rattle.program_run.proofs.Giving.{is_accepted}
use Rattle.program_run.proofs.answer.answer_call.Goals as goal

pub returns-in_err-source-clause-gives : goal.returns-in_err-source-clause-gives
returns-in_err-source-clause-gives g c =
    let gives = no_source (Gave (g.I.Inputs.state c.args.inputs.now) (g.I.Inputs.state c.source_of.new.inputs)) (call_of c.args.request.now) c.in_err-source.field-0.0
    c.in_err-source.ensures.gives in
    search (rules, gives)

pub returns-in_err-spec-clause-gives : goal.returns-in_err-spec-clause-gives
returns-in_err-spec-clause-gives g c =
    let stops = subst (λ (s : List ℕ). Stops (Specifies Library s) c.in_err-spec.field-0.0) c.deref.ensures.value c.in_err-spec.ensures in
    let gives = no_specification (Gave (g.I.Inputs.state c.args.inputs.now) (g.I.Inputs.state c.source_of.new.inputs)) (call_of c.args.request.now) c.in_err-spec.field-0.0
    c.in_ok-source.source.items c.in_ok-source.ensures.gives stops in
    search (rules, gives)

pub returns-clause-gives : goal.returns-clause-gives
returns-clause-gives g c =
    let reads = Gave (g.I.Inputs.state c.args.inputs.now) (g.I.Inputs.state c.source_of.new.inputs) in
    let request = call_of c.args.request.now in
    let spec = specification c.in_ok-spec.spec in
    let specified = subst (λ (s : List ℕ). IsSpecification Library s spec) c.deref.ensures.value c.in_ok-spec.ensures in
    let ends = c.in_ok-end.ensures ∙ ap (λ (numbers : List (Bor (List ℕ))). call_end spec request.calls request.fun (borrowed numbers)) c.deref-2.ensures.value in
    gives_too (λ outcome. outcome ≡ answered (end_of c.in_ok-end.end)) (CallSteps reads request) answer_of c.answer_of_end.result
    (λ outcome is. called reads request c.in_ok-source.source.items c.in_ok-source.ensures.gives spec specified outcome (is ∙ ap answered ends)) c.answer_of_end.ensures

pub call_by_words-requires : goal.call_by_words-requires
call_by_words-requires g c =
    let spec = specification c.in_ok-spec.spec in
    let specified = subst (λ (s : List ℕ). IsSpecification Library s spec) c.deref.ensures.value c.in_ok-spec.ensures in
    is_accepted Library c.in_ok-source.source.items spec specified

pub returns-in_err-source-clause-reads : goal.returns-in_err-source-clause-reads
returns-in_err-source-clause-reads g c =
    reads_stopped g.I.Inputs.state (source_inputs (call_of c.args.request.now).spec) c.args.inputs.now c.source_of.new.inputs c.in_err-source.field-0.0 _ c.from_residual.ensures c.in_err-source.ensures.reads

pub returns-in_err-spec-clause-reads : goal.returns-in_err-spec-clause-reads
returns-in_err-spec-clause-reads g c =
    reads_still g.I.Inputs.state (source_inputs (call_of c.args.request.now).spec) c.args.inputs.now c.source_of.new.inputs c.in_ok-source.source _ c.in_ok-source.ensures.reads

pub returns-in_err-end-clause-reads : goal.returns-in_err-end-clause-reads
returns-in_err-end-clause-reads g c =
    reads_still g.I.Inputs.state (source_inputs (call_of c.args.request.now).spec) c.args.inputs.now c.source_of.new.inputs c.in_ok-source.source _ c.in_ok-source.ensures.reads

pub returns-clause-reads : goal.returns-clause-reads
returns-clause-reads g c =
    reads_still g.I.Inputs.state (source_inputs (call_of c.args.request.now).spec) c.args.inputs.now c.source_of.new.inputs c.in_ok-source.source c.answer_of_end.result c.in_ok-source.ensures.reads
