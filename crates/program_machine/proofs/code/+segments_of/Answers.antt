use Rattle.std.proofs.Common.{[], ◌∷◌, ◌++◌, List, Ok, ap, map, subst, sym, rules}
use Rattle.support_command_line.specs.declared.code_word.CodePart.{CodePart}
use Rattle.support_command_line.specs.Views.{part_of}
use Rattle.code_image.specs.Views.{segment_of}
use Rattle.program_common.specs.Outcomes.{Gives, Stops}
use Rattle.program_common.specs.Reading.{Gave}
use Rattle.program_common.proofs.Readings.{gave_later, gave_still, reads_both, reads_one, reads_same, reads_still, reads_stopped}
use Rattle.program_common.proofs.Steps.{gives_next}
use Rattle.program_machine.specs.Code.{Joins, SegmentsOf, code_cap, part_inputs}
use Rattle.program_machine.proofs.Chains.{Rest, no_part, segments_wider}
use Rattle.program_machine.proofs.Parts.{first_of, front, others_of}
use Rattle.program_machine.proofs.Several.{parts_stop}
use Rattle.program_machine.proofs.code.+segments_of.Goals as goal

pub returns-in_err-bytes-in-len1-up-clause-gives : goal.returns-in_err-bytes-in-len1-up-clause-gives
returns-in_err-bytes-in-len1-up-clause-gives g t c =
    let halt = c.in_err-bytes-in-len1-up.field-0.0 in
    let stops = no_part (Gave (g.I.Inputs.state c.args.inputs.now) (g.I.Inputs.state c.read_input.new.inputs)) (part_of (first_of c.args.parts.now)) (map part_of (others_of c.args.parts.now))
    halt c.in_err-bytes-in-len1-up.ensures.gives in
    let all = subst (λ (parts : List CodePart). Stops (SegmentsOf (Gave (g.I.Inputs.state c.args.inputs.now) (g.I.Inputs.state c.read_input.new.inputs)) (map part_of parts)) halt)
    (sym (front c.args.parts.now c.in-len1-up.len_at_least)) stops in
    search (rules, all)

pub returns-in_err-segments-in-len1-up-clause-gives : goal.returns-in_err-segments-in-len1-up-clause-gives
returns-in_err-segments-in-len1-up-clause-gives g t c =
    let halt = c.in_err-segments-in-len1-up.field-0.0 in
    let stops = parts_stop (g.I.Inputs.state c.args.inputs.now) (g.I.Inputs.state c.read_input.new.inputs) (g.I.Inputs.state c.segments_of.new.inputs) c.read_input.ensures.kept
    c.in_ok-bytes-in-len1-up.ensures.no_other_fault (part_of (first_of c.args.parts.now)) (map part_of (others_of c.args.parts.now)) c.in_ok-bytes-in-len1-up.bytes.items halt
    c.in_ok-bytes-in-len1-up.ensures.gives c.in_err-segments-in-len1-up.ensures.gives in
    let all = subst (λ (parts : List CodePart). Stops (SegmentsOf (Gave (g.I.Inputs.state c.args.inputs.now) (g.I.Inputs.state c.segments_of.new.inputs)) (map part_of parts)) halt)
    (sym (front c.args.parts.now c.in-len1-up.len_at_least)) stops in
    search (rules, all)

pub returns-in_err-segments-in-len1-up-clause-reads : goal.returns-in_err-segments-in-len1-up-clause-reads
returns-in_err-segments-in-len1-up-clause-reads g t c =
    let first = ((first_of c.args.parts.now).name.now, code_cap) ∷ [] in
    let others = part_inputs (map part_of (others_of c.args.parts.now)) in
    let same = ap (λ (parts : List CodePart). part_inputs (map part_of parts)) (sym (front c.args.parts.now c.in-len1-up.len_at_least)) in
    let read = reads_one g.I.Inputs.state first c.args.inputs.now c.read_input.new.inputs (Ok c.in_ok-bytes-in-len1-up.bytes) c.read_input.ensures.kept c.in_ok-bytes-in-len1-up.ensures.no_other_fault c.read_input.ensures.taken in
    reads_stopped g.I.Inputs.state (part_inputs (map part_of c.args.parts.now)) c.args.inputs.now c.segments_of.new.inputs c.in_err-segments-in-len1-up.field-0.0 _ c.from_residual-in_err-segments-in-len1-up.ensures
    (reads_same g.I.Inputs.state (first ++ others) (part_inputs (map part_of c.args.parts.now)) c.args.inputs.now c.segments_of.new.inputs _ same
    (reads_both g.I.Inputs.state first others c.args.inputs.now c.read_input.new.inputs c.segments_of.new.inputs c.in_ok-bytes-in-len1-up.bytes _ read c.in_err-segments-in-len1-up.ensures.reads))

pub returns-in_ok-segments-in-len1-up-clause-gives : goal.returns-in_ok-segments-in-len1-up-clause-gives
returns-in_ok-segments-in-len1-up-clause-gives g t c =
    let old = g.I.Inputs.state c.args.inputs.now in
    let mid = g.I.Inputs.state c.read_input.new.inputs in
    let new = g.I.Inputs.state c.segments_of.new.inputs in
    let part = part_of (first_of c.args.parts.now) in
    let parts = map part_of (others_of c.args.parts.now) in
    let segments = map segment_of c.in_ok-segments-in-len1-up.segments.items in
    let bytes = c.in_ok-bytes-in-len1-up.bytes.items in
    let rest = segments_wider (Gave mid new) (Gave old new) (gave_later old mid new c.read_input.ensures.kept c.in_ok-bytes-in-len1-up.ensures.no_other_fault) parts (Ok segments)
    c.in_ok-segments-in-len1-up.ensures.gives in
    let behind = gives_next (SegmentsOf (Gave old new) parts) (Joins part.base bytes) (λ all. map segment_of all.items) segments c.with_segment.result rest c.with_segment.ensures.joins in
    let all = gives_next (Gave old new code_cap part.name) (Rest (Gave old new) part parts) (λ all. map segment_of all.items) bytes c.with_segment.result
    (gave_still old mid new code_cap part.name bytes c.in_ok-bytes-in-len1-up.ensures.gives) behind in
    subst (λ (parts : List CodePart). Gives (SegmentsOf (Gave old new) (map part_of parts)) (λ all. map segment_of all.items) c.with_segment.result)
    (sym (front c.args.parts.now c.in-len1-up.len_at_least)) all

pub returns-in_ok-segments-in-len1-up-clause-reads : goal.returns-in_ok-segments-in-len1-up-clause-reads
returns-in_ok-segments-in-len1-up-clause-reads g t c =
    let first = ((first_of c.args.parts.now).name.now, code_cap) ∷ [] in
    let others = part_inputs (map part_of (others_of c.args.parts.now)) in
    let same = ap (λ (parts : List CodePart). part_inputs (map part_of parts)) (sym (front c.args.parts.now c.in-len1-up.len_at_least)) in
    let read = reads_one g.I.Inputs.state first c.args.inputs.now c.read_input.new.inputs (Ok c.in_ok-bytes-in-len1-up.bytes) c.read_input.ensures.kept c.in_ok-bytes-in-len1-up.ensures.no_other_fault c.read_input.ensures.taken in
    let all = reads_same g.I.Inputs.state (first ++ others) (part_inputs (map part_of c.args.parts.now)) c.args.inputs.now c.segments_of.new.inputs (Ok c.in_ok-segments-in-len1-up.segments) same
    (reads_both g.I.Inputs.state first others c.args.inputs.now c.read_input.new.inputs c.segments_of.new.inputs c.in_ok-bytes-in-len1-up.bytes (Ok c.in_ok-segments-in-len1-up.segments) read c.in_ok-segments-in-len1-up.ensures.reads) in
    reads_still g.I.Inputs.state (part_inputs (map part_of c.args.parts.now)) c.args.inputs.now c.segments_of.new.inputs c.in_ok-segments-in-len1-up.segments c.with_segment.result all
