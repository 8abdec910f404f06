use Rattle.std.proofs.Common.{List, Ok, map, subst, rules}
use Rattle.support_command_line.specs.declared.code_word.CodePart.{CodePart}
use Rattle.support_command_line.specs.Views.{part_of}
use Rattle.code_image.specs.declared.order.Order.{Order}
use Rattle.code_image.specs.declared.segment.Segment.{Segment}
use Rattle.code_image.specs.Views.{segment_of}
use Rattle.program_common.specs.Outcomes.{Gives, Stops}
use Rattle.program_common.specs.Reading.{Gave}
use Rattle.program_common.proofs.Steps.{first_stops, gives_next}
use Rattle.program_machine.specs.Code.{Images, SegmentsOf, order_of}
use Rattle.program_machine.proofs.code.image_of.Goals as goal

pub returns-in_err-segments-clause-gives : goal.returns-in_err-segments-clause-gives
returns-in_err-segments-clause-gives g c =
    let stops = subst (λ (parts : List CodePart). Stops (SegmentsOf (Gave (g.I.Inputs.state c.args.inputs.now) (g.I.Inputs.state c.segments_of.new.inputs)) (map part_of parts)) c.in_err-segments.field-0.0)
    c.deref.ensures.value c.in_err-segments.ensures.gives in
    let gives = first_stops (SegmentsOf (Gave (g.I.Inputs.state c.args.inputs.now) (g.I.Inputs.state c.segments_of.new.inputs)) (map part_of c.args.code.now.parts.items)) (Images (order_of c.args.code.now.order))
    c.in_err-segments.field-0.0 stops in
    search (rules, gives)

pub returns-clause-gives : goal.returns-clause-gives
returns-clause-gives g c =
    let images = subst (λ (segments : List Segment). Gives (Images c.order_of.result (map segment_of segments)) (λ image. image) c.image_of_segments.result) c.deref-2.ensures.value c.image_of_segments.ensures in
    let ordered = subst (λ (order : Order). Gives (Images order (map segment_of c.in_ok-segments.segments.items)) (λ image. image) c.image_of_segments.result) c.order_of.ensures images in
    gives_next (SegmentsOf (Gave (g.I.Inputs.state c.args.inputs.now) (g.I.Inputs.state c.segments_of.new.inputs)) (map part_of c.args.code.now.parts.items)) (Images (order_of c.args.code.now.order)) (λ image. image)
    (map segment_of c.in_ok-segments.segments.items) c.image_of_segments.result
    (subst (λ (parts : List CodePart). SegmentsOf (Gave (g.I.Inputs.state c.args.inputs.now) (g.I.Inputs.state c.segments_of.new.inputs)) (map part_of parts) (Ok (map segment_of c.in_ok-segments.segments.items)))
    c.deref.ensures.value c.in_ok-segments.ensures.gives) ordered
