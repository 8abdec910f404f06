use Rattle.std.proofs.Common.{◌∙◌, ◌==◌, [], map, sym, ap}
use Rattle.std.specs.List.{list_any}
use Rattle.syntax_parser.specs.declared.tree.FieldDecl.{FieldDecl}
use Rattle.spec_declarations.specs.Declarations.{type_in}
use Rattle.spec_declarations.specs.MachineRules.{are_state_fields}
use Rattle.spec_declarations.proofs.Fields.{data_stops, fields_done, flag_stops, map_again, map_next, word_next}
use Rattle.spec_declarations.proofs.state_machine.are_state_fields.Goals as goal
use Rattle.spec_declarations.proofs.state_machine.are_state_fields.Goals.{in-Word, in-Map+else-has+in_ok-push-in-Map}

pub loop-f-init : goal.loop-f-init
loop-f-init c = ap (λ m. are_state_fields m (map (λ (f : FieldDecl). type_in c.args.names.now f.ty) c.args.fields.now)) (sym c.new-maps.ensures.items)

pub loop-f-preserved : goal.loop-f-preserved
loop-f-preserved c =
    let ty = λ (f : FieldDecl). type_in c.args.names.now f.ty in
    let fs = c.args.fields.now in
    let maps = c.loop-f.maps.items in
    let all = are_state_fields [] (map ty fs) in
    elim c.match-type_in.branch [
      | in-Word w ↦ word_next ty fs c.loop-f.f-index maps all c.loop-f.invariant c.f-item.result c.loop-f-test.true c.f-item.is c.type_in.result c.type_in.ensures w.in-Word.field-0 c.match-type_in.maps.items w.in-Word.is (ap (λ v. v.items) w.maps-is)
      | in-Map+else-has+in_ok-push-in-Map w ↦ map_next ty fs c.loop-f.f-index maps all c.loop-f.invariant c.f-item.result c.loop-f-test.true c.f-item.is c.type_in.result c.type_in.ensures w.in-Map.m c.match-type_in.maps.items w.in-Map.is
          (sym w.if-has.false ∙ w.has.ensures ∙ ap (list_any (λ k. k == w.in-Map.m)) w.deref.ensures.value) (ap (λ v. v.items) w.maps-is ∙ w.in_ok-push-in-Map.ensures.items)
    ]

pub returns-then-has : goal.returns-then-has
returns-then-has c =
    let ty = λ (f : FieldDecl). type_in c.args.names.now f.ty in
    map_again ty c.args.fields.now c.loop-f.f-index c.loop-f.maps.items (are_state_fields [] (map ty c.args.fields.now)) c.loop-f.invariant c.f-item.result c.loop-f-test.true c.f-item.is c.type_in.result c.type_in.ensures c.in-Map.m c.in-Map.is
    (sym c.if-has.true ∙ c.has.ensures ∙ ap (list_any (λ k. k == c.in-Map.m)) c.deref.ensures.value)

pub returns-in-Bool : goal.returns-in-Bool
returns-in-Bool c =
    let ty = λ (f : FieldDecl). type_in c.args.names.now f.ty in
    flag_stops ty c.args.fields.now c.loop-f.f-index c.loop-f.maps.items (are_state_fields [] (map ty c.args.fields.now)) c.loop-f.invariant c.f-item.result c.loop-f-test.true c.f-item.is c.type_in.result c.type_in.ensures c.in-Bool.is

pub returns-in-Data : goal.returns-in-Data
returns-in-Data c =
    let ty = λ (f : FieldDecl). type_in c.args.names.now f.ty in
    data_stops ty c.args.fields.now c.loop-f.f-index c.loop-f.maps.items (are_state_fields [] (map ty c.args.fields.now)) c.loop-f.invariant c.f-item.result c.loop-f-test.true c.f-item.is c.type_in.result c.type_in.ensures c.in-Data.field-0 c.in-Data.is

pub returns : goal.returns
returns c =
    let ty = λ (f : FieldDecl). type_in c.args.names.now f.ty in
    fields_done ty c.args.fields.now c.loop-f.f-index c.loop-f.maps.items (are_state_fields [] (map ty c.args.fields.now)) c.loop-f.invariant c.loop-f-test.false
