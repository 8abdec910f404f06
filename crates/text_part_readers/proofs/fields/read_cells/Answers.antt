use Rattle.std.proofs.Common.{◌≡◌, List, true, map, ap, sym, subst, ◌∙◌}
use Rattle.std.specs.List.{list_all}
use Rattle.semantics_values.specs.Types.{environment_of}
use Rattle.domain_laws.specs.States.{fields_of, is_field}
use Rattle.spec_ir.specs.Views.{specification}
use Rattle.abstract_value_laws.specs.Abs.{parts}
use Rattle.abstract_value.specs.View.{abs}
use Rattle.state_cell_text.specs.Places.{Field}
use Rattle.text_part_readers.specs.Cells.{behind_counter}
use Rattle.text_part_readers.proofs.Fitting.{states_done, states_right}
use Rattle.text_part_readers.proofs.fields.read_cells.Goals as goal

pub read_fields-requires : goal.read_fields-requires
read_fields-requires g c =
    let spec = specification c.args.spec.now in
    record {
      right =
          subst (λ (fields : List Field). list_all is_field (fields_of (environment_of spec) (map (λ f. f.1) fields)) ≡ true)
          (sym (c.behind_counter-fields.ensures ∙ ap behind_counter c.state_fields.ensures)) (states_right spec c.requires.states);
    }

pub returns : goal.returns
returns g c =
    let both =
    states_done g.B.Base.algebra c.args.ctx.now g.B.BaseText.texts g.B.CellBase.readings g.met.B.CellBase.tell _ (specification c.args.spec.now) g.B.Base.CAP c.read_fields.result (λ xs. parts (map abs xs.items)) c.behind_counter-fields.result.now
    c.args.lines.now c.read_fields.new.lines (c.behind_counter-fields.ensures ∙ ap behind_counter c.state_fields.ensures) c.requires.states c.read_fields.ensures in
    record { value = both.0; fits = both.1 }
