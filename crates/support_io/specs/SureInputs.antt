-- How inputs in memory that do not fail stand.
use Rattle.std.specs.Prelude.{true, is_some}
use Rattle.support_io.specs.FileList.{is_held}
use Rattle.support_io.specs.InputState.{InputState}
use Rattle.support_io.specs.NamedFiles.{held_in, left_in, name_in, open_in}
use Rattle.support_io.specs.declared.sure_inputs.SureInputs.{SureInputs}

abbrev pub state_of : SureInputs → InputState
state_of inputs = record {
  tells = true;
  held = held_in inputs.files;
  is_open = is_some (open_in inputs.files);
  name = name_in inputs.files;
  left = left_in inputs.files;
  faults = inputs.faults;
  sure = is_held (held_in inputs.files);
  is_open_sure = true;
}
