-- How inputs in memory stand.
use Rattle.std.specs.Prelude.{true, ◌==◌, is_some, length}
use Rattle.support_io.specs.FailingCalls.{sure_names}
use Rattle.support_io.specs.InputState.{InputState}
use Rattle.support_io.specs.NamedFiles.{held_in, left_in, name_in, open_in}
use Rattle.support_io.specs.declared.failing_calls.FailingCalls.{FailingCalls}
use Rattle.support_io.specs.declared.mem_inputs.MemInputs.{MemInputs}
use Rattle.support_io.specs.declared.named_files.NamedFiles.{NamedFiles}

-- the files, and how far the open one is read
abbrev pub files_of : MemInputs → NamedFiles
files_of inputs = inputs.files

-- the calls that are to fail, and the number of the next call
abbrev pub calls_of : MemInputs → FailingCalls
calls_of inputs = inputs.calls

abbrev pub state_of : MemInputs → InputState
state_of inputs = record {
  tells = true;
  held = held_in inputs.files;
  is_open = is_some (open_in inputs.files);
  name = name_in inputs.files;
  left = left_in inputs.files;
  faults = inputs.faults;
  sure = sure_names inputs.calls (held_in inputs.files);
  is_open_sure = length inputs.calls.fail.items == 0;
}
