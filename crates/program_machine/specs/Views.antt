-- What is read, as definitions see it.
use Rattle.spec_ir.specs.Views.{specification}
use Rattle.state_text.specs.Reading.{entry_of}
use Rattle.program_machine.specs.Inputs.{CodeInputs, AnalysisInputs, SliceInputs}
use Rattle.program_machine.specs.declared.code_inputs.CodeInputs as code-coded
use Rattle.program_machine.specs.declared.analysis_inputs.AnalysisInputs as code-posed
use Rattle.program_machine.specs.declared.slice_inputs.SliceInputs as code-sought

abbrev pub code_inputs_of : code-coded.CodeInputs → CodeInputs
code_inputs_of c = record { spec = specification c.spec; image = c.image }

abbrev pub analysis_inputs_of : code-posed.AnalysisInputs → AnalysisInputs
analysis_inputs_of p = record { spec = specification p.spec; image = p.image; entry = entry_of p.entry }

abbrev pub slice_inputs_of : code-sought.SliceInputs → SliceInputs
slice_inputs_of s = record { posed = analysis_inputs_of s.posed; asked = s.asked }
