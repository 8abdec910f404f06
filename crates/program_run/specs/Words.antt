-- What the words ask for of this program, and the inputs that they name.
use Rattle.std.specs.Prelude.{ℕ, Bool, true, false, not, List, [], map, Option, Some, None}
use Rattle.support_command_line.specs.Requests.{Request, call, emulate, analyse, check, convert, list, slice, claims, stress}
use Rattle.support_command_line.specs.Words.{asked}
use Rattle.program_domains.specs.Named.{has_relations}
use Rattle.program_common.specs.declared.status.Status.{Status}
use Rattle.program_common.specs.declared.status.Status.TheVariants as s
use Rattle.program_common.specs.Reading.{Capped}
use Rattle.program_common.specs.Sources.{source_inputs}
use Rattle.program_machine.specs.Steps.{emulate_inputs, list_inputs}
use Rattle.program_analyses.specs.Steps.{analyse_inputs, check_inputs, claims_inputs, convert_inputs, slice_inputs}

-- the inputs of what is asked for, and how many bytes each may have
abbrev pub capped_in : Option Request → List Capped
capped_in None = []
capped_in (Some (call request)) = source_inputs request.spec
capped_in (Some (emulate request)) = emulate_inputs request
capped_in (Some (analyse request)) = analyse_inputs request
capped_in (Some (check request)) = check_inputs request
capped_in (Some (convert request)) = convert_inputs request
capped_in (Some (list request)) = list_inputs request
capped_in (Some (slice request)) = slice_inputs request
capped_in (Some (claims request)) = claims_inputs request
capped_in (Some (stress request)) = []

-- their names
abbrev pub names_of : List Capped → List (List ℕ)
names_of inputs = map (λ input. input.0) inputs

abbrev pub names_in : Option Request → List (List ℕ)
names_in what = names_of (capped_in what)

abbrev pub capped_inputs : List (List ℕ) → List Capped
capped_inputs words = capped_in (asked words)

abbrev pub input_names : List (List ℕ) → List (List ℕ)
input_names words = names_in (asked words)

-- code is read or made for it
abbrev pub has_code : Option Request → Bool
has_code None = false
has_code (Some (emulate request)) = true
has_code (Some (analyse request)) = true
has_code (Some (check request)) = true
has_code (Some (convert request)) = true
has_code (Some (list request)) = true
has_code (Some (slice request)) = true
has_code (Some (claims request)) = true
has_code (Some (stress request)) = true
has_code (Some _) = false

-- and an entry
abbrev pub has_entry : Option Request → Bool
has_entry None = false
has_entry (Some (emulate request)) = true
has_entry (Some (analyse request)) = true
has_entry (Some (check request)) = true
has_entry (Some (slice request)) = true
has_entry (Some (claims request)) = true
has_entry (Some (stress request)) = true
has_entry (Some _) = false

-- One text at most is owed with this status: it is not a table over relations, which has several.
abbrev pub has_one_text : Option Request → Status → Bool
has_one_text None status = true
has_one_text (Some (analyse request)) s.Ok = not (has_relations request.base)
has_one_text (Some (convert request)) s.Ok = not (has_relations request.base)
has_one_text (Some _) status = true
