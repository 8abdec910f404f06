-- What the words of the command line ask for: a request, or nothing where they have no form.
use Rattle.std.specs.Prelude.{ℕ, Bool, ◌||◌, List, [], ◌∷◌, ◌++◌, Option, Some, None, if◌then◌else◌, not, option_map}
use Rattle.std.specs.List.{list_all}
use Rattle.support_command_line.specs.declared.commands.CommandName.{CommandName}
use Rattle.support_command_line.specs.declared.commands.CommandName.TheVariants as c
use Rattle.support_command_line.specs.Bases.{is_stamped}
use Rattle.support_command_line.specs.Code.{Code, code_inputs, code_parts}
use Rattle.support_command_line.specs.CommandLine.{GivenWords, given_in, is_given}
use Rattle.support_command_line.specs.Commands.{command_named, takes}
use Rattle.support_command_line.specs.Giving.{◌>>=◌}
use Rattle.support_command_line.specs.Numbers.{address_in, decimal_in}
use Rattle.support_command_line.specs.Options.{all_options}
use Rattle.support_command_line.specs.OptionValues.{address_of, base_of, calls_of, cases_of, joins_of, limit_of, order_of, steps_of}
use Rattle.support_command_line.specs.Requests.{AnalyseRequest, CallRequest, CheckRequest, ClaimsRequest, ConvertRequest, EmulateRequest, ListRequest, Request, SliceRequest, StressRequest, call, emulate, analyse, check, convert, list, slice, claims, stress}
use Rattle.support_command_line.specs.SpecNames.{spec_in, spec_inputs}

-- the code of a word CODE
unfoldable pub code_of : GivenWords → List ℕ → Option Code
code_of given word = do
  base ← address_of given
  order ← order_of given
  parts ← code_parts base word
  Some (record { parts = parts; order = order })

-- SPEC FUN, and the numbers
unfoldable pub call_of : GivenWords → List (List ℕ) → Option CallRequest
call_of given (spec ∷ fun ∷ numbers) = do
  calls ← calls_of given
  Some (record { spec = spec_in spec; fun = fun; numbers = numbers; calls = calls })
call_of given _ = None

-- SPEC CODE ENTRY
unfoldable pub emulate_of : GivenWords → List (List ℕ) → Option EmulateRequest
emulate_of given (spec ∷ word ∷ entry ∷ []) = do
  code ← code_of given word
  steps ← steps_of given
  calls ← calls_of given
  Some (record { spec = spec_in spec; code = code; entry = entry; steps = steps; calls = calls })
emulate_of given _ = None

-- SPEC CODE ENTRY
unfoldable pub analysis_of : GivenWords → List ℕ → List ℕ → List ℕ → Option AnalyseRequest
analysis_of given spec word entry = do
  code ← code_of given word
  base ← base_of given
  limit ← limit_of given
  joins ← joins_of given
  cases ← cases_of given
  Some (record { spec = spec_in spec; code = code; entry = entry; base = base; limit = limit; joins = joins; cases = cases; «open» = given.open })

unfoldable pub analyse_of : GivenWords → List (List ℕ) → Option AnalyseRequest
analyse_of given (spec ∷ word ∷ entry ∷ []) = analysis_of given spec word entry
analyse_of given _ = None

-- SPEC CODE ENTRY TABLE
unfoldable pub check_from : GivenWords → List ℕ → List ℕ → List ℕ → List ℕ → Option CheckRequest
check_from given spec word entry table = do
  analysis ← analysis_of given spec word entry
  Some (record { analysis = analysis; table = table })

unfoldable pub check_of : GivenWords → List (List ℕ) → Option CheckRequest
check_of given (spec ∷ word ∷ entry ∷ table ∷ []) = check_from given spec word entry table
check_of given _ = None

-- SPEC CODE TABLE
unfoldable pub convert_of : GivenWords → List (List ℕ) → Option ConvertRequest
convert_of given (spec ∷ word ∷ table ∷ []) = do
  code ← code_of given word
  base ← base_of given
  Some (record { spec = spec_in spec; code = code; table = table; base = base })
convert_of given _ = None

-- SPEC CODE
unfoldable pub list_of : GivenWords → List (List ℕ) → Option ListRequest
list_of given (spec ∷ word ∷ []) = do
  code ← code_of given word
  Some (record { spec = spec_in spec; code = code })
list_of given _ = None

-- ADDRESS CELL, at a table over a base with stamps
unfoldable pub slice_from : CheckRequest → List ℕ → List ℕ → Option SliceRequest
slice_from table place cell = do
  address ← address_in place
  if is_stamped table.analysis.base then Some (record { check = table; address = address; cell = cell }) else None

-- SPEC CODE ENTRY TABLE ADDRESS CELL
unfoldable pub slice_of : GivenWords → List (List ℕ) → Option SliceRequest
slice_of given (spec ∷ word ∷ entry ∷ table ∷ place ∷ cell ∷ []) = do
  asked ← check_from given spec word entry table
  slice_from asked place cell
slice_of given _ = None

-- SPEC CODE ENTRY TABLE CLAIMS
unfoldable pub claims_of : GivenWords → List (List ℕ) → Option ClaimsRequest
claims_of given (spec ∷ word ∷ entry ∷ table ∷ name ∷ []) = do
  asked ← check_from given spec word entry table
  Some (record { check = asked; claims = name })
claims_of given _ = None

-- NUMBER COUNT
unfoldable pub stress_of : GivenWords → List (List ℕ) → Option StressRequest
stress_of given (first ∷ second ∷ []) = do
  number ← decimal_in 10 0 4294967295 first
  count ← decimal_in 5 1 16384 second
  base ← base_of given
  Some (record { number = number; count = count; base = base })
stress_of given _ = None

-- the request of a command
abbrev pub request_of : CommandName → GivenWords → Option Request
request_of c.Call given = option_map call (call_of given given.words)
request_of c.Emulate given = option_map emulate (emulate_of given given.words)
request_of c.Analyse given = option_map analyse (analyse_of given given.words)
request_of c.Check given = option_map check (check_of given given.words)
request_of c.Convert given = option_map convert (convert_of given given.words)
request_of c.List given = option_map list (list_of given given.words)
request_of c.Slice given = option_map slice (slice_of given given.words)
request_of c.Claims given = option_map claims (claims_of given given.words)
request_of c.Stress given = option_map stress (stress_of given given.words)

-- no other option is given than those that the command takes
abbrev pub takes_all : CommandName → GivenWords → Bool
takes_all command given = list_all (λ option. not (is_given given option) || takes command option) all_options

-- what is given asks for
unfoldable pub asked_by : GivenWords → Option Request
asked_by given = do
  name ← given.command
  command ← command_named name
  if takes_all command given then request_of command given else None

-- what the words ask for
unfoldable pub asked : List (List ℕ) → Option Request
asked words = do
  given ← given_in words
  asked_by given

-- the inputs that are read for what is asked, by their names
abbrev pub analysis_inputs : AnalyseRequest → List (List ℕ)
analysis_inputs request = spec_inputs request.spec ++ code_inputs request.code ++ request.entry ∷ []

abbrev pub check_inputs : CheckRequest → List (List ℕ)
check_inputs request = analysis_inputs request.analysis ++ request.table ∷ []
