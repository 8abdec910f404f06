-- The code's values as contracts see them.
use Rattle.std.specs.Prelude.{ℕ, List, Option, String, map, option_map}
use Rattle.std.specs.Borrow.{Bor}
use Rattle.std.specs.String.{string_bytes}
use Rattle.std.specs.declared.alloc.Global.{Global}
use Rattle.support_command_line.specs.declared.code_word.Code as code-of-code
use Rattle.support_command_line.specs.declared.code_word.CodePart as code-part
use Rattle.support_command_line.specs.declared.given_words.GivenWords as code-given
use Rattle.support_command_line.specs.declared.requests.AnalyseRequest as code-analyse
use Rattle.support_command_line.specs.declared.requests.CallRequest as code-call
use Rattle.support_command_line.specs.declared.requests.CheckRequest as code-check
use Rattle.support_command_line.specs.declared.requests.ClaimsRequest as code-claims
use Rattle.support_command_line.specs.declared.requests.ConvertRequest as code-convert
use Rattle.support_command_line.specs.declared.requests.EmulateRequest as code-emulate
use Rattle.support_command_line.specs.declared.requests.ListRequest as code-list
use Rattle.support_command_line.specs.declared.requests.Request as code-request
use Rattle.support_command_line.specs.declared.requests.Request.TheVariants as r
use Rattle.support_command_line.specs.declared.requests.SliceRequest as code-slice
use Rattle.support_command_line.specs.declared.requests.StressRequest as code-stress
use Rattle.support_command_line.specs.declared.spec_word.SpecName as code-spec
use Rattle.support_command_line.specs.declared.spec_word.SpecName.TheVariants as s
use Rattle.support_command_line.specs.Code.{Code, CodePart}
use Rattle.support_command_line.specs.CommandLine.{GivenWords}
use Rattle.support_command_line.specs.Requests.{AnalyseRequest, CallRequest, CheckRequest, ClaimsRequest, ConvertRequest, EmulateRequest, ListRequest, Request, SliceRequest, StressRequest, call, emulate, analyse, check, convert, list, slice, claims, stress}
use Rattle.support_command_line.specs.SpecNames.{SpecName, input, power_pc, risc_v}

-- the bytes of each text
abbrev pub texts : List (String Global) → List (List ℕ)
texts words = map string_bytes words

-- and of each borrowed one
abbrev pub borrowed : List (Bor (List ℕ)) → List (List ℕ)
borrowed = map (λ word. word.now)

abbrev pub borrowed_text : Option (Bor (List ℕ)) → Option (List ℕ)
borrowed_text = option_map (λ word. word.now)

abbrev pub given_of : code-given.GivenWords → GivenWords
given_of given = record {
  command = borrowed_text given.command;
  words = borrowed given.words.items;
  at = borrowed_text given.at;
  order = borrowed_text given.order;
  steps = borrowed_text given.steps;
  calls = borrowed_text given.calls;
  limit = borrowed_text given.limit;
  base = borrowed_text given.base;
  widen = borrowed_text given.widen;
  cases = borrowed_text given.cases;
  «open» = given.open;
}

abbrev pub part_of : code-part.CodePart → CodePart
part_of part = record { name = part.name.now; base = part.base }

abbrev pub code_of : code-of-code.Code → Code
code_of code = record { parts = map part_of code.parts.items; order = code.order }

abbrev pub spec_of : code-spec.SpecName → SpecName
spec_of (s.Input name) = input name.now
spec_of s.PowerPc = power_pc
spec_of s.RiscV = risc_v

abbrev pub call_of : code-call.CallRequest → CallRequest
call_of request = record { spec = spec_of request.spec; fun = request.fun.now; numbers = borrowed request.numbers.items; calls = request.calls }

abbrev pub emulate_of : code-emulate.EmulateRequest → EmulateRequest
emulate_of request = record { spec = spec_of request.spec; code = code_of request.code; entry = request.entry.now; steps = request.steps; calls = request.calls }

abbrev pub analyse_of : code-analyse.AnalyseRequest → AnalyseRequest
analyse_of request = record { spec = spec_of request.spec; code = code_of request.code; entry = request.entry.now; base = request.base; limit = request.limit; joins = request.joins; cases = request.cases; «open» = request.open }

abbrev pub check_of : code-check.CheckRequest → CheckRequest
check_of request = record { analysis = analyse_of request.analysis; table = request.table.now }

abbrev pub convert_of : code-convert.ConvertRequest → ConvertRequest
convert_of request = record { spec = spec_of request.spec; code = code_of request.code; table = request.table.now; base = request.base }

abbrev pub list_of : code-list.ListRequest → ListRequest
list_of request = record { spec = spec_of request.spec; code = code_of request.code }

abbrev pub slice_of : code-slice.SliceRequest → SliceRequest
slice_of request = record { check = check_of request.check; address = request.address; cell = request.cell.now }

abbrev pub claims_of : code-claims.ClaimsRequest → ClaimsRequest
claims_of request = record { check = check_of request.check; claims = request.claims.now }

abbrev pub stress_of : code-stress.StressRequest → StressRequest
stress_of request = record { number = request.number; count = request.count; base = request.base }

abbrev pub request_of : code-request.Request → Request
request_of (r.Call request) = call (call_of request)
request_of (r.Emulate request) = emulate (emulate_of request)
request_of (r.Analyse request) = analyse (analyse_of request)
request_of (r.Check request) = check (check_of request)
request_of (r.Convert request) = convert (convert_of request)
request_of (r.List request) = list (list_of request)
request_of (r.Slice request) = slice (slice_of request)
request_of (r.Claims request) = claims (claims_of request)
request_of (r.Stress request) = stress (stress_of request)
