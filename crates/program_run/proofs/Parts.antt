-- The code that words ask for has few parts.
use Rattle.std.proofs.Common.{◌≡◌, ℕ, ◌≤◌, List, [], ◌∷◌, Option, Some, None, length, map, refl, sym, ◌∙◌, ap, subst, arith, leb-true}
use Rattle.std.specs.Prelude.{IsTrue, if◌then◌else◌, nat_le, option_and_then, option_map, suc}
use Rattle.std.specs.List.{slice_split}
use Rattle.std.proofs.lemmas.List.{length-map}
use Rattle.support_command_line.specs.declared.bases.BaseName.{BaseName}
use Rattle.support_command_line.specs.declared.commands.CommandName.{CommandName}
use Rattle.support_command_line.specs.declared.commands.CommandName.TheVariants as c
use Rattle.support_command_line.specs.declared.code_word.CodePart as code-part
use Rattle.support_command_line.specs.declared.requests.AnalyseRequest as code-analyse
use Rattle.support_command_line.specs.declared.requests.CheckRequest as code-check
use Rattle.support_command_line.specs.declared.requests.ConvertRequest as code-convert
use Rattle.support_command_line.specs.declared.requests.EmulateRequest as code-emulate
use Rattle.support_command_line.specs.declared.requests.ListRequest as code-list
use Rattle.support_command_line.specs.declared.requests.ClaimsRequest as code-claims
use Rattle.support_command_line.specs.declared.requests.SliceRequest as code-slice
use Rattle.support_command_line.specs.Bases.{is_stamped}
use Rattle.support_command_line.specs.Code.{Code, CodePart, code_parts, is_comma, part_at, part_in, parts_from, parts_in}
use Rattle.support_command_line.specs.CommandLine.{GivenWords, given_in}
use Rattle.support_command_line.specs.Commands.{command_named}
use Rattle.support_command_line.specs.Numbers.{address_in}
use Rattle.support_command_line.specs.OptionValues.{address_of, base_of, calls_of, cases_of, joins_of, limit_of, order_of, steps_of}
use Rattle.support_command_line.specs.Requests.{AnalyseRequest, CheckRequest, ClaimsRequest, ConvertRequest, EmulateRequest, ListRequest, Request, SliceRequest, call, emulate, analyse, check, convert, list, slice, claims, stress}
use Rattle.support_command_line.specs.SpecNames.{spec_in}
use Rattle.support_command_line.specs.Views as view
use Rattle.support_command_line.specs.Views.{part_of}
use Rattle.support_command_line.specs.Words as w
use Rattle.support_command_line.specs.Words.{analyse_of, analysis_of, asked, asked_by, check_from, check_of, claims_of, code_of, convert_of, emulate_of, list_of, request_of, slice_from, slice_of, takes_all}
use Rattle.concrete_function_calls.proofs.Typing.{both_given as bound, if_given as guarded}

-- ---- steps that give something

mapped : {A B : Type 0} (made : A → B) (given : Option A) (end : B) → option_map made given ≡ Some end → (a : A) × (given ≡ Some a) × (made a ≡ end)
mapped made None end is = absurd (cc)
mapped made (Some a) end is = (a, refl, let same : Some (made a) ≡ Some end = is in cc)

-- ---- parts

as_many : (pieces : List (List ℕ)) (parts : List CodePart) → parts_in pieces ≡ Some parts → length parts ≡ length pieces
as_many [] parts is = let same : [] ≡ parts = cc in ap (λ (xs : List CodePart). length xs) (sym same)
as_many (piece ∷ pieces) parts is =
    let first = bound (part_in piece) (λ part. option_and_then (λ rest. Some (part ∷ rest)) (parts_in pieces)) parts is in
    let rest = bound (parts_in pieces) (λ rest. Some (first.0 ∷ rest)) parts first.2 in
    let made : Some (first.0 ∷ rest.0) ≡ Some parts = rest.2 in
    let same : first.0 ∷ rest.0 ≡ parts = cc in
    ap (λ (xs : List CodePart). length xs) (sym same) ∙ ap suc (as_many pieces rest.0 rest.1)

as_many_from : (base : ℕ) (pieces : List (List ℕ)) (parts : List CodePart) → parts_from base pieces ≡ Some parts → length parts ≡ length pieces
as_many_from base [] parts is = absurd (cc)
as_many_from base (piece ∷ pieces) parts is =
    let first = bound (part_at piece base) (λ part. option_and_then (λ rest. Some (part ∷ rest)) (parts_in pieces)) parts is in
    let rest = bound (parts_in pieces) (λ rest. Some (first.0 ∷ rest)) parts first.2 in
    let made : Some (first.0 ∷ rest.0) ≡ Some parts = rest.2 in
    let same : first.0 ∷ rest.0 ≡ parts = cc in
    ap (λ (xs : List CodePart). length xs) (sym same) ∙ ap suc (as_many pieces rest.0 rest.1)

few_parts : (base : ℕ) (word : List ℕ) (parts : List CodePart) → code_parts base word ≡ Some parts → length parts ≤ 16
unfolding code_parts
few_parts base word parts is =
    let pieces = slice_split is_comma word in
    let found = guarded (nat_le (length pieces) 16) (parts_from base pieces) parts is in
    subst (λ (n : ℕ). n ≤ 16) (sym (as_many_from base pieces parts found.1)) (omega (arith, leb-true (length pieces) 16 found.0))

few_in_code : (given : GivenWords) (word : List ℕ) (code : Code) → code_of given word ≡ Some code → length code.parts ≤ 16
unfolding code_of
few_in_code given word code is =
    let base = bound (address_of given) (λ base. option_and_then (λ order. option_and_then (λ parts. Some (record { parts = parts; order = order })) (code_parts base word)) (order_of given)) code is in
    let order = bound (order_of given) (λ order. option_and_then (λ parts. Some (record { parts = parts; order = order })) (code_parts base.0 word)) code base.2 in
    let parts = bound (code_parts base.0 word) (λ parts. Some (record { parts = parts; order = order.0 })) code order.2 in
    let made : Some (record { parts = parts.0; order = order.0 }) ≡ Some code = parts.2 in
    let same : record { parts = parts.0; order = order.0 } ≡ code = cc in
    subst (λ (c : Code). length c.parts ≤ 16) same (few_parts base.0 word parts.0 parts.1)

-- ---- requests

-- its code has few parts, and a slice is over a base that tells stamps
abbrev pub IsFew : Request → Type 0
IsFew (emulate request) = length request.code.parts ≤ 16
IsFew (analyse request) = length request.code.parts ≤ 16
IsFew (check request) = length request.analysis.code.parts ≤ 16
IsFew (convert request) = length request.code.parts ≤ 16
IsFew (list request) = length request.code.parts ≤ 16
IsFew (slice request) = (length request.check.analysis.code.parts ≤ 16) × IsTrue (is_stamped request.check.analysis.base)
IsFew (claims request) = length request.check.analysis.code.parts ≤ 16
IsFew _ = Unit {0}

few_in_emulate : (given : GivenWords) (words : List (List ℕ)) (request : EmulateRequest) → emulate_of given words ≡ Some request → length request.code.parts ≤ 16
unfolding emulate_of
few_in_emulate given (spec ∷ word ∷ entry ∷ []) request is =
    let code = bound (code_of given word) (λ code. option_and_then (λ steps. option_and_then (λ calls. Some (record { spec = spec_in spec; code = code; entry = entry; steps = steps; calls = calls })) (calls_of given)) (steps_of given)) request is in
    let steps = bound (steps_of given) (λ steps. option_and_then (λ calls. Some (record { spec = spec_in spec; code = code.0; entry = entry; steps = steps; calls = calls })) (calls_of given)) request code.2 in
    let calls = bound (calls_of given) (λ calls. Some (record { spec = spec_in spec; code = code.0; entry = entry; steps = steps.0; calls = calls })) request steps.2 in
    let made : Some (record { spec = spec_in spec; code = code.0; entry = entry; steps = steps.0; calls = calls.0 }) ≡ Some request = calls.2 in
    let same : record { spec = spec_in spec; code = code.0; entry = entry; steps = steps.0; calls = calls.0 } ≡ request = cc in
    subst (λ (r : EmulateRequest). length r.code.parts ≤ 16) same (few_in_code given word code.0 code.1)
few_in_emulate given [] request is = absurd (cc)
few_in_emulate given (spec ∷ []) request is = absurd (cc)
few_in_emulate given (spec ∷ word ∷ []) request is = absurd (cc)
few_in_emulate given (spec ∷ word ∷ entry ∷ more ∷ rest) request is = absurd (cc)

abbrev analysis_with : GivenWords → List ℕ → List ℕ → Code → BaseName → ℕ → ℕ → ℕ → AnalyseRequest
analysis_with given spec entry code base limit joins cases = record { spec = spec_in spec; code = code; entry = entry; base = base; limit = limit; joins = joins; cases = cases; «open» = given.open }

few_in_analysis : (given : GivenWords) (spec word entry : List ℕ) (request : AnalyseRequest) → analysis_of given spec word entry ≡ Some request → length request.code.parts ≤ 16
unfolding analysis_of
few_in_analysis given spec word entry request is =
    let made = analysis_with given spec entry in
    let code = bound (code_of given word) (λ code. option_and_then (λ base. option_and_then (λ limit. option_and_then (λ joins. option_and_then (λ cases. Some (made code base limit joins cases)) (cases_of given)) (joins_of given)) (limit_of given)) (base_of given)) request is in
    let base = bound (base_of given) (λ base. option_and_then (λ limit. option_and_then (λ joins. option_and_then (λ cases. Some (made code.0 base limit joins cases)) (cases_of given)) (joins_of given)) (limit_of given)) request code.2 in
    let limit = bound (limit_of given) (λ limit. option_and_then (λ joins. option_and_then (λ cases. Some (made code.0 base.0 limit joins cases)) (cases_of given)) (joins_of given)) request base.2 in
    let joins = bound (joins_of given) (λ joins. option_and_then (λ cases. Some (made code.0 base.0 limit.0 joins cases)) (cases_of given)) request limit.2 in
    let cases = bound (cases_of given) (λ cases. Some (made code.0 base.0 limit.0 joins.0 cases)) request joins.2 in
    let whole : Some (made code.0 base.0 limit.0 joins.0 cases.0) ≡ Some request = cases.2 in
    let same : made code.0 base.0 limit.0 joins.0 cases.0 ≡ request = cc in
    subst (λ (r : AnalyseRequest). length r.code.parts ≤ 16) same (few_in_code given word code.0 code.1)

few_in_analyse : (given : GivenWords) (words : List (List ℕ)) (request : AnalyseRequest) → analyse_of given words ≡ Some request → length request.code.parts ≤ 16
unfolding analyse_of
few_in_analyse given (spec ∷ word ∷ entry ∷ []) request is = few_in_analysis given spec word entry request is
few_in_analyse given [] request is = absurd (cc)
few_in_analyse given (spec ∷ []) request is = absurd (cc)
few_in_analyse given (spec ∷ word ∷ []) request is = absurd (cc)
few_in_analyse given (spec ∷ word ∷ entry ∷ more ∷ rest) request is = absurd (cc)

few_in_check_from : (given : GivenWords) (spec word entry table : List ℕ) (request : CheckRequest) → check_from given spec word entry table ≡ Some request → length request.analysis.code.parts ≤ 16
unfolding check_from
few_in_check_from given spec word entry table request is =
    let analysis = bound (analysis_of given spec word entry) (λ analysis. Some (record { analysis = analysis; table = table })) request is in
    let made : Some (record { analysis = analysis.0; table = table }) ≡ Some request = analysis.2 in
    let same : record { analysis = analysis.0; table = table } ≡ request = cc in
    subst (λ (r : CheckRequest). length r.analysis.code.parts ≤ 16) same (few_in_analysis given spec word entry analysis.0 analysis.1)

few_in_check : (given : GivenWords) (words : List (List ℕ)) (request : CheckRequest) → check_of given words ≡ Some request → length request.analysis.code.parts ≤ 16
unfolding check_of
few_in_check given (spec ∷ word ∷ entry ∷ table ∷ []) request is = few_in_check_from given spec word entry table request is
few_in_check given [] request is = absurd (cc)
few_in_check given (spec ∷ []) request is = absurd (cc)
few_in_check given (spec ∷ word ∷ []) request is = absurd (cc)
few_in_check given (spec ∷ word ∷ entry ∷ []) request is = absurd (cc)
few_in_check given (spec ∷ word ∷ entry ∷ table ∷ more ∷ rest) request is = absurd (cc)

few_in_convert : (given : GivenWords) (words : List (List ℕ)) (request : ConvertRequest) → convert_of given words ≡ Some request → length request.code.parts ≤ 16
unfolding convert_of
few_in_convert given (spec ∷ word ∷ table ∷ []) request is =
    let code = bound (code_of given word) (λ code. option_and_then (λ base. Some (record { spec = spec_in spec; code = code; table = table; base = base })) (base_of given)) request is in
    let base = bound (base_of given) (λ base. Some (record { spec = spec_in spec; code = code.0; table = table; base = base })) request code.2 in
    let made : Some (record { spec = spec_in spec; code = code.0; table = table; base = base.0 }) ≡ Some request = base.2 in
    let same : record { spec = spec_in spec; code = code.0; table = table; base = base.0 } ≡ request = cc in
    subst (λ (r : ConvertRequest). length r.code.parts ≤ 16) same (few_in_code given word code.0 code.1)
few_in_convert given [] request is = absurd (cc)
few_in_convert given (spec ∷ []) request is = absurd (cc)
few_in_convert given (spec ∷ word ∷ []) request is = absurd (cc)
few_in_convert given (spec ∷ word ∷ table ∷ more ∷ rest) request is = absurd (cc)

few_in_list : (given : GivenWords) (words : List (List ℕ)) (request : ListRequest) → list_of given words ≡ Some request → length request.code.parts ≤ 16
unfolding list_of
few_in_list given (spec ∷ word ∷ []) request is =
    let code = bound (code_of given word) (λ code. Some (record { spec = spec_in spec; code = code })) request is in
    let made : Some (record { spec = spec_in spec; code = code.0 }) ≡ Some request = code.2 in
    let same : record { spec = spec_in spec; code = code.0 } ≡ request = cc in
    subst (λ (r : ListRequest). length r.code.parts ≤ 16) same (few_in_code given word code.0 code.1)
few_in_list given [] request is = absurd (cc)
few_in_list given (spec ∷ []) request is = absurd (cc)
few_in_list given (spec ∷ word ∷ more ∷ rest) request is = absurd (cc)

few_in_slice_from : (given : GivenWords) (table : CheckRequest) (place cell : List ℕ) (request : SliceRequest) → length table.analysis.code.parts ≤ 16 → slice_from table place cell ≡ Some request → IsFew (slice request)
unfolding slice_from
few_in_slice_from given table place cell request few is =
    let address = bound (address_in place) (λ a. if is_stamped table.analysis.base then Some (record { check = table; address = a; cell = cell }) else None) request is in
    let stamped = guarded (is_stamped table.analysis.base) (Some (record { check = table; address = address.0; cell = cell })) request address.2 in
    let made : Some (record { check = table; address = address.0; cell = cell }) ≡ Some request = stamped.1 in
    let same : record { check = table; address = address.0; cell = cell } ≡ request = cc in
    subst (λ (r : SliceRequest). IsFew (slice r)) same (few, stamped.0)

few_in_slice : (given : GivenWords) (words : List (List ℕ)) (request : SliceRequest) → slice_of given words ≡ Some request → IsFew (slice request)
unfolding slice_of
few_in_slice given (spec ∷ word ∷ entry ∷ table ∷ place ∷ cell ∷ []) request is =
    let table_of = bound (check_from given spec word entry table) (λ t. slice_from t place cell) request is in
    few_in_slice_from given table_of.0 place cell request (few_in_check_from given spec word entry table table_of.0 table_of.1) table_of.2
few_in_slice given [] request is = absurd (cc)
few_in_slice given (spec ∷ []) request is = absurd (cc)
few_in_slice given (spec ∷ word ∷ []) request is = absurd (cc)
few_in_slice given (spec ∷ word ∷ entry ∷ []) request is = absurd (cc)
few_in_slice given (spec ∷ word ∷ entry ∷ table ∷ []) request is = absurd (cc)
few_in_slice given (spec ∷ word ∷ entry ∷ table ∷ place ∷ []) request is = absurd (cc)
few_in_slice given (spec ∷ word ∷ entry ∷ table ∷ place ∷ cell ∷ more ∷ rest) request is = absurd (cc)

few_in_claims : (given : GivenWords) (words : List (List ℕ)) (request : ClaimsRequest) → claims_of given words ≡ Some request → length request.check.analysis.code.parts ≤ 16
unfolding claims_of
few_in_claims given (spec ∷ word ∷ entry ∷ table ∷ name ∷ []) request is =
    let table_of = bound (check_from given spec word entry table) (λ t. Some (record { check = t; claims = name })) request is in
    let made : Some (record { check = table_of.0; claims = name }) ≡ Some request = table_of.2 in
    let same : record { check = table_of.0; claims = name } ≡ request = cc in
    subst (λ (r : ClaimsRequest). length r.check.analysis.code.parts ≤ 16) same (few_in_check_from given spec word entry table table_of.0 table_of.1)
few_in_claims given [] request is = absurd (cc)
few_in_claims given (spec ∷ []) request is = absurd (cc)
few_in_claims given (spec ∷ word ∷ []) request is = absurd (cc)
few_in_claims given (spec ∷ word ∷ entry ∷ []) request is = absurd (cc)
few_in_claims given (spec ∷ word ∷ entry ∷ table ∷ []) request is = absurd (cc)
few_in_claims given (spec ∷ word ∷ entry ∷ table ∷ name ∷ more ∷ rest) request is = absurd (cc)

-- ---- the request of a command

few_by : (command : CommandName) (given : GivenWords) (request : Request) → request_of command given ≡ Some request → IsFew request
few_by c.Call given request is = let m = mapped call (w.call_of given given.words) request is in subst IsFew m.2 tt
few_by c.Emulate given request is = let m = mapped emulate (emulate_of given given.words) request is in subst IsFew m.2 (few_in_emulate given given.words m.0 m.1)
few_by c.Analyse given request is = let m = mapped analyse (analyse_of given given.words) request is in subst IsFew m.2 (few_in_analyse given given.words m.0 m.1)
few_by c.Check given request is = let m = mapped check (check_of given given.words) request is in subst IsFew m.2 (few_in_check given given.words m.0 m.1)
few_by c.Convert given request is = let m = mapped convert (convert_of given given.words) request is in subst IsFew m.2 (few_in_convert given given.words m.0 m.1)
few_by c.List given request is = let m = mapped list (list_of given given.words) request is in subst IsFew m.2 (few_in_list given given.words m.0 m.1)
few_by c.Slice given request is = let m = mapped slice (slice_of given given.words) request is in subst IsFew m.2 (few_in_slice given given.words m.0 m.1)
few_by c.Claims given request is = let m = mapped claims (claims_of given given.words) request is in subst IsFew m.2 (few_in_claims given given.words m.0 m.1)
few_by c.Stress given request is = let m = mapped stress (w.stress_of given given.words) request is in subst IsFew m.2 tt

few_given : (given : GivenWords) (request : Request) → asked_by given ≡ Some request → IsFew request
unfolding asked_by
few_given given request is =
    let name = bound given.command (λ name. option_and_then (λ command. if takes_all command given then request_of command given else None) (command_named name)) request is in
    let command = bound (command_named name.0) (λ command. if takes_all command given then request_of command given else None) request name.2 in
    let found = guarded (takes_all command.0 given) (request_of command.0 given) request command.2 in
    few_by command.0 given request found.1

-- what words ask for
pub few_asked : (words : List (List ℕ)) (request : Request) → asked words ≡ Some request → IsFew request
unfolding asked
few_asked words request is =
    let given = bound (given_in words) (λ given. asked_by given) request is in
    few_given given.0 request given.2

-- Where something is asked for, its code has few parts.
abbrev pub AreFew : Option Request → Type 0
AreFew None = Unit {0}
AreFew (Some request) = IsFew request

few_in_words : (words : List (List ℕ)) (what : Option Request) → asked words ≡ what → AreFew what
few_in_words words None is = tt
few_in_words words (Some request) is = few_asked words request is

pub few_wanted : (words : List (List ℕ)) → AreFew (asked words)
few_wanted words = few_in_words words (asked words) refl

-- ---- the code's requests

few_of : (parts : List code-part.CodePart) → length (map part_of parts) ≤ 16 → length parts ≤ 16
few_of parts few = subst (λ (n : ℕ). n ≤ 16) (length-map parts part_of) few

pub few_emulated : (words : List (List ℕ)) (request : code-emulate.EmulateRequest) → asked words ≡ Some (emulate (view.emulate_of request)) → length request.code.parts.items ≤ 16
few_emulated words request is = few_of request.code.parts.items (few_asked words (emulate (view.emulate_of request)) is)

pub few_analysed : (words : List (List ℕ)) (request : code-analyse.AnalyseRequest) → asked words ≡ Some (analyse (view.analyse_of request)) → length request.code.parts.items ≤ 16
few_analysed words request is = few_of request.code.parts.items (few_asked words (analyse (view.analyse_of request)) is)

pub few_checked : (words : List (List ℕ)) (request : code-check.CheckRequest) → asked words ≡ Some (check (view.check_of request)) → length request.analysis.code.parts.items ≤ 16
few_checked words request is = few_of request.analysis.code.parts.items (few_asked words (check (view.check_of request)) is)

pub few_converted : (words : List (List ℕ)) (request : code-convert.ConvertRequest) → asked words ≡ Some (convert (view.convert_of request)) → length request.code.parts.items ≤ 16
few_converted words request is = few_of request.code.parts.items (few_asked words (convert (view.convert_of request)) is)

pub few_listed : (words : List (List ℕ)) (request : code-list.ListRequest) → asked words ≡ Some (list (view.list_of request)) → length request.code.parts.items ≤ 16
few_listed words request is = few_of request.code.parts.items (few_asked words (list (view.list_of request)) is)

pub few_sliced : (words : List (List ℕ)) (request : code-slice.SliceRequest) → asked words ≡ Some (slice (view.slice_of request)) → length request.check.analysis.code.parts.items ≤ 16
few_sliced words request is = few_of request.check.analysis.code.parts.items (few_asked words (slice (view.slice_of request)) is).0

pub few_claimed : (words : List (List ℕ)) (request : code-claims.ClaimsRequest) → asked words ≡ Some (claims (view.claims_of request)) → length request.check.analysis.code.parts.items ≤ 16
few_claimed words request is = few_of request.check.analysis.code.parts.items (few_asked words (claims (view.claims_of request)) is)

-- a slice that words ask for is over a base that tells stamps
pub stamped_slice : (words : List (List ℕ)) (request : SliceRequest) → asked words ≡ Some (slice request) → IsTrue (is_stamped request.check.analysis.base)
stamped_slice words request is = (few_asked words (slice request) is).1
