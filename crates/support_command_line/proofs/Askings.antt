-- What is asked, where each step gives something.
use Rattle.std.proofs.Common.{◌≡◌, ℕ, ◌<◌, ◌≤◌, true, List, [], ◌∷◌, Bor, length, get_or, refl, sym, ap, arith, ◌∙◌}
use Rattle.std.specs.Prelude.{Some, option_map}
use Rattle.support_command_line.specs.declared.bases.BaseName.{BaseName}
use Rattle.support_command_line.specs.declared.commands.CommandName.{CommandName}
use Rattle.support_command_line.specs.Bases.{is_stamped}
use Rattle.support_command_line.specs.Code.{Code}
use Rattle.support_command_line.specs.CommandLine.{GivenWords}
use Rattle.support_command_line.specs.Commands.{command_named}
use Rattle.support_command_line.specs.Numbers.{address_in, decimal_in}
use Rattle.support_command_line.specs.OptionValues.{cases_of, base_of, calls_of, joins_of, limit_of, steps_of}
use Rattle.support_command_line.specs.Requests.{CheckRequest, SliceRequest, convert, emulate, list, stress}
use Rattle.support_command_line.specs.SpecNames.{SpecName, spec_in}
use Rattle.support_command_line.specs.Views.{borrowed}
use Rattle.support_command_line.specs.Words.{analyse_of, analysis_of, asked_by, code_of, convert_of, emulate_of, list_of, request_of, slice_from, stress_of, takes_all}

pub asked_is : (given : GivenWords) (name : List ℕ) (command : CommandName) → given.command ≡ Some name → command_named name ≡ Some command → takes_all command given ≡ true
    → asked_by given ≡ request_of command given
unfolding asked_by
asked_is given name command named is takes = rw (named, is, takes) refl

abbrev pub sliced : CheckRequest → ℕ → List ℕ → SliceRequest
sliced check address cell = record { check = check; address = address; cell = cell }

pub slice_is : (check : CheckRequest) (place cell : List ℕ) (address : ℕ) → address_in place ≡ Some address → is_stamped check.analysis.base ≡ true → slice_from check place cell ≡ Some (sliced check address cell)
unfolding slice_from
slice_is check place cell address at stamped = rw (at, stamped) refl

-- ---- by the positional words
module _ (given : GivenWords) (words own : List (Bor (List ℕ))) (d : Bor (List ℕ)) (same : words ≡ own) where
  pub emulate_is : (spec : SpecName) (code : Code) (steps calls : ℕ) → 3 ≤ length words → length words < 4 → spec ≡ spec_in (get_or words 0 d).now → code_of given (get_or words 1 d).now ≡ Some code
      → steps_of given ≡ Some steps → calls_of given ≡ Some calls → option_map emulate (emulate_of given (borrowed own)) ≡ Some (emulate (record { spec = spec; code = code; entry = (get_or words 2 d).now; steps = steps; calls = calls }))
  unfolding emulate_of
  emulate_is spec code steps calls least most a b e f = ap (λ own. option_map emulate (emulate_of given (borrowed own))) (sym same) ∙ at words least most a b
    where
      at : (words : List (Bor (List ℕ))) → 3 ≤ length words → length words < 4 → spec ≡ spec_in (get_or words 0 d).now → code_of given (get_or words 1 d).now ≡ Some code
          → option_map emulate (emulate_of given (borrowed words)) ≡ Some (emulate (record { spec = spec; code = code; entry = (get_or words 2 d).now; steps = steps; calls = calls }))
      at [] least most a b = absurd (omega arith)
      at (x ∷ []) least most a b = absurd (omega arith)
      at (x ∷ y ∷ []) least most a b = absurd (omega arith)
      at (x ∷ y ∷ z ∷ []) least most a b = rw (a, b, e, f) refl
      at (x ∷ y ∷ z ∷ w ∷ words) least most a b = absurd (omega arith)

  pub convert_is : (spec : SpecName) (code : Code) (base : BaseName) → 3 ≤ length words → length words < 4 → spec ≡ spec_in (get_or words 0 d).now → code_of given (get_or words 1 d).now ≡ Some code
      → base_of given ≡ Some base → option_map convert (convert_of given (borrowed own)) ≡ Some (convert (record { spec = spec; code = code; table = (get_or words 2 d).now; base = base }))
  unfolding convert_of
  convert_is spec code base least most a b e = ap (λ own. option_map convert (convert_of given (borrowed own))) (sym same) ∙ at words least most a b
    where
      at : (words : List (Bor (List ℕ))) → 3 ≤ length words → length words < 4 → spec ≡ spec_in (get_or words 0 d).now → code_of given (get_or words 1 d).now ≡ Some code
          → option_map convert (convert_of given (borrowed words)) ≡ Some (convert (record { spec = spec; code = code; table = (get_or words 2 d).now; base = base }))
      at [] least most a b = absurd (omega arith)
      at (x ∷ []) least most a b = absurd (omega arith)
      at (x ∷ y ∷ []) least most a b = absurd (omega arith)
      at (x ∷ y ∷ z ∷ []) least most a b = rw (a, b, e) refl
      at (x ∷ y ∷ z ∷ w ∷ words) least most a b = absurd (omega arith)

  pub list_is : (spec : SpecName) (code : Code) → 2 ≤ length words → length words < 3 → spec ≡ spec_in (get_or words 0 d).now → code_of given (get_or words 1 d).now ≡ Some code
      → option_map list (list_of given (borrowed own)) ≡ Some (list (record { spec = spec; code = code }))
  unfolding list_of
  list_is spec code least most a b = ap (λ own. option_map list (list_of given (borrowed own))) (sym same) ∙ at words least most a b
    where
      at : (words : List (Bor (List ℕ))) → 2 ≤ length words → length words < 3 → spec ≡ spec_in (get_or words 0 d).now → code_of given (get_or words 1 d).now ≡ Some code
          → option_map list (list_of given (borrowed words)) ≡ Some (list (record { spec = spec; code = code }))
      at [] least most a b = absurd (omega arith)
      at (x ∷ []) least most a b = absurd (omega arith)
      at (x ∷ y ∷ []) least most a b = rw (a, b) refl
      at (x ∷ y ∷ z ∷ words) least most a b = absurd (omega arith)

  pub stress_is : (number count : ℕ) (base : BaseName) → 2 ≤ length words → length words < 3 → decimal_in 10 0 4294967295 (get_or words 0 d).now ≡ Some number → decimal_in 5 1 16384 (get_or words 1 d).now ≡ Some count
      → base_of given ≡ Some base → option_map stress (stress_of given (borrowed own)) ≡ Some (stress (record { number = number; count = count; base = base }))
  unfolding stress_of
  stress_is number count base least most a b e = ap (λ own. option_map stress (stress_of given (borrowed own))) (sym same) ∙ at words least most a b
    where
      at : (words : List (Bor (List ℕ))) → 2 ≤ length words → length words < 3 → decimal_in 10 0 4294967295 (get_or words 0 d).now ≡ Some number → decimal_in 5 1 16384 (get_or words 1 d).now ≡ Some count
          → option_map stress (stress_of given (borrowed words)) ≡ Some (stress (record { number = number; count = count; base = base }))
      at [] least most a b = absurd (omega arith)
      at (x ∷ []) least most a b = absurd (omega arith)
      at (x ∷ y ∷ []) least most a b = rw (a, b, e) refl
      at (x ∷ y ∷ z ∷ words) least most a b = absurd (omega arith)

pub analysis_is : (given : GivenWords) (words : List (Bor (List ℕ))) (d : Bor (List ℕ)) (spec : SpecName) (code : Code) (base : BaseName) (limit joins cases : ℕ) → 3 ≤ length words → length words < 4
    → spec ≡ spec_in (get_or words 0 d).now → code_of given (get_or words 1 d).now ≡ Some code → base_of given ≡ Some base → limit_of given ≡ Some limit → joins_of given ≡ Some joins → cases_of given ≡ Some cases
    → analyse_of given (borrowed words) ≡ Some (record { spec = spec; code = code; entry = (get_or words 2 d).now; base = base; limit = limit; joins = joins; cases = cases; «open» = given.open })
unfolding analyse_of analysis_of
analysis_is given [] d spec code base limit joins cases least most a b e f g h = absurd (omega arith)
analysis_is given (x ∷ []) d spec code base limit joins cases least most a b e f g h = absurd (omega arith)
analysis_is given (x ∷ y ∷ []) d spec code base limit joins cases least most a b e f g h = absurd (omega arith)
analysis_is given (x ∷ y ∷ z ∷ []) d spec code base limit joins cases least most a b e f g h = rw (a, b, e, f, g, h) refl
analysis_is given (x ∷ y ∷ z ∷ w ∷ words) d spec code base limit joins cases least most a b e f g h = absurd (omega arith)
