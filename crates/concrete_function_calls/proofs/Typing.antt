-- Arguments have the types for which they are written.
use Rattle.std.proofs.Common.{◌≡◌, ℕ, ◌^◌, Bool, true, false, ◌&&◌, Option, Some, None, List, [], ◌∷◌, option_map, refl, ap, subst}
use Rattle.std.specs.Prelude.{bytes_eq, codes, if◌then◌else◌, nat_lt, option_and_then, slice_get}
use Rattle.state_cell_text.specs.Digits.{hex_number}
use Rattle.spec_ir.specs.declared.ty.Ty.{Ty}
use Rattle.spec_ir.specs.declared.ty.Ty.TheVariants.{Bool as Flag, Word, Data, Map}
use Rattle.spec_ir.specs.Environment.{Environment}
use Rattle.spec_ir.specs.Specification.{Fun, Spec}
use Rattle.semantics_values.specs.Values.{Val, flag, vals, word}
use Rattle.semantics_values.specs.Types.{environment_of, has_type, have_types}
use Rattle.semantics.specs.Runs.{meaning}
use Rattle.concrete_function_calls.specs.Arguments.{argument_in, arguments_in, word_of}
use Rattle.concrete_function_calls.specs.Written.{IsWrittenCall}
use Rattle.concrete_function_calls.specs.Calls.{arguments_of, call_end, called, end_of_meaning, is_written, number_of, bad_words, end_of_call}
use Rattle.spec_match_compiler.proofs.Truth.{equal_itself as same_width}
use Rattle.concrete_calls.proofs.Views.{some_same as same_some}

none_some : {A B : Type 0} {x : A} → None ≡ Some x → B
none_some e = absurd cc

-- a given value of a chain of two
pub both_given : {A B : Type 0} (first : Option A) (next : A → Option B) (y : B) → option_and_then next first ≡ Some y → (x : A) × (first ≡ Some x) × (next x ≡ Some y)
both_given None next y e = none_some e
both_given (Some x) next y e = (x, refl, e)

pub if_given : {A : Type 0} (test : Bool) (found : Option A) (x : A) → (if test then found else None) ≡ Some x → (test ≡ true) × (found ≡ Some x)
if_given true found x e = (refl, e)
if_given false found x e = none_some e

module _ (env : Environment) where
  word_typed : (w : ℕ) (found : Option ℕ) (v : Val) → option_and_then (word_of w) found ≡ Some v → has_type env v (Word w) ≡ true
  word_typed w found v e =
      let read = both_given found (word_of w) v e in
      let fits = if_given (nat_lt read.0 (2 ^ w)) (Some (word w read.0)) v read.2 in
      subst (λ (x : Val). has_type env x (Word w) ≡ true) (same_some fits.1) (rw (same_width w, fits.0) refl)

  flag_typed : (yes_it_is no_it_is : Bool) (v : Val) → (if yes_it_is then Some (flag true) else (if no_it_is then Some (flag false) else None)) ≡ Some v → has_type env v Flag ≡ true
  flag_typed true other v e = subst (λ (x : Val). has_type env x Flag ≡ true) (same_some e) refl
  flag_typed false true v e = subst (λ (x : Val). has_type env x Flag ≡ true) (same_some e) refl
  flag_typed false false v e = none_some e

  argument_typed : (ty : Ty) (text : List ℕ) (v : Val) → argument_in ty text ≡ Some v → has_type env v ty ≡ true
  argument_typed (Word w) text v e = word_typed w (hex_number 16 text) v e
  argument_typed Flag text v e = flag_typed (bytes_eq text (codes "true")) (bytes_eq text (codes "false")) v e
  argument_typed (Data d) text v e = none_some e
  argument_typed (Map m) text v e = none_some e

  both_true : (a b : Bool) → a ≡ true → b ≡ true → a && b ≡ true
  both_true true b p q = q
  both_true false b p q = absurd cc

  pub arguments_typed : (types : List Ty) (texts : List (List ℕ)) (args : List Val) → arguments_in types texts ≡ Some args → have_types env (vals args) types ≡ true
  arguments_typed [] [] args e = subst (λ (xs : List Val). have_types env (vals xs) [] ≡ true) (same_some e) refl
  arguments_typed [] (text ∷ texts) args e = none_some e
  arguments_typed (ty ∷ types) [] args e = none_some e
  arguments_typed (ty ∷ types) (text ∷ texts) args e =
      let first = both_given (argument_in ty text) (λ v. option_map (λ vs. v ∷ vs) (arguments_in types texts)) args e in
      by first.0 (argument_typed ty text first.0 first.1) (arguments_in types texts) refl first.2 (arguments_typed types texts)
    where
      by : (v : Val) → has_type env v ty ≡ true → (rest : Option (List Val)) → arguments_in types texts ≡ rest → option_map (λ vs. v ∷ vs) rest ≡ Some args
          → ((vs : List Val) → arguments_in types texts ≡ Some vs → have_types env (vals vs) types ≡ true) → have_types env (vals args) (ty ∷ types) ≡ true
      by v typed None is more rest = none_some more
      by v typed (Some vs) is more rest = subst (λ (xs : List Val). have_types env (vals xs) (ty ∷ types) ≡ true) (same_some more) (both_true (has_type env v ty) (have_types env (vals vs) types) typed (rest vs is))

-- what words call, with the function and its arguments
pub record IsCalled (spec : Spec) (fun : List ℕ) (texts : List (List ℕ)) (number : ℕ) (args : List Val) : Type 0 where
  pub function : Fun
  pub there : slice_get spec.funs number ≡ Some function
  pub written : is_written function.result_type ≡ true
  pub given : arguments_in function.params texts ≡ Some args

pub is_called : (spec : Spec) (fun : List ℕ) (texts : List (List ℕ)) (number : ℕ) (args : List Val) → called spec fun texts ≡ Some (number, args) → IsCalled spec fun texts number args
is_called spec fun texts number args e =
    let named = both_given (number_of spec fun) (λ n. option_and_then (λ function. option_and_then (λ args. Some (n, args)) (arguments_of function texts)) (slice_get spec.funs n)) (number, args) e in
    let found = both_given (slice_get spec.funs named.0) (λ function. option_and_then (λ args. Some (named.0, args)) (arguments_of function texts)) (number, args) named.2 in
    let given = both_given (arguments_of found.0 texts) (λ args. Some (named.0, args)) (number, args) found.2 in
    let parts : (named.0, given.0) ≡ (number, args) = same_some given.2 in
    let written = if_given (is_written found.0.result_type) (arguments_in found.0.params texts) given.0 given.1 in
    record {
      function = found.0;
      there = subst (λ n. slice_get spec.funs n ≡ Some found.0) (ap (λ p. p.0) parts) found.1;
      written = written.0;
      given = subst (λ (xs : List Val). arguments_in found.0.params texts ≡ Some xs) (ap (λ p. p.1) parts) written.1;
    }

pub called_is_call : (spec : Spec) (fun : List ℕ) (texts : List (List ℕ)) (number : ℕ) (args : List Val) → called spec fun texts ≡ Some (number, args) → IsWrittenCall spec number args
called_is_call spec fun texts number args e =
    let c = is_called spec fun texts number args e in
    record { function = c.function; there = c.there; written = c.written; typed = arguments_typed (environment_of spec) c.function.params texts args c.given }

-- what a call by words comes to
pub call_is : (spec : Spec) (turns : ℕ) (fun : List ℕ) (texts : List (List ℕ)) (number : ℕ) (args : List Val) → called spec fun texts ≡ Some (number, args)
    → call_end spec turns fun texts ≡ end_of_meaning (meaning spec 0 turns number args [])
unfolding call_end
call_is spec turns fun texts number args e = ap (λ (found : Option (ℕ × List Val)). end_of_call spec turns found) e

pub no_call : (spec : Spec) (turns : ℕ) (fun : List ℕ) (texts : List (List ℕ)) → called spec fun texts ≡ None → call_end spec turns fun texts ≡ bad_words
unfolding call_end
no_call spec turns fun texts e = ap (λ (found : Option (ℕ × List Val)). end_of_call spec turns found) e
