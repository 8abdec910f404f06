-- What the code answers where it has a value, or none.
use Rattle.std.proofs.Common.{◌≡◌, refl, subst, sym}
use Rattle.std.specs.Prelude.{Option, Some, None, Result, Err, IsErrAnd, Ok, ok_or}
use Rattle.support_command_line.specs.declared.words_error.WordsError.{WordsError}
use Rattle.support_command_line.specs.declared.words_error.WordsError.TheVariants.{BadWords, NoMemory}
use Rattle.support_command_line.specs.Giving.{Gives}

of_option : {A : Type 0} (found : Option A) → Gives found (λ x. x) (ok_or found BadWords)
of_option None = refl
of_option (Some x) = refl

-- where a step fails, the whole fails so
pub carried : {A B C D : Type 0} (first : Option B) (whole : Option D) (seen : A → B) (seen' : C → D) (e : WordsError) (answer : Result C WordsError)
    → Gives first seen (Err e) → (first ≡ None → whole ≡ None) → IsErrAnd answer (λ other. other ≡ e) → Gives whole seen' answer
carried first whole seen seen' e (Ok x) gives none is = absurd is
carried {A} {B} {C} {D} first whole seen seen' e (Err other) gives none is = subst (λ (e : WordsError). Gives {A = C} {B = D} whole seen' (Err e)) (sym is) (at e gives)
  where
    at : (e : WordsError) → Gives {A = A} {B = B} first seen (Err e) → Gives {A = C} {B = D} whole seen' (Err e)
    at BadWords gives = none gives
    at NoMemory gives = tt
