-- What is given, by what `clap` says of the words.
use Rattle.std.proofs.Common.{◌≡◌, refl, ℕ, Bool, List, [], ◌∷◌, true, false, ap, sym, subst, inl, inr, length, arith, ne_eqb, suc}
use Rattle.std.specs.Prelude.{Some, None, if◌then◌else◌}
use Rattle.clap.specs.Words.{App, HasKind, HasMatchesOf, IsAmong, Kinds, fault_of, found_of, is_simple, is_simple_and_free, kind_of, matches_of, rows_of}
use Rattle.clap.specs.Walk.{is_empty}
use Rattle.clap.specs.declared.error.Error.{Error}
use Rattle.clap.specs.declared.error.kind.ErrorKind.{ErrorKind}
use Rattle.clap.specs.declared.error.kind.ErrorKind.TheVariants.{OutOfMemory}
use Rattle.clap.specs.declared.parser.matches.ArgMatches.{ArgMatches}
use Rattle.support_command_line.specs.CommandLine.{GivenWords, command_line, given_by, given_in}

-- two that agree in each part are the same
pub same_given : (a b : GivenWords) → a.command ≡ b.command → a.words ≡ b.words → a.at ≡ b.at → a.order ≡ b.order → a.steps ≡ b.steps → a.calls ≡ b.calls → a.limit ≡ b.limit → a.base ≡ b.base → a.widen ≡ b.widen → a.cases ≡ b.cases → a.open ≡ b.open → a ≡ b
same_given a b command words at order steps calls limit base widen cases opens = rw (command, words, at, order, steps, calls, limit, base, widen, cases, opens) refl

-- the command line is one of those of which `clap` says the matches and the faults
pub line_is_simple : (line : App) → line ≡ command_line → is_simple_and_free line ≡ true
line_is_simple line is = ap is_simple_and_free is

pub line_has_matches : (line : App) → line ≡ command_line → is_simple line ≡ true
line_has_matches line is = ap is_simple is

some_kind : (kinds : Kinds) (kind : ErrorKind) → IsAmong kind kinds → is_empty kinds ≡ false
some_kind [] kind among = absurd among
some_kind (k ∷ ks) kind among = ne_eqb (suc (length ks)) 0 (λ e. absurd (omega arith))

-- what clap finds in the words that it takes is given
pub taken : (line : App) (words : List (List ℕ)) (m : ArgMatches) → line ≡ command_line → HasMatchesOf line words m → fault_of line words ≡ []
    → given_in words ≡ Some (given_by (rows_of (found_of m)))
unfolding given_in
taken line words m is matches none =
    let no_fault : fault_of command_line words ≡ [] = subst (λ (line : App). fault_of line words ≡ []) is none in
    let found : rows_of (found_of m) ≡ matches_of command_line words = subst (λ (line : App). rows_of (found_of m) ≡ matches_of line words) is (matches (line_has_matches line is)).0 in
    subst (λ (kinds : Kinds). (if is_empty kinds then Some (given_by (matches_of command_line words)) else None) ≡ Some (given_by (rows_of (found_of m)))) (sym no_fault)
    (ap (λ rows. Some (given_by rows)) (sym found))

-- nothing is given by words with a fault
pub refused : (line : App) (words : List (List ℕ)) (error : Error) → line ≡ command_line → HasKind (fault_of line words) error → (kind_of error ≡ OutOfMemory → ⊥)
    → given_in words ≡ None
unfolding given_in
refused line words error is has other =
    let some : is_empty (fault_of command_line words) ≡ false = subst (λ (line : App). is_empty (fault_of line words) ≡ false) is
    (elim has [ inl memory ↦ absurd (other memory) | inr among ↦ some_kind (fault_of line words) (kind_of error) among ]) in
    ap (λ (b : Bool). if b then Some (given_by (matches_of command_line words)) else None) some
