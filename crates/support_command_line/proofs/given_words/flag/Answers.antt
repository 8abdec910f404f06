use Rattle.std.proofs.Common.{ℕ, Bool, false, List, ap, codes, sym, ◌∙◌}
use Rattle.std.specs.Option.{option_map_or}
use Rattle.std.specs.Prelude.{Option, bytes_eq}
use Rattle.clap.proofs.WalkLemmas.{first_value-rows}
use Rattle.clap.specs.Words.{first_of, found_of, rows_of}
use Rattle.support_command_line.specs.Views.{borrowed_text}
use Rattle.support_command_line.proofs.given_words.flag.Goals as goal

abbrev is_true : Option (List ℕ) → Bool
is_true text = option_map_or (λ text. bytes_eq text (codes "true")) text false

pub returns-in-Some : goal.returns-in-Some
returns-in-Some c =
    let found = found_of c.args.matches.now in
    let read = c.get_str.ensures ∙ first_value-rows found c.name.result.now ∙ ap (λ (id : List ℕ). first_of id (rows_of found)) c.name.ensures in
    c.eq.ensures ∙ ap (λ text. is_true (borrowed_text text)) (sym c.in-Some.is) ∙ ap is_true read

pub returns-in-None : goal.returns-in-None
returns-in-None c =
    let found = found_of c.args.matches.now in
    let read = c.get_str.ensures ∙ first_value-rows found c.name.result.now ∙ ap (λ (id : List ℕ). first_of id (rows_of found)) c.name.ensures in
    ap (λ text. is_true (borrowed_text text)) (sym c.in-None.is) ∙ ap is_true read
