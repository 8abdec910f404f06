use Rattle.std.proofs.Common.{ℕ, List, [], Bor, Vec, Global, codes, ap, sym, ◌∙◌, ◌≡◌}
use Rattle.std.specs.Prelude.{Option, option_map, unwrap_or}
use Rattle.std.proofs.lemmas.Result.{IfOk-weaker}
use Rattle.clap.proofs.WalkLemmas.{raw_values-rows}
use Rattle.clap.specs.Words.{all_of, found_of, rows_of}
use Rattle.support_command_line.specs.Views.{borrowed}
use Rattle.support_command_line.proofs.given_words.words_after.Goals as goal

pub returns-in-Some : goal.returns-in-Some
returns-in-Some c =
    let rows = rows_of (found_of c.args.matches.now) in
    let all = c.get_raw.ensures ∙ raw_values-rows (found_of c.args.matches.now) (codes "words") in
    let here : borrowed c.in-Some.words.now ≡ unwrap_or (all_of (codes "words") rows) [] =
    ap (λ (found : Option (Bor (List (Bor (List ℕ))))). unwrap_or (option_map (λ (s : Bor (List (Bor (List ℕ)))). borrowed s.now) found) []) (sym c.in-Some.is) ∙ ap (λ (found : Option (List (List ℕ))). unwrap_or found []) all in
    IfOk-weaker c.from_slice.result _ _ (λ (v : Vec (Bor (List ℕ)) Global) h. ap borrowed h ∙ here) c.from_slice.ensures.items

pub returns-in-None : goal.returns-in-None
returns-in-None c =
    let rows = rows_of (found_of c.args.matches.now) in
    let all = c.get_raw.ensures ∙ raw_values-rows (found_of c.args.matches.now) (codes "words") in
    let here : [] ≡ unwrap_or (all_of (codes "words") rows) [] =
    ap (λ (found : Option (Bor (List (Bor (List ℕ))))). unwrap_or (option_map (λ (s : Bor (List (Bor (List ℕ)))). borrowed s.now) found) []) (sym c.in-None.is) ∙ ap (λ (found : Option (List (List ℕ))). unwrap_or found []) all in
    ap borrowed c.new.ensures.items ∙ here
