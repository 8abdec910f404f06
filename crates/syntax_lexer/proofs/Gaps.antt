-- Separators.
use Rattle.std.proofs.Common.{◌≡◌, ℕ, suc, ◌+◌, ◌-◌, List, [], ◌∷◌, length, take, drop, get_or, ap, ◌∙◌, arith}
use Rattle.std.specs.Prelude.{IsTrue}
use Rattle.std.specs.List.{prefix_len, take_while}
use Rattle.std.proofs.lemmas.List.{take_all}
use Rattle.std.proofs.lemmas.List.Folds.{length-prefix_len}
use Rattle.syntax_lexer.specs.Bytes.{is_blank}
use Rattle.syntax_lexer.specs.Source.{is_in_line, IsSeparator}
use Rattle.syntax_lexer.specs.Source as source
use Rattle.syntax_lexer.proofs.Runs.{front_passes, front_stops}

pub blank_first : (s : List ℕ) → IsTrue (is_blank (get_or s 0 0)) → IsSeparator (take 1 s) (drop 1 s)
blank_first [] blank = absurd (cc)
blank_first (b ∷ s) blank = source.blank blank

pub comment_first : (s : List ℕ) (n : ℕ) → get_or s 0 0 ≡ 47 → get_or s 1 0 ≡ 47 → n ≡ length (take_while is_in_line (take (length s - 2) (drop 2 s)))
    → IsSeparator (take (2 + n) s) (drop (2 + n) s)
comment_first [] n first second is = absurd (omega arith)
comment_first (a ∷ []) n first second is = absurd (omega arith)
comment_first (a ∷ b ∷ s) n first second is =
    let all : take (length (a ∷ b ∷ s) - 2) s ≡ s = take_all (length (a ∷ b ∷ s) - 2) s (omega arith) in
    let len : n ≡ prefix_len is_in_line s = is ∙ ap (λ comment. length (take_while is_in_line comment)) all ∙ length-prefix_len is_in_line s in
    let two : 2 + n ≡ suc (suc n) = omega arith in
    rw (two, len, first, second) (source.comment (front_passes is_in_line s) (front_stops is_in_line s))
