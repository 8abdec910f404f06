-- The line in front of a part.
use Rattle.std.proofs.Common.{◌≡◌, ℕ, true, List, [], ◌∷◌, ◌++◌, Some, None, codes, if◌then◌else◌, refl, sym, ap, ◌∙◌, append_assoc}
use Rattle.std.specs.Prelude.{bytes_eq}
use Rattle.std.specs.List.{list_all}
use Rattle.std.proofs.lemmas.Option.{cond_some}
use Rattle.std.proofs.lemmas.Slice.Eq.{bytes_eq-Decides}
use Rattle.text_words.specs.Fronts.{behind_tells, same_bytes}
use Rattle.text_words.specs.Options.{followed}
use Rattle.text_words.specs.Reading.{behind}
use Rattle.text_lines.specs.Lines.{Lines, is_inside, lines}
use Rattle.text_lines.specs.Outcomes.{Reading, one}
use Rattle.text_lines.proofs.Steps.{continued, one_taken}
use Rattle.text_lines.proofs.TextOfLines.{line_of_text}
use Rattle.text_elements.specs.Parts.{part_line}
use Rattle.text_part_readers.specs.Parts.{part_read, part_said}
use Rattle.text_round_trips.specs.RoundTrips.{AreInFront}
use Rattle.text_round_trips.proofs.Fronts.{line_in_front}

said_told : (name line : List ℕ) (u : Unit {0}) → part_said name line ≡ Some u → line ++ 10 ∷ [] ≡ part_line name
said_told name line u e =
    let said = followed (λ rest. if bytes_eq rest name then Some tt else None) (behind (codes "part ") line) u e in
    let same = cond_some (bytes_eq said.from name) tt u said.gives in
    ap (λ (t : List ℕ). t ++ 10 ∷ []) (sym (behind_tells (codes "part ") line said.from said.is)) ∙ ap (λ (t : List ℕ). codes "part " ++ (t ++ 10 ∷ [])) ((bytes_eq-Decides said.from name).0 same.0)

-- The line of the part, and what is read behind it.
pub record PartBegun {X : Type 0} (name : List ℕ) (read : Lines → Reading X) (ls : Lines) (x : X) (rest : Lines) : Type 0 where
  pub others : Lines
  pub in_front : AreInFront (λ t. t ≡ part_line name) ls others
  pub gives : read others ≡ (Some x, rest)

pub part_begun : {X : Type 0} (name : List ℕ) (read : Lines → Reading X) (ls : Lines) (x : X) (rest : Lines) → part_read name read ls ≡ (Some x, rest) → PartBegun name read ls x rest
part_begun name read ls x rest h =
    let then_ = continued (one (part_said name) ls) (λ named others. read others) x rest h in
    let first = one_taken (part_said name) ls then_.behind then_.found then_.is in
    record { others = then_.behind; in_front = line_in_front (λ t. t ≡ part_line name) first.0 ls then_.behind first.1 (said_told name first.0 then_.found first.2); gives = then_.gives }

said_back : (name : List ℕ) → part_said name (codes "part " ++ name) ≡ Some tt
said_back name = rw (same_bytes name) refl

-- the line of a part that was written is read
pub part_lines : {X : Type 0} (name : List ℕ) (read : Lines → Reading X) (body more : List ℕ) → list_all is_inside name ≡ true → part_read name read (lines ((part_line name ++ body) ++ more)) ≡ read (lines (body ++ more))
part_lines name read body more inside =
    let seen : (part_line name ++ body) ++ more ≡ (codes "part " ++ name) ++ 10 ∷ (body ++ more) =
    append_assoc (part_line name) body more ∙ ap (λ (t : List ℕ). codes "part " ++ t) (append_assoc name (codes "\n") (body ++ more)) in
    let first : lines ((part_line name ++ body) ++ more) ≡ Some (codes "part " ++ name) ∷ lines (body ++ more) = ap lines seen ∙ line_of_text (codes "part " ++ name) (body ++ more) inside in
    rw (first, said_back name) refl
