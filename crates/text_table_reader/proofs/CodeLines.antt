-- The lines of code, one after another.
use Rattle.std.proofs.Common.{◌≡◌, ℕ, ◌+◌, List, [], ◌∷◌, length, Option, Some, None, Result, Ok, Err, drop, map, option_map, slice_get, refl, sym, ap, subst, ◌∙◌, arith}
use Rattle.std.specs.Borrow.{Bor}
use Rattle.std.proofs.lemmas.List.{drop_more}
use Rattle.std.proofs.lemmas.Option.{get_or_from_slice_get, same_Some, slice_get_within, slice_get-map}
use Rattle.code_image.specs.declared.order.Order.{Order}
use Rattle.code_image.specs.declared.order.Order.TheVariants.{Big, Little}
use Rattle.code_image.specs.Image.{Segment, words_of}
use Rattle.text_lines.specs.Lines.{Lines, lines}
use Rattle.text_tables.specs.Heads.{code_line}
use Rattle.text_table_reader.specs.declared.head.Place.TheVariants.{Code}
use Rattle.text_table_reader.specs.declared.head.HeadStop.{HeadStop}
use Rattle.text_table_reader.specs.declared.head.HeadStop.TheVariants.{At, NoMemory}
use Rattle.text_table_reader.specs.Heads.{Faulty, exact, read_codes, read_one_of, then_lines}
use Rattle.text_table_reader.specs.Views.{Leaves}

-- what is refused stays refused
stopped : (stop : HeadStop) (read : Result Lines Faulty) (next : Lines → Result Lines Faulty) → Leaves (Err stop) read → Leaves (Err stop) (then_lines read next)
stopped (At rule left) read next h = rw h refl
stopped NoMemory read next h = tt

module _ (segments : List Segment) (i base words : ℕ) (based : slice_get (map (λ s. s.base) segments) i ≡ Some base) (counted : slice_get (map words_of segments) i ≡ Some words) (ls : Lines) where
  abbrev Step : Type 0
  Step = read_codes (drop i segments) ls ≡ then_lines (exact (code_line base words) Code ls) (read_codes (drop (i + 1) segments))

  step_at : (found : Option Segment) → slice_get segments i ≡ found → option_map (λ s. s.base) found ≡ Some base → option_map words_of found ≡ Some words → Step
  step_at None here based counted = absurd (cc)
  step_at (Some s) here based counted =
      let item = get_or_from_slice_get segments i s s here in
      let next : drop i segments ≡ s ∷ drop (i + 1) segments = drop_more segments i s (slice_get_within segments i s here) ∙ ap (λ q. q ∷ drop (i + 1) segments) item in
      ap (λ q. read_codes q ls) next
      ∙ ap (λ b. then_lines (exact (code_line b (words_of s)) Code ls) (read_codes (drop (i + 1) segments))) (same_Some s.base base based)
      ∙ ap (λ n. then_lines (exact (code_line base n) Code ls) (read_codes (drop (i + 1) segments))) (same_Some (words_of s) words counted)

  -- the line of a segment, and those behind it
  code_step : Step
  code_step = step_at (slice_get segments i) refl (sym (slice_get-map (λ s. s.base) segments i) ∙ based) (sym (slice_get-map words_of segments i) ∙ counted)

  module _ (all : Result Lines Faulty) (wanted : List ℕ) (so_far : all ≡ read_codes (drop i segments) ls) (is : wanted ≡ code_line base words) where
    pub code_stopped : (stop : HeadStop) → Leaves (Err stop) (exact wanted Code ls) → Leaves (Err stop) all
    code_stopped stop h =
        subst (Leaves (Err stop)) (sym (so_far ∙ code_step))
        (stopped stop (exact (code_line base words) Code ls) (read_codes (drop (i + 1) segments)) (subst (λ w. Leaves (Err stop) (exact w Code ls)) is h))

    pub code_read : (rest : Bor (List ℕ)) → Leaves (Ok rest) (exact wanted Code ls) → all ≡ read_codes (drop (i + 1) segments) (lines rest.now)
    code_read rest h =
        so_far ∙ code_step ∙ ap (λ r. then_lines r (read_codes (drop (i + 1) segments))) (ap (λ w. exact w Code ls) (sym is) ∙ h)

-- of one segment in big order, the line of its code is wanted
pub one_segment : (order : Order) (segments : List Segment) (base words : ℕ) → order ≡ Big → length segments ≡ 1 → slice_get (map (λ s. s.base) segments) 0 ≡ Some base → slice_get (map words_of segments) 0 ≡ Some words
    → (ls : Lines) → read_one_of order segments ls ≡ exact (code_line base words) Code ls
one_segment Little segments base words big one based counted ls = absurd (cc)
one_segment Big [] base words big one based counted ls = absurd (omega (arith, one))
one_segment Big (s ∷ t ∷ segments) base words big one based counted ls = absurd (omega (arith, one))
one_segment Big (s ∷ []) base words big one based counted ls =
    ap (λ b. exact (code_line b (words_of s)) Code ls) (same_Some s.base base based) ∙ ap (λ n. exact (code_line base n) Code ls) (same_Some (words_of s) words counted)
