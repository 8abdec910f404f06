-- The lines of segments, one further.
use Rattle.std.proofs.Common.{◌≡◌, ℕ, ◌+◌, List, ◌∷◌, ◌++◌, Option, Some, None, drop, map, option_map, slice_get, refl, sym, ap, ◌∙◌, append_assoc}
use Rattle.std.proofs.lemmas.List.{drop_more}
use Rattle.std.proofs.lemmas.Option.{get_or_from_slice_get, slice_get_within, slice_get-map}
use Rattle.code_image.specs.Image.{Segment, words_of}
use Rattle.text_tables.specs.Heads.{code_line, code_lines}

some_same : (j k : ℕ) → Some j ≡ Some k → j ≡ k
some_same j k same = cc

module _ (segments : List Segment) (i base words : ℕ) (all out new : List ℕ) (so_far : all ≡ out ++ code_lines (drop i segments)) (put : new ≡ out ++ code_line base words) where
  one_out : (found : Option Segment) → slice_get segments i ≡ found → option_map (λ s. s.base) found ≡ Some base → option_map words_of found ≡ Some words → all ≡ new ++ code_lines (drop (i + 1) segments)
  one_out None here based counted = absurd (cc)
  one_out (Some s) here based counted =
      let rest = code_lines (drop (i + 1) segments) in
      let item = get_or_from_slice_get segments i s s here in
      let next : drop i segments ≡ s ∷ drop (i + 1) segments = drop_more segments i s (slice_get_within segments i s here) ∙ ap (λ q. q ∷ drop (i + 1) segments) item in
      let line = ap (λ (b : ℕ). code_line b (words_of s)) (some_same s.base base based) ∙ ap (λ (n : ℕ). code_line base n) (some_same (words_of s) words counted) in
      so_far ∙ ap (λ (xs : List Segment). out ++ code_lines xs) next ∙ ap (λ (xs : List ℕ). out ++ (xs ++ rest)) line
      ∙ sym (ap (λ (xs : List ℕ). xs ++ rest) put ∙ append_assoc out (code_line base words) rest)

  -- a segment was appended
  pub segment_out : slice_get (map (λ s. s.base) segments) i ≡ Some base → slice_get (map words_of segments) i ≡ Some words → all ≡ new ++ code_lines (drop (i + 1) segments)
  segment_out based counted =
      one_out (slice_get segments i) refl (sym (slice_get-map (λ s. s.base) segments i) ∙ based) (sym (slice_get-map words_of segments i) ∙ counted)
