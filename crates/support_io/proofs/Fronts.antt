-- Fronts of lists of bytes, taken one after another.
use Rattle.std.proofs.Common.{◌≡◌, ℕ, ◌+◌, ◌≤◌, List, ◌++◌, length, take, drop, refl, sym, ap, ◌∙◌, arith, drop_at, drop-drop, append_assoc}
use Rattle.std.proofs.Math.Seq.{take-add}
use Rattle.support_io.specs.WholeRead.{TakesAtMost}

-- after a front, at most so many bytes more were taken
pub takes_more : (front mid new whole : List ℕ) (most limit : ℕ) → front ++ mid ≡ whole → TakesAtMost most mid new → length front + most ≤ limit → TakesAtMost limit whole new
takes_more front mid new whole most limit whole_is more fits = (
  length front + more.0,
  omega arith,
  more.2 ∙ ap (λ (bytes : List ℕ). drop more.0 bytes) (sym (drop_at front mid (length front) refl))
      ∙ drop-drop more.0 (length front) (front ++ mid) ∙ ap (λ (bytes : List ℕ). drop (length front + more.0) bytes) whole_is,
)

-- a front was written, and then a front of the rest
pub written_more : (before mid after bytes : List ℕ) (count more : ℕ) → mid ≡ before ++ take count bytes → after ≡ mid ++ take more (drop count bytes) → after ≡ before ++ take (count + more) bytes
written_more before mid after bytes count more mid_is after_is =
    after_is ∙ ap (λ (front : List ℕ). front ++ take more (drop count bytes)) mid_is
    ∙ append_assoc before (take count bytes) (take more (drop count bytes))
    ∙ ap (λ (front : List ℕ). before ++ front) (sym (take-add count more bytes))
