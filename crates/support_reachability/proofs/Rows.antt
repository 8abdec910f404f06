-- Rows of a table, one after another.
use Rattle.std.proofs.Common.{◌≡◌, ℕ, ◌+◌, ◌<◌, ◌≤◌, Bool, false, List, [], ◌∷◌, ◌++◌, length, get_or, refl, sym, ap, ◌∙◌, subst, inl, inr, arith}
use Rattle.std.proofs.lemmas.Bool.{cases_lt, false≢true}
use Rattle.std.proofs.lemmas.List.{get_or_past, get_or_append_left, get_or_push, length_push}
use Rattle.support_reachability.specs.Marks.{AreReached}
use Rattle.support_reachability.specs.Table.{IsTableOf}
use Rattle.support_reachability.proofs.Searching.{leads}

-- the rows of the first n nodes
pub record AreRows (graph : List (List ℕ)) (n : ℕ) (rows : List (List Bool)) : Type 0 where
  pub height : length rows ≡ n
  pub each : (a : ℕ) → a < n → AreReached graph a (get_or rows a [])

pub no_rows : (graph : List (List ℕ)) → AreRows graph 0 []
no_rows graph = record { height = refl; each = λ a l. absurd (omega (arith, l)) }

pub rows_more : (graph : List (List ℕ)) (n : ℕ) (rows : List (List Bool)) (row : List Bool) → AreRows graph n rows → AreReached graph n row → AreRows graph (n + 1) (rows ++ row ∷ [])
rows_more graph n rows row h r = record {
  height = length_push rows row ∙ ap (λ k. k + 1) h.height;
  each = λ a l. elim (cases_lt a n) [
    | inl b ↦ subst (AreReached graph a) (sym (get_or_append_left rows (row ∷ []) [] a (within a b))) (h.each a b)
    | inr last ↦ subst (λ k. AreReached graph k (get_or (rows ++ row ∷ []) k [])) (same a l last) (subst (AreReached graph n) (sym (get_or_push rows row [] n h.height)) r)
  ];
}
  where
    within : (a : ℕ) → a < n → a < length rows
    within a b = omega (arith, b, h.height)

    same : (a : ℕ) → a < n + 1 → n ≤ a → n ≡ a
    same a l m = omega (arith, l, m)

pub all_rows : (graph : List (List ℕ)) (rows : List (List Bool)) → AreRows graph (length graph) rows → IsTableOf graph rows
all_rows graph rows h = record {
  height = h.height;
  width = λ a inside. (h.each a inside).width;
  entries = λ a b l. elim (cases_lt a (length graph)) [
    | inl inside ↦ (h.each a inside).exactly b l
    | inr past ↦ (
      λ says. absurd (false≢true (sym (ap (λ row. get_or row b false) (get_or_past rows a [] (out a past))) ∙ says)),
      λ p. absurd (omega (arith, leads graph a b p, past)),
    )
  ];
}
  where
    out : (a : ℕ) → length graph ≤ a → length rows ≤ a
    out a past = omega (arith, past, h.height)
