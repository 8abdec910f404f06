-- A round over all datatypes.
use Rattle.std.proofs.Common.{◌≡◌, ℕ, ◌+◌, ◌<◌, ◌≤◌, Bool, true, false, not, cond, ◌&&◌, Option, Some, None, is_some, List, length, get_or, set, refl, sym, ap, ◌∙◌, subst, inl, inr, arith}
use Rattle.std.proofs.lemmas.Bool.{cases_lt, false≢true}
use Rattle.std.proofs.lemmas.List.{length-set, set-get_or}
use Rattle.spec_ir.specs.Environment.{or_else}
use Rattle.spec_declarations.specs.Counts.{count_in, AreSound, AreSettled, uncounted}
use Rattle.spec_declarations.proofs.Counting.{sound_set, uncounted_less}

differ : (k : ℕ) → Some k ≡ None → ⊥
differ k u = cc

module _ (graph : List (List ℕ)) (own : List (Option ℕ)) where
  -- a round from some counts, behind the first n datatypes
  pub record IsRound (old : List (Option ℕ)) (n : ℕ) (is_more : Bool) (counts : List (Option ℕ)) : Type 0 where
    pub width : length counts ≡ length graph
    pub sound : AreSound graph own old → AreSound graph own counts
    pub more : is_more ≡ true → uncounted counts < uncounted old
    pub same : is_more ≡ false → counts ≡ old
    pub settled : is_more ≡ false → AreSettled graph own counts n

  pub round_begins : (old : List (Option ℕ)) → length old ≡ length graph → IsRound old 0 false old
  round_begins old w = record {
    width = w;
    sound = λ s. s;
    more = λ e. absurd (false≢true e);
    same = λ e. refl;
    settled = λ e d l. absurd (omega (arith, l));
  }

  -- a datatype that has a count, or can have none, is left as it is
  round_skips : (old counts : List (Option ℕ)) (n : ℕ) (is_more : Bool) → (get_or counts n None ≡ None → count_in graph own counts n ≡ None)
      → IsRound old n is_more counts → IsRound old (n + 1) is_more counts
  round_skips old counts n is_more none h = record {
    width = h.width;
    sound = h.sound;
    more = h.more;
    same = h.same;
    settled = λ e d l u. elim (cases_lt d n) [ inl b ↦ h.settled e d b u | inr last ↦ subst (λ k. count_in graph own counts k ≡ None) (same d l last) (none (subst (λ k. get_or counts k None ≡ None) (sym (same d l last)) u)) ];
  }
    where
      same : (d : ℕ) → d < n + 1 → n ≤ d → n ≡ d
      same d l m = omega arith

  round_adds : (old counts : List (Option ℕ)) (n k : ℕ) (is_more : Bool) → n < length graph → get_or counts n None ≡ None → count_in graph own counts n ≡ Some k
      → IsRound old n is_more counts → IsRound old (n + 1) true (set counts n (Some k))
  round_adds old counts n k is_more l none is h = record {
    width = length-set counts n (Some k) ∙ h.width;
    sound = λ s. sound_set graph own counts n k within is (h.sound s);
    more = λ e. less (is_more_cases is_more refl);
    same = λ e. absurd (false≢true (sym e));
    settled = λ e. absurd (false≢true (sym e));
  }
    where
      within : n < length counts
      within = omega (arith, l, h.width)

      is_more_cases : (b : Bool) → is_more ≡ b → uncounted counts ≤ uncounted old
      is_more_cases true e = omega (arith, h.more e)
      is_more_cases false e = omega (arith, ap uncounted (h.same e))

      less : uncounted counts ≤ uncounted old → uncounted (set counts n (Some k)) < uncounted old
      less le = omega (arith, le, uncounted_less counts n k within none)

  -- one step of the code
  pub round_goes_on : (old counts new : List (Option ℕ)) (n : ℕ) (is_more added next : Bool) → n < length graph → IsRound old n is_more counts
      → new ≡ set counts n (or_else (get_or counts n None) (count_in graph own counts n))
      → added ≡ (not (is_some (get_or counts n None)) && is_some (count_in graph own counts n))
      → (added ≡ true → next ≡ true) → (added ≡ false → next ≡ is_more) → IsRound old (n + 1) next new
  round_goes_on old counts new n is_more added next l h c a t f =
      cases (get_or counts n None) (count_in graph own counts n) refl refl
    where
      result : (bs : List (Option ℕ)) (b : Bool) → new ≡ bs → next ≡ b → IsRound old (n + 1) b bs → IsRound old (n + 1) next new
      result bs b e g r = subst (λ x. IsRound old (n + 1) next x) (sym e) (subst (λ x. IsRound old (n + 1) x bs) (sym g) r)

      unchanged : (o : Option ℕ) → get_or counts n None ≡ o → set counts n o ≡ counts
      unchanged o e = ap (set counts n) (sym e) ∙ set-get_or counts n None

      cases : (o p : Option ℕ) → get_or counts n None ≡ o → count_in graph own counts n ≡ p → IsRound old (n + 1) next new
      cases (Some k) p e g =
          let kept : new ≡ counts = c ∙ ap (λ x. set counts n (or_else x (count_in graph own counts n))) e ∙ unchanged (Some k) e in
          let still : next ≡ is_more = f (a ∙ ap (λ x. not (is_some x) && is_some (count_in graph own counts n)) e) in
          result counts is_more kept still (round_skips old counts n is_more (λ u. absurd (differ k (sym e ∙ u))) h)
      cases None None e g =
          let kept : new ≡ counts = c ∙ ap (λ x. set counts n (or_else x (count_in graph own counts n))) e ∙ ap (set counts n) g ∙ unchanged None e in
          let still : next ≡ is_more = f (a ∙ ap (λ x. not (is_some x) && is_some (count_in graph own counts n)) e ∙ ap is_some g) in
          result counts is_more kept still (round_skips old counts n is_more (λ u. g) h)
      cases None (Some k) e g =
          let put : new ≡ set counts n (Some k) = c ∙ ap (λ x. set counts n (or_else x (count_in graph own counts n))) e ∙ ap (set counts n) g in
          let more : next ≡ true = t (a ∙ ap (λ x. not (is_some x) && is_some (count_in graph own counts n)) e ∙ ap is_some g) in
          result (set counts n (Some k)) true put more (round_adds old counts n k is_more l e g h)

-- while rounds add counts fewer are left, and the last adds none
pub measure_falls : (old new : ℕ) (added : Bool) → (added ≡ true → new < old) → (added ≡ false → new ≤ old) → new + cond (not added) 0 1 < old + 1
measure_falls old new true h k = omega (arith, h refl)
measure_falls old new false h k = omega (arith, k refl)
