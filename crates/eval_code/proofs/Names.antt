-- Slots of a frame that have the values of variables.
use Rattle.std.proofs.Common.{◌≡◌, ℕ, zero, suc, ◌+◌, ◌<◌, List, [], ◌∷◌, ◌++◌, Some, length, slice_get, refl, sym, ap, ◌∙◌, subst, arith, append_assoc, length-append}
use Rattle.spec_match_compiler.specs.Decisions.{Decision}
use Rattle.eval_code.specs.Lowered.{slot_of, slots_from, taken}

module _ {A : Type 0} where
  abbrev pub Extends : List A → List A → Type 0
  Extends xs ys = (more : List A) × (ys ≡ xs ++ more)

  pub get_append : (xs more : List A) (n : ℕ) (p : A) → slice_get xs n ≡ Some p → slice_get (xs ++ more) n ≡ Some p
  get_append [] more n p h = absurd cc
  get_append (x ∷ xs) more zero p h = h
  get_append (x ∷ xs) more (suc n) p h = get_append xs more n p h

  pub get_last : (xs : List A) (p : A) (more : List A) → slice_get (xs ++ p ∷ more) (length xs) ≡ Some p
  get_last [] p more = refl
  get_last (x ∷ xs) p more = get_last xs p more

  pub get_extends : (xs ys : List A) (n : ℕ) (p : A) → Extends xs ys → slice_get xs n ≡ Some p → slice_get ys n ≡ Some p
  get_extends xs ys n p e h = subst (λ z. slice_get z n ≡ Some p) (sym e.1) (get_append xs e.0 n p h)

  pub extends_on : (xs ys zs : List A) → Extends xs ys → Extends ys zs → Extends xs zs
  extends_on xs ys zs e f = (e.0 ++ f.0, f.1 ∙ ap (λ l. l ++ f.0) e.1 ∙ append_assoc xs e.0 f.0)

  -- The slots have these values.
  abbrev pub Names : List A → List ℕ → List A → Type 0
  Names frame [] [] = Unit {0}
  Names frame (s ∷ ss) (p ∷ ps) = (slice_get frame s ≡ Some p) × Names frame ss ps
  Names frame _ _ = ⊥

  pub names_extends : (xs ys : List A) (ss : List ℕ) (ps : List A) → Extends xs ys → Names xs ss ps → Names ys ss ps
  names_extends xs ys [] [] e h = h
  names_extends xs ys [] (p ∷ ps) e h = absurd h
  names_extends xs ys (s ∷ ss) [] e h = absurd h
  names_extends xs ys (s ∷ ss) (p ∷ ps) e h = (get_extends xs ys s p e h.0, names_extends xs ys ss ps e h.1)

  pub names_append : (frame : List A) (ss : List ℕ) (ps : List A) (ts : List ℕ) (qs : List A) → Names frame ss ps → Names frame ts qs → Names frame (ss ++ ts) (ps ++ qs)
  names_append frame [] [] ts qs h k = k
  names_append frame [] (p ∷ ps) ts qs h k = absurd h
  names_append frame (s ∷ ss) [] ts qs h k = absurd h
  names_append frame (s ∷ ss) (p ∷ ps) ts qs h k = (h.0, names_append frame ss ps ts qs h.1 k)

  -- the value of a variable that is in scope stands in its slot
  pub names_at : (frame : List A) (ss : List ℕ) (ps : List A) (n : ℕ) → Names frame ss ps → n < length ss → (p : A) × (slice_get ps n ≡ Some p) × (slice_get frame (slot_of ss n) ≡ Some p)
  names_at frame [] ps n h lt = absurd (omega arith)
  names_at frame (s ∷ ss) [] n h lt = absurd h
  names_at frame (s ∷ ss) (p ∷ ps) zero h lt = (p, refl, h.0)
  names_at frame (s ∷ ss) (p ∷ ps) (suc n) h lt = names_at frame ss ps n h.1 (omega arith)

  -- values behind a frame stand in the slots from its length on
  pub names_new : (frame vs : List A) (d n : ℕ) → length frame ≡ d → length vs ≡ n → Names (frame ++ vs) (slots_from d n) vs
  names_new frame [] d n long count = subst (λ z. Names (frame ++ []) (slots_from d z) []) count tt
  names_new frame (v ∷ vs) d n long count =
      let more = names_new (frame ++ v ∷ []) vs (suc d) (length vs) (length-append frame (v ∷ []) ∙ omega arith) refl in
      subst (λ z. Names (frame ++ v ∷ vs) (slots_from d z) (v ∷ vs)) count
      (subst (λ z. slice_get (frame ++ v ∷ vs) z ≡ Some v) long (get_last frame v vs), subst (λ z. Names z (slots_from (suc d) (length vs)) vs) (append_assoc frame (v ∷ []) vs) more)

pub slots_long : (d n : ℕ) → length (slots_from d n) ≡ n
slots_long d zero = refl
slots_long d (suc n) = ap suc (slots_long (suc d) n)

-- how many slots there are, behind one more and behind those of an arm
pub one_more : (scope : List ℕ) (s : ℕ) → suc (length scope) ≡ length (scope ++ s ∷ [])
one_more scope s = sym (length-append scope (s ∷ []) ∙ omega arith)

pub arm_more : (scope : List ℕ) (d k n : ℕ) → n ≡ k → length scope + n ≡ length (scope ++ slots_from d k)
arm_more scope d k n e = ap (λ z. length scope + z) (e ∙ sym (slots_long d k)) ∙ sym (length-append scope (slots_from d k))

-- numbers from 0 on
pub from_zero : (by : Decision) (k q : ℕ) → k ≡ taken q by → k ≡ taken (0 + q) by
from_zero by k q h = let none : 0 + q ≡ q = omega arith in subst (λ z. k ≡ taken z by) (sym none) h
