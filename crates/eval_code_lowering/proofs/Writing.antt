-- Arms that are lowered one after another.
use Rattle.std.proofs.Common.{◌≡◌, ℕ, suc, ◌+◌, ◌<◌, ◌≤◌, List, [], ◌∷◌, ◌++◌, map, drop, take, get_or, length, refl, sym, ap, ◌∙◌, subst, arith}
use Rattle.std.proofs.lemmas.List.{drop_all, map-append, take_more}
use Rattle.spec_match_compiler.proofs.Loops.{drop_here}
use Rattle.spec_match_compiler.specs.Decisions.{Decision}
use Rattle.spec_ir.specs.CoreTerms.{Core, cores}
use Rattle.eval_code.specs.Code.{Stretch, Stretches, no_stretch, stretch_then, stretches, Tail, Tails, no_tail, tail_then, tails}
use Rattle.eval_code.specs.Lowered.{lowered, lowered_arms, lowered_tail, lowered_tails, slots_from, stretch_of, tail_of, taken}
use Rattle.eval_code_lowering.specs.Writing.{stretches_onto, tails_onto}

onto_more : (ss : List Stretch) (s : Stretch) (rest : Stretches) → stretches_onto (ss ++ s ∷ []) rest ≡ stretches_onto ss (stretch_then s rest)
onto_more [] s rest = refl
onto_more (x ∷ ss) s rest = ap (stretch_then x) (onto_more ss s rest)

pub onto_none : (ss : List Stretch) → stretches_onto ss no_stretch ≡ stretches ss
onto_none [] = refl
onto_none (x ∷ ss) = ap (stretch_then x) (onto_none ss)

tails_more : (ss : List Tail) (s : Tail) (rest : Tails) → tails_onto (ss ++ s ∷ []) rest ≡ tails_onto ss (tail_then s rest)
tails_more [] s rest = refl
tails_more (x ∷ ss) s rest = ap (tail_then x) (tails_more ss s rest)

pub tails_none : (ss : List Tail) → tails_onto ss no_tail ≡ tails ss
tails_none [] = refl
tails_none (x ∷ ss) = ap (tail_then x) (tails_none ss)

module _ {T S : Type 0} (core : T → Core) (stretch : S → Stretch) (scope inner : List ℕ) (d e : ℕ) (by : Decision) where
  -- one more arm
  pub arm_step : (ts : List T) (out new : List S) (arm : S) (t : T) (i count : ℕ) (whole : Stretches) → i < length ts → t ≡ get_or ts i t → new ≡ out ++ arm ∷ [] → inner ≡ scope → e ≡ d → count ≡ taken i by
      → stretch arm ≡ stretch_of (lowered (inner ++ slots_from e count) (e + count) (core t))
      → stretches_onto (map stretch out) (lowered_arms scope d by i (cores (map core (drop i ts)))) ≡ whole → stretches_onto (map stretch new) (lowered_arms scope d by (i + 1) (cores (map core (drop (i + 1) ts)))) ≡ whole
  arm_step ts out new arm t i count whole lt is pushed same next_is taken_is made h =
      let next : suc i ≡ i + 1 = omega arith in
      let rest = lowered_arms scope d by (i + 1) (cores (map core (drop (i + 1) ts))) in
      let arm_is : stretch arm ≡ stretch_of (lowered (scope ++ slots_from d (taken i by)) (d + taken i by) (core t)) = subst (λ z. stretch arm ≡ stretch_of (lowered (z ++ slots_from d (taken i by)) (d + taken i by) (core t))) same (subst (λ z. stretch arm ≡ stretch_of (lowered (inner ++ slots_from z (taken i by)) (z + taken i by) (core t))) next_is (subst (λ z. stretch arm ≡ stretch_of (lowered (inner ++ slots_from e z) (e + z) (core t))) taken_is made)) in
      let left : lowered_arms scope d by i (cores (map core (drop i ts))) ≡ stretch_then (stretch arm) rest =
      ap (λ z. lowered_arms scope d by i (cores (map core z))) (drop_here ts i t is lt)
      ∙ ap (λ z. stretch_then (stretch_of (lowered (scope ++ slots_from d (taken i by)) (d + taken i by) (core t))) (lowered_arms scope d by z (cores (map core (drop (i + 1) ts))))) next
      ∙ ap (λ z. stretch_then z rest) (sym arm_is) in
      ap (λ z. stretches_onto (map stretch z) rest) pushed ∙ ap (λ z. stretches_onto z rest) (map-append stretch out (arm ∷ [])) ∙ onto_more (map stretch out) (stretch arm) rest ∙ ap (stretches_onto (map stretch out)) (sym left) ∙ h

  -- no arm is left
  pub arms_end : (ts : List T) (out : List S) (i : ℕ) (whole : Stretches) → length ts ≤ i → stretches_onto (map stretch out) (lowered_arms scope d by i (cores (map core (drop i ts)))) ≡ whole → stretches (map stretch out) ≡ whole
  arms_end ts out i whole le h = sym (onto_none (map stretch out)) ∙ ap (λ z. stretches_onto (map stretch out) (lowered_arms scope d by i (cores (map core z)))) (sym (drop_all i ts le)) ∙ h

module _ {T S : Type 0} (core : T → Core) (tail : S → Tail) (group : ℕ → ℕ) (g : ℕ) (scope inner : List ℕ) (d e : ℕ) (by : Decision) where
  pub tail_step : (ts : List T) (out new : List S) (arm : S) (t : T) (i count : ℕ) (whole : Tails) → i < length ts → t ≡ get_or ts i t → new ≡ out ++ arm ∷ [] → inner ≡ scope → e ≡ d → count ≡ taken i by
      → tail arm ≡ tail_of (lowered_tail group g (inner ++ slots_from e count) (e + count) (core t))
      → tails_onto (map tail out) (lowered_tails group g scope d by i (cores (map core (drop i ts)))) ≡ whole → tails_onto (map tail new) (lowered_tails group g scope d by (i + 1) (cores (map core (drop (i + 1) ts)))) ≡ whole
  tail_step ts out new arm t i count whole lt is pushed same next_is taken_is made h =
      let next : suc i ≡ i + 1 = omega arith in
      let rest = lowered_tails group g scope d by (i + 1) (cores (map core (drop (i + 1) ts))) in
      let arm_is : tail arm ≡ tail_of (lowered_tail group g (scope ++ slots_from d (taken i by)) (d + taken i by) (core t)) = subst (λ z. tail arm ≡ tail_of (lowered_tail group g (z ++ slots_from d (taken i by)) (d + taken i by) (core t))) same (subst (λ z. tail arm ≡ tail_of (lowered_tail group g (inner ++ slots_from z (taken i by)) (z + taken i by) (core t))) next_is (subst (λ z. tail arm ≡ tail_of (lowered_tail group g (inner ++ slots_from e z) (e + z) (core t))) taken_is made)) in
      let left : lowered_tails group g scope d by i (cores (map core (drop i ts))) ≡ tail_then (tail arm) rest =
      ap (λ z. lowered_tails group g scope d by i (cores (map core z))) (drop_here ts i t is lt)
      ∙ ap (λ z. tail_then (tail_of (lowered_tail group g (scope ++ slots_from d (taken i by)) (d + taken i by) (core t))) (lowered_tails group g scope d by z (cores (map core (drop (i + 1) ts))))) next
      ∙ ap (λ z. tail_then z rest) (sym arm_is) in
      ap (λ z. tails_onto (map tail z) rest) pushed ∙ ap (λ z. tails_onto z rest) (map-append tail out (arm ∷ [])) ∙ tails_more (map tail out) (tail arm) rest ∙ ap (tails_onto (map tail out)) (sym left) ∙ h

  pub tails_end : (ts : List T) (out : List S) (i : ℕ) (whole : Tails) → length ts ≤ i → tails_onto (map tail out) (lowered_tails group g scope d by i (cores (map core (drop i ts)))) ≡ whole → tails (map tail out) ≡ whole
  tails_end ts out i whole le h = sym (tails_none (map tail out)) ∙ ap (λ z. tails_onto (map tail out) (lowered_tails group g scope d by i (cores (map core z)))) (sym (drop_all i ts le)) ∙ h

-- one more of a list
pub one_made : {T S P R : Type 0} (f : S → R) (g : P → R) (view : T → P) (xs : List T) (out new : List S) (s : S) (x : T) (i : ℕ) → i < length xs → x ≡ get_or xs i x → new ≡ out ++ s ∷ [] → f s ≡ g (view x)
    → map f out ≡ map g (map view (take i xs)) → map f new ≡ map g (map view (take (i + 1) xs))
one_made f g view xs out new s x i lt is pushed made h =
    ap (map f) pushed ∙ map-append f out (s ∷ []) ∙ ap (λ z. z ++ f s ∷ []) h ∙ ap (λ z. map g (map view (take i xs)) ++ z ∷ []) (made ∙ ap (λ z. g (view z)) is)
    ∙ sym (map-append g (map view (take i xs)) (view (get_or xs i x) ∷ [])) ∙ ap (map g) (sym (map-append view (take i xs) (get_or xs i x ∷ []))) ∙ ap (λ z. map g (map view z)) (sym (take_more xs i x lt))
