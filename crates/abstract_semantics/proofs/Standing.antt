-- Abstract values that stand for concrete ones: they describe them, and where all is exact they are single.
use Rattle.std.proofs.Common.{◌≡◌, ℕ, zero, suc, Bool, true, false, cond, List, [], ◌∷◌, ◌++◌, Option, Some, None, option_map, refl, subst, arith, IsTrue}
use Rattle.std.specs.Prelude.{◌==◌, option_and_then}
use Rattle.std.proofs.lemmas.Bool.Decides.{nat_tests}
use Rattle.std.proofs.lemmas.Option.{same_Some as some_same}
use Rattle.base_trait.specs.Algebra.{Algebra}
use Rattle.spec_match_compiler.specs.Values.{Place, Value, value_at, part_at}
use Rattle.semantics.specs.Steps.{shown, all_shown}
use Rattle.semantics_values.specs.Values as v
use Rattle.semantics_values.specs.Values.{Val, Vals}
use Rattle.semantics_laws.specs.Places.{val_at, val_in, vals_named}
use Rattle.abstract_value_laws.specs.Abs.{Abs, Cases, Parts, flag, word, made, map, no_case, absent, present, no_part, part}
use Rattle.abstract_value_laws.specs.Describes.{Describes, CaseDescribes, PartsDescribe}
use Rattle.abstract_semantics.specs.Choices.{abs_at, abs_in, abs_part, abs_named}
use Rattle.abstract_semantics.specs.Sound.{IsSingle, IsSingleCase, AreSingle, AreAbsent}

-- ---- what stands at a place of a value as patterns see it
pub record ShownAt (place : Place) (p : Val) (u : Value) : Type 0 where
  pub value : Val
  pub is : val_at place p ≡ Some value
  pub seen : shown value ≡ u

record ShownIn (place : Place) (i : ℕ) (ps : Vals) (u : Value) : Type 0 where
  value : Val
  is : val_in place i ps ≡ Some value
  seen : shown value ≡ u

mutual
  pub shown_at : (place : Place) (p : Val) (u : Value) → value_at (shown p) place ≡ Some u → ShownAt place p u
  shown_at [] p u e = record { value = p; is = refl; seen = some_same (shown p) u e }
  shown_at (step ∷ place) (v.made t k ps) u e = at (k == step.0) refl e (λ e. shown_in place step.1 ps u e)
    where
      at : (b : Bool) → (k == step.0) ≡ b → cond b (part_at (all_shown ps) step.1 place) None ≡ Some u → (part_at (all_shown ps) step.1 place ≡ Some u → ShownIn place step.1 ps u) → ShownAt (step ∷ place) (v.made t k ps) u
      at true b e go = let h = go e in record { value = h.value; is = rw b h.is; seen = h.seen }
      at false b e go = absurd cc
  shown_at (step ∷ place) (v.flag b) u e = absurd cc
  shown_at (step ∷ place) (v.word w n) u e = absurd cc
  shown_at (step ∷ place) (v.map q rest cells) u e = absurd cc

  shown_in : (place : Place) (i : ℕ) (ps : Vals) (u : Value) → part_at (all_shown ps) i place ≡ Some u → ShownIn place i ps u
  shown_in place i v.no_val u e = absurd cc
  shown_in place zero (v.val_then p ps) u e = let h = shown_at place p u e in record { value = h.value; is = h.is; seen = h.seen }
  shown_in place (suc i) (v.val_then p ps) u e = let h = shown_in place i ps u e in record { value = h.value; is = h.is; seen = h.seen }

module _ {W N C : Type 0} (B : Algebra W N C) (valuation : List ℕ) (exact : Bool) where
  pub record Stands (x : Abs W N) (p : Val) : Type 0 where
    pub describes : Describes B valuation x p
    pub single : IsTrue exact → IsSingle x

  abbrev pub AllStand : List (Abs W N) → List Val → Type 0
  AllStand [] [] = Unit {0}
  AllStand (x ∷ xs) (p ∷ ps) = Stands x p × AllStand xs ps
  AllStand _ _ = ⊥

  pub stand_append : (xs ys : List (Abs W N)) (ps qs : List Val) → AllStand xs ps → AllStand ys qs → AllStand (xs ++ ys) (ps ++ qs)
  stand_append [] ys [] qs h k = k
  stand_append [] ys (p ∷ ps) qs h k = absurd h
  stand_append (x ∷ xs) ys [] qs h k = absurd h
  stand_append (x ∷ xs) ys (p ∷ ps) qs h k = (h.0, stand_append xs ys ps qs h.1 k)

  pub record StandsAt (o : Option (Abs W N)) (q : Val) : Type 0 where
    pub value : Abs W N
    pub is : o ≡ Some value
    pub stands : Stands value q

  pub no_absent : (cs : Cases W N) (k : ℕ) (ps : Vals) → AreAbsent cs → CaseDescribes B valuation cs k ps → ⊥
  no_absent no_case k ps h d = d
  no_absent (absent cs) zero ps h d = d
  no_absent (absent cs) (suc k) ps h d = no_absent cs k ps h d
  no_absent (present xs cs) k ps h d = h

  mutual
    pub at_stands : (place : Place) (x : Abs W N) (p q : Val) → Stands x p → val_at place p ≡ Some q → StandsAt (abs_at place x) q
    at_stands [] x p q h e = let same : p ≡ q = some_same p q e in record { value = x; is = refl; stands = subst (Stands x) same h }
    at_stands (step ∷ place) (made ty cs) (v.made t k ps) q h e = at (k == step.0) refl e (λ e. in_stands place k step.1 cs ps q h.describes.1 h.single e)
      where
        at : (b : Bool) → (k == step.0) ≡ b → cond b (val_in place step.1 ps) None ≡ Some q → (val_in place step.1 ps ≡ Some q → StandsAt (abs_in place k step.1 cs) q) → StandsAt (abs_in place step.0 step.1 cs) q
        at true b e go = let same : k ≡ step.0 = grind (arith, nat_tests) in subst (λ z. StandsAt (abs_in place z step.1 cs) q) same (go e)
        at false b e go = absurd cc
    at_stands (step ∷ place) (flag t) (v.made t' k ps) q h e = absurd h.describes
    at_stands (step ∷ place) (word w x) (v.made t' k ps) q h e = absurd h.describes
    at_stands (step ∷ place) (map n x) (v.made t' k ps) q h e = absurd h.describes
    at_stands (step ∷ place) x (v.flag b) q h e = absurd cc
    at_stands (step ∷ place) x (v.word w n) q h e = absurd cc
    at_stands (step ∷ place) x (v.map n rest cells) q h e = absurd cc

    in_stands : (place : Place) (k i : ℕ) (cs : Cases W N) (ps : Vals) (q : Val) → CaseDescribes B valuation cs k ps → (IsTrue exact → IsSingleCase cs) → val_in place i ps ≡ Some q → StandsAt (abs_in place k i cs) q
    in_stands place k i no_case ps q d s e = absurd d
    in_stands place zero i (absent cs) ps q d s e = absurd d
    in_stands place zero i (present xs cs) ps q d s e = part_stands place i xs ps q d (λ t. (s t).0) e
    in_stands place (suc k) i (absent cs) ps q d s e = in_stands place k i cs ps q d s e
    in_stands place (suc k) i (present xs cs) ps q d s e = in_stands place k i cs ps q d (λ t. absurd (no_absent cs k ps (s t).1 d)) e

    part_stands : (place : Place) (i : ℕ) (xs : Parts W N) (ps : Vals) (q : Val) → PartsDescribe B valuation xs ps → (IsTrue exact → AreSingle xs) → val_in place i ps ≡ Some q → StandsAt (abs_part place i xs) q
    part_stands place i no_part v.no_val q d s e = absurd cc
    part_stands place i no_part (v.val_then p ps) q d s e = absurd d
    part_stands place i (part x xs) v.no_val q d s e = absurd d
    part_stands place zero (part x xs) (v.val_then p ps) q d s e = at_stands place x p q (record { describes = d.0; single = λ t. (s t).0 }) e
    part_stands place (suc i) (part x xs) (v.val_then p ps) q d s e = part_stands place i xs ps q d.1 (λ t. (s t).1) e

  -- ---- what the variables of a row name
  pub record NamedStand (o : Option (List (Abs W N))) (vs : List Val) : Type 0 where
    pub values : List (Abs W N)
    pub is : o ≡ Some values
    pub stand : AllStand values vs

  pub named_stand : (x : Abs W N) (p : Val) (binds : List (ℕ × Place)) (vs : List Val) → Stands x p → vals_named p binds ≡ Some vs → NamedStand (abs_named x binds) vs
  named_stand x p [] vs h e = let same : [] ≡ vs = cc in record { values = []; is = refl; stand = subst (AllStand []) same tt }
  named_stand x p (b ∷ binds) vs h e = at (val_at b.1 p) refl (vals_named p binds) refl e (λ ws f. named_stand x p binds ws h f)
    where
      at : (o : Option Val) → val_at b.1 p ≡ o → (os : Option (List Val)) → vals_named p binds ≡ os → option_and_then (λ y. option_map (λ ys. y ∷ ys) os) o ≡ Some vs
          → ((ws : List Val) → vals_named p binds ≡ Some ws → NamedStand (abs_named x binds) ws) → NamedStand (abs_named x (b ∷ binds)) vs
      at None e os f g go = absurd cc
      at (Some q) e None f g go = absurd cc
      at (Some q) e (Some ws) f g go =
          let first = at_stands b.1 x p q h e in
          let later = go ws f in
          let same : q ∷ ws ≡ vs = some_same (q ∷ ws) vs g in
          record { values = first.value ∷ later.values; is = rw (first.is, later.is) refl; stand = subst (AllStand (first.value ∷ later.values)) same (first.stands, later.stand) }
