-- The view of a value made from its parts.
use Rattle.std.proofs.Common.{◌≡◌, ℕ, zero, suc, Bool, true, false, List, [], ◌∷◌, map, Option, Some, None, option_map, refl, sym, ap, ◌∙◌}
use Rattle.std.specs.Prelude.{◌==◌, if◌then◌else◌}
use Rattle.abstract_value_laws.specs.Abs.{Abs, made}
use Rattle.abstract_value_laws.specs.Abs as v
use Rattle.base_trait.specs.declared.tri.Tri.{Tri}
use Rattle.abstract_map_laws.specs.Maps as maps
use Rattle.abstract_value.specs.Constructors.{entry, fields_in, listed, places, spread}
use Rattle.abstract_value.specs.View.{abs, case_of, cases_of, seen, abs_step}
use Rattle.abstract_value.specs.declared.constructors.Constructors.{Constructors}
use Rattle.abstract_value.specs.declared.constructors.Present.{Present}
use Rattle.abstract_value.specs.declared.constructors.Present.TheVariants.{One, Several}
use Rattle.abstract_value.specs.declared.value.AbstractValue.{AbstractValue, Data, Flag, Map, Word, fold-roll-AbstractValue}
use Rattle.abstract_value.specs.declared.value.AbstractValue.TheOpen.{AbstractValue-F}
use Rattle.abstract_value.specs.declared.value.AbstractValue.TheVariants.{rolls-Data, rolls-Flag, rolls-Map, rolls-Word}
use Rattle.abstract_value.specs.declared.value.AbstractValue.TheShapes.{former-AbstractValue-Data-1}

module _ {A D : Type 0} (h : List A → List D) where
  chosen : (b : Bool) (x : List A) (o : Option (List A)) (p : Option (List D)) → p ≡ option_map h o → (if b then Some (h x) else p) ≡ option_map h (if b then Some x else o)
  chosen true x o p e = refl
  chosen false x o p e = e

  fields_mapped : (es : List (ℕ × List A)) (k : ℕ) → fields_in (map (λ e. (e.0, h e.1)) es) k ≡ option_map h (fields_in es k)
  fields_mapped [] k = refl
  fields_mapped (e ∷ es) k = chosen (e.0 == k) e.1 (fields_in es k) (fields_in (map (λ e. (e.0, h e.1)) es) k) (fields_mapped es k)

  places_mapped : (es : List (ℕ × List A)) (k n : ℕ) → places (map (λ e. (e.0, h e.1)) es) k n ≡ map (option_map h) (places es k n)
  places_mapped es k zero = refl
  places_mapped es k (suc n) = ap (λ o. o ∷ places (map (λ e. (e.0, h e.1)) es) (suc k) n) (fields_mapped es k) ∙ ap (λ l. option_map h (fields_in es k) ∷ l) (places_mapped es (suc k) n)

-- a map of a map by other ways
map_through : {A D E F : Type 0} (f : A → D) (g : D → E) (k : A → F) (h : F → E) → ((a : A) → g (f a) ≡ h (k a)) → (xs : List A) → map g (map f xs) ≡ map h (map k xs)
map_through f g k h e [] = refl
map_through f g k h e (x ∷ xs) = ap (λ z. z ∷ map g (map f xs)) (e x) ∙ ap (λ l. h (k x) ∷ l) (map_through f g k h e xs)

module _ (X W N C : Type 0) where
  seen_all : (os : List (Option (List (AbstractValue X W N C)))) → map seen (map (option_map (map abs)) os) ≡ map case_of os
  seen_all [] = refl
  seen_all (None ∷ os) = ap (λ l. None ∷ l) (seen_all os)
  seen_all (Some f ∷ os) = ap (λ l. Some (v.parts (map abs f)) ∷ l) (seen_all os)

  cases_seen : (n : ℕ) (p : Present (AbstractValue X W N C)) → map seen (spread ((former-AbstractValue-Data-1 X W N C).map (AbstractValue X W N C) (Abs W N) abs (record { count = n; present = p }))) ≡ map case_of (places (listed p) 0 n)
  cases_seen n (One c) = ap (λ l. map seen l) (places_mapped (map abs) (entry c ∷ []) 0 n) ∙ seen_all (places (entry c ∷ []) 0 n)
  cases_seen n (Several cs) =
      ap (λ l. map seen (places l 0 n)) (map_through _ entry entry (λ e. (e.0, map abs e.1)) (λ c. refl) cs.items)
      ∙ ap (λ l. map seen l) (places_mapped (map abs) (map entry cs.items) 0 n) ∙ seen_all (places (map entry cs.items) 0 n)

pub abs_Data : {X W N C : Type 0} (ty : ℕ) (cs : Constructors (AbstractValue X W N C)) → abs (Data ty cs) ≡ made ty (cases_of cs)
abs_Data {X} {W} {N} {C} ty cs = ap abs (sym (rolls-Data ty cs)) ∙ fold-roll-AbstractValue X W N C (Abs W N) (abs_step X W N C) (AbstractValue-F.Data ty cs) ∙ ap (λ l. made ty (v.cases l)) (cases_seen X W N C cs.count cs.present)

pub abs_Map : (X C : Type 0) {W N : Type 0} (n : ℕ) (m : maps.Map W N) → abs {X = X} {W = W} {N = N} {C = C} (Map n m) ≡ v.map n m
abs_Map X C {W} {N} n m = ap abs (sym (rolls-Map n m)) ∙ fold-roll-AbstractValue X W N C (Abs W N) (abs_step X W N C) (AbstractValue-F.Map n m)

pub abs_Flag : (X W N C : Type 0) (t : Tri) → abs {X = X} {W = W} {N = N} {C = C} (Flag t) ≡ v.flag t
abs_Flag X W N C t = ap abs (sym (rolls-Flag t)) ∙ fold-roll-AbstractValue X W N C (Abs W N) (abs_step X W N C) (AbstractValue-F.Flag t)

pub abs_Word : (X N C : Type 0) {W : Type 0} (w : ℕ) (x : W) → abs {X = X} {W = W} {N = N} {C = C} (Word w x) ≡ v.word w x
abs_Word X N C {W} w x = ap abs (sym (rolls-Word w x)) ∙ fold-roll-AbstractValue X W N C (Abs W N) (abs_step X W N C) (AbstractValue-F.Word w x)
