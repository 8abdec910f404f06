-- A text behind another.
use Rattle.std.proofs.Common.{◌≡◌, ℕ, List, [], ◌++◌, if◌then◌else◌, ap, refl, sym, subst, ◌∙◌, append_assoc}
use Rattle.std.specs.Prelude.{OnOk, Result, Ok, Err, is_ok}
use Rattle.spec_ir.specs.Specification.{Spec}
use Rattle.text_elements.specs.Parts.{Appended, ElementText, PairText}

-- a part was appended behind its line
pub appended_behind : {A F : Type 0} (r : Result A F) (Is : List ℕ → Type 0) (old mid new first second : List ℕ) → mid ≡ old ++ first → Is (first ++ second) → OnOk r (new ≡ mid ++ second) → OnOk r (Appended Is old new)
appended_behind (Ok x) Is old mid new first second begun is put =
    record { text = first ++ second; is = is; appended = put ∙ ap (λ (xs : List ℕ). xs ++ second) begun ∙ append_assoc old first second }
appended_behind (Err e) Is old mid new first second begun is put = tt

-- a text that was made apart is appended whole
pub appended_whole : {A F : Type 0} (r : Result A F) (Is : List ℕ → Type 0) (old made new : List ℕ) → Appended Is [] made → new ≡ (if is_ok r then old ++ made else old) → OnOk r (Appended Is old new)
appended_whole (Ok x) Is old made new has put = record { text = made; is = subst Is (sym has.appended) has.is; appended = put }
appended_whole (Err e) Is old made new has put = tt

-- the texts of two parts were appended
pub pair_appended : {E F A D : Type 0} (First : ElementText E) (Second : ElementText F) (spec : Spec) (x : E × F) (r : Result A D) (old new left right : List ℕ) → First spec x.0 left → Second spec x.1 right → OnOk r (new ≡ old ++ (left ++ right))
    → OnOk r (Appended (PairText First Second spec x) old new)
pair_appended First Second spec x (Ok v) old new left right first second put =
    record { text = left ++ right; is = record { left = left; right = right; first = first; second = second; both = refl }; appended = put }
pair_appended First Second spec x (Err e) old new left right first second put = tt
