-- Two evaluations that give values which are related, and the same log.
use Rattle.std.proofs.Common.{◌≡◌, List, Some, None, refl, sym, ap, subst, ◌∙◌}
use Rattle.base_trait.specs.Uses.{Seen}
use Rattle.support_tail_fixpoint.specs.Answer.{fails, gives}
use Rattle.abstract_semantics.specs.Answers.{Answer, ◌>>=◌}

abbrev pub Meets : {A B : Type 0} → (A → B → Type 0) → Answer A → Answer B → Type 0
Meets P (fails i) (fails j) = i ≡ j
Meets P (gives None l) (gives None m) = l ≡ m
Meets P (gives (Some x) l) (gives (Some y) m) = P x y × (l ≡ m)
Meets P _ _ = ⊥

pub meets_bind : {A B D E : Type 0} (P : A → B → Type 0) (Q : D → E → Type 0) (x : Answer A) (y : Answer B) (f : A → List Seen → Answer D) (g : B → List Seen → Answer E) → Meets P x y
    → ((p : A) (q : B) (m : List Seen) → P p q → Meets Q (f p m) (g q m)) → Meets Q (x >>= f) (y >>= g)
meets_bind P Q (fails i) (fails j) f g h k = h
meets_bind P Q (fails i) (gives None m) f g h k = absurd h
meets_bind P Q (fails i) (gives (Some q) m) f g h k = absurd h
meets_bind P Q (gives None l) (fails j) f g h k = absurd h
meets_bind P Q (gives None l) (gives None m) f g h k = h
meets_bind P Q (gives None l) (gives (Some q) m) f g h k = absurd h
meets_bind P Q (gives (Some p) l) (fails j) f g h k = absurd h
meets_bind P Q (gives (Some p) l) (gives None m) f g h k = absurd h
meets_bind P Q (gives (Some p) l) (gives (Some q) m) f g h k = subst (λ z. Meets Q (f p z) (g q m)) (sym h.1) (k p q m h.0)

-- what goes on with related values gives the same
pub same_bind : {A B D : Type 0} (P : A → B → Type 0) (x : Answer A) (y : Answer B) (f : A → List Seen → Answer D) (g : B → List Seen → Answer D) → Meets P x y
    → ((p : A) (q : B) (m : List Seen) → P p q → f p m ≡ g q m) → x >>= f ≡ y >>= g
same_bind P (fails i) (fails j) f g h k = ap fails h
same_bind P (fails i) (gives None m) f g h k = absurd h
same_bind P (fails i) (gives (Some q) m) f g h k = absurd h
same_bind P (gives None l) (fails j) f g h k = absurd h
same_bind P (gives None l) (gives None m) f g h k = ap (λ z. gives None z) h
same_bind P (gives None l) (gives (Some q) m) f g h k = absurd h
same_bind P (gives (Some p) l) (fails j) f g h k = absurd h
same_bind P (gives (Some p) l) (gives None m) f g h k = absurd h
same_bind P (gives (Some p) l) (gives (Some q) m) f g h k = ap (λ z. f p z) h.1 ∙ k p q m h.0

pub bind_assoc : {A B D : Type 0} (x : Answer A) (f : A → List Seen → Answer B) (g : B → List Seen → Answer D) → (x >>= f) >>= g ≡ x >>= (λ p l. f p l >>= g)
bind_assoc (fails i) f g = refl
bind_assoc (gives None l) f g = refl
bind_assoc (gives (Some p) l) f g = refl

pub bind_unit : {A : Type 0} (x : Answer A) → x >>= (λ p l. gives (Some p) l) ≡ x
bind_unit (fails i) = refl
bind_unit (gives None l) = refl
bind_unit (gives (Some p) l) = refl
