-- The order of the signed readings.
use Rattle.std.proofs.Common.{◌≡◌, ℕ, ◌<◌, ◌≤◌, ◌⊎◌, ◌↔◌, Bool, true, false, not, ltb, leb, IsTrue, ℤ, pos, negsuc, ◌≤ℤ◌, ◌<ℤ◌, int_lt, int_le, ap, sym, subst, refl, ◌∙◌, inl, inr, arith, lt-ltb, le-ltb, le-leb, ltb-true, leb-true, eqb-true, eq-eqb, T}
use Rattle.std.proofs.lemmas.Bool.{cases_lt, lt-leb}
use Rattle.std.proofs.lemmas.Int.{ints}
use Rattle.std.specs.Int.Signed.{lt_z_yes, le_z_yes}
use Rattle.word_operations.specs.Laws.{Equality, UnsignedOrder, SignedOrder}
use Rattle.word_operations.specs.Signed.{signed, unsigned}
use Rattle.word_operations.proofs.Readings.{unsigned-signed}

lt_is : (a b : ℤ) → IsTrue (int_lt a b) ↔ (a <ℤ b)
lt_is a b = ((λ e. lt_z_yes (subst T (sym e) tt)), (λ h. is_true (int_lt a b) h.lt))
  where
    is_true : (t : Bool) → T t → t ≡ true
    is_true true h = refl
    is_true false h = absurd h

le_is : (a b : ℤ) → IsTrue (int_le a b) ↔ (a ≤ℤ b)
le_is a b = ((λ e. le_z_yes (subst T (sym e) tt)), (λ h. is_true (int_le a b) h.le))
  where
    is_true : (t : Bool) → T t → t ≡ true
    is_true true h = refl
    is_true false h = absurd h

lt-not : (m n : ℕ) → ltb m n ≡ not (leb n m)
lt-not m n =
    elim (cases_lt m n) [
      | inl less ↦ lt-ltb m n less ∙ sym (ap not (lt-leb n m less))
      | inr more ↦ le-ltb m n more ∙ sym (ap not (le-leb n m more))
    ]

strict : (a b : ℤ) → int_lt a b ≡ not (int_le b a)
strict (pos a) (pos b) = lt-not a b
strict (pos a) (negsuc b) = refl
strict (negsuc a) (pos b) = refl
strict (negsuc a) (negsuc b) = lt-not b a

total : (a b : ℤ) → IsTrue (int_le a b) ⊎ IsTrue (int_le b a)
total a b =
    elim (either (int_le a b)) [
      | inl below ↦ inl below
      | inr above ↦ inr ((le_is b a).1 (omega (arith, ints)))
    ]
  where
    either : (t : Bool) → (t ≡ true) ⊎ (t ≡ false)
    either true = inl refl
    either false = inr refl

pub signed_order : SignedOrder
signed_order w = (
  record {
    total = λ x y. total (signed w x) (signed w y);
    antisymmetric = λ x y left right below above.
        let less = (le_is (signed w x) (signed w y)).0 below in
        let more = (le_is (signed w y) (signed w x)).0 above in
        let same : signed w x ≡ signed w y = omega (arith, ints) in
        sym (unsigned-signed w x left) ∙ ap (unsigned w) same ∙ unsigned-signed w y right;
    transitive = λ x y z below above.
        let less = (le_is (signed w x) (signed w y)).0 below in
        let more = (le_is (signed w y) (signed w z)).0 above in
        (le_is (signed w x) (signed w z)).1 (omega (arith, ints));
    strict = λ x y. strict (signed w x) (signed w y);
  },
  (λ x y. (lt_is (signed w x) (signed w y), le_is (signed w x) (signed w y))),
)

nat_lt_is : (m n : ℕ) → IsTrue (ltb m n) ↔ (m < n)
nat_lt_is m n = (ltb-true m n, lt-ltb m n)

nat_le_is : (m n : ℕ) → IsTrue (leb m n) ↔ (m ≤ n)
nat_le_is m n = (leb-true m n, le-leb m n)

pub unsigned_order : UnsignedOrder
unsigned_order w = (
  record {
    total = λ x y. elim (cases_lt x y) [ inl less ↦ inl (le-leb x y (omega arith)) | inr more ↦ inr (le-leb y x more) ];
    antisymmetric = λ x y left right below above.
        let less = (nat_le_is x y).0 below in
        let more = (nat_le_is y x).0 above in
        omega arith;
    transitive = λ x y z below above.
        let less = (nat_le_is x y).0 below in
        let more = (nat_le_is y z).0 above in
        le-leb x z (omega arith);
    strict = λ x y. lt-not x y;
  },
  (λ x y. (nat_lt_is x y, nat_le_is x y)),
)

pub equality : Equality
equality w x y = ((eqb-true x y, eq-eqb x y), refl)
