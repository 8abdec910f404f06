-- There is one table of what is known, and so one fault.
use Rattle.std.proofs.Common.{◌≡◌, ◌↔◌, ℕ, ◌<◌, Bool, true, false, Some, None, List, length, get_or, slice_get, refl, sym, ap, ◌∙◌, arith}
use Rattle.std.proofs.lemmas.List.{ext_get_or}
use Rattle.std.proofs.lemmas.Option.{slice_get-get_or}
use Rattle.syntax_parser.specs.Tree.{Item}
use Rattle.spec_ir.specs.declared.spec_error.SpecError.{SpecError}
use Rattle.spec_declarations.specs.Leaves.{Made, IsKnown, all_made}
use Rattle.spec_declarations.specs.Types.{types_fault}
use Rattle.spec_declarations.specs.Laws.{TypesFaultsAreSettled}

same_test : (P : Type 0) (a b : Bool) → (a ≡ true) ↔ P → (b ≡ true) ↔ P → a ≡ b
same_test P true true h k = refl
same_test P false false h k = refl
same_test P true false h k = sym (k.1 (h.0 refl))
same_test P false true h k = h.1 (k.0 refl)

-- two tables that say of each number whether the same holds
same_table : (P : ℕ → Type 0) (n : ℕ) (xs ys : List Bool) → length xs ≡ n → length ys ≡ n
    → ((d : ℕ) (b : Bool) → slice_get xs d ≡ Some b → (b ≡ true) ↔ P d) → ((d : ℕ) (b : Bool) → slice_get ys d ≡ Some b → (b ≡ true) ↔ P d) → xs ≡ ys
same_table P n xs ys lx ly h k = ext_get_or false xs ys (lx ∙ sym ly) (λ d l. same_test (P d) (get_or xs d false) (get_or ys d false)
    (h d (get_or xs d false) (slice_get-get_or xs d false l)) (k d (get_or ys d false) (slice_get-get_or ys d false (other d l))))
  where
    other : (d : ℕ) → d < length xs → d < length ys
    other d l = omega (arith, l, lx, ly)

module _ (datas : List Made) (r s l m : List Bool) (h : IsKnown datas r l) (k : IsKnown datas s m) where
  pub same_recursive : r ≡ s
  same_recursive = same_table _ (length datas) r s h.recursive_length k.recursive_length h.recursive_is k.recursive_is

  pub same_large : l ≡ m
  same_large = same_table _ (length datas) l m h.large_length k.large_length h.large_is k.large_is

pub faults_are_settled : TypesFaultsAreSettled
faults_are_settled = record {
  one = λ items e f x y. one_error e f (sym x.3 ∙ same items x.0 y.0 x.1 y.1 x.2 y.2 ∙ y.3);
  not_both = λ items e x y. none (sym x.3 ∙ same items x.0 y.0 x.1 y.1 x.2 y.2 ∙ y.3);
}
  where
    same : (items : List Item) (r s l m : List Bool) → IsKnown (all_made items) r l → IsKnown (all_made items) s m → types_fault items r l ≡ types_fault items s m
    same items r s l m h k = ap (λ x. types_fault items x l) (same_recursive (all_made items) r s l m h k) ∙ ap (types_fault items s) (same_large (all_made items) r s l m h k)

    one_error : (e f : SpecError) → Some e ≡ Some f → e ≡ f
    one_error e f q = cc

    none : {e : SpecError} → None ≡ Some e → ⊥
    none q = cc
