-- Calls that are looked up in a memo, and kept there.
use Rattle.std.proofs.Common.{◌≡◌, ◌∙◌, ◌++◌, ℕ, Bool, true, false, cond, Option, Some, None, List, [], ◌∷◌, map, option_map, option_copied, Bor, refl, sym, ap, subst, inl, inr, IsTrue}
use Rattle.std.specs.Prelude.{◌==◌, Vec, IfSome, IsNone, IsSome, if◌then◌else◌}
use Rattle.std.specs.Cmp.{first_so, second_so}
use Rattle.std.specs.Cmp.Lexicographic.{pointwise}
use Rattle.std.specs.Map.{lookup}
use Rattle.std.specs.declared.alloc.Global.{Global}
use Rattle.std.proofs.lemmas.Bool.Decides.{Decides-eqb}
use Rattle.std.proofs.lemmas.List.{map-append}
use Rattle.indexmap.specs.IndexMap.{insert_entry}
use Rattle.indexmap.proofs.MapLemmas.{absent_from_lookup, insert_entry-absent}
use Rattle.base_trait.specs.Uses.{Seen, uses_of}
use Rattle.base_trait.specs.Identity.{IsIdentity, IsReflexive}
use Rattle.base_trait.proofs.Tests.{and_both}
use Rattle.support_tail_fixpoint.specs.Answer.{gives}
use Rattle.abstract_value_laws.specs.Abs.{Abs}
use Rattle.abstract_value.specs.Same.{TellsViews, same_value, same_value_is, same_value_itself, same_view}
use Rattle.abstract_value.specs.View.{abs}
use Rattle.abstract_value.specs.declared.value.AbstractValue.{AbstractValue}
use Rattle.abstract_semantics.specs.Answers.{Answer}
use Rattle.eval_memo.specs.Calls.{is_call}
use Rattle.eval_memo.specs.declared.call.Call.{Call}
use Rattle.eval_memo.specs.declared.memo.Outcome.{Outcome}
use Rattle.eval_memo.specs.Memos.{AreTrue, Holds, IsNew, Tells, called, gave, remembered}

head_same : {A : Type 0} (x y : A) (xs ys : List A) → x ∷ xs ≡ y ∷ ys → x ≡ y
head_same x y xs ys e = cc

tail_same : {A : Type 0} (x y : A) (xs ys : List A) → x ∷ xs ≡ y ∷ ys → xs ≡ ys
tail_same x y xs ys e = cc

same_gave : {W N : Type 0} (f : ℕ) (args : List (Abs W N)) (v w : Option (Abs W N)) (l m : List Seen) → ◌≡◌ {A = Answer (Abs W N)} (gives v l) (gives w m) → called f args v l ≡ called f args w m
same_gave f args v w l m h =
    let value : v ≡ w = cc in
    let reads : l ≡ m = cc in
    ap (λ z. called f args z l) value ∙ ap (λ z. called f args w z) reads

-- Equal values have one view, where equality of words and of notes is identity.
pub values_tell : {X W N C : Type 0} (words : W → W → Bool) (notes : N → N → Bool) → IsReflexive words → IsReflexive notes → IsIdentity words → IsIdentity notes → TellsViews (same_view words notes {X = X} {C = C})
values_tell words notes wr nr wi ni x y =
    (same_value_is words notes wi ni (abs x) (abs y), λ k. subst (λ z. IsTrue (same_value words notes (abs x) z)) k (same_value_itself words notes wr nr (abs x)))

module _ {X W N C : Type 0} (eq : AbstractValue X W N C → AbstractValue X W N C → Bool) (tells : TellsViews eq) where
  abbrev V : Type 0
  V = AbstractValue X W N C

  items_same : (xs ys : List V) → IsTrue (pointwise eq xs ys) → map abs xs ≡ map abs ys
  items_same [] [] h = refl
  items_same [] (y ∷ ys) h = absurd cc
  items_same (x ∷ xs) [] h = absurd cc
  items_same (x ∷ xs) (y ∷ ys) h =
      ap (λ z. z ∷ map abs xs) ((tells x y).0 (first_so (eq x y) (pointwise eq xs ys) h)) ∙ ap (λ zs. abs y ∷ zs) (items_same xs ys (second_so (eq x y) (pointwise eq xs ys) h))

  items_told : (xs ys : List V) → map abs xs ≡ map abs ys → IsTrue (pointwise eq xs ys)
  items_told [] [] h = refl
  items_told [] (y ∷ ys) h = absurd cc
  items_told (x ∷ xs) [] h = absurd cc
  items_told (x ∷ xs) (y ∷ ys) h = and_both (eq x y) (pointwise eq xs ys) ((tells x y).1 (head_same (abs x) (abs y) (map abs xs) (map abs ys) h)) (items_told xs ys (tail_same (abs x) (abs y) (map abs xs) (map abs ys) h))

  module _ (f : ℕ) (args : List V) where
    -- the call that is found is this one
    call_same : (k : Call (Vec V Global)) → is_call eq f args k ≡ true → (k.function ≡ f) × (map abs k.args.items ≡ map abs args)
    call_same k h =
        let number = (Decides-eqb f k.function).0 (first_so (f == k.function) (pointwise eq args k.args.items) h) in
        (sym number, sym (items_same args k.args.items (second_so (f == k.function) (pointwise eq args k.args.items) h)))

    call_told : (k : Call (Vec V Global)) → k.function ≡ f → map abs k.args.items ≡ map abs args → is_call eq f args k ≡ true
    call_told k p q = and_both (f == k.function) (pointwise eq args k.args.items) ((Decides-eqb f k.function).1 (sym p)) (items_told args k.args.items (sym q))

    call_other : (k : Call (Vec V Global)) → is_call eq f args k ≡ false → k.function ≡ f → map abs k.args.items ≡ map abs args → ⊥
    call_other k h p q = let yes = call_told k p q in cc

    -- ---- what is looked up
    pub found_holds : (es : List (Call (Vec V Global) × Outcome X W N C)) (o : Outcome X W N C) → lookup (is_call eq f args) es ≡ Some o → Holds f (map abs args) (map remembered es)
    found_holds [] o h = absurd cc
    found_holds (e ∷ es) o h = by (is_call eq f args e.0) refl (found_holds es o) h
      where
        by : (b : Bool) → is_call eq f args e.0 ≡ b → (lookup (is_call eq f args) es ≡ Some o → Holds f (map abs args) (map remembered es)) → cond b (Some e.1) (lookup (is_call eq f args) es) ≡ Some o
            → Holds f (map abs args) (map remembered (e ∷ es))
        by true p later k = inl (call_same e.0 p)
        by false p later k = inr (later k)

    pub found_tells : (es : List (Call (Vec V Global) × Outcome X W N C)) (o : Outcome X W N C) → lookup (is_call eq f args) es ≡ Some o → Tells (map remembered es) f (map abs args) (gave f args o)
    found_tells [] o h calls true_of = absurd cc
    found_tells (e ∷ es) o h calls true_of = by (is_call eq f args e.0) refl (λ k. found_tells es o k calls true_of.1) h
      where
        by : (b : Bool) → is_call eq f args e.0 ≡ b → (lookup (is_call eq f args) es ≡ Some o → calls f (map abs args) ≡ gives (option_map abs o.value) (uses_of o.reads)) → cond b (Some e.1) (lookup (is_call eq f args) es) ≡ Some o
            → calls f (map abs args) ≡ gives (option_map abs o.value) (uses_of o.reads)
        by true p later k =
            let same = call_same e.0 p in
            let is : e.1 ≡ o = cc in
            ap (λ g. calls g (map abs args)) (sym same.0) ∙ ap (λ xs. calls e.0.function xs) (sym same.1) ∙ true_of.0 ∙ ap (λ z. gives (option_map abs z.value) (uses_of z.reads)) is
        by false p later k = later k

    pub missing_new : (es : List (Call (Vec V Global) × Outcome X W N C)) → lookup (is_call eq f args) es ≡ None → IsNew f (map abs args) (map remembered es)
    missing_new [] h = tt
    missing_new (e ∷ es) h = by (is_call eq f args e.0) refl (missing_new es) h
      where
        by : (b : Bool) → is_call eq f args e.0 ≡ b → (lookup (is_call eq f args) es ≡ None → IsNew f (map abs args) (map remembered es)) → cond b (Some e.1) (lookup (is_call eq f args) es) ≡ None
            → IsNew f (map abs args) (map remembered (e ∷ es))
        by true p later k = absurd cc
        by false p later k = (call_other e.0 p, later k)

    -- ---- and what a lookup by reference answers
    pub answer_holds : (es : List (Call (Vec V Global) × Outcome X W N C)) (r : Option (Bor (Outcome X W N C))) → option_copied r ≡ lookup (is_call eq f args) es → IfSome r (λ _. Holds f (map abs args) (map remembered es))
    answer_holds es None h = tt
    answer_holds es (Some o) h = found_holds es o.now (sym h)

    pub answer_tells : (es : List (Call (Vec V Global) × Outcome X W N C)) (r : Option (Bor (Outcome X W N C))) → option_copied r ≡ lookup (is_call eq f args) es → IfSome r (λ o. Tells (map remembered es) f (map abs args) (gave f args o.now))
    answer_tells es None h = tt
    answer_tells es (Some o) h = found_tells es o.now (sym h)

    pub answer_new : (es : List (Call (Vec V Global) × Outcome X W N C)) (r : Option (Bor (Outcome X W N C))) → option_copied r ≡ lookup (is_call eq f args) es → r ≡ None → IsNew f (map abs args) (map remembered es)
    answer_new es r h none = missing_new es (sym h ∙ ap option_copied none)

  -- ---- what is kept
  abbrev same_call : Call (Vec V Global) → Call (Vec V Global) → Bool
  same_call x y = is_call eq x.function x.args.items y

  -- A call that is held already gave the same.
  pub again_same : (calls : ℕ → List (Abs W N) → Answer (Abs W N)) (k : Call (Vec V Global)) (new o : Outcome X W N C) (es : List (Call (Vec V Global) × Outcome X W N C)) → AreTrue calls (map remembered es)
      → calls k.function (map abs k.args.items) ≡ gives (option_map abs new.value) (uses_of new.reads) → lookup (same_call k) es ≡ Some o → map remembered (insert_entry same_call es k new) ≡ map remembered es
  again_same calls k new o [] true_of is h = absurd cc
  again_same calls k new o (e ∷ es) true_of is h = by (same_call k e.0) refl (again_same calls k new o es true_of.1 is) h
    where
      by : (b : Bool) → same_call k e.0 ≡ b → (lookup (same_call k) es ≡ Some o → map remembered (insert_entry same_call es k new) ≡ map remembered es) → cond b (Some e.1) (lookup (same_call k) es) ≡ Some o
          → map remembered (if b then (e.0, new) ∷ es else e ∷ insert_entry same_call es k new) ≡ map remembered (e ∷ es)
      by true p later j =
          let same = call_same k.function k.args.items e.0 p in
          let here : calls e.0.function (map abs e.0.args.items) ≡ gives (option_map abs new.value) (uses_of new.reads) = ap (λ g. calls g (map abs e.0.args.items)) same.0 ∙ ap (λ xs. calls k.function xs) same.1 ∙ is in
          let told = true_of.0 in
          ap (λ z. z ∷ map remembered es) (same_gave e.0.function (map abs e.0.args.items) (option_map abs new.value) (option_map abs e.1.value) (uses_of new.reads) (uses_of e.1.reads) (sym here ∙ told))
      by false p later j = ap (λ zs. remembered e ∷ zs) (later j)

  pub again : (calls : ℕ → List (Abs W N) → Answer (Abs W N)) (k : Call (Vec V Global)) (new : Outcome X W N C) (r : Option (Outcome X W N C)) (es : List (Call (Vec V Global) × Outcome X W N C)) → AreTrue calls (map remembered es)
      → calls k.function (map abs k.args.items) ≡ gives (option_map abs new.value) (uses_of new.reads) → r ≡ lookup (same_call k) es → IsSome r → map remembered (insert_entry same_call es k new) ≡ map remembered es
  again calls k new None es true_of is h some = absurd cc
  again calls k new (Some o) es true_of is h some = again_same calls k new o es true_of is (sym h)

  pub again_holds : (k : Call (Vec V Global)) (r : Option (Outcome X W N C)) (es : List (Call (Vec V Global) × Outcome X W N C)) → r ≡ lookup (same_call k) es → IsSome r → Holds k.function (map abs k.args.items) (map remembered es)
  again_holds k None es h some = absurd cc
  again_holds k (Some o) es h some = found_holds k.function k.args.items es o (sym h)

  -- A call that is new comes behind those before.
  pub kept_new : (k : Call (Vec V Global)) (new : Outcome X W N C) (r : Option (Outcome X W N C)) (es : List (Call (Vec V Global) × Outcome X W N C)) → r ≡ lookup (same_call k) es → IsNone r
      → map remembered (insert_entry same_call es k new) ≡ map remembered es ++ gave k.function k.args.items new ∷ []
  kept_new k new None es h none = ap (map remembered) (insert_entry-absent same_call k new es (absent_from_lookup (same_call k) es (sym h))) ∙ map-append remembered es ((k, new) ∷ [])
  kept_new k new (Some o) es h none = absurd cc

  pub again_new : (k : Call (Vec V Global)) (r : Option (Outcome X W N C)) (es : List (Call (Vec V Global) × Outcome X W N C)) → r ≡ lookup (same_call k) es → IsNone r → IsNew k.function (map abs k.args.items) (map remembered es)
  again_new k None es h none = missing_new k.function k.args.items es (sym h)
  again_new k (Some o) es h none = absurd cc
