-- Numbers, and lists of values.
use Rattle.std.proofs.Common.{◌≡◌, ℕ, zero, suc, ◌+◌, ◌-◌, ◌<◌, ◌≤◌, ◌^◌, Bool, true, false, List, [], ◌∷◌, ◌++◌, length, map, drop, get_or, min, Option, Some, None, Result, Ok, Err, Vec, Global, refl, sym, ap, ◌∙◌, subst, arith, add-one, ltb, pow_mono, length-drop, append_assoc, take, cond}
use Rattle.std.specs.Prelude.{◌==◌, IfOk, IsOkAnd}
use Rattle.std.specs.List.{list_all}
use Rattle.std.proofs.Math.Seq.{take-suc}
use Rattle.std.proofs.lemmas.List.{map-append, drop_more as drop_at, drop_all}
use Rattle.std.proofs.lemmas.Option.{slice_get-get_or}
use Rattle.std.proofs.lemmas.Bool.{ltb-false, ltb-true, ne_eqb}
use Rattle.base_trait.specs.Algebra.{Algebra}
use Rattle.base_trait.specs.Lists.{Each}
use Rattle.base_trait.proofs.Tests.{and_parts}
use Rattle.spec_ir.specs.declared.ty.Ty.{Ty}
use Rattle.spec_ir.specs.Environment.{Environment}
use Rattle.abstract_map_laws.specs.Maps.{Map}
use Rattle.semantics_values.specs.declared.entry.GivenNumber.{GivenNumber}
use Rattle.semantics_values.specs.declared.entry.KeyAt.{KeyAt}
use Rattle.semantics_values.specs.declared.entry.KeyAt.TheVariants.{Whole, Rest, At}
use Rattle.semantics_values.specs.declared.entry.Line.{Line}
use Rattle.abstract_value_laws.specs.Abs.{Abs, Parts, cases, made, no_part, part, parts, parts_onto, word}
use Rattle.abstract_value_laws.proofs.Joining.{same_number}
use Rattle.domain_laws.specs.Calls.{behind_first, made_state, values_rank}
use Rattle.abstract_value_laws.specs.OfValues.{one_case}
use Rattle.domain_laws.specs.declared.field.Field.{Field}
use Rattle.domain_laws.specs.Entries.{LinesFit}
use Rattle.domain_laws.specs.States.{field_of, fields_of, is_field}
use Rattle.domain_laws.specs.Lines.{IsField, OfField}
use Rattle.domain_laws.proofs.Fields.{fields_told}
use Rattle.domain_laws.proofs.Lines.{of_field}
use Rattle.domain_laws.specs.Entry.{entry_value, entry_values, with_cell, with_cells}
use Rattle.abstract_value.proofs.Merging.{map_push, parts_onto_more}
use Rattle.abstract_value.proofs.Views.{abs_Data}
use Rattle.abstract_value.specs.View.{abs, case_of, cases_of}
use Rattle.abstract_value.specs.declared.constructors.Constructors.{Constructors}
use Rattle.abstract_value.specs.declared.value.AbstractValue.{AbstractValue, Data}
use Rattle.spec_match_compiler.proofs.Loops.{drop_here}

pub small_power : (w : ℕ) → 2 ^ w ≤ 2 ^ 32 → w < 64
small_power w h = sorted (ltb w 64) refl
  where
    sorted : (b : Bool) → ltb w 64 ≡ b → w < 64
    sorted true e = ltb-true w 64 e
    sorted false e = let big : 2 ^ 64 ≤ 2 ^ w = pow_mono (ltb-false w 64 e) in absurd (omega (arith, big, h))

-- what holds of each item holds of one
pub each_get : {A : Type 0} (P : A → Type 0) (xs : List A) (i : ℕ) (d : A) → i < length xs → Each P xs → P (get_or xs i d)
each_get P [] i d l h = absurd (omega (arith, l))
each_get P (x ∷ xs) zero d l h = h.0
each_get P (x ∷ xs) (suc i) d l h = each_get P xs i d (omega (arith, l)) h.1

module _ {X W N C : Type 0} where
  -- there are no fields behind the first of several constructors
  pub not_one : (cs : List (Option (List (AbstractValue X W N C)))) → (length cs ≡ 1 → ⊥) → behind_first (cases (map case_of cs)) ≡ no_part
  not_one [] h = refl
  not_one (None ∷ cs) h = refl
  not_one (Some f ∷ []) h = absurd (h refl)
  not_one (Some f ∷ None ∷ cs) h = of_more (map abs f)
    where
      of_more : (l : List (Abs W N)) → behind_first (cases (Some (parts l) ∷ None ∷ map case_of cs)) ≡ no_part
      of_more [] = refl
      of_more (x ∷ l) = refl
  not_one (Some f ∷ Some g ∷ cs) h = of_more (map abs f)
    where
      of_more : (l : List (Abs W N)) → behind_first (cases (Some (parts l) ∷ Some (parts (map abs g)) ∷ map case_of cs)) ≡ no_part
      of_more [] = refl
      of_more (x ∷ l) = refl

  -- the one constructor, present and missing
  pub one_is : (cs : List (Option (List (AbstractValue X W N C)))) (f r : List (AbstractValue X W N C)) → length cs ≡ 1 → get_or cs 0 None ≡ Some f → r ≡ drop 1 f → parts (map abs r) ≡ behind_first (cases (map case_of cs))
  one_is [] f r n e h = absurd (omega (arith, n))
  one_is (y ∷ z ∷ cs) f r n e h = absurd (omega (arith, n))
  one_is (y ∷ []) f r n e h = ap (λ t. parts (map abs t)) h ∙ others f ∙ ap (λ t. behind_first (cases (case_of t ∷ []))) (sym e)
    where
      others : (vs : List (AbstractValue X W N C)) → parts (map abs (drop 1 vs)) ≡ behind_first (cases (Some (parts (map abs vs)) ∷ []))
      others [] = refl
      others (w ∷ vs) = refl

  pub none_is : (cs : List (Option (List (AbstractValue X W N C)))) → length cs ≡ 1 → get_or cs 0 None ≡ None → no_part ≡ behind_first (cases (map case_of cs))
  none_is [] n e = absurd (omega (arith, n))
  none_is (y ∷ z ∷ cs) n e = absurd (omega (arith, n))
  none_is (y ∷ []) n e = ap (λ t. behind_first (cases (case_of t ∷ []))) (sym e)

-- ---- one more step of a loop

-- one more copy behind others, which may fail
pub copy_pushed : {A D E : Type 0} (f : A → D) (start : List D) (item : Result A E) (out out' : List A) (xs : List A) (i : ℕ) (x : A) → x ≡ get_or xs i x → i < length xs → IsOkAnd item (λ z. out' ≡ out ++ z ∷ [])
    → IfOk item (λ z. f z ≡ f x) → map f out ≡ start ++ map f (take i xs) → map f out' ≡ start ++ map f (take (i + 1) xs)
copy_pushed f start (Ok z) out out' xs i x is lt push e h =
    ap (map f) push ∙ map_push f out z ∙ ap (λ l. l ++ f z ∷ []) h ∙ append_assoc start (map f (take i xs)) (f z ∷ []) ∙ ap (λ y. start ++ (map f (take i xs) ++ y ∷ [])) e ∙ ap (λ l. start ++ l) (sym last)
  where
    last : map f (take (i + 1) xs) ≡ map f (take i xs) ++ f x ∷ []
    last = rw (add-one, take-suc xs i x lt, map-append, ← is) refl
copy_pushed f start (Err k) out out' xs i x is lt push e h = absurd push

-- copies behind nothing
pub copies_alone : {A D E : Type 0} (f : A → D) (room values : List A) (r : Result (Vec A Global) E) → room ≡ [] → IfOk r (λ x. map f x.items ≡ map f room ++ map f values) → IfOk r (λ x. map f x.items ≡ map f values)
copies_alone f room values (Ok x) e h = h ∙ ap (λ l. map f l ++ map f values) e
copies_alone f room values (Err k) e h = h

-- a counter and the values behind it
module _ {X W N C : Type 0} where
  pub counted : {E D : Type 0} (item : Result (AbstractValue X W N C) E) (k : W) (room first values : List (AbstractValue X W N C)) (r : Result (Vec (AbstractValue X W N C) Global) D) → room ≡ [] → IsOkAnd item (λ x. first ≡ room ++ x ∷ []) → IfOk item (λ x. abs x ≡ word 32 k)
      → IfOk r (λ v. map abs v.items ≡ map abs first ++ map abs values) → IfOk r (λ v. parts (map abs v.items) ≡ part (word 32 k) (parts (map abs values)))
  counted (Ok x) k room first values (Ok v) e p d h = ap parts (h ∙ ap (λ l. map abs l ++ map abs values) (p ∙ ap (λ l. l ++ x ∷ []) e) ∙ ap (λ y. y ∷ map abs values) d)
  counted (Ok x) k room first values (Err z) e p d h = h
  counted (Err z) k room first values r e p d h = absurd p

  -- the state value of these
  pub opened_is : (number : ℕ) (k : W) (fields values : List (AbstractValue X W N C)) (cs : Constructors (AbstractValue X W N C)) → cases_of cs ≡ one_case 1 0 (parts (map abs fields)) → parts (map abs fields) ≡ part (word 32 k) (parts (map abs values))
      → abs (Data number cs) ≡ made_state number k (parts (map abs values))
  opened_is number k fields values cs p q = abs_Data number cs ∙ ap (made number) (p ∙ ap (one_case 1 0) q)

-- the field at a place, and the lines of it
module _ (fields : List Field) (i : ℕ) (d : Field) (lt : i < length fields) where
  pub field_right : list_all is_field fields ≡ true → IsField (get_or fields i d)
  field_right h = each_get IsField fields i d lt (fields_told fields h)

  pub field_lines : (lines : List Line) → LinesFit fields lines → OfField (i + 1) (get_or fields i d) lines
  field_lines lines fit = subst (λ n. OfField n (get_or fields i d) lines) (next i) (of_field fields lines fit i (get_or fields i d) (slice_get-get_or fields i d lt))
    where
      next : (n : ℕ) → suc n ≡ n + 1
      next n = omega arith

-- the field of one more type
module _ (env : Environment) (fields : List (List ℕ × Ty)) (i : ℕ) (x : List ℕ × Ty) (lt : i < length fields) (is : x ≡ get_or fields i x) where
  pub next_right : list_all is_field (fields_of env (map (λ f. f.1) (drop i fields))) ≡ true → (is_field (field_of env x.1) ≡ true) × (list_all is_field (fields_of env (map (λ f. f.1) (drop (i + 1) fields))) ≡ true)
  next_right h = and_parts (is_field (field_of env x.1)) (list_all is_field (fields_of env (map (λ f. f.1) (drop (i + 1) fields)))) (subst (λ l. list_all is_field (fields_of env (map (λ f. f.1) l)) ≡ true) (drop_here fields i x is lt) h)

  pub next_field : (out new all : List Field) → new ≡ out ++ field_of env x.1 ∷ [] → out ++ fields_of env (map (λ f. f.1) (drop i fields)) ≡ all → new ++ fields_of env (map (λ f. f.1) (drop (i + 1) fields)) ≡ all
  next_field out new all n h =
      ap (λ l. l ++ fields_of env (map (λ f. f.1) (drop (i + 1) fields))) n ∙ append_assoc out (field_of env x.1 ∷ []) (fields_of env (map (λ f. f.1) (drop (i + 1) fields)))
      ∙ ap (λ l. out ++ fields_of env (map (λ f. f.1) l)) (sym (drop_here fields i x is lt)) ∙ h

module _ {W N C : Type 0} (B : Algebra W N C) (c : C) (cap : ℕ) (lines : List Line) where
  -- the value of one more field
  pub entry_more : (fields : List Field) (i : ℕ) (d : Field) (out out' : List (Abs W N)) (z : Abs W N) (whole : Parts W N) → i < length fields → out' ≡ out ++ z ∷ []
      → z ≡ entry_value B c cap lines (i + 1) (get_or fields i d) → parts_onto out (entry_values B c cap lines (i + 1) (drop i fields)) ≡ whole
      → parts_onto out' (entry_values B c cap lines ((i + 1) + 1) (drop (i + 1) fields)) ≡ whole
  entry_more fields i d out out' z whole lt push e h =
      ap (λ l. parts_onto l (entry_values B c cap lines ((i + 1) + 1) (drop (i + 1) fields))) push
      ∙ parts_onto_more out z (entry_values B c cap lines ((i + 1) + 1) (drop (i + 1) fields))
      ∙ ap (λ n. parts_onto out (part z (entry_values B c cap lines n (drop (i + 1) fields)))) (next (i + 1))
      ∙ ap (λ v. parts_onto out (part v (entry_values B c cap lines (suc (i + 1)) (drop (i + 1) fields)))) e
      ∙ ap (λ fs. parts_onto out (entry_values B c cap lines (i + 1) fs)) (sym (drop_at fields i d lt))
      ∙ h
    where
      next : (n : ℕ) → n + 1 ≡ suc n
      next n = omega arith

-- the same of a value that may fail
module _ {X W N C : Type 0} (B : Algebra W N C) (c : C) (cap : ℕ) (lines : List Line) where
  pub entry_pushed : {E : Type 0} (item : Result (AbstractValue X W N C) E) (fields : List Field) (i : ℕ) (d : Field) (out out' : List (AbstractValue X W N C)) (whole : Parts W N) → i < length fields → IsOkAnd item (λ z. out' ≡ out ++ z ∷ [])
      → IfOk item (λ z. abs z ≡ entry_value B c cap lines (i + 1) (get_or fields i d)) → parts_onto (map abs out) (entry_values B c cap lines (i + 1) (drop i fields)) ≡ whole
      → parts_onto (map abs out') (entry_values B c cap lines ((i + 1) + 1) (drop (i + 1) fields)) ≡ whole
  entry_pushed (Ok z) fields i d out out' whole lt push e h = entry_more B c cap lines fields i d (map abs out) (map abs out') (abs z) whole lt (ap (map abs) push ∙ map_push (λ v. abs v) out z) e h
  entry_pushed (Err k) fields i d out out' whole lt push e h = absurd push

  pub entry_ends : (fields : List Field) (i : ℕ) (out : List (AbstractValue X W N C)) (whole : Parts W N) → length fields ≤ i → parts_onto (map abs out) (entry_values B c cap lines (i + 1) (drop i fields)) ≡ whole → parts (map abs out) ≡ whole
  entry_ends fields i out whole past h = ap (λ fs. parts_onto (map abs out) (entry_values B c cap lines (i + 1) fs)) (sym (drop_all i fields past)) ∙ h

module _ {W N C : Type 0} (B : Algebra W N C) (c : C) (cap n : ℕ) where
  pub same_width : (key : KeyAt) (g : GivenNumber) (m : Map W N) → (with_cell B c cap key g m).width ≡ m.width
  same_width Whole g m = refl
  same_width Rest g m = refl
  same_width (At k) g m = refl

  -- one line, of another field and of this one
  pub line_other : (l : Line) (m : Map W N) → (l.field ≡ n → ⊥) → m ≡ with_cells B c cap n (l ∷ []) m
  line_other l m h = ap (λ t. cond t (with_cell B c cap l.key l.given m) m) (sym (ne_eqb l.field n h))

  pub line_here : (l : Line) (m next : Map W N) (key : KeyAt) → l.field ≡ n → l.key ≡ key → next ≡ with_cell B c cap key l.given m → next ≡ with_cells B c cap n (l ∷ []) m
  line_here l m next key e is h = h ∙ ap (λ k. with_cell B c cap k l.given m) (sym is) ∙ ap (λ t. cond t (with_cell B c cap l.key l.given m) m) (sym (same_number l.field n e))

  pub line_width : (l : Line) (m : Map W N) → (with_cells B c cap n (l ∷ []) m).width ≡ m.width
  line_width l m = by_test (l.field == n)
    where
      by_test : (t : Bool) → (cond t (with_cell B c cap l.key l.given m) m).width ≡ m.width
      by_test true = same_width l.key l.given m
      by_test false = refl

  -- the line in front of those that were read
  pub named : (lines : List Line) (base m next : Map W N) (left : ℕ) (d : Line) → 0 < left → left ≤ length lines → m ≡ with_cells B c cap n (drop left lines) base → next ≡ with_cells B c cap n (get_or lines (left - 1) d ∷ []) m
      → next ≡ with_cells B c cap n (drop (left - 1) lines) base
  named lines base m next left d some most before h =
      h ∙ ap (λ x. with_cells B c cap n (get_or lines (left - 1) d ∷ []) x) (before ∙ ap (λ k. with_cells B c cap n (drop k lines) base) (again left some))
      ∙ ap (λ l. with_cells B c cap n l base) (sym (drop_at lines (left - 1) d (omega (arith, some, most))))
    where
      again : (k : ℕ) → 0 < k → k ≡ k - 1 + 1
      again k h = omega (arith, h)

-- ---- sums up to a greatest number
pub rank_more : (sum x rest most rank next whole : ℕ) → rank ≡ min x most → next ≡ min (sum + rank) most → min (sum + (x + rest)) most ≡ whole → min (next + rest) most ≡ whole
rank_more sum x rest most rank next whole r n h = rw (n, r) (same ∙ h)
  where
    same : min (min (sum + min x most) most + rest) most ≡ min (sum + (x + rest)) most
    same = omega arith

module _ {X W N C : Type 0} (B : Algebra W N C) (c : C) where
  pub rank_end : (xs : List (AbstractValue X W N C)) (i sum whole : ℕ) → sum ≤ 2 ^ 64 - 1 → length xs ≤ i → min (sum + values_rank B c (parts (map abs (drop i xs)))) (2 ^ 64 - 1) ≡ whole → sum ≡ whole
  rank_end xs i sum whole most past h = none (drop i xs) (simp length-drop (omega (arith, past))) h
    where
      none : (ys : List (AbstractValue X W N C)) → length ys ≡ 0 → min (sum + values_rank B c (parts (map abs ys))) (2 ^ 64 - 1) ≡ whole → sum ≡ whole
      none [] e h = omega (arith, most, h)
      none (y ∷ ys) e h = absurd (omega (arith, e))
