-- Items with a separator between are read as they are written, and have one text.
use Rattle.std.proofs.Common.{◌≡◌, ◌==◌, ◌≤◌, ℕ, Bool, true, false, not, List, [], ◌∷◌, ◌++◌, map, Option, Some, None, option_map, IsTrue, refl, ap, subst, ◌∙◌, inl, inr, length, arith}
use Rattle.std.specs.List.{list_all}
use Rattle.std.proofs.lemmas.Bool.{cases_Bool, and_parts, eq-eqb, eqb-true, not-true}
use Rattle.std.proofs.lemmas.List.{append-nil}
use Rattle.std.proofs.lemmas.Option.{cond_some, none-some, same_Some}
use Rattle.base_trait.specs.Lists.{Each}
use Rattle.text_words.specs.Pieces.{is_behind, items_in, next_item, pieces}
use Rattle.text_words.specs.Options.{followed, mapped}

-- ---- pieces

module _ (separator : ℕ) where
  -- texts, each behind a separator
  abbrev pub behind_each : List (List ℕ) → List ℕ
  behind_each [] = []
  behind_each (text ∷ texts) = separator ∷ (text ++ behind_each texts)

  -- texts with a separator between
  abbrev pub joined : List (List ℕ) → List ℕ
  joined [] = []
  joined (text ∷ texts) = text ++ behind_each texts

  -- a text has a first piece
  record HasPieces (text : List ℕ) : Type 0 where
    first : List ℕ
    others : List (List ℕ)
    are : pieces separator text ≡ first ∷ others

  some_pieces : (text : List ℕ) → HasPieces text
  some_pieces [] = record { first = []; others = []; are = refl }
  some_pieces (b ∷ text) = elim (cases_Bool (b == separator)) [
    | inl e ↦ record { first = []; others = pieces separator text; are = rw e refl }
    | inr e ↦ let more = some_pieces text in record { first = b ∷ more.first; others = more.others; are = rw (e, more.are) refl }
  ]

  -- with separators between they are the text
  pub pieces_join : (text : List ℕ) → joined (pieces separator text) ≡ text
  pieces_join [] = refl
  pieces_join (b ∷ text) = elim (cases_Bool (b == separator)) [
    | inl e ↦
        let more = some_pieces text in
        let rest : more.first ++ behind_each more.others ≡ text = rw more.are at (pieces_join text) in
        let same : b ≡ separator = eqb-true b separator e in
        rw (e, more.are, rest, same) refl
    | inr e ↦
        let more = some_pieces text in
        let rest : more.first ++ behind_each more.others ≡ text = rw more.are at (pieces_join text) in
        rw (e, more.are, rest) refl
  ]

  -- not a separator
  abbrev pub is_inner : ℕ → Bool
  is_inner b = not (b == separator)

  abbrev pub IsInner : List ℕ → Type 0
  IsInner text = IsTrue (list_all is_inner text)

  -- each of what is written
  each_inner : {A : Type 0} (write : A → List ℕ) → ((x : A) → IsInner (write x)) → (xs : List A) → Each IsInner (map write xs)
  each_inner write each [] = tt
  each_inner write each (x ∷ xs) = (each x, each_inner write each xs)

  -- a text without separators in front of another makes its first piece longer
  front_piece : (front text first : List ℕ) (others : List (List ℕ)) → IsInner front → pieces separator text ≡ first ∷ others → pieces separator (front ++ text) ≡ (front ++ first) ∷ others
  front_piece [] text first others inner e = e
  front_piece (b ∷ front) text first others inner e =
      let parts = and_parts (is_inner b) (list_all is_inner front) inner in
      let apart : (b == separator) ≡ false = not-true (b == separator) parts.0 in
      rw (apart, front_piece front text first others parts.1 e) refl

  at_separator : (text : List ℕ) → pieces separator (separator ∷ text) ≡ [] ∷ pieces separator text
  at_separator text = let same : (separator == separator) ≡ true = eq-eqb separator separator refl in rw same refl

  -- texts without separators are the pieces of what is written of them
  pub pieces_of : (text : List ℕ) (texts : List (List ℕ)) → Each IsInner (text ∷ texts) → pieces separator (joined (text ∷ texts)) ≡ text ∷ texts
  pieces_of text [] inner = front_piece text [] [] [] inner.0 refl ∙ ap (λ t. t ∷ []) (append-nil text)
  pieces_of text (next ∷ texts) inner =
      front_piece text (behind_each (next ∷ texts)) [] (next ∷ texts) inner.0 (at_separator (joined (next ∷ texts)) ∙ ap (λ ts. [] ∷ ts) (pieces_of next texts inner.1))
      ∙ ap (λ t. t ∷ next ∷ texts) (append-nil text)

-- ---- items

module _ {A : Type 0} (is_before : A → A → Bool) where
  -- each item comes before the next, and the last one before the first
  abbrev pub AreChained : Option A → List A → Type 0
  AreChained last [] = Unit {0}
  AreChained last (x ∷ xs) = IsTrue (is_behind is_before last x) × AreChained (Some x) xs

  next_tells : (last item : Option A) (x : A) → next_item is_before last item ≡ Some x → (item ≡ Some x) × IsTrue (is_behind is_before last x)
  next_tells last None x e = absurd (none-some x e)
  next_tells last (Some y) x e = let parts = cond_some (is_behind is_before last y) y x e in (ap Some parts.1, subst (λ z. IsTrue (is_behind is_before last z)) parts.1 parts.0)

  module _ (read : List ℕ → Option A) (write : A → List ℕ) where
    pub items_back : (last : Option A) (xs : List A) → AreChained last xs → Each (λ x. read (write x) ≡ Some x) xs → items_in is_before read last (map write xs) ≡ Some xs
    items_back last [] chained each = refl
    items_back last (x ∷ xs) chained each = rw (each.0, chained.0, items_back (Some x) xs chained.1 each.1) refl

    pub items_tell : (P : A → Type 0) → ((text : List ℕ) (x : A) → read text ≡ Some x → (write x ≡ text) × P x)
        → (last : Option A) (texts : List (List ℕ)) (xs : List A) → items_in is_before read last texts ≡ Some xs
        → (map write xs ≡ texts) × AreChained last xs × Each P xs
    items_tell P told last [] xs e = subst (λ ys. (map write ys ≡ []) × AreChained last ys × Each P ys) (same_Some [] xs e) (refl, tt, tt)
    items_tell P told last (text ∷ texts) xs e =
        let one = followed (λ x. option_map (λ ys. x ∷ ys) (items_in is_before read (Some x) texts)) (next_item is_before last (read text)) xs e in
        let here = next_tells last (read text) one.from one.is in
        let told_one = told text one.from here.0 in
        let rest = mapped (λ ys. one.from ∷ ys) (items_in is_before read (Some one.from) texts) xs one.gives in
        let more = items_tell P told (Some one.from) texts rest.from rest.is in
        subst (λ ys. (map write ys ≡ text ∷ texts) × AreChained last ys × Each P ys) rest.gives
        (rw (told_one.0, more.0) refl, (here.1, more.1), (told_one.1, more.2))

    -- ---- a text of items
    module _ (separator : ℕ) where
      pub list_back : ((x : A) → IsInner separator (write x)) → (x : A) (xs : List A) → AreChained None (x ∷ xs) → Each (λ y. read (write y) ≡ Some y) (x ∷ xs)
          → items_in is_before read None (pieces separator (joined separator (map write (x ∷ xs)))) ≡ Some (x ∷ xs)
      list_back inner x xs chained each =
          rw (pieces_of separator (write x) (map write xs) (each_inner separator write inner (x ∷ xs))) (items_back None (x ∷ xs) chained each)

      -- what the items of a text are
      pub record ListTold (P : A → Type 0) (text : List ℕ) (xs : List A) : Type 0 where
        pub text_is : joined separator (map write xs) ≡ text
        pub some : 1 ≤ length xs
        pub chained : AreChained None xs
        pub each : Each P xs

      some_items : (text : List ℕ) (xs : List A) → map write xs ≡ pieces separator text → 1 ≤ length xs
      some_items text [] e = let first = some_pieces separator text in cc (first.are)
      some_items text (x ∷ xs) e = omega arith

      pub list_tells : (P : A → Type 0) → ((text : List ℕ) (x : A) → read text ≡ Some x → (write x ≡ text) × P x)
          → (text : List ℕ) (xs : List A) → items_in is_before read None (pieces separator text) ≡ Some xs → ListTold P text xs
      list_tells P told text xs e =
          let all = items_tell P told None (pieces separator text) xs e in
          record {
            text_is = ap (joined separator) all.0 ∙ pieces_join separator text;
            some = some_items text xs all.0;
            chained = all.1;
            each = all.2;
          }
