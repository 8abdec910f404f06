-- What the rules of lists answer is in the grammar, whatever the items are.
use Rattle.std.proofs.Common.{◌≡◌, ℕ, zero, suc, ◌≤◌, ◌<◌, ◌+◌, Bool, true, false, List, [], ◌∷◌, ◌++◌, length, refl, ap, sym, ◌∙◌, append_assoc, append-nil, inl, inr, arith}
use Rattle.std.specs.Prelude.{Ok, Some, if◌then◌else◌}
use Rattle.syntax_lexer.specs.declared.token.Token.{Token}
use Rattle.syntax_lexer.specs.declared.token.Kind.{Kind}
use Rattle.syntax_lexer.specs.declared.token.Mark.{Mark}
use Rattle.syntax_grammar.specs.declared.tree.Span.{Span}
use Rattle.syntax_grammar.specs.Parsing.{Parser, ◌>>=◌, and_then, pure, eat, is_mark, first_kind}
use Rattle.syntax_grammar.specs.Lists.{separated, separated_from, until, until_from, many}
use Rattle.syntax_grammar.specs.Grammar.{Leveled, tokens_of}
use Rattle.syntax_parser.proofs.Cut.{at}
use Rattle.syntax_parser.proofs.Found.{Low, low_any, Read, Left, read_then_flat, read_pure, read_refuse, read_shift, read_map}
use Rattle.syntax_parser.proofs.TokensFound.{of_mark, is_mark_true, FlatAt}

pub tokens_count : (us : List Leveled) (rest : List Token) → length (tokens_of us ++ rest) ≡ length us + length rest
tokens_count [] rest = omega arith
tokens_count (u ∷ us) rest = let e = tokens_count us rest in omega arith

pub left_fewer : (s rest : List Token) (us : List Leveled) (n : ℕ) → Left s us rest → 0 < length us → length s ≤ suc n → length rest ≤ n
left_fewer s rest us n (inl none) some le = rw none (omega arith)
left_fewer s rest us n (inr whole) some le = let count : length s ≡ length us + length rest = ap (λ (ts : List Token). length ts) whole ∙ tokens_count us rest in omega arith

-- a mark that may be there
pub eat_found : {B : Type 0} (L : ℕ → List Leveled → B → Type 0) (ℓ : ℕ) (s : List Token) (mark : Mark) (f : Bool → Parser B) → Low ℓ s
    → ((sp : Span) (rest : List Token) → Low ℓ rest → Read (λ top vs b. L top ((of_mark mark sp, ℓ) ∷ vs) b) rest (f true (at ℓ rest)))
    → Read L s (f false (at ℓ s))
    → Read L s (and_then (eat mark (at ℓ s)) f)
unfolding eat
eat_found L ℓ [] mark f low got missing = missing
eat_found L ℓ (t ∷ ts) mark f low got missing =
    let here : Span = record { from = t.from; to = t.to } in
    elim (is_mark mark (Some t.kind)) as (λ b. is_mark mark (Some t.kind) ≡ b → Read L (t ∷ ts) (and_then (if b then (Ok true, at ℓ ts) else (Ok false, at ℓ (t ∷ ts))) f)) [
      | true ↦ λ e. read_shift L ((of_mark mark here, ℓ) ∷ []) (t ∷ ts) ts (f true (at ℓ ts))
          (ap (λ (kind : Kind). record { kind = kind; from = t.from; to = t.to } ∷ ts) (is_mark_true mark t.kind e)) (low, tt) (got here ts (low_any ℓ ts low))
      | false ↦ λ e. missing
    ] refl

-- those that were found, and more
abbrev pub Longer : {A : Type 0} → ℕ → (List Leveled → List A → Type 0) → List A → ℕ → List Leveled → List A → Type 0
Longer {A = A} ℓ L found top us all = (top ≡ ℓ) × ((xs : List A) × (all ≡ found ++ xs) × L us xs)

-- lists with marks between
module _ {A : Type 0} (item : Parser A) (mark : Mark) (ℓ : ℕ) (P : List Leveled → A → Type 0) (L : List Leveled → List A → Type 0)
    (some_us : List Leveled) (some_x : A) (some : P some_us some_x)
    (last : (us : List Leveled) (x : A) → P us x → L us (x ∷ []))
    (next : (us vs : List Leveled) (x : A) (xs : List A) (sp : Span) → P us x → L vs xs → L (us ++ (of_mark mark sp, ℓ) ∷ vs) (x ∷ xs))
    (item_found : (s : List Token) → Low ℓ s → Read (FlatAt ℓ P) s (item (at ℓ s))) where
  separated_from_found : (n : ℕ) (s : List Token) (found : List A) → Low ℓ s → Read (Longer ℓ L found) s (separated_from item mark n found (at ℓ s))
  unfolding separated_from
  separated_from_found zero s found low = read_refuse (Longer ℓ L found) ℓ ℓ s some_us (found ++ some_x ∷ []) (refl, (some_x ∷ [], refl, last some_us some_x some))
  separated_from_found (suc n) s found low =
      read_then_flat P (Longer ℓ L found) ℓ s (item (at ℓ s)) (λ x. eat mark >>= (λ more. if more then separated_from item mark n (found ++ x ∷ []) else pure (found ++ x ∷ []))) (item_found s low)
      (λ x rest us read low.
      eat_found (λ top vs all. Longer ℓ L found top (us ++ vs) all) ℓ rest mark (λ more. if more then separated_from item mark n (found ++ x ∷ []) else pure (found ++ x ∷ [])) low
      (λ sp rest low. read_map (Longer ℓ L (found ++ x ∷ [])) (λ top vs all. Longer ℓ L found top (us ++ (of_mark mark sp, ℓ) ∷ vs) all) rest (separated_from item mark n (found ++ x ∷ []) (at ℓ rest))
      (λ top vs all h. (h.0, (x ∷ h.1.0, h.1.1 ∙ append_assoc found (x ∷ []) h.1.0, next us vs x h.1.0 sp read h.1.2)))
      (separated_from_found n rest (found ++ x ∷ []) low))
      (read_pure _ ℓ rest (found ++ x ∷ []) low (refl, (x ∷ [], refl, rw (append-nil us) (last us x read)))))

  pub separated_found : (s : List Token) → Low ℓ s → Read (FlatAt ℓ L) s (separated item mark (at ℓ s))
  unfolding separated
  separated_found s low = read_map (Longer ℓ L []) (FlatAt ℓ L) s (separated_from item mark (length s) [] (at ℓ s)) (λ top us all h. (h.0, rw h.1.1 h.1.2)) (separated_from_found (length s) s [] low)

-- lists up to a closing mark
module _ {A : Type 0} (item : Parser A) (closing : Mark) (ℓ : ℕ) (P : List Leveled → A → Type 0) (L : List Leveled → List A → Type 0)
    (none : L [] [])
    (next : (us vs : List Leveled) (x : A) (xs : List A) → P us x → L vs xs → L (us ++ vs) (x ∷ xs))
    (item_found : (s : List Token) → Low ℓ s → Read (FlatAt ℓ P) s (item (at ℓ s))) where
  until_from_found : (n : ℕ) (s : List Token) (found : List A) → Low ℓ s → Read (Longer ℓ L found) s (until_from item closing n found (at ℓ s))
  unfolding until_from
  until_from_found zero s found low = read_refuse (Longer ℓ L found) ℓ ℓ s [] found (refl, ([], sym (append-nil found), none))
  until_from_found (suc n) s found low = elim (is_mark closing (first_kind s)) as (λ b. Read (Longer ℓ L found) s ((if b then pure found else (item >>= (λ x. until_from item closing n (found ++ x ∷ [])))) (at ℓ s))) [
    | true ↦ read_pure (Longer ℓ L found) ℓ s found low (refl, ([], sym (append-nil found), none))
    | false ↦ read_then_flat P (Longer ℓ L found) ℓ s (item (at ℓ s)) (λ x. until_from item closing n (found ++ x ∷ [])) (item_found s low)
        (λ x rest us read low.
        read_map (Longer ℓ L (found ++ x ∷ [])) (λ top vs all. Longer ℓ L found top (us ++ vs) all) rest (until_from item closing n (found ++ x ∷ []) (at ℓ rest))
        (λ top vs all h. (h.0, (x ∷ h.1.0, h.1.1 ∙ append_assoc found (x ∷ []) h.1.0, next us vs x h.1.0 read h.1.2)))
        (until_from_found n rest (found ++ x ∷ []) low))
  ]

  pub until_found : (s : List Token) → Low ℓ s → Read (FlatAt ℓ L) s (until item closing (at ℓ s))
  unfolding until
  until_found s low = read_map (Longer ℓ L []) (FlatAt ℓ L) s (until_from item closing (length s) [] (at ℓ s)) (λ top us all h. (h.0, rw h.1.1 h.1.2)) (until_from_found (length s) s [] low)

  -- one and more
  pub many_found : (M : List Leveled → List A → Type 0) → ((us vs : List Leveled) (x : A) (xs : List A) → P us x → L vs xs → M (us ++ vs) (x ∷ xs))
      → (s : List Token) → Low ℓ s → Read (FlatAt ℓ M) s (many item closing (at ℓ s))
  unfolding many
  many_found M first s low =
      read_then_flat P (FlatAt ℓ M) ℓ s (item (at ℓ s)) (λ x at_. until_from item closing (length at_.rest) (x ∷ []) at_) (item_found s low)
      (λ x rest us read low.
      read_map (Longer ℓ L (x ∷ [])) (λ top vs all. FlatAt ℓ M top (us ++ vs) all) rest (until_from item closing (length rest) (x ∷ []) (at ℓ rest))
      (λ top vs all h. (h.0, rw h.1.1 (first us vs x h.1.0 read h.1.2)))
      (until_from_found (length rest) rest (x ∷ []) low))
