-- The turns of the rules of lists.
use Rattle.std.proofs.Common.{◌≡◌, ℕ, suc, ◌+◌, ◌-◌, ◌<◌, ◌≤◌, true, false, List, [], ◌∷◌, ◌++◌, length, Ok, Err, refl, arith}
use Rattle.syntax_lexer.specs.declared.token.Mark.{Mark}
use Rattle.syntax_grammar.specs.declared.rules.RuleFault.{RuleFault}
use Rattle.syntax_grammar.specs.declared.rules.RuleFault.TheVariants.{Syntax}
use Rattle.syntax_grammar.specs.State.{At}
use Rattle.syntax_grammar.specs.Parsing.{Parser, eat, sees}
use Rattle.syntax_grammar.specs.Lists.{many, separated, separated_from, until_from}
use Rattle.syntax_cursor.proofs.Turns.{over, turn}

module _ {A : Type 0} (item : Parser A) (mark : Mark) (n i : ℕ) (xs : List A) (a b : At) where
  pub item_failed : (e : RuleFault) → i < n → item a ≡ (Err e, b) → separated_from item mark (n - i) xs a ≡ (Err e, b)
  unfolding separated_from
  item_failed e more reads = rw (turn n i more, reads) refl

  pub item_last : (x : A) (c : At) → i < n → item a ≡ (Ok x, b) → eat mark b ≡ (Ok false, c) → separated_from item mark (n - i) xs a ≡ (Ok (xs ++ x ∷ []), c)
  unfolding separated_from
  item_last x c more reads eats = rw (turn n i more, reads, eats) refl

  pub item_more : (x : A) (c : At) → i < n → item a ≡ (Ok x, b) → eat mark b ≡ (Ok true, c)
      → separated_from item mark (n - i) xs a ≡ separated_from item mark (n - (i + 1)) (xs ++ x ∷ []) c
  unfolding separated_from
  item_more x c more reads eats = rw (turn n i more, reads, eats) refl

  pub until_failed : (e : RuleFault) → i < n → false ≡ sees mark a → item a ≡ (Err e, b) → until_from item mark (n - i) xs a ≡ (Err e, b)
  unfolding until_from sees
  until_failed e more seen reads = rw (turn n i more, ← seen, reads) refl

  pub until_more : (x : A) → i < n → false ≡ sees mark a → item a ≡ (Ok x, b) → until_from item mark (n - i) xs a ≡ until_from item mark (n - (i + 1)) (xs ++ x ∷ []) b
  unfolding until_from sees
  until_more x more seen reads = rw (turn n i more, ← seen, reads) refl

module _ {A : Type 0} (item : Parser A) (mark : Mark) (n i : ℕ) (xs : List A) (a : At) where
  pub no_item : n ≤ i → separated_from item mark (n - i) xs a ≡ (Err Syntax, a)
  unfolding separated_from
  no_item done = rw (over n i done) refl

  pub until_closed : i < n → true ≡ sees mark a → until_from item mark (n - i) xs a ≡ (Ok xs, a)
  unfolding until_from sees
  until_closed more seen = rw (turn n i more, ← seen) refl

  pub until_no_turn : n ≤ i → until_from item mark (n - i) xs a ≡ (Err Syntax, a)
  unfolding until_from
  until_no_turn done = rw (over n i done) refl

module _ {A : Type 0} (item : Parser A) (mark : Mark) (n : ℕ) (xs : List A) (a b : At) where
  pub separated_begins : n ≡ length a.rest → xs ≡ [] → separated item mark a ≡ separated_from item mark (n - 0) xs a
  unfolding separated
  separated_begins e none = let f : n - 0 ≡ length a.rest = omega arith in rw (f, none) refl

  pub many_begins : (x : A) → item a ≡ (Ok x, b) → n ≡ length b.rest → xs ≡ x ∷ [] → many item mark a ≡ until_from item mark (n - 0) xs b
  unfolding many
  many_begins x reads e one = let f : n - 0 ≡ length b.rest = omega arith in rw (reads, f, one) refl
