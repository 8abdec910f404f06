-- The turns of the rules of declarations and rows.
use Rattle.std.proofs.Common.{◌≡◌, ℕ, suc, ◌+◌, ◌-◌, ◌<◌, ◌≤◌, List, [], ◌∷◌, ◌++◌, length, Option, Some, None, Ok, Err, refl, sym, ap, ◌∙◌, arith}
use Rattle.syntax_lexer.specs.declared.token.Kind.{Kind}
use Rattle.syntax_grammar.specs.Tree.{Item}
use Rattle.syntax_grammar.specs.State.{At}
use Rattle.syntax_grammar.specs.declared.rules.RuleFault.TheVariants.{Syntax}
use Rattle.syntax_grammar.specs.Parsing.{Outcome, Parser, next}
use Rattle.syntax_lexer.specs.declared.token.Mark.{Mark}
use Rattle.syntax_grammar.specs.Lists.{until, until_from}
use Rattle.syntax_grammar.specs.ItemRules.{item, items, items_from}
use Rattle.syntax_cursor.proofs.Turns.{over, turn}

pub items_begin : (n : ℕ) (xs : List Item) (a : At) → n ≡ length a.rest → xs ≡ [] → items a ≡ items_from (n - 0) xs a
unfolding items
items_begin n xs a e none = let f : n - 0 ≡ length a.rest = omega arith in rw (f, none) refl

pub items_all : (n i : ℕ) (xs : List Item) (a : At) → n ≤ i → items_from (n - i) xs a ≡ (Ok xs, a)
unfolding items_from
items_all n i xs a done = rw (over n i done) refl

before : (k : Option Kind) (m : ℕ) (xs : List Item) (x : Item) (a b : At) → next a ≡ k → item a ≡ (Ok x, b) → items_from (suc m) xs a ≡ items_from m (xs ++ x ∷ []) b
unfolding items_from item
before None m xs x a b e reads =
    let stops : item a ≡ (Err Syntax, a) = rw e refl in
    let clash : Err Syntax ≡ Ok x = ap (λ (o : Outcome Item). o.0) (sym stops ∙ reads) in
    absurd cc
before (Some k) m xs x a b e reads = rw (e, reads) refl

pub item_read : (n i : ℕ) (xs : List Item) (x : Item) (a b : At) → i < n → item a ≡ (Ok x, b) → items_from (n - i) xs a ≡ items_from (n - (i + 1)) (xs ++ x ∷ []) b
item_read n i xs x a b more reads = rw (turn n i more) (before (next a) (n - (i + 1)) xs x a b refl reads)

pub until_begins : {A : Type 0} (item : Parser A) (closing : Mark) (n : ℕ) (xs : List A) (a : At) → n ≡ length a.rest → xs ≡ [] → until item closing a ≡ until_from item closing (n - 0) xs a
unfolding until
until_begins item closing n xs a e none = let f : n - 0 ≡ length a.rest = omega arith in rw (f, none) refl
