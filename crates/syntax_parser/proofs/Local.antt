-- A parser looks at no token after the one that it stops at.
use Rattle.std.proofs.Common.{◌≡◌, ℕ, zero, suc, ◌≤◌, ◌<◌, ◌+◌, Bool, true, false, List, [], ◌∷◌, ◌++◌, length, refl, ap, sym, ◌∙◌, length-append, zero-add, inl, inr, nat_lt, arith}
use Rattle.std.specs.Prelude.{Result, Ok, Err, Option, Some, None, if◌then◌else◌}
use Rattle.syntax_lexer.specs.declared.token.Token.{Token}
use Rattle.syntax_lexer.specs.declared.token.Kind.{Kind}
use Rattle.syntax_lexer.specs.declared.token.Kind.TheVariants as k
use Rattle.syntax_lexer.specs.declared.token.Mark.{Mark}
use Rattle.syntax_lexer.specs.declared.token.Mark.TheVariants as m
use Rattle.syntax_lexer.specs.declared.token.Keyword.{Keyword}
use Rattle.syntax_grammar.specs.declared.rules.RuleFault.{RuleFault}
use Rattle.syntax_grammar.specs.declared.rules.RuleFault.TheVariants.{Syntax, TooDeep}
use Rattle.syntax_grammar.specs.State.{At}
use Rattle.syntax_grammar.specs.Parsing.{Outcome, Parser, ◌>>=◌, ◌>>◌, and_then, pure, stop, skip, by_next, first_kind, after_first, eat, expect, expect_word, number, number_by, literal, lower, lower_by, upper, upper_by, enter, enter_if, rise, leave, is_mark, is_word}
use Rattle.syntax_grammar.specs.Lists.{separated, separated_from, until, until_from, many}
use Rattle.syntax_grammar.specs.Nodes.{literal_of}
use Rattle.syntax_grammar.specs.Tokens.{max_level}
use Rattle.syntax_parser.proofs.Cut.{at}
use Rattle.syntax_parser.proofs.Found.{Takes}
use Rattle.syntax_parser.proofs.TokensFound.{of_number, takes_number}

abbrev pub Beyond : {A : Type 0} → List Token → Result A RuleFault → ℕ → List Token → Outcome A → Type 0
Beyond more r ℓ [] o = length o.1.rest ≤ length more
Beyond more r ℓ (t ∷ ts) o = o ≡ (r, at ℓ (t ∷ ts ++ more))

-- With more tokens behind, the outcome is the same, unless all tokens were read: then it may come further.
pub record Local {A : Type 0} (p : Parser A) : Type 0 where
  pub shrinks : (ℓ : ℕ) (s : List Token) → length ((p (at ℓ s)).1.rest) ≤ length s
  pub goes : (ℓ : ℕ) (s more : List Token) → Beyond more (p (at ℓ s)).0 (p (at ℓ s)).1.level (p (at ℓ s)).1.rest (p (at ℓ (s ++ more)))

then_shrinks : {A B : Type 0} (o : Outcome A) (f : A → Parser B) → ((a : A) → Local (f a)) → length ((and_then o f).1.rest) ≤ length o.1.rest
then_shrinks (Ok a, new) f g = (g a).shrinks new.level new.rest
then_shrinks (Err e, new) f g = omega arith

pub no_more : (s : List Token) → length s ≤ 0 → s ≡ []
no_more [] h = refl
no_more (t ∷ ts) h = absurd (omega arith)

then_goes : {A B : Type 0} (more : List Token) (r : Result A RuleFault) (ℓ : ℕ) (rest : List Token) (o : Outcome A) (f : A → Parser B) → ((a : A) → Local (f a))
    → Beyond more r ℓ rest o
    → Beyond more (and_then (r, at ℓ rest) f).0 (and_then (r, at ℓ rest) f).1.level (and_then (r, at ℓ rest) f).1.rest (and_then o f)
then_goes more (Ok a) ℓ [] o f g h =
    let none : (f a (at ℓ [])).1.rest ≡ [] = no_more _ ((g a).shrinks ℓ []) in
    let short : length ((and_then o f).1.rest) ≤ length o.1.rest = then_shrinks o f g in
    rw none (omega arith)
then_goes more (Ok a) ℓ (t ∷ ts) o f g h = rw h ((g a).goes ℓ (t ∷ ts) more)
then_goes more (Err e) ℓ [] o f g h = let short : length ((and_then o f).1.rest) ≤ length o.1.rest = then_shrinks o f g in omega arith
then_goes more (Err e) ℓ (t ∷ ts) o f g h = rw h refl

pub local_then : {A B : Type 0} {p : Parser A} (f : A → Parser B) → Local p → ((a : A) → Local (f a)) → Local (p >>= f)
local_then {p = p} f h g = record {
  shrinks = λ ℓ s. let one = h.shrinks ℓ s in let two = then_shrinks (p (at ℓ s)) f g in omega arith;
  goes = λ ℓ s more. then_goes more (p (at ℓ s)).0 (p (at ℓ s)).1.level (p (at ℓ s)).1.rest (p (at ℓ (s ++ more))) f g (h.goes ℓ s more);
}

-- ---- the steps

stays : {A : Type 0} (more : List Token) (r : Result A RuleFault) (ℓ : ℕ) (s : List Token) → Beyond more r ℓ s (r, at ℓ (s ++ more))
stays more r ℓ [] = omega arith
stays more r ℓ (t ∷ ts) = refl

pub local_pure : {A : Type 0} (a : A) → Local (pure a)
local_pure a = record { shrinks = λ ℓ s. omega arith; goes = λ ℓ s more. stays more (Ok a) ℓ s }

pub local_stop : {A : Type 0} (e : RuleFault) → Local (stop {A = A} e)
local_stop e = record { shrinks = λ ℓ s. omega arith; goes = λ ℓ s more. stays more (Err e) ℓ s }

pub local_leave : (outer : ℕ) → Local (leave outer)
local_leave outer = record { shrinks = λ ℓ s. omega arith; goes = λ ℓ s more. stays more (Ok tt) outer s }

pub local_skip : Local skip
local_skip = record { shrinks = short; goes = goes } where
  short : (ℓ : ℕ) (s : List Token) → length ((skip (at ℓ s)).1.rest) ≤ length s
  short ℓ [] = omega arith
  short ℓ (t ∷ ts) = omega arith

  goes : (ℓ : ℕ) (s more : List Token) → Beyond more (skip (at ℓ s)).0 (skip (at ℓ s)).1.level (skip (at ℓ s)).1.rest (skip (at ℓ (s ++ more)))
  goes ℓ [] more = short ℓ more
  goes ℓ (t ∷ ts) more = stays more (Ok (record { from = t.from; to = t.to })) ℓ ts

pub local_by_next : {A : Type 0} (f : Option Kind → Parser A) → ((next : Option Kind) → Local (f next)) → Local (by_next f)
local_by_next f g = record { shrinks = λ ℓ s. (g (first_kind s)).shrinks ℓ s; goes = goes } where
  goes : (ℓ : ℕ) (s more : List Token) → Beyond more (by_next f (at ℓ s)).0 (by_next f (at ℓ s)).1.level (by_next f (at ℓ s)).1.rest (by_next f (at ℓ (s ++ more)))
  goes ℓ [] more =
      let none : (f None (at ℓ [])).1.rest ≡ [] = no_more _ ((g None).shrinks ℓ []) in
      rw none ((g (first_kind more)).shrinks ℓ more)
  goes ℓ (t ∷ ts) more = (g (Some t.kind)).goes ℓ (t ∷ ts) more

pub local_if : {A : Type 0} (b : Bool) (p q : Parser A) → Local p → Local q → Local (λ at. if b then p at else q at)
local_if true p q h g = h
local_if false p q h g = g

pub local_choose : {A : Type 0} (b : Bool) (p q : Parser A) → Local p → Local q → Local (if b then p else q)
local_choose true p q h g = h
local_choose false p q h g = g

abbrev rise_by : Bool → ℕ → List Token → Outcome (Unit {0})
rise_by b ℓ s = if b then (Ok tt, at (ℓ + 1) s) else (Err TooDeep, at ℓ s)

rise_short : (b : Bool) (ℓ : ℕ) (s : List Token) → length ((rise_by b ℓ s).1.rest) ≤ length s
rise_short true ℓ s = omega arith
rise_short false ℓ s = omega arith

rise_goes : (b : Bool) (ℓ : ℕ) (s more : List Token) → Beyond more (rise_by b ℓ s).0 (rise_by b ℓ s).1.level (rise_by b ℓ s).1.rest (rise_by b ℓ (s ++ more))
rise_goes true ℓ s more = stays more (Ok tt) (ℓ + 1) s
rise_goes false ℓ s more = stays more (Err TooDeep) ℓ s

pub local_rise : Local rise
unfolding rise
local_rise = record { shrinks = λ ℓ s. rise_short (nat_lt ℓ max_level) ℓ s; goes = λ ℓ s more. rise_goes (nat_lt ℓ max_level) ℓ s more }

-- a rule that reads the level
pub local_state : {A : Type 0} (f : ℕ → Parser A) → ((ℓ : ℕ) → Local (f ℓ)) → Local (λ at. f at.level at)
local_state f g = record { shrinks = λ ℓ s. (g ℓ).shrinks ℓ s; goes = λ ℓ s more. (g ℓ).goes ℓ s more }

pub local_enter : (begins : Option Kind → Bool) → Local (enter begins)
unfolding enter
local_enter begins = local_by_next (λ next. enter_if (begins next))
    (λ next. local_if (begins next) (λ at. (rise >> pure at.level) at) (stop Syntax) (local_state (λ ℓ. rise >> pure ℓ) (λ ℓ. local_then _ local_rise (λ _. local_pure ℓ))) (local_stop Syntax))

pub local_expect : (mark : Mark) → Local (expect mark)
unfolding expect
local_expect mark = local_by_next (λ next at. if is_mark mark next then skip at else stop Syntax at) (λ next. local_if (is_mark mark next) skip (stop Syntax) local_skip (local_stop Syntax))

pub local_word : (word : Keyword) → Local (expect_word word)
unfolding expect_word
local_word word = local_by_next (λ next at. if is_word word next then skip at else stop Syntax at) (λ next. local_if (is_word word next) skip (stop Syntax) local_skip (local_stop Syntax))

pub local_number : Local number
unfolding number
local_number = local_by_next number_by by where
  by : (next : Option Kind) → Local (number_by next)
  by (Some (k.Upper text)) = local_stop Syntax
  by (Some (k.Number v)) = local_then (λ s. pure (record { v = v; span = s })) local_skip (λ s. local_pure (record { v = v; span = s }))
  by (Some (k.Lower text)) = local_stop Syntax
  by (Some (k.Mark _)) = local_stop Syntax
  by (Some (k.Word _)) = local_stop Syntax
  by None = local_stop Syntax

pub local_lower : Local lower
unfolding lower
local_lower = local_by_next lower_by by where
  by : (next : Option Kind) → Local (lower_by next)
  by (Some (k.Upper text)) = local_stop Syntax
  by (Some (k.Lower text)) = local_then (λ s. pure (record { text = text; span = s })) local_skip (λ s. local_pure (record { text = text; span = s }))
  by (Some (k.Number v)) = local_stop Syntax
  by (Some (k.Mark _)) = local_stop Syntax
  by (Some (k.Word _)) = local_stop Syntax
  by None = local_stop Syntax

pub local_upper : Local upper
unfolding upper
local_upper = local_by_next upper_by by where
  by : (next : Option Kind) → Local (upper_by next)
  by (Some (k.Upper text)) = local_then (λ s. pure (record { text = text; span = s })) local_skip (λ s. local_pure (record { text = text; span = s }))
  by (Some (k.Lower text)) = local_stop Syntax
  by (Some (k.Number v)) = local_stop Syntax
  by (Some (k.Mark _)) = local_stop Syntax
  by (Some (k.Word _)) = local_stop Syntax
  by None = local_stop Syntax

pub local_literal : Local literal
unfolding literal
local_literal = local_then _ local_number (λ v. local_then _ (local_expect m.Colon) (λ _. local_then _ local_number (λ w. local_pure _)))

abbrev eat_by : Bool → Parser Bool
eat_by b = λ a. if b then (Ok true, record a { rest = after_first a.rest }) else (Ok false, a)

pub local_eat : (mark : Mark) → Local (eat mark)
unfolding eat
local_eat mark = local_by_next (λ next. eat_by (is_mark mark next)) (λ next. local_if (is_mark mark next) (skip >> pure true) (pure false) (local_then _ local_skip (λ _. local_pure true)) (local_pure false))

local_separated_from : {A : Type 0} (item : Parser A) (mark : Mark) → Local item → (n : ℕ) (found : List A) → Local (separated_from item mark n found)
unfolding separated_from
local_separated_from item mark one zero found = local_stop Syntax
local_separated_from item mark one (suc n) found = local_then _ one (λ x. local_then _ (local_eat mark) (λ more.
    local_choose more (separated_from item mark n (found ++ x ∷ [])) (pure (found ++ x ∷ [])) (local_separated_from item mark one n (found ++ x ∷ [])) (local_pure _)))

local_until_from : {A : Type 0} (item : Parser A) (closing : Mark) → Local item → (n : ℕ) (found : List A) → Local (until_from item closing n found)
unfolding until_from
local_until_from item closing one zero found = local_stop Syntax
local_until_from item closing one (suc n) found = local_by_next (λ next. if is_mark closing next then pure found else (item >>= (λ x. until_from item closing n (found ++ x ∷ []))))
    (λ next. local_choose (is_mark closing next) (pure found) (item >>= (λ x. until_from item closing n (found ++ x ∷ []))) (local_pure found)
    (local_then _ one (λ x. local_until_from item closing one n (found ++ x ∷ []))))

-- ---- loops that are bounded by the count of tokens

-- p takes a token wherever it answers
pub record Moves {A : Type 0} (p : Parser A) : Type 0 where
  pub moves : (ℓ : ℕ) (s : List Token) (a : A) (new : At) → p (at ℓ s) ≡ (Ok a, new) → length new.rest < length s

-- more turns than tokens change nothing
abbrev pub Enough : {A : Type 0} → (ℕ → Parser A) → Type 0
Enough p = (n ℓ : ℕ) (s : List Token) → length s ≤ n → p n (at ℓ s) ≡ p (suc n) (at ℓ s)

pub enough_more : {A : Type 0} (p : ℕ → Parser A) → Enough p → (k n ℓ : ℕ) (s : List Token) → length s ≤ n → p n (at ℓ s) ≡ p (k + n) (at ℓ s)
enough_more p h zero n ℓ s le = rw (zero-add n) refl
enough_more p h (suc k) n ℓ s le = let e : suc k + n ≡ suc (k + n) = omega arith in rw e (enough_more p h k n ℓ s le ∙ h (k + n) ℓ s (omega arith))

pub local_turns : {A : Type 0} (p : ℕ → Parser A) → Enough p → ((n : ℕ) → Local (p n)) → Local (λ at. p (length at.rest) at)
local_turns p h g = record {
  shrinks = λ ℓ s. (g (length s)).shrinks ℓ s;
  goes = λ ℓ s more.
      let longer : length (s ++ more) ≡ length more + length s = omega (arith, length-append s more) in
      rw (longer, enough_more p h (length more) (length s) ℓ s (omega arith)) ((g (length more + length s)).goes ℓ s more);
}

pub same_then : {A B : Type 0} (o : Outcome A) (f g : A → Parser B) → ((a : A) (new : At) → o ≡ (Ok a, new) → f a new ≡ g a new) → and_then o f ≡ and_then o g
same_then (Ok a, new) f g h = h a new refl
same_then (Err e, new) f g h = refl

-- p needs a token
abbrev pub Needs : {A : Type 0} → Parser A → Type 0
Needs p = (ℓ : ℕ) → p (at ℓ []) ≡ (Err Syntax, at ℓ [])

pub same_choice : {A : Type 0} (b : Bool) (p q r : Parser A) (a : At) → p a ≡ q a → (if b then p else r) a ≡ (if b then q else r) a
same_choice true p q r a h = h
same_choice false p q r a h = refl

eats_less : (mark : Mark) (a : At) (b : Bool) (new : At) → eat mark a ≡ (Ok b, new) → length new.rest ≤ length a.rest
eats_less mark a b new e = let h = (local_eat mark).shrinks a.level a.rest in let same : (eat mark a).1.rest ≡ new.rest = ap (λ (o : Outcome Bool). o.1.rest) e in rw (← same) h

enough_separated : {A : Type 0} (item : Parser A) (mark : Mark) → Needs item → Moves item → (n ℓ : ℕ) (s : List Token) (found : List A) → length s ≤ n
    → separated_from item mark n found (at ℓ s) ≡ separated_from item mark (suc n) found (at ℓ s)
unfolding separated_from
enough_separated item mark needs moves zero ℓ s found le = let none : s ≡ [] = no_more s le in rw (none, needs ℓ) refl
enough_separated item mark needs moves (suc n) ℓ s found le =
    same_then (item (at ℓ s)) (λ x. eat mark >>= (λ more. if more then separated_from item mark n (found ++ x ∷ []) else pure (found ++ x ∷ [])))
    (λ x. eat mark >>= (λ more. if more then separated_from item mark (suc n) (found ++ x ∷ []) else pure (found ++ x ∷ [])))
    (λ x new e. same_then (eat mark new) (λ more. if more then separated_from item mark n (found ++ x ∷ []) else pure (found ++ x ∷ []))
    (λ more. if more then separated_from item mark (suc n) (found ++ x ∷ []) else pure (found ++ x ∷ []))
    (λ more last e'. same_choice more (separated_from item mark n (found ++ x ∷ [])) (separated_from item mark (suc n) (found ++ x ∷ [])) (pure (found ++ x ∷ [])) last
    (let less = moves.moves ℓ s x new e in let no_longer = eats_less mark new more last e' in
    enough_separated item mark needs moves n last.level last.rest (found ++ x ∷ []) (omega arith))))

pub local_separated : {A : Type 0} (item : Parser A) (mark : Mark) → Local item → Needs item → Moves item → Local (separated item mark)
unfolding separated
local_separated item mark one needs moves = local_turns (λ n. separated_from item mark n []) (λ n ℓ s le. enough_separated item mark needs moves n ℓ s [] le) (λ n. local_separated_from item mark one n [])

same_other : {A : Type 0} (b : Bool) (p q r : Parser A) (a : At) → p a ≡ q a → (if b then r else p) a ≡ (if b then r else q) a
same_other true p q r a h = refl
same_other false p q r a h = h

enough_until : {A : Type 0} (item : Parser A) (closing : Mark) → Needs item → Moves item → (n ℓ : ℕ) (s : List Token) (found : List A) → length s ≤ n
    → until_from item closing n found (at ℓ s) ≡ until_from item closing (suc n) found (at ℓ s)
unfolding until_from
enough_until item closing needs moves zero ℓ s found le = let none : s ≡ [] = no_more s le in rw (none, needs ℓ) refl
enough_until item closing needs moves (suc n) ℓ s found le =
    same_other (is_mark closing (first_kind s)) (item >>= (λ x. until_from item closing n (found ++ x ∷ []))) (item >>= (λ x. until_from item closing (suc n) (found ++ x ∷ []))) (pure found) (at ℓ s)
    (same_then (item (at ℓ s)) (λ x. until_from item closing n (found ++ x ∷ [])) (λ x. until_from item closing (suc n) (found ++ x ∷ []))
    (λ x new e. let less = moves.moves ℓ s x new e in enough_until item closing needs moves n new.level new.rest (found ++ x ∷ []) (omega arith)))

local_until_more : {A : Type 0} (item : Parser A) (closing : Mark) → Local item → Needs item → Moves item → (found : List A) → Local (λ at. until_from item closing (length at.rest) found at)
local_until_more item closing one needs moves found = local_turns (λ n. until_from item closing n found) (λ n ℓ s le. enough_until item closing needs moves n ℓ s found le) (λ n. local_until_from item closing one n found)

pub local_until : {A : Type 0} (item : Parser A) (closing : Mark) → Local item → Needs item → Moves item → Local (until item closing)
unfolding until
local_until item closing one needs moves = local_until_more item closing one needs moves []

pub local_many : {A : Type 0} (item : Parser A) (closing : Mark) → Local item → Needs item → Moves item → Local (many item closing)
unfolding many
local_many item closing one needs moves = local_then _ one (λ x. local_until_more item closing one needs moves (x ∷ []))

-- what takes a token moves
pub takes_moves : {A : Type 0} (tok : A → Token) (p : Parser A) → ((ℓ : ℕ) (s : List Token) → Takes tok p ℓ s) → Moves p
takes_moves {A = A} tok p takes = record {
  moves = λ ℓ s a new e. elim (takes ℓ s) [
    | inl none ↦ (let bad : Err Syntax ≡ Ok a = sym (ap (λ (o : Outcome A). o.0) none) ∙ ap (λ (o : Outcome A). o.0) e in cc)
    | inr found ↦ (let same : found.1 ≡ new.rest = sym (ap (λ (o : Outcome A). o.1.rest) found.3) ∙ ap (λ (o : Outcome A). o.1.rest) e in
        rw (found.2, ← same) (omega arith))
  ];
}

pub ok_shrinks : {A : Type 0} (p : Parser A) → Local p → (before : At) (a : A) (new : At) → p before ≡ (Ok a, new) → length new.rest ≤ length before.rest
ok_shrinks {A = A} p h before a new e = let same : (p before).1.rest ≡ new.rest = ap (λ (o : Outcome A). o.1.rest) e in rw (← same) (h.shrinks before.level before.rest)

pub then_moves : {A B : Type 0} (o : Outcome A) (f : A → Parser B) (k : ℕ) → ((a : A) → Local (f a)) → ((a : A) (new : At) → o ≡ (Ok a, new) → length new.rest < k)
    → (b : B) (new : At) → and_then o f ≡ (Ok b, new) → length new.rest < k
then_moves (Ok a, mid) f k g moves b new e = let less = moves a mid refl in let rest = ok_shrinks (f a) (g a) mid b new e in omega arith
then_moves {B = B} (Err d, mid) f k g moves b new e = let bad : Err d ≡ Ok b = ap (λ (o : Outcome B). o.0) e in cc

pub moves_then : {A B : Type 0} {p : Parser A} (f : A → Parser B) → Moves p → ((a : A) → Local (f a)) → Moves (p >>= f)
moves_then {p = p} f h g = record { moves = λ ℓ s. then_moves (p (at ℓ s)) f (length s) g (λ a new e. h.moves ℓ s a new e) }

pub after_moves : {A B : Type 0} (o : Outcome A) (f : A → Parser B) (k : ℕ) → length o.1.rest ≤ k → ((a : A) → Moves (f a)) → (b : B) (new : At) → and_then o f ≡ (Ok b, new) → length new.rest < k
after_moves (Ok a, mid) f k le g b new e = let less = (g a).moves mid.level mid.rest b new e in omega arith
after_moves {B = B} (Err d, mid) f k le g b new e = let bad : Err d ≡ Ok b = ap (λ (o : Outcome B). o.0) e in cc

pub moves_after : {A B : Type 0} {p : Parser A} (f : A → Parser B) → Local p → ((a : A) → Moves (f a)) → Moves (p >>= f)
moves_after {p = p} f h g = record { moves = λ ℓ s. after_moves (p (at ℓ s)) f (length s) (h.shrinks ℓ s) g }

pub moves_by_next : {A : Type 0} (f : Option Kind → Parser A) → ((next : Option Kind) → Moves (f next)) → Moves (by_next f)
moves_by_next f h = record { moves = λ ℓ s a new e. (h (first_kind s)).moves ℓ s a new e }

pub moves_stop : {A : Type 0} (d : RuleFault) → Moves (stop {A = A} d)
moves_stop {A = A} d = record { moves = λ ℓ s a new e. (let bad : Err d ≡ Ok a = ap (λ (o : Outcome A). o.0) e in cc) }

pub moves_literal : Moves literal
unfolding literal
moves_literal = moves_then (λ v. expect m.Colon >>= (λ _. number >>= (λ w. pure (literal_of v w)))) (takes_moves of_number number takes_number)
    (λ v. local_then _ (local_expect m.Colon) (λ _. local_then _ local_number (λ w. local_pure _)))

-- a choice of two that both move
pub moves_choose : {A : Type 0} (b : Bool) (p q : Parser A) → Moves p → Moves q → Moves (if b then p else q)
moves_choose true p q h g = h
moves_choose false p q h g = g
