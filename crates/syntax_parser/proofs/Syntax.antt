-- The first token that isn't viable is the one that is named.
use Rattle.std.proofs.Common.{◌≡◌, ℕ, suc, ◌≤◌, ◌<◌, true, false, List, [], ◌∷◌, ◌++◌, length, refl, ap, sym, ◌∙◌, append_assoc, append-nil, length-append, nat_le, nat_lt, arith}
use Rattle.std.specs.Prelude.{Result, Ok, Err, if◌then◌else◌}
use Rattle.std.proofs.lemmas.Bool.Decides.{nat_tests}
use Rattle.syntax_lexer.specs.declared.token.Token.{Token}
use Rattle.syntax_grammar.specs.Tree.{Item as ItemTree}
use Rattle.syntax_grammar.specs.declared.rules.RuleFault.{RuleFault}
use Rattle.syntax_grammar.specs.declared.rules.RuleFault.TheVariants.{Syntax, TooDeep, NoMemory}
use Rattle.syntax_grammar.specs.State.{At}
use Rattle.syntax_grammar.specs.Parsing.{Outcome}
use Rattle.syntax_grammar.specs.ItemRules.{items}
use Rattle.syntax_grammar.specs.Grammar.{Leveled, tokens_of, Items}
use Rattle.syntax_grammar.specs.Exact.{Shallow, HasTree, Starts, IsViable, GoesWrong, IsSyntaxAt}
use Rattle.syntax_grammar.specs.Tokens.{max_level, place}
use Rattle.syntax_parser.proofs.Cut.{at, cut, tokens-append, tokens-append-rest, cut-append}
use Rattle.syntax_parser.proofs.Local.{Beyond, no_more}
use Rattle.syntax_parser.proofs.RulesLocal.{local_items}
use Rattle.syntax_parser.proofs.Found.{Stuck, Deep}
use Rattle.syntax_parser.proofs.ItemsFound.{items_found}
use Rattle.syntax_parser.proofs.Exact.{items_all, cut_fits, tree_answer}

-- tokens that reach past a token begin with those up to it
record Front (us : List Leveled) (before : List Token) (t : Token) : Type 0 where
  front : List Leveled
  back : List Leveled
  both : us ≡ front ++ back
  spelled : before ++ t ∷ [] ≡ tokens_of front

front_of : (us : List Leveled) (before : List Token) (t : Token) (ts r : List Token) → tokens_of us ++ r ≡ before ++ t ∷ ts → length r ≤ length ts → Front us before t
front_of [] before t ts r e le = absurd (let n : length r ≡ length (before ++ t ∷ ts) = ap (λ (xs : List Token). length xs) e in omega (arith, length-append before (t ∷ ts)))
front_of (u ∷ us) [] t ts r e le = let first : t ≡ u.0 = cc in record { front = u ∷ []; back = us; both = refl; spelled = ap (λ (x : Token). x ∷ []) first }
front_of (u ∷ us) (b ∷ before) t ts r e le =
    let first : b ≡ u.0 = cc in
    let rest : tokens_of us ++ r ≡ before ++ t ∷ ts = cc in
    let f = front_of us before t ts r rest le in
    record { front = u ∷ f.front; back = f.back; both = ap (λ (xs : List Leveled). u ∷ xs) f.both; spelled = ap (λ (x : Token). x ∷ before ++ t ∷ []) first ∙ ap (λ (xs : List Token). u.0 ∷ xs) f.spelled }

viable_of : (us : List Leveled) (before : List Token) (t : Token) (ts r : List Token) → tokens_of us ++ r ≡ before ++ t ∷ ts → length r ≤ length ts → Starts us → IsViable (before ++ t ∷ [])
viable_of us before t ts r e le s =
    let f = front_of us before t ts r e le in
    let all : us ++ s.more ≡ f.front ++ (f.back ++ s.more) = ap (λ (xs : List Leveled). xs ++ s.more) f.both ∙ append_assoc f.front f.back s.more in
    record { leveled = f.front; spelled = f.spelled; starts = record { more = f.back ++ s.more; items = s.items; derived = rw (← all) s.derived } }

-- ends of one list that are as long are the same
same_end : (xs ys r s : List Token) → xs ++ r ≡ ys ++ s → length r ≡ length s → r ≡ s
same_end [] [] r s e l = e
same_end [] (y ∷ ys) r s e l = absurd (let n : length r ≡ length (y ∷ ys ++ s) = ap (λ (xs : List Token). length xs) e in omega (arith, length-append ys s))
same_end (x ∷ xs) [] r s e l = absurd (let n : length (x ∷ xs ++ r) ≡ length s = ap (λ (xs : List Token). length xs) e in omega (arith, length-append xs r))
same_end (x ∷ xs) (y ∷ ys) r s e l = let rest : xs ++ r ≡ ys ++ s = cc in same_end xs ys r s rest l

cut_short : {A : Type 0} (us : List Leveled) (rest : List Token) (o : Outcome A) → length o.1.rest ≤ length rest → length ((cut us rest o).1.rest) ≤ length (tokens_of us ++ rest)
cut_short [] rest o h = h
cut_short (u ∷ us) rest o h =
    elim (nat_le u.1 max_level) as (λ b. length ((if b then cut us rest o else (Err TooDeep, at max_level (u.0 ∷ tokens_of us ++ rest))).1.rest) ≤ suc (length (tokens_of us ++ rest))) [
      | true ↦ (let le = cut_short us rest o h in omega arith)
      | false ↦ omega arith
    ]

-- the parser goes through tokens that are viable and not too deep
beyond_short : {A : Type 0} (more after : List Token) (r : Result A RuleFault) (ℓ : ℕ) (rest : List Token) (o p : Outcome A) → Beyond more r ℓ rest o → length o.1.rest ≤ length more → Beyond after r ℓ rest p → length p.1.rest ≤ length after
beyond_short more after r ℓ [] o p h le i = i
beyond_short {A = A} more after r ℓ (t ∷ ts) o p h le i = absurd (let n : length o.1.rest ≡ length (t ∷ ts ++ more) = ap (λ (o : Outcome A). length o.1.rest) h in omega (arith, length-append ts more))

reach : (us : List Leveled) (after : List Token) → Starts us → Shallow us → length ((items (at 0 (tokens_of us ++ after))).1.rest) ≤ length after
reach us after s fits =
    let o : Outcome (List ItemTree) = items (at 0 (tokens_of us)) in
    let read : items (at 0 (tokens_of us ++ tokens_of s.more)) ≡ cut s.more [] (Ok s.items, at 0 []) =
    ap (λ (ts : List Token). items (at 0 ts)) (sym (tokens-append us s.more)) ∙ items_all (us ++ s.more) s.items s.derived
    ∙ cut-append us s.more [] (Ok s.items, at 0 []) ∙ cut_fits us (tokens_of s.more ++ []) (cut s.more [] (Ok s.items, at 0 [])) fits in
    let short : length ((items (at 0 (tokens_of us ++ tokens_of s.more))).1.rest) ≤ length (tokens_of s.more) =
    (rw (read, ← append-nil (tokens_of s.more)) (cut_short s.more [] (Ok s.items, at 0 []) (omega arith))) in
    beyond_short (tokens_of s.more) after o.0 o.1.level o.1.rest (items (at 0 (tokens_of us ++ tokens_of s.more))) (items (at 0 (tokens_of us ++ after)))
    (local_items.goes 0 (tokens_of us) (tokens_of s.more)) short (local_items.goes 0 (tokens_of us) after)

whole_starts : (us : List Leveled) (fs : List ItemTree) → Items us fs → Starts us
whole_starts us fs h = record { more = []; items = fs; derived = rw (append-nil us) h }

-- ---- the clause

-- no list that goes wrong here is read further
no_further : (before : List Leveled) (after : List Token) (us : List Leveled) (r : List Token) → GoesWrong (tokens_of before) after → tokens_of us ++ r ≡ tokens_of before ++ after → Starts us → length r ≤ length after → (0 < length after) → length r ≡ length after
no_further before [] us r wrong e s le some = absurd (omega arith)
no_further before (t ∷ ts) us r wrong e s le some = elim (nat_lt (length r) (length (t ∷ ts))) as (λ b. nat_lt (length r) (length (t ∷ ts)) ≡ b → length r ≡ length (t ∷ ts)) [
  | true ↦ λ h. (let less : length r < length (t ∷ ts) = grind (arith, nat_tests) in absurd (wrong (viable_of us (tokens_of before) t ts r e (omega arith) s)))
  | false ↦ λ h. (let more : length (t ∷ ts) ≤ length r = grind (arith, nat_tests) in omega arith)
] refl

ends_same : (before : List Leveled) (after : List Token) (us : List Leveled) (r : List Token) → GoesWrong (tokens_of before) after → tokens_of us ++ r ≡ tokens_of before ++ after → Starts us → length r ≤ length after → r ≡ after
ends_same before [] us r wrong e s le = no_more r le
ends_same before (t ∷ ts) us r wrong e s le = same_end (tokens_of us) (tokens_of before) r (t ∷ ts) e (no_further before (t ∷ ts) us r wrong e s le (omega arith))

far_enough : (tokens : List Token) (before : List Leveled) (after : List Token) → tokens ≡ tokens_of before ++ after → Starts before → Shallow before → (r : Result (List ItemTree) RuleFault) (new : At)
    → items (at 0 tokens) ≡ (r, new) → length new.rest ≤ length after
far_enough tokens before after whole s fits r new e =
    let same : (items (at 0 (tokens_of before ++ after))).1.rest ≡ new.rest = ap (λ (ts : List Token). (items (at 0 ts)).1.rest) (sym whole) ∙ ap (λ (o : Outcome (List ItemTree)). o.1.rest) e in
    rw (← same) (reach before after s fits)

pub syntax_only : (tokens : List Token) (end place_ : ℕ) (r : Result (List ItemTree) RuleFault) (new : At) → IsSyntaxAt tokens end place_ → items (at 0 tokens) ≡ (r, new) → (r ≡ Err Syntax) × (place end new.rest ≡ place_)
syntax_only tokens end place_ (Ok fs) new h e =
    let tree = tree_answer tokens end fs new e in
    absurd (by h.after h.whole h.wrong tree) where
      by : (after : List Token) → tokens ≡ tokens_of h.before ++ after → GoesWrong (tokens_of h.before) after → HasTree tokens end (record { items = fs; end = end }) → ⊥
      by [] whole wrong tree = wrong tree.leveled fs (sym (append-nil (tokens_of h.before)) ∙ sym whole ∙ tree.spelled) tree.derived
      by (t ∷ ts) whole wrong tree = wrong (viable_of tree.leveled (tokens_of h.before) t ts [] (append-nil (tokens_of tree.leveled) ∙ sym tree.spelled ∙ whole) (omega arith) (whole_starts tree.leveled fs tree.derived))
syntax_only tokens end place_ (Err Syntax) new h e =
    let far : length new.rest ≤ length h.after = far_enough tokens h.before h.after h.whole h.starts h.shallow (Err Syntax) new e in
    let found : Stuck (λ top us a. (top ≡ 0) × Items us a) tokens new = rw e at (items_found tokens) in
    let starts : Starts found.used = record { more = found.more; items = found.value; derived = found.could.1 } in
    let same : new.rest ≡ h.after = ends_same h.before h.after found.used new.rest h.wrong (sym found.whole ∙ h.whole) starts far in
    (refl, ap (λ (ts : List Token). place end ts) same ∙ sym h.here)
syntax_only tokens end place_ (Err TooDeep) new h e =
    let far : length new.rest ≤ length h.after = far_enough tokens h.before h.after h.whole h.starts h.shallow (Err TooDeep) new e in
    let found : Deep (λ top us a. (top ≡ 0) × Items us a) tokens new = rw e at (items_found tokens) in
    absurd (by h.after h.whole h.wrong found.used found.over found.after (rw found.next at far) (found.whole ∙ ap (λ (ts : List Token). tokens_of found.used ++ ts) found.next)
    (record { more = found.more; items = found.value; derived = rw (append_assoc found.used (found.over ∷ []) found.more) found.could.1 })) where
      by : (after : List Token) → tokens ≡ tokens_of h.before ++ after → GoesWrong (tokens_of h.before) after → (used : List Leveled) → (over : Leveled) → (rest : List Token) → length (over.0 ∷ rest) ≤ length after
          → tokens ≡ tokens_of used ++ over.0 ∷ rest → Starts (used ++ over ∷ []) → ⊥
      by [] whole wrong used over rest le read s = omega arith
      by (t ∷ ts) whole wrong used over rest le read s =
          wrong (viable_of (used ++ over ∷ []) (tokens_of h.before) t ts rest (tokens-append-rest used (over ∷ []) rest ∙ sym read ∙ whole) (omega arith) s)
syntax_only tokens end place_ (Err NoMemory) new h e = absurd (rw e at (items_found tokens))
