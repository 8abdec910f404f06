-- The rules of terms answer what the grammar says.
use Rattle.std.proofs.Common.{◌≡◌, ℕ, zero, suc, ◌≤◌, ◌<◌, ◌+◌, Bool, true, false, List, [], ◌∷◌, ◌++◌, refl, append_assoc, append-nil, inl, inr, arith}
use Rattle.std.specs.Prelude.{Ok, Err, Some, if◌then◌else◌, ◌==◌}
use Rattle.std.proofs.lemmas.Bool.Decides.{nat_tests}
use Rattle.syntax_lexer.specs.declared.token.Token.{Token}
use Rattle.syntax_lexer.specs.declared.token.Kind.{Kind}
use Rattle.syntax_lexer.specs.declared.token.Kind.TheVariants as k
use Rattle.syntax_lexer.specs.declared.token.Mark.TheVariants as m
use Rattle.syntax_lexer.specs.declared.token.Keyword.{Keyword}
use Rattle.syntax_lexer.specs.declared.token.Keyword.TheVariants as w
use Rattle.syntax_grammar.specs.declared.tree.Span.{Span}
use Rattle.syntax_grammar.specs.declared.tree.Name.{Name}
use Rattle.syntax_grammar.specs.declared.rules.RuleFault.TheVariants.{Syntax, TooDeep, NoMemory}
use Rattle.syntax_grammar.specs.Tree.{Term as Expr, Pattern, Arm as ArmTree}
use Rattle.syntax_grammar.specs.Tree as e
use Rattle.syntax_grammar.specs.Parsing.{Outcome, Parser, ◌>>=◌, ◌>>◌, and_then, pure, stop, skip, first_kind, is_mark, begins_term, enter, enter_if, rise, leave}
use Rattle.syntax_grammar.specs.Lists.{separated, many}
use Rattle.syntax_grammar.specs.PatternRules.{pattern}
use Rattle.syntax_grammar.specs.TermRules.{term, body, let_in, if_else, at_precedence, chain_from, unary_from, post, index, indexes_from, atom, word, flag, named, call, arguments, made, parts, operation, cast, arm, match_on, paren, max_turns}
use Rattle.syntax_grammar.specs.Grammar.{Leveled, tokens_of, token, Pat, Term, AtPrecedence, Unary, Post, Atom, Arguments, Terms, Arm, Arms}
use Rattle.syntax_grammar.specs.Grammar as g
use Rattle.syntax_grammar.specs.Nodes.{binary_of, prefix_of, get_of, put_of}
use Rattle.syntax_grammar.specs.Operators.{binds, groups, operator, prefix_operator, loosest}
use Rattle.syntax_grammar.specs.Tokens.{max_level, is_prefix, is_operation, is_cast}
use Rattle.syntax_parser.proofs.Cut.{at}
use Rattle.syntax_parser.proofs.Derivations.{level_rises, post_rises, starts_term}
use Rattle.syntax_parser.proofs.LevelsAgain.{low_or_top, rise_low, rise_high}
use Rattle.syntax_parser.proofs.TermsAgain.{other_nat}
use Rattle.syntax_parser.proofs.Found.{Low, low_any, Deep, Read, read_then, read_then_flat, read_pure, read_refuse, read_shift, read_map}
use Rattle.syntax_parser.proofs.TokensFound.{nowhere, mark_then, word_then, number_then, lower_then, upper_then, literal_found, FlatAt}
use Rattle.syntax_parser.proofs.ListsFound.{eat_found, separated_found, many_found}
use Rattle.syntax_parser.proofs.PatternsFound.{PatFound, pattern_found, some_pattern}

abbrev AtomAt : ℕ → ℕ → List Leveled → Expr → Type 0
AtomAt ℓ = FlatAt ℓ (λ us x. Atom ℓ us x)

abbrev pub TermAt : ℕ → ℕ → List Leveled → Expr → Type 0
TermAt ℓ = FlatAt ℓ (λ us x. Term ℓ us x)

abbrev pub TermFound : ℕ → ℕ → Type 0
TermFound depth ℓ = (s : List Token) → Low ℓ s → Read (TermAt ℓ) s (term depth (at ℓ s))

-- ---- something that could come

abbrev some_name : Name
some_name = g.name [] nowhere

some_atom : (ℓ : ℕ) → Atom ℓ (g.lower [] nowhere ℓ ∷ []) (e.var some_name)
some_atom ℓ = g.var [] nowhere

some_post : (ℓ : ℕ) → Post ℓ ℓ (g.lower [] nowhere ℓ ∷ []) (e.var some_name)
some_post ℓ = g.Post.atom (some_atom ℓ)

some_at_precedence : (p ℓ : ℕ) → AtPrecedence p ℓ ℓ (g.lower [] nowhere ℓ ∷ []) (e.var some_name)
some_at_precedence zero ℓ = g.unary (g.post (some_post ℓ))
some_at_precedence (suc p) ℓ = g.one (some_at_precedence p ℓ)

pub some_term : (ℓ : ℕ) → Term ℓ (g.lower [] nowhere (suc ℓ) ∷ []) (e.var some_name)
some_term ℓ = g.operators (some_at_precedence loosest (suc ℓ))

-- ---- atoms

word_found : (ℓ : ℕ) (s : List Token) → Low ℓ s → Read (AtomAt ℓ) s (word (at ℓ s))
unfolding word
word_found ℓ s low = read_then_flat (λ us l. g.IsLiteral ℓ us l) (AtomAt ℓ) ℓ s _ _ (literal_found ℓ s low) (λ l s us found low. read_pure _ ℓ s _ low (refl, rw (append-nil us) (g.Atom.word found)))

true_found : (ℓ : ℕ) (s : List Token) → Low ℓ s → Read (AtomAt ℓ) s (flag w.KwTrue true (at ℓ s))
unfolding flag
true_found ℓ s low = word_then (AtomAt ℓ) ℓ s w.KwTrue _ low (λ span s low. read_pure _ ℓ s _ low (refl, g.Atom.true_flag span))

false_found : (ℓ : ℕ) (s : List Token) → Low ℓ s → Read (AtomAt ℓ) s (flag w.KwFalse false (at ℓ s))
unfolding flag
false_found ℓ s low = word_then (AtomAt ℓ) ℓ s w.KwFalse _ low (λ span s low. read_pure _ ℓ s _ low (refl, g.Atom.false_flag span))

paren_found : (depth ℓ : ℕ) → TermFound depth ℓ → (s : List Token) → Low ℓ s → Read (AtomAt ℓ) s (paren (term depth) (at ℓ s))
unfolding paren
paren_found depth ℓ inner s low =
    mark_then (AtomAt ℓ) ℓ s m.LParen _ low (λ start s low.
    read_then_flat (λ us x. Term ℓ us x) _ ℓ s _ _ (inner s low) (λ x s us found low.
    mark_then _ ℓ s m.RParen _ low (λ end s low.
    read_pure _ ℓ s _ low (refl, g.paren start end found))))

terms_found : (depth ℓ : ℕ) → TermFound depth ℓ → (s : List Token) → Low ℓ s → Read (FlatAt ℓ (λ us xs. Terms ℓ us xs)) s (separated (term depth) m.Comma (at ℓ s))
terms_found depth ℓ inner s low =
    separated_found (term depth) m.Comma ℓ (λ us x. Term ℓ us x) (λ us xs. Terms ℓ us xs) _ _ (some_term ℓ) (λ us x h. g.Terms.last h) (λ us vs x xs sp h more. g.Terms.next sp h more) inner s low

arguments_found : (depth ℓ : ℕ) → TermFound depth ℓ → (s : List Token) → Low ℓ s → Read (FlatAt ℓ (λ us xs. Arguments ℓ us xs)) s (arguments (term depth) (at ℓ s))
unfolding arguments
arguments_found depth ℓ inner s low = elim (is_mark m.RParen (first_kind s)) as (λ b. Read (FlatAt ℓ (λ us xs. Arguments ℓ us xs)) s ((if b then pure [] else separated (term depth) m.Comma) (at ℓ s))) [
  | true ↦ read_pure (FlatAt ℓ (λ us xs. Arguments ℓ us xs)) ℓ s [] low (refl, g.Arguments.none)
  | false ↦ read_map (FlatAt ℓ (λ us xs. Terms ℓ us xs)) (FlatAt ℓ (λ us xs. Arguments ℓ us xs)) s (separated (term depth) m.Comma (at ℓ s)) (λ top us all h. (h.0, g.Arguments.some h.1)) (terms_found depth ℓ inner s low)
]

named_found : (depth ℓ : ℕ) → TermFound depth ℓ → (s : List Token) → Low ℓ s → Read (AtomAt ℓ) s (named (term depth) (at ℓ s))
unfolding named call
named_found depth ℓ inner s low =
    lower_then (AtomAt ℓ) ℓ s _ low (λ x s low.
    eat_found _ ℓ s m.LParen _ low
    (λ start s low.
    read_then_flat (λ us xs. Arguments ℓ us xs) _ ℓ s _ _ (arguments_found depth ℓ inner s low) (λ xs s us found low.
    mark_then _ ℓ s m.RParen _ low (λ end s low.
    read_pure _ ℓ s _ low (refl, g.call x.text x.span start end found))))
    (read_pure _ ℓ s _ low (refl, g.var x.text x.span)))

made_found : (depth ℓ : ℕ) → TermFound depth ℓ → (s : List Token) → Low ℓ s → Read (AtomAt ℓ) s (made (term depth) (at ℓ s))
unfolding made parts
made_found depth ℓ inner s low =
    upper_then (AtomAt ℓ) ℓ s _ low (λ x s low.
    eat_found _ ℓ s m.LParen _ low
    (λ start s low.
    read_then_flat (λ us xs. Terms ℓ us xs) _ ℓ s _ _ (terms_found depth ℓ inner s low) (λ xs s us found low.
    mark_then _ ℓ s m.RParen _ low (λ end s low.
    read_pure _ ℓ s _ low (refl, g.Atom.make x.text x.span start end found))))
    (read_pure _ ℓ s _ low (refl, g.Atom.alone x.text x.span)))

operation_found : (depth ℓ : ℕ) (op : Keyword) → is_operation op ≡ true → TermFound depth ℓ → (s : List Token) → Low ℓ s → Read (AtomAt ℓ) s (operation (term depth) op (at ℓ s))
unfolding operation
operation_found depth ℓ op is inner s low =
    word_then (AtomAt ℓ) ℓ s op _ low (λ start s low.
    mark_then _ ℓ s m.LParen _ low (λ opens s low.
    read_then_flat (λ us x. Term ℓ us x) _ ℓ s _ _ (inner s low) (λ x s us first low.
    mark_then _ ℓ s m.Comma _ low (λ comma s low.
    read_then_flat (λ us x. Term ℓ us x) _ ℓ s _ _ (inner s low) (λ y s vs second low.
    mark_then _ ℓ s m.RParen _ low (λ end s low.
    read_pure _ ℓ s _ low (refl, g.operation op start opens comma end is first second)))))))

cast_found : (depth ℓ : ℕ) (op : Keyword) → is_cast op ≡ true → TermFound depth ℓ → (s : List Token) → Low ℓ s → Read (AtomAt ℓ) s (cast (term depth) op (at ℓ s))
unfolding cast
cast_found depth ℓ op is inner s low =
    word_then (AtomAt ℓ) ℓ s op _ low (λ start s low.
    mark_then _ ℓ s m.LParen _ low (λ opens s low.
    read_then_flat (λ us x. Term ℓ us x) _ ℓ s _ _ (inner s low) (λ x s us first low.
    mark_then _ ℓ s m.Comma _ low (λ comma s low.
    number_then _ ℓ s _ low (λ to s low.
    mark_then _ ℓ s m.RParen _ low (λ end s low.
    read_pure _ ℓ s _ low (refl, g.cast op to.v start opens comma to.span end is first)))))))

-- ---- matches

arm_found : (depth ℓ : ℕ) → PatFound depth ℓ → TermFound depth ℓ → (s : List Token) → Low ℓ s → Read (FlatAt ℓ (λ us x. Arm ℓ us x)) s (arm (pattern depth) (term depth) (at ℓ s))
unfolding arm
arm_found depth ℓ patterns inner s low =
    read_then_flat (λ us p. Pat ℓ us p) (FlatAt ℓ (λ us x. Arm ℓ us x)) ℓ s _ _ (patterns s low) (λ p s us pat low.
    mark_then _ ℓ s m.FatArrow _ low (λ arrow s low.
    read_then_flat (λ us x. Term ℓ us x) _ ℓ s _ _ (inner s low) (λ x s vs found low.
    mark_then _ ℓ s m.Semi _ low (λ end s low.
    read_pure _ ℓ s _ low (refl, g.arm arrow end pat found)))))

-- what follows a first arm
abbrev MoreArms : ℕ → List Leveled → List ArmTree → Type 0
MoreArms ℓ vs xs = (us : List Leveled) (x : ArmTree) → Arm ℓ us x → Arms ℓ (us ++ vs) (x ∷ xs)

no_more_arms : (ℓ : ℕ) → MoreArms ℓ [] []
no_more_arms ℓ us x h = rw (append-nil us) (g.last_arm h)

more_arms : (ℓ : ℕ) (us vs : List Leveled) (x : ArmTree) (xs : List ArmTree) → Arm ℓ us x → MoreArms ℓ vs xs → MoreArms ℓ (us ++ vs) (x ∷ xs)
more_arms ℓ us vs x xs h more ws y first = g.next_arm first (more us x h)

arms_found : (depth ℓ : ℕ) → PatFound depth ℓ → TermFound depth ℓ → (s : List Token) → Low ℓ s → Read (FlatAt ℓ (λ us xs. Arms ℓ us xs)) s (many (arm (pattern depth) (term depth)) m.RBrace (at ℓ s))
arms_found depth ℓ patterns inner s low =
    many_found (arm (pattern depth) (term depth)) m.RBrace ℓ (λ us x. Arm ℓ us x) (MoreArms ℓ) (no_more_arms ℓ) (more_arms ℓ) (arm_found depth ℓ patterns inner) (λ us xs. Arms ℓ us xs)
    (λ us vs x xs h more. more us x h) s low

match_found : (depth ℓ : ℕ) → PatFound depth ℓ → TermFound depth ℓ → (s : List Token) → Low ℓ s → Read (AtomAt ℓ) s (match_on (pattern depth) (term depth) (at ℓ s))
unfolding match_on
match_found depth ℓ patterns inner s low =
    word_then (AtomAt ℓ) ℓ s w.KwMatch _ low (λ start s low.
    read_then_flat (λ us x. Term ℓ us x) _ ℓ s _ _ (inner s low) (λ x s us first low.
    word_then _ ℓ s w.KwWith _ low (λ within s low.
    mark_then _ ℓ s m.LBrace _ low (λ opens s low.
    read_then_flat (λ us xs. Arms ℓ us xs) _ ℓ s _ _ (arms_found depth ℓ patterns inner s low) (λ arms s vs found low.
    mark_then _ ℓ s m.RBrace _ low (λ end s low.
    read_pure _ ℓ s _ low (refl, g.match_on start within opens end first found)))))))

no_atom : (ℓ : ℕ) (s : List Token) → Read (AtomAt ℓ) s (Err Syntax, at ℓ s)
no_atom ℓ s = read_refuse (AtomAt ℓ) ℓ ℓ s _ _ (refl, some_atom ℓ)

atom_found : (depth ℓ : ℕ) → PatFound depth ℓ → TermFound depth ℓ → (s : List Token) → Low ℓ s → Read (AtomAt ℓ) s (atom (pattern depth) (term depth) (at ℓ s))
unfolding atom
atom_found depth ℓ patterns inner [] low = no_atom ℓ []
atom_found depth ℓ patterns inner (t ∷ ts) low = by t.kind where
  by : (kind : Kind) → let s : List Token = record { kind = kind; from = t.from; to = t.to } ∷ ts in Read (AtomAt ℓ) s (atom (pattern depth) (term depth) (at ℓ s))
  by (k.Number v) = word_found ℓ _ low
  by (k.Lower text) = named_found depth ℓ inner _ low
  by (k.Upper text) = made_found depth ℓ inner _ low
  by (k.Mark m.LParen) = paren_found depth ℓ inner _ low
  by (k.Mark _) = no_atom ℓ _
  by (k.Word w.KwTrue) = true_found ℓ _ low
  by (k.Word w.KwFalse) = false_found ℓ _ low
  by (k.Word w.KwMatch) = match_found depth ℓ patterns inner _ low
  by (k.Word w.KwShl) = operation_found depth ℓ w.KwShl refl inner _ low
  by (k.Word w.KwShru) = operation_found depth ℓ w.KwShru refl inner _ low
  by (k.Word w.KwShrs) = operation_found depth ℓ w.KwShrs refl inner _ low
  by (k.Word w.KwRotl) = operation_found depth ℓ w.KwRotl refl inner _ low
  by (k.Word w.KwDivu) = operation_found depth ℓ w.KwDivu refl inner _ low
  by (k.Word w.KwDivs) = operation_found depth ℓ w.KwDivs refl inner _ low
  by (k.Word w.KwRemu) = operation_found depth ℓ w.KwRemu refl inner _ low
  by (k.Word w.KwRems) = operation_found depth ℓ w.KwRems refl inner _ low
  by (k.Word w.KwMulhu) = operation_found depth ℓ w.KwMulhu refl inner _ low
  by (k.Word w.KwMulhs) = operation_found depth ℓ w.KwMulhs refl inner _ low
  by (k.Word w.KwLtu) = operation_found depth ℓ w.KwLtu refl inner _ low
  by (k.Word w.KwLeu) = operation_found depth ℓ w.KwLeu refl inner _ low
  by (k.Word w.KwLts) = operation_found depth ℓ w.KwLts refl inner _ low
  by (k.Word w.KwLes) = operation_found depth ℓ w.KwLes refl inner _ low
  by (k.Word w.KwZext) = cast_found depth ℓ w.KwZext refl inner _ low
  by (k.Word w.KwSext) = cast_found depth ℓ w.KwSext refl inner _ low
  by (k.Word w.KwTrunc) = cast_found depth ℓ w.KwTrunc refl inner _ low
  by (k.Word _) = no_atom ℓ _

-- ---- keys

-- a term with a key, from the tokens after the mark `[` on
data Keyed : ℕ → Expr → List Leveled → Expr → Type 0 where
  got : {ℓ : ℕ} {x : Expr} (s : Span) {b : List Leveled} {key : Expr} → Term ℓ b key → Keyed ℓ x (b ++ g.mark m.RBracket s ℓ ∷ []) (get_of x key s)
  changed : {ℓ : ℕ} {x : Expr} (s₁ s₂ : Span) {b d : List Leveled} {key v : Expr} → Term ℓ b key → Term ℓ d v → Keyed ℓ x (b ++ g.mark m.Assign s₁ ℓ ∷ (d ++ g.mark m.RBracket s₂ ℓ ∷ [])) (put_of x key v s₂)

keyed_post : {ℓ mid : ℕ} {a us : List Leveled} {x y : Expr} (s : Span) → Post ℓ mid a x → Keyed (suc mid) x us y → Post ℓ (suc mid) (a ++ g.mark m.LBracket s (suc mid) ∷ us) y
keyed_post s first (got s₂ key) = g.get s s₂ first key
keyed_post s first (changed s₁ s₂ key v) = g.put s s₁ s₂ first key v

index_found : (depth ℓ : ℕ) → TermFound depth ℓ → (x : Expr) (s : List Token) → Low ℓ s → Read (FlatAt ℓ (λ us y. Keyed ℓ x us y)) s (index (term depth) x (at ℓ s))
unfolding index
index_found depth ℓ inner x s low =
    read_then_flat (λ us x. Term ℓ us x) (FlatAt ℓ (λ us y. Keyed ℓ x us y)) ℓ s _ _ (inner s low) (λ key s us first low.
    eat_found _ ℓ s m.Assign _ low
    (λ assign s low.
    read_then_flat (λ us x. Term ℓ us x) _ ℓ s _ _ (inner s low) (λ v s vs second low.
    mark_then _ ℓ s m.RBracket _ low (λ end s low.
    read_pure _ ℓ s _ low (refl, changed assign end first second))))
    (mark_then _ ℓ s m.RBracket _ low (λ end s low.
    read_pure _ ℓ s _ low (refl, got end first))))

-- there are turns left for the operators or keys that may come
abbrev Room : ℕ → ℕ → ℕ → List Token → Type 0
Room n ℓ top [] = 0 < n
Room n ℓ top (t ∷ ts) = (top ≤ max_level) × (max_turns + ℓ ≤ n + top)

room_at : (n ℓ top : ℕ) (rest : List Token) → Low top rest → 0 < n → max_turns + ℓ ≤ n + top → Room n ℓ top rest
room_at n ℓ top [] low some turns = some
room_at n ℓ top (t ∷ ts) low some turns = (low, turns)

-- what keys that have come to a level go on to
abbrev PostOn : ℕ → List Leveled → ℕ → List Leveled → Expr → Type 0
PostOn ℓ us top vs x = Post ℓ top (us ++ vs) x

-- one key, and what comes after it
key_found : (depth ℓ top n : ℕ) (us : List Leveled) (x : Expr) (s : Span) (ts : List Token) → Post ℓ top us x → 0 < ℓ → top ≤ max_level → max_turns + ℓ ≤ suc n + top → ((l : ℕ) → ℓ ≤ l → TermFound depth l)
    → ((us : List Leveled) (y : Expr) (next : ℕ) (s : List Token) → Post ℓ next us y → Room n ℓ next s → Read (PostOn ℓ us) s (indexes_from (term depth) n y (at next s)))
    → Read (PostOn ℓ us) (token (k.Mark m.LBracket) s ∷ ts) ((rise >> (skip >> (index (term depth) x >>= (λ y. indexes_from (term depth) n y)))) (at top (token (k.Mark m.LBracket) s ∷ ts)))
key_found depth ℓ top n us x s ts read some low turns inner again = elim (low_or_top top low) [
  | inl less ↦ let fit : suc top ≤ max_level = omega arith in
      let rises : ℓ ≤ top = post_rises read in
      rw (rise_low top (token (k.Mark m.LBracket) s ∷ ts) less)
      (read_shift (PostOn ℓ us) (g.mark m.LBracket s (suc top) ∷ []) (token (k.Mark m.LBracket) s ∷ ts) ts (and_then (index (term depth) x (at (suc top) ts)) (λ y. indexes_from (term depth) n y)) refl (fit, tt)
      (read_then_flat (λ vs y. Keyed (suc top) x vs y) (λ next vs y. Post ℓ next (us ++ g.mark m.LBracket s (suc top) ∷ vs) y) (suc top) ts (index (term depth) x (at (suc top) ts)) (λ y. indexes_from (term depth) n y)
      (index_found depth (suc top) (inner (suc top) (omega arith)) x ts (low_any (suc top) ts fit))
      (λ y rest vs found low.
      read_map (PostOn ℓ (us ++ g.mark m.LBracket s (suc top) ∷ vs)) (λ next ws z. Post ℓ next (us ++ g.mark m.LBracket s (suc top) ∷ (vs ++ ws)) z) rest (indexes_from (term depth) n y (at (suc top) rest))
      (λ next ws z h. rw (← append_assoc us (g.mark m.LBracket s (suc top) ∷ vs) ws) h)
      (again (us ++ g.mark m.LBracket s (suc top) ∷ vs) y (suc top) rest (keyed_post s read found) (room_at n ℓ (suc top) rest low (omega arith) (omega arith))))))
  | inr full ↦ rw (rise_high top (token (k.Mark m.LBracket) s ∷ ts) full)
      (record {
        used = [];
        over = g.mark m.LBracket s (suc top);
        after = ts;
        more = g.lower [] nowhere (suc (suc top)) ∷ g.mark m.RBracket nowhere (suc top) ∷ [];
        top = suc top;
        value = get_of x (e.var some_name) nowhere;
        whole = refl;
        next = refl;
        fits = tt;
        past = omega arith;
        could = g.get s nowhere read (some_term (suc top));
      })
]

indexes_found : (depth ℓ : ℕ) → 0 < ℓ → ((l : ℕ) → ℓ ≤ l → TermFound depth l) → (n : ℕ) (us : List Leveled) (x : Expr) (top : ℕ) (s : List Token) → Post ℓ top us x → Room n ℓ top s → Read (PostOn ℓ us) s (indexes_from (term depth) n x (at top s))
unfolding indexes_from
indexes_found depth ℓ some inner zero us x top [] read room = absurd (omega arith)
indexes_found depth ℓ some inner zero us x top (t ∷ ts) read room = absurd (let rises = post_rises read in omega (arith, room.0, room.1))
indexes_found depth ℓ some inner (suc n) us x top [] read room = read_pure (PostOn ℓ us) top [] x tt (rw (append-nil us) read)
indexes_found depth ℓ some inner (suc n) us x top (t ∷ ts) read room = by t.kind (λ us y next s read room. indexes_found depth ℓ some inner n us y next s read room) where
  here : Span
  here = record { from = t.from; to = t.to }

  by : (kind : Kind) → ((us : List Leveled) (y : Expr) (next : ℕ) (s : List Token) → Post ℓ next us y → Room n ℓ next s → Read (PostOn ℓ us) s (indexes_from (term depth) n y (at next s)))
      → Read (PostOn ℓ us) (token kind here ∷ ts) ((if is_mark m.LBracket (Some kind) then (rise >> (skip >> (index (term depth) x >>= (λ y. indexes_from (term depth) n y)))) else pure x) (at top (token kind here ∷ ts)))
  by (k.Mark m.LBracket) again = key_found depth ℓ top n us x here ts read some room.0 room.1 inner again
  by (k.Mark _) again = read_pure (PostOn ℓ us) top _ x room.0 (rw (append-nil us) read)
  by (k.Number v) again = read_pure (PostOn ℓ us) top _ x room.0 (rw (append-nil us) read)
  by (k.Lower text) again = read_pure (PostOn ℓ us) top _ x room.0 (rw (append-nil us) read)
  by (k.Upper text) again = read_pure (PostOn ℓ us) top _ x room.0 (rw (append-nil us) read)
  by (k.Word w) again = read_pure (PostOn ℓ us) top _ x room.0 (rw (append-nil us) read)

abbrev PostAt : ℕ → ℕ → List Leveled → Expr → Type 0
PostAt ℓ top us x = Post ℓ top us x

post_found : (depth ℓ : ℕ) → 0 < ℓ → PatFound depth ℓ → ((l : ℕ) → ℓ ≤ l → TermFound depth l) → (s : List Token) → Low ℓ s → Read (PostAt ℓ) s (post (pattern depth) (term depth) (at ℓ s))
unfolding post
post_found depth ℓ some patterns inner s low =
    read_then_flat (λ us x. Atom ℓ us x) (PostAt ℓ) ℓ s (atom (pattern depth) (term depth) (at ℓ s)) (indexes_from (term depth) max_turns) (atom_found depth ℓ patterns (inner ℓ (omega arith)) s low)
    (λ x rest us found low. indexes_found depth ℓ some inner max_turns us x ℓ rest (g.Post.atom found) (room_at max_turns ℓ ℓ rest low (omega arith) (omega arith)))

-- ---- prefix operators

abbrev UnaryAt : ℕ → ℕ → List Leveled → Expr → Type 0
UnaryAt ℓ top us x = Unary ℓ top us x

-- there are turns left for the prefix operators that may come
abbrev Turns : ℕ → ℕ → List Token → Type 0
Turns n ℓ [] = 0 < n
Turns n ℓ (t ∷ ts) = max_level < n + ℓ

turns_at : (n ℓ : ℕ) (rest : List Token) → 0 < n → max_level < n + ℓ → Turns n ℓ rest
turns_at n ℓ [] some turns = some
turns_at n ℓ (t ∷ ts) some turns = turns

prefix_found : (depth ℓ n : ℕ) (kind : Kind) (s : Span) (ts : List Token) → is_prefix (Some kind) ≡ true → ℓ ≤ max_level → max_level < suc n + ℓ
    → (suc ℓ ≤ max_level → Read (UnaryAt (suc ℓ)) ts (unary_from (pattern depth) (term depth) n (at (suc ℓ) ts)))
    → Read (UnaryAt ℓ) (token kind s ∷ ts) ((rise >> (skip >>= (λ start. unary_from (pattern depth) (term depth) n >>= (λ x. pure (prefix_of (prefix_operator (Some kind)) start x))))) (at ℓ (token kind s ∷ ts)))
prefix_found depth ℓ n kind s ts is low turns inner = elim (low_or_top ℓ low) [
  | inl less ↦ let fit : suc ℓ ≤ max_level = omega arith in
      rw (rise_low ℓ (token kind s ∷ ts) less)
      (read_shift (UnaryAt ℓ) ((token kind s, suc ℓ) ∷ []) (token kind s ∷ ts) ts (and_then (unary_from (pattern depth) (term depth) n (at (suc ℓ) ts)) (λ x. pure (prefix_of (prefix_operator (Some kind)) s x))) refl (fit, tt)
      (read_then (UnaryAt (suc ℓ)) (λ top vs y. Unary ℓ top ((token kind s, suc ℓ) ∷ vs) y) ts (unary_from (pattern depth) (term depth) n (at (suc ℓ) ts)) (λ x. pure (prefix_of (prefix_operator (Some kind)) s x)) (inner fit)
      (λ x top rest us found low. read_pure _ top rest _ low (rw (append-nil us) (g.prefix kind s is found)))))
  | inr full ↦ rw (rise_high ℓ (token kind s ∷ ts) full)
      (record {
        used = [];
        over = (token kind s, suc ℓ);
        after = ts;
        more = g.lower [] nowhere (suc ℓ) ∷ [];
        top = suc ℓ;
        value = prefix_of (prefix_operator (Some kind)) s (e.var some_name);
        whole = refl;
        next = refl;
        fits = tt;
        past = omega arith;
        could = g.prefix kind s is (g.post (some_post (suc ℓ)));
      })
]

unary_found : (depth n ℓ : ℕ) → max_level ≤ depth + ℓ → 0 < ℓ → ((l : ℕ) → max_level ≤ depth + l → TermFound depth l) → (s : List Token) → Low ℓ s → Turns n ℓ s → Read (UnaryAt ℓ) s (unary_from (pattern depth) (term depth) n (at ℓ s))
unfolding unary_from
unary_found depth zero ℓ deep some inner [] low turns = absurd (omega arith)
unary_found depth zero ℓ deep some inner (t ∷ ts) low turns = absurd (omega arith)
unary_found depth (suc n) ℓ deep some inner [] low turns =
    read_map (PostAt ℓ) (UnaryAt ℓ) [] (post (pattern depth) (term depth) (at ℓ [])) (λ top us x h. g.post h) (post_found depth ℓ some (pattern_found depth ℓ deep) (λ l above. inner l (omega arith)) [] tt)
unary_found depth (suc n) ℓ deep some inner (t ∷ ts) low turns =
    elim (is_prefix (Some t.kind)) as (λ b. is_prefix (Some t.kind) ≡ b → Read (UnaryAt ℓ) (t ∷ ts)
    ((if b then (rise >> (skip >>= (λ start. unary_from (pattern depth) (term depth) n >>= (λ x. pure (prefix_of (prefix_operator (Some t.kind)) start x))))) else post (pattern depth) (term depth)) (at ℓ (t ∷ ts)))) [
      | true ↦ λ is. prefix_found depth ℓ n t.kind (record { from = t.from; to = t.to }) ts is low turns
          (λ fit. unary_found depth n (suc ℓ) (omega arith) (omega arith) inner ts (low_any (suc ℓ) ts fit) (turns_at n (suc ℓ) ts (omega arith) (omega arith)))
      | false ↦ λ is. read_map (PostAt ℓ) (UnaryAt ℓ) (t ∷ ts) (post (pattern depth) (term depth) (at ℓ (t ∷ ts))) (λ top us x h. g.post h) (post_found depth ℓ some (pattern_found depth ℓ deep) (λ l above. inner l (omega arith)) (t ∷ ts) low)
    ] refl

-- ---- chains of operators

-- what a chain that has come to a level goes on to
abbrev ChainOn : ℕ → ℕ → List Leveled → ℕ → List Leveled → Expr → Type 0
ChainOn p ℓ us top vs x = AtPrecedence (suc p) ℓ top (us ++ vs) x

-- what is asked of the parser of the operands, at each level
abbrev OperandFound : Parser Expr → ℕ → ℕ → Type 0
OperandFound operand p ℓ = (l : ℕ) → ℓ ≤ l → l ≤ max_level → (s : List Token) → Read (λ top us x. AtPrecedence p l top us x) s (operand (at l s))

-- one operator, and what comes after it
op_found : (operand : Parser Expr) (p ℓ top : ℕ) (us : List Leveled) (x : Expr) (t : Token) (ts : List Token) (go : Expr → Parser Expr)
    → ((m : ℕ) (vs : List Leveled) (y : Expr) → AtPrecedence p (suc top) m vs y → AtPrecedence (suc p) ℓ m (us ++ (t, suc top) ∷ vs) (binary_of (operator (Some t.kind)) x y))
    → ℓ ≤ top → top ≤ max_level → OperandFound operand p ℓ
    → ((us : List Leveled) (y : Expr) (next : ℕ) (s : List Token) → AtPrecedence (suc p) ℓ next us y → suc top ≤ next → Low next s → Read (ChainOn p ℓ us) s (go y (at next s)))
    → Read (ChainOn p ℓ us) (t ∷ ts) ((rise >> (skip >> (operand >>= (λ right. go (binary_of (operator (Some t.kind)) x right))))) (at top (t ∷ ts)))
op_found operand p ℓ top us x t ts go joins rises low operands again = elim (low_or_top top low) [
  | inl less ↦ let fit : suc top ≤ max_level = omega arith in
      rw (rise_low top (t ∷ ts) less)
      (read_shift (ChainOn p ℓ us) ((t, suc top) ∷ []) (t ∷ ts) ts (and_then (operand (at (suc top) ts)) (λ right. go (binary_of (operator (Some t.kind)) x right))) refl (fit, tt)
      (read_then (λ m vs y. AtPrecedence p (suc top) m vs y) (λ m vs y. AtPrecedence (suc p) ℓ m (us ++ (t, suc top) ∷ vs) y) ts (operand (at (suc top) ts)) (λ right. go (binary_of (operator (Some t.kind)) x right))
      (operands (suc top) (omega arith) fit ts)
      (λ y next rest vs found low.
      let higher : suc top ≤ next = level_rises found in
      read_map (ChainOn p ℓ (us ++ (t, suc top) ∷ vs)) (λ m ws z. AtPrecedence (suc p) ℓ m (us ++ (t, suc top) ∷ (vs ++ ws)) z) rest (go (binary_of (operator (Some t.kind)) x y) (at next rest))
      (λ m ws z h. rw (← append_assoc us ((t, suc top) ∷ vs) ws) h)
      (again (us ++ (t, suc top) ∷ vs) (binary_of (operator (Some t.kind)) x y) next rest (joins next vs y found) higher low))))
  | inr full ↦ rw (rise_high top (t ∷ ts) full)
      (record {
        used = [];
        over = (t, suc top);
        after = ts;
        more = g.lower [] nowhere (suc top) ∷ [];
        top = suc top;
        value = binary_of (operator (Some t.kind)) x (e.var some_name);
        whole = refl;
        next = refl;
        fits = tt;
        past = omega arith;
        could = joins (suc top) (g.lower [] nowhere (suc top) ∷ []) (e.var some_name) (some_at_precedence p (suc top));
      })
]

nat_same : (n q : ℕ) → (n == q) ≡ true → n ≡ q
nat_same n q h = grind (arith, nat_tests)

-- a turn of a chain by the test of its next token
abbrev turn_by : Parser Expr → ℕ → ℕ → Expr → Token → Bool → Bool → Parser Expr
turn_by operand prec n x t here group =
    if here then (rise >> (skip >> (operand >>= (λ right. if group then chain_from operand prec n (binary_of (operator (Some t.kind)) x right) else pure (binary_of (operator (Some t.kind)) x right))))) else pure x

chain_found : (operand : Parser Expr) (p ℓ : ℕ) → 0 < ℓ → groups (suc p) ≡ true → OperandFound operand p ℓ → (n : ℕ) (us : List Leveled) (x : Expr) (top : ℕ) (s : List Token)
    → AtPrecedence (suc p) ℓ top us x → Room n ℓ top s → Read (ChainOn p ℓ us) s (chain_from operand (suc p) n x (at top s))
unfolding chain_from
chain_found operand p ℓ some group operands zero us x top [] read room = absurd (omega arith)
chain_found operand p ℓ some group operands zero us x top (t ∷ ts) read room = absurd (let rises = level_rises read in omega (arith, room.0, room.1))
chain_found operand p ℓ some group operands (suc n) us x top [] read room =
    let none : (0 == suc p) ≡ false = other_nat 0 (suc p) (λ e. omega arith) in rw none (read_pure (ChainOn p ℓ us) top [] x tt (rw (append-nil us) read))
chain_found operand p ℓ some group operands (suc n) us x top (t ∷ ts) read room =
    let rises : ℓ ≤ top = level_rises read in
    rw group (elim (binds (Some t.kind) == suc p) as (λ b. (binds (Some t.kind) == suc p) ≡ b → Read (ChainOn p ℓ us) (t ∷ ts) (turn_by operand (suc p) n x t b true (at top (t ∷ ts)))) [
      | true ↦ λ e. op_found operand p ℓ top us x t ts (λ y. chain_from operand (suc p) n y)
          (λ m vs y found. g.more t.kind (record { from = t.from; to = t.to }) read (nat_same _ _ e) group found) rises room.0 operands
          (λ us y next s read above low. let wide : max_turns + ℓ ≤ suc n + top = room.1 in
          let fit : top ≤ max_level = room.0 in
          chain_found operand p ℓ some group operands n us y next s read (room_at n ℓ next s low (omega arith) (omega arith)))
      | false ↦ λ e. read_pure (ChainOn p ℓ us) top (t ∷ ts) x room.0 (rw (append-nil us) read)
    ] refl)

once_found : (operand : Parser Expr) (p ℓ : ℕ) → groups (suc p) ≡ false → OperandFound operand p ℓ → (n : ℕ) (us : List Leveled) (x : Expr) (top : ℕ) (s : List Token)
    → AtPrecedence p ℓ top us x → Low top s → Read (ChainOn p ℓ us) s (chain_from operand (suc p) (suc n) x (at top s))
unfolding chain_from
once_found operand p ℓ single operands n us x top [] read low =
    let none : (0 == suc p) ≡ false = other_nat 0 (suc p) (λ e. omega arith) in rw none (read_pure (ChainOn p ℓ us) top [] x tt (rw (append-nil us) (g.one read)))
once_found operand p ℓ single operands n us x top (t ∷ ts) read low =
    let rises : ℓ ≤ top = level_rises read in
    rw single (elim (binds (Some t.kind) == suc p) as (λ b. (binds (Some t.kind) == suc p) ≡ b → Read (ChainOn p ℓ us) (t ∷ ts) (turn_by operand (suc p) n x t b false (at top (t ∷ ts)))) [
      | true ↦ λ e. op_found operand p ℓ top us x t ts (λ y. pure y)
          (λ m vs y found. g.once t.kind (record { from = t.from; to = t.to }) read (nat_same _ _ e) single found) rises low operands
          (λ us y next s read above low. read_pure (ChainOn p ℓ us) next s y low (rw (append-nil us) read))
      | false ↦ λ e. read_pure (ChainOn p ℓ us) top (t ∷ ts) x low (rw (append-nil us) (g.one read))
    ] refl)

-- an operand, and a chain of operators
next_at_precedence : (operand : Parser Expr) (p l : ℕ) → 0 < l → OperandFound operand p l → (s : List Token) → Read (λ top us x. AtPrecedence p l top us x) s (operand (at l s)) → l ≤ max_level
    → Read (λ top us x. AtPrecedence (suc p) l top us x) s (and_then (operand (at l s)) (chain_from operand (suc p) max_turns))
next_at_precedence operand p l some operands s first low = elim (groups (suc p)) as (λ b. groups (suc p) ≡ b → Read (λ top us x. AtPrecedence (suc p) l top us x) s (and_then (operand (at l s)) (chain_from operand (suc p) max_turns))) [
  | true ↦ λ group. read_then (λ top us x. AtPrecedence p l top us x) (λ top us x. AtPrecedence (suc p) l top us x) s (operand (at l s)) (chain_from operand (suc p) max_turns) first
      (λ x top rest us found low. let rises : l ≤ top = level_rises found in
      chain_found operand p l some group operands max_turns us x top rest (g.one found) (room_at max_turns l top rest low (omega arith) (omega arith)))
  | false ↦ λ single. read_then (λ top us x. AtPrecedence p l top us x) (λ top us x. AtPrecedence (suc p) l top us x) s (operand (at l s)) (chain_from operand (suc p) max_turns) first
      (λ x top rest us found low. once_found operand p l single operands 256 us x top rest found low)
] refl

at_precedence_found : (depth ℓ : ℕ) → max_level ≤ depth + ℓ → 0 < ℓ → ((l : ℕ) → max_level ≤ depth + l → TermFound depth l)
    → (p : ℕ) → OperandFound (at_precedence (pattern depth) (term depth) p) p ℓ
unfolding at_precedence
at_precedence_found depth ℓ deep some inner zero l above low s = read_map (UnaryAt l) (λ top us x. AtPrecedence zero l top us x) s (unary_from (pattern depth) (term depth) max_turns (at l s)) (λ top us x h. g.unary h)
    (unary_found depth max_turns l (omega arith) (omega arith) inner s (low_any l s low) (turns_at max_turns l s (omega arith) (omega arith)))
at_precedence_found depth ℓ deep some inner (suc p) l above low s =
    next_at_precedence (at_precedence (pattern depth) (term depth) p) p l (omega arith) (λ m higher below ts. at_precedence_found depth ℓ deep some inner p m (omega arith) below ts) s
    (at_precedence_found depth ℓ deep some inner p l above low s) low

-- ---- bodies

abbrev BodyAt : ℕ → ℕ → List Leveled → Expr → Type 0
BodyAt ℓ top us x = Term ℓ us x

operators_found : (depth ℓ : ℕ) → max_level ≤ depth + suc ℓ → suc ℓ ≤ max_level → ((l : ℕ) → max_level ≤ depth + l → TermFound depth l)
    → (s : List Token) → Read (BodyAt ℓ) s (at_precedence (pattern depth) (term depth) loosest (at (suc ℓ) s))
operators_found depth ℓ deep low inner s = read_map (λ top us x. AtPrecedence loosest (suc ℓ) top us x) (BodyAt ℓ) s (at_precedence (pattern depth) (term depth) loosest (at (suc ℓ) s)) (λ top us x h. g.operators h)
    (at_precedence_found depth (suc ℓ) deep (omega arith) inner loosest (suc ℓ) (omega arith) low s)

let_found : (depth ℓ : ℕ) → max_level ≤ depth + suc ℓ → suc ℓ ≤ max_level → ((l : ℕ) → max_level ≤ depth + l → TermFound depth l)
    → (s : List Token) → Read (BodyAt ℓ) s (let_in (term depth) (at (suc ℓ) s))
unfolding let_in
let_found depth ℓ deep low inner s =
    word_then (BodyAt ℓ) (suc ℓ) s w.KwLet _ (low_any (suc ℓ) s low) (λ start s low.
    lower_then _ (suc ℓ) s _ low (λ x s low.
    mark_then _ (suc ℓ) s m.Equals _ low (λ equals s low.
    read_then_flat (λ us x. Term (suc ℓ) us x) _ (suc ℓ) s _ _ (inner (suc ℓ) deep s low) (λ y s us first low.
    word_then _ (suc ℓ) s w.KwIn _ low (λ within s low.
    read_then_flat (λ us x. Term (suc ℓ) us x) _ (suc ℓ) s _ _ (inner (suc ℓ) deep s low) (λ z s vs second low.
    read_pure _ (suc ℓ) s _ low (rw (append-nil vs) (g.let_in start x.span equals within x.text first second))))))))

if_found : (depth ℓ : ℕ) → max_level ≤ depth + suc ℓ → suc ℓ ≤ max_level → ((l : ℕ) → max_level ≤ depth + l → TermFound depth l)
    → (s : List Token) → Read (BodyAt ℓ) s (if_else (term depth) (at (suc ℓ) s))
unfolding if_else
if_found depth ℓ deep low inner s =
    word_then (BodyAt ℓ) (suc ℓ) s w.KwIf _ (low_any (suc ℓ) s low) (λ start s low.
    read_then_flat (λ us x. Term (suc ℓ) us x) _ (suc ℓ) s _ _ (inner (suc ℓ) deep s low) (λ c s us condition low.
    word_then _ (suc ℓ) s w.KwThen _ low (λ then_ s low.
    read_then_flat (λ us x. Term (suc ℓ) us x) _ (suc ℓ) s _ _ (inner (suc ℓ) deep s low) (λ y s vs first low.
    word_then _ (suc ℓ) s w.KwElse _ low (λ else_ s low.
    read_then_flat (λ us x. Term (suc ℓ) us x) _ (suc ℓ) s _ _ (inner (suc ℓ) deep s low) (λ z s ws second low.
    read_pure _ (suc ℓ) s _ low (rw (append-nil ws) (g.if_else start then_ else_ condition first second))))))))

body_found : (depth ℓ : ℕ) → max_level ≤ depth + suc ℓ → suc ℓ ≤ max_level → ((l : ℕ) → max_level ≤ depth + l → TermFound depth l)
    → (s : List Token) → Read (BodyAt ℓ) s (body (pattern depth) (term depth) (at (suc ℓ) s))
unfolding body
body_found depth ℓ deep low inner [] = operators_found depth ℓ deep low inner []
body_found depth ℓ deep low inner (t ∷ ts) = by t.kind where
  by : (kind : Kind) → let s : List Token = record { kind = kind; from = t.from; to = t.to } ∷ ts in Read (BodyAt ℓ) s (body (pattern depth) (term depth) (at (suc ℓ) s))
  by (k.Number v) = operators_found depth ℓ deep low inner _
  by (k.Upper text) = operators_found depth ℓ deep low inner _
  by (k.Lower text) = operators_found depth ℓ deep low inner _
  by (k.Mark mark) = operators_found depth ℓ deep low inner _
  by (k.Word w.KwLet) = let_found depth ℓ deep low inner _
  by (k.Word w.KwIf) = if_found depth ℓ deep low inner _
  by (k.Word _) = operators_found depth ℓ deep low inner _

-- ---- terms

no_term : (ℓ : ℕ) (s : List Token) → Read (TermAt ℓ) s (Err Syntax, at ℓ s)
no_term ℓ s = read_refuse (TermAt ℓ) ℓ ℓ s _ _ (refl, some_term ℓ)

-- the level goes back to what it was
leave_found : (ℓ : ℕ) (s : List Token) (o : Outcome Expr) → ℓ ≤ max_level → Read (BodyAt ℓ) s o → Read (TermAt ℓ) s (and_then o (λ found. leave ℓ >> pure found))
leave_found ℓ s (Ok a, new) low r = record { used = r.used; whole = r.whole; fits = r.fits; low = low_any ℓ new.rest low; read = (refl, r.read) }
leave_found ℓ s (Err Syntax, new) low r = record { used = r.used; more = r.more; top = ℓ; value = r.value; whole = r.whole; fits = r.fits; could = (refl, r.could) }
leave_found ℓ s (Err TooDeep, new) low r =
    record { used = r.used; over = r.over; after = r.after; more = r.more; top = ℓ; value = r.value; whole = r.whole; next = r.next; fits = r.fits; past = r.past; could = (refl, r.could) }
leave_found ℓ s (Err NoMemory, new) low r = r

up : (p : ℕ) {ℓ top : ℕ} {us : List Leveled} {x : Expr} → AtPrecedence zero ℓ top us x → AtPrecedence p ℓ top us x
up zero h = h
up (suc p) h = g.one (up p h)

as_term : {ℓ : ℕ} {us : List Leveled} {x : Expr} → Atom (suc ℓ) us x → Term ℓ us x
as_term h = g.operators (up loosest (g.unary (g.post (g.Post.atom h))))

-- a token that begins a term where no level is left
over_by : (ℓ here : ℕ) (t : Token) (ts : List Token) (more : List Leveled) (x : Expr) → ℓ ≡ max_level → ℓ < here → Term ℓ ((t, here) ∷ more) x → Deep (TermAt ℓ) (t ∷ ts) (at max_level (t ∷ ts))
over_by ℓ here t ts more x full above h =
    record { used = []; over = (t, here); after = ts; more = more; top = ℓ; value = x; whole = refl; next = refl; fits = tt; past = omega arith; could = (refl, h) }

over_atom : (ℓ : ℕ) (t : Token) (ts : List Token) (more : List Leveled) (x : Expr) → ℓ ≡ max_level → Atom (suc ℓ) ((t, suc ℓ) ∷ more) x → Deep (TermAt ℓ) (t ∷ ts) (at max_level (t ∷ ts))
over_atom ℓ t ts more x full h = over_by ℓ (suc ℓ) t ts more x full (omega arith) (as_term h)

over_prefix : (ℓ : ℕ) (kind : Kind) (s : Span) (ts : List Token) → ℓ ≡ max_level → is_prefix (Some kind) ≡ true → Deep (TermAt ℓ) (token kind s ∷ ts) (at max_level (token kind s ∷ ts))
over_prefix ℓ kind s ts full is = over_by ℓ (suc (suc ℓ)) (token kind s) ts _ _ full (omega arith) (g.operators (up loosest (g.unary (g.prefix kind s is (g.post (some_post (suc (suc ℓ))))))))

over_operation : (ℓ : ℕ) (op : Keyword) (s : Span) (ts : List Token) → ℓ ≡ max_level → is_operation op ≡ true → Deep (TermAt ℓ) (token (k.Word op) s ∷ ts) (at max_level (token (k.Word op) s ∷ ts))
over_operation ℓ op s ts full is = over_atom ℓ _ ts _ _ full (g.operation op s nowhere nowhere nowhere is (some_term (suc ℓ)) (some_term (suc ℓ)))

over_cast : (ℓ : ℕ) (op : Keyword) (s : Span) (ts : List Token) → ℓ ≡ max_level → is_cast op ≡ true → Deep (TermAt ℓ) (token (k.Word op) s ∷ ts) (at max_level (token (k.Word op) s ∷ ts))
over_cast ℓ op s ts full is = over_atom ℓ _ ts _ _ full (g.cast op 0 s nowhere nowhere nowhere nowhere is (some_term (suc ℓ)))

over_match : (ℓ : ℕ) (s : Span) (ts : List Token) → ℓ ≡ max_level → Deep (TermAt ℓ) (token (k.Word w.KwMatch) s ∷ ts) (at max_level (token (k.Word w.KwMatch) s ∷ ts))
over_match ℓ s ts full = over_atom ℓ _ ts _ _ full (g.match_on s nowhere nowhere nowhere (some_term (suc ℓ)) (g.last_arm (g.arm nowhere nowhere (some_pattern (suc ℓ)) (some_term (suc ℓ)))))

over_found : (ℓ : ℕ) (t : Token) (ts : List Token) → ℓ ≡ max_level → starts_term t.kind → Read (TermAt ℓ) (t ∷ ts) (Err TooDeep, at max_level (t ∷ ts))
over_found ℓ t ts full begins = by t.kind begins where
  here : Span
  here = record { from = t.from; to = t.to }

  by : (kind : Kind) → starts_term kind → Read (TermAt ℓ) (token kind here ∷ ts) (Err TooDeep, at max_level (token kind here ∷ ts))
  by (k.Number v) h = over_atom ℓ _ ts _ _ full (g.Atom.word (g.literal v 0 here nowhere nowhere))
  by (k.Upper text) h = over_atom ℓ _ ts _ _ full (g.Atom.alone text here)
  by (k.Lower text) h = over_atom ℓ _ ts _ _ full (g.var text here)
  by (k.Mark m.LParen) h = over_atom ℓ _ ts _ _ full (g.paren here nowhere (some_term (suc ℓ)))
  by (k.Mark m.Bang) h = over_prefix ℓ _ here ts full refl
  by (k.Mark m.Tilde) h = over_prefix ℓ _ here ts full refl
  by (k.Mark m.Minus) h = over_prefix ℓ _ here ts full refl
  by (k.Mark _) h = cc
  by (k.Word w.KwLet) h = over_by ℓ (suc ℓ) _ ts _ _ full (omega arith) (g.let_in here nowhere nowhere nowhere [] (some_term (suc ℓ)) (some_term (suc ℓ)))
  by (k.Word w.KwIf) h = over_by ℓ (suc ℓ) _ ts _ _ full (omega arith) (g.if_else here nowhere nowhere (some_term (suc ℓ)) (some_term (suc ℓ)) (some_term (suc ℓ)))
  by (k.Word w.KwTrue) h = over_atom ℓ _ ts _ _ full (g.Atom.true_flag here)
  by (k.Word w.KwFalse) h = over_atom ℓ _ ts _ _ full (g.Atom.false_flag here)
  by (k.Word w.KwMatch) h = over_match ℓ here ts full
  by (k.Word w.KwShl) h = over_operation ℓ w.KwShl here ts full refl
  by (k.Word w.KwShru) h = over_operation ℓ w.KwShru here ts full refl
  by (k.Word w.KwShrs) h = over_operation ℓ w.KwShrs here ts full refl
  by (k.Word w.KwRotl) h = over_operation ℓ w.KwRotl here ts full refl
  by (k.Word w.KwDivu) h = over_operation ℓ w.KwDivu here ts full refl
  by (k.Word w.KwDivs) h = over_operation ℓ w.KwDivs here ts full refl
  by (k.Word w.KwRemu) h = over_operation ℓ w.KwRemu here ts full refl
  by (k.Word w.KwRems) h = over_operation ℓ w.KwRems here ts full refl
  by (k.Word w.KwMulhu) h = over_operation ℓ w.KwMulhu here ts full refl
  by (k.Word w.KwMulhs) h = over_operation ℓ w.KwMulhs here ts full refl
  by (k.Word w.KwLtu) h = over_operation ℓ w.KwLtu here ts full refl
  by (k.Word w.KwLeu) h = over_operation ℓ w.KwLeu here ts full refl
  by (k.Word w.KwLts) h = over_operation ℓ w.KwLts here ts full refl
  by (k.Word w.KwLes) h = over_operation ℓ w.KwLes here ts full refl
  by (k.Word w.KwZext) h = over_cast ℓ w.KwZext here ts full refl
  by (k.Word w.KwSext) h = over_cast ℓ w.KwSext here ts full refl
  by (k.Word w.KwTrunc) h = over_cast ℓ w.KwTrunc here ts full refl
  by (k.Word _) h = cc

pub term_found : (depth ℓ : ℕ) → max_level ≤ depth + ℓ → TermFound depth ℓ
unfolding term enter
term_found zero ℓ deep [] low = no_term ℓ []
term_found (suc depth) ℓ deep [] low = no_term ℓ []
term_found zero ℓ deep (t ∷ ts) low =
    elim (begins_term (Some t.kind)) as (λ b. begins_term (Some t.kind) ≡ b → Read (TermAt ℓ) (t ∷ ts) (and_then (enter_if b (at ℓ (t ∷ ts))) (λ _. stop TooDeep))) [
      | true ↦ λ e. let full : ℓ ≡ max_level = omega arith in rw (rise_high ℓ (t ∷ ts) full) (over_found ℓ t ts full e)
      | false ↦ λ e. no_term ℓ (t ∷ ts)
    ] refl
term_found (suc depth) ℓ deep (t ∷ ts) low =
    elim (begins_term (Some t.kind)) as (λ b. begins_term (Some t.kind) ≡ b → Read (TermAt ℓ) (t ∷ ts) (and_then (enter_if b (at ℓ (t ∷ ts))) (λ outer. body (pattern depth) (term depth) >>= (λ found. leave outer >> pure found)))) [
      | true ↦ λ e. elim (low_or_top ℓ low) [
        | inl less ↦ rw (rise_low ℓ (t ∷ ts) less) (leave_found ℓ (t ∷ ts) (body (pattern depth) (term depth) (at (suc ℓ) (t ∷ ts))) low
            (body_found depth ℓ (omega arith) (omega arith) (λ l enough. term_found depth l enough) (t ∷ ts)))
        | inr full ↦ rw (rise_high ℓ (t ∷ ts) full) (over_found ℓ t ts full e)
      ]
      | false ↦ λ e. no_term ℓ (t ∷ ts)
    ] refl
