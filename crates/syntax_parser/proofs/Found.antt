-- What a parser answers is in the grammar: a tree of the tokens that it read, or a beginning of one.
use Rattle.std.proofs.Common.{◌≡◌, ℕ, ◌≤◌, ◌<◌, List, [], ◌∷◌, ◌++◌, refl, ap, sym, ◌∙◌, subst, append_assoc, ◌⊎◌, inl, inr}
use Rattle.std.specs.Prelude.{Ok, Err}
use Rattle.syntax_lexer.specs.declared.token.Token.{Token}
use Rattle.syntax_grammar.specs.declared.rules.RuleFault.TheVariants.{Syntax, TooDeep, NoMemory}
use Rattle.syntax_grammar.specs.State.{At}
use Rattle.syntax_grammar.specs.Parsing.{Outcome, Parser, and_then}
use Rattle.syntax_grammar.specs.Grammar.{Leveled, tokens_of}
use Rattle.syntax_grammar.specs.Tokens.{max_level}
use Rattle.syntax_parser.proofs.Cut.{at, Fits, tokens-append-rest}
use Rattle.syntax_parser.proofs.Derivations.{fits-append}

-- a level that tokens can stand at, if any come
abbrev pub Low : ℕ → List Token → Type 0
Low ℓ [] = Unit {0}
Low ℓ (t ∷ ts) = ℓ ≤ max_level

pub low_any : (ℓ : ℕ) (ts : List Token) → ℓ ≤ max_level → Low ℓ ts
low_any ℓ [] h = tt
low_any ℓ (t ∷ ts) h = h

-- the tokens that were read have the value
pub record Done {A : Type 0} (L : ℕ → List Leveled → A → Type 0) (s : List Token) (a : A) (new : At) : Type 0 where
  pub used : List Leveled
  pub whole : s ≡ tokens_of used ++ new.rest
  pub fits : Fits used
  pub low : Low new.level new.rest
  pub read : L new.level used a

-- the tokens that were read begin what has a value
pub record Stuck {A : Type 0} (L : ℕ → List Leveled → A → Type 0) (s : List Token) (new : At) : Type 0 where
  pub used : List Leveled
  pub more : List Leveled
  pub top : ℕ
  pub value : A
  pub whole : s ≡ tokens_of used ++ new.rest
  pub fits : Fits used
  pub could : L top (used ++ more) value

-- with one more token, which stands too deep, they begin what has a value
pub record Deep {A : Type 0} (L : ℕ → List Leveled → A → Type 0) (s : List Token) (new : At) : Type 0 where
  pub used : List Leveled
  pub over : Leveled
  pub after : List Token
  pub more : List Leveled
  pub top : ℕ
  pub value : A
  pub whole : s ≡ tokens_of used ++ new.rest
  pub next : new.rest ≡ over.0 ∷ after
  pub fits : Fits used
  pub past : max_level < over.1
  pub could : L top (used ++ over ∷ more) value

abbrev pub Read : {A : Type 0} → (ℕ → List Leveled → A → Type 0) → List Token → Outcome A → Type 0
Read L s (Ok a, new) = Done L s a new
Read L s (Err Syntax, new) = Stuck L s new
Read L s (Err TooDeep, new) = Deep L s new
Read L s (Err NoMemory, new) = ⊥

-- ---- the same outcome, seen from earlier tokens on

pub read_shift : {A : Type 0} (L : ℕ → List Leveled → A → Type 0) (us : List Leveled) (s rest : List Token) (o : Outcome A)
    → s ≡ tokens_of us ++ rest → Fits us → Read (λ top vs b. L top (us ++ vs) b) rest o → Read L s o
read_shift L us s rest (Ok a, new) e fits r = record {
  used = us ++ r.used;
  whole = e ∙ ap (λ ts. tokens_of us ++ ts) r.whole ∙ sym (tokens-append-rest us r.used new.rest);
  fits = fits-append us r.used fits r.fits;
  low = r.low;
  read = r.read;
}
read_shift L us s rest (Err Syntax, new) e fits r = record {
  used = us ++ r.used;
  more = r.more;
  top = r.top;
  value = r.value;
  whole = e ∙ ap (λ ts. tokens_of us ++ ts) r.whole ∙ sym (tokens-append-rest us r.used new.rest);
  fits = fits-append us r.used fits r.fits;
  could = rw (append_assoc us r.used r.more) r.could;
}
read_shift L us s rest (Err TooDeep, new) e fits r = record {
  used = us ++ r.used;
  over = r.over;
  after = r.after;
  more = r.more;
  top = r.top;
  value = r.value;
  whole = e ∙ ap (λ ts. tokens_of us ++ ts) r.whole ∙ sym (tokens-append-rest us r.used new.rest);
  next = r.next;
  fits = fits-append us r.used fits r.fits;
  past = r.past;
  could = rw (append_assoc us r.used (r.over ∷ r.more)) r.could;
}
read_shift L us s rest (Err NoMemory, new) e fits r = r

-- the same outcome, seen as a part of something larger
pub read_map : {A : Type 0} (K L : ℕ → List Leveled → A → Type 0) (s : List Token) (o : Outcome A)
    → ((top : ℕ) (us : List Leveled) (a : A) → K top us a → L top us a) → Read K s o → Read L s o
read_map K L s (Ok a, new) go r = record { used = r.used; whole = r.whole; fits = r.fits; low = r.low; read = go _ _ _ r.read }
read_map K L s (Err Syntax, new) go r = record { used = r.used; more = r.more; top = r.top; value = r.value; whole = r.whole; fits = r.fits; could = go _ _ _ r.could }
read_map K L s (Err TooDeep, new) go r =
    record { used = r.used; over = r.over; after = r.after; more = r.more; top = r.top; value = r.value; whole = r.whole; next = r.next; fits = r.fits; past = r.past; could = go _ _ _ r.could }
read_map K L s (Err NoMemory, new) go r = r

-- what a rule finds at the end of the input completes what came before
pub completion : {A : Type 0} (L : ℕ → List Leveled → A → Type 0) (o : Outcome A) → Read L [] o → (more : List Leveled) × (top : ℕ) × (a : A) × L top more a
completion L (Ok a, new) r = (r.used, new.level, a, r.read)
completion L (Err Syntax, new) r = (r.used ++ r.more, r.top, r.value, r.could)
completion L (Err TooDeep, new) r = (r.used ++ r.over ∷ r.more, r.top, r.value, r.could)
completion L (Err NoMemory, new) r = absurd r

-- either the end of the input, or what is left after these tokens
abbrev pub Left : List Token → List Leveled → List Token → Type 0
Left s us rest = (rest ≡ []) ⊎ (s ≡ tokens_of us ++ rest)

pub read_then_sized : {A B : Type 0} (K : ℕ → List Leveled → A → Type 0) (L : ℕ → List Leveled → B → Type 0) (s : List Token) (o : Outcome A) (f : A → Parser B)
    → Read K s o → ((a : A) (top : ℕ) (rest : List Token) (us : List Leveled) → K top us a → Low top rest → Left s us rest → Read (λ top vs b. L top (us ++ vs) b) rest (f a (at top rest)))
    → Read L s (and_then o f)
read_then_sized K L s (Ok a, new) f r go = read_shift L r.used s new.rest (f a new) r.whole r.fits (go a new.level new.rest r.used r.read r.low (inr r.whole))
read_then_sized K L s (Err Syntax, new) f r go =
    let end = completion (λ top vs b. L top ((r.used ++ r.more) ++ vs) b) (f r.value (at r.top [])) (go r.value r.top [] (r.used ++ r.more) r.could tt (inl refl)) in
    record { used = r.used; more = r.more ++ end.0; top = end.1; value = end.2; whole = r.whole; fits = r.fits; could = rw (← append_assoc r.used r.more end.0) end.3 }
read_then_sized K L s (Err TooDeep, new) f r go =
    let end = completion (λ top vs b. L top ((r.used ++ r.over ∷ r.more) ++ vs) b) (f r.value (at r.top [])) (go r.value r.top [] (r.used ++ r.over ∷ r.more) r.could tt (inl refl)) in
    record {
      used = r.used;
      over = r.over;
      after = r.after;
      more = r.more ++ end.0;
      top = end.1;
      value = end.2;
      whole = r.whole;
      next = r.next;
      fits = r.fits;
      past = r.past;
      could = rw (← append_assoc r.used (r.over ∷ r.more) end.0) end.3;
    }
read_then_sized K L s (Err NoMemory, new) f r go = r

pub read_then : {A B : Type 0} (K : ℕ → List Leveled → A → Type 0) (L : ℕ → List Leveled → B → Type 0) (s : List Token) (o : Outcome A) (f : A → Parser B)
    → Read K s o → ((a : A) (top : ℕ) (rest : List Token) (us : List Leveled) → K top us a → Low top rest → Read (λ top vs b. L top (us ++ vs) b) rest (f a (at top rest)))
    → Read L s (and_then o f)
read_then K L s o f r go = read_then_sized K L s o f r (λ a top rest us h low _. go a top rest us h low)

pub read_then_flat_sized : {A B : Type 0} (K : List Leveled → A → Type 0) (L : ℕ → List Leveled → B → Type 0) (ℓ : ℕ) (s : List Token) (o : Outcome A) (f : A → Parser B)
    → Read (λ top us a. (top ≡ ℓ) × K us a) s o → ((a : A) (rest : List Token) (us : List Leveled) → K us a → Low ℓ rest → Left s us rest → Read (λ top vs b. L top (us ++ vs) b) rest (f a (at ℓ rest)))
    → Read L s (and_then o f)
read_then_flat_sized K L ℓ s o f r go = read_then_sized (λ top us a. (top ≡ ℓ) × K us a) L s o f r
    (λ a top rest us h low left. subst (λ (n : ℕ). Low n rest → Read (λ t vs b. L t (us ++ vs) b) rest (f a (at n rest))) (sym h.0) (λ low. go a rest us h.1 low left) low)

-- where the first rule leaves the level as it was
pub read_then_flat : {A B : Type 0} (K : List Leveled → A → Type 0) (L : ℕ → List Leveled → B → Type 0) (ℓ : ℕ) (s : List Token) (o : Outcome A) (f : A → Parser B)
    → Read (λ top us a. (top ≡ ℓ) × K us a) s o → ((a : A) (rest : List Token) (us : List Leveled) → K us a → Low ℓ rest → Read (λ top vs b. L top (us ++ vs) b) rest (f a (at ℓ rest)))
    → Read L s (and_then o f)
read_then_flat K L ℓ s o f r go = read_then (λ top us a. (top ≡ ℓ) × K us a) L s o f r
    (λ a top rest us h low. subst (λ (n : ℕ). Low n rest → Read (λ t vs b. L t (us ++ vs) b) rest (f a (at n rest))) (sym h.0) (go a rest us h.1) low)

pub read_pure : {A : Type 0} (L : ℕ → List Leveled → A → Type 0) (ℓ : ℕ) (s : List Token) (a : A) → Low ℓ s → L ℓ [] a → Read L s (Ok a, at ℓ s)
read_pure L ℓ s a low h = record { used = []; whole = refl; fits = tt; low = low; read = h }

pub read_refuse : {A : Type 0} (L : ℕ → List Leveled → A → Type 0) (ℓ top : ℕ) (s : List Token) (more : List Leveled) (a : A) → L top more a → Read L s (Err Syntax, at ℓ s)
read_refuse L ℓ top s more a h = record { used = []; more = more; top = top; value = a; whole = refl; fits = tt; could = h }

-- ---- rules of one token

-- p takes one token, that of its answer, or none
abbrev pub Takes : {A : Type 0} → (A → Token) → Parser A → ℕ → List Token → Type 0
Takes {A = A} tok p ℓ s = (p (at ℓ s) ≡ (Err Syntax, at ℓ s)) ⊎ ((a : A) × (ts : List Token) × (s ≡ tok a ∷ ts) × (p (at ℓ s) ≡ (Ok a, at ℓ ts)))

pub read_token_then : {A B : Type 0} (tok : A → Token) (p : Parser A) (default : A) (L : ℕ → List Leveled → B → Type 0) (ℓ : ℕ) (s : List Token) (f : A → Parser B)
    → Takes tok p ℓ s → Low ℓ s → ((a : A) (rest : List Token) → Low ℓ rest → Read (λ top vs b. L top ((tok a, ℓ) ∷ vs) b) rest (f a (at ℓ rest)))
    → Read L s (and_then (p (at ℓ s)) f)
read_token_then tok p default L ℓ s f (inl none) low go =
    let end = completion (λ top vs b. L top ((tok default, ℓ) ∷ vs) b) (f default (at ℓ [])) (go default [] tt) in
    rw none (read_refuse L ℓ end.1 s ((tok default, ℓ) ∷ end.0) end.2 end.3)
read_token_then tok p default L ℓ s f (inr found) low go =
    let here : ℓ ≤ max_level = (let l : Low ℓ (tok found.0 ∷ found.1) = rw found.2 at low in l) in
    rw found.3 (read_shift L ((tok found.0, ℓ) ∷ []) s found.1 (f found.0 (at ℓ found.1)) found.2 (here, tt) (go found.0 found.1 (low_any ℓ found.1 here)))
