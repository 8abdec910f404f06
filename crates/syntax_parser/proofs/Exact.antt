-- The parser answers what the grammar says, and all of it.
use Rattle.std.proofs.Common.{◌≡◌, ℕ, zero, suc, ◌≤◌, ◌<◌, ◌+◌, true, false, List, [], ◌∷◌, ◌++◌, length, refl, ap, sym, ◌∙◌, subst, append_assoc, append-nil, length-append, nat_le, arith}
use Rattle.std.specs.Prelude.{Result, Ok, Err, if◌then◌else◌}
use Rattle.syntax_lexer.specs.declared.token.Token.{Token}
use Rattle.syntax_grammar.specs.Tree.{Item as ItemTree}
use Rattle.syntax_grammar.specs.Tree.{Tree}
use Rattle.syntax_grammar.specs.declared.rules.RuleFault.{RuleFault}
use Rattle.syntax_grammar.specs.declared.rules.RuleFault.TheVariants.{Syntax, TooDeep}
use Rattle.syntax_grammar.specs.State.{At}
use Rattle.syntax_grammar.specs.Parsing.{Outcome, Parser, and_then}
use Rattle.syntax_grammar.specs.ItemRules.{item, items, items_from}
use Rattle.syntax_grammar.specs.Grammar.{Leveled, tokens_of, Items}
use Rattle.syntax_grammar.specs.Exact.{Shallow, HasTree, GoesWrong, IsSyntaxAt, IsDeepAt}
use Rattle.syntax_grammar.specs.Tokens.{max_level, place}
use Rattle.std.proofs.lemmas.Bool.Decides.{nat_tests}
use Rattle.syntax_parser.proofs.Cut.{at, cut, Fits, tokens-append, by_fits}
use Rattle.syntax_parser.proofs.Found.{Done, Stuck, Deep}
use Rattle.syntax_parser.proofs.Local.{Beyond, no_more}
use Rattle.syntax_parser.proofs.RulesLocal.{local_items, item_moves}
use Rattle.syntax_parser.proofs.Again.{tokens_fewer}
use Rattle.syntax_parser.proofs.ItemsAgain.{items_again}
use Rattle.syntax_parser.proofs.ItemsFound.{items_found}

-- ---- all tokens are read

then_ok : {A B : Type 0} (o : Outcome A) (f : A → Parser B) (P : At → Type 0) (b : B) (new : At)
    → ((a : A) (mid : At) → o ≡ (Ok a, mid) → f a mid ≡ (Ok b, new) → P new) → and_then o f ≡ (Ok b, new) → P new
then_ok (Ok a, mid) f P b new go e = go a mid refl e
then_ok {B = B} (Err d, mid) f P b new go e = absurd (let bad : Err d ≡ Ok b = ap (λ (o : Outcome B). o.0) e in (let no : ⊥ = cc in no))

items_end : (n ℓ : ℕ) (s : List Token) (found fs : List ItemTree) (new : At) → length s ≤ n → items_from n found (at ℓ s) ≡ (Ok fs, new) → new.rest ≡ []
unfolding items_from
items_end zero ℓ s found fs new le e = sym (ap (λ (o : Outcome (List ItemTree)). o.1.rest) e) ∙ no_more s le
items_end (suc n) ℓ [] found fs new le e = sym (ap (λ (o : Outcome (List ItemTree)). o.1.rest) e)
items_end (suc n) ℓ (t ∷ ts) found fs new le e =
    then_ok (item (at ℓ (t ∷ ts))) (λ f. items_from n (found ++ f ∷ [])) (λ last. last.rest ≡ []) fs new
    (λ f mid e₁ e₂. let less = item_moves.moves ℓ (t ∷ ts) f mid e₁ in items_end n mid.level mid.rest (found ++ f ∷ []) fs new (omega arith) e₂) e

-- ---- no list with a tree is refused for its syntax

ok_err : {A : Type 0} (a : A) (d : RuleFault) → Ok a ≡ Err d → ⊥
ok_err a d e = (let no : Unit {0} ≡ ⊥ = ap (λ (r : Result _ RuleFault). elim r [ Ok x ↦ Unit {0} | Err y ↦ ⊥ ]) e in subst (λ (T : Type 0). T) no tt)

err_err : {A : Type 0} (o p : Outcome A) → o.0 ≡ Err TooDeep → p.0 ≡ Err Syntax → o ≡ p → ⊥
err_err {A = A} o p h i e = let bad : ◌≡◌ {A = Result A RuleFault} (Err TooDeep) (Err Syntax) = sym h ∙ ap (λ (o : Outcome A). o.0) e ∙ i in cc

cut_syntax : {A : Type 0} (us : List Leveled) (rest : List Token) (a : A) (new last : At) → cut us rest (Ok a, new) ≡ (Err Syntax, last) → ⊥
cut_syntax {A = A} [] rest a new last e = ok_err a Syntax (ap (λ (o : Outcome A). o.0) e)
cut_syntax {A = A} (u ∷ us) rest a new last e =
    (elim (nat_le u.1 max_level) as (λ b. (if b then cut us rest (Ok a, new) else (Err TooDeep, at max_level (u.0 ∷ tokens_of us ++ rest))) ≡ (Err Syntax, last) → ⊥) [
      | true ↦ λ e. cut_syntax us rest a new last e
      | false ↦ λ e. err_err (Err TooDeep, at max_level (u.0 ∷ tokens_of us ++ rest)) (Err Syntax, last) refl refl e
    ]) e

-- where all tokens fit nothing is cut
pub cut_fits : {A : Type 0} (us : List Leveled) (rest : List Token) (o : Outcome A) → Fits us → cut us rest o ≡ o
cut_fits [] rest o h = refl
cut_fits (u ∷ us) rest o h = rw (by_fits u.1 h.0) (cut_fits us rest o h.1)

pub items_all : (us : List Leveled) (fs : List ItemTree) → Items us fs → items (at 0 (tokens_of us)) ≡ cut us [] (Ok fs, at 0 [])
unfolding items
items_all us fs h =
    let same : tokens_of us ++ [] ≡ tokens_of us = append-nil (tokens_of us) in
    rw (← same) ((items_again h (length (tokens_of us ++ [])) [] (tokens_fewer us [])).again [] refl)

-- ---- the clauses

pub tree_answer : (tokens : List Token) (end : ℕ) (fs : List ItemTree) (new : At) → items (at 0 tokens) ≡ (Ok fs, new) → HasTree tokens end (record { items = fs; end = end })
unfolding items
tree_answer tokens end fs new e =
    let r : Done (λ top us a. (top ≡ 0) × Items us a) tokens fs new = rw e at (items_found tokens) in
    let none : new.rest ≡ [] = items_end (length tokens) 0 tokens [] fs new (omega arith) e in
    record { leveled = r.used; spelled = r.whole ∙ ap (λ (ts : List Token). tokens_of r.used ++ ts) none ∙ append-nil (tokens_of r.used); derived = r.read.1; shallow = r.fits; ends = refl }

pub tree_only : (tokens : List Token) (end : ℕ) (tree : Tree) → HasTree tokens end tree → items (at 0 tokens) ≡ (Ok tree.items, at 0 [])
tree_only tokens end tree h = rw h.spelled (items_all h.leveled tree.items h.derived ∙ cut_fits h.leveled [] (Ok tree.items, at 0 []) h.shallow)

shorter : (us ts : List Token) → length ts + 1 ≡ length us + length ts + 1 → us ≡ []
shorter us ts h = no_more us (omega arith)

-- a refusal that looked at this token is the same whatever comes after it
same_refusal : (d : RuleFault) (before : List Token) (t : Token) (ts others : List Token) (ℓ : ℕ) → items (at 0 (before ++ t ∷ ts)) ≡ (Err d, at ℓ (t ∷ ts))
    → items (at 0 (before ++ t ∷ others)) ≡ (Err d, at ℓ (t ∷ others))
same_refusal d before t ts others ℓ e =
    by (items (at 0 (before ++ t ∷ []))).0 (items (at 0 (before ++ t ∷ []))).1.level (items (at 0 (before ++ t ∷ []))).1.rest
    (goes ts e) (local_items.goes 0 (before ++ t ∷ []) others) where
      cut_here : (more : List Token) → (before ++ t ∷ []) ++ more ≡ before ++ t ∷ more
      cut_here more = append_assoc before (t ∷ []) more

      goes : (more : List Token) → items (at 0 (before ++ t ∷ more)) ≡ (Err d, at ℓ (t ∷ more))
          → Beyond more (items (at 0 (before ++ t ∷ []))).0 (items (at 0 (before ++ t ∷ []))).1.level (items (at 0 (before ++ t ∷ []))).1.rest (Err d, at ℓ (t ∷ more))
      goes more e = rw (← e, ← cut_here more) (local_items.goes 0 (before ++ t ∷ []) more)

      by : (r : Result (List ItemTree) RuleFault) (l : ℕ) (rest : List Token) → Beyond ts r l rest (Err d, at ℓ (t ∷ ts)) → Beyond others r l rest (items (at 0 ((before ++ t ∷ []) ++ others)))
          → items (at 0 (before ++ t ∷ others)) ≡ (Err d, at ℓ (t ∷ others))
      by r l [] short h = absurd (omega arith)
      by r l (u ∷ us) same h =
          let failed : Err d ≡ r = ap (λ (o : Outcome (List ItemTree)). o.0) same in
          let level : ℓ ≡ l = ap (λ (o : Outcome (List ItemTree)). o.1.level) same in
          let all : t ∷ ts ≡ u ∷ us ++ ts = ap (λ (o : Outcome (List ItemTree)). o.1.rest) same in
          let first : t ≡ u = cc in
          let tail : us ≡ [] = shorter us ts (let e = ap (λ (ts : List Token). length ts) all in omega (arith, length-append us ts)) in
          rw (← cut_here others) (h ∙ ap (λ (more : List Token). (r, at l (u ∷ more ++ others))) tail ∙ ap (λ (r : Result (List ItemTree) RuleFault). (r, at l (u ∷ others))) (sym failed)
          ∙ ap (λ (l : ℕ). (Err d, at l (u ∷ others))) (sym level) ∙ ap (λ (u : Token). (Err d, at ℓ (u ∷ others))) (sym first))

no_tree : (us : List Leveled) (fs : List ItemTree) (last : At) → Items us fs → items (at 0 (tokens_of us)) ≡ (Err Syntax, last) → ⊥
no_tree us fs last h e = cut_syntax us [] fs (at 0 []) last (sym (items_all us fs h) ∙ e)

wrong_at : (before after : List Token) (ℓ : ℕ) → items (at 0 (before ++ after)) ≡ (Err Syntax, at ℓ after) → GoesWrong before after
wrong_at before [] ℓ e = λ us fs same h.
    let all : before ++ [] ≡ tokens_of us = append-nil before ∙ same in
    no_tree us fs (at ℓ []) h (ap (λ (ts : List Token). items (at 0 ts)) (sym all) ∙ e)
wrong_at before (t ∷ ts) ℓ e = λ viable.
    let us = viable.leveled in
    let more = viable.starts.more in
    let refused = same_refusal Syntax before t ts (tokens_of more) ℓ e in
    let all : before ++ t ∷ tokens_of more ≡ tokens_of (us ++ more) =
    sym (append_assoc before (t ∷ []) (tokens_of more)) ∙ ap (λ (ts : List Token). ts ++ tokens_of more) viable.spelled ∙ sym (tokens-append us more) in
    no_tree (us ++ more) viable.starts.items (at ℓ (t ∷ tokens_of more)) viable.starts.derived (ap (λ (ts : List Token). items (at 0 ts)) (sym all) ∙ refused)

pub syntax_answer : (tokens : List Token) (end at_ : ℕ) (new : At) → items (at 0 tokens) ≡ (Err Syntax, new) → at_ ≡ place end new.rest → IsSyntaxAt tokens end at_
syntax_answer tokens end at_ new e here =
    let r : Stuck (λ top us a. (top ≡ 0) × Items us a) tokens new = rw e at (items_found tokens) in
    record {
      before = r.used;
      after = new.rest;
      whole = r.whole;
      here = here;
      starts = record { more = r.more; items = r.value; derived = r.could.1 };
      shallow = r.fits;
      wrong = wrong_at (tokens_of r.used) new.rest new.level (ap (λ (ts : List Token). items (at 0 ts)) (sym r.whole) ∙ e);
    }

pub deep_answer : (tokens : List Token) (end at_ : ℕ) (new : At) → items (at 0 tokens) ≡ (Err TooDeep, new) → at_ ≡ place end new.rest → IsDeepAt tokens at_
deep_answer tokens end at_ new e here =
    let r : Deep (λ top us a. (top ≡ 0) × Items us a) tokens new = rw e at (items_found tokens) in
    record {
      before = r.used;
      token = r.over;
      after = r.after;
      whole = r.whole ∙ ap (λ (ts : List Token). tokens_of r.used ++ ts) r.next;
      here = here ∙ ap (λ (ts : List Token). place end ts) r.next;
      starts = record { more = r.more; items = r.value; derived = rw (append_assoc r.used (r.over ∷ []) r.more) r.could.1 };
      shallow = r.fits;
      deep = r.past;
    }

pub only_ok : (tokens : List Token) (end : ℕ) (tree : Tree) (fs : List ItemTree) (new : At) → HasTree tokens end tree → items (at 0 tokens) ≡ (Ok fs, new) → fs ≡ tree.items
only_ok tokens end tree fs new has e = let same : Ok fs ≡ Ok tree.items = ap (λ (o : Outcome (List ItemTree)). o.0) (sym e ∙ tree_only tokens end tree has) in cc

pub only_err : (tokens : List Token) (end : ℕ) (tree : Tree) (d : RuleFault) (new : At) → HasTree tokens end tree → items (at 0 tokens) ≡ (Err d, new) → ⊥
only_err tokens end tree d new has e = ok_err tree.items d (ap (λ (o : Outcome (List ItemTree)). o.0) (sym (tree_only tokens end tree has) ∙ e))

-- ---- the first token that is too deep is the one that is named

cut_deep : {A : Type 0} (us : List Leveled) (t : Leveled) (more : List Leveled) (rest : List Token) (o : Outcome A) → Shallow us → max_level < t.1
    → cut (us ++ t ∷ more) rest o ≡ (Err TooDeep, at max_level (t.0 ∷ tokens_of more ++ rest))
cut_deep [] t more rest o fits past = let over : nat_le t.1 max_level ≡ false = grind (arith, nat_tests) in rw over refl
cut_deep (u ∷ us) t more rest o fits past = rw (by_fits u.1 fits.0) (cut_deep us t more rest o fits.1 past)

pub deep_only : (tokens : List Token) (place_ : ℕ) (h : IsDeepAt tokens place_) → items (at 0 tokens) ≡ (Err TooDeep, at max_level (h.token.0 ∷ h.after))
deep_only tokens place_ h =
    let us = h.before in
    let t = h.token in
    let more = h.starts.more in
    let all : us ++ (t ∷ more) ≡ (us ++ t ∷ []) ++ more = sym (append_assoc us (t ∷ []) more) in
    let read : items (at 0 (tokens_of (us ++ (t ∷ more)))) ≡ cut (us ++ (t ∷ more)) [] (Ok h.starts.items, at 0 []) = items_all (us ++ (t ∷ more)) h.starts.items (rw all h.starts.derived) in
    let spelled : tokens_of (us ++ (t ∷ more)) ≡ tokens_of us ++ (t.0 ∷ tokens_of more) = tokens-append us (t ∷ more) in
    let refused : items (at 0 (tokens_of us ++ (t.0 ∷ tokens_of more))) ≡ (Err TooDeep, at max_level (t.0 ∷ tokens_of more)) =
    ap (λ (ts : List Token). items (at 0 ts)) (sym spelled) ∙ read ∙ cut_deep us t more [] (Ok h.starts.items, at 0 []) h.shallow h.deep
    ∙ ap (λ (ts : List Token). (Err TooDeep, at max_level (t.0 ∷ ts))) (append-nil (tokens_of more)) in
    rw h.whole (same_refusal TooDeep (tokens_of us) t.0 (tokens_of more) h.after max_level refused)

pub deep_not : (tokens : List Token) (place_ : ℕ) (r : Result (List ItemTree) RuleFault) (new : At) → (r ≡ Err TooDeep → ⊥) → IsDeepAt tokens place_ → items (at 0 tokens) ≡ (r, new) → ⊥
deep_not tokens place_ r new other h e = other (ap (λ (o : Outcome (List ItemTree)). o.0) (sym e ∙ deep_only tokens place_ h))

pub deep_place : (tokens : List Token) (end place_ : ℕ) (new : At) (h : IsDeepAt tokens place_) → items (at 0 tokens) ≡ (Err TooDeep, new) → place end new.rest ≡ place_
deep_place tokens end place_ new h e =
    ap (λ (o : Outcome (List ItemTree)). place end o.1.rest) (sym e ∙ deep_only tokens place_ h) ∙ sym h.here
