-- Names of a tree that was parsed from a text: letters, digits and `_`, and no `_` alone.
use Rattle.std.proofs.Common.{◌≡◌, ℕ, ◌&&◌, ◌==◌, Bool, true, false, not, List, [], ◌∷◌, ◌++◌, length, nat_lt, refl, subst, arith}
use Rattle.std.specs.Prelude.{⊤}
use Rattle.std.specs.List.{All, list_all}
use Rattle.std.proofs.lemmas.Bool.Decides.{nat_tests}
use Rattle.std.proofs.lemmas.List.Elements.{All-head, All-tail}
use Rattle.std.proofs.lemmas.Bool.{and_from as and_true}
use Rattle.syntax_lexer.specs.declared.token.Token.{Token}
use Rattle.syntax_lexer.specs.declared.token.Kind.{Kind}
use Rattle.syntax_lexer.specs.declared.token.Kind.TheVariants as k
use Rattle.syntax_lexer.specs.declared.token.Mark.{Mark}
use Rattle.syntax_lexer.specs.declared.token.Mark.TheVariants.{Underscore}
use Rattle.syntax_lexer.specs.Bytes.{Passes, IsRun}
use Rattle.syntax_lexer.specs.Bytes as lexer
use Rattle.syntax_lexer.specs.Lexeme.{IsName, IsReserved, Spells}
use Rattle.syntax_lexer.specs.Laws.{IsInPlace}
use Rattle.syntax_lexer.specs.Source.{IsLexedFrom}
use Rattle.syntax_lexer.proofs.Places.{each_in_place}
use Rattle.syntax_parser.specs.declared.tree.FieldDecl.{FieldDecl}
use Rattle.syntax_parser.specs.Exact.{HasTree}
use Rattle.syntax_parser.specs.Tree.{Constructor, Datatype as DataTree, Item as ItemTree, Tree}
use Rattle.syntax_parser.specs.Grammar.{Leveled, tokens_of, mark, Separated, Several, Field, Fields, Case, Datatype, Item, Items}
use Rattle.spec_declarations.specs.Leaves.{datatypes}
use Rattle.state_text.specs.Forms.{begins_name, is_mark, is_name, is_word_byte}

-- ---- tokens

passes_all : (bytes : List ℕ) → Passes lexer.is_word_byte bytes → list_all is_word_byte bytes ≡ true
passes_all [] h = refl
passes_all (b ∷ bytes) h = and_true (is_word_byte b) (list_all is_word_byte bytes) h.0 (passes_all bytes h.1)

alone : (b : ℕ) → ¬ IsReserved (b ∷ []) → (same : Bool) → (b == 95) ≡ same → not (same && not (nat_lt 0 0)) ≡ true
alone b free false s = refl
alone b free true s =
    let is : 95 ≡ b = grind (arith, nat_tests, s) in
    absurd (free (subst (λ n. IsReserved (n ∷ [])) is (IsReserved.mark Underscore)))

no_mark : (b : ℕ) (bytes : List ℕ) → ¬ IsReserved (b ∷ bytes) → not (is_mark (b ∷ bytes)) ≡ true
no_mark b [] free = alone b free (b == 95) refl
no_mark b (c ∷ bytes) free = longer (b == 95) (nat_lt 0 (length (c ∷ bytes))) (grind (arith, nat_tests))
  where
    longer : (s t : Bool) → t ≡ true → not (s && not t) ≡ true
    longer true true h = refl
    longer true false h = absurd cc
    longer false t h = refl

name_is : (text : List ℕ) → IsName text → is_name text ≡ true
name_is [] n = absurd n.run
name_is (b ∷ bytes) n =
    and_true (begins_name (b ∷ bytes)) (list_all is_word_byte (b ∷ bytes) && not (is_mark (b ∷ bytes))) n.run.0
    (and_true (list_all is_word_byte (b ∷ bytes)) (not (is_mark (b ∷ bytes))) (passes_all (b ∷ bytes) n.run.1) (no_mark b bytes n.free))

-- the text of a token is a name, where it is one by its kind
abbrev Named : Kind → Type 0
Named (k.Lower text) = is_name text ≡ true
Named (k.Upper text) = is_name text ≡ true
Named _ = ⊤

named : (text : List ℕ) (kind : Kind) → Spells text kind → Named kind
named text kind (Spells.mark m) = tt
named text kind (Spells.keyword w) = tt
named text kind (Spells.upper n c) = name_is text n
named text kind (Spells.lower n c) = name_is text n
named text kind (Spells.number n) = tt

abbrev AreNamed : List Leveled → Type 0
AreNamed [] = ⊤
AreNamed (t ∷ ts) = Named t.0.kind × AreNamed ts

module _ (source : List ℕ) where
  tokens_named : (us : List Leveled) → All (IsInPlace source) (tokens_of us) → AreNamed us
  tokens_named [] h = tt
  tokens_named (t ∷ ts) h =
      (named _ t.0.kind (All-head (IsInPlace source) t.0 (tokens_of ts) h).spelled, tokens_named ts (All-tail (IsInPlace source) t.0 (tokens_of ts) h))

  lexed_named : (tokens : List Token) (us : List Leveled) → tokens ≡ tokens_of us → IsLexedFrom source tokens → AreNamed us
  lexed_named tokens us is h = tokens_named us (subst (λ ts. All (IsInPlace source) ts) is (each_in_place source tokens h))

-- ---- declarations

first_named : (us vs : List Leveled) → AreNamed (us ++ vs) → AreNamed us
first_named [] vs h = tt
first_named (u ∷ us) vs h = (h.0, first_named us vs h.1)

last_named : (us vs : List Leveled) → AreNamed (us ++ vs) → AreNamed vs
last_named [] vs h = h
last_named (u ∷ us) vs h = last_named us vs h.1

abbrev pub FieldsNamed : List FieldDecl → Type 0
FieldsNamed [] = ⊤
FieldsNamed (f ∷ fields) = (is_name f.name.text ≡ true) × FieldsNamed fields

abbrev pub CasesNamed : List Constructor → Type 0
CasesNamed [] = ⊤
CasesNamed (c ∷ cases) = (is_name c.name.text ≡ true) × FieldsNamed c.fields × CasesNamed cases

abbrev pub DatasNamed : List DataTree → Type 0
DatasNamed [] = ⊤
DatasNamed (d ∷ datas) = CasesNamed d.cases × DatasNamed datas

fields_named : (us : List Leveled) (fields : List FieldDecl) → Fields us fields → AreNamed us → FieldsNamed fields
fields_named us fields (Separated.last (Field.field text ty s t u)) h = (h.0, tt)
fields_named us fields (Separated.next s {vs = vs} (Field.field text ty t u v) rest) h = (h.0, fields_named vs _ rest h.1.1.1.1)

case_named : (us : List Leveled) (c : Constructor) → Case us c → AreNamed us → (is_name c.name.text ≡ true) × FieldsNamed c.fields
case_named us c (Case.alone text s) h = (h.0, tt)
case_named us c (Case.with_fields text s t u {us = vs} fields) h = (h.0, fields_named vs c.fields fields (first_named vs (mark Mark.RParen u 0 ∷ []) h.1.1))

cases_named : (us : List Leveled) (cases : List Constructor) → Separated Case Mark.Bar us cases → AreNamed us → CasesNamed cases
cases_named us cases (Separated.last {x = c} is) h = let n = case_named us c is h in (n.0, n.1, tt)
cases_named us cases (Separated.next s {us = vs} {vs = ws} {x = c} {xs = more} is rest) h =
    let n = case_named vs c is (first_named vs (mark Mark.Bar s 0 ∷ ws) h) in
    (n.0, n.1, cases_named ws more rest (last_named vs (mark Mark.Bar s 0 ∷ ws) h).1)

datas_named : (us : List Leveled) (items : List ItemTree) → Items us items → AreNamed us → DatasNamed (datatypes items)
datas_named us items Several.none h = tt
datas_named us items (Several.next {us = vs} {vs = ws} (Item.datatype (Datatype.datatype text s t u v {us = xs} {cs = cases} is)) rest) h =
    (cases_named xs cases is (first_named xs (mark Mark.Semi v 0 ∷ []) (first_named vs ws h).1.1.1), datas_named ws _ rest (last_named vs ws h))
datas_named us items (Several.next {us = vs} {vs = ws} (Item.map_type d) rest) h = datas_named ws _ rest (last_named vs ws h)
datas_named us items (Several.next {us = vs} {vs = ws} (Item.function d) rest) h = datas_named ws _ rest (last_named vs ws h)
datas_named us items (Several.next {us = vs} {vs = ws} (Item.decode d) rest) h = datas_named ws _ rest (last_named vs ws h)

-- the datatypes of a tree that was parsed from a text
pub parsed_names : (source : List ℕ) (tokens : List Token) (end : ℕ) (tree : Tree) → IsLexedFrom source tokens → HasTree tokens end tree → DatasNamed (datatypes tree.items)
parsed_names source tokens end tree lexed parsed = datas_named parsed.leveled tree.items parsed.derived (lexed_named source tokens parsed.leveled parsed.spelled lexed)
