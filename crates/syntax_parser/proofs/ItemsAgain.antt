-- The rules of declarations read again what is spelled.
use Rattle.std.proofs.Common.{◌≡◌, ℕ, zero, suc, ◌≤◌, ◌<◌, true, false, List, [], ◌∷◌, ◌++◌, length, refl, append_assoc, append-nil, length-append, arith}
use Rattle.std.specs.Prelude.{Some}
use Rattle.syntax_lexer.specs.declared.token.Token.{Token}
use Rattle.syntax_lexer.specs.declared.token.Kind.TheVariants as k
use Rattle.syntax_lexer.specs.declared.token.Mark.{Mark}
use Rattle.syntax_lexer.specs.declared.token.Mark.TheVariants as m
use Rattle.syntax_lexer.specs.declared.token.Keyword.TheVariants as w
use Rattle.syntax_grammar.specs.declared.tree.Span.{Span}
use Rattle.syntax_grammar.specs.declared.tree.FieldDecl.{FieldDecl}
use Rattle.syntax_grammar.specs.declared.tree.MapDecl.{MapDecl}
use Rattle.syntax_grammar.specs.declared.tree.PartDecl.{PartDecl}
use Rattle.syntax_grammar.specs.declared.tree.PartDecl.TheVariants as part_variants
use Rattle.syntax_grammar.specs.declared.tree.GuardDecl.{GuardDecl}
use Rattle.syntax_grammar.specs.declared.tree.GuardOp.{GuardOp}
use Rattle.syntax_grammar.specs.declared.tree.GuardArg.TheVariants as other_variants
use Rattle.syntax_grammar.specs.declared.tree.ArgDecl.{ArgDecl}
use Rattle.syntax_grammar.specs.declared.tree.ArgDecl.TheVariants as arg_variants
use Rattle.syntax_grammar.specs.declared.rules.Literal.{Literal}
use Rattle.syntax_grammar.specs.Tree.{Term as Expr, Constructor, Datatype as DataTree, Row as RowTree, DecodeSection, Item as ItemTree}
use Rattle.syntax_grammar.specs.Tree as e
use Rattle.syntax_grammar.specs.Parsing.{Parser, ◌>>=◌, first_kind, is_mark, is_word}
use Rattle.syntax_grammar.specs.Lists.{separated, until, many}
use Rattle.syntax_grammar.specs.ItemRules.{field, constructor, case_fields, datatype, map_type, params, function, part, part_fixed, part_named, guard_op, other, guard, guards, arg, arg_word, args, arg_list, row, decode, item, items_from}
use Rattle.syntax_grammar.specs.Grammar.{Leveled, tokens_of, token, IsLiteral, Separated, Several, Field, Fields, Case, Datatype, MapType, Params, Function, Part, Compares, Guard, Guards, Arg, Args, Row, Decode, Item, Items, name, num, mark}
use Rattle.syntax_grammar.specs.Grammar as g
use Rattle.syntax_grammar.specs.Nodes.{case_of, part_of}
use Rattle.syntax_grammar.specs.Operators.{loosest}
use Rattle.syntax_grammar.specs.Tokens.{max_level}
use Rattle.syntax_parser.proofs.Again.{Again, anything, again_then, again_next, again_pure, again_last, again_weaker, again_expect, again_word, again_number, again_lower, again_upper, again_eat, again_no, again_literal, not_mark, closes, tokens_fewer, low, separated_again, several_again}
use Rattle.syntax_parser.proofs.PatternsAgain.{no_paren}
use Rattle.syntax_parser.proofs.TermsAgain.{loose_end, term_again}

-- ---- lists

-- a list with marks between, from the first turn on
list_again : {A : Type 0} (item : Parser A) (P : List Leveled → A → Type 0) (F : List Token → Type 0) → ((us : List Leveled) (x : A) → P us x → Again item 0 us x 0 F) → ((us : List Leveled) (x : A) → P us x → 0 < length us)
    → (between : Mark) → ((s : Span) (rest : List Token) → F (token (k.Mark between) s ∷ rest)) → is_mark between (Some (k.Mark between)) ≡ true
    → {us : List Leveled} {xs : List A} → Separated P between us xs → Again (separated item between) 0 us xs 0 (λ rest. not_mark between rest × F rest)
unfolding separated
list_again item P F one some between comma same {us = us} all = record {
  again = λ rest ok. (separated_again item P F one some between comma same all (length (tokens_of us ++ rest)) [] (tokens_fewer us rest)).again rest ok;
}

fewer_turns : (mark : Mark) (us : List Leveled) (rest : List Token) → closes mark rest → length us < length (tokens_of us ++ rest)
fewer_turns mark [] [] ok = cc
fewer_turns mark [] (t ∷ ts) ok = omega arith
fewer_turns mark (u ∷ us) rest ok = let less = fewer_turns mark us rest ok in omega arith

-- a list up to a closing mark
until_again : {A : Type 0} (item : Parser A) (P : List Leveled → A → Type 0) → ((us : List Leveled) (x : A) → P us x → Again item 0 us x 0 anything) → ((us : List Leveled) (x : A) → P us x → 0 < length us)
    → (closing : Mark) → ((us : List Leveled) (x : A) → P us x → (rest : List Token) → not_mark closing (tokens_of us ++ rest))
    → {us : List Leveled} {xs : List A} → Several P us xs → Again (until item closing) 0 us xs 0 (closes closing)
unfolding until
until_again item P one some closing begins {us = us} all = record {
  again = λ rest ok. (several_again item P one some closing begins all (length (tokens_of us ++ rest)) [] (fewer_turns closing us rest ok)).again rest ok;
}

many_again : {A : Type 0} (item : Parser A) (P : List Leveled → A → Type 0) → ((us : List Leveled) (x : A) → P us x → Again item 0 us x 0 anything) → ((us : List Leveled) (x : A) → P us x → 0 < length us)
    → (closing : Mark) → ((us : List Leveled) (x : A) → P us x → (rest : List Token) → not_mark closing (tokens_of us ++ rest))
    → {us vs : List Leveled} {x : A} {xs : List A} → P us x → Several P vs xs → Again (many item closing) 0 (us ++ vs) (x ∷ xs) 0 (closes closing)
unfolding many
many_again item P one some closing begins {us = us} {vs = vs} {x = x} first all =
    again_next _ (one us x first) (record { again = λ rest ok. (several_again item P one some closing begins all (length (tokens_of vs ++ rest)) (x ∷ []) (fewer_turns closing vs rest ok)).again rest ok })

-- ---- fields, types and maps

field_again : (us : List Leveled) (f : FieldDecl) → Field us f → Again field 0 us f 0 anything
unfolding field
field_again us f (g.field text ty s₁ s₂ s₃) =
    again_next _ (again_lower text s₁ 0 low) (again_next _ (again_expect m.Colon s₂ 0 low refl) (again_next _ (again_upper ty s₃ 0 low) again_pure))

field_some : (us : List Leveled) (f : FieldDecl) → Field us f → 0 < length us
field_some us f (g.field text ty s₁ s₂ s₃) = omega arith

abbrev no_comma : List Token → Type 0
no_comma rest = not_mark m.Comma rest × anything rest

fields_again : {us : List Leveled} {fs : List FieldDecl} → Fields us fs → Again (separated field m.Comma) 0 us fs 0 no_comma
fields_again all = list_again field Field anything field_again field_some m.Comma (λ _ _. tt) refl all

case_alone : (text : List ℕ) (s : Span) → Again constructor 0 (g.upper text s 0 ∷ []) (case_of (name text s) [] s) 0 no_paren
unfolding constructor
case_alone text s = again_next _ (again_upper text s 0 low) (again_then _ (again_no m.LParen 0) (λ rest ok. ok) (λ _. again_pure))

case_fields_again : (text : List ℕ) (s₁ s₂ s₃ : Span) (us : List Leveled) (fs : List FieldDecl) → Fields us fs
    → Again constructor 0 (g.upper text s₁ 0 ∷ mark m.LParen s₂ 0 ∷ (us ++ mark m.RParen s₃ 0 ∷ [])) (case_of (name text s₁) fs s₃) 0 anything
unfolding constructor case_fields
case_fields_again text s₁ s₂ s₃ us fs all =
    again_next _ (again_upper text s₁ 0 low)
    (again_next _ (again_eat m.LParen s₂ 0 low refl)
    (again_then _ (fields_again all) (λ _ _. (refl, tt)) (λ _.
    again_next _ (again_expect m.RParen s₃ 0 low refl)
    again_pure)))

case_again : (us : List Leveled) (c : Constructor) → Case us c → Again constructor 0 us c 0 no_paren
case_again us c (g.Case.alone text s) = case_alone text s
case_again us c (g.with_fields text s₁ s₂ s₃ {us = vs} {fs = fs} all) = again_weaker (case_fields_again text s₁ s₂ s₃ vs fs all)

case_some : (us : List Leveled) (c : Constructor) → Case us c → 0 < length us
case_some us c (g.Case.alone text s) = omega arith
case_some us c (g.with_fields text s₁ s₂ s₃ all) = omega arith

datatype_again : {us : List Leveled} {x : DataTree} → Datatype us x → Again datatype 0 us x 0 anything
unfolding datatype
datatype_again (g.datatype text s₁ s₂ s₃ s₄ all) =
    again_next _ (again_word w.KwType s₁ 0 low refl)
    (again_next _ (again_upper text s₂ 0 low)
    (again_next _ (again_expect m.Equals s₃ 0 low refl)
    (again_then _ (list_again constructor Case no_paren case_again case_some m.Bar (λ _ _. refl) refl all) (λ _ _. (refl, refl)) (λ _.
    again_last _ (again_expect m.Semi s₄ 0 low refl)))))

map_again : {us : List Leveled} {x : MapDecl} → MapType us x → Again map_type 0 us x 0 anything
unfolding map_type
map_again (g.map_type text key value default s₁ s₂ s₃ s₄ s₅ s₆ s₇ s₈ s₉ s₁₀) =
    again_next _ (again_word w.KwMap s₁ 0 low refl)
    (again_next _ (again_upper text s₂ 0 low)
    (again_next _ (again_expect m.LBracket s₃ 0 low refl)
    (again_next _ (again_upper key s₄ 0 low)
    (again_next _ (again_expect m.Arrow s₅ 0 low refl)
    (again_next _ (again_upper value s₆ 0 low)
    (again_next _ (again_expect m.RBracket s₇ 0 low refl)
    (again_next _ (again_word w.KwDefault s₈ 0 low refl)
    (again_next _ (again_number default s₉ 0 low)
    (again_last _ (again_expect m.Semi s₁₀ 0 low refl))))))))))

-- ---- functions

fields_begin : {us : List Leveled} {fs : List FieldDecl} → Fields us fs → (rest : List Token) → is_mark m.RParen (first_kind (tokens_of us ++ rest)) ≡ false
fields_begin (g.Separated.last (g.field text ty s₁ s₂ s₃)) rest = refl
fields_begin (g.Separated.next s (g.field text ty s₁ s₂ s₃) more) rest = refl

params_again : {us : List Leveled} {fs : List FieldDecl} → Params us fs → Again params 0 us fs 0 (λ rest. closes m.RParen rest × no_comma rest)
unfolding params
params_again g.Params.none = record { again = λ rest ok. rw ok.0 refl }
params_again (g.Params.some all) = record { again = λ rest ok. rw (fields_begin all rest) ((fields_again all).again rest ok.1) }

function_again : {us : List Leveled} {f : e.Function} → Function us f → Again function 0 us f 0 anything
unfolding function
function_again (g.Function.function text ty s₁ s₂ s₃ s₄ s₅ s₆ s₇ s₈ inside body) =
    again_next _ (again_word w.KwFun s₁ 0 low refl)
    (again_next _ (again_lower text s₂ 0 low)
    (again_next _ (again_expect m.LParen s₃ 0 low refl)
    (again_then _ (params_again inside) (λ _ _. (refl, (refl, tt))) (λ _.
    again_next _ (again_expect m.RParen s₄ 0 low refl)
    (again_next _ (again_expect m.Arrow s₅ 0 low refl)
    (again_next _ (again_upper ty s₆ 0 low)
    (again_next _ (again_expect m.Equals s₇ 0 low refl)
    (again_then _ (term_again body max_level (omega arith) low) (λ _ _. loose_end loosest _ refl refl refl) (λ _.
    again_last _ (again_expect m.Semi s₈ 0 low refl))))))))))

-- ---- decode sections

part_named_again : (text : List ℕ) (v : ℕ) (s₁ s₂ s₃ : Span) → Again part_named 0 (g.lower text s₁ 0 ∷ mark m.Colon s₂ 0 ∷ g.number v s₃ 0 ∷ []) (part_of (name text s₁) (num v s₃)) 0 anything
unfolding part_named
part_named_again text v s₁ s₂ s₃ = again_next _ (again_lower text s₁ 0 low) (again_next _ (again_expect m.Colon s₂ 0 low refl) (again_next _ (again_number v s₃ 0 low) again_pure))

part_again : (us : List Leveled) (p : PartDecl) → Part us p → Again part 0 us p 0 anything
unfolding part part_fixed
part_again us p (g.fixed (g.literal v w s₁ s₂ s₃)) = record { again = λ rest ok. (again_last (λ (l : Literal). part_variants.Fixed l.v l.w l.span) (again_literal low (g.literal v w s₁ s₂ s₃))).again rest tt }
part_again us p (g.Part.named text v s₁ s₂ s₃) = record { again = λ rest ok. (part_named_again text v s₁ s₂ s₃).again rest tt }

part_some : (us : List Leveled) (p : PartDecl) → Part us p → 0 < length us
part_some us p (g.fixed (g.literal v w s₁ s₂ s₃)) = omega arith
part_some us p (g.Part.named text v s₁ s₂ s₃) = omega arith

part_open : (us : List Leveled) (p : PartDecl) → Part us p → (rest : List Token) → not_mark m.RBracket (tokens_of us ++ rest)
part_open us p (g.fixed (g.literal v w s₁ s₂ s₃)) rest = refl
part_open us p (g.Part.named text v s₁ s₂ s₃) rest = refl

compares_again : (x : Mark) (op : GuardOp) (s : Span) → Compares x op → Again guard_op 0 (mark x s 0 ∷ []) op 0 anything
unfolding guard_op
compares_again x op s g.equal = record { again = λ rest ok. refl }
compares_again x op s g.Compares.other = record { again = λ rest ok. refl }
compares_again x op s g.Compares.less = record { again = λ rest ok. refl }

other_field : (text : List ℕ) (s : Span) → Again other 0 (g.lower text s 0 ∷ []) (other_variants.Named (name text s)) 0 anything
unfolding other
other_field text s = record { again = λ rest ok. (again_last (λ x. other_variants.Named x) (again_lower text s 0 low)).again rest tt }

other_number : (v : ℕ) (s : Span) → Again other 0 (g.number v s 0 ∷ []) (other_variants.Number (num v s)) 0 anything
unfolding other
other_number v s = record { again = λ rest ok. (again_last (λ x. other_variants.Number x) (again_number v s 0 low)).again rest tt }

guard_again : (us : List Leveled) (x : GuardDecl) → Guard us x → Again guard 0 us x 0 anything
unfolding guard
guard_again us x (g.with_field text rhs mk op s₁ s₂ s₃ is) = again_next _ (again_lower text s₁ 0 low) (again_next _ (compares_again mk op s₂ is) (again_next _ (other_field rhs s₃) again_pure))
guard_again us x (g.with_number text v mk op s₁ s₂ s₃ is) = again_next _ (again_lower text s₁ 0 low) (again_next _ (compares_again mk op s₂ is) (again_next _ (other_number v s₃) again_pure))

guard_some : (us : List Leveled) (x : GuardDecl) → Guard us x → 0 < length us
guard_some us x (g.with_field text rhs mk op s₁ s₂ s₃ is) = omega arith
guard_some us x (g.with_number text v mk op s₁ s₂ s₃ is) = omega arith

abbrev no_when : List Token → Type 0
no_when rest = is_word w.KwWhen (first_kind rest) ≡ false

guards_none : Again guards 0 [] [] 0 (λ rest. no_when rest × no_comma rest)
unfolding guards
guards_none = record { again = λ rest ok. rw ok.0 refl }

guards_some : (s : Span) {us : List Leveled} {gs : List GuardDecl} → Separated Guard m.Comma us gs → Again guards 0 (g.keyword w.KwWhen s 0 ∷ us) gs 0 (λ rest. no_when rest × no_comma rest)
unfolding guards
guards_some s all =
    let one = again_next (λ _. separated guard m.Comma) (again_word w.KwWhen s 0 low refl) (list_again guard Guard anything guard_again guard_some m.Comma (λ _ _. tt) refl all) in
    record { again = λ rest ok. one.again rest ok.1 }

guards_again : {us : List Leveled} {gs : List GuardDecl} → Guards us gs → Again guards 0 us gs 0 (λ rest. no_when rest × no_comma rest)
guards_again g.Guards.none = guards_none
guards_again (g.Guards.some s all) = guards_some s all

arg_again : (us : List Leveled) (x : ArgDecl) → Arg us x → Again arg 0 us x 0 anything
unfolding arg arg_word
arg_again us x (g.Arg.named text s) = record { again = λ rest ok. (again_last (λ x. arg_variants.Named x) (again_lower text s 0 low)).again rest tt }
arg_again us x (g.Arg.word (g.literal v w s₁ s₂ s₃)) = record { again = λ rest ok. (again_last (λ (l : Literal). arg_variants.Word l.v l.w l.span) (again_literal low (g.literal v w s₁ s₂ s₃))).again rest tt }

arg_some : (us : List Leveled) (x : ArgDecl) → Arg us x → 0 < length us
arg_some us x (g.Arg.named text s) = omega arith
arg_some us x (g.Arg.word (g.literal v w s₁ s₂ s₃)) = omega arith

args_none : Again args 0 [] [] 0 no_paren
unfolding args
args_none = again_then _ (again_no m.LParen 0) (λ rest ok. ok) (λ _. again_pure)

args_some : (s₁ s₂ : Span) (us : List Leveled) (xs : List ArgDecl) → Separated Arg m.Comma us xs → Again args 0 (mark m.LParen s₁ 0 ∷ (us ++ mark m.RParen s₂ 0 ∷ [])) xs 0 anything
unfolding args arg_list
args_some s₁ s₂ us xs all =
    again_next _ (again_eat m.LParen s₁ 0 low refl)
    (again_then _ (list_again arg Arg anything arg_again arg_some m.Comma (λ _ _. tt) refl all) (λ _ _. (refl, tt)) (λ _.
    again_next _ (again_expect m.RParen s₂ 0 low refl)
    again_pure))

args_again : {us : List Leveled} {xs : List ArgDecl} → Args us xs → Again args 0 us xs 0 no_paren
args_again g.Args.none = args_none
args_again (g.Args.some s₁ s₂ {us = us} {xs = xs} all) = again_weaker (args_some s₁ s₂ us xs all)

row_again : (us : List Leveled) (x : RowTree) → Row us x → Again row 0 us x 0 anything
unfolding row
row_again us x (g.row text s₁ s₂ s₃ s₄ s₅ {us₁ = us₁} {us₂ = us₂} {vs = vs} {xs = xs} first parts tests found) =
    let rest : List Leveled = mark m.RBracket s₂ 0 ∷ (vs ++ mark m.FatArrow s₃ 0 ∷ g.upper text s₄ 0 ∷ (xs ++ mark m.Semi s₅ 0 ∷ [])) in
    again_next _ (again_expect m.LBracket s₁ 0 low refl)
    (rw (← append_assoc us₁ us₂ rest)
    (again_then _ (many_again part Part part_again part_some m.RBracket part_open first parts) (λ _ _. refl) (λ _.
    again_next _ (again_expect m.RBracket s₂ 0 low refl)
    (again_then _ (guards_again tests) (λ _ _. (refl, (refl, tt))) (λ _.
    again_next _ (again_expect m.FatArrow s₃ 0 low refl)
    (again_next _ (again_upper text s₄ 0 low)
    (again_then _ (args_again found) (λ _ _. refl) (λ _.
    again_last _ (again_expect m.Semi s₅ 0 low refl)))))))))

row_some : (us : List Leveled) (x : RowTree) → Row us x → 0 < length us
row_some us x (g.row text s₁ s₂ s₃ s₄ s₅ first parts tests found) = omega arith

row_open : (us : List Leveled) (x : RowTree) → Row us x → (rest : List Token) → not_mark m.RBrace (tokens_of us ++ rest)
row_open us x (g.row text s₁ s₂ s₃ s₄ s₅ first parts tests found) rest = refl

decode_again : {us : List Leveled} {x : DecodeSection} → Decode us x → Again decode 0 us x 0 anything
unfolding decode
decode_again (g.Decode.decode s₁ s₂ s₃ all) =
    again_next _ (again_word w.KwDecode s₁ 0 low refl)
    (again_next _ (again_expect m.LBrace s₂ 0 low refl)
    (again_then _ (until_again row Row row_again row_some m.RBrace row_open all) (λ _ _. refl) (λ _.
    again_last _ (again_expect m.RBrace s₃ 0 low refl))))

-- ---- whole specifications

item_again : (us : List Leveled) (x : ItemTree) → Item us x → Again item 0 us x 0 anything
unfolding item
item_again us x (g.Item.datatype (g.Datatype.datatype text s₁ s₂ s₃ s₄ all)) =
    let one = again_last (λ x. e.datatype x) (datatype_again (g.Datatype.datatype text s₁ s₂ s₃ s₄ all)) in record { again = λ rest ok. one.again rest tt }
item_again us x (g.Item.map_type (g.MapType.map_type text key value default s₁ s₂ s₃ s₄ s₅ s₆ s₇ s₈ s₉ s₁₀)) =
    let one = again_last (λ x. e.map_type x) (map_again (g.MapType.map_type text key value default s₁ s₂ s₃ s₄ s₅ s₆ s₇ s₈ s₉ s₁₀)) in record { again = λ rest ok. one.again rest tt }
item_again us x (g.Item.function (g.Function.function text ty s₁ s₂ s₃ s₄ s₅ s₆ s₇ s₈ inside body)) =
    let one = again_last (λ x. e.Item.function x) (function_again (g.Function.function text ty s₁ s₂ s₃ s₄ s₅ s₆ s₇ s₈ inside body)) in record { again = λ rest ok. one.again rest tt }
item_again us x (g.Item.decode (g.Decode.decode s₁ s₂ s₃ all)) =
    let one = again_last (λ x. e.decode x) (decode_again (g.Decode.decode s₁ s₂ s₃ all)) in record { again = λ rest ok. one.again rest tt }

pub item_some : (us : List Leveled) (x : ItemTree) → Item us x → 0 < length us
item_some us x (g.Item.datatype (g.Datatype.datatype text s₁ s₂ s₃ s₄ all)) = omega arith
item_some us x (g.Item.map_type (g.MapType.map_type text key value default s₁ s₂ s₃ s₄ s₅ s₆ s₇ s₈ s₉ s₁₀)) = omega arith
item_some us x (g.Item.function (g.Function.function text ty s₁ s₂ s₃ s₄ s₅ s₆ s₇ s₈ inside body)) = omega arith
item_some us x (g.Item.decode (g.Decode.decode s₁ s₂ s₃ all)) = omega arith

next_item : (n : ℕ) (found : List ItemTree) (us vs : List Leveled) (x : ItemTree) (xs : List ItemTree) → Item us x → Again (items_from n (found ++ x ∷ [])) 0 vs ((found ++ x ∷ []) ++ xs) 0 (λ rest. rest ≡ [])
    → Again (items_from (suc n) found) 0 (us ++ vs) (found ++ x ∷ xs) 0 (λ rest. rest ≡ [])
unfolding items_from
next_item n found [] vs x xs one rest = absurd (let some : 0 < 0 = item_some [] x one in omega arith)
next_item n found (u ∷ us) vs x xs one rest =
    let both : Again (item >>= (λ x. items_from n (found ++ x ∷ []))) 0 (u ∷ us ++ vs) (found ++ x ∷ xs) 0 (λ rest. rest ≡ []) = again_next _ (item_again (u ∷ us) x one) (rw (← append_assoc found (x ∷ []) xs) rest) in
    record { again = λ ts ok. both.again ts ok }

pub items_again : {us : List Leveled} {xs : List ItemTree} → Items us xs → (n : ℕ) (found : List ItemTree) → length us ≤ n → Again (items_from n found) 0 us (found ++ xs) 0 (λ rest. rest ≡ [])
unfolding items_from
items_again g.Several.none zero found turns = record { again = λ rest ok. rw (append-nil found) refl }
items_again g.Several.none (suc n) found turns = record { again = λ rest ok. rw (ok, append-nil found) refl }
items_again (g.Several.next {us = us} {vs = vs} {x = x} {xs = xs} one rest) zero found turns = absurd (let some = item_some us x one in omega (arith, length-append us vs))
items_again (g.Several.next {us = us} {vs = vs} {x = x} {xs = xs} one rest) (suc n) found turns =
    let shorter : length vs ≤ n = (let some = item_some us x one in omega (arith, length-append us vs)) in
    next_item n found us vs x xs one (items_again rest n (found ++ x ∷ []) shorter)
