-- The rules of declarations answer what the grammar says.
use Rattle.std.proofs.Common.{◌≡◌, ℕ, zero, suc, ◌≤◌, true, false, List, [], ◌∷◌, ◌++◌, length, refl, sym, ◌∙◌, append_assoc, append-nil, arith}
use Rattle.std.specs.Prelude.{Ok, Err, if◌then◌else◌}
use Rattle.syntax_lexer.specs.declared.token.Token.{Token}
use Rattle.syntax_lexer.specs.declared.token.Kind.{Kind}
use Rattle.syntax_lexer.specs.declared.token.Kind.TheVariants as k
use Rattle.syntax_lexer.specs.declared.token.Mark.{Mark}
use Rattle.syntax_lexer.specs.declared.token.Mark.TheVariants as m
use Rattle.syntax_lexer.specs.declared.token.Keyword.TheVariants as w
use Rattle.syntax_grammar.specs.declared.tree.Span.{Span}
use Rattle.syntax_grammar.specs.declared.tree.Name.{Name}
use Rattle.syntax_grammar.specs.declared.tree.PartDecl.{PartDecl}
use Rattle.syntax_grammar.specs.declared.tree.GuardDecl.{GuardDecl}
use Rattle.syntax_grammar.specs.declared.tree.GuardOp.{GuardOp}
use Rattle.syntax_grammar.specs.declared.tree.GuardOp.TheVariants as op_variants
use Rattle.syntax_grammar.specs.declared.tree.GuardArg.{GuardArg}
use Rattle.syntax_grammar.specs.declared.tree.GuardArg.TheVariants as other_variants
use Rattle.syntax_grammar.specs.declared.tree.ArgDecl.{ArgDecl}
use Rattle.syntax_grammar.specs.declared.rules.RuleFault.TheVariants.{Syntax}
use Rattle.syntax_grammar.specs.Tree.{Item as ItemTree}
use Rattle.syntax_grammar.specs.Parsing.{◌>>◌, pure, first_kind, is_mark, is_word, expect_word}
use Rattle.syntax_grammar.specs.Lists.{separated, until, many}
use Rattle.syntax_grammar.specs.ItemRules.{field, constructor, case_fields, datatype, map_type, params, function, part, part_fixed, part_named, guard_op, other, guard, guards, arg, arg_word, args, arg_list, row, decode, item, items, items_from}
use Rattle.syntax_grammar.specs.Grammar.{Leveled, tokens_of, token, IsLiteral, Separated, Several, Field, Fields, Case, Datatype, MapType, Params, Function, Part, Compares, Guard, Guards, Arg, Args, Row, Decode, Item, Items, Term}
use Rattle.syntax_grammar.specs.Grammar as g
use Rattle.syntax_grammar.specs.Nodes.{guard_of, row_of}
use Rattle.syntax_grammar.specs.Tokens.{max_level}
use Rattle.syntax_parser.proofs.Cut.{at}
use Rattle.syntax_parser.proofs.Found.{Low, low_any, Read, read_then_flat, read_then_flat_sized, read_pure, read_refuse, read_map}
use Rattle.syntax_parser.proofs.TokensFound.{nowhere, mark_then, word_then, number_then, lower_then, upper_then, literal_found, FlatAt}
use Rattle.syntax_parser.proofs.ListsFound.{Longer, left_fewer, eat_found, separated_found, until_found, many_found}
use Rattle.syntax_parser.proofs.TermsFound.{term_found}
use Rattle.syntax_parser.proofs.ItemsAgain.{item_some}

-- at level 0, where declarations stand
abbrev pub Flat : {A : Type 0} → (List Leveled → A → Type 0) → ℕ → List Leveled → A → Type 0
Flat P = FlatAt 0 P

-- ---- fields, types and maps

field_found : (s : List Token) → Low 0 s → Read (Flat Field) s (field (at 0 s))
unfolding field
field_found s low =
    lower_then (Flat Field) 0 s _ low (λ x s low.
    mark_then _ 0 s m.Colon _ low (λ colon s low.
    upper_then _ 0 s _ low (λ ty s low.
    read_pure _ 0 s _ low (refl, g.field x.text ty.text x.span colon ty.span))))

fields_found : (s : List Token) → Low 0 s → Read (Flat Fields) s (separated field m.Comma (at 0 s))
fields_found s low =
    separated_found field m.Comma 0 Field Fields _ _ (g.field [] [] nowhere nowhere nowhere) (λ us f h. g.Separated.last h) (λ us vs f fs sp h more. g.Separated.next sp h more) field_found s low

constructor_found : (s : List Token) → Low 0 s → Read (Flat Case) s (constructor (at 0 s))
unfolding constructor case_fields
constructor_found s low =
    upper_then (Flat Case) 0 s _ low (λ x s low.
    eat_found _ 0 s m.LParen _ low
    (λ opens s low.
    read_then_flat (λ us fs. Fields us fs) _ 0 s _ _ (fields_found s low) (λ fs s us found low.
    mark_then _ 0 s m.RParen _ low (λ end s low.
    read_pure _ 0 s _ low (refl, g.with_fields x.text x.span opens end found))))
    (read_pure _ 0 s _ low (refl, g.Case.alone x.text x.span)))

cases_found : (s : List Token) → Low 0 s → Read (Flat (Separated Case m.Bar)) s (separated constructor m.Bar (at 0 s))
cases_found s low =
    separated_found constructor m.Bar 0 Case (Separated Case m.Bar) _ _ (g.Case.alone [] nowhere) (λ us x h. g.Separated.last h) (λ us vs x xs sp h more. g.Separated.next sp h more) constructor_found s low

datatype_found : (s : List Token) → Low 0 s → Read (Flat Datatype) s (datatype (at 0 s))
unfolding datatype
datatype_found s low =
    word_then (Flat Datatype) 0 s w.KwType _ low (λ start s low.
    upper_then _ 0 s _ low (λ x s low.
    mark_then _ 0 s m.Equals _ low (λ equals s low.
    read_then_flat (λ us cs. Separated Case m.Bar us cs) _ 0 s _ _ (cases_found s low) (λ cs s us found low.
    mark_then _ 0 s m.Semi _ low (λ end s low.
    read_pure _ 0 s _ low (refl, g.Datatype.datatype x.text start x.span equals end found))))))

map_found : (s : List Token) → Low 0 s → Read (Flat MapType) s (map_type (at 0 s))
unfolding map_type
map_found s low =
    word_then (Flat MapType) 0 s w.KwMap _ low (λ start s low.
    upper_then _ 0 s _ low (λ x s low.
    mark_then _ 0 s m.LBracket _ low (λ opens s low.
    upper_then _ 0 s _ low (λ key s low.
    mark_then _ 0 s m.Arrow _ low (λ arrow s low.
    upper_then _ 0 s _ low (λ value s low.
    mark_then _ 0 s m.RBracket _ low (λ closes s low.
    word_then _ 0 s w.KwDefault _ low (λ word s low.
    number_then _ 0 s _ low (λ default s low.
    mark_then _ 0 s m.Semi _ low (λ end s low.
    read_pure _ 0 s _ low (refl, g.MapType.map_type x.text key.text value.text default.v start x.span opens key.span arrow value.span closes word default.span end)))))))))))

-- ---- functions

params_found : (s : List Token) → Low 0 s → Read (Flat Params) s (params (at 0 s))
unfolding params
params_found s low = elim (is_mark m.RParen (first_kind s)) as (λ b. Read (Flat Params) s ((if b then pure [] else separated field m.Comma) (at 0 s))) [
  | true ↦ read_pure (Flat Params) 0 s [] low (refl, g.Params.none)
  | false ↦ read_map (Flat Fields) (Flat Params) s (separated field m.Comma (at 0 s)) (λ top us all h. (h.0, g.Params.some h.1)) (fields_found s low)
]

function_found : (s : List Token) → Low 0 s → Read (Flat Function) s (function (at 0 s))
unfolding function
function_found s low =
    word_then (Flat Function) 0 s w.KwFun _ low (λ start s low.
    lower_then _ 0 s _ low (λ x s low.
    mark_then _ 0 s m.LParen _ low (λ opens s low.
    read_then_flat (λ us fs. Params us fs) _ 0 s _ _ (params_found s low) (λ fs s us inside low.
    mark_then _ 0 s m.RParen _ low (λ closes s low.
    mark_then _ 0 s m.Arrow _ low (λ arrow s low.
    upper_then _ 0 s _ low (λ ty s low.
    mark_then _ 0 s m.Equals _ low (λ equals s low.
    read_then_flat (λ us x. Term 0 us x) _ 0 s _ _ (term_found max_level 0 (omega arith) s low) (λ y s vs body low.
    mark_then _ 0 s m.Semi _ low (λ end s low.
    read_pure _ 0 s _ low (refl, g.Function.function x.text ty.text start x.span opens closes arrow ty.span equals end inside body)))))))))))

-- ---- decode sections

fixed_found : (s : List Token) → Low 0 s → Read (Flat Part) s (part_fixed (at 0 s))
unfolding part_fixed
fixed_found s low = read_then_flat (λ us l. IsLiteral 0 us l) (Flat Part) 0 s _ _ (literal_found 0 s low) (λ l s us found low. read_pure _ 0 s _ low (refl, rw (append-nil us) (g.fixed found)))

named_found : (s : List Token) → Low 0 s → Read (Flat Part) s (part_named (at 0 s))
unfolding part_named
named_found s low =
    lower_then (Flat Part) 0 s _ low (λ x s low.
    mark_then _ 0 s m.Colon _ low (λ colon s low.
    number_then _ 0 s _ low (λ v s low.
    read_pure _ 0 s _ low (refl, g.Part.named x.text v.v x.span colon v.span))))

no_part : (s : List Token) → Read (Flat Part) s (Err Syntax, at 0 s)
no_part s = read_refuse (Flat Part) 0 0 s _ _ (refl, g.Part.named [] 0 nowhere nowhere nowhere)

part_found : (s : List Token) → Low 0 s → Read (Flat Part) s (part (at 0 s))
unfolding part
part_found [] low = no_part []
part_found (t ∷ ts) low = by t.kind where
  by : (kind : Kind) → let s : List Token = record { kind = kind; from = t.from; to = t.to } ∷ ts in Read (Flat Part) s (part (at 0 s))
  by (k.Number v) = fixed_found _ low
  by (k.Lower text) = named_found _ low
  by (k.Upper text) = no_part _
  by (k.Mark mark) = no_part _
  by (k.Word w) = no_part _

-- one part and more
abbrev Parts : List Leveled → List PartDecl → Type 0
Parts us ps = (us₁ : List Leveled) × (us₂ : List Leveled) × (p : PartDecl) × (rest : List PartDecl) × (us ≡ us₁ ++ us₂) × (ps ≡ p ∷ rest) × Part us₁ p × Several Part us₂ rest

parts_found : (s : List Token) → Low 0 s → Read (Flat Parts) s (many part m.RBracket (at 0 s))
parts_found s low =
    many_found part m.RBracket 0 Part (λ us ps. Several Part us ps) g.Several.none (λ us vs x xs h more. g.Several.next h more) part_found Parts
    (λ us vs x xs h more. (us, vs, x, xs, refl, refl, h, more)) s low

compare_found : (op : GuardOp) (mark : Mark) → Compares mark op → (s : Span) (ts : List Token) → Low 0 (token (k.Mark mark) s ∷ ts) → Read (Flat (λ us op. (x : Mark) × (s : Span) × (us ≡ g.mark x s 0 ∷ []) × Compares x op)) (token (k.Mark mark) s ∷ ts) (Ok op, at 0 ts)
compare_found op mark is s ts low = record { used = g.mark mark s 0 ∷ []; whole = refl; fits = (low, tt); low = low_any 0 ts low; read = (refl, (mark, s, refl, is)) }

abbrev IsOperator : List Leveled → GuardOp → Type 0
IsOperator us op = (x : Mark) × (s : Span) × (us ≡ g.mark x s 0 ∷ []) × Compares x op

no_operator : (s : List Token) → Read (Flat IsOperator) s (Err Syntax, at 0 s)
no_operator s = read_refuse (Flat IsOperator) 0 0 s (g.mark m.EqEq nowhere 0 ∷ []) op_variants.Eq (refl, (m.EqEq, nowhere, refl, g.equal))

operator_found : (s : List Token) → Low 0 s → Read (Flat IsOperator) s (guard_op (at 0 s))
unfolding guard_op
operator_found [] low = no_operator []
operator_found (t ∷ ts) low = by t.kind where
  here : Span
  here = record { from = t.from; to = t.to }

  by : (kind : Kind) → let s : List Token = record { kind = kind; from = t.from; to = t.to } ∷ ts in Read (Flat IsOperator) s (guard_op (at 0 s))
  by (k.Mark m.EqEq) = compare_found op_variants.Eq m.EqEq g.equal here ts low
  by (k.Mark m.NotEq) = compare_found op_variants.Ne m.NotEq g.Compares.other here ts low
  by (k.Mark m.Less) = compare_found op_variants.Less m.Less g.Compares.less here ts low
  by (k.Mark _) = no_operator _
  by (k.Number v) = no_operator _
  by (k.Lower text) = no_operator _
  by (k.Upper text) = no_operator _
  by (k.Word w) = no_operator _

-- the second operand of a guard
data IsOther : List Leveled → GuardArg → Type 0 where
  a_field : (text : List ℕ) (s : Span) → IsOther (g.lower text s 0 ∷ []) (other_variants.Named (g.name text s))
  a_number : (v : ℕ) (s : Span) → IsOther (g.number v s 0 ∷ []) (other_variants.Number (g.num v s))

no_other : (s : List Token) → Read (Flat IsOther) s (Err Syntax, at 0 s)
no_other s = read_refuse (Flat IsOther) 0 0 s _ _ (refl, a_field [] nowhere)

other_found : (s : List Token) → Low 0 s → Read (Flat IsOther) s (other (at 0 s))
unfolding other
other_found [] low = no_other []
other_found (t ∷ ts) low = by t.kind where
  by : (kind : Kind) → let s : List Token = record { kind = kind; from = t.from; to = t.to } ∷ ts in Read (Flat IsOther) s (other (at 0 s))
  by (k.Lower text) = lower_then (Flat IsOther) 0 _ _ low (λ x s low. read_pure _ 0 s _ low (refl, a_field x.text x.span))
  by (k.Number v) = number_then (Flat IsOther) 0 _ _ low (λ x s low. read_pure _ 0 s _ low (refl, a_number x.v x.span))
  by (k.Mark mark) = no_other _
  by (k.Upper text) = no_other _
  by (k.Word w) = no_other _

guard_done : (x : Name) (us vs : List Leveled) (op : GuardOp) (rhs : GuardArg) → IsOperator us op → IsOther vs rhs → Guard (g.lower x.text x.span 0 ∷ (us ++ (vs ++ []))) (guard_of x op rhs)
guard_done x us vs op rhs is (a_field text s) = rw is.2 (g.with_field x.text text is.0 op x.span is.1 s is.3)
guard_done x us vs op rhs is (a_number v s) = rw is.2 (g.with_number x.text v is.0 op x.span is.1 s is.3)

guard_found : (s : List Token) → Low 0 s → Read (Flat Guard) s (guard (at 0 s))
unfolding guard
guard_found s low =
    lower_then (Flat Guard) 0 s _ low (λ x s low.
    read_then_flat (λ us op. IsOperator us op) _ 0 s _ _ (operator_found s low) (λ op s us is low.
    read_then_flat (λ us rhs. IsOther us rhs) _ 0 s _ _ (other_found s low) (λ rhs s vs found low.
    read_pure _ 0 s _ low (refl, guard_done x us vs op rhs is found))))

guard_list : (s : List Token) → Low 0 s → Read (Flat (Separated Guard m.Comma)) s (separated guard m.Comma (at 0 s))
guard_list s low =
    separated_found guard m.Comma 0 Guard (Separated Guard m.Comma) _ _ (g.with_field [] [] m.EqEq op_variants.Eq nowhere nowhere nowhere g.equal) (λ us x h. g.Separated.last h) (λ us vs x xs sp h more. g.Separated.next sp h more) guard_found s low

guards_found : (s : List Token) → Low 0 s → Read (Flat Guards) s (guards (at 0 s))
unfolding guards
guards_found s low = elim (is_word w.KwWhen (first_kind s)) as (λ b. Read (Flat Guards) s ((if b then (expect_word w.KwWhen >> separated guard m.Comma) else pure []) (at 0 s))) [
  | true ↦ word_then (Flat Guards) 0 s w.KwWhen _ low (λ when s low. read_map (Flat (Separated Guard m.Comma)) (λ top vs gs. Flat Guards top (g.keyword w.KwWhen when 0 ∷ vs) gs) s (separated guard m.Comma (at 0 s)) (λ top us all h. (h.0, g.Guards.some when h.1)) (guard_list s low))
  | false ↦ read_pure (Flat Guards) 0 s [] low (refl, g.Guards.none)
]

arg_word_found : (s : List Token) → Low 0 s → Read (Flat Arg) s (arg_word (at 0 s))
unfolding arg_word
arg_word_found s low = read_then_flat (λ us l. IsLiteral 0 us l) (Flat Arg) 0 s _ _ (literal_found 0 s low) (λ l s us found low. read_pure _ 0 s _ low (refl, rw (append-nil us) (g.Arg.word found)))

no_arg : (s : List Token) → Read (Flat Arg) s (Err Syntax, at 0 s)
no_arg s = read_refuse (Flat Arg) 0 0 s _ _ (refl, g.Arg.named [] nowhere)

arg_found : (s : List Token) → Low 0 s → Read (Flat Arg) s (arg (at 0 s))
unfolding arg
arg_found [] low = no_arg []
arg_found (t ∷ ts) low = by t.kind where
  by : (kind : Kind) → let s : List Token = record { kind = kind; from = t.from; to = t.to } ∷ ts in Read (Flat Arg) s (arg (at 0 s))
  by (k.Lower text) = lower_then (Flat Arg) 0 _ _ low (λ x s low. read_pure _ 0 s _ low (refl, g.Arg.named x.text x.span))
  by (k.Number v) = arg_word_found _ low
  by (k.Mark mark) = no_arg _
  by (k.Upper text) = no_arg _
  by (k.Word w) = no_arg _

arg_items : (s : List Token) → Low 0 s → Read (Flat (Separated Arg m.Comma)) s (separated arg m.Comma (at 0 s))
arg_items s low =
    separated_found arg m.Comma 0 Arg (Separated Arg m.Comma) _ _ (g.Arg.named [] nowhere) (λ us x h. g.Separated.last h) (λ us vs x xs sp h more. g.Separated.next sp h more) arg_found s low

args_found : (s : List Token) → Low 0 s → Read (Flat Args) s (args (at 0 s))
unfolding args arg_list
args_found s low =
    eat_found (Flat Args) 0 s m.LParen _ low
    (λ opens s low.
    read_then_flat (λ us xs. Separated Arg m.Comma us xs) _ 0 s _ _ (arg_items s low) (λ xs s us found low.
    mark_then _ 0 s m.RParen _ low (λ end s low.
    read_pure _ 0 s _ low (refl, g.Args.some opens end found))))
    (read_pure (Flat Args) 0 s _ low (refl, g.Args.none))

row_made : (start closes arrow end : Span) (x : Name) (us vs xs : List Leveled) (ps : List PartDecl) (gs : List GuardDecl) (found : List ArgDecl) → Parts us ps → Guards vs gs → Args xs found
    → Row (g.mark m.LBracket start 0 ∷ (us ++ g.mark m.RBracket closes 0 ∷ (vs ++ g.mark m.FatArrow arrow 0 ∷ g.upper x.text x.span 0 ∷ (xs ++ g.mark m.Semi end 0 ∷ [])))) (row_of start ps gs x found end)
row_made start closes arrow end x us vs xs ps gs found parts tests args =
    rw (parts.4, parts.5, append_assoc parts.0 parts.1 (g.mark m.RBracket closes 0 ∷ (vs ++ g.mark m.FatArrow arrow 0 ∷ g.upper x.text x.span 0 ∷ (xs ++ g.mark m.Semi end 0 ∷ []))))
    (g.row x.text start closes arrow x.span end parts.6 parts.7 tests args)

row_found : (s : List Token) → Low 0 s → Read (Flat Row) s (row (at 0 s))
unfolding row
row_found s low =
    mark_then (Flat Row) 0 s m.LBracket _ low (λ start s low.
    read_then_flat (λ us ps. Parts us ps) _ 0 s _ _ (parts_found s low) (λ ps s us parts low.
    mark_then _ 0 s m.RBracket _ low (λ closes s low.
    read_then_flat (λ us gs. Guards us gs) _ 0 s _ _ (guards_found s low) (λ gs s vs tests low.
    mark_then _ 0 s m.FatArrow _ low (λ arrow s low.
    upper_then _ 0 s _ low (λ x s low.
    read_then_flat (λ us xs. Args us xs) _ 0 s _ _ (args_found s low) (λ found s xs args low.
    mark_then _ 0 s m.Semi _ low (λ end s low.
    read_pure _ 0 s _ low (refl, row_made start closes arrow end x us vs xs ps gs found parts tests args)))))))))

rows_found : (s : List Token) → Low 0 s → Read (Flat (λ us rows. Several Row us rows)) s (until row m.RBrace (at 0 s))
rows_found s low = until_found row m.RBrace 0 Row (λ us rows. Several Row us rows) g.Several.none (λ us vs x xs h more. g.Several.next h more) row_found s low

decode_found : (s : List Token) → Low 0 s → Read (Flat Decode) s (decode (at 0 s))
unfolding decode
decode_found s low =
    word_then (Flat Decode) 0 s w.KwDecode _ low (λ start s low.
    mark_then _ 0 s m.LBrace _ low (λ opens s low.
    read_then_flat (λ us rows. Several Row us rows) _ 0 s _ _ (rows_found s low) (λ rows s us found low.
    mark_then _ 0 s m.RBrace _ low (λ end s low.
    read_pure _ 0 s _ low (refl, g.Decode.decode start opens end found)))))

-- ---- whole specifications

no_item : (s : List Token) → Read (Flat Item) s (Err Syntax, at 0 s)
no_item s = read_refuse (Flat Item) 0 0 s _ _ (refl, g.Item.decode (g.Decode.decode nowhere nowhere nowhere g.Several.none))

pub item_found : (s : List Token) → Low 0 s → Read (Flat Item) s (item (at 0 s))
unfolding item
item_found [] low = no_item []
item_found (t ∷ ts) low = by t.kind where
  by : (kind : Kind) → let s : List Token = record { kind = kind; from = t.from; to = t.to } ∷ ts in Read (Flat Item) s (item (at 0 s))
  by (k.Number v) = no_item _
  by (k.Upper text) = no_item _
  by (k.Lower text) = no_item _
  by (k.Mark mark) = no_item _
  by (k.Word w.KwType) = read_then_flat (λ us x. Datatype us x) (Flat Item) 0 _ _ _ (datatype_found _ low) (λ x s us found low. read_pure _ 0 s _ low (refl, rw (append-nil us) (g.Item.datatype found)))
  by (k.Word w.KwMap) = read_then_flat (λ us x. MapType us x) (Flat Item) 0 _ _ _ (map_found _ low) (λ x s us found low. read_pure _ 0 s _ low (refl, rw (append-nil us) (g.Item.map_type found)))
  by (k.Word w.KwFun) = read_then_flat (λ us x. Function us x) (Flat Item) 0 _ _ _ (function_found _ low) (λ x s us found low. read_pure _ 0 s _ low (refl, rw (append-nil us) (g.Item.function found)))
  by (k.Word w.KwDecode) = read_then_flat (λ us x. Decode us x) (Flat Item) 0 _ _ _ (decode_found _ low) (λ x s us found low. read_pure _ 0 s _ low (refl, rw (append-nil us) (g.Item.decode found)))
  by (k.Word _) = no_item _

items_from_found : (n : ℕ) (s : List Token) (found : List ItemTree) → length s ≤ n → Low 0 s → Read (Longer 0 Items found) s (items_from n found (at 0 s))
unfolding items_from
items_from_found zero s found le low = read_pure (Longer 0 Items found) 0 s found low (refl, ([], sym (append-nil found), g.Several.none))
items_from_found (suc n) [] found le low = read_pure (Longer 0 Items found) 0 [] found low (refl, ([], sym (append-nil found), g.Several.none))
items_from_found (suc n) (t ∷ ts) found le low =
    read_then_flat_sized (λ us x. Item us x) (Longer 0 Items found) 0 (t ∷ ts) (item (at 0 (t ∷ ts))) (λ x. items_from n (found ++ x ∷ [])) (item_found (t ∷ ts) low)
    (λ x rest us read low left.
    let fewer : length rest ≤ n = left_fewer (t ∷ ts) rest us n left (item_some us x read) le in
    read_map (Longer 0 Items (found ++ x ∷ [])) (λ top vs all. Longer 0 Items found top (us ++ vs) all) rest (items_from n (found ++ x ∷ []) (at 0 rest))
    (λ top vs all h. (h.0, (x ∷ h.1.0, h.1.1 ∙ append_assoc found (x ∷ []) h.1.0, g.Several.next read h.1.2)))
    (items_from_found n rest (found ++ x ∷ []) fewer low))

pub items_found : (s : List Token) → Read (Flat Items) s (items (at 0 s))
unfolding items
items_found s = read_map (Longer 0 Items []) (Flat Items) s (items (at 0 s)) (λ top us all h. (h.0, rw h.1.1 h.1.2))
    (items_from_found (length s) s [] (omega arith) (low_any 0 s (omega arith)))
