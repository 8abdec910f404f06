-- The rules look at no token after the one that they stop at, and each takes a token.
use Rattle.std.proofs.Common.{◌≡◌, ℕ, zero, suc, ◌≤◌, Bool, true, false, List, [], ◌∷◌, ◌++◌, length, refl, arith}
use Rattle.std.specs.Prelude.{Option, Some, None, if◌then◌else◌, ◌==◌}
use Rattle.syntax_lexer.specs.declared.token.Token.{Token}
use Rattle.syntax_lexer.specs.declared.token.Kind.{Kind}
use Rattle.syntax_lexer.specs.declared.token.Kind.TheVariants as k
use Rattle.syntax_lexer.specs.declared.token.Mark.TheVariants as m
use Rattle.syntax_lexer.specs.declared.token.Keyword.{Keyword}
use Rattle.syntax_lexer.specs.declared.token.Keyword.TheVariants as w
use Rattle.syntax_grammar.specs.declared.tree.Name.{Name}
use Rattle.syntax_grammar.specs.declared.tree.Span.{Span}
use Rattle.syntax_grammar.specs.declared.tree.MapDecl.{MapDecl}
use Rattle.syntax_grammar.specs.declared.tree.PartDecl.{PartDecl}
use Rattle.syntax_grammar.specs.declared.tree.PartDecl.TheVariants as part_variants
use Rattle.syntax_grammar.specs.declared.tree.GuardDecl.{GuardDecl}
use Rattle.syntax_grammar.specs.declared.tree.GuardOp.TheVariants as op_variants
use Rattle.syntax_grammar.specs.declared.tree.GuardArg.TheVariants as other_variants
use Rattle.syntax_grammar.specs.declared.tree.ArgDecl.TheVariants as arg_variants
use Rattle.syntax_grammar.specs.declared.rules.Literal.{Literal}
use Rattle.syntax_grammar.specs.declared.rules.RuleFault.TheVariants.{Syntax, TooDeep}
use Rattle.syntax_grammar.specs.Tree.{Term as Expr, Pattern, Arm as ArmTree, Constructor, Datatype as DataTree, Row as RowTree, DecodeSection, Item as ItemTree}
use Rattle.syntax_grammar.specs.Tree as e
use Rattle.syntax_grammar.specs.Parsing.{Parser, ◌>>=◌, ◌>>◌, pure, stop, skip, eat, expect, expect_word, number, lower, upper, enter, rise, leave, begins_term, begins_pattern, is_mark, is_word}
use Rattle.syntax_grammar.specs.Lists.{separated, until, many}
use Rattle.syntax_grammar.specs.PatternRules.{pattern, pattern_body, pattern_body_by, pattern_any, pattern_variable, pattern_word, pattern_flag, pattern_make, pattern_parts}
use Rattle.syntax_grammar.specs.TermRules.{term, body, body_by, let_in, if_else, at_precedence, chain_from, unary_from, post, index, indexes_from, atom, atom_by, atom_by_word, word, flag, named, call, arguments, made, parts, operation, cast, arm, match_on, paren, max_turns}
use Rattle.syntax_grammar.specs.ItemRules.{field, constructor, case_fields, datatype, map_type, params, function, part, part_by, part_fixed, part_named, guard_op, guard_op_by, other, other_by, guard, guards, arg, arg_by, arg_word, args, arg_list, row, decode, item, item_by, items, items_from, items_by}
use Rattle.syntax_grammar.specs.Nodes.{let_of, if_of, binary_of, prefix_of, get_of, put_of, operation_of, cast_of, arm_of, match_of, paren_of, field_of, case_of, datatype_of, map_of, fun_of, part_of, guard_of, row_of, decode_of}
use Rattle.syntax_grammar.specs.Operators.{binds, groups, operator, prefix_operator, loosest}
use Rattle.syntax_grammar.specs.Tokens.{max_level, is_prefix, is_operation, is_cast}
use Rattle.syntax_parser.proofs.Cut.{at}
use Rattle.syntax_parser.proofs.TokensFound.{of_mark, of_word, of_lower, of_upper, takes_mark, takes_word, takes_lower, takes_upper}
use Rattle.syntax_parser.proofs.Local.{Local, Moves, Needs, local_then, local_pure, local_stop, local_leave, local_skip, local_by_next, local_choose, local_rise, local_enter, local_expect, local_word, local_number, local_lower, local_upper, local_literal, local_eat, local_separated, local_until, local_many, local_turns, takes_moves, moves_then, moves_after, moves_by_next, moves_stop, moves_literal, moves_choose, same_then, no_more}

word_moves : (word : Keyword) → Moves (expect_word word)
word_moves word = takes_moves (of_word word) (expect_word word) (takes_word word)

mark_moves : (mark : _) → Moves (expect mark)
mark_moves mark = takes_moves (of_mark mark) (expect mark) (takes_mark mark)

lower_moves : Moves lower
lower_moves = takes_moves of_lower lower takes_lower

upper_moves : Moves upper
upper_moves = takes_moves of_upper upper takes_upper

-- ---- patterns

local_any : Local pattern_any
unfolding pattern_any
local_any = local_then _ (local_expect m.Underscore) (λ s. local_pure _)

moves_any : Moves pattern_any
unfolding pattern_any
moves_any = moves_then (λ s. pure (e.any s)) (mark_moves m.Underscore) (λ s. local_pure _)

local_bind : Local pattern_variable
unfolding pattern_variable
local_bind = local_then _ local_lower (λ x. local_pure _)

moves_bind : Moves pattern_variable
unfolding pattern_variable
moves_bind = moves_then (λ x. pure (e.bind x)) lower_moves (λ x. local_pure _)

local_pattern_word : Local pattern_word
unfolding pattern_word
local_pattern_word = local_then _ local_literal (λ l. local_pure _)

moves_pattern_word : Moves pattern_word
unfolding pattern_word
moves_pattern_word = moves_then (λ (l : Literal). pure (e.Pattern.word l.v l.w l.span)) moves_literal (λ l. local_pure _)

local_pattern_flag : (word : Keyword) (v : Bool) → Local (pattern_flag word v)
unfolding pattern_flag
local_pattern_flag word v = local_then _ (local_word word) (λ s. local_pure _)

moves_pattern_flag : (word : Keyword) (v : Bool) → Moves (pattern_flag word v)
unfolding pattern_flag
moves_pattern_flag word v = moves_then (λ s. pure (e.Pattern.flag v s)) (word_moves word) (λ s. local_pure _)

module _ (P : Parser Pattern) (inner : Local P) (needs : Needs P) (moves : Moves P) where
  local_pattern_parts : (x : Name) → Local (pattern_parts P x)
  unfolding pattern_parts
  local_pattern_parts x = local_then _ (local_separated P m.Comma inner needs moves) (λ ps. local_then _ (local_expect m.RParen) (λ s. local_pure _))

  abbrev after_pattern_name : Name → Parser Pattern
  after_pattern_name x = eat m.LParen >>= (λ has_parts. if has_parts then pattern_parts P x else pure (e.Pattern.make x e.Patterns.none x.span))

  local_after_pattern_name : (x : Name) → Local (after_pattern_name x)
  local_after_pattern_name x = local_then _ (local_eat m.LParen) (λ b. local_choose b (pattern_parts P x) (pure (e.Pattern.make x e.Patterns.none x.span)) (local_pattern_parts x) (local_pure _))

  local_pattern_make : Local (pattern_make P)
  unfolding pattern_make
  local_pattern_make = local_then after_pattern_name local_upper local_after_pattern_name

  moves_pattern_make : Moves (pattern_make P)
  unfolding pattern_make
  moves_pattern_make = moves_then after_pattern_name upper_moves local_after_pattern_name

  local_pattern_body : Local (pattern_body P)
  unfolding pattern_body
  local_pattern_body = local_by_next (pattern_body_by P) by where
    by : (next : Option Kind) → Local (pattern_body_by P next)
    by (Some (k.Mark m.Underscore)) = local_any
    by (Some (k.Lower text)) = local_bind
    by (Some (k.Number v)) = local_pattern_word
    by (Some (k.Word w.KwTrue)) = local_pattern_flag w.KwTrue true
    by (Some (k.Word w.KwFalse)) = local_pattern_flag w.KwFalse false
    by (Some (k.Upper text)) = local_pattern_make
    by _ = local_stop Syntax

  moves_pattern_body : Moves (pattern_body P)
  unfolding pattern_body
  moves_pattern_body = moves_by_next (pattern_body_by P) by where
    by : (next : Option Kind) → Moves (pattern_body_by P next)
    by (Some (k.Mark m.Underscore)) = moves_any
    by (Some (k.Lower text)) = moves_bind
    by (Some (k.Number v)) = moves_pattern_word
    by (Some (k.Word w.KwTrue)) = moves_pattern_flag w.KwTrue true
    by (Some (k.Word w.KwFalse)) = moves_pattern_flag w.KwFalse false
    by (Some (k.Upper text)) = moves_pattern_make
    by _ = moves_stop Syntax

pattern_needs : (depth : ℕ) → Needs (pattern depth)
unfolding pattern enter
pattern_needs zero ℓ = refl
pattern_needs (suc depth) ℓ = refl

local_pattern_leaves : (outer : ℕ) (x : Pattern) → Local (leave outer >> pure x)
local_pattern_leaves outer x = local_then _ (local_leave outer) (λ _. local_pure x)

local_pattern_zero : Local (pattern zero)
unfolding pattern
local_pattern_zero = local_then _ (local_enter begins_pattern) (λ _. local_stop TooDeep)

moves_pattern_zero : Moves (pattern zero)
unfolding pattern
moves_pattern_zero = moves_after (λ _. stop TooDeep) (local_enter begins_pattern) (λ _. moves_stop TooDeep)

abbrev after_pattern_enter : ℕ → ℕ → Parser Pattern
after_pattern_enter depth outer = pattern_body (pattern depth) >>= (λ x. leave outer >> pure x)

local_pattern_suc : (depth : ℕ) → Local (pattern depth) → Moves (pattern depth) → Local (pattern (suc depth))
unfolding pattern
local_pattern_suc depth inner moves = local_then (after_pattern_enter depth) (local_enter begins_pattern) (λ outer. local_then _ (local_pattern_body (pattern depth) inner (pattern_needs depth) moves) (λ x. local_pattern_leaves outer x))

moves_pattern_suc : (depth : ℕ) → Local (pattern depth) → Moves (pattern depth) → Moves (pattern (suc depth))
unfolding pattern
moves_pattern_suc depth inner moves = moves_after (after_pattern_enter depth) (local_enter begins_pattern) (λ outer. moves_then (λ x. leave outer >> pure x) (moves_pattern_body (pattern depth) inner (pattern_needs depth) moves) (λ x. local_pattern_leaves outer x))

mutual
  pub local_pattern : (depth : ℕ) → Local (pattern depth)
  local_pattern zero = local_pattern_zero
  local_pattern (suc depth) = local_pattern_suc depth (local_pattern depth) (moves_pattern depth)

  pub moves_pattern : (depth : ℕ) → Moves (pattern depth)
  moves_pattern zero = moves_pattern_zero
  moves_pattern (suc depth) = moves_pattern_suc depth (local_pattern depth) (moves_pattern depth)

-- ---- terms

local_in_word : Local word
unfolding word
local_in_word = local_then _ local_literal (λ l. local_pure _)

moves_word : Moves word
unfolding word
moves_word = moves_then (λ (l : Literal). pure (e.Term.word l.v l.w l.span)) moves_literal (λ l. local_pure _)

local_flag : (word : Keyword) (v : Bool) → Local (flag word v)
unfolding flag
local_flag word v = local_then _ (local_word word) (λ s. local_pure _)

moves_flag : (word : Keyword) (v : Bool) → Moves (flag word v)
unfolding flag
moves_flag word v = moves_then (λ s. pure (e.Term.flag v s)) (word_moves word) (λ s. local_pure _)

local_chain_from : (operand : Parser Expr) → Local operand → (p n : ℕ) (x : Expr) → Local (chain_from operand p n x)
unfolding chain_from
local_chain_from operand one p zero x = local_stop TooDeep
local_chain_from operand one p (suc n) x =
    local_by_next (λ next. if binds next == p then (rise >> (skip >> (operand >>= (λ right. if groups p then chain_from operand p n (binary_of (operator next) x right) else pure (binary_of (operator next) x right))))) else pure x)
    (λ next. local_choose (binds next == p) (rise >> (skip >> (operand >>= (λ right. if groups p then chain_from operand p n (binary_of (operator next) x right) else pure (binary_of (operator next) x right))))) (pure x)
    (local_then _ local_rise (λ _. local_then _ local_skip (λ _. local_then _ one (λ y.
    local_choose (groups p) (chain_from operand p n (binary_of (operator next) x y)) (pure (binary_of (operator next) x y)) (local_chain_from operand one p n (binary_of (operator next) x y)) (local_pure _))))) (local_pure x))

module _ (P : Parser Pattern) (T : Parser Expr) (patterns : Local P) (pattern_wants : Needs P) (pattern_takes : Moves P) (inner : Local T) (needs : Needs T) (moves : Moves T) where
  abbrev after_open : Span → Parser Expr
  after_open start = T >>= (λ x. expect m.RParen >>= (λ end. pure (paren_of start x end)))

  local_after_open : (start : Span) → Local (after_open start)
  local_after_open start = local_then _ inner (λ x. local_then _ (local_expect m.RParen) (λ _. local_pure _))

  local_paren : Local (paren T)
  unfolding paren
  local_paren = local_then after_open (local_expect m.LParen) local_after_open

  moves_paren : Moves (paren T)
  unfolding paren
  moves_paren = moves_then after_open (mark_moves m.LParen) local_after_open

  local_arguments : Local (arguments T)
  unfolding arguments
  local_arguments = local_by_next (λ next. if is_mark m.RParen next then pure [] else separated T m.Comma) (λ next. local_choose (is_mark m.RParen next) (pure []) (separated T m.Comma) (local_pure []) (local_separated T m.Comma inner needs moves))

  local_call : (x : Name) → Local (call T x)
  unfolding call
  local_call x = local_then _ local_arguments (λ xs. local_then _ (local_expect m.RParen) (λ end. local_pure _))

  abbrev after_name : Name → Parser Expr
  after_name x = eat m.LParen >>= (λ is_call. if is_call then call T x else pure (e.var x))

  local_after_name : (x : Name) → Local (after_name x)
  local_after_name x = local_then _ (local_eat m.LParen) (λ is_call. local_choose is_call (call T x) (pure (e.var x)) (local_call x) (local_pure _))

  local_named : Local (named T)
  unfolding named
  local_named = local_then after_name local_lower local_after_name

  moves_named : Moves (named T)
  unfolding named
  moves_named = moves_then after_name lower_moves local_after_name

  local_parts : (x : Name) → Local (parts T x)
  unfolding parts
  local_parts x = local_then _ (local_separated T m.Comma inner needs moves) (λ xs. local_then _ (local_expect m.RParen) (λ end. local_pure _))

  abbrev after_upper : Name → Parser Expr
  after_upper x = eat m.LParen >>= (λ has_parts. if has_parts then parts T x else pure (e.Term.make x e.Terms.none x.span))

  local_after_upper : (x : Name) → Local (after_upper x)
  local_after_upper x = local_then _ (local_eat m.LParen) (λ b. local_choose b (parts T x) (pure (e.Term.make x e.Terms.none x.span)) (local_parts x) (local_pure _))

  local_made : Local (made T)
  unfolding made
  local_made = local_then after_upper local_upper local_after_upper

  moves_made : Moves (made T)
  unfolding made
  moves_made = moves_then after_upper upper_moves local_after_upper

  abbrev after_op : Keyword → Span → Parser Expr
  after_op op start = expect m.LParen >>= (λ _. T >>= (λ x. expect m.Comma >>= (λ _. T >>= (λ y. expect m.RParen >>= (λ end. pure (operation_of op start x y end))))))

  local_after_op : (op : Keyword) (start : Span) → Local (after_op op start)
  local_after_op op start = local_then _ (local_expect m.LParen) (λ _. local_then _ inner (λ x. local_then _ (local_expect m.Comma) (λ _. local_then _ inner (λ y. local_then _ (local_expect m.RParen) (λ end. local_pure _)))))

  local_operation : (op : Keyword) → Local (operation T op)
  unfolding operation
  local_operation op = local_then (after_op op) (local_word op) (local_after_op op)

  moves_operation : (op : Keyword) → Moves (operation T op)
  unfolding operation
  moves_operation op = moves_then (after_op op) (word_moves op) (local_after_op op)

  abbrev after_cast : Keyword → Span → Parser Expr
  after_cast op start = expect m.LParen >>= (λ _. T >>= (λ x. expect m.Comma >>= (λ _. number >>= (λ to. expect m.RParen >>= (λ end. pure (cast_of op start x to end))))))

  local_after_cast : (op : Keyword) (start : Span) → Local (after_cast op start)
  local_after_cast op start = local_then _ (local_expect m.LParen) (λ _. local_then _ inner (λ x. local_then _ (local_expect m.Comma) (λ _. local_then _ local_number (λ y. local_then _ (local_expect m.RParen) (λ end. local_pure _)))))

  local_cast : (op : Keyword) → Local (cast T op)
  unfolding cast
  local_cast op = local_then (after_cast op) (local_word op) (local_after_cast op)

  moves_cast : (op : Keyword) → Moves (cast T op)
  unfolding cast
  moves_cast op = moves_then (after_cast op) (word_moves op) (local_after_cast op)

  abbrev after_pat : Pattern → Parser ArmTree
  after_pat p = expect m.FatArrow >>= (λ _. T >>= (λ x. expect m.Semi >>= (λ end. pure (arm_of p x end))))

  local_after_pat : (p : Pattern) → Local (after_pat p)
  local_after_pat p = local_then _ (local_expect m.FatArrow) (λ _. local_then _ inner (λ x. local_then _ (local_expect m.Semi) (λ end. local_pure _)))

  local_arm : Local (arm P T)
  unfolding arm
  local_arm = local_then after_pat patterns local_after_pat

  moves_arm : Moves (arm P T)
  unfolding arm
  moves_arm = moves_then after_pat pattern_takes local_after_pat

  arm_needs : Needs (arm P T)
  unfolding arm
  arm_needs ℓ = rw (pattern_wants ℓ) refl

  abbrev after_match : Span → Parser Expr
  after_match start = T >>= (λ x. expect_word w.KwWith >>= (λ _. expect m.LBrace >>= (λ _. many (arm P T) m.RBrace >>= (λ arms. expect m.RBrace >>= (λ end. pure (match_of start x arms end))))))

  local_after_match : (start : Span) → Local (after_match start)
  local_after_match start = local_then _ inner (λ x. local_then _ (local_word w.KwWith) (λ _. local_then _ (local_expect m.LBrace) (λ _.
      local_then _ (local_many (arm P T) m.RBrace local_arm arm_needs moves_arm) (λ arms. local_then _ (local_expect m.RBrace) (λ end. local_pure _)))))

  local_match : Local (match_on P T)
  unfolding match_on
  local_match = local_then after_match (local_word w.KwMatch) local_after_match

  moves_match : Moves (match_on P T)
  unfolding match_on
  moves_match = moves_then after_match (word_moves w.KwMatch) local_after_match

  local_other_word : (word : Keyword) → Local (if is_operation word then operation T word else (if is_cast word then cast T word else stop Syntax))
  local_other_word word = local_choose (is_operation word) (operation T word) (if is_cast word then cast T word else stop Syntax) (local_operation word) (local_choose (is_cast word) (cast T word) (stop Syntax) (local_cast word) (local_stop Syntax))

  moves_other_word : (word : Keyword) → Moves (if is_operation word then operation T word else (if is_cast word then cast T word else stop Syntax))
  moves_other_word word = moves_choose (is_operation word) (operation T word) (if is_cast word then cast T word else stop Syntax) (moves_operation word) (moves_choose (is_cast word) (cast T word) (stop Syntax) (moves_cast word) (moves_stop Syntax))

  local_atom_word : (word : Keyword) → Local (atom_by_word P T word)
  local_atom_word w.KwTrue = local_flag w.KwTrue true
  local_atom_word w.KwFalse = local_flag w.KwFalse false
  local_atom_word w.KwMatch = local_match
  local_atom_word word = local_other_word word

  moves_atom_word : (word : Keyword) → Moves (atom_by_word P T word)
  moves_atom_word w.KwTrue = moves_flag w.KwTrue true
  moves_atom_word w.KwFalse = moves_flag w.KwFalse false
  moves_atom_word w.KwMatch = moves_match
  moves_atom_word word = moves_other_word word

  local_atom : Local (atom P T)
  unfolding atom
  local_atom = local_by_next (atom_by P T) by where
    by : (next : Option Kind) → Local (atom_by P T next)
    by (Some (k.Number v)) = local_in_word
    by (Some (k.Lower text)) = local_named
    by (Some (k.Upper text)) = local_made
    by (Some (k.Mark m.LParen)) = local_paren
    by (Some (k.Mark _)) = local_stop Syntax
    by (Some (k.Word word)) = local_atom_word word
    by None = local_stop Syntax

  moves_atom : Moves (atom P T)
  unfolding atom
  moves_atom = moves_by_next (atom_by P T) by where
    by : (next : Option Kind) → Moves (atom_by P T next)
    by (Some (k.Number v)) = moves_word
    by (Some (k.Lower text)) = moves_named
    by (Some (k.Upper text)) = moves_made
    by (Some (k.Mark m.LParen)) = moves_paren
    by (Some (k.Mark _)) = moves_stop Syntax
    by (Some (k.Word word)) = moves_atom_word word
    by None = moves_stop Syntax

  local_got : (x key : Expr) → Local (expect m.RBracket >>= (λ end. pure (get_of x key end)))
  local_got x key = local_then _ (local_expect m.RBracket) (λ end. local_pure _)

  local_changed : (x key : Expr) → Local (T >>= (λ v. expect m.RBracket >>= (λ end. pure (put_of x key v end))))
  local_changed x key = local_then _ inner (λ v. local_then _ (local_expect m.RBracket) (λ end. local_pure _))

  local_index : (x : Expr) → Local (index T x)
  unfolding index
  local_index x = local_then _ inner (λ key. local_then _ (local_eat m.Assign) (λ changes.
      local_choose changes (T >>= (λ v. expect m.RBracket >>= (λ end. pure (put_of x key v end)))) (expect m.RBracket >>= (λ end. pure (get_of x key end))) (local_changed x key) (local_got x key)))

  local_indexes : (n : ℕ) (x : Expr) → Local (indexes_from T n x)
  unfolding indexes_from
  local_indexes zero x = local_stop TooDeep
  local_indexes (suc n) x = local_by_next (λ next. if is_mark m.LBracket next then (rise >> (skip >> (index T x >>= (λ y. indexes_from T n y)))) else pure x)
      (λ next. local_choose (is_mark m.LBracket next) (rise >> (skip >> (index T x >>= (λ y. indexes_from T n y)))) (pure x)
      (local_then _ local_rise (λ _. local_then _ local_skip (λ _. local_then _ (local_index x) (λ y. local_indexes n y)))) (local_pure x))

  local_post : Local (post P T)
  unfolding post
  local_post = local_then _ local_atom (λ x. local_indexes max_turns x)

  moves_post : Moves (post P T)
  unfolding post
  moves_post = moves_then (indexes_from T max_turns) moves_atom (λ x. local_indexes max_turns x)

  abbrev prefix_turn : ℕ → Option Kind → Parser Expr
  prefix_turn n next = rise >> (skip >>= (λ start. unary_from P T n >>= (λ x. pure (prefix_of (prefix_operator next) start x))))

  local_unary : (n : ℕ) → Local (unary_from P T n)
  unfolding unary_from
  local_unary zero = local_stop TooDeep
  local_unary (suc n) = local_by_next (λ next. if is_prefix next then prefix_turn n next else post P T)
      (λ next. local_choose (is_prefix next) (prefix_turn n next) (post P T) (local_then _ local_rise (λ _. local_then _ local_skip (λ start. local_then _ (local_unary n) (λ x. local_pure (prefix_of (prefix_operator next) start x))))) local_post)

  moves_prefix_turn : (n : ℕ) (next : Option Kind) → Moves (unary_from P T n) → Moves (prefix_turn n next)
  moves_prefix_turn n next more = moves_after (λ _. skip >>= (λ start. unary_from P T n >>= (λ x. pure (prefix_of (prefix_operator next) start x)))) local_rise (λ _.
      moves_after (λ start. unary_from P T n >>= (λ x. pure (prefix_of (prefix_operator next) start x))) local_skip (λ start.
      moves_then (λ x. pure (prefix_of (prefix_operator next) start x)) more (λ x. local_pure _)))

  moves_unary : (n : ℕ) → Moves (unary_from P T n)
  unfolding unary_from
  moves_unary zero = moves_stop TooDeep
  moves_unary (suc n) = moves_by_next (λ next. if is_prefix next then prefix_turn n next else post P T)
      (λ next. moves_choose (is_prefix next) (prefix_turn n next) (post P T) (moves_prefix_turn n next (moves_unary n)) moves_post)

  local_at_precedence : (p : ℕ) → Local (at_precedence P T p)
  unfolding at_precedence
  local_at_precedence zero = local_unary max_turns
  local_at_precedence (suc p) = local_then _ (local_at_precedence p) (λ x. local_chain_from (at_precedence P T p) (local_at_precedence p) (suc p) max_turns x)

  moves_at_precedence : (p : ℕ) → Moves (at_precedence P T p)
  unfolding at_precedence
  moves_at_precedence zero = moves_unary max_turns
  moves_at_precedence (suc p) = moves_then (chain_from (at_precedence P T p) (suc p) max_turns) (moves_at_precedence p) (λ x. local_chain_from (at_precedence P T p) (local_at_precedence p) (suc p) max_turns x)

  abbrev after_let : Span → Parser Expr
  after_let start = lower >>= (λ name. expect m.Equals >>= (λ _. T >>= (λ x. expect_word w.KwIn >>= (λ _. T >>= (λ y. pure (let_of start name x y))))))

  local_after_let : (start : Span) → Local (after_let start)
  local_after_let start = local_then _ local_lower (λ _. local_then _ (local_expect m.Equals) (λ _. local_then _ inner (λ _. local_then _ (local_word w.KwIn) (λ _. local_then _ inner (λ _. local_pure _)))))

  local_let : Local (let_in T)
  unfolding let_in
  local_let = local_then after_let (local_word w.KwLet) local_after_let

  moves_let : Moves (let_in T)
  unfolding let_in
  moves_let = moves_then after_let (word_moves w.KwLet) local_after_let

  abbrev after_if : Span → Parser Expr
  after_if start = T >>= (λ c. expect_word w.KwThen >>= (λ _. T >>= (λ x. expect_word w.KwElse >>= (λ _. T >>= (λ y. pure (if_of start c x y))))))

  local_after_if : (start : Span) → Local (after_if start)
  local_after_if start = local_then _ inner (λ _. local_then _ (local_word w.KwThen) (λ _. local_then _ inner (λ _. local_then _ (local_word w.KwElse) (λ _. local_then _ inner (λ _. local_pure _)))))

  local_if_else : Local (if_else T)
  unfolding if_else
  local_if_else = local_then after_if (local_word w.KwIf) local_after_if

  moves_if_else : Moves (if_else T)
  unfolding if_else
  moves_if_else = moves_then after_if (word_moves w.KwIf) local_after_if

  local_body : Local (body P T)
  unfolding body
  local_body = local_by_next (body_by P T) by where
    by : (next : Option Kind) → Local (body_by P T next)
    by (Some (k.Word w.KwLet)) = local_let
    by (Some (k.Word w.KwIf)) = local_if_else
    by _ = local_at_precedence loosest

  moves_body : Moves (body P T)
  unfolding body
  moves_body = moves_by_next (body_by P T) by where
    by : (next : Option Kind) → Moves (body_by P T next)
    by (Some (k.Word w.KwLet)) = moves_let
    by (Some (k.Word w.KwIf)) = moves_if_else
    by _ = moves_at_precedence loosest

term_needs : (depth : ℕ) → Needs (term depth)
unfolding term enter
term_needs zero ℓ = refl
term_needs (suc depth) ℓ = refl

local_leaves : (outer : ℕ) (x : Expr) → Local (leave outer >> pure x)
local_leaves outer x = local_then _ (local_leave outer) (λ _. local_pure x)

local_term_zero : Local (term zero)
unfolding term
local_term_zero = local_then _ (local_enter begins_term) (λ _. local_stop TooDeep)

moves_term_zero : Moves (term zero)
unfolding term
moves_term_zero = moves_after (λ _. stop TooDeep) (local_enter begins_term) (λ _. moves_stop TooDeep)

abbrev after_enter : ℕ → ℕ → Parser Expr
after_enter depth outer = body (pattern depth) (term depth) >>= (λ x. leave outer >> pure x)

local_term_suc : (depth : ℕ) → Local (term depth) → Moves (term depth) → Local (term (suc depth))
unfolding term
local_term_suc depth inner moves = local_then (after_enter depth) (local_enter begins_term) (λ outer.
    local_then _ (local_body (pattern depth) (term depth) (local_pattern depth) (pattern_needs depth) (moves_pattern depth) inner (term_needs depth) moves) (λ x. local_leaves outer x))

moves_term_suc : (depth : ℕ) → Local (term depth) → Moves (term depth) → Moves (term (suc depth))
unfolding term
moves_term_suc depth inner moves = moves_after (after_enter depth) (local_enter begins_term) (λ outer.
    moves_then (λ x. leave outer >> pure x) (moves_body (pattern depth) (term depth) (local_pattern depth) (pattern_needs depth) (moves_pattern depth) inner (term_needs depth) moves) (λ x. local_leaves outer x))

mutual
  pub local_term : (depth : ℕ) → Local (term depth)
  local_term zero = local_term_zero
  local_term (suc depth) = local_term_suc depth (local_term depth) (moves_term depth)

  pub moves_term : (depth : ℕ) → Moves (term depth)
  moves_term zero = moves_term_zero
  moves_term (suc depth) = moves_term_suc depth (local_term depth) (moves_term depth)

-- ---- declarations

field_needs : Needs field
unfolding field lower
field_needs ℓ = refl

local_field : Local field
unfolding field
local_field = local_then _ local_lower (λ _. local_then _ (local_expect m.Colon) (λ _. local_then _ local_upper (λ _. local_pure _)))

moves_field : Moves field
unfolding field
moves_field = moves_then (λ x. expect m.Colon >>= (λ _. upper >>= (λ ty. pure (field_of x ty)))) lower_moves (λ _. local_then _ (local_expect m.Colon) (λ _. local_then _ local_upper (λ _. local_pure _)))

local_fields : Local (separated field m.Comma)
local_fields = local_separated field m.Comma local_field field_needs moves_field

local_case_fields : (x : Name) → Local (case_fields x)
unfolding case_fields
local_case_fields x = local_then _ local_fields (λ fs. local_then _ (local_expect m.RParen) (λ end. local_pure _))

abbrev after_case : Name → Parser Constructor
after_case x = eat m.LParen >>= (λ has_fields. if has_fields then case_fields x else pure (case_of x [] x.span))

local_after_case : (x : Name) → Local (after_case x)
local_after_case x = local_then _ (local_eat m.LParen) (λ b. local_choose b (case_fields x) (pure (case_of x [] x.span)) (local_case_fields x) (local_pure _))

local_constructor : Local constructor
unfolding constructor
local_constructor = local_then after_case local_upper local_after_case

moves_constructor : Moves constructor
unfolding constructor
moves_constructor = moves_then after_case upper_moves local_after_case

constructor_needs : Needs constructor
unfolding constructor upper
constructor_needs ℓ = refl

abbrev after_type : Span → Parser DataTree
after_type start = upper >>= (λ x. expect m.Equals >>= (λ _. separated constructor m.Bar >>= (λ cs. expect m.Semi >>= (λ end. pure (datatype_of start x cs end)))))

local_after_type : (start : Span) → Local (after_type start)
local_after_type start = local_then _ local_upper (λ _. local_then _ (local_expect m.Equals) (λ _. local_then _ (local_separated constructor m.Bar local_constructor constructor_needs moves_constructor) (λ _. local_then _ (local_expect m.Semi) (λ _. local_pure _))))

local_datatype : Local datatype
unfolding datatype
local_datatype = local_then after_type (local_word w.KwType) local_after_type

moves_datatype : Moves datatype
unfolding datatype
moves_datatype = moves_then after_type (word_moves w.KwType) local_after_type

abbrev after_map : Span → Parser MapDecl
after_map start = upper >>= (λ x. expect m.LBracket >>= (λ _. upper >>= (λ key. expect m.Arrow >>= (λ _. upper >>= (λ value. expect m.RBracket >>= (λ _. expect_word w.KwDefault >>= (λ _. number >>= (λ default. expect m.Semi >>= (λ end. pure (map_of start x key value default end))))))))))

local_after_map : (start : Span) → Local (after_map start)
local_after_map start = local_then _ local_upper (λ _. local_then _ (local_expect m.LBracket) (λ _. local_then _ local_upper (λ _. local_then _ (local_expect m.Arrow) (λ _. local_then _ local_upper (λ _.
    local_then _ (local_expect m.RBracket) (λ _. local_then _ (local_word w.KwDefault) (λ _. local_then _ local_number (λ _. local_then _ (local_expect m.Semi) (λ _. local_pure _)))))))))

local_map : Local map_type
unfolding map_type
local_map = local_then after_map (local_word w.KwMap) local_after_map

moves_map : Moves map_type
unfolding map_type
moves_map = moves_then after_map (word_moves w.KwMap) local_after_map

local_params : Local params
unfolding params
local_params = local_by_next (λ next. if is_mark m.RParen next then pure [] else separated field m.Comma) (λ next. local_choose (is_mark m.RParen next) (pure []) (separated field m.Comma) (local_pure []) local_fields)

abbrev after_fun : Span → Parser e.Function
after_fun start = lower >>= (λ x. expect m.LParen >>= (λ _. params >>= (λ found. expect m.RParen >>= (λ _. expect m.Arrow >>= (λ _. upper >>= (λ ty. expect m.Equals >>= (λ _. term max_level >>= (λ inner. expect m.Semi >>= (λ end. pure (fun_of start x found ty inner end))))))))))

local_after_fun : (start : Span) → Local (after_fun start)
local_after_fun start = local_then _ local_lower (λ _. local_then _ (local_expect m.LParen) (λ _. local_then _ local_params (λ _. local_then _ (local_expect m.RParen) (λ _. local_then _ (local_expect m.Arrow) (λ _.
    local_then _ local_upper (λ _. local_then _ (local_expect m.Equals) (λ _. local_then _ (local_term max_level) (λ _. local_then _ (local_expect m.Semi) (λ _. local_pure _)))))))))

local_function : Local function
unfolding function
local_function = local_then after_fun (local_word w.KwFun) local_after_fun

moves_function : Moves function
unfolding function
moves_function = moves_then after_fun (word_moves w.KwFun) local_after_fun

-- ---- decode sections

local_part_fixed : Local part_fixed
unfolding part_fixed
local_part_fixed = local_then _ local_literal (λ l. local_pure _)

moves_part_fixed : Moves part_fixed
unfolding part_fixed
moves_part_fixed = moves_then (λ (l : Literal). pure (part_variants.Fixed l.v l.w l.span)) moves_literal (λ l. local_pure _)

abbrev after_part_name : Name → Parser PartDecl
after_part_name x = expect m.Colon >>= (λ _. number >>= (λ v. pure (part_of x v)))

local_after_part_name : (x : Name) → Local (after_part_name x)
local_after_part_name x = local_then _ (local_expect m.Colon) (λ _. local_then _ local_number (λ _. local_pure _))

local_part_named : Local part_named
unfolding part_named
local_part_named = local_then after_part_name local_lower local_after_part_name

moves_part_named : Moves part_named
unfolding part_named
moves_part_named = moves_then after_part_name lower_moves local_after_part_name

local_part : Local part
unfolding part
local_part = local_by_next part_by by where
  by : (next : Option Kind) → Local (part_by next)
  by (Some (k.Number v)) = local_part_fixed
  by (Some (k.Lower text)) = local_part_named
  by _ = local_stop Syntax

moves_part : Moves part
unfolding part
moves_part = moves_by_next part_by by where
  by : (next : Option Kind) → Moves (part_by next)
  by (Some (k.Number v)) = moves_part_fixed
  by (Some (k.Lower text)) = moves_part_named
  by _ = moves_stop Syntax

part_needs : Needs part
unfolding part
part_needs ℓ = refl

local_operator : Local guard_op
unfolding guard_op
local_operator = local_by_next guard_op_by by where
  by : (next : Option Kind) → Local (guard_op_by next)
  by (Some (k.Mark m.EqEq)) = local_then (λ _. pure op_variants.Eq) local_skip (λ _. local_pure op_variants.Eq)
  by (Some (k.Mark m.NotEq)) = local_then (λ _. pure op_variants.Ne) local_skip (λ _. local_pure op_variants.Ne)
  by (Some (k.Mark m.Less)) = local_then (λ _. pure op_variants.Less) local_skip (λ _. local_pure op_variants.Less)
  by _ = local_stop Syntax

local_other : Local other
unfolding other
local_other = local_by_next other_by by where
  by : (next : Option Kind) → Local (other_by next)
  by (Some (k.Lower text)) = local_then (λ x. pure (other_variants.Named x)) local_lower (λ x. local_pure (other_variants.Named x))
  by (Some (k.Number v)) = local_then (λ x. pure (other_variants.Number x)) local_number (λ x. local_pure (other_variants.Number x))
  by _ = local_stop Syntax

abbrev after_guard_field : Name → Parser GuardDecl
after_guard_field x = guard_op >>= (λ op. other >>= (λ found. pure (guard_of x op found)))

local_after_guard_field : (x : Name) → Local (after_guard_field x)
local_after_guard_field x = local_then _ local_operator (λ _. local_then _ local_other (λ _. local_pure _))

local_guard : Local guard
unfolding guard
local_guard = local_then after_guard_field local_lower local_after_guard_field

moves_guard : Moves guard
unfolding guard
moves_guard = moves_then after_guard_field lower_moves local_after_guard_field

guard_needs : Needs guard
unfolding guard lower
guard_needs ℓ = refl

local_guards : Local guards
unfolding guards
local_guards = local_by_next (λ next. if is_word w.KwWhen next then (expect_word w.KwWhen >> separated guard m.Comma) else pure [])
    (λ next. local_choose (is_word w.KwWhen next) (expect_word w.KwWhen >> separated guard m.Comma) (pure []) (local_then _ (local_word w.KwWhen) (λ _. local_separated guard m.Comma local_guard guard_needs moves_guard)) (local_pure []))

local_arg_word : Local arg_word
unfolding arg_word
local_arg_word = local_then _ local_literal (λ _. local_pure _)

moves_arg_word : Moves arg_word
unfolding arg_word
moves_arg_word = moves_then (λ (l : Literal). pure (arg_variants.Word l.v l.w l.span)) moves_literal (λ _. local_pure _)

local_arg : Local arg
unfolding arg
local_arg = local_by_next arg_by by where
  by : (next : Option Kind) → Local (arg_by next)
  by (Some (k.Lower text)) = local_then (λ x. pure (arg_variants.Named x)) local_lower (λ x. local_pure (arg_variants.Named x))
  by (Some (k.Number v)) = local_arg_word
  by _ = local_stop Syntax

moves_arg : Moves arg
unfolding arg
moves_arg = moves_by_next arg_by by where
  by : (next : Option Kind) → Moves (arg_by next)
  by (Some (k.Lower text)) = moves_then (λ x. pure (arg_variants.Named x)) lower_moves (λ x. local_pure (arg_variants.Named x))
  by (Some (k.Number v)) = moves_arg_word
  by _ = moves_stop Syntax

arg_needs : Needs arg
unfolding arg
arg_needs ℓ = refl

local_arg_list : Local arg_list
unfolding arg_list
local_arg_list = local_then _ (local_separated arg m.Comma local_arg arg_needs moves_arg) (λ _. local_then _ (local_expect m.RParen) (λ _. local_pure _))

local_args : Local args
unfolding args
local_args = local_then _ (local_eat m.LParen) (λ b. local_choose b arg_list (pure []) local_arg_list (local_pure []))

abbrev after_row : Span → Parser RowTree
after_row start = many part m.RBracket >>= (λ parts. expect m.RBracket >>= (λ _. guards >>= (λ tests. expect m.FatArrow >>= (λ _. upper >>= (λ x. args >>= (λ found. expect m.Semi >>= (λ end. pure (row_of start parts tests x found end))))))))

local_after_row : (start : Span) → Local (after_row start)
local_after_row start = local_then _ (local_many part m.RBracket local_part part_needs moves_part) (λ _. local_then _ (local_expect m.RBracket) (λ _. local_then _ local_guards (λ _. local_then _ (local_expect m.FatArrow) (λ _.
    local_then _ local_upper (λ _. local_then _ local_args (λ _. local_then _ (local_expect m.Semi) (λ _. local_pure _)))))))

local_row : Local row
unfolding row
local_row = local_then after_row (local_expect m.LBracket) local_after_row

moves_row : Moves row
unfolding row
moves_row = moves_then after_row (mark_moves m.LBracket) local_after_row

row_needs : Needs row
unfolding row expect
row_needs ℓ = refl

abbrev after_decode : Span → Parser DecodeSection
after_decode start = expect m.LBrace >>= (λ _. until row m.RBrace >>= (λ rows. expect m.RBrace >>= (λ end. pure (decode_of start rows end))))

local_after_decode : (start : Span) → Local (after_decode start)
local_after_decode start = local_then _ (local_expect m.LBrace) (λ _. local_then _ (local_until row m.RBrace local_row row_needs moves_row) (λ _. local_then _ (local_expect m.RBrace) (λ _. local_pure _)))

local_decode : Local decode
unfolding decode
local_decode = local_then after_decode (local_word w.KwDecode) local_after_decode

moves_decode : Moves decode
unfolding decode
moves_decode = moves_then after_decode (word_moves w.KwDecode) local_after_decode

-- ---- whole specifications

local_item : Local item
unfolding item
local_item = local_by_next item_by by where
  by : (next : Option Kind) → Local (item_by next)
  by (Some (k.Word w.KwType)) = local_then (λ x. pure (e.datatype x)) local_datatype (λ x. local_pure (e.datatype x))
  by (Some (k.Word w.KwMap)) = local_then (λ x. pure (e.map_type x)) local_map (λ x. local_pure (e.map_type x))
  by (Some (k.Word w.KwFun)) = local_then (λ x. pure (e.Item.function x)) local_function (λ x. local_pure (e.Item.function x))
  by (Some (k.Word w.KwDecode)) = local_then (λ x. pure (e.decode x)) local_decode (λ x. local_pure (e.decode x))
  by _ = local_stop Syntax

pub item_moves : Moves item
unfolding item
item_moves = moves_by_next item_by by where
  by : (next : Option Kind) → Moves (item_by next)
  by (Some (k.Word w.KwType)) = moves_then (λ x. pure (e.datatype x)) moves_datatype (λ x. local_pure (e.datatype x))
  by (Some (k.Word w.KwMap)) = moves_then (λ x. pure (e.map_type x)) moves_map (λ x. local_pure (e.map_type x))
  by (Some (k.Word w.KwFun)) = moves_then (λ x. pure (e.Item.function x)) moves_function (λ x. local_pure (e.Item.function x))
  by (Some (k.Word w.KwDecode)) = moves_then (λ x. pure (e.decode x)) moves_decode (λ x. local_pure (e.decode x))
  by _ = moves_stop Syntax

local_items_from : (n : ℕ) (found : List ItemTree) → Local (items_from n found)
unfolding items_from
local_items_from zero found = local_pure found
local_items_from (suc n) found = local_by_next (items_by (items_from n) found) (λ next. by next (λ more. local_items_from n more)) where
  by : (next : Option Kind) → ((more : List ItemTree) → Local (items_from n more)) → Local (items_by (items_from n) found next)
  by None again = local_pure found
  by (Some kind) again = local_then (λ x. items_from n (found ++ x ∷ [])) local_item (λ x. again (found ++ x ∷ []))

enough_items : (n ℓ : ℕ) (s : List Token) (found : List ItemTree) → length s ≤ n → items_from n found (at ℓ s) ≡ items_from (suc n) found (at ℓ s)
unfolding items_from
enough_items zero ℓ s found le = let none : s ≡ [] = no_more s le in rw none refl
enough_items (suc n) ℓ [] found le = refl
enough_items (suc n) ℓ (t ∷ ts) found le =
    same_then (item (at ℓ (t ∷ ts))) (λ x. items_from n (found ++ x ∷ [])) (λ x. items_from (suc n) (found ++ x ∷ []))
    (λ x new e. let less = item_moves.moves ℓ (t ∷ ts) x new e in enough_items n new.level new.rest (found ++ x ∷ []) (omega arith))

pub local_items : Local items
unfolding items
local_items = local_turns (λ n. items_from n []) (λ n ℓ s le. enough_items n ℓ s [] le) (λ n. local_items_from n [])
