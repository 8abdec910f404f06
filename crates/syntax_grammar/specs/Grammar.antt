-- The grammar: which tree a list of tokens has, and at which level each token stands. One case a production.
use Rattle.std.specs.Prelude.{◌≡◌, ℕ, zero, suc, true, false, List, [], ◌∷◌, ◌++◌, Some}
use Rattle.syntax_lexer.specs.declared.token.Token.{Token}
use Rattle.syntax_lexer.specs.declared.token.Kind.{Kind}
use Rattle.syntax_lexer.specs.declared.token.Kind.TheVariants as k
use Rattle.syntax_lexer.specs.declared.token.Keyword.{Keyword}
use Rattle.syntax_lexer.specs.declared.token.Mark.{Mark}
use Rattle.syntax_lexer.specs.declared.token.Mark.TheVariants as m
use Rattle.syntax_lexer.specs.declared.token.Keyword.TheVariants as w
use Rattle.syntax_grammar.specs.declared.tree.Span.{Span}
use Rattle.syntax_grammar.specs.declared.tree.Name.{Name}
use Rattle.syntax_grammar.specs.declared.tree.Num.{Num}
use Rattle.syntax_grammar.specs.declared.tree.FieldDecl.{FieldDecl}
use Rattle.syntax_grammar.specs.declared.tree.MapDecl.{MapDecl}
use Rattle.syntax_grammar.specs.declared.tree.PartDecl.{PartDecl}
use Rattle.syntax_grammar.specs.declared.tree.PartDecl.TheVariants as part_variants
use Rattle.syntax_grammar.specs.declared.tree.GuardDecl.{GuardDecl}
use Rattle.syntax_grammar.specs.declared.tree.GuardOp.{GuardOp}
use Rattle.syntax_grammar.specs.declared.tree.GuardOp.TheVariants as op_variants
use Rattle.syntax_grammar.specs.declared.tree.GuardArg.TheVariants as other_variants
use Rattle.syntax_grammar.specs.declared.tree.ArgDecl.{ArgDecl}
use Rattle.syntax_grammar.specs.declared.tree.ArgDecl.TheVariants as arg_variants
use Rattle.syntax_grammar.specs.declared.rules.Literal.{Literal}
use Rattle.syntax_grammar.specs.Tree.{Term as Expr, Pattern, Arm as ArmTree, Constructor, Datatype as DataTree, Row as RowTree, DecodeSection, Item as ItemTree}
use Rattle.syntax_grammar.specs.Tree as e
use Rattle.syntax_grammar.specs.Nodes.{literal_of, pattern_make_of, let_of, if_of, binary_of, prefix_of, get_of, put_of, call_of, make_of, operation_of, cast_of, arm_of, match_of, paren_of, field_of, case_of, datatype_of, map_of, fun_of, part_of, guard_of, row_of, decode_of}
use Rattle.syntax_grammar.specs.Operators.{binds, groups, operator, prefix_operator, loosest}
use Rattle.syntax_grammar.specs.Tokens.{is_operation, is_cast, is_prefix}

-- a token and its level: how many terms and patterns contain it, and how many operators and marks `[` stand directly in one of these at or before it
abbrev pub Leveled : Type 0
Leveled = Token × ℕ

abbrev pub tokens_of : List Leveled → List Token
tokens_of [] = []
tokens_of (t ∷ ts) = t.0 ∷ tokens_of ts

abbrev pub token : Kind → Span → Token
token kind s = record { kind = kind; from = s.from; to = s.to }

abbrev pub mark : Mark → Span → ℕ → Leveled
mark x s ℓ = (token (k.Mark x) s, ℓ)

abbrev pub keyword : Keyword → Span → ℕ → Leveled
keyword x s ℓ = (token (k.Word x) s, ℓ)

abbrev pub lower : List ℕ → Span → ℕ → Leveled
lower text s ℓ = (token (k.Lower text) s, ℓ)

abbrev pub upper : List ℕ → Span → ℕ → Leveled
upper text s ℓ = (token (k.Upper text) s, ℓ)

abbrev pub number : ℕ → Span → ℕ → Leveled
number v s ℓ = (token (k.Number v) s, ℓ)

abbrev pub name : List ℕ → Span → Name
name text s = record { text = text; span = s }

abbrev pub num : ℕ → Span → Num
num v s = record { v = v; span = s }

-- `v:w`, at a level
pub data IsLiteral : ℕ → List Leveled → Literal → Type 0 where
  literal : {ℓ : ℕ} (v w : ℕ) (s₁ s₂ s₃ : Span) → IsLiteral ℓ (number v s₁ ℓ ∷ mark m.Colon s₂ ℓ ∷ number w s₃ ℓ ∷ []) (literal_of (num v s₁) (num w s₃))

-- ---- patterns

-- the tokens are a pattern that stands in this many levels, and has this tree
mutual
  pub data Pat : ℕ → List Leveled → Pattern → Type 0 where
    any : {ℓ : ℕ} (s : Span) → Pat ℓ (mark m.Underscore s (suc ℓ) ∷ []) (e.any s)
    bind : {ℓ : ℕ} (text : List ℕ) (s : Span) → Pat ℓ (lower text s (suc ℓ) ∷ []) (e.bind (name text s))
    word : {ℓ : ℕ} {us : List Leveled} {l : Literal} → IsLiteral (suc ℓ) us l → Pat ℓ us (e.Pattern.word l.v l.w l.span)
    true_flag : {ℓ : ℕ} (s : Span) → Pat ℓ (keyword w.KwTrue s (suc ℓ) ∷ []) (e.Pattern.flag true s)
    false_flag : {ℓ : ℕ} (s : Span) → Pat ℓ (keyword w.KwFalse s (suc ℓ) ∷ []) (e.Pattern.flag false s)
    alone : {ℓ : ℕ} (text : List ℕ) (s : Span) → Pat ℓ (upper text s (suc ℓ) ∷ []) (e.Pattern.make (name text s) e.Patterns.none s)
    make : {ℓ : ℕ} (text : List ℕ) (s₁ s₂ s₃ : Span) {us : List Leveled} {ps : List Pattern} → Pats (suc ℓ) us ps
        → Pat ℓ (upper text s₁ (suc ℓ) ∷ mark m.LParen s₂ (suc ℓ) ∷ (us ++ mark m.RParen s₃ (suc ℓ) ∷ [])) (pattern_make_of (name text s₁) ps s₃)

  -- one or more patterns with commas between
  pub data Pats : ℕ → List Leveled → List Pattern → Type 0 where
    last : {ℓ : ℕ} {us : List Leveled} {p : Pattern} → Pat ℓ us p → Pats ℓ us (p ∷ [])
    next : {ℓ : ℕ} (s : Span) {us vs : List Leveled} {p : Pattern} {ps : List Pattern} → Pat ℓ us p → Pats ℓ vs ps → Pats ℓ (us ++ mark m.Comma s ℓ ∷ vs) (p ∷ ps)

-- ---- terms

-- the tokens are a term that stands in this many levels, and has this tree
mutual
  pub data Term : ℕ → List Leveled → Expr → Type 0 where
    let_in : {ℓ : ℕ} (s₁ s₂ s₃ s₄ : Span) (text : List ℕ) {a b : List Leveled} {x y : Expr} → Term (suc ℓ) a x → Term (suc ℓ) b y
        → Term ℓ (keyword w.KwLet s₁ (suc ℓ) ∷ lower text s₂ (suc ℓ) ∷ mark m.Equals s₃ (suc ℓ) ∷ (a ++ keyword w.KwIn s₄ (suc ℓ) ∷ b)) (let_of s₁ (name text s₂) x y)
    if_else : {ℓ : ℕ} (s₁ s₂ s₃ : Span) {a b d : List Leveled} {c x y : Expr} → Term (suc ℓ) a c → Term (suc ℓ) b x → Term (suc ℓ) d y
        → Term ℓ (keyword w.KwIf s₁ (suc ℓ) ∷ (a ++ keyword w.KwThen s₂ (suc ℓ) ∷ (b ++ keyword w.KwElse s₃ (suc ℓ) ∷ d))) (if_of s₁ c x y)
    operators : {ℓ top : ℕ} {a : List Leveled} {x : Expr} → AtPrecedence loosest (suc ℓ) top a x → Term ℓ a x

  -- operators up to a precedence, from a level to a level: each operator is one level more; those of one precedence group to the left, or stand alone
  pub data AtPrecedence : ℕ → ℕ → ℕ → List Leveled → Expr → Type 0 where
    unary : {ℓ top : ℕ} {a : List Leveled} {x : Expr} → Unary ℓ top a x → AtPrecedence zero ℓ top a x
    one : {p ℓ top : ℕ} {a : List Leveled} {x : Expr} → AtPrecedence p ℓ top a x → AtPrecedence (suc p) ℓ top a x
    more : {p ℓ mid top : ℕ} (kind : Kind) (s : Span) {a b : List Leveled} {x y : Expr}
        → AtPrecedence (suc p) ℓ mid a x → binds (Some kind) ≡ suc p → groups (suc p) ≡ true → AtPrecedence p (suc mid) top b y
        → AtPrecedence (suc p) ℓ top (a ++ (token kind s, suc mid) ∷ b) (binary_of (operator (Some kind)) x y)
    once : {p ℓ mid top : ℕ} (kind : Kind) (s : Span) {a b : List Leveled} {x y : Expr}
        → AtPrecedence p ℓ mid a x → binds (Some kind) ≡ suc p → groups (suc p) ≡ false → AtPrecedence p (suc mid) top b y
        → AtPrecedence (suc p) ℓ top (a ++ (token kind s, suc mid) ∷ b) (binary_of (operator (Some kind)) x y)

  -- prefix operators, each one level more
  pub data Unary : ℕ → ℕ → List Leveled → Expr → Type 0 where
    post : {ℓ top : ℕ} {a : List Leveled} {x : Expr} → Post ℓ top a x → Unary ℓ top a x
    prefix : {ℓ top : ℕ} (kind : Kind) (s : Span) {a : List Leveled} {x : Expr} → is_prefix (Some kind) ≡ true → Unary (suc ℓ) top a x
        → Unary ℓ top ((token kind s, suc ℓ) ∷ a) (prefix_of (prefix_operator (Some kind)) s x)

  -- keys of maps, each `[` one level more
  pub data Post : ℕ → ℕ → List Leveled → Expr → Type 0 where
    atom : {ℓ : ℕ} {a : List Leveled} {x : Expr} → Atom ℓ a x → Post ℓ ℓ a x
    get : {ℓ mid : ℕ} (s₁ s₂ : Span) {a b : List Leveled} {x key : Expr} → Post ℓ mid a x → Term (suc mid) b key
        → Post ℓ (suc mid) (a ++ mark m.LBracket s₁ (suc mid) ∷ (b ++ mark m.RBracket s₂ (suc mid) ∷ [])) (get_of x key s₂)
    put : {ℓ mid : ℕ} (s₁ s₂ s₃ : Span) {a b d : List Leveled} {x key v : Expr} → Post ℓ mid a x → Term (suc mid) b key → Term (suc mid) d v
        → Post ℓ (suc mid) (a ++ mark m.LBracket s₁ (suc mid) ∷ (b ++ mark m.Assign s₂ (suc mid) ∷ (d ++ mark m.RBracket s₃ (suc mid) ∷ []))) (put_of x key v s₃)

  pub data Atom : ℕ → List Leveled → Expr → Type 0 where
    word : {ℓ : ℕ} {a : List Leveled} {l : Literal} → IsLiteral ℓ a l → Atom ℓ a (e.Term.word l.v l.w l.span)
    true_flag : {ℓ : ℕ} (s : Span) → Atom ℓ (keyword w.KwTrue s ℓ ∷ []) (e.Term.flag true s)
    false_flag : {ℓ : ℕ} (s : Span) → Atom ℓ (keyword w.KwFalse s ℓ ∷ []) (e.Term.flag false s)
    var : {ℓ : ℕ} (text : List ℕ) (s : Span) → Atom ℓ (lower text s ℓ ∷ []) (e.var (name text s))
    call : {ℓ : ℕ} (text : List ℕ) (s₁ s₂ s₃ : Span) {a : List Leveled} {xs : List Expr} → Arguments ℓ a xs
        → Atom ℓ (lower text s₁ ℓ ∷ mark m.LParen s₂ ℓ ∷ (a ++ mark m.RParen s₃ ℓ ∷ [])) (call_of (name text s₁) xs s₃)
    alone : {ℓ : ℕ} (text : List ℕ) (s : Span) → Atom ℓ (upper text s ℓ ∷ []) (e.Term.make (name text s) e.Terms.none s)
    make : {ℓ : ℕ} (text : List ℕ) (s₁ s₂ s₃ : Span) {a : List Leveled} {xs : List Expr} → Terms ℓ a xs
        → Atom ℓ (upper text s₁ ℓ ∷ mark m.LParen s₂ ℓ ∷ (a ++ mark m.RParen s₃ ℓ ∷ [])) (make_of (name text s₁) xs s₃)
    operation : {ℓ : ℕ} (op : Keyword) (s₁ s₂ s₃ s₄ : Span) {a b : List Leveled} {x y : Expr} → is_operation op ≡ true → Term ℓ a x → Term ℓ b y
        → Atom ℓ (keyword op s₁ ℓ ∷ mark m.LParen s₂ ℓ ∷ (a ++ mark m.Comma s₃ ℓ ∷ (b ++ mark m.RParen s₄ ℓ ∷ []))) (operation_of op s₁ x y s₄)
    cast : {ℓ : ℕ} (op : Keyword) (v : ℕ) (s₁ s₂ s₃ s₄ s₅ : Span) {a : List Leveled} {x : Expr} → is_cast op ≡ true → Term ℓ a x
        → Atom ℓ (keyword op s₁ ℓ ∷ mark m.LParen s₂ ℓ ∷ (a ++ mark m.Comma s₃ ℓ ∷ number v s₄ ℓ ∷ mark m.RParen s₅ ℓ ∷ [])) (cast_of op s₁ x (num v s₄) s₅)
    match_on : {ℓ : ℕ} (s₁ s₂ s₃ s₄ : Span) {a b : List Leveled} {x : Expr} {arms : List ArmTree} → Term ℓ a x → Arms ℓ b arms
        → Atom ℓ (keyword w.KwMatch s₁ ℓ ∷ (a ++ keyword w.KwWith s₂ ℓ ∷ mark m.LBrace s₃ ℓ ∷ (b ++ mark m.RBrace s₄ ℓ ∷ []))) (match_of s₁ x arms s₄)
    paren : {ℓ : ℕ} (s₁ s₂ : Span) {a : List Leveled} {x : Expr} → Term ℓ a x → Atom ℓ (mark m.LParen s₁ ℓ ∷ (a ++ mark m.RParen s₂ ℓ ∷ [])) (paren_of s₁ x s₂)

  pub data Arguments : ℕ → List Leveled → List Expr → Type 0 where
    none : {ℓ : ℕ} → Arguments ℓ [] []
    some : {ℓ : ℕ} {a : List Leveled} {xs : List Expr} → Terms ℓ a xs → Arguments ℓ a xs

  -- one or more terms with commas between
  pub data Terms : ℕ → List Leveled → List Expr → Type 0 where
    last : {ℓ : ℕ} {a : List Leveled} {x : Expr} → Term ℓ a x → Terms ℓ a (x ∷ [])
    next : {ℓ : ℕ} (s : Span) {a b : List Leveled} {x : Expr} {xs : List Expr} → Term ℓ a x → Terms ℓ b xs → Terms ℓ (a ++ mark m.Comma s ℓ ∷ b) (x ∷ xs)

  pub data Arm : ℕ → List Leveled → ArmTree → Type 0 where
    arm : {ℓ : ℕ} (s₁ s₂ : Span) {a b : List Leveled} {p : Pattern} {x : Expr} → Pat ℓ a p → Term ℓ b x
        → Arm ℓ (a ++ mark m.FatArrow s₁ ℓ ∷ (b ++ mark m.Semi s₂ ℓ ∷ [])) (arm_of p x s₂)

  -- one or more arms
  pub data Arms : ℕ → List Leveled → List ArmTree → Type 0 where
    last_arm : {ℓ : ℕ} {a : List Leveled} {x : ArmTree} → Arm ℓ a x → Arms ℓ a (x ∷ [])
    next_arm : {ℓ : ℕ} {a b : List Leveled} {x : ArmTree} {xs : List ArmTree} → Arm ℓ a x → Arms ℓ b xs → Arms ℓ (a ++ b) (x ∷ xs)

-- ---- lists of what stands outside of terms

-- one or more, with marks between
pub data Separated {A : Type 0} (P : List Leveled → A → Type 0) (between : Mark) : List Leveled → List A → Type 0 where
  last : {us : List Leveled} {x : A} → P us x → Separated P between us (x ∷ [])
  next : (s : Span) {us vs : List Leveled} {x : A} {xs : List A} → P us x → Separated P between vs xs → Separated P between (us ++ mark between s 0 ∷ vs) (x ∷ xs)

-- none or more
pub data Several {A : Type 0} (P : List Leveled → A → Type 0) : List Leveled → List A → Type 0 where
  none : Several P [] []
  next : {us vs : List Leveled} {x : A} {xs : List A} → P us x → Several P vs xs → Several P (us ++ vs) (x ∷ xs)

-- ---- declarations

pub data Field : List Leveled → FieldDecl → Type 0 where
  field : (text ty : List ℕ) (s₁ s₂ s₃ : Span) → Field (lower text s₁ 0 ∷ mark m.Colon s₂ 0 ∷ upper ty s₃ 0 ∷ []) (field_of (name text s₁) (name ty s₃))

abbrev pub Fields : List Leveled → List FieldDecl → Type 0
Fields = Separated Field m.Comma

pub data Case : List Leveled → Constructor → Type 0 where
  alone : (text : List ℕ) (s : Span) → Case (upper text s 0 ∷ []) (case_of (name text s) [] s)
  with_fields : (text : List ℕ) (s₁ s₂ s₃ : Span) {us : List Leveled} {fs : List FieldDecl} → Fields us fs
      → Case (upper text s₁ 0 ∷ mark m.LParen s₂ 0 ∷ (us ++ mark m.RParen s₃ 0 ∷ [])) (case_of (name text s₁) fs s₃)

pub data Datatype : List Leveled → DataTree → Type 0 where
  datatype : (text : List ℕ) (s₁ s₂ s₃ s₄ : Span) {us : List Leveled} {cs : List Constructor} → Separated Case m.Bar us cs
      → Datatype (keyword w.KwType s₁ 0 ∷ upper text s₂ 0 ∷ mark m.Equals s₃ 0 ∷ (us ++ mark m.Semi s₄ 0 ∷ [])) (datatype_of s₁ (name text s₂) cs s₄)

pub data MapType : List Leveled → MapDecl → Type 0 where
  map_type : (text key value : List ℕ) (default : ℕ) (s₁ s₂ s₃ s₄ s₅ s₆ s₇ s₈ s₉ s₁₀ : Span)
      → MapType (keyword w.KwMap s₁ 0 ∷ upper text s₂ 0 ∷ mark m.LBracket s₃ 0 ∷ upper key s₄ 0 ∷ mark m.Arrow s₅ 0 ∷ upper value s₆ 0 ∷ mark m.RBracket s₇ 0
      ∷ keyword w.KwDefault s₈ 0 ∷ number default s₉ 0 ∷ mark m.Semi s₁₀ 0 ∷ []) (map_of s₁ (name text s₂) (name key s₄) (name value s₆) (num default s₉) s₁₀)

pub data Params : List Leveled → List FieldDecl → Type 0 where
  none : Params [] []
  some : {us : List Leveled} {fs : List FieldDecl} → Fields us fs → Params us fs

pub data Function : List Leveled → e.Function → Type 0 where
  function : (text ty : List ℕ) (s₁ s₂ s₃ s₄ s₅ s₆ s₇ s₈ : Span) {us vs : List Leveled} {fs : List FieldDecl} {x : Expr} → Params us fs → Term 0 vs x
      → Function (keyword w.KwFun s₁ 0 ∷ lower text s₂ 0 ∷ mark m.LParen s₃ 0 ∷ (us
      ++ mark m.RParen s₄ 0 ∷ mark m.Arrow s₅ 0 ∷ upper ty s₆ 0 ∷ mark m.Equals s₇ 0 ∷ (vs ++ mark m.Semi s₈ 0 ∷ []))) (fun_of s₁ (name text s₂) fs (name ty s₆) x s₈)

-- ---- decode sections

pub data Part : List Leveled → PartDecl → Type 0 where
  fixed : {us : List Leveled} {l : Literal} → IsLiteral 0 us l → Part us (part_variants.Fixed l.v l.w l.span)
  named : (text : List ℕ) (w : ℕ) (s₁ s₂ s₃ : Span) → Part (lower text s₁ 0 ∷ mark m.Colon s₂ 0 ∷ number w s₃ 0 ∷ []) (part_of (name text s₁) (num w s₃))

-- the comparisons of guards
pub data Compares : Mark → GuardOp → Type 0 where
  equal : Compares m.EqEq op_variants.Eq
  other : Compares m.NotEq op_variants.Ne
  less : Compares m.Less op_variants.Less

pub data Guard : List Leveled → GuardDecl → Type 0 where
  with_field : (text other : List ℕ) (x : Mark) (op : GuardOp) (s₁ s₂ s₃ : Span) → Compares x op
      → Guard (lower text s₁ 0 ∷ mark x s₂ 0 ∷ lower other s₃ 0 ∷ []) (guard_of (name text s₁) op (other_variants.Named (name other s₃)))
  with_number : (text : List ℕ) (v : ℕ) (x : Mark) (op : GuardOp) (s₁ s₂ s₃ : Span) → Compares x op
      → Guard (lower text s₁ 0 ∷ mark x s₂ 0 ∷ number v s₃ 0 ∷ []) (guard_of (name text s₁) op (other_variants.Number (num v s₃)))

pub data Guards : List Leveled → List GuardDecl → Type 0 where
  none : Guards [] []
  some : (s : Span) {us : List Leveled} {gs : List GuardDecl} → Separated Guard m.Comma us gs → Guards (keyword w.KwWhen s 0 ∷ us) gs

pub data Arg : List Leveled → ArgDecl → Type 0 where
  named : (text : List ℕ) (s : Span) → Arg (lower text s 0 ∷ []) (arg_variants.Named (name text s))
  word : {us : List Leveled} {l : Literal} → IsLiteral 0 us l → Arg us (arg_variants.Word l.v l.w l.span)

pub data Args : List Leveled → List ArgDecl → Type 0 where
  none : Args [] []
  some : (s₁ s₂ : Span) {us : List Leveled} {xs : List ArgDecl} → Separated Arg m.Comma us xs → Args (mark m.LParen s₁ 0 ∷ (us ++ mark m.RParen s₂ 0 ∷ [])) xs

pub data Row : List Leveled → RowTree → Type 0 where
  row : (text : List ℕ) (s₁ s₂ s₃ s₄ s₅ : Span) {us₁ us₂ vs xs : List Leveled} {p : PartDecl} {ps : List PartDecl} {gs : List GuardDecl} {args : List ArgDecl}
      → Part us₁ p → Several Part us₂ ps → Guards vs gs → Args xs args
      → Row (mark m.LBracket s₁ 0 ∷ (us₁ ++ (us₂ ++ mark m.RBracket s₂ 0 ∷ (vs ++ mark m.FatArrow s₃ 0 ∷ upper text s₄ 0 ∷ (xs ++ mark m.Semi s₅ 0 ∷ [])))))
      (row_of s₁ (p ∷ ps) gs (name text s₄) args s₅)

pub data Decode : List Leveled → DecodeSection → Type 0 where
  decode : (s₁ s₂ s₃ : Span) {us : List Leveled} {rows : List RowTree} → Several Row us rows
      → Decode (keyword w.KwDecode s₁ 0 ∷ mark m.LBrace s₂ 0 ∷ (us ++ mark m.RBrace s₃ 0 ∷ [])) (decode_of s₁ rows s₃)

-- ---- whole specifications

pub data Item : List Leveled → ItemTree → Type 0 where
  datatype : {us : List Leveled} {x : DataTree} → Datatype us x → Item us (e.datatype x)
  map_type : {us : List Leveled} {x : MapDecl} → MapType us x → Item us (e.map_type x)
  function : {us : List Leveled} {x : e.Function} → Function us x → Item us (e.Item.function x)
  decode : {us : List Leveled} {x : DecodeSection} → Decode us x → Item us (e.decode x)

abbrev pub Items : List Leveled → List ItemTree → Type 0
Items = Several Item
