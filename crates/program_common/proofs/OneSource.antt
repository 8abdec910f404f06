-- A source gives one thing, and so does a name.
use Rattle.std.proofs.Common.{◌≡◌, inl, inr, ℕ, List, Option, Some, None, length, refl, sym, ◌∙◌, ap, subst, arith}
use Rattle.std.specs.Prelude.{Result, Ok, Err}
use Rattle.std.proofs.lemmas.Bool.{cases_lt}
use Rattle.syntax_lexer.specs.declared.token.Token.{Token}
use Rattle.syntax_lexer.specs.declared.lex_error.LexError.{LexError}
use Rattle.syntax_lexer.specs.Source as lexer
use Rattle.syntax_lexer.specs.Source.{IsLexedFrom}
use Rattle.syntax_lexer.proofs.Total as lexer_total
use Rattle.syntax_lexer.proofs.Unique.{list_or_fault, one_fault, one_list}
use Rattle.syntax_parser.specs.declared.ParseError.{ParseError}
use Rattle.syntax_parser.specs.declared.ParseError.TheVariants.{Syntax, TooDeep, NoMemory}
use Rattle.syntax_parser.specs.Exact.{HasTree}
use Rattle.syntax_parser.specs.Tree.{Tree}
use Rattle.syntax_parser.proofs.Total as parser_total
use Rattle.syntax_parser.proofs.Unique.{one_deep, one_syntax, one_tree, syntax_or_deep, tree_or_deep, tree_or_syntax}
use Rattle.spec_ir.specs.declared.spec.SpecUse.{SpecUse}
use Rattle.spec_ir.specs.declared.spec_error.SpecError.{SpecError}
use Rattle.spec_ir.specs.Specification.{Spec}
use Rattle.spec_checker.specs.Check.{IsFaultless, IsFirstFault, IsSpecOf}
use Rattle.spec_checker.specs.Laws.{FaultsAreSettled}
use Rattle.spec_checker.proofs.Settled.{faults_are_settled}
use Rattle.semantics_accepted.proofs.Decided.{trees_are_decided}
use Rattle.semantics_accepted.proofs.One.{specifications_are_one}
use Rattle.semantics_accepted.proofs.There.{specifications_are_there}
use Rattle.support_command_line.specs.SpecNames.{SpecName, input, power_pc, risc_v}
use Rattle.program_common.specs.declared.spec_fault.SpecFault.{SpecFault}
use Rattle.program_common.specs.declared.spec_fault.SpecFault.TheVariants.{Lexing, Parsing, Checking}
use Rattle.program_common.specs.Outcome.{Refusal, bad_words, cannot_read, too_long, spec_refused, code_refused, entry_refused, calls_spent, undecodable_at, too_many_targets, table_refused, claims_refused, rejected}
use Rattle.program_common.specs.Reading.{Held, Holds, whole, long, none}
use Rattle.program_common.specs.Shipped.{power_pc_text, risc_v_text}
use Rattle.program_common.specs.Sources.{source_cap, IsSpecification, SourceOf, Specifies}
use Rattle.program_common.specs.SpecFaults.{HasFault, IsParseFault, IsParsedFrom, checking, lexing, parsing}
use Rattle.program_common.proofs.Steps.{IsOne, IsTotal}

settled : FaultsAreSettled
settled = faults_are_settled

-- ---- tokens have one tree or one fault

module _ (tokens : List Token) (end : ℕ) where
  tree_or_fault : (tree : Tree) (error : ParseError) → HasTree tokens end tree → IsParseFault tokens end error → ⊥
  tree_or_fault tree (Syntax at) has wrong = tree_or_syntax tokens end tree at has wrong
  tree_or_fault tree (TooDeep at) has deep = tree_or_deep tokens end tree at has deep
  tree_or_fault tree NoMemory has impossible = impossible

  one_parse_fault : (error other : ParseError) → IsParseFault tokens end error → IsParseFault tokens end other → error ≡ other
  one_parse_fault (Syntax at) (Syntax place) wrong too = ap (λ (n : ℕ). Syntax n) (one_syntax tokens end at place wrong too)
  one_parse_fault (Syntax at) (TooDeep place) wrong deep = absurd (syntax_or_deep tokens end at place wrong deep)
  one_parse_fault (Syntax at) NoMemory wrong impossible = absurd impossible
  one_parse_fault (TooDeep at) (Syntax place) deep wrong = absurd (syntax_or_deep tokens end place at wrong deep)
  one_parse_fault (TooDeep at) (TooDeep place) deep too = ap (λ (n : ℕ). TooDeep n) (one_deep tokens end at place deep too)
  one_parse_fault (TooDeep at) NoMemory deep impossible = absurd impossible
  one_parse_fault NoMemory other impossible too = absurd impossible

-- ---- a source gives one thing

module _ (wanted : SpecUse) (source : List ℕ) where
  abbrev end : ℕ
  end = length source

  one_parsed : (tree other : Tree) → IsParsedFrom source tree → IsParsedFrom source other → tree ≡ other
  one_parsed tree other parsed too =
      one_tree too.tokens end tree other (subst (λ (ts : List Token). HasTree ts end tree) (one_list source parsed.tokens too.tokens parsed.lexed too.lexed) parsed.parsed) too.parsed

  no_fault : (tree : Tree) (fault : SpecFault) → IsParsedFrom source tree → IsFaultless wanted tree → HasFault wanted source fault → ⊥
  no_fault tree fault parsed faultless (lexing {error = error} first) = list_or_fault source parsed.tokens error parsed.lexed first
  no_fault tree fault parsed faultless (parsing {tokens = tokens} {error = error} lexed wrong) =
      tree_or_fault tokens end tree error (subst (λ (ts : List Token). HasTree ts end tree) (one_list source parsed.tokens tokens parsed.lexed lexed) parsed.parsed) wrong
  no_fault tree fault parsed faultless (checking {tree = again} {error = error} too first) =
      settled.not_both wanted tree error faultless (subst (λ (t : Tree). IsFirstFault wanted t error) (one_parsed again tree too parsed) first)

  -- a source with a tree has tokens, and these have one
  lexed_or_parsed : (tree : Tree) (error : LexError) → IsParsedFrom source tree → lexer.IsFirstFault source error → ⊥
  lexed_or_parsed tree error parsed first = list_or_fault source parsed.tokens error parsed.lexed first

  parsed_or_not : (tree : Tree) (tokens : List Token) (error : ParseError) → IsParsedFrom source tree → IsLexedFrom source tokens → IsParseFault tokens end error → ⊥
  parsed_or_not tree tokens error parsed lexed wrong =
      tree_or_fault tokens end tree error (subst (λ (ts : List Token). HasTree ts end tree) (one_list source parsed.tokens tokens parsed.lexed lexed) parsed.parsed) wrong

  one_source_fault : (fault other : SpecFault) → HasFault wanted source fault → HasFault wanted source other → fault ≡ other
  one_source_fault fault other (lexing {error = error} first) (lexing {error = second} too) =
      ap (λ (e : LexError). Lexing e) (one_fault source error second first too)
  one_source_fault fault other (lexing {error = error} first) (parsing {tokens = tokens} lexed wrong) = absurd (list_or_fault source tokens error lexed first)
  one_source_fault fault other (parsing {tokens = tokens} lexed wrong) (lexing {error = error} first) = absurd (list_or_fault source tokens error lexed first)
  one_source_fault fault other (parsing {tokens = tokens} {error = error} lexed wrong) (parsing {tokens = others} {error = second} again too) =
      ap (λ (e : ParseError). Parsing e) (one_parse_fault tokens end error second wrong
      (subst (λ (ts : List Token). IsParseFault ts end second) (one_list source others tokens again lexed) too))
  one_source_fault fault other (lexing {error = error} first) (checking {tree = tree} parsed wrong) = absurd (lexed_or_parsed tree error parsed first)
  one_source_fault fault other (checking {tree = tree} parsed wrong) (lexing {error = error} first) = absurd (lexed_or_parsed tree error parsed first)
  one_source_fault fault other (parsing {tokens = tokens} {error = error} lexed wrong) (checking {tree = tree} parsed first) = absurd (parsed_or_not tree tokens error parsed lexed wrong)
  one_source_fault fault other (checking {tree = tree} parsed first) (parsing {tokens = tokens} {error = error} lexed wrong) = absurd (parsed_or_not tree tokens error parsed lexed wrong)
  one_source_fault fault other (checking {tree = tree} {error = error} parsed first) (checking {tree = again} {error = second} too wrong) =
      ap (λ (e : SpecError). Checking e) (settled.one wanted tree error second first (subst (λ (t : Tree). IsFirstFault wanted t second) (one_parsed again tree too parsed) wrong))

  one_spec : (spec other : Spec) → IsSpecification wanted source spec → IsSpecification wanted source other → spec ≡ other
  one_spec spec other p q =
      specifications_are_one wanted q.tree spec other (subst (λ (t : Tree). IsSpecOf t wanted spec) (one_parsed p.tree q.tree p.parsed q.parsed) p.checked) q.checked

  -- what it gives, by its kind
  data Kind : Result Spec Refusal → Type 0 where
    specified : {spec : Spec} → IsSpecification wanted source spec → Kind (Ok spec)
    faulty : {fault : SpecFault} → HasFault wanted source fault → Kind (Err (spec_refused fault))

  kind_of : (found : Result Spec Refusal) → Specifies wanted source found → Kind found
  kind_of (Ok spec) p = specified p
  kind_of (Err bad_words) p = absurd p
  kind_of (Err (cannot_read name)) p = absurd p
  kind_of (Err (too_long name)) p = absurd p
  kind_of (Err (spec_refused fault)) p = faulty p
  kind_of (Err (code_refused fault)) p = absurd p
  kind_of (Err (entry_refused fault)) p = absurd p
  kind_of (Err calls_spent) p = absurd p
  kind_of (Err (undecodable_at at word)) p = absurd p
  kind_of (Err (too_many_targets at shown)) p = absurd p
  kind_of (Err (table_refused fault)) p = absurd p
  kind_of (Err (claims_refused fault)) p = absurd p
  kind_of (Err (rejected rejection)) p = absurd p

  one_kind : (found other : Result Spec Refusal) → Kind found → Kind other → found ≡ other
  one_kind found other (specified {spec = spec} p) (specified {spec = second} q) = ap (λ (s : Spec). Ok s) (one_spec spec second p q)
  one_kind found other (specified {spec = spec} p) (faulty {fault = fault} q) = absurd (no_fault p.tree fault p.parsed p.faultless q)
  one_kind found other (faulty {fault = fault} p) (specified {spec = spec} q) = absurd (no_fault q.tree fault q.parsed q.faultless p)
  one_kind found other (faulty {fault = fault} p) (faulty {fault = second} q) = ap (λ (f : SpecFault). Err (spec_refused f)) (one_source_fault fault second p q)

  pub one_specified : IsOne (Specifies wanted source)
  one_specified found other p q = one_kind found other (kind_of found p) (kind_of other q)

-- ---- a name gives one thing

module _ (held : Held) (cap : ℕ) (name : List ℕ) where
  same_bytes : (bytes others : List ℕ) → held name ≡ Some bytes → held name ≡ Some others → bytes ≡ others
  same_bytes bytes others p q = let same : Some bytes ≡ Some others = sym p ∙ q in cc

  pub one_held : IsOne (Holds held cap name)
  one_held found other (whole {bytes = bytes} p fits) (whole {bytes = others} q too) = ap (λ (xs : List ℕ). Ok xs) (same_bytes bytes others p q)
  one_held found other (whole {bytes = bytes} p fits) (long {bytes = others} q far) =
      let lengths : length bytes ≡ length others = ap (λ (xs : List ℕ). length xs) (same_bytes bytes others p q) in absurd (omega arith)
  one_held found other (whole {bytes = bytes} p fits) (none q) = absurd (let clash : Some bytes ≡ None = sym p ∙ q in cc)
  one_held found other (long {bytes = bytes} p far) (whole {bytes = others} q fits) =
      let lengths : length bytes ≡ length others = ap (λ (xs : List ℕ). length xs) (same_bytes bytes others p q) in absurd (omega arith)
  one_held found other (long p far) (long q too) = refl
  one_held found other (long {bytes = bytes} p far) (none q) = absurd (let clash : Some bytes ≡ None = sym p ∙ q in cc)
  one_held found other (none p) (whole {bytes = bytes} q fits) = absurd (let clash : Some bytes ≡ None = sym q ∙ p in cc)
  one_held found other (none p) (long {bytes = bytes} q far) = absurd (let clash : Some bytes ≡ None = sym q ∙ p in cc)
  one_held found other (none p) (none q) = refl

pub one_source : (held : Held) (spec : SpecName) → IsOne (SourceOf (Holds held) spec)
one_source held (input name) found other p q = one_held held source_cap name found other p q
one_source held power_pc found other p q = p ∙ sym q
one_source held risc_v found other p q = p ∙ sym q

-- ---- a source gives something

module _ (wanted : SpecUse) (source : List ℕ) where
  by_tree : (tree : Tree) → IsParsedFrom source tree → IsTotal (Specifies wanted source)
  by_tree tree parsed = elim (trees_are_decided wanted tree) [
    | inl faultless ↦
        let spec = specifications_are_there wanted tree in
        (Ok spec.0, record { tree = tree; parsed = parsed; faultless = faultless; checked = spec.1 })
    | inr (error, first) ↦ (Err (spec_refused (Checking error)), checking parsed first)
  ]

  by_tokens : (tokens : List Token) → IsLexedFrom source tokens → parser_total.Total tokens (length source) → IsTotal (Specifies wanted source)
  by_tokens tokens lexed (inl (tree, has)) = by_tree tree (record { tokens = tokens; lexed = lexed; parsed = has })
  by_tokens tokens lexed (inr (inl (at, wrong))) = (Err (spec_refused (Parsing (Syntax at))), parsing lexed wrong)
  by_tokens tokens lexed (inr (inr (at, deep))) = (Err (spec_refused (Parsing (TooDeep at))), parsing lexed deep)

  pub some_specified : IsTotal (Specifies wanted source)
  some_specified = elim (lexer_total.total source) [
    | inl (tokens, lexed) ↦ by_tokens tokens lexed (parser_total.total tokens (length source))
    | inr (error, first) ↦ (Err (spec_refused (Lexing error)), lexing first)
  ]

-- ---- a name gives something

pub some_held : (held : Held) (cap : ℕ) (name : List ℕ) (found : Option (List ℕ)) → held name ≡ found → IsTotal (Holds held cap name)
some_held held cap name None is = (Err (cannot_read name), none is)
some_held held cap name (Some bytes) is = elim (cases_lt cap (length bytes)) [
  | inl far ↦ (Err (too_long name), long is far)
  | inr fits ↦ (Ok bytes, whole is fits)
]

pub some_source : (held : Held) (spec : SpecName) → IsTotal (SourceOf (Holds held) spec)
some_source held (input name) = some_held held source_cap name (held name) refl
some_source held power_pc = (Ok power_pc_text, refl)
some_source held risc_v = (Ok risc_v_text, refl)
