-- Faults of a part against what is wanted of it.
use Rattle.std.specs.Prelude.{Option, Some, None, List, codes}
use Rattle.std.specs.Fmt.{decimal}
use Rattle.syntax_parser.specs.declared.tree.Span.{Span}
use Rattle.syntax_parser.specs.declared.tree.Num.{Num}
use Rattle.syntax_parser.specs.Tree.{Term as Expr}
use Rattle.syntax_parser.specs.Nodes.{span_of}
use Rattle.spec_match_compiler.specs.Patterns.{Pattern}
use Rattle.spec_ir.specs.declared.ty.Ty.{Ty}
use Rattle.spec_ir.specs.declared.ty.Ty.TheVariants.{Bool as Flag, Word, Data as DataTy, Map as MapOf}
use Rattle.spec_ir.specs.declared.spec_error.SpecError.{SpecError}
use Rattle.spec_ir.specs.declared.spec_error.SpecError.TheVariants.{Mismatch, BadWidth, NotExhaustive, Useless}
use Rattle.spec_ir.specs.declared.term.CastKind.{CastKind}
use Rattle.spec_ir.specs.Answers.{unless, within, ◌then◌}
use Rattle.spec_ir.specs.Environment.{Environment, shape_of, shapes_of}
use Rattle.spec_ir.specs.Texts.{type_text, pattern_text}
use Rattle.spec_match_compiler.specs.Answers.{MatchAnswer, decision, not_exhaustive, useless, match_answer}
use Rattle.spec_patterns.specs.Faults.{type_fault}
use Rattle.spec_term_forms.specs.Operators.{cast_fits}

-- a part of a term: its span, its own first fault, and its type
pub record Part : Type 0 where
  pub span : Span
  pub fault : Option SpecError
  pub ty : Option Ty

abbrev pub part_of : Expr → Option SpecError → Option Ty → Part
part_of e fault ty = record { span = span_of e; fault = fault; ty = ty }

-- a cast of a word to a width that it can't have (T5)
abbrev pub cast_fault : CastKind → Ty → Num → Span → Option SpecError
cast_fault kind (Word from) to span = unless (cast_fits kind from to.v) (BadWidth span (decimal to.v))
cast_fault kind _ to span = None

module _ (env : Environment) where
  -- a part that isn't a word (T3)
  abbrev pub word_fault : Span → Ty → Option SpecError
  word_fault span (Word w) = None
  word_fault span got = Some (Mismatch span (codes "word") (type_text env got))

  -- a part that isn't a map (T3)
  abbrev pub map_fault : Span → Ty → Option SpecError
  map_fault span (MapOf m) = None
  map_fault span got = Some (Mismatch span (codes "map") (type_text env got))

  -- the first fault of a part of which a type is wanted
  abbrev pub wanted : Ty → Part → Option SpecError
  wanted want p = p.fault then within p.ty (type_fault env want p.span)

  -- the same where a type may be wanted
  abbrev pub wanted_if : Option Ty → Part → Option SpecError
  wanted_if None p = p.fault
  wanted_if (Some want) p = wanted want p

  -- the same where a word, or a map, is wanted
  abbrev pub word_wanted : Part → Option SpecError
  word_wanted p = p.fault then within p.ty (word_fault p.span)

  abbrev pub map_wanted : Part → Option SpecError
  map_wanted p = p.fault then within p.ty (map_fault p.span)

  -- a match that no arm of takes some value (T8), or an arm that is never taken (T9)
  abbrev pub answer_fault : Span → Ty → MatchAnswer → Option SpecError
  answer_fault span ty (decision t) = None
  answer_fault span ty (not_exhaustive p) = Some (NotExhaustive span (pattern_text env ty p))
  answer_fault span ty (useless r) = Some (Useless span r)

  abbrev pub match_fault : Span → Ty → List Pattern → Option SpecError
  match_fault span ty rows = answer_fault span ty (match_answer (shapes_of env) (shape_of ty) rows)
