-- What is owed has one status, and one text where it may have no other.
use Rattle.std.proofs.Common.{◌≡◌, ℕ, inl, inr, Bool, List, Option, Some, None, IsTrue, refl, sym, ◌∙◌, ap, subst}
use Rattle.std.specs.Prelude.{Ok, not}
use Rattle.support_command_line.specs.Requests.{AnalyseRequest, CallRequest, ConvertRequest, Request, call, emulate, analyse, check, convert, list, slice, claims, stress}
use Rattle.support_command_line.specs.Words.{asked}
use Rattle.support_command_line.specs.declared.bases.BaseName.{BaseName}
use Rattle.spec_ir.specs.Specification.{Spec}
use Rattle.code_image.specs.Image.{Image}
use Rattle.spec_ir.specs.declared.spec.SpecUse.TheVariants.{Library}
use Rattle.program_domains.specs.Laws.{AreOne, AreTexts, AreTextsOfOne}
use Rattle.program_domains.specs.Named.{has_relations}
use Rattle.program_common.specs.declared.status.Status.{Status}
use Rattle.program_common.specs.declared.status.Status.TheVariants as s
use Rattle.program_common.specs.Outcome as answers
use Rattle.program_common.specs.Outcome.{Outcome, line_of, status_of}
use Rattle.program_common.specs.Reading.{Held, Holds}
use Rattle.program_common.specs.Sources.{SourceOf, Specifies}
use Rattle.program_common.proofs.OneSource.{one_source, one_specified}
use Rattle.program_common.proofs.Steps.{IsOne, one}
use Rattle.program_machine.proofs.Single.{emulate_has_one, list_has_one}
use Rattle.program_analyses.specs.Laws.{AreOneAnalysis, AreOneConversion}
use Rattle.program_analyses.proofs.StressOne.{stress_has_one}
use Rattle.program_analyses.proofs.One.{analyse_has_one, check_has_one, claims_has_one, convert_has_one, slice_has_one}
use Rattle.program_run.specs.Laws.{OneAnswer, TellTheSame}
use Rattle.program_run.specs.Steps.{CallSteps, Steps}
use Rattle.program_run.specs.Words.{has_one_text}
use Rattle.program_run.proofs.Chain.{Called, Ended}
use Rattle.program_run.proofs.Parts.{AreFew, few_wanted}

-- Both have one status, and one text where it may have no other; their texts tell one table.
abbrev AreAsOne : Held → Option Request → Outcome → Outcome → Type 0
AreAsOne held what found other = (status_of found ≡ status_of other) × (IsTrue (has_one_text what (status_of found)) → line_of found ≡ line_of other) × TellTheSame held what (line_of found) (line_of other)

same_tells : (held : Held) (what : Option Request) (text line : List ℕ) → text ≡ line → TellTheSame held what text line
same_tells held None text line same = same
same_tells held (Some (analyse request)) text line same = inl same
same_tells held (Some (convert request)) text line same = inl same
same_tells held (Some _) text line same = same

as_same : (held : Held) (what : Option Request) (found other : Outcome) → found ≡ other → AreAsOne held what found other
as_same held what found other same = (ap status_of same, λ alone. ap line_of same, same_tells held what (line_of found) (line_of other) (ap line_of same))

never_both : (b : Bool) → IsTrue b → IsTrue (not b) → ⊥
never_both b is is_not = cc

-- texts, where what is asked for may have several
module _ (held : Held) (what : Option Request) (base : BaseName) (spec : Spec) (image : Image) (tells : (text line : List ℕ) → AreTextsOfOne base spec image text line → TellTheSame held what text line) where
  as_texts : (found other : Outcome) → (IsTrue (has_one_text what s.Ok) → ⊥) → AreTexts base spec image found other → AreAsOne held what found other
  as_texts (Ok (answers.text bytes)) (Ok (answers.text more)) several both = (refl, λ alone. absurd (several alone), tells bytes more both)
  as_texts _ _ several both = absurd both

  over_relations : (found other : Outcome) → has_one_text what s.Ok ≡ not (has_relations base) → AreOne base spec image found other → AreAsOne held what found other
  over_relations found other is (inl same) = as_same held what found other same
  over_relations found other is (inr several) = as_texts found other (λ alone. never_both (has_relations base) several.0 (subst (λ (b : Bool). IsTrue b) is alone)) several.1

of_analyses : (held : Held) (request : AnalyseRequest) (found other : Outcome) → AreOneAnalysis held request found other → AreAsOne held (Some (analyse request)) found other
of_analyses held request found other (inl same) = as_same held (Some (analyse request)) found other same
of_analyses held request found other (inr (posed, is, one)) =
    over_relations held (Some (analyse request)) request.base posed.spec posed.image (λ text line are. inr (posed, is, are)) found other refl one

of_conversions : (held : Held) (request : ConvertRequest) (found other : Outcome) → AreOneConversion held request found other → AreAsOne held (Some (convert request)) found other
of_conversions held request found other (inl same) = as_same held (Some (convert request)) found other same
of_conversions held request found other (inr (coded, is, one)) =
    over_relations held (Some (convert request)) request.base coded.spec coded.image (λ text line are. inr (coded, is, are)) found other refl one

one_call : (held : Held) (request : CallRequest) → IsOne (CallSteps (Holds held) request)
one_call held request =
    one (SourceOf (Holds held) request.spec) (Called request) (one_source held request.spec) (λ source.
    one (Specifies Library source) (Ended request) (one_specified Library source) (λ spec found other p q. p ∙ sym q))

one_asked : (held : Held) (what : Option Request) → AreFew what → (found other : Outcome) → Steps (Holds held) what found → Steps (Holds held) what other → AreAsOne held what found other
one_asked held None few found other p q = as_same held None found other (p ∙ sym q)
one_asked held (Some (call request)) few found other p q = as_same held (Some (call request)) found other (one_call held request found other p q)
one_asked held (Some (emulate request)) few found other p q = as_same held (Some (emulate request)) found other (emulate_has_one held request found other p q)
one_asked held (Some (analyse request)) few found other p q = of_analyses held request found other (analyse_has_one held request found other few p q)
one_asked held (Some (check request)) few found other p q = as_same held (Some (check request)) found other (check_has_one held request found other few p q)
one_asked held (Some (convert request)) few found other p q = of_conversions held request found other (convert_has_one held request found other few p q)
one_asked held (Some (list request)) few found other p q = as_same held (Some (list request)) found other (list_has_one held request found other p q)
one_asked held (Some (slice request)) few found other p q = as_same held (Some (slice request)) found other (slice_has_one held request found other few.0 p q)
one_asked held (Some (claims request)) few found other p q = as_same held (Some (claims request)) found other (claims_has_one held request found other few p q)
one_asked held (Some (stress request)) few found other p q = as_same held (Some (stress request)) found other (stress_has_one request found other p q)

pub one_answer : OneAnswer
one_answer words held status other text line owes too =
    let same = one_asked held (asked words) (few_wanted words) owes.outcome too.outcome owes.owed too.owed in (
      owes.has_status ∙ same.0 ∙ sym too.has_status,
      λ alone. owes.has_line ∙ same.1 (subst (λ (found : Status). IsTrue (has_one_text (asked words) found)) owes.has_status alone) ∙ sym too.has_line,
      subst (λ (bytes : List ℕ). TellTheSame held (asked words) bytes line) (sym owes.has_line)
          (subst (λ (bytes : List ℕ). TellTheSame held (asked words) (line_of owes.outcome) bytes) (sym too.has_line) same.2),
    )
