-- What a call gives is written as it is.
use Rattle.std.proofs.Common.{◌≡◌, ℕ, true, ap, ap₂, refl}
use Rattle.base_trait.specs.declared.uses.Stamp.{Stamp}
use Rattle.base_concrete.specs.declared.Concrete.{Concrete}
use Rattle.spec_ir.specs.declared.ty.Ty.{Ty}
use Rattle.spec_ir.specs.declared.ty.Ty.TheVariants.{Bool as Flag, Word, Data, Map}
use Rattle.spec_ir.specs.Environment.{Environment}
use Rattle.spec_ir.specs.Specification.{Fun, Spec}
use Rattle.semantics_values.specs.Types.{environment_of, has_type}
use Rattle.semantics_values.specs.Values.{Val, flag, word, made, map}
use Rattle.semantics.specs.Outcomes as o
use Rattle.semantics.specs.Outcomes.{Outcome}
use Rattle.semantics_laws.specs.Typed.{IsOutcomeOf}
use Rattle.abstract_value.specs.View.{abs}
use Rattle.abstract_value.specs.declared.value.AbstractValue.{AbstractValue}
use Rattle.concrete_calls.specs.Same.{AreSame}
use Rattle.concrete_calls.specs.Values.{value_in}
use Rattle.concrete_calls.proofs.Same.{same}
use Rattle.concrete_calls.specs.declared.outcome.CallResult.TheVariants.{OutOfFuel, Done}
use Rattle.concrete_calls.specs.Calls.{IsMeantBy}
use Rattle.concrete_function_calls.specs.Calls.{end_of_meaning, is_written, spent, value}

-- words and truth values that are the same are equal
same_word : (p : Val) (w n : ℕ) → AreSame p (word w n) → p ≡ word w n
same_word (word u m) w n h = ap₂ word h.0 h.1
same_word (flag b) w n h = absurd h
same_word (made t k ps) w n h = absurd h
same_word (map m rest cells) w n h = absurd h

same_flag : (p q : Val) (env : Environment) → has_type env q Flag ≡ true → AreSame p q → p ≡ q
same_flag (flag b) (flag d) env typed h = ap flag h
same_flag (word u m) (flag d) env typed h = absurd h
same_flag (made t k ps) (flag d) env typed h = absurd h
same_flag (map m rest cells) (flag d) env typed h = absurd h
same_flag p (word u m) env typed h = absurd cc
same_flag p (made t k ps) env typed h = absurd cc
same_flag p (map m rest cells) env typed h = absurd cc

same_written : (ty : Ty) (p q : Val) (env : Environment) → is_written ty ≡ true → has_type env q ty ≡ true → AreSame p q → p ≡ q
same_written (Word w) p (word u n) env is typed h = same_word p u n h
same_written (Word w) p (flag b) env is typed h = absurd cc
same_written (Word w) p (made t k ps) env is typed h = absurd cc
same_written (Word w) p (map m rest cells) env is typed h = absurd cc
same_written Flag p q env is typed h = same_flag p q env typed h
same_written (Data d) p q env is typed h = absurd cc
same_written (Map m) p q env is typed h = absurd cc

module _ (spec : Spec) (fun : Fun) where
  pub value_end : (x : AbstractValue Concrete ℕ Stamp (Unit {0})) (out : Outcome Val) → is_written fun.result_type ≡ true → IsOutcomeOf (environment_of spec) fun.result_type out → IsMeantBy spec fun (Done x) out → value (value_in (abs x)) ≡ end_of_meaning out
  value_end x (o.deep i) is typed meant = absurd meant
  value_end x o.wrong is typed meant = absurd meant
  value_end x (o.gives v reads) is typed meant = ap value (same_written fun.result_type (value_in (abs x)) v (environment_of spec) is typed.0 (same (abs x) v meant.stands.describes meant.stands.single))

  pub spent_end : (out : Outcome Val) → IsMeantBy spec fun OutOfFuel out → spent ≡ end_of_meaning out
  spent_end (o.deep i) meant = refl
  spent_end o.wrong meant = absurd meant
  spent_end (o.gives v reads) meant = absurd meant
