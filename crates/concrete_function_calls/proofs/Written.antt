-- What a call of an accepted specification gives is written.
use Rattle.std.proofs.Common.{◌≡◌, ℕ, ◌^◌, ◌<◌, true, false, ◌&&◌, ◌==◌, Option, Some, None, List, [], refl, sym, subst, ltb-true, eqb-true}
use Rattle.std.specs.Prelude.{nat_lt}
use Rattle.std.proofs.lemmas.Bool.{and_parts as both_parts}
use Rattle.spec_ir.specs.declared.ty.Ty.{Ty}
use Rattle.spec_ir.specs.declared.ty.Ty.TheVariants.{Bool as Flag, Word, Data, Map}
use Rattle.spec_ir.specs.Environment.{Environment}
use Rattle.semantics_values.specs.Values.{Val, flag, word, made, map}
use Rattle.semantics_values.specs.Types.{environment_of, has_type}
use Rattle.semantics.specs.Outcomes as o
use Rattle.semantics.specs.Outcomes.{Outcome}
use Rattle.semantics.specs.Runs.{meaning}
use Rattle.semantics_laws.specs.Typed.{IsOutcomeOf}
use Rattle.semantics_laws.proofs.Turns.{meanings_have_types}
use Rattle.concrete_function_calls.specs.Calls.{call_end, called, end_of_call, end_of_meaning, is_written, value}
use Rattle.concrete_function_calls.specs.Laws.{IsWritten, ValuesAreWritten}
use Rattle.concrete_function_calls.proofs.Typing.{arguments_typed, is_called}

no_truth : {A : Type 0} → false ≡ true → A
no_truth e = absurd cc

of_word : (w n u : ℕ) → (w == u) && nat_lt n (2 ^ u) ≡ true → n < 2 ^ w
of_word w n u h =
    let parts = both_parts (w == u) (nat_lt n (2 ^ u)) h in
    subst (λ (x : ℕ). n < 2 ^ x) (sym (eqb-true w u parts.0)) (ltb-true n (2 ^ u) parts.1)

-- a value of a type that is written
of_value : (env : Environment) (x : Val) (ty : Ty) → is_written ty ≡ true → has_type env x ty ≡ true → IsWritten x
of_value env (flag b) ty written typed = tt
of_value env (word w n) (Word u) written typed = of_word w n u typed
of_value env (word w n) Flag written typed = no_truth typed
of_value env (word w n) (Data d) written typed = no_truth typed
of_value env (word w n) (Map m) written typed = no_truth typed
of_value env (made t c vs) (Word u) written typed = no_truth typed
of_value env (made t c vs) Flag written typed = no_truth typed
of_value env (made t c vs) (Data d) written typed = no_truth written
of_value env (made t c vs) (Map m) written typed = no_truth typed
of_value env (map m rest cells) (Word u) written typed = no_truth typed
of_value env (map m rest cells) Flag written typed = no_truth typed
of_value env (map m rest cells) (Data d) written typed = no_truth typed
of_value env (map m rest cells) (Map n) written typed = no_truth written

of_outcome : (env : Environment) (ty : Ty) (outcome : Outcome Val) (v : Val) → is_written ty ≡ true → IsOutcomeOf env ty outcome → end_of_meaning outcome ≡ value v → IsWritten v
of_outcome env ty (o.gives x reads) v written typed e = let same : x ≡ v = cc in subst IsWritten same (of_value env x ty written typed.0)
of_outcome env ty (o.deep i) v written typed e = absurd cc
of_outcome env ty o.wrong v written typed e = absurd typed

pub values_are_written : ValuesAreWritten
unfolding call_end
values_are_written spec turns fun texts v accepted e = by (called spec fun texts) refl e
  where
    by : (found : Option (ℕ × List Val)) → called spec fun texts ≡ found → end_of_call spec turns found ≡ value v → IsWritten v
    by None is ends = absurd cc
    by (Some call) is ends =
        let c = is_called spec fun texts call.0 call.1 is in
        of_outcome (environment_of spec) c.function.result_type (meaning spec 0 turns call.0 call.1 []) v c.written
        (meanings_have_types spec 0 turns call.0 c.function call.1 [] accepted c.there (arguments_typed (environment_of spec) c.function.params texts call.1 c.given) refl) ends
