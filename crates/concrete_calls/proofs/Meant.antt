-- Calls on what stands for concrete arguments are the direct meaning.
use Rattle.std.proofs.Common.{◌≡◌, ℕ, suc, ◌≤◌, ◌^◌, true, List, [], ◌∷◌, Option, Some, None, length, refl, subst, arith, inr, IsTrue}
use Rattle.base_trait.specs.Uses.{Seen}
use Rattle.base_trait.specs.declared.uses.Stamp.{Stamp}
use Rattle.base_concrete.specs.Instance.{concrete_laws}
use Rattle.base_concrete.specs.Meaning.{concrete}
use Rattle.abstract_map_laws.specs.Laws.{HasRoom}
use Rattle.support_tail_fixpoint.specs.declared.policy.Policy.TheVariants.{Stop}
use Rattle.support_tail_fixpoint.specs.Answer.{IfGives, fails, gives}
use Rattle.spec_ir.specs.Specification.{Fun, Spec}
use Rattle.semantics_values.specs.Types.{environment_of}
use Rattle.semantics_values.specs.Values.{Val}
use Rattle.semantics.specs.Outcomes as o
use Rattle.semantics.specs.Outcomes.{Outcome}
use Rattle.semantics.specs.Runs.{meaning}
use Rattle.semantics_laws.specs.Typed.{IsOutcomeOf}
use Rattle.semantics_laws.proofs.Turns.{meanings_have_types}
use Rattle.semantics_laws.proofs.SameRuns.{cores_mean_the_same}
use Rattle.abstract_value_laws.specs.Abs.{Abs}
use Rattle.abstract_semantics.specs.Answers.{Answer}
use Rattle.abstract_semantics.specs.Laws.{IsResult}
use Rattle.abstract_semantics.proofs.Meeting.{IsMet}
use Rattle.abstract_semantics.proofs.Plain.{Nothing, are_arguments, calls_keep_types, each_nothing}
use Rattle.abstract_semantics.proofs.Standing.{AllStand, Stands}
use Rattle.abstract_semantics.specs.CallAnswers.{answers}
use Rattle.abstract_semantics.proofs.Right.{answers_are_right}
use Rattle.concrete_calls.specs.Laws.{AllStandFor, CallsAreMeant, IsMeant, StandsFor, room}
use Rattle.concrete_calls.proofs.Exact.{calls_met}

has_room : HasRoom concrete room
has_room = inr (omega arith)

all_stand : (xs : List (Abs ℕ Stamp)) (vs : List Val) → AllStandFor xs vs → AllStand concrete [] true xs vs
all_stand [] [] h = tt
all_stand [] (v ∷ vs) h = absurd h
all_stand (x ∷ xs) [] h = absurd h
all_stand (x ∷ xs) (v ∷ vs) h = (record { describes = h.0.describes; single = λ t. h.0.single }, all_stand xs vs h.1)

module _ (spec : Spec) (fun : Fun) where
  meant : (r : Answer (Abs ℕ Stamp)) (out : Outcome Val) → IsMet true (IsTrue concrete.notes.stamped) (Stands concrete [] true) [] [] r out → IsOutcomeOf (environment_of spec) fun.result_type out
      → IfGives r (IsResult concrete tt room spec fun) → IsMeant spec fun r out
  meant r o.wrong m t k = absurd t
  meant (fails i) (o.deep j) m t k = cc
  meant (gives None l) (o.deep j) m t k = absurd cc
  meant (gives (Some x) l) (o.deep j) m t k = absurd cc
  meant (fails i) (o.gives v more) m t k = absurd m
  meant (gives None l) (o.gives v more) m t k = absurd m
  meant (gives (Some x) l) (o.gives v more) m t k = record { stands = record { describes = m.0.describes; single = m.0.single refl }; typed = k.typed; fits = k.fits }

pub calls_are_meant : CallsAreMeant
calls_are_meant spec a d f fun xs vs ok some h =
    let right = answers_are_right concrete concrete_laws spec tt room a (Stop d) ok has_room some tt in
    let are = are_arguments concrete tt room Nothing spec f fun xs h.there h.arguments (each_nothing xs) in
    let met = calls_met concrete concrete_laws tt room spec a [] refl has_room ok d some (answers concrete tt room spec a (Stop d)) right (suc (length spec.funs)) f fun xs vs [] h.there are (all_stand xs vs h.stand) in
    let same = cores_mean_the_same spec a d (suc (length spec.funs)) f fun vs [] ok h.there h.typed in
    meant spec fun (answers concrete tt room spec a (Stop d) f xs) (meaning spec a d f vs [])
    (subst (IsMet true (IsTrue concrete.notes.stamped) (Stands concrete [] true) [] [] (answers concrete tt room spec a (Stop d) f xs)) same met)
    (meanings_have_types spec a d f fun vs [] ok h.there h.typed refl)
    (calls_keep_types concrete concrete_laws spec tt room a (Stop d) (answers concrete tt room spec a (Stop d)) f fun xs ok has_room some right h.there h.arguments)
