-- Turns of a group by code are turns by core terms.
use Rattle.std.proofs.Common.{◌≡◌, ℕ, zero, suc, List, [], ◌∷◌, Option, Some, None, length, slice_get, refl, sym, ap, ◌∙◌}
use Rattle.base_trait.specs.Algebra.{Algebra}
use Rattle.spec_ir.specs.Specification.{Spec, Fun}
use Rattle.semantics.specs.Direct.{group_at, group_of}
use Rattle.semantics_laws.specs.Accepted.{IsAccepted}
use Rattle.abstract_value_laws.specs.Abs.{Abs}
use Rattle.support_tail_fixpoint.specs.Groups.{EachIs}
use Rattle.support_tail_fixpoint.specs.Answer.{Yield}
use Rattle.abstract_semantics.specs.Answers.{Answer, Evaluation}
use Rattle.abstract_semantics.specs.Terms.{GroupArgs, bodies, body_turn, group_turn as term_turn, join_yields, params_in, params_of}
use Rattle.abstract_semantics.proofs.Alike.{AllAlike, AreAlike, joined_alike}
use Rattle.eval_code.specs.Code.{FunCode}
use Rattle.eval_code.specs.Lowered.{IsCodeOf}
use Rattle.eval_code_accepted.proofs.Bodies.{code_at}
use Rattle.eval_code_accepted.proofs.Scoped.{accepted_terms_are_in_scope}
use Rattle.eval_code_meaning.specs.Laws.{GroupsMeanTheSame}
use Rattle.eval_code_meaning.specs.Meaning.{code_turn, group_turn}
use Rattle.eval_code_meaning.proofs.Tails.{code_runs}

-- The arguments of a function are as many as it has parameters, and it is one of group g.
abbrev pub AreCounted : {W N : Type 0} → Spec → ℕ → ℕ → List (Abs W N) → Type 0
AreCounted spec g f xs = (group_of spec f ≡ g) × (length xs ≡ length (params_of spec f))

module _ {W N C : Type 0} (B : Algebra W N C) (c : C) (cap : ℕ) (spec : Spec) (a : ℕ) where
  bodies_alike : (on other : ℕ → List (Abs W N) → Evaluation (Yield (GroupArgs W N) (Abs W N))) (Q : ℕ → List (Abs W N) → Type 0) (args : GroupArgs W N) → EachIs Q args
      → ((f : ℕ) (xs : List (Abs W N)) → Q f xs → AreAlike (on f xs) (other f xs)) → AllAlike (bodies B c cap spec a on args) (bodies B c cap spec a other args)
  bodies_alike on other Q [] h go = tt
  bodies_alike on other Q (None ∷ rest) h go = bodies_alike (λ i. on (suc i)) (λ i. other (suc i)) (λ i. Q (suc i)) rest h.1 (λ i. go (suc i))
  bodies_alike on other Q (Some xs ∷ rest) h go = (go zero xs h.0, bodies_alike (λ i. on (suc i)) (λ i. other (suc i)) (λ i. Q (suc i)) rest h.1 (λ i. go (suc i)))

  module _ (calls : ℕ → List (Abs W N) → Answer (Abs W N)) (code : List FunCode) (is : IsCodeOf code spec) (ok : IsAccepted spec) (g : ℕ) where
    pub body_alike : (f : ℕ) (o : Option Fun) → slice_get spec.funs f ≡ o → (xs : List (Abs W N)) → AreCounted spec g f xs → AreAlike (code_turn B c cap spec a calls (slice_get code f) xs) (body_turn B c cap spec a calls g o xs)
    body_alike f None e xs h l = ap (λ o. code_turn B c cap spec a calls o xs l) (code_at spec code f None is e)
    body_alike f (Some fun) e xs h l =
        let group : fun.group ≡ g = sym (ap group_at e) ∙ h.0 in
        let long : length xs ≡ length fun.params = h.1 ∙ ap (λ o. length (params_in o)) e in
        ap (λ o. code_turn B c cap spec a calls o xs l) (code_at spec code f (Some fun) is e) ∙ code_runs B c cap spec a calls fun xs (accepted_terms_are_in_scope spec f fun ok e) long l
        ∙ ap (λ z. body_turn B c cap spec a calls z (Some fun) xs l) group

    pub groups_run : (args : GroupArgs W N) → EachIs (AreCounted spec g) args → AreAlike (group_turn B c cap spec a calls code args) (term_turn B c cap spec a calls g args)
    groups_run args h =
        joined_alike (join_yields B c cap spec a) _ _
        (bodies_alike (λ i xs. code_turn B c cap spec a calls (slice_get code i) xs) (λ i xs. body_turn B c cap spec a calls g (slice_get spec.funs i) xs) (AreCounted spec g) args h
        (λ f xs k. body_alike f (slice_get spec.funs f) refl xs k))

pub groups_mean_the_same : {W N C : Type 0} (B : Algebra W N C) → GroupsMeanTheSame B
groups_mean_the_same B spec code c cap a calls g args l ok is h = groups_run B c cap spec a calls code is ok g args h l
