-- The meaning of a call has the type of its function's result, and is never wrong.
use Rattle.std.proofs.Common.{◌≡◌, ◌⊎◌, ℕ, zero, suc, ◌<◌, Bool, true, false, cond, ◌==◌, Option, Some, None, option_map, List, [], ◌∷◌, length, slice_get, refl, sym, ap, ◌∙◌, subst, inl, inr, arith}
use Rattle.std.specs.List.{All, list_all}
use Rattle.std.proofs.lemmas.Bool.Decides.{nat_tests}
use Rattle.std.proofs.lemmas.Option.{slice_get-map, same_Some as some_same}
use Rattle.std.proofs.lemmas.Bool.{eqb-true as same_number}
use Rattle.base_trait.specs.Uses.{Read}
use Rattle.spec_match_compiler.proofs.Truth.{and_left}
use Rattle.spec_ir.specs.declared.ty.Ty.{Ty}
use Rattle.spec_ir.specs.Environment.{Signature}
use Rattle.spec_ir.specs.WellFormed.{is_type, is_signature}
use Rattle.spec_ir.specs.Specification.{Spec, Fun}
use Rattle.spec_ir.proofs.Lists.{all_at}
use Rattle.spec_calls.specs.declared.call.Call.{Call}
use Rattle.spec_calls.specs.Calls as k
use Rattle.semantics_values.specs.Values.{Val, vals}
use Rattle.semantics_values.specs.Types.{environment_of, have_types}
use Rattle.semantics.specs.Outcomes as o
use Rattle.semantics.specs.Outcomes.{Outcome}
use Rattle.semantics.specs.Direct.{den, with_own, group_at, group_of, body_or_wrong, turns, run}
use Rattle.semantics_laws.specs.Accepted.{IsAccepted, IsInOrder}
use Rattle.semantics_laws.specs.Typed.{are_reads, IsOutcomeOf, MeaningsHaveTypes}
use Rattle.semantics_laws.proofs.Values.{IsOf, AreOf, are_from}
use Rattle.semantics_laws.proofs.Terms.{Each, Is, den_of}

pub each_from : (P : Call → Type 0) (cs : List Call) → All P cs → Each P cs
each_from P [] h = tt
each_from P (c ∷ cs) h = (h 0 c (omega arith), each_from P cs (λ i d lt. h (suc i) d (omega (arith, lt))))

pub each_more : (P Q : Call → Type 0) (cs : List Call) → ((c : Call) → P c → Q c) → Each P cs → Each Q cs
each_more P Q [] f h = tt
each_more P Q (c ∷ cs) f h = (f c h.0, each_more P Q cs f h.1)

-- the signature of a function
abbrev pub signature_of : Fun → Signature
signature_of f = record { name = f.name; params = f.params; result_type = f.result_type }

-- the function of a signature
pub record FunOf (spec : Spec) (f : ℕ) (s : Signature) : Type 0 where
  pub fun : Fun
  pub is : slice_get spec.funs f ≡ Some fun
  pub same : signature_of fun ≡ s

pub fun_of : (spec : Spec) (f : ℕ) (s : Signature) → slice_get (environment_of spec).funs f ≡ Some s → FunOf spec f s
fun_of spec f s h = at (slice_get spec.funs f) refl (sym (slice_get-map signature_of spec.funs f) ∙ h)
  where
    at : (x : Option Fun) → slice_get spec.funs f ≡ x → option_map signature_of x ≡ Some s → FunOf spec f s
    at None e k = absurd cc
    at (Some fun) e k = record { fun = fun; is = e; same = some_same (signature_of fun) s k }

module _ (spec : Spec) (ok : IsAccepted spec) (a : ℕ) where
  -- a call of a function has the type of its result, where its arguments have those of its parameters
  abbrev IsGood : (ℕ → List Val → List Read → Outcome Val) → ℕ → Type 0
  IsGood calls f = (fun : Fun) (ps : List Val) (l : List Read) → slice_get spec.funs f ≡ Some fun → AreOf (environment_of spec) fun.params ps → are_reads (environment_of spec) l ≡ true
      → Is (environment_of spec) (IsOf (environment_of spec) fun.result_type) (calls f ps l)

  abbrev IsLower : ℕ → ℕ → Type 0
  IsLower g f = ok.rank (group_of spec f) < ok.rank g

  abbrev IsNext : ℕ → Call → Type 0
  IsNext g c = (group_of spec c.fun ≡ g) ⊎ IsLower g c.fun

  own_good : (g f : ℕ) (b : Bool) (own calls : ℕ → List Val → List Read → Outcome Val) → (group_of spec f == g) ≡ b → (group_of spec f ≡ g → IsGood own f) → (IsLower g f → IsGood calls f) → (group_of spec f ≡ g) ⊎ IsLower g f
      → (fun : Fun) (ps : List Val) (l : List Read) → slice_get spec.funs f ≡ Some fun → AreOf (environment_of spec) fun.params ps → are_reads (environment_of spec) l ≡ true
      → Is (environment_of spec) (IsOf (environment_of spec) fun.result_type) (cond b (own f ps l) (calls f ps l))
  own_good g f true own calls e hown hcalls h fun ps l is are r = hown (same_number (group_of spec f) g e) fun ps l is are r
  own_good g f false own calls e hown hcalls (inl h) fun ps l is are r = absurd (grind (arith, nat_tests))
  own_good g f false own calls e hown hcalls (inr h) fun ps l is are r = hcalls h fun ps l is are r

  signed_good : (g : ℕ) (own calls : ℕ → List Val → List Read → Outcome Val) → ((f : ℕ) → group_of spec f ≡ g → IsGood own f) → ((f : ℕ) → IsLower g f → IsGood calls f)
      → (c : Call) (s : Signature) (ps : List Val) (l : List Read) → IsNext g c → slice_get (environment_of spec).funs c.fun ≡ Some s → AreOf (environment_of spec) s.params ps → are_reads (environment_of spec) l ≡ true
      → Is (environment_of spec) (IsOf (environment_of spec) s.result_type) (with_own (group_of spec) g own calls c.fun ps l)
  signed_good g own calls hown hcalls c s ps l h is are r =
      let f = fun_of spec c.fun s is in
      let good = own_good g c.fun (group_of spec c.fun == g) own calls refl (hown c.fun) (hcalls c.fun) h f.fun ps l f.is (subst (λ z. AreOf (environment_of spec) z.params ps) (sym f.same) are) r in
      subst (λ z. Is (environment_of spec) (IsOf (environment_of spec) z.result_type) (with_own (group_of spec) g own calls c.fun ps l)) f.same good

  group_is : (f : ℕ) (fun : Fun) → slice_get spec.funs f ≡ Some fun → group_of spec f ≡ fun.group
  group_is f fun e = ap group_at e

  next_from : (g f : ℕ) → group_of spec f ≡ g → (c : Call) → IsInOrder spec ok.rank f c → IsNext g c
  next_from g f e c (inl h) = inl (h.0 ∙ e)
  next_from g f e c (inr h) = inr (subst (λ z. ok.rank (group_of spec c.fun) < ok.rank z) e h)

  body_good : (g : ℕ) (own calls : ℕ → List Val → List Read → Outcome Val) → ((f : ℕ) → group_of spec f ≡ g → IsGood own f) → ((f : ℕ) → IsLower g f → IsGood calls f)
      → (j : ℕ) (x : Option Fun) → slice_get spec.funs j ≡ x → group_of spec j ≡ g → (fun : Fun) (ps : List Val) (l : List Read) → x ≡ Some fun → AreOf (environment_of spec) fun.params ps → are_reads (environment_of spec) l ≡ true
      → Is (environment_of spec) (IsOf (environment_of spec) fun.result_type) (body_or_wrong x (λ body. den spec.maps (with_own (group_of spec) g own calls) a ps body l))
  body_good g own calls hown hcalls j x e same fun ps l is are r =
      let right = ok.right j fun (e ∙ is) in
      let each = each_more (IsInOrder spec ok.rank j) (IsNext g) (k.calls true fun.body) (next_from g j same) (each_from (IsInOrder spec ok.rank j) (k.calls true fun.body) right.calls_in_order) in
      let of =
      den_of (environment_of spec) ok.types ok.maps (IsNext g) (with_own (group_of spec) g own calls) (signed_good g own calls hown hcalls) a true fun.body fun.params fun.result_type ps l right.typed right.total each are r in
      subst (λ z. Is (environment_of spec) (IsOf (environment_of spec) fun.result_type) (body_or_wrong z (λ body. den spec.maps (with_own (group_of spec) g own calls) a ps body l))) (sym is) of

  turns_good : (calls : ℕ → List Val → List Read → Outcome Val) (i : ℕ) → ((f : ℕ) → IsLower (group_of spec i) f → IsGood calls f) → (d j : ℕ) → group_of spec j ≡ group_of spec i → IsGood (turns spec a calls i d) j
  turns_good calls i hcalls zero j same fun ps l is are r = tt
  turns_good calls i hcalls (suc d) j same fun ps l is are r =
      body_good (group_of spec i) (turns spec a calls i d) calls (λ f e. turns_good calls i hcalls d f e) hcalls j (slice_get spec.funs j) refl same fun ps l is are r

  run_good : (d n i : ℕ) → ok.rank (group_of spec i) < n → IsGood (run spec a d n) i
  run_good d zero i lt fun ps l is are r = absurd (omega (arith, lt))
  run_good d (suc n) i lt fun ps l is are r = turns_good (run spec a d n) i (λ f h. run_good d n f (omega (arith, h, lt))) d i refl fun ps l is are r

  -- the parameters of a function have types of the environment
  pub params_are : (f : ℕ) (fun : Fun) → slice_get spec.funs f ≡ Some fun → list_all (is_type (environment_of spec)) fun.params ≡ true
  params_are f fun e =
      let there : slice_get (environment_of spec).funs f ≡ Some (signature_of fun) = slice_get-map signature_of spec.funs f ∙ ap (option_map signature_of) e in
      and_left (list_all (is_type (environment_of spec)) fun.params) (is_type (environment_of spec) fun.result_type) (all_at (is_signature (environment_of spec)) (environment_of spec).funs f (signature_of fun) ok.types.signatures there)

  outcome_of : (ty : Ty) (x : Outcome Val) → Is (environment_of spec) (IsOf (environment_of spec) ty) x → IsOutcomeOf (environment_of spec) ty x
  outcome_of ty (o.deep i) h = tt
  outcome_of ty o.wrong h = h
  outcome_of ty (o.gives p l) h = (h.0.has, h.1)

  pub typed : (d i : ℕ) (fun : Fun) (args : List Val) (l : List Read) → slice_get spec.funs i ≡ Some fun → have_types (environment_of spec) (vals args) fun.params ≡ true → are_reads (environment_of spec) l ≡ true
      → IsOutcomeOf (environment_of spec) fun.result_type (run spec a d (suc (length spec.funs)) i args l)
  typed d i fun args l e h r =
      let bound = (ok.right i fun e).bound in
      let lt : ok.rank (group_of spec i) < suc (length spec.funs) = subst (λ g. ok.rank g < suc (length spec.funs)) (sym (group_is i fun e)) (omega (arith, bound)) in
      outcome_of fun.result_type (run spec a d (suc (length spec.funs)) i args l)
      (run_good d (suc (length spec.funs)) i lt fun args l e (are_from (environment_of spec) fun.params args h (params_are i fun e)) r)

pub meanings_have_types : MeaningsHaveTypes
meanings_have_types spec a d i fun args l ok e h r = typed spec ok a d i fun args l e h r
