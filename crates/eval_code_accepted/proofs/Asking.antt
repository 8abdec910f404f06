-- Bodies ask for functions of their group that are there.
use Rattle.std.proofs.Common.{◌≡◌, ℕ, suc, ◌+◌, ◌<◌, ◌==◌, Bool, true, false, List, [], ◌∷◌, ◌++◌, length, Some, slice_get, refl, sym, ap, subst}
use Rattle.std.specs.Prelude.{⊤, if◌then◌else◌}
use Rattle.std.proofs.lemmas.Bool.{eqb-true as same_number}
use Rattle.std.proofs.lemmas.Option.{slice_get_within}
use Rattle.spec_match_compiler.specs.Decisions.{Decision}
use Rattle.spec_ir.specs.declared.ty.Ty.{Ty}
use Rattle.spec_ir.specs.Environment.{Environment, Signature}
use Rattle.spec_ir.specs.CoreTerms as c
use Rattle.spec_ir.specs.CoreTerms.{Core, Cores}
use Rattle.spec_ir.specs.Cores.{arms_of, core_of, type_in, variable_types}
use Rattle.spec_ir.specs.Terms as t
use Rattle.spec_ir.specs.Terms.{Term, Arms}
use Rattle.spec_ir.specs.TermTypes.{ArmsHaveType, HasType}
use Rattle.semantics_values.specs.Types.{environment_of}
use Rattle.semantics.specs.Direct.{group_at, group_of}
use Rattle.semantics_laws.proofs.Turns.{fun_of}
use Rattle.eval_code.specs.Asks.{AllAskWithin, AsksWithin}
use Rattle.eval_code.specs.Code.{again}
use Rattle.eval_code.specs.Lowered.{all_lowered, at_end, ended_after_all, ends, lowered, lowered_tail, lowered_tails, slots_from, tail_of, taken}
use Rattle.eval_code_accepted.specs.Laws.{AcceptedCodeAsksWithin}
use Rattle.eval_code_accepted.proofs.Bodies.{body_of}

-- Calls in tail position are of functions that are there, of which there are n.
module _ (n : ℕ) where
  abbrev mutual
    CallsThere : Core → Type 0
    CallsThere (c.let_in x y) = CallsThere y
    CallsThere (c.if_else k x y) = CallsThere x × CallsThere y
    CallsThere (c.choose x by arms) = AllCallThere arms
    CallsThere (c.call f args) = f < n
    CallsThere x = ⊤

    AllCallThere : Cores → Type 0
    AllCallThere c.no_core = ⊤
    AllCallThere (c.core_then x rest) = CallsThere x × AllCallThere rest

  -- ---- by the types of terms; `more` are the types by which a core term is made
  module _ (env : Environment) (there : (f : ℕ) (s : Signature) → slice_get env.funs f ≡ Some s → f < n) where
    mutual
      calls_there : (x : Term) (vars more : List Ty) (ty : Ty) → HasType env vars x ty → CallsThere (core_of env more x)
      calls_there (t.var v) vars more ty h = tt
      calls_there (t.flag b) vars more ty h = tt
      calls_there (t.word w v) vars more ty h = tt
      calls_there (t.un op w x) vars more ty h = tt
      calls_there (t.bin op w x y) vars more ty h = tt
      calls_there (t.test k w x y) vars more ty h = tt
      calls_there (t.cast kind from to x) vars more ty h = tt
      calls_there (t.let_in x y) vars more ty h = calls_there y (vars ++ h.0 ∷ []) (more ++ type_in env more x ∷ []) ty h.2
      calls_there (t.if_else k x y) vars more ty h = (calls_there x vars more ty h.1, calls_there y vars more ty h.2)
      calls_there (t.match_on x arms) vars more ty h = arms_there arms vars more h.0 (type_in env more x) ty h.2
      calls_there (t.make d k args) vars more ty h = tt
      calls_there (t.call f args) vars more ty h = there f h.0 h.1
      calls_there (t.get m x k) vars more ty h = tt
      calls_there (t.put m x k v) vars more ty h = tt

      arms_there : (arms : Arms) (vars more : List Ty) (from other ty : Ty) → ArmsHaveType env vars from arms ty → AllCallThere (arms_of env more other arms)
      arms_there t.no_arm vars more from other ty h = tt
      arms_there (t.arm_then p x rest) vars more from other ty h =
          (calls_there x (vars ++ h.0) (more ++ variable_types env other p) ty h.2, arms_there rest vars more from other ty h.3)

  -- ---- in the code
  module _ (group : ℕ → ℕ) (g : ℕ) where
    call_asks : (b : Bool) (f : ℕ) (args : Cores) (scope : List ℕ) (d : ℕ) → (group f == g) ≡ b → f < n
        → AsksWithin n group g (tail_of (if b then ended_after_all (all_lowered scope d args) (λ ps d. ends (again f ps)) else at_end (lowered scope d (c.call f args))))
    call_asks true f args scope d is lt = (lt, same_number (group f) g is)
    call_asks false f args scope d is lt = tt

    mutual
      tail_asks : (x : Core) (scope : List ℕ) (d : ℕ) → CallsThere x → AsksWithin n group g (tail_of (lowered_tail group g scope d x))
      tail_asks (c.let_in x y) scope d h = let r = lowered scope d x in tail_asks y (scope ++ r.slot ∷ []) r.next h
      tail_asks (c.if_else k x y) scope d h = let r = lowered scope d k in (tail_asks x scope r.next h.0, tail_asks y scope r.next h.1)
      tail_asks (c.choose x by arms) scope d h = let r = lowered scope d x in tails_ask arms scope r.next by 0 h
      tail_asks (c.call f args) scope d h = call_asks (group f == g) f args scope d refl h
      tail_asks (c.var v) scope d h = tt
      tail_asks (c.flag b) scope d h = tt
      tail_asks (c.word w v) scope d h = tt
      tail_asks (c.un op w x) scope d h = tt
      tail_asks (c.bin op w x y) scope d h = tt
      tail_asks (c.test k w x y) scope d h = tt
      tail_asks (c.cast kind from to x) scope d h = tt
      tail_asks (c.make ty k args) scope d h = tt
      tail_asks (c.get m x k) scope d h = tt
      tail_asks (c.put m x k v) scope d h = tt

      tails_ask : (ts : Cores) (scope : List ℕ) (d : ℕ) (by : Decision) (r : ℕ) → AllCallThere ts → AllAskWithin n group g (lowered_tails group g scope d by r ts)
      tails_ask c.no_core scope d by r h = tt
      tails_ask (c.core_then x rest) scope d by r h = (tail_asks x (scope ++ slots_from d (taken r by)) (d + taken r by) h.0, tails_ask rest scope d by (suc r) h.1)

pub accepted_code_asks_within : AcceptedCodeAsksWithin
accepted_code_asks_within spec code f body ok is e =
    let found = body_of spec code f body is e in
    let fun = found.fun in
    let right = ok.right f fun found.there in
    let n = length spec.funs in
    let env = environment_of spec in
    let there : (f : ℕ) (s : Signature) → slice_get env.funs f ≡ Some s → f < n = λ h s d. (let own = fun_of spec h s d in slice_get_within spec.funs h own.fun own.is) in
    let calls = subst (CallsThere n) (sym right.core) (calls_there n env there fun.body fun.params fun.params fun.result_type right.typed) in
    let group : group_of spec f ≡ fun.group = ap group_at found.there in
    let asks = tail_asks n (group_of spec) fun.group fun.core (slots_from 0 (length fun.params)) (length fun.params) calls in
    subst (λ g. AsksWithin n (group_of spec) g body.body) (sym group) (subst (λ b. AsksWithin n (group_of spec) fun.group b.body) found.same asks)
