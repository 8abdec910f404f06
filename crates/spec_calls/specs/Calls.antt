-- Calls in typed terms, and which of them stand in tail position.
use Rattle.std.specs.Prelude.{ℕ, Bool, true, false, List, [], ◌∷◌, ◌++◌, map}
use Rattle.spec_ir.specs.Terms.{Term, Terms, Arms, var, flag, word, un, bin, test, cast, let_in, if_else, match_on, make, call, get, put, no_term, term_then, no_arm, arm_then}
use Rattle.spec_calls.specs.declared.call.Call.{Call}

-- a call of function f
abbrev pub call_of : ℕ → Bool → Call
call_of f tail = record { fun = f; tail = tail }

abbrev mutual
  -- the calls of a term that stands in tail position or doesn't, in the order in which they are made
  pub calls : Bool → Term → List Call
  calls tail (var n) = []
  calls tail (flag b) = []
  calls tail (word w v) = []
  calls tail (un op w x) = calls false x
  calls tail (bin op w x y) = calls false x ++ calls false y
  calls tail (test c w x y) = calls false x ++ calls false y
  calls tail (cast kind from to x) = calls false x
  calls tail (let_in x body) = calls false x ++ calls tail body
  calls tail (if_else c x y) = calls false c ++ calls tail x ++ calls tail y
  calls tail (match_on x arms) = calls false x ++ arm_calls tail arms
  calls tail (make ty k args) = all_calls args
  calls tail (call f args) = all_calls args ++ call_of f tail ∷ []
  calls tail (get m x k) = calls false x ++ calls false k
  calls tail (put m x k v) = calls false x ++ calls false k ++ calls false v

  pub all_calls : Terms → List Call
  all_calls no_term = []
  all_calls (term_then t ts) = calls false t ++ all_calls ts

  pub arm_calls : Bool → Arms → List Call
  arm_calls tail no_arm = []
  arm_calls tail (arm_then p t rest) = calls tail t ++ arm_calls tail rest

-- the functions that each of these bodies calls
abbrev pub call_graph : List Term → List (List ℕ)
call_graph bodies = map (λ body. map (λ c. c.fun) (calls true body)) bodies
