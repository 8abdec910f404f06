-- The reinterpretation of core terms over any base (Lim and Reps, "TSL", TOPLAS 35(1), 2013: reinterpretation and paired conditionals).
use Rattle.std.specs.Prelude.{ℕ, zero, suc, ◌==◌, if◌then◌else◌, List, [], ◌∷◌, ◌++◌, Option, Some, None, slice_get}
use Rattle.base_trait.specs.Algebra.{Algebra}
use Rattle.base_trait.specs.Uses.{Seen}
use Rattle.spec_ir.specs.declared.ty.Ty.{Ty}
use Rattle.spec_ir.specs.CoreTerms as t
use Rattle.spec_ir.specs.CoreTerms.{Core, Cores}
use Rattle.spec_ir.specs.Specification.{Spec, Fun}
use Rattle.semantics_values.specs.Types.{environment_of}
use Rattle.semantics.specs.Direct.{group_of}
use Rattle.semantics.specs.Steps.{is_word}
use Rattle.abstract_value_laws.specs.Abs.{Abs, flag, word, parts}
use Rattle.abstract_value_laws.specs.Calls.{join_of}
use Rattle.abstract_value_laws.specs.OfValues.{only}
use Rattle.abstract_value_laws.specs.Types.{have_types}
use Rattle.support_tail_fixpoint.specs.Answer.{Yield, gives}
use Rattle.support_tail_fixpoint.specs.Groups.{join_some, only as only_of, merge_each}
use Rattle.abstract_semantics.specs.Answers.{Answer, Evaluation, behind, branch, joined, ◌>>=◌}
use Rattle.abstract_semantics.specs.Steps.{accessed, binary, compared, made_of, resized, unary, updated}
use Rattle.abstract_semantics.specs.Choices.{decided, flag_there}

-- the types of the parameters of a function
abbrev pub params_in : Option Fun → List Ty
params_in None = []
params_in (Some f) = f.params

abbrev pub params_of : Spec → ℕ → List Ty
params_of spec f = params_in (slice_get spec.funs f)

-- group arguments: for each function of a group, by its number, an argument list or none
abbrev pub GroupArgs : Type 0 → Type 0 → Type 0
GroupArgs W N = List (Option (List (Abs W N)))

-- two lists, item by item; the first goes on alone
abbrev pub merge_all : {A : Type 0} → (A → A → A) → List A → List A → List A
merge_all f (x ∷ xs) (y ∷ ys) = f x y ∷ merge_all f xs ys
merge_all f xs _ = xs

module _ {W N : Type 0} where
  -- a value in tail position
  abbrev pub leaf : Abs W N → Yield (GroupArgs W N) (Abs W N)
  leaf x = record { out = Some x; next = None }

  -- a call within the group
  abbrev pub asks : ℕ → List (Abs W N) → Yield (GroupArgs W N) (Abs W N)
  asks f xs = record { out = None; next = Some (only_of f xs) }

  -- one on arguments of the parameters' types
  abbrev pub asked_with : Spec → ℕ → List (Abs W N) → Option (Yield (GroupArgs W N) (Abs W N))
  asked_with spec f xs = if have_types (environment_of spec) (parts xs) (params_of spec f) then Some (asks f xs) else None

-- cap is the room of a map, and a the address of the instruction
module _ {W N C : Type 0} (B : Algebra W N C) (c : C) (cap : ℕ) (spec : Spec) (a : ℕ) where
  abbrev pub join_yields : Yield (GroupArgs W N) (Abs W N) → Yield (GroupArgs W N) (Abs W N) → Yield (GroupArgs W N) (Abs W N)
  join_yields y z = record { out = join_some (join_of B c cap) y.out z.out; next = join_some (merge_each (merge_all (join_of B c cap))) y.next z.next }

  -- `calls` is what a call of a function gives, with its own reads; the last list is the log before
  module _ (calls : ℕ → List (Abs W N) → Answer (Abs W N)) where
    abbrev mutual
      -- the value of a term outside tail position
      pub value_of : List (Abs W N) → Core → List Seen → Answer (Abs W N)
      value_of env (t.var n) l = gives (slice_get env n) l
      value_of env (t.flag b) l = gives (Some (flag (only b))) l
      value_of env (t.word w v) l = gives (if is_word w v then Some (word w (B.words.constant c w v)) else None) l
      value_of env (t.un op w x) l = value_of env x l >>= λ p l. gives (unary B c op w p) l
      value_of env (t.bin op w x y) l = value_of env x l >>= λ p l. value_of env y l >>= λ q l. gives (binary B c op w p q) l
      value_of env (t.test k w x y) l = value_of env x l >>= λ p l. value_of env y l >>= λ q l. gives (compared B c k w p q) l
      value_of env (t.cast kind from to x) l = value_of env x l >>= λ p l. gives (resized B c kind from to p) l
      value_of env (t.let_in x body) l = value_of env x l >>= λ p l. value_of (env ++ p ∷ []) body l
      value_of env (t.if_else k x y) l = value_of env k l >>= λ p l. branch (join_of B c cap) (flag_there (Some p)) (value_of env x) (value_of env y) l
      value_of env (t.choose x by arms) l = value_of env x l >>= λ p l. decided B c (join_of B c cap) (λ r vs m. arm_of env arms r vs m) p by l
      value_of env (t.make d k args) l = values_of env args l >>= λ ps l. gives (made_of (environment_of spec) d k ps) l
      value_of env (t.call f args) l = values_of env args l >>= λ ps l. behind l (calls f ps)
      value_of env (t.get m x k) l = value_of env x l >>= λ p l. value_of env k l >>= λ q l. accessed B c m p q l
      value_of env (t.put m x k v) l = value_of env x l >>= λ p l. value_of env k l >>= λ q l. value_of env v l >>= λ r l. gives (updated B c cap a m p q r) l

      -- the values of terms, one after the other
      pub values_of : List (Abs W N) → Cores → List Seen → Answer (List (Abs W N))
      values_of env t.no_core l = gives (Some []) l
      values_of env (t.core_then x rest) l = value_of env x l >>= λ p l. values_of env rest l >>= λ ps l. gives (Some (p ∷ ps)) l

      -- arm number r, behind what the variables of its row name
      pub arm_of : List (Abs W N) → Cores → ℕ → List (Abs W N) → List Seen → Answer (Abs W N)
      arm_of env t.no_core r vs l = gives None l
      arm_of env (t.core_then x rest) zero vs l = value_of (env ++ vs) x l
      arm_of env (t.core_then x rest) (suc r) vs l = arm_of env rest r vs l

    -- a value in tail position is a leaf
    abbrev pub leaf_of : Answer (Abs W N) → Answer (Yield (GroupArgs W N) (Abs W N))
    leaf_of r = r >>= λ x l. gives (Some (leaf x)) l

    module _ (g : ℕ) where
      abbrev pub called : ℕ → List (Abs W N) → List Seen → Answer (Yield (GroupArgs W N) (Abs W N))
      called f ps l = if group_of spec f == g then gives (asked_with spec f ps) l else leaf_of (behind l (calls f ps))

      abbrev mutual
        -- what a term in tail position gives to a turn of group g
        pub turn_of : List (Abs W N) → Core → List Seen → Answer (Yield (GroupArgs W N) (Abs W N))
        turn_of env (t.let_in x body) l = value_of env x l >>= λ p l. turn_of (env ++ p ∷ []) body l
        turn_of env (t.if_else k x y) l = value_of env k l >>= λ p l. branch join_yields (flag_there (Some p)) (turn_of env x) (turn_of env y) l
        turn_of env (t.choose x by arms) l = value_of env x l >>= λ p l. decided B c join_yields (λ r vs m. turn_arm env arms r vs m) p by l
        turn_of env (t.call f args) l = values_of env args l >>= λ ps l. called f ps l
        turn_of env x l = leaf_of (value_of env x l)

        pub turn_arm : List (Abs W N) → Cores → ℕ → List (Abs W N) → List Seen → Answer (Yield (GroupArgs W N) (Abs W N))
        turn_arm env t.no_core r vs l = gives None l
        turn_arm env (t.core_then x rest) zero vs l = turn_of (env ++ vs) x l
        turn_arm env (t.core_then x rest) (suc r) vs l = turn_arm env rest r vs l

      -- what a body gives, if there is one
      abbrev pub body_turn : Option Fun → List (Abs W N) → Evaluation (Yield (GroupArgs W N) (Abs W N))
      body_turn None xs l = gives None l
      body_turn (Some fun) xs l = turn_of xs fun.core l

  -- what functions that have arguments give, in the order of their numbers, where function i gives what `on i` says
  abbrev pub bodies : (on : ℕ → List (Abs W N) → Evaluation (Yield (GroupArgs W N) (Abs W N))) → GroupArgs W N → List (Evaluation (Yield (GroupArgs W N) (Abs W N)))
  bodies on [] = []
  bodies on (None ∷ rest) = bodies (λ i. on (suc i)) rest
  bodies on (Some xs ∷ rest) = on zero xs ∷ bodies (λ i. on (suc i)) rest

  -- what a turn of group g gives on group arguments
  abbrev pub group_turn : (calls : ℕ → List (Abs W N) → Answer (Abs W N)) → ℕ → GroupArgs W N → Evaluation (Yield (GroupArgs W N) (Abs W N))
  group_turn calls g args = joined join_yields (bodies (λ i xs. body_turn calls g (slice_get spec.funs i) xs) args)
