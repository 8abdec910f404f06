-- The values of nodes that compute them from slots alone.
use Rattle.std.specs.Prelude.{⊤, ℕ, List, Option, Some, None, option_and_then, slice_get, if◌then◌else◌}
use Rattle.base_trait.specs.Algebra.{Algebra}
use Rattle.spec_ir.specs.Specification.{Spec}
use Rattle.semantics_values.specs.Types.{environment_of}
use Rattle.semantics.specs.Steps.{is_word}
use Rattle.semantics_laws.specs.Places.{all_of}
use Rattle.abstract_value_laws.specs.Abs.{Abs, flag, word}
use Rattle.abstract_value_laws.specs.OfValues.{only}
use Rattle.base_trait.specs.Uses.{Seen}
use Rattle.support_tail_fixpoint.specs.Answer.{gives}
use Rattle.abstract_semantics.specs.Answers.{Answer, behind, ◌>>=◌}
use Rattle.abstract_semantics.specs.Steps.{accessed, binary, compared, made_of, resized, unary, updated}
use Rattle.eval_code_meaning.specs.Meaning.{at_slots}
use Rattle.eval_code.specs.Code as code
use Rattle.eval_code.specs.Code.{Node}

-- what both, or all three, give, where they are there
abbrev pub two_on : {A D E : Type 0} → (A → D → Option E) → Option A → Option D → Option E
two_on f (Some p) (Some q) = f p q
two_on f _ _ = None

abbrev pub three_on : {A D E F : Type 0} → (A → D → E → Option F) → Option A → Option D → Option E → Option F
three_on f (Some p) (Some q) (Some r) = f p q r
three_on f _ _ _ = None

module _ {W N C : Type 0} (B : Algebra W N C) (c : C) (cap : ℕ) (spec : Spec) (a : ℕ) (frame : List (Abs W N)) where
  -- the value of a node that is plain
  abbrev pub plain_value : Node → Option (Abs W N)
  plain_value (code.flag b) = Some (flag (only b))
  plain_value (code.word w n) = if is_word w n then Some (word w (B.words.constant c w n)) else None
  plain_value (code.un op w x) = option_and_then (unary B c op w) (slice_get frame x)
  plain_value (code.bin op w x y) = two_on (binary B c op w) (slice_get frame x) (slice_get frame y)
  plain_value (code.test k w x y) = two_on (compared B c k w) (slice_get frame x) (slice_get frame y)
  plain_value (code.cast kind from to x) = option_and_then (resized B c kind from to) (slice_get frame x)
  plain_value (code.make d k args) = option_and_then (made_of (environment_of spec) d k) (all_of (slice_get frame) args)
  plain_value (code.put m x k v) = three_on (updated B c cap a m) (slice_get frame x) (slice_get frame k) (slice_get frame v)
  plain_value _ = None

-- the word that a node reads, where map and key are there
abbrev pub read_value : {W N C : Type 0} → Algebra W N C → C → ℕ → Option (Abs W N) → Option (Abs W N) → List Seen → Answer (Abs W N)
read_value B c m (Some p) (Some q) l = accessed B c m p q l
read_value B c m _ _ l = gives None l

-- the value of a call on slots
abbrev pub call_value : {W N : Type 0} → (ℕ → List (Abs W N) → Answer (Abs W N)) → List (Abs W N) → ℕ → List ℕ → List Seen → Answer (Abs W N)
call_value calls frame f args l = at_slots frame args l >>= λ ps l. behind l (calls f ps)

-- A node is no `if`, no choice, no call and no read.
abbrev pub IsPlain : Node → Type 0
IsPlain (code.if_else k x y) = ⊥
IsPlain (code.choose x by arms) = ⊥
IsPlain (code.call f args) = ⊥
IsPlain (code.get m x k) = ⊥
IsPlain _ = ⊤
