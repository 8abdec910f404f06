-- The meaning of code over any base: the reinterpretation by nodes. A frame is the list of the values of slots; nodes run in order, and
-- each writes the next slot. Where a node has no value, what comes later is not evaluated.
use Rattle.std.specs.Prelude.{ℕ, zero, suc, List, [], ◌∷◌, ◌++◌, Option, Some, None, if◌then◌else◌, slice_get}
use Rattle.base_trait.specs.Algebra.{Algebra}
use Rattle.base_trait.specs.Uses.{Seen}
use Rattle.spec_ir.specs.Specification.{Spec}
use Rattle.semantics_values.specs.Types.{environment_of}
use Rattle.semantics.specs.Steps.{is_word}
use Rattle.abstract_value_laws.specs.Abs as v
use Rattle.abstract_value_laws.specs.Abs.{Abs}
use Rattle.abstract_value_laws.specs.Calls.{join_of}
use Rattle.abstract_value_laws.specs.OfValues.{only}
use Rattle.support_tail_fixpoint.specs.Answer.{Yield, gives}
use Rattle.abstract_semantics.specs.Answers.{Answer, Evaluation, behind, branch, joined, ◌>>=◌}
use Rattle.abstract_semantics.specs.Steps.{accessed, binary, compared, made_of, resized, unary, updated}
use Rattle.abstract_semantics.specs.Choices.{decided, flag_there}
use Rattle.abstract_semantics.specs.Terms.{GroupArgs, asked_with, bodies, join_yields, leaf_of}
use Rattle.eval_code.specs.Code as code
use Rattle.eval_code.specs.Code.{Node, Nodes, Stretch, Stretches, Tail, Tails, End, FunCode}

module _ {W N : Type 0} where
  -- the value of a slot
  abbrev pub at_slot : List (Abs W N) → ℕ → Evaluation (Abs W N)
  at_slot frame s l = gives (slice_get frame s) l

  -- the values of slots
  abbrev pub at_slots : List (Abs W N) → List ℕ → Evaluation (List (Abs W N))
  at_slots frame [] l = gives (Some []) l
  at_slots frame (s ∷ ss) l = at_slot frame s l >>= λ p l. at_slots frame ss l >>= λ ps l. gives (Some (p ∷ ps)) l

-- cap is the room of a map, a the address of the instruction, and `calls` what a call of a function gives, with its own reads
module _ {W N C : Type 0} (B : Algebra W N C) (c : C) (cap : ℕ) (spec : Spec) (a : ℕ) (calls : ℕ → List (Abs W N) → Answer (Abs W N)) where
  abbrev mutual
    -- the value that a node writes
    pub node_value : List (Abs W N) → Node → List Seen → Answer (Abs W N)
    node_value frame (code.flag b) l = gives (Some (v.flag (only b))) l
    node_value frame (code.word w n) l = gives (if is_word w n then Some (v.word w (B.words.constant c w n)) else None) l
    node_value frame (code.un op w x) l = at_slot frame x l >>= λ p l. gives (unary B c op w p) l
    node_value frame (code.bin op w x y) l = at_slot frame x l >>= λ p l. at_slot frame y l >>= λ q l. gives (binary B c op w p q) l
    node_value frame (code.test k w x y) l = at_slot frame x l >>= λ p l. at_slot frame y l >>= λ q l. gives (compared B c k w p q) l
    node_value frame (code.cast kind from to x) l = at_slot frame x l >>= λ p l. gives (resized B c kind from to p) l
    node_value frame (code.if_else k x y) l = at_slot frame k l >>= λ p l. branch (join_of B c cap) (flag_there (Some p)) (stretch_value frame x) (stretch_value frame y) l
    node_value frame (code.choose x by arms) l = at_slot frame x l >>= λ p l. decided B c (join_of B c cap) (λ r vs m. arm_value frame arms r vs m) p by l
    node_value frame (code.make d k args) l = at_slots frame args l >>= λ ps l. gives (made_of (environment_of spec) d k ps) l
    node_value frame (code.call f args) l = at_slots frame args l >>= λ ps l. behind l (calls f ps)
    node_value frame (code.get m x k) l = at_slot frame x l >>= λ p l. at_slot frame k l >>= λ q l. accessed B c m p q l
    node_value frame (code.put m x k v) l = at_slot frame x l >>= λ p l. at_slot frame k l >>= λ q l. at_slot frame v l >>= λ r l. gives (updated B c cap a m p q r) l

    -- the frame behind nodes
    pub frame_after : List (Abs W N) → Nodes → List Seen → Answer (List (Abs W N))
    frame_after frame code.no_node l = gives (Some frame) l
    frame_after frame (code.node_then n ns) l = node_value frame n l >>= λ p l. frame_after (frame ++ p ∷ []) ns l

    pub stretch_value : List (Abs W N) → Stretch → List Seen → Answer (Abs W N)
    stretch_value frame (code.stretch ns s) l = frame_after frame ns l >>= λ frame l. at_slot frame s l

    -- arm number r, behind what the variables of its row name
    pub arm_value : List (Abs W N) → Stretches → ℕ → List (Abs W N) → List Seen → Answer (Abs W N)
    arm_value frame code.no_stretch r vs l = gives None l
    arm_value frame (code.stretch_then x rest) zero vs l = stretch_value (frame ++ vs) x l
    arm_value frame (code.stretch_then x rest) (suc r) vs l = arm_value frame rest r vs l

  abbrev mutual
    -- what a tail gives to a turn
    pub tail_turn : List (Abs W N) → Tail → List Seen → Answer (Yield (GroupArgs W N) (Abs W N))
    tail_turn frame (code.tail ns e) l = frame_after frame ns l >>= λ frame l. end_turn frame e l

    pub end_turn : List (Abs W N) → End → List Seen → Answer (Yield (GroupArgs W N) (Abs W N))
    end_turn frame (code.slot s) l = leaf_of B c cap spec a calls (at_slot frame s l)
    end_turn frame (code.again f args) l = at_slots frame args l >>= λ ps l. gives (asked_with spec f ps) l
    end_turn frame (code.either k x y) l = at_slot frame k l >>= λ p l. branch (join_yields B c cap spec a) (flag_there (Some p)) (tail_turn frame x) (tail_turn frame y) l
    end_turn frame (code.pick x by arms) l = at_slot frame x l >>= λ p l. decided B c (join_yields B c cap spec a) (λ r vs m. arm_turn frame arms r vs m) p by l

    pub arm_turn : List (Abs W N) → Tails → ℕ → List (Abs W N) → List Seen → Answer (Yield (GroupArgs W N) (Abs W N))
    arm_turn frame code.no_tail r vs l = gives None l
    arm_turn frame (code.tail_then x rest) zero vs l = tail_turn (frame ++ vs) x l
    arm_turn frame (code.tail_then x rest) (suc r) vs l = arm_turn frame rest r vs l

  -- what the body of a function gives to a turn on arguments, if there is one
  abbrev pub code_turn : Option FunCode → List (Abs W N) → Evaluation (Yield (GroupArgs W N) (Abs W N))
  code_turn None xs l = gives None l
  code_turn (Some f) xs l = tail_turn xs f.body l

  -- what a turn of a group gives on group arguments, by the code of its functions
  abbrev pub group_turn : List FunCode → GroupArgs W N → Evaluation (Yield (GroupArgs W N) (Abs W N))
  group_turn code args = joined (join_yields B c cap spec a) (bodies B c cap spec a (λ i xs. code_turn (slice_get code i) xs) args)
