-- The meaning of code again (eval_code_meaning specs/Meaning, clause by clause), but what a slot of a frame has is what `reading` says: so
-- it can be asked what the meaning depends on.
use Rattle.std.specs.Prelude.{◌≡◌, ℕ, zero, suc, ◌<◌, List, [], ◌∷◌, ◌++◌, Option, Some, None, if◌then◌else◌, length, slice_get, get_or}
use Rattle.base_trait.specs.Algebra.{Algebra}
use Rattle.base_trait.specs.Uses.{Seen}
use Rattle.spec_ir.specs.Specification.{Spec}
use Rattle.semantics_values.specs.Types.{environment_of}
use Rattle.semantics.specs.Steps.{is_word}
use Rattle.abstract_value_laws.specs.Abs as v
use Rattle.abstract_value_laws.specs.Abs.{Abs}
use Rattle.abstract_value_laws.specs.Calls.{join_of}
use Rattle.abstract_value_laws.specs.OfValues.{only}
use Rattle.support_tail_fixpoint.specs.Answer.{Yield, gives}
use Rattle.abstract_semantics.specs.Answers.{Answer, Evaluation, behind, branch, ◌>>=◌}
use Rattle.abstract_semantics.specs.Steps.{accessed, binary, compared, made_of, resized, unary, updated}
use Rattle.abstract_semantics.specs.Choices.{decided, flag_there}
use Rattle.abstract_semantics.specs.Terms.{GroupArgs, asked_with, join_yields, leaf_of}
use Rattle.eval_code.specs.Code as code
use Rattle.eval_code.specs.Code.{Node, Nodes, Stretch, Stretches, Tail, Tails, End, FunCode}

-- what a slot of a frame has
abbrev pub Reading : Type 0 → Type 0 → Type 0
Reading W N = List (Abs W N) → ℕ → Option (Abs W N)

-- A reading is right on the slots that are written, whatever it gives for others.
abbrev pub IsRightWhereWritten : {W N : Type 0} → Reading W N → Type 0
IsRightWhereWritten {W = W} {N = N} reading = (frame : List (Abs W N)) (s : ℕ) → s < length frame → reading frame s ≡ slice_get frame s

-- A slot that is not there reads as x.
abbrev pub or_else : {W N : Type 0} → Abs W N → Reading W N
or_else x frame s = Some (get_or frame s x)

module _ {W N : Type 0} (reading : Reading W N) where
  -- the value of a slot
  abbrev pub read_slot : List (Abs W N) → ℕ → Evaluation (Abs W N)
  read_slot frame s l = gives (reading frame s) l

  -- the values of slots
  abbrev pub read_slots : List (Abs W N) → List ℕ → Evaluation (List (Abs W N))
  read_slots frame [] l = gives (Some []) l
  read_slots frame (s ∷ ss) l = read_slot frame s l >>= λ p l. read_slots frame ss l >>= λ ps l. gives (Some (p ∷ ps)) l

-- cap is the room of a map, a the address of the instruction, and `calls` what a call of a function gives, with its own reads
module _ {W N C : Type 0} (B : Algebra W N C) (c : C) (cap : ℕ) (spec : Spec) (a : ℕ) (calls : ℕ → List (Abs W N) → Answer (Abs W N)) (reading : Reading W N) where
  abbrev mutual
    -- the value that a node writes
    pub read_node : List (Abs W N) → Node → List Seen → Answer (Abs W N)
    read_node frame (code.flag b) l = gives (Some (v.flag (only b))) l
    read_node frame (code.word w n) l = gives (if is_word w n then Some (v.word w (B.words.constant c w n)) else None) l
    read_node frame (code.un op w x) l = read_slot reading frame x l >>= λ p l. gives (unary B c op w p) l
    read_node frame (code.bin op w x y) l = read_slot reading frame x l >>= λ p l. read_slot reading frame y l >>= λ q l. gives (binary B c op w p q) l
    read_node frame (code.test k w x y) l = read_slot reading frame x l >>= λ p l. read_slot reading frame y l >>= λ q l. gives (compared B c k w p q) l
    read_node frame (code.cast kind from to x) l = read_slot reading frame x l >>= λ p l. gives (resized B c kind from to p) l
    read_node frame (code.if_else k x y) l = read_slot reading frame k l >>= λ p l. branch (join_of B c cap) (flag_there (Some p)) (read_stretch frame x) (read_stretch frame y) l
    read_node frame (code.choose x by arms) l = read_slot reading frame x l >>= λ p l. decided B c (join_of B c cap) (λ r vs m. read_arm frame arms r vs m) p by l
    read_node frame (code.make d k args) l = read_slots reading frame args l >>= λ ps l. gives (made_of (environment_of spec) d k ps) l
    read_node frame (code.call f args) l = read_slots reading frame args l >>= λ ps l. behind l (calls f ps)
    read_node frame (code.get m x k) l = read_slot reading frame x l >>= λ p l. read_slot reading frame k l >>= λ q l. accessed B c m p q l
    read_node frame (code.put m x k v) l = read_slot reading frame x l >>= λ p l. read_slot reading frame k l >>= λ q l. read_slot reading frame v l >>= λ r l. gives (updated B c cap a m p q r) l

    -- the frame behind nodes
    pub frame_read : List (Abs W N) → Nodes → List Seen → Answer (List (Abs W N))
    frame_read frame code.no_node l = gives (Some frame) l
    frame_read frame (code.node_then n ns) l = read_node frame n l >>= λ p l. frame_read (frame ++ p ∷ []) ns l

    pub read_stretch : List (Abs W N) → Stretch → List Seen → Answer (Abs W N)
    read_stretch frame (code.stretch ns s) l = frame_read frame ns l >>= λ frame l. read_slot reading frame s l

    -- arm number r, behind what the variables of its row name
    pub read_arm : List (Abs W N) → Stretches → ℕ → List (Abs W N) → List Seen → Answer (Abs W N)
    read_arm frame code.no_stretch r vs l = gives None l
    read_arm frame (code.stretch_then x rest) zero vs l = read_stretch (frame ++ vs) x l
    read_arm frame (code.stretch_then x rest) (suc r) vs l = read_arm frame rest r vs l

  abbrev mutual
    -- what a tail gives to a turn
    pub tail_read : List (Abs W N) → Tail → List Seen → Answer (Yield (GroupArgs W N) (Abs W N))
    tail_read frame (code.tail ns e) l = frame_read frame ns l >>= λ frame l. end_read frame e l

    pub end_read : List (Abs W N) → End → List Seen → Answer (Yield (GroupArgs W N) (Abs W N))
    end_read frame (code.slot s) l = leaf_of B c cap spec a calls (read_slot reading frame s l)
    end_read frame (code.again f args) l = read_slots reading frame args l >>= λ ps l. gives (asked_with spec f ps) l
    end_read frame (code.either k x y) l = read_slot reading frame k l >>= λ p l. branch (join_yields B c cap spec a) (flag_there (Some p)) (tail_read frame x) (tail_read frame y) l
    end_read frame (code.pick x by arms) l = read_slot reading frame x l >>= λ p l. decided B c (join_yields B c cap spec a) (λ r vs m. arm_read frame arms r vs m) p by l

    pub arm_read : List (Abs W N) → Tails → ℕ → List (Abs W N) → List Seen → Answer (Yield (GroupArgs W N) (Abs W N))
    arm_read frame code.no_tail r vs l = gives None l
    arm_read frame (code.tail_then x rest) zero vs l = tail_read (frame ++ vs) x l
    arm_read frame (code.tail_then x rest) (suc r) vs l = arm_read frame rest r vs l

  -- what the body of a function gives to a turn on arguments, if there is one
  abbrev pub code_read : Option FunCode → List (Abs W N) → Evaluation (Yield (GroupArgs W N) (Abs W N))
  code_read None xs l = gives None l
  code_read (Some f) xs l = tail_read xs f.body l
