-- Code whose slots are read by a reading that is right where slots are written gives what it means.
use Rattle.std.proofs.Common.{◌≡◌, ℕ, zero, suc, ◌+◌, ◌<◌, List, [], ◌∷◌, ◌++◌, Some, None, length, refl, sym, ap, ◌∙◌, subst, arith, length-append}
use Rattle.base_trait.specs.Algebra.{Algebra}
use Rattle.base_trait.specs.Uses.{Seen}
use Rattle.spec_ir.specs.Specification.{Spec}
use Rattle.semantics_values.specs.Types.{environment_of}
use Rattle.abstract_value_laws.specs.Abs.{Abs}
use Rattle.abstract_value_laws.specs.Calls.{join_of}
use Rattle.support_tail_fixpoint.specs.Answer.{fails, gives}
use Rattle.abstract_semantics.specs.Answers.{Answer, behind, branch, ◌>>=◌}
use Rattle.abstract_semantics.specs.Choices.{decided, flag_there}
use Rattle.abstract_semantics.specs.Steps.{accessed, binary, compared, made_of, resized, unary, updated}
use Rattle.abstract_semantics.specs.Terms.{asked_with, join_yields, leaf_of}
use Rattle.abstract_semantics.proofs.Alike.{AreAlike, branch_alike}
use Rattle.eval_code.specs.Code as code
use Rattle.eval_code.specs.Code.{Node, Nodes, Stretch, Stretches, Tail, Tails, End, FunCode}
use Rattle.eval_code.specs.Valid.{ArmReads, ArmTailReads, Below, EndReads, IsValid, NodeReads, NodesRead, StretchReads, TailReads, count}
use Rattle.eval_code_meaning.specs.Meaning.{arm_turn, arm_value, at_slot, at_slots, code_turn, end_turn, frame_after, node_value, stretch_value, tail_turn}
use Rattle.eval_code_meaning.proofs.Lowering.{named_alike}
use Rattle.eval_code_meaning.proofs.Meets.{Meets, meets_bind, same_bind}
use Rattle.eval_code_meaning.proofs.Rows.{rows_alike}
use Rattle.eval_code_validity.specs.Readings.{IsRightWhereWritten, Reading, arm_read, code_read, end_read, frame_read, or_else, read_arm, read_node, read_slot, read_slots, read_stretch, tail_read}

both_same : {A D : Type 0} (x y : Answer A) (f g : A → List Seen → Answer D) → x ≡ y → ((p : A) (m : List Seen) → f p m ≡ g p m) → x >>= f ≡ y >>= g
both_same (fails i) y f g e h = rw (sym e) refl
both_same (gives None m) y f g e h = rw (sym e) refl
both_same (gives (Some p) m) y f g e h = rw (sym e) (h p m)

pub or_else_right : {W N : Type 0} (x : Abs W N) → IsRightWhereWritten (or_else x)
or_else_right x [] s h = absurd (omega arith)
or_else_right x (p ∷ frame) zero h = refl
or_else_right x (p ∷ frame) (suc s) h = or_else_right x frame s (omega arith)

-- ---- operands
module _ {W N : Type 0} (reading : Reading W N) (right : IsRightWhereWritten reading) (d : ℕ) (frame : List (Abs W N)) (long : length frame ≡ d) where
  slot_same : (s : ℕ) → s < d → AreAlike (read_slot reading frame s) (at_slot frame s)
  slot_same s h l = ap (λ o. gives o l) (right frame s (subst (λ n. s < n) (sym long) h))

  slots_same : (ss : List ℕ) → Below d ss → AreAlike (read_slots reading frame ss) (at_slots frame ss)
  slots_same [] h l = refl
  slots_same (s ∷ ss) h l =
      both_same (read_slot reading frame s l) (at_slot frame s l) (λ p l. read_slots reading frame ss l >>= λ ps l. gives (Some (p ∷ ps)) l) (λ p l. at_slots frame ss l >>= λ ps l. gives (Some (p ∷ ps)) l) (slot_same s h.0 l)
      (λ p m. ap (λ z. z >>= λ ps l. gives (Some (p ∷ ps)) l) (slots_same ss h.1 m))

  module _ {A : Type 0} where
    one_same : (s : ℕ) → s < d → (f g : Abs W N → List Seen → Answer A) → ((p : Abs W N) → AreAlike (f p) (g p)) → AreAlike (λ l. read_slot reading frame s l >>= f) (λ l. at_slot frame s l >>= g)
    one_same s h f g k l = both_same (read_slot reading frame s l) (at_slot frame s l) f g (slot_same s h l) k

    two_same : (s t : ℕ) → s < d → t < d → (f : Abs W N → Abs W N → List Seen → Answer A)
        → AreAlike (λ l. read_slot reading frame s l >>= λ p l. read_slot reading frame t l >>= f p) (λ l. at_slot frame s l >>= λ p l. at_slot frame t l >>= f p)
    two_same s t h i f = one_same s h (λ p l. read_slot reading frame t l >>= f p) (λ p l. at_slot frame t l >>= f p) (λ p. one_same t i (f p) (f p) (λ q m. refl))

    all_same : (ss : List ℕ) → Below d ss → (f : List (Abs W N) → List Seen → Answer A) → AreAlike (λ l. read_slots reading frame ss l >>= f) (λ l. at_slots frame ss l >>= f)
    all_same ss h f l = ap (λ z. z >>= f) (slots_same ss h l)

one_longer : {A : Type 0} (frame : List A) (p : A) (d : ℕ) → length frame ≡ d → length (frame ++ p ∷ []) ≡ suc d
one_longer frame p d e = length-append frame (p ∷ []) ∙ (omega arith)

more_long : {A : Type 0} (frame vs : List A) (d : ℕ) → length frame ≡ d → length (frame ++ vs) ≡ d + length vs
more_long frame vs d e = length-append frame vs ∙ ap (λ n. n + length vs) e

next_count : (d n : ℕ) → suc d + n ≡ d + suc n
next_count d n = omega arith

-- ---- what follows on the same frame
abbrev SameFrame : {A : Type 0} → ℕ → List A → List A → Type 0
SameFrame n fr other = (fr ≡ other) × (length fr ≡ n)

meets_itself : {A : Type 0} (x : Answer A) → Meets (λ p q. p ≡ q) x x
meets_itself (fails i) = refl
meets_itself (gives None l) = refl
meets_itself (gives (Some p) l) = (refl, refl)

meets_same : {A : Type 0} (x y : Answer A) → x ≡ y → Meets (λ p q. p ≡ q) x y
meets_same x y e = subst (λ z. Meets (λ p q. p ≡ q) x z) e (meets_itself x)

behind_same : {A D : Type 0} (n : ℕ) (x y : Answer (List A)) (f g : List A → List Seen → Answer D) → Meets (SameFrame n) x y → ((fr : List A) → length fr ≡ n → AreAlike (f fr) (g fr)) → x >>= f ≡ y >>= g
behind_same n x y f g h k = same_bind (SameFrame n) x y f g h (λ fr other m st. k fr st.1 m ∙ ap (λ z. g z m) st.0)

-- ---- nodes
module _ {W N C : Type 0} (B : Algebra W N C) (c : C) (cap : ℕ) (spec : Spec) (a : ℕ) (calls : ℕ → List (Abs W N) → Answer (Abs W N)) (reading : Reading W N) (right : IsRightWhereWritten reading) where
  mutual
    node_same : (n : Node) (d : ℕ) (frame : List (Abs W N)) → length frame ≡ d → NodeReads d n → AreAlike (read_node B c cap spec a calls reading frame n) (node_value B c cap spec a calls frame n)
    node_same (code.flag b) d frame e h l = refl
    node_same (code.word w n) d frame e h l = refl
    node_same (code.un op w x) d frame e h l = one_same reading right d frame e x h (λ p l. gives (unary B c op w p) l) (λ p l. gives (unary B c op w p) l) (λ p m. refl) l
    node_same (code.bin op w x y) d frame e h l = two_same reading right d frame e x y h.0 h.1 (λ p q l. gives (binary B c op w p q) l) l
    node_same (code.test k w x y) d frame e h l = two_same reading right d frame e x y h.0 h.1 (λ p q l. gives (compared B c k w p q) l) l
    node_same (code.cast kind from to x) d frame e h l = one_same reading right d frame e x h (λ p l. gives (resized B c kind from to p) l) (λ p l. gives (resized B c kind from to p) l) (λ p m. refl) l
    node_same (code.if_else k x y) d frame e h l =
        one_same reading right d frame e k h.0 (λ p l. branch (join_of B c cap) (flag_there (Some p)) (read_stretch B c cap spec a calls reading frame x) (read_stretch B c cap spec a calls reading frame y) l)
        (λ p l. branch (join_of B c cap) (flag_there (Some p)) (stretch_value B c cap spec a calls frame x) (stretch_value B c cap spec a calls frame y) l)
        (λ p. branch_alike (join_of B c cap) (flag_there (Some p)) _ _ _ _ (stretch_same x d frame e h.1) (stretch_same y d frame e h.2)) l
    node_same (code.choose x by arms) d frame e h l =
        one_same reading right d frame e x h.0 (λ p l. decided B c (join_of B c cap) (λ r vs m. read_arm B c cap spec a calls reading frame arms r vs m) p by l)
        (λ p l. decided B c (join_of B c cap) (λ r vs m. arm_value B c cap spec a calls frame arms r vs m) p by l)
        (λ p. rows_alike B c (join_of B c cap) (λ r vs m. read_arm B c cap spec a calls reading frame arms r vs m) (λ r vs m. arm_value B c cap spec a calls frame arms r vs m) p (λ r binds. ArmReads (d + length binds) arms r)
        (λ r binds i. named_alike p binds (λ vs m. read_arm B c cap spec a calls reading frame arms r vs m) (λ vs m. arm_value B c cap spec a calls frame arms r vs m)
        (λ vs same. arm_same arms r d frame vs e (subst (λ n. ArmReads (d + n) arms r) (sym same) i))) by h.1) l
    node_same (code.make ty k args) d frame e h l = all_same reading right d frame e args h (λ ps l. gives (made_of (environment_of spec) ty k ps) l) l
    node_same (code.call f args) d frame e h l = all_same reading right d frame e args h (λ ps l. behind l (calls f ps)) l
    node_same (code.get m x k) d frame e h l = two_same reading right d frame e x k h.0 h.1 (λ p q l. accessed B c m p q l) l
    node_same (code.put m x k v) d frame e h l =
        one_same reading right d frame e x h.0 (λ p l. read_slot reading frame k l >>= λ q l. read_slot reading frame v l >>= λ r l. gives (updated B c cap a m p q r) l)
        (λ p l. at_slot frame k l >>= λ q l. at_slot frame v l >>= λ r l. gives (updated B c cap a m p q r) l)
        (λ p. two_same reading right d frame e k v h.1 h.2 (λ q r l. gives (updated B c cap a m p q r) l)) l

    nodes_same : (ns : Nodes) (d : ℕ) (frame : List (Abs W N)) → length frame ≡ d → NodesRead d ns → (l : List Seen) → Meets (SameFrame (d + count ns)) (frame_read B c cap spec a calls reading frame ns l) (frame_after B c cap spec a calls frame ns l)
    nodes_same code.no_node d frame e h l = ((refl, e ∙ (omega arith)), refl)
    nodes_same (code.node_then n ns) d frame e h l =
        meets_bind (λ p q. p ≡ q) (SameFrame (d + suc (count ns))) (read_node B c cap spec a calls reading frame n l) (node_value B c cap spec a calls frame n l) (λ p l. frame_read B c cap spec a calls reading (frame ++ p ∷ []) ns l) (λ p l. frame_after B c cap spec a calls (frame ++ p ∷ []) ns l)
        (meets_same _ _ (node_same n d frame e h.0 l)) (λ p q m same.
        subst (λ q. Meets (SameFrame (d + suc (count ns))) (frame_read B c cap spec a calls reading (frame ++ p ∷ []) ns m) (frame_after B c cap spec a calls (frame ++ q ∷ []) ns m)) same
        (subst (λ n. Meets (SameFrame n) (frame_read B c cap spec a calls reading (frame ++ p ∷ []) ns m) (frame_after B c cap spec a calls (frame ++ p ∷ []) ns m)) (next_count d (count ns)) (nodes_same ns (suc d) (frame ++ p ∷ []) (one_longer frame p d e) h.1 m)))

    stretch_same : (x : Stretch) (d : ℕ) (frame : List (Abs W N)) → length frame ≡ d → StretchReads d x → AreAlike (read_stretch B c cap spec a calls reading frame x) (stretch_value B c cap spec a calls frame x)
    stretch_same (code.stretch ns s) d frame e h l =
        behind_same (d + count ns) (frame_read B c cap spec a calls reading frame ns l) (frame_after B c cap spec a calls frame ns l) (λ fr l. read_slot reading fr s l) (λ fr l. at_slot fr s l) (nodes_same ns d frame e h.0 l)
        (λ fr long. slot_same reading right (d + count ns) fr long s h.1)

    arm_same : (xs : Stretches) (r d : ℕ) (frame vs : List (Abs W N)) → length frame ≡ d → ArmReads (d + length vs) xs r → AreAlike (read_arm B c cap spec a calls reading frame xs r vs) (arm_value B c cap spec a calls frame xs r vs)
    arm_same code.no_stretch r d frame vs e h l = refl
    arm_same (code.stretch_then x rest) zero d frame vs e h l = stretch_same x (d + length vs) (frame ++ vs) (more_long frame vs d e) h l
    arm_same (code.stretch_then x rest) (suc r) d frame vs e h l = arm_same rest r d frame vs e h l

  -- ---- tails
  mutual
    tail_same : (x : Tail) (d : ℕ) (frame : List (Abs W N)) → length frame ≡ d → TailReads d x → AreAlike (tail_read B c cap spec a calls reading frame x) (tail_turn B c cap spec a calls frame x)
    tail_same (code.tail ns end) d frame e h l =
        behind_same (d + count ns) (frame_read B c cap spec a calls reading frame ns l) (frame_after B c cap spec a calls frame ns l) (λ fr l. end_read B c cap spec a calls reading fr end l) (λ fr l. end_turn B c cap spec a calls fr end l) (nodes_same ns d frame e h.0 l)
        (λ fr long. end_same end (d + count ns) fr long h.1)

    end_same : (x : End) (d : ℕ) (frame : List (Abs W N)) → length frame ≡ d → EndReads d x → AreAlike (end_read B c cap spec a calls reading frame x) (end_turn B c cap spec a calls frame x)
    end_same (code.slot s) d frame e h l = ap (λ z. leaf_of B c cap spec a calls z) (slot_same reading right d frame e s h l)
    end_same (code.again f args) d frame e h l = all_same reading right d frame e args h (λ ps l. gives (asked_with spec f ps) l) l
    end_same (code.either k x y) d frame e h l =
        one_same reading right d frame e k h.0 (λ p l. branch (join_yields B c cap spec a) (flag_there (Some p)) (tail_read B c cap spec a calls reading frame x) (tail_read B c cap spec a calls reading frame y) l)
        (λ p l. branch (join_yields B c cap spec a) (flag_there (Some p)) (tail_turn B c cap spec a calls frame x) (tail_turn B c cap spec a calls frame y) l)
        (λ p. branch_alike (join_yields B c cap spec a) (flag_there (Some p)) _ _ _ _ (tail_same x d frame e h.1) (tail_same y d frame e h.2)) l
    end_same (code.pick x by arms) d frame e h l =
        one_same reading right d frame e x h.0 (λ p l. decided B c (join_yields B c cap spec a) (λ r vs m. arm_read B c cap spec a calls reading frame arms r vs m) p by l)
        (λ p l. decided B c (join_yields B c cap spec a) (λ r vs m. arm_turn B c cap spec a calls frame arms r vs m) p by l)
        (λ p. rows_alike B c (join_yields B c cap spec a) (λ r vs m. arm_read B c cap spec a calls reading frame arms r vs m) (λ r vs m. arm_turn B c cap spec a calls frame arms r vs m) p (λ r binds. ArmTailReads (d + length binds) arms r)
        (λ r binds i. named_alike p binds (λ vs m. arm_read B c cap spec a calls reading frame arms r vs m) (λ vs m. arm_turn B c cap spec a calls frame arms r vs m)
        (λ vs same. tails_same arms r d frame vs e (subst (λ n. ArmTailReads (d + n) arms r) (sym same) i))) by h.1) l

    tails_same : (xs : Tails) (r d : ℕ) (frame vs : List (Abs W N)) → length frame ≡ d → ArmTailReads (d + length vs) xs r → AreAlike (arm_read B c cap spec a calls reading frame xs r vs) (arm_turn B c cap spec a calls frame xs r vs)
    tails_same code.no_tail r d frame vs e h l = refl
    tails_same (code.tail_then x rest) zero d frame vs e h l = tail_same x (d + length vs) (frame ++ vs) (more_long frame vs d e) h l
    tails_same (code.tail_then x rest) (suc r) d frame vs e h l = tails_same rest r d frame vs e h l

  pub code_same : (f : FunCode) (xs : List (Abs W N)) → IsValid f → length xs ≡ f.params → AreAlike (code_read B c cap spec a calls reading (Some f) xs) (code_turn B c cap spec a calls (Some f) xs)
  code_same f xs ok long l = tail_same f.body f.params xs long ok l
