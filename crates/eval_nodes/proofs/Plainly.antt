-- What plain nodes, reads and calls give, by the values of their slots.
use Rattle.std.proofs.Common.{◌≡◌, ℕ, List, [], ◌∷◌, Option, Some, None, option_map, slice_get, refl, sym, ap, ◌∙◌}
use Rattle.std.specs.Prelude.{option_and_then}
use Rattle.base_trait.specs.Algebra.{Algebra}
use Rattle.base_trait.specs.Uses.{Seen}
use Rattle.spec_ir.specs.Specification.{Spec}
use Rattle.semantics_values.specs.Types.{environment_of}
use Rattle.semantics_laws.specs.Places.{all_of}
use Rattle.abstract_value_laws.specs.Abs.{Abs}
use Rattle.support_tail_fixpoint.specs.Answer.{gives}
use Rattle.abstract_semantics.specs.Answers.{Answer, behind, ◌>>=◌}
use Rattle.abstract_semantics.specs.Steps.{accessed, binary, compared, made_of, resized, unary, updated}
use Rattle.eval_code.specs.Code as code
use Rattle.eval_code.specs.Code.{Node}
use Rattle.eval_code_meaning.specs.Meaning.{at_slot, at_slots, node_value}
use Rattle.eval_nodes.specs.Plain.{IsPlain, call_value, plain_value, read_value, three_on, two_on}

module _ {A : Type 0} where
  one_is : (f : A → Option A) (o : Option A) (l : List Seen) → gives o l >>= (λ p l. gives (f p) l) ≡ gives (option_and_then f o) l
  one_is f None l = refl
  one_is f (Some p) l = refl

  two_is : (f : A → A → Option A) (o u : Option A) (l : List Seen) → gives o l >>= (λ p l. gives u l >>= (λ q l. gives (f p q) l)) ≡ gives (two_on f o u) l
  two_is f None u l = refl
  two_is f (Some p) None l = refl
  two_is f (Some p) (Some q) l = refl

  three_is : (f : A → A → A → Option A) (o u v : Option A) (l : List Seen) → gives o l >>= (λ p l. gives u l >>= (λ q l. gives v l >>= (λ r l. gives (f p q r) l))) ≡ gives (three_on f o u v) l
  three_is f None u v l = refl
  three_is f (Some p) None v l = refl
  three_is f (Some p) (Some q) None l = refl
  three_is f (Some p) (Some q) (Some r) l = refl

module _ {W N : Type 0} where
  consed : (o : Option (Abs W N)) (os : Option (List (Abs W N))) (l : List Seen) → gives o l >>= (λ p l. gives os l >>= (λ ps l. gives (Some (p ∷ ps)) l)) ≡ gives (option_and_then (λ y. option_map (λ ys. y ∷ ys) os) o) l
  consed None os l = refl
  consed (Some p) None l = refl
  consed (Some p) (Some ps) l = refl

  over : (frame : List (Abs W N)) (ss : List ℕ) → ((l : List Seen) → at_slots frame ss l ≡ gives (all_of (slice_get frame) ss) l) → (o : Option (Abs W N)) (l : List Seen)
      → gives o l >>= (λ p l. at_slots frame ss l >>= (λ ps l. gives (Some (p ∷ ps)) l)) ≡ gives o l >>= (λ p l. gives (all_of (slice_get frame) ss) l >>= (λ ps l. gives (Some (p ∷ ps)) l))
  over frame ss go None l = refl
  over frame ss go (Some p) l = ap (λ r. r >>= (λ ps l. gives (Some (p ∷ ps)) l)) (go l)

  pub slots_are : (frame : List (Abs W N)) (ss : List ℕ) (l : List Seen) → at_slots frame ss l ≡ gives (all_of (slice_get frame) ss) l
  slots_are frame [] l = refl
  slots_are frame (s ∷ ss) l = over frame ss (λ l. slots_are frame ss l) (slice_get frame s) l ∙ consed (slice_get frame s) (all_of (slice_get frame) ss) l

  many_is : (f : List (Abs W N) → Option (Abs W N)) (o : Option (List (Abs W N))) (l : List Seen) → gives o l >>= (λ p l. gives (f p) l) ≡ gives (option_and_then f o) l
  many_is f None l = refl
  many_is f (Some p) l = refl

module _ {W N C : Type 0} (B : Algebra W N C) (c : C) (cap : ℕ) (spec : Spec) (a : ℕ) (calls : ℕ → List (Abs W N) → Answer (Abs W N)) (frame : List (Abs W N)) where
  pub plain_is : (n : Node) → IsPlain n → (l : List Seen) → node_value B c cap spec a calls frame n l ≡ gives (plain_value B c cap spec a frame n) l
  plain_is (code.flag b) h l = refl
  plain_is (code.word w n) h l = refl
  plain_is (code.un op w x) h l = one_is (unary B c op w) (slice_get frame x) l
  plain_is (code.bin op w x y) h l = two_is (binary B c op w) (slice_get frame x) (slice_get frame y) l
  plain_is (code.test k w x y) h l = two_is (compared B c k w) (slice_get frame x) (slice_get frame y) l
  plain_is (code.cast kind from to x) h l = one_is (resized B c kind from to) (slice_get frame x) l
  plain_is (code.if_else k x y) h l = absurd h
  plain_is (code.choose x by arms) h l = absurd h
  plain_is (code.make d k args) h l = ap (λ r. r >>= (λ ps l. gives (made_of (environment_of spec) d k ps) l)) (slots_are frame args l) ∙ many_is (made_of (environment_of spec) d k) (all_of (slice_get frame) args) l
  plain_is (code.call f args) h l = absurd h
  plain_is (code.get m x k) h l = absurd h
  plain_is (code.put m x k v) h l = three_is (updated B c cap a m) (slice_get frame x) (slice_get frame k) (slice_get frame v) l

  pub read_is : (m x k : ℕ) (l : List Seen) → node_value B c cap spec a calls frame (code.get m x k) l ≡ read_value B c m (slice_get frame x) (slice_get frame k) l
  read_is m x k l = go (slice_get frame x) (slice_get frame k)
    where
      go : (o u : Option (Abs W N)) → gives o l >>= (λ p l. gives u l >>= (λ q l. accessed B c m p q l)) ≡ read_value B c m o u l
      go None u = refl
      go (Some p) None = refl
      go (Some p) (Some q) = refl

module _ {W N : Type 0} (calls : ℕ → List (Abs W N) → Answer (Abs W N)) (frame : List (Abs W N)) (f : ℕ) (ss : List ℕ) (l : List Seen) where
  pub call_some : (ps : List (Abs W N)) → all_of (slice_get frame) ss ≡ Some ps → call_value calls frame f ss l ≡ behind l (calls f ps)
  call_some ps h = ap (λ r. r >>= (λ ps l. behind l (calls f ps))) (slots_are frame ss l ∙ ap (λ o. gives o l) h)

  pub call_none : all_of (slice_get frame) ss ≡ None → call_value calls frame f ss l ≡ gives None l
  call_none h = ap (λ r. r >>= (λ ps l. behind l (calls f ps))) (slots_are frame ss l ∙ ap (λ o. gives o l) h)
