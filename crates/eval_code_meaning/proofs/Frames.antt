-- Nodes run one after another.
use Rattle.std.proofs.Common.{◌≡◌, ℕ, suc, List, [], ◌∷◌, ◌++◌, Some, None, length, slice_get, refl, sym, ap, ◌∙◌, subst, arith, length-append}
use Rattle.base_trait.specs.Algebra.{Algebra}
use Rattle.base_trait.specs.Uses.{Seen}
use Rattle.spec_ir.specs.Specification.{Spec}
use Rattle.abstract_value_laws.specs.Abs.{Abs}
use Rattle.support_tail_fixpoint.specs.Answer.{fails, gives}
use Rattle.abstract_semantics.specs.Answers.{Answer, Evaluation, ◌>>=◌}
use Rattle.abstract_semantics.proofs.Alike.{AreAlike}
use Rattle.eval_code.specs.Code.{Node, nodes}
use Rattle.eval_code.specs.Lowered.{Lowered, AllLowered, after, after_all, before_all, alone, stretch_of}
use Rattle.eval_code_meaning.specs.Meaning.{at_slot, at_slots, frame_after, node_value, stretch_value}
use Rattle.eval_code_meaning.proofs.Meets.{Meets, bind_assoc, bind_unit, meets_bind, same_bind}
use Rattle.eval_code.proofs.Names.{Extends, Names, extends_on, get_extends, get_last}

module _ {A : Type 0} where
  -- A frame goes on from an earlier one, has a value in a slot, and is so long.
  pub record Stands (before : List A) (s d : ℕ) (frame : List A) (p : A) : Type 0 where
    pub extends : Extends before frame
    pub holds : slice_get frame s ≡ Some p
    pub long : length frame ≡ d

  pub record AllStand (before : List A) (ss : List ℕ) (d : ℕ) (frame : List A) (ps : List A) : Type 0 where
    pub extends : Extends before frame
    pub holds : Names frame ss ps
    pub long : length frame ≡ d

module _ {W N C : Type 0} (B : Algebra W N C) (c : C) (cap : ℕ) (spec : Spec) (a : ℕ) (calls : ℕ → List (Abs W N) → Answer (Abs W N)) where
  pub run_append : (frame : List (Abs W N)) (xs ys : List Node) (l : List Seen)
      → frame_after B c cap spec a calls frame (nodes (xs ++ ys)) l ≡ frame_after B c cap spec a calls frame (nodes xs) l >>= (λ frame l. frame_after B c cap spec a calls frame (nodes ys) l)
  run_append frame [] ys l = refl
  run_append frame (n ∷ xs) ys l =
      same_bind (λ p q. p ≡ q) (node_value B c cap spec a calls frame n l) (node_value B c cap spec a calls frame n l)
      (λ p l. frame_after B c cap spec a calls (frame ++ p ∷ []) (nodes (xs ++ ys)) l)
      (λ p l. frame_after B c cap spec a calls (frame ++ p ∷ []) (nodes xs) l >>= (λ frame l. frame_after B c cap spec a calls frame (nodes ys) l))
      (itself (node_value B c cap spec a calls frame n l))
      (λ p q m e. ap (λ p. frame_after B c cap spec a calls (frame ++ p ∷ []) (nodes (xs ++ ys)) m) e ∙ run_append (frame ++ q ∷ []) xs ys m)
      ∙ sym (bind_assoc (node_value B c cap spec a calls frame n l) (λ p l. frame_after B c cap spec a calls (frame ++ p ∷ []) (nodes xs) l) (λ frame l. frame_after B c cap spec a calls frame (nodes ys) l))
    where
      itself : (x : Answer (Abs W N)) → Meets (λ p q. p ≡ q) x x
      itself (fails i) = refl
      itself (gives None m) = refl
      itself (gives (Some p) m) = (refl, refl)

  -- The nodes of a term, from a frame on, give what it gives, in its slot.
  abbrev pub Runs : List (Abs W N) → Lowered → Evaluation (Abs W N) → Type 0
  Runs frame r e = (l : List Seen) → Meets (Stands frame r.slot r.next) (frame_after B c cap spec a calls frame (nodes r.nodes) l) (e l)

  abbrev pub AllRun : List (Abs W N) → AllLowered → Evaluation (List (Abs W N)) → Type 0
  AllRun frame r e = (l : List Seen) → Meets (AllStand frame r.slots r.next) (frame_after B c cap spec a calls frame (nodes r.nodes) l) (e l)

  pub after_runs : (frame : List (Abs W N)) (r : Lowered) (f : ℕ → ℕ → Lowered) (e : Evaluation (Abs W N)) (g : Abs W N → Evaluation (Abs W N)) → Runs frame r e
      → ((fr : List (Abs W N)) (p : Abs W N) → Stands frame r.slot r.next fr p → Runs fr (f r.slot r.next) (g p)) → Runs frame (after r f) (λ l. e l >>= g)
  after_runs frame r f e g h k l =
      let s = f r.slot r.next in
      subst (λ z. Meets (Stands frame s.slot s.next) z (e l >>= g)) (sym (run_append frame r.nodes s.nodes l))
      (meets_bind (Stands frame r.slot r.next) (Stands frame s.slot s.next) (frame_after B c cap spec a calls frame (nodes r.nodes) l) (e l) (λ fr l. frame_after B c cap spec a calls fr (nodes s.nodes) l) g (h l)
      (λ fr p m st. wider fr s.slot s.next st.extends (frame_after B c cap spec a calls fr (nodes s.nodes) m) (g p m) (k fr p st m)))
    where
      wider : (fr : List (Abs W N)) (s d : ℕ) → Extends frame fr → (x : Answer (List (Abs W N))) (y : Answer (Abs W N)) → Meets (Stands fr s d) x y → Meets (Stands frame s d) x y
      wider fr s d e x y w =
          subst (λ z. Meets (Stands frame s d) z y) (bind_unit x) (subst (λ z. Meets (Stands frame s d) (x >>= (λ p l. gives (Some p) l)) z) (bind_unit y)
          (meets_bind (Stands fr s d) (Stands frame s d) x y (λ p l. gives (Some p) l) (λ p l. gives (Some p) l) w
          (λ f p m st. (record { extends = extends_on frame fr f e st.extends; holds = st.holds; long = st.long }, refl))))

  pub after_all_runs : (frame : List (Abs W N)) (r : AllLowered) (f : List ℕ → ℕ → Lowered) (e : Evaluation (List (Abs W N))) (g : List (Abs W N) → Evaluation (Abs W N)) → AllRun frame r e
      → ((fr : List (Abs W N)) (ps : List (Abs W N)) → AllStand frame r.slots r.next fr ps → Runs fr (f r.slots r.next) (g ps)) → Runs frame (after_all r f) (λ l. e l >>= g)
  after_all_runs frame r f e g h k l =
      let s = f r.slots r.next in
      subst (λ z. Meets (Stands frame s.slot s.next) z (e l >>= g)) (sym (run_append frame r.nodes s.nodes l))
      (meets_bind (AllStand frame r.slots r.next) (Stands frame s.slot s.next) (frame_after B c cap spec a calls frame (nodes r.nodes) l) (e l) (λ fr l. frame_after B c cap spec a calls fr (nodes s.nodes) l) g (h l)
      (λ fr ps m st. wider fr s.slot s.next st.extends (frame_after B c cap spec a calls fr (nodes s.nodes) m) (g ps m) (k fr ps st m)))
    where
      wider : (fr : List (Abs W N)) (s d : ℕ) → Extends frame fr → (x : Answer (List (Abs W N))) (y : Answer (Abs W N)) → Meets (Stands fr s d) x y → Meets (Stands frame s d) x y
      wider fr s d e x y w =
          subst (λ z. Meets (Stands frame s d) z y) (bind_unit x) (subst (λ z. Meets (Stands frame s d) (x >>= (λ p l. gives (Some p) l)) z) (bind_unit y)
          (meets_bind (Stands fr s d) (Stands frame s d) x y (λ p l. gives (Some p) l) (λ p l. gives (Some p) l) w
          (λ f p m st. (record { extends = extends_on frame fr f e st.extends; holds = st.holds; long = st.long }, refl))))

  -- a term before more terms
  pub before_runs : (frame : List (Abs W N)) (r : Lowered) (f : ℕ → AllLowered) (e : Evaluation (Abs W N)) (g : Evaluation (List (Abs W N))) → Runs frame r e
      → ((fr : List (Abs W N)) (p : Abs W N) → Stands frame r.slot r.next fr p → AllRun fr (f r.next) g) → AllRun frame (before_all r f) (λ l. e l >>= λ p l. g l >>= λ ps l. gives (Some (p ∷ ps)) l)
  before_runs frame r f e g h k l =
      let s = f r.next in
      subst (λ z. Meets (AllStand frame (r.slot ∷ s.slots) s.next) z (e l >>= λ p l. g l >>= λ ps l. gives (Some (p ∷ ps)) l)) (sym (run_append frame r.nodes s.nodes l))
      (meets_bind (Stands frame r.slot r.next) (AllStand frame (r.slot ∷ s.slots) s.next) (frame_after B c cap spec a calls frame (nodes r.nodes) l) (e l) (λ fr l. frame_after B c cap spec a calls fr (nodes s.nodes) l) (λ p l. g l >>= λ ps l. gives (Some (p ∷ ps)) l) (h l)
      (λ fr p m st. subst (λ z. Meets (AllStand frame (r.slot ∷ s.slots) s.next) z (g m >>= λ ps l. gives (Some (p ∷ ps)) l)) (bind_unit (frame_after B c cap spec a calls fr (nodes s.nodes) m))
      (meets_bind (AllStand fr s.slots s.next) (AllStand frame (r.slot ∷ s.slots) s.next) (frame_after B c cap spec a calls fr (nodes s.nodes) m) (g m) (λ p l. gives (Some p) l) (λ ps l. gives (Some (p ∷ ps)) l) (k fr p st m)
      (λ fs ps n at. (record { extends = extends_on frame fr fs st.extends at.extends; holds = (get_extends fr fs r.slot p at.extends st.holds, at.holds); long = at.long }, refl)))))

  -- one node
  pub alone_runs : (frame : List (Abs W N)) (d : ℕ) (n : Node) (e : Evaluation (Abs W N)) → length frame ≡ d → AreAlike (node_value B c cap spec a calls frame n) e → Runs frame (alone d n) e
  alone_runs frame d n e long h l = subst (λ z. Meets (Stands frame d (suc d)) (z >>= λ p l. gives (Some (frame ++ p ∷ [])) l) (e l)) (sym (h l)) (go (e l))
    where
      go : (x : Answer (Abs W N)) → Meets (Stands frame d (suc d)) (x >>= λ p l. gives (Some (frame ++ p ∷ [])) l) x
      go (fails i) = refl
      go (gives None m) = refl
      go (gives (Some p) m) = (
        record {
          extends = (p ∷ [], refl);
          holds = subst (λ z. slice_get (frame ++ p ∷ []) z ≡ Some p) long (get_last frame p []);
          long = length-append frame (p ∷ []) ∙ omega arith;
        },
        refl,
      )

  -- the value of a stretch
  pub stretch_runs : (frame : List (Abs W N)) (r : Lowered) (e : Evaluation (Abs W N)) → Runs frame r e → AreAlike (stretch_value B c cap spec a calls frame (stretch_of r)) e
  stretch_runs frame r e h l =
      same_bind (Stands frame r.slot r.next) (frame_after B c cap spec a calls frame (nodes r.nodes) l) (e l) (λ frame l. at_slot frame r.slot l) (λ p l. gives (Some p) l) (h l) (λ fr p m st. ap (λ o. gives o m) st.holds)
      ∙ bind_unit (e l)

-- ---- operands
module _ {W N : Type 0} where
  -- a slot with a value
  pub read_one : {D : Type 0} (frame : List (Abs W N)) (s : ℕ) (p : Abs W N) (f : Abs W N → List Seen → Answer D) (l : List Seen) → slice_get frame s ≡ Some p → at_slot frame s l >>= f ≡ f p l
  read_one frame s p f l h = ap (λ o. gives o l >>= f) h

  pub read_all : (frame : List (Abs W N)) (ss : List ℕ) (ps : List (Abs W N)) (l : List Seen) → Names frame ss ps → at_slots frame ss l ≡ gives (Some ps) l
  read_all frame [] [] l h = refl
  read_all frame [] (p ∷ ps) l h = absurd h
  read_all frame (s ∷ ss) [] l h = absurd h
  read_all frame (s ∷ ss) (p ∷ ps) l h = ap (λ o. gives o l >>= (λ p l. at_slots frame ss l >>= λ ps l. gives (Some (p ∷ ps)) l)) h.0 ∙ ap (λ r. r >>= (λ ps l. gives (Some (p ∷ ps)) l)) (read_all frame ss ps l h.1)
