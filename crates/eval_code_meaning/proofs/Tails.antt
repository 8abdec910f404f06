-- The code of a function gives to a turn what its core term gives.
use Rattle.std.proofs.Common.{◌≡◌, ℕ, zero, suc, ◌+◌, ◌==◌, Bool, true, false, List, [], ◌∷◌, ◌++◌, Some, length, refl, sym, ap, ◌∙◌, subst, arith}
use Rattle.std.specs.Prelude.{if◌then◌else◌}
use Rattle.base_trait.specs.Algebra.{Algebra}
use Rattle.spec_match_compiler.specs.Decisions.{Decision}
use Rattle.spec_ir.specs.CoreTerms as t
use Rattle.spec_ir.specs.CoreTerms.{Core, Cores}
use Rattle.spec_ir.specs.Specification.{Spec, Fun}
use Rattle.semantics.specs.Direct.{group_of}
use Rattle.abstract_value_laws.specs.Abs.{Abs}
use Rattle.support_tail_fixpoint.specs.Answer.{Yield, gives}
use Rattle.abstract_semantics.specs.Answers.{Answer, Evaluation, behind, branch, ◌>>=◌}
use Rattle.abstract_semantics.specs.Choices.{decided, flag_there}
use Rattle.abstract_semantics.specs.Terms.{GroupArgs, asked_with, body_turn, leaf, join_yields, leaf_of, turn_arm, turn_of, value_of, values_of}
use Rattle.abstract_semantics.proofs.Alike.{AreAlike, branch_alike}
use Rattle.eval_code.specs.Code as code
use Rattle.eval_code.specs.Code.{nodes}
use Rattle.eval_code.specs.Lowered.{AllLowered, Ended, Lowered, all_lowered, at_end, ended_after, ended_after_all, ends, lowered, lowered_fun, lowered_tail, lowered_tails, slots_from, tail_of, taken}
use Rattle.eval_code_meaning.specs.Meaning.{arm_turn, at_slot, code_turn, end_turn, frame_after, tail_turn}
use Rattle.eval_code.specs.Scopes.{AllInScope, ArmInScope, InScope}
use Rattle.eval_code_meaning.proofs.Frames.{AllRun, AllStand, Runs, Stands, read_all, read_one, run_append}
use Rattle.eval_code_meaning.proofs.Lowering.{Framed, all_run, framed_arm, framed_let, framed_on, lowered_runs, named_alike}
use Rattle.eval_code_meaning.proofs.Meets.{bind_assoc, same_bind}
use Rattle.eval_code.proofs.Names.{arm_more, from_zero, names_new, one_more, slots_long}
use Rattle.eval_code_meaning.proofs.Rows.{rows_alike}

module _ {W N C : Type 0} (B : Algebra W N C) (c : C) (cap : ℕ) (spec : Spec) (a : ℕ) (calls : ℕ → List (Abs W N) → Answer (Abs W N)) where
  abbrev Turns : Type 0
  Turns = Evaluation (Yield (GroupArgs W N) (Abs W N))

  -- what follows a term in tail position
  after_turns : (frame : List (Abs W N)) (r : Lowered) (f : ℕ → ℕ → Ended) (e : Evaluation (Abs W N)) (g : Abs W N → Turns) → Runs B c cap spec a calls frame r e
      → ((fr : List (Abs W N)) (p : Abs W N) → Stands frame r.slot r.next fr p → AreAlike (tail_turn B c cap spec a calls fr (tail_of (f r.slot r.next))) (g p))
      → AreAlike (tail_turn B c cap spec a calls frame (tail_of (ended_after r f))) (λ l. e l >>= g)
  after_turns frame r f e g h k l =
      let s = f r.slot r.next in
      ap (λ x. x >>= (λ fr l. end_turn B c cap spec a calls fr s.end l)) (run_append B c cap spec a calls frame r.nodes s.nodes l)
      ∙ bind_assoc (frame_after B c cap spec a calls frame (nodes r.nodes) l) (λ fr l. frame_after B c cap spec a calls fr (nodes s.nodes) l) (λ fr l. end_turn B c cap spec a calls fr s.end l)
      ∙ same_bind (Stands frame r.slot r.next) (frame_after B c cap spec a calls frame (nodes r.nodes) l) (e l) (λ fr l. frame_after B c cap spec a calls fr (nodes s.nodes) l >>= (λ fr l. end_turn B c cap spec a calls fr s.end l)) g (h l) (λ fr p m st. k fr p st m)

  after_all_turns : (frame : List (Abs W N)) (r : AllLowered) (f : List ℕ → ℕ → Ended) (e : Evaluation (List (Abs W N))) (g : List (Abs W N) → Turns) → AllRun B c cap spec a calls frame r e
      → ((fr ps : List (Abs W N)) → AllStand frame r.slots r.next fr ps → AreAlike (tail_turn B c cap spec a calls fr (tail_of (f r.slots r.next))) (g ps))
      → AreAlike (tail_turn B c cap spec a calls frame (tail_of (ended_after_all r f))) (λ l. e l >>= g)
  after_all_turns frame r f e g h k l =
      let s = f r.slots r.next in
      ap (λ x. x >>= (λ fr l. end_turn B c cap spec a calls fr s.end l)) (run_append B c cap spec a calls frame r.nodes s.nodes l)
      ∙ bind_assoc (frame_after B c cap spec a calls frame (nodes r.nodes) l) (λ fr l. frame_after B c cap spec a calls fr (nodes s.nodes) l) (λ fr l. end_turn B c cap spec a calls fr s.end l)
      ∙ same_bind (AllStand frame r.slots r.next) (frame_after B c cap spec a calls frame (nodes r.nodes) l) (e l) (λ fr l. frame_after B c cap spec a calls fr (nodes s.nodes) l >>= (λ fr l. end_turn B c cap spec a calls fr s.end l)) g (h l) (λ fr p m st. k fr p st m)

  -- a value in tail position
  leaf_turns : (frame : List (Abs W N)) (r : Lowered) (e : Evaluation (Abs W N)) → Runs B c cap spec a calls frame r e → AreAlike (tail_turn B c cap spec a calls frame (tail_of (at_end r))) (λ l. leaf_of B c cap spec a calls (e l))
  leaf_turns frame r e h l =
      same_bind (Stands frame r.slot r.next) (frame_after B c cap spec a calls frame (nodes r.nodes) l) (e l) (λ fr l. leaf_of B c cap spec a calls (at_slot fr r.slot l)) (λ p l. leaf_of B c cap spec a calls (gives (Some p) l)) (h l)
      (λ fr p m st. ap (λ o. leaf_of B c cap spec a calls (gives o m)) st.holds)

  module _ (g : ℕ) where
    leaf_run : (x : Core) (scope : List ℕ) (d : ℕ) (frame env : List (Abs W N)) → Framed scope d frame env → InScope (length scope) x
        → AreAlike (tail_turn B c cap spec a calls frame (tail_of (at_end (lowered scope d x)))) (λ l. leaf_of B c cap spec a calls (value_of B c cap spec a calls env x l))
    leaf_run x scope d frame env f ok = leaf_turns frame (lowered scope d x) (λ l. value_of B c cap spec a calls env x l) (lowered_runs B c cap spec a calls x scope d frame env f ok)

    -- a call in tail position
    call_turns : (b : Bool) (j : ℕ) (args : Cores) (scope : List ℕ) (d : ℕ) (frame env : List (Abs W N)) → Framed scope d frame env → AllInScope (length scope) args
        → AreAlike (tail_turn B c cap spec a calls frame (tail_of (if b then ended_after_all (all_lowered scope d args) (λ ps d. ends (code.again j ps)) else at_end (lowered scope d (t.call j args)))))
        (λ l. values_of B c cap spec a calls env args l >>= λ ps l. if b then gives (asked_with spec j ps) l else leaf_of B c cap spec a calls (behind l (calls j ps)))
    call_turns true j args scope d frame env f ok =
        let r = all_lowered scope d args in
        after_all_turns frame r (λ ps d. ends (code.again j ps)) (λ l. values_of B c cap spec a calls env args l) (λ ps l. gives (asked_with spec j ps) l) (all_run B c cap spec a calls args scope d frame env f ok)
        (λ fr ps st l. ap (λ x. x >>= (λ ps l. gives (asked_with spec j ps) l)) (read_all fr r.slots ps l st.holds))
    call_turns false j args scope d frame env f ok =
        λ l. leaf_run (t.call j args) scope d frame env f ok l ∙ bind_assoc (values_of B c cap spec a calls env args l) (λ ps l. behind l (calls j ps)) (λ x l. gives (Some (leaf x)) l)

    mutual
      pub tail_runs : (x : Core) (scope : List ℕ) (d : ℕ) (frame env : List (Abs W N)) → Framed scope d frame env → InScope (length scope) x
          → AreAlike (tail_turn B c cap spec a calls frame (tail_of (lowered_tail (group_of spec) g scope d x))) (λ l. turn_of B c cap spec a calls g env x l)
      tail_runs (t.let_in x y) scope d frame env f ok =
          let r = lowered scope d x in
          after_turns frame r (λ p d. lowered_tail (group_of spec) g (scope ++ p ∷ []) d y) (λ l. value_of B c cap spec a calls env x l) (λ p l. turn_of B c cap spec a calls g (env ++ p ∷ []) y l) (lowered_runs B c cap spec a calls x scope d frame env f ok.0) (λ fr p st.
          tail_runs y (scope ++ r.slot ∷ []) r.next fr (env ++ p ∷ []) (framed_let scope d r.next r.slot frame fr env p f st) (subst (λ n. InScope n y) (one_more scope r.slot) ok.1))
      tail_runs (t.if_else k x y) scope d frame env f ok =
          let r = lowered scope d k in
          let on : Abs W N → Turns = λ p l. branch (join_yields B c cap spec a) (flag_there (Some p)) (turn_of B c cap spec a calls g env x) (turn_of B c cap spec a calls g env y) l in
          after_turns frame r (λ p d. ends (code.either p (tail_of (lowered_tail (group_of spec) g scope d x)) (tail_of (lowered_tail (group_of spec) g scope d y)))) (λ l. value_of B c cap spec a calls env k l) on (lowered_runs B c cap spec a calls k scope d frame env f ok.0) (λ fr p st l.
          let go = framed_on scope d r.next r.slot frame fr env p f st in
          read_one fr r.slot p (λ p l. branch (join_yields B c cap spec a) (flag_there (Some p)) (tail_turn B c cap spec a calls fr (tail_of (lowered_tail (group_of spec) g scope r.next x))) (tail_turn B c cap spec a calls fr (tail_of (lowered_tail (group_of spec) g scope r.next y))) l) l st.holds
          ∙ branch_alike (join_yields B c cap spec a) (flag_there (Some p)) _ _ _ _ (tail_runs x scope r.next fr env go ok.1) (tail_runs y scope r.next fr env go ok.2) l)
      tail_runs (t.choose x by arms) scope d frame env f ok =
          let r = lowered scope d x in
          let on : Abs W N → Turns = λ p l. decided B c (join_yields B c cap spec a) (λ r vs m. turn_arm B c cap spec a calls g env arms r vs m) p by l in
          after_turns frame r (λ p d. ends (code.pick p by (lowered_tails (group_of spec) g scope d by 0 arms))) (λ l. value_of B c cap spec a calls env x l) on (lowered_runs B c cap spec a calls x scope d frame env f ok.0) (λ fr p st l.
          let go = framed_on scope d r.next r.slot frame fr env p f st in
          read_one fr r.slot p (λ p l. decided B c (join_yields B c cap spec a) (λ q vs m. arm_turn B c cap spec a calls fr (lowered_tails (group_of spec) g scope r.next by 0 arms) q vs m) p by l) l st.holds
          ∙ rows_alike B c (join_yields B c cap spec a) (λ q vs m. arm_turn B c cap spec a calls fr (lowered_tails (group_of spec) g scope r.next by 0 arms) q vs m) (λ r vs m. turn_arm B c cap spec a calls g env arms r vs m) p
          (λ r binds. (length binds ≡ taken r by) × ArmInScope (length scope + length binds) arms r)
          (λ q binds h. named_alike p binds (λ vs m. arm_turn B c cap spec a calls fr (lowered_tails (group_of spec) g scope r.next by 0 arms) q vs m) (λ vs m. turn_arm B c cap spec a calls g env arms q vs m)
          (λ vs long. tails_run arms 0 q scope r.next fr env by vs go (from_zero by (length vs) q (long ∙ h.0)) (subst (λ n. ArmInScope (length scope + n) arms q) (sym long) h.1))) by ok.1 l)
      tail_runs (t.call j args) scope d frame env f ok = call_turns (group_of spec j == g) j args scope d frame env f ok
      tail_runs (t.var n) scope d frame env f ok = leaf_run (t.var n) scope d frame env f ok
      tail_runs (t.flag b) scope d frame env f ok = leaf_run (t.flag b) scope d frame env f ok
      tail_runs (t.word w v) scope d frame env f ok = leaf_run (t.word w v) scope d frame env f ok
      tail_runs (t.un op w x) scope d frame env f ok = leaf_run (t.un op w x) scope d frame env f ok
      tail_runs (t.bin op w x y) scope d frame env f ok = leaf_run (t.bin op w x y) scope d frame env f ok
      tail_runs (t.test k w x y) scope d frame env f ok = leaf_run (t.test k w x y) scope d frame env f ok
      tail_runs (t.cast kind from to x) scope d frame env f ok = leaf_run (t.cast kind from to x) scope d frame env f ok
      tail_runs (t.make ty k args) scope d frame env f ok = leaf_run (t.make ty k args) scope d frame env f ok
      tail_runs (t.get m x k) scope d frame env f ok = leaf_run (t.get m x k) scope d frame env f ok
      tail_runs (t.put m x k v) scope d frame env f ok = leaf_run (t.put m x k v) scope d frame env f ok

      tails_run : (ts : Cores) (n q : ℕ) (scope : List ℕ) (d : ℕ) (frame env : List (Abs W N)) (by : Decision) (vs : List (Abs W N)) → Framed scope d frame env → length vs ≡ taken (n + q) by → ArmInScope (length scope + length vs) ts q
          → AreAlike (arm_turn B c cap spec a calls frame (lowered_tails (group_of spec) g scope d by n ts) q vs) (turn_arm B c cap spec a calls g env ts q vs)
      tails_run t.no_core n q scope d frame env by vs f e ok = λ l. refl
      tails_run (t.core_then x rest) n zero scope d frame env by vs f e ok =
          let none : n + 0 ≡ n = omega arith in
          let k = taken n by in
          let long : length vs ≡ k = subst (λ z. length vs ≡ taken z by) none e in
          tail_runs x (scope ++ slots_from d k) (d + k) (frame ++ vs) (env ++ vs) (framed_arm scope d k frame env vs f long) (subst (λ n. InScope n x) (arm_more scope d k (length vs) long) ok)
      tails_run (t.core_then x rest) n (suc q) scope d frame env by vs f e ok =
          let same : n + suc q ≡ suc n + q = omega arith in
          tails_run rest (suc n) q scope d frame env by vs f (subst (λ z. length vs ≡ taken z by) same e) ok

  -- the code of a function whose variables are in scope, on as many arguments as it has parameters
  pub code_runs : (fun : Fun) (xs : List (Abs W N)) → InScope (length fun.params) fun.core → length xs ≡ length fun.params
      → AreAlike (code_turn B c cap spec a calls (Some (lowered_fun spec fun)) xs) (body_turn B c cap spec a calls fun.group (Some fun) xs)
  code_runs fun xs ok long =
      let n = length fun.params in
      tail_runs fun.group fun.core (slots_from 0 n) n xs xs (record { names = names_new [] xs 0 n refl long; long = long }) (subst (λ n. InScope n fun.core) (sym (slots_long 0 n)) ok)
