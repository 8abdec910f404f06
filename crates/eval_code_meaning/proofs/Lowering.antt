-- The nodes of a term give what the term gives.
use Rattle.std.proofs.Common.{◌≡◌, ℕ, zero, suc, ◌+◌, List, [], ◌∷◌, ◌++◌, Option, Some, None, length, slice_get, refl, sym, ap, ◌∙◌, subst, arith, length-append}
use Rattle.base_trait.specs.Algebra.{Algebra}
use Rattle.base_trait.specs.Uses.{Seen}
use Rattle.spec_match_compiler.specs.Values.{Place}
use Rattle.spec_match_compiler.specs.Decisions.{Decision}
use Rattle.spec_ir.specs.CoreTerms as t
use Rattle.spec_ir.specs.CoreTerms.{Core, Cores}
use Rattle.spec_ir.specs.Specification.{Spec}
use Rattle.abstract_value_laws.specs.Abs.{Abs}
use Rattle.abstract_value_laws.specs.Calls.{join_of}
use Rattle.support_tail_fixpoint.specs.Answer.{gives}
use Rattle.abstract_semantics.specs.Answers.{Answer, Evaluation, behind, branch, ◌>>=◌}
use Rattle.abstract_semantics.specs.Choices.{abs_at, abs_named, arm_on, decided, flag_there}
use Rattle.semantics_values.specs.Types.{environment_of}
use Rattle.abstract_semantics.specs.Steps.{accessed, binary, compared, made_of, resized, unary, updated}
use Rattle.abstract_semantics.specs.Terms.{arm_of, value_of, values_of}
use Rattle.abstract_semantics.proofs.Alike.{AreAlike, branch_alike}
use Rattle.eval_code.specs.Code as code
use Rattle.eval_code.specs.Lowered.{Lowered, all_lowered, alone, after, lowered, lowered_arms, slot_of, slots_from, stretch_of, taken}
use Rattle.eval_code_meaning.specs.Meaning.{arm_value, at_slot, at_slots, node_value, stretch_value}
use Rattle.eval_code.specs.Scopes.{AllInScope, ArmInScope, InScope}
use Rattle.eval_code_meaning.proofs.Frames.{AllRun, Runs, Stands, after_all_runs, after_runs, alone_runs, before_runs, read_all, read_one, stretch_runs}
use Rattle.eval_code.proofs.Names.{Names, arm_more, from_zero, get_extends, names_append, names_at, names_extends, names_new, one_more}
use Rattle.eval_code_meaning.proofs.Meets.{Meets}
use Rattle.eval_code_meaning.proofs.Rows.{rows_alike}
use Rattle.eval_code_accepted.proofs.Lengths.{all_of_long}

-- an arm on what its variables name, as many as it takes
pub named_alike : {W N A : Type 0} (x : Abs W N) (binds : List (ℕ × Place)) (arm other : List (Abs W N) → Evaluation A) → ((vs : List (Abs W N)) → length vs ≡ length binds → AreAlike (arm vs) (other vs))
    → AreAlike (arm_on arm (abs_named x binds)) (arm_on other (abs_named x binds))
named_alike {W = W} {N = N} x binds arm other h l = go (abs_named x binds) refl
  where
    go : (o : Option (List (Abs W N))) → abs_named x binds ≡ o → arm_on arm o l ≡ arm_on other o l
    go None e = refl
    go (Some vs) e = h vs (all_of_long (λ b. abs_at b.1 x) binds vs e) l

-- Variables of a term: their slots have their values, the frame is so long, and there are as many as are in scope.
pub record Framed {A : Type 0} (scope : List ℕ) (d : ℕ) (frame env : List A) : Type 0 where
  pub names : Names frame scope env
  pub long : length frame ≡ d

-- the frame goes on
pub framed_on : {A : Type 0} (scope : List ℕ) (d e s : ℕ) (frame fr env : List A) (p : A) → Framed scope d frame env → Stands frame s e fr p → Framed scope e fr env
framed_on scope d e s frame fr env p f st = record { names = names_extends frame fr scope env st.extends f.names; long = st.long }

-- one more variable
pub framed_let : {A : Type 0} (scope : List ℕ) (d e s : ℕ) (frame fr env : List A) (p : A) → Framed scope d frame env → Stands frame s e fr p → Framed (scope ++ s ∷ []) e fr (env ++ p ∷ [])
framed_let scope d e s frame fr env p f st = record { names = names_append fr scope env (s ∷ []) (p ∷ []) (names_extends frame fr scope env st.extends f.names) (st.holds, tt); long = st.long }

-- variables that stand in the next slots
pub framed_arm : {A : Type 0} (scope : List ℕ) (d n : ℕ) (frame env vs : List A) → Framed scope d frame env → length vs ≡ n → Framed (scope ++ slots_from d n) (d + n) (frame ++ vs) (env ++ vs)
framed_arm scope d n frame env vs f e = record {
  names = names_append (frame ++ vs) scope env (slots_from d n) vs (names_extends frame (frame ++ vs) scope env (vs, refl) f.names) (names_new frame vs d n f.long e);
  long = length-append frame vs ∙ ap (λ z. z + length vs) f.long ∙ ap (λ z. d + z) e;
}

pub append_nil : {A : Type 0} (xs : List A) → xs ++ [] ≡ xs
append_nil [] = refl
append_nil (x ∷ xs) = ap (λ l. x ∷ l) (append_nil xs)

module _ {W N C : Type 0} (B : Algebra W N C) (c : C) (cap : ℕ) (spec : Spec) (a : ℕ) (calls : ℕ → List (Abs W N) → Answer (Abs W N)) where
  -- ---- a node on operands that are there
  one_operand : (frame : List (Abs W N)) (n : code.Node) (s : ℕ) (p : Abs W N) (f : Abs W N → List Seen → Answer (Abs W N)) → slice_get frame s ≡ Some p
      → ((l : List Seen) → node_value B c cap spec a calls frame n l ≡ at_slot frame s l >>= f) → AreAlike (node_value B c cap spec a calls frame n) (f p)
  one_operand frame n s p f h e l = e l ∙ read_one frame s p f l h

  two_operands : (frame : List (Abs W N)) (n : code.Node) (s t : ℕ) (p q : Abs W N) (f : Abs W N → Abs W N → List Seen → Answer (Abs W N)) → slice_get frame s ≡ Some p → slice_get frame t ≡ Some q
      → ((l : List Seen) → node_value B c cap spec a calls frame n l ≡ at_slot frame s l >>= (λ p l. at_slot frame t l >>= (λ q l. f p q l))) → AreAlike (node_value B c cap spec a calls frame n) (f p q)
  two_operands frame n s t p q f h k e l = e l ∙ read_one frame s p (λ p l. at_slot frame t l >>= (λ q l. f p q l)) l h ∙ read_one frame t q (λ q l. f p q l) l k

  three_operands : (frame : List (Abs W N)) (n : code.Node) (s t u : ℕ) (p q r : Abs W N) (f : Abs W N → Abs W N → Abs W N → List Seen → Answer (Abs W N))
      → slice_get frame s ≡ Some p → slice_get frame t ≡ Some q → slice_get frame u ≡ Some r
      → ((l : List Seen) → node_value B c cap spec a calls frame n l ≡ at_slot frame s l >>= (λ p l. at_slot frame t l >>= (λ q l. at_slot frame u l >>= (λ r l. f p q r l)))) → AreAlike (node_value B c cap spec a calls frame n) (f p q r)
  three_operands frame n s t u p q r f h k o e l =
      e l ∙ read_one frame s p (λ p l. at_slot frame t l >>= (λ q l. at_slot frame u l >>= (λ r l. f p q r l))) l h ∙ read_one frame t q (λ q l. at_slot frame u l >>= (λ r l. f p q r l)) l k
      ∙ read_one frame u r (λ r l. f p q r l) l o

  all_operands : (frame : List (Abs W N)) (n : code.Node) (ss : List ℕ) (ps : List (Abs W N)) (f : List (Abs W N) → List Seen → Answer (Abs W N)) → Names frame ss ps
      → ((l : List Seen) → node_value B c cap spec a calls frame n l ≡ at_slots frame ss l >>= f) → AreAlike (node_value B c cap spec a calls frame n) (f ps)
  all_operands frame n ss ps f h e l = e l ∙ ap (λ r. r >>= f) (read_all frame ss ps l h)

  -- a form of two parts
  two_run : (frame : List (Abs W N)) (r : Lowered) (f : ℕ → Lowered) (e h : Evaluation (Abs W N)) (n : ℕ → ℕ → code.Node) (g : Abs W N → Abs W N → List Seen → Answer (Abs W N)) → Runs B c cap spec a calls frame r e
      → ((fr : List (Abs W N)) (p : Abs W N) → Stands frame r.slot r.next fr p → Runs B c cap spec a calls fr (f r.next) h)
      → ((fr : List (Abs W N)) (s t : ℕ) (l : List Seen) → node_value B c cap spec a calls fr (n s t) l ≡ at_slot fr s l >>= (λ p l. at_slot fr t l >>= (λ q l. g p q l)))
      → Runs B c cap spec a calls frame (after r (λ p d. after (f d) (λ q d. alone d (n p q)))) (λ l. e l >>= λ p l. h l >>= λ q l. g p q l)
  two_run frame r f e h n g first second is =
      let s = f r.next in
      after_runs B c cap spec a calls frame r (λ p d. after (f d) (λ q d. alone d (n p q))) e (λ p l. h l >>= λ q l. g p q l) first (λ fr p st.
      after_runs B c cap spec a calls fr s (λ q d. alone d (n r.slot q)) h (λ q l. g p q l) (second fr p st) (λ fs q su.
      alone_runs B c cap spec a calls fs s.next (n r.slot s.slot) _ su.long (two_operands fs (n r.slot s.slot) r.slot s.slot p q g (get_extends fr fs r.slot p su.extends st.holds) su.holds (is fs r.slot s.slot))))

  mutual
    pub lowered_runs : (x : Core) (scope : List ℕ) (d : ℕ) (frame env : List (Abs W N)) → Framed scope d frame env → InScope (length scope) x
        → Runs B c cap spec a calls frame (lowered scope d x) (λ l. value_of B c cap spec a calls env x l)
    lowered_runs (t.var n) scope d frame env f ok =
        λ l. let at = names_at frame scope env n f.names ok in
        subst (λ o. Meets (Stands frame (slot_of scope n) d) (gives (Some frame) l) (gives o l)) (sym at.1) (record { extends = ([], sym (append_nil frame)); holds = at.2; long = f.long }, refl)
    lowered_runs (t.flag b) scope d frame env f ok = alone_runs B c cap spec a calls frame d (code.flag b) _ f.long (λ l. refl)
    lowered_runs (t.word w v) scope d frame env f ok = alone_runs B c cap spec a calls frame d (code.word w v) _ f.long (λ l. refl)
    lowered_runs (t.un op w x) scope d frame env f ok =
        after_runs B c cap spec a calls frame (lowered scope d x) (λ p d. alone d (code.un op w p)) (λ l. value_of B c cap spec a calls env x l) (λ p l. gives (unary B c op w p) l) (lowered_runs x scope d frame env f ok) (λ fr p st.
        alone_runs B c cap spec a calls fr _ (code.un op w (lowered scope d x).slot) _ st.long (one_operand fr (code.un op w (lowered scope d x).slot) (lowered scope d x).slot p (λ p l. gives (unary B c op w p) l) st.holds (λ l. refl)))
    lowered_runs (t.bin op w x y) scope d frame env f ok =
        two_run frame (lowered scope d x) (λ d. lowered scope d y) (λ l. value_of B c cap spec a calls env x l) (λ l. value_of B c cap spec a calls env y l) (λ s t. code.bin op w s t) (λ p q l. gives (binary B c op w p q) l) (lowered_runs x scope d frame env f ok.0)
        (λ fr p st. lowered_runs y scope (lowered scope d x).next fr env (framed_on scope d (lowered scope d x).next (lowered scope d x).slot frame fr env p f st) ok.1) (λ fr s t l. refl)
    lowered_runs (t.test k w x y) scope d frame env f ok =
        two_run frame (lowered scope d x) (λ d. lowered scope d y) (λ l. value_of B c cap spec a calls env x l) (λ l. value_of B c cap spec a calls env y l) (λ s t. code.test k w s t) (λ p q l. gives (compared B c k w p q) l) (lowered_runs x scope d frame env f ok.0)
        (λ fr p st. lowered_runs y scope (lowered scope d x).next fr env (framed_on scope d (lowered scope d x).next (lowered scope d x).slot frame fr env p f st) ok.1) (λ fr s t l. refl)
    lowered_runs (t.cast kind from to x) scope d frame env f ok =
        after_runs B c cap spec a calls frame (lowered scope d x) (λ p d. alone d (code.cast kind from to p)) (λ l. value_of B c cap spec a calls env x l) (λ p l. gives (resized B c kind from to p) l) (lowered_runs x scope d frame env f ok) (λ fr p st.
        alone_runs B c cap spec a calls fr _ (code.cast kind from to (lowered scope d x).slot) _ st.long (one_operand fr (code.cast kind from to (lowered scope d x).slot) (lowered scope d x).slot p (λ p l. gives (resized B c kind from to p) l) st.holds (λ l. refl)))
    lowered_runs (t.let_in x y) scope d frame env f ok =
        let r = lowered scope d x in
        after_runs B c cap spec a calls frame r (λ p d. lowered (scope ++ p ∷ []) d y) (λ l. value_of B c cap spec a calls env x l) (λ p l. value_of B c cap spec a calls (env ++ p ∷ []) y l) (lowered_runs x scope d frame env f ok.0) (λ fr p st.
        lowered_runs y (scope ++ r.slot ∷ []) r.next fr (env ++ p ∷ []) (framed_let scope d r.next r.slot frame fr env p f st) (subst (λ n. InScope n y) (one_more scope r.slot) ok.1))
    lowered_runs (t.if_else k x y) scope d frame env f ok =
        let r = lowered scope d k in
        let on : Abs W N → List Seen → Answer (Abs W N) = λ p l. branch (join_of B c cap) (flag_there (Some p)) (value_of B c cap spec a calls env x) (value_of B c cap spec a calls env y) l in
        after_runs B c cap spec a calls frame r (λ p d. alone d (code.if_else p (stretch_of (lowered scope d x)) (stretch_of (lowered scope d y)))) (λ l. value_of B c cap spec a calls env k l) on (lowered_runs k scope d frame env f ok.0) (λ fr p st.
        let go = framed_on scope d r.next r.slot frame fr env p f st in
        alone_runs B c cap spec a calls fr r.next (code.if_else r.slot (stretch_of (lowered scope r.next x)) (stretch_of (lowered scope r.next y))) (on p) st.long (λ l.
        read_one fr r.slot p (λ p l. branch (join_of B c cap) (flag_there (Some p)) (stretch_value B c cap spec a calls fr (stretch_of (lowered scope r.next x))) (stretch_value B c cap spec a calls fr (stretch_of (lowered scope r.next y))) l) l st.holds
        ∙ branch_alike (join_of B c cap) (flag_there (Some p)) _ _ _ _
        (stretch_runs B c cap spec a calls fr (lowered scope r.next x) (λ l. value_of B c cap spec a calls env x l) (lowered_runs x scope r.next fr env go ok.1))
        (stretch_runs B c cap spec a calls fr (lowered scope r.next y) (λ l. value_of B c cap spec a calls env y l) (lowered_runs y scope r.next fr env go ok.2)) l))
    lowered_runs (t.choose x by arms) scope d frame env f ok =
        let r = lowered scope d x in
        let on : Abs W N → List Seen → Answer (Abs W N) = λ p l. decided B c (join_of B c cap) (λ r vs m. arm_of B c cap spec a calls env arms r vs m) p by l in
        after_runs B c cap spec a calls frame r (λ p d. alone d (code.choose p by (lowered_arms scope d by 0 arms))) (λ l. value_of B c cap spec a calls env x l) on (lowered_runs x scope d frame env f ok.0) (λ fr p st.
        let go = framed_on scope d r.next r.slot frame fr env p f st in
        alone_runs B c cap spec a calls fr r.next (code.choose r.slot by (lowered_arms scope r.next by 0 arms)) (on p) st.long (λ l.
        read_one fr r.slot p (λ p l. decided B c (join_of B c cap) (λ q vs m. arm_value B c cap spec a calls fr (lowered_arms scope r.next by 0 arms) q vs m) p by l) l st.holds
        ∙ rows_alike B c (join_of B c cap) (λ q vs m. arm_value B c cap spec a calls fr (lowered_arms scope r.next by 0 arms) q vs m) (λ r vs m. arm_of B c cap spec a calls env arms r vs m) p
        (λ r binds. (length binds ≡ taken r by) × ArmInScope (length scope + length binds) arms r)
        (λ q binds h. named_alike p binds (λ vs m. arm_value B c cap spec a calls fr (lowered_arms scope r.next by 0 arms) q vs m) (λ vs m. arm_of B c cap spec a calls env arms q vs m)
        (λ vs long. arms_run arms 0 q scope r.next fr env by vs go (from_zero by (length vs) q (long ∙ h.0)) (subst (λ n. ArmInScope (length scope + n) arms q) (sym long) h.1))) by ok.1 l))
    lowered_runs (t.make ty k args) scope d frame env f ok =
        let r = all_lowered scope d args in
        after_all_runs B c cap spec a calls frame r (λ ps d. alone d (code.make ty k ps)) (λ l. values_of B c cap spec a calls env args l) (λ ps l. gives (made_of (environment_of spec) ty k ps) l) (all_run args scope d frame env f ok) (λ fr ps st.
        alone_runs B c cap spec a calls fr r.next (code.make ty k r.slots) _ st.long (all_operands fr (code.make ty k r.slots) r.slots ps (λ ps l. gives (made_of (environment_of spec) ty k ps) l) st.holds (λ l. refl)))
    lowered_runs (t.call g args) scope d frame env f ok =
        let r = all_lowered scope d args in
        after_all_runs B c cap spec a calls frame r (λ ps d. alone d (code.call g ps)) (λ l. values_of B c cap spec a calls env args l) (λ ps l. behind l (calls g ps)) (all_run args scope d frame env f ok) (λ fr ps st.
        alone_runs B c cap spec a calls fr r.next (code.call g r.slots) _ st.long (all_operands fr (code.call g r.slots) r.slots ps (λ ps l. behind l (calls g ps)) st.holds (λ l. refl)))
    lowered_runs (t.get m x k) scope d frame env f ok =
        two_run frame (lowered scope d x) (λ d. lowered scope d k) (λ l. value_of B c cap spec a calls env x l) (λ l. value_of B c cap spec a calls env k l) (λ s t. code.get m s t) (λ p q l. accessed B c m p q l) (lowered_runs x scope d frame env f ok.0)
        (λ fr p st. lowered_runs k scope (lowered scope d x).next fr env (framed_on scope d (lowered scope d x).next (lowered scope d x).slot frame fr env p f st) ok.1) (λ fr s t l. refl)
    lowered_runs (t.put m x k v) scope d frame env f ok =
        let r = lowered scope d x in
        let s = lowered scope r.next k in
        let u = lowered scope s.next v in
        after_runs B c cap spec a calls frame r (λ p d. after (lowered scope d k) (λ q d. after (lowered scope d v) (λ r d. alone d (code.put m p q r)))) (λ l. value_of B c cap spec a calls env x l)
        (λ p l. value_of B c cap spec a calls env k l >>= λ q l. value_of B c cap spec a calls env v l >>= λ r l. gives (updated B c cap a m p q r) l) (lowered_runs x scope d frame env f ok.0) (λ fr p st.
        let go = framed_on scope d r.next r.slot frame fr env p f st in
        after_runs B c cap spec a calls fr s (λ q d. after (lowered scope d v) (λ o d. alone d (code.put m r.slot q o))) (λ l. value_of B c cap spec a calls env k l)
        (λ q l. value_of B c cap spec a calls env v l >>= λ r l. gives (updated B c cap a m p q r) l) (lowered_runs k scope r.next fr env go ok.1) (λ fs q su.
        let on = framed_on scope r.next s.next s.slot fr fs env q go su in
        after_runs B c cap spec a calls fs u (λ o d. alone d (code.put m r.slot s.slot o)) (λ l. value_of B c cap spec a calls env v l) (λ r l. gives (updated B c cap a m p q r) l) (lowered_runs v scope s.next fs env on ok.2) (λ ft o sv.
        alone_runs B c cap spec a calls ft u.next (code.put m r.slot s.slot u.slot) _ sv.long
        (three_operands ft (code.put m r.slot s.slot u.slot) r.slot s.slot u.slot p q o (λ p q r l. gives (updated B c cap a m p q r) l)
        (get_extends fs ft r.slot p sv.extends (get_extends fr fs r.slot p su.extends st.holds)) (get_extends fs ft s.slot q sv.extends su.holds) sv.holds (λ l. refl)))))

    pub all_run : (ts : Cores) (scope : List ℕ) (d : ℕ) (frame env : List (Abs W N)) → Framed scope d frame env → AllInScope (length scope) ts
        → AllRun B c cap spec a calls frame (all_lowered scope d ts) (λ l. values_of B c cap spec a calls env ts l)
    all_run t.no_core scope d frame env f ok = λ l. (record { extends = ([], sym (append_nil frame)); holds = tt; long = f.long }, refl)
    all_run (t.core_then x rest) scope d frame env f ok =
        let r = lowered scope d x in
        before_runs B c cap spec a calls frame r (λ d. all_lowered scope d rest) (λ l. value_of B c cap spec a calls env x l) (λ l. values_of B c cap spec a calls env rest l) (lowered_runs x scope d frame env f ok.0) (λ fr p st.
        all_run rest scope r.next fr env (framed_on scope d r.next r.slot frame fr env p f st) ok.1)

    -- arm number q of those from number n on
    arms_run : (ts : Cores) (n q : ℕ) (scope : List ℕ) (d : ℕ) (frame env : List (Abs W N)) (by : Decision) (vs : List (Abs W N)) → Framed scope d frame env → length vs ≡ taken (n + q) by → ArmInScope (length scope + length vs) ts q
        → AreAlike (arm_value B c cap spec a calls frame (lowered_arms scope d by n ts) q vs) (arm_of B c cap spec a calls env ts q vs)
    arms_run t.no_core n q scope d frame env by vs f e ok = λ l. refl
    arms_run (t.core_then x rest) n zero scope d frame env by vs f e ok =
        let none : n + 0 ≡ n = omega arith in
        let k = taken n by in
        let long : length vs ≡ k = subst (λ z. length vs ≡ taken z by) none e in
        stretch_runs B c cap spec a calls (frame ++ vs) (lowered (scope ++ slots_from d k) (d + k) x) (λ l. value_of B c cap spec a calls (env ++ vs) x l)
        (lowered_runs x (scope ++ slots_from d k) (d + k) (frame ++ vs) (env ++ vs) (framed_arm scope d k frame env vs f long) (subst (λ n. InScope n x) (arm_more scope d k (length vs) long) ok))
    arms_run (t.core_then x rest) n (suc q) scope d frame env by vs f e ok =
        let same : n + suc q ≡ suc n + q = omega arith in
        arms_run rest (suc n) q scope d frame env by vs f (subst (λ z. length vs ≡ taken z by) same e) ok
