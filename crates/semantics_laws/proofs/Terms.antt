-- The meaning of a term has its type, and is never wrong.
use Rattle.std.proofs.Common.{◌≡◌, ℕ, zero, suc, ◌+◌, ◌<◌, ◌&&◌, Bool, true, false, cond, ◌||◌, Option, Some, List, [], ◌∷◌, ◌++◌, length, slice_get, refl, sym, ◌∙◌, subst, arith}
use Rattle.std.specs.List.{list_all, list_any}
use Rattle.std.proofs.lemmas.Bool.{false≢true}
use Rattle.std.proofs.lemmas.List.Folds.{list_all-append}
use Rattle.base_trait.specs.Uses.{Read}
use Rattle.spec_match_compiler.specs.Meets.{meets, bindings}
use Rattle.spec_match_compiler.specs.Patterns.{Pattern}
use Rattle.spec_match_compiler.specs.Picks.{Choice, numbered, first_match}
use Rattle.spec_match_compiler.specs.Values.{Value}
use Rattle.spec_match_compiler.proofs.Truth.{both}
use Rattle.spec_ir.specs.declared.ty.Ty.{Ty}
use Rattle.spec_ir.specs.declared.ty.Ty.TheVariants.{Bool as Flag, Word, Data as DataTy, Map as MapOf}
use Rattle.spec_ir.specs.declared.declared.MapType.{MapType}
use Rattle.spec_ir.specs.Environment.{Environment, Signature, key_type, value_type}
use Rattle.spec_ir.specs.Texts.{case_at, fields_at}
use Rattle.spec_ir.specs.Terms as t
use Rattle.spec_ir.specs.Terms.{Term, Terms, Arms, patterns_of}
use Rattle.spec_ir.specs.TermTypes.{HasType, HaveTypes, ArmsHaveType}
use Rattle.spec_ir.specs.WellFormed.{IsWellFormed}
use Rattle.spec_calls.specs.declared.call.Call.{Call}
use Rattle.spec_calls.specs.Calls as k
use Rattle.spec_calls.specs.Calls.{call_of, all_calls, arm_calls}
use Rattle.semantics_values.specs.Values as v
use Rattle.semantics_values.specs.Values.{Val, vals}
use Rattle.semantics.specs.Outcomes as o
use Rattle.semantics.specs.Outcomes.{Outcome, given, seen, branch, ◌>>=◌ as ◌>>>◌}
use Rattle.semantics.specs.Steps.{unary, binary, compared, resized, accessed, updated, shown, bound}
use Rattle.semantics.specs.Direct.{den, den_all, den_arms}
use Rattle.semantics_laws.specs.Accepted.{is_map}
use Rattle.semantics_laws.specs.Total.{AreDecided, IsTotal, AreTotal, AreTotalArms}
use Rattle.semantics_laws.specs.Typed.{is_read, are_reads}
use Rattle.semantics_laws.proofs.Values.{width_to, IsOf, AreOf, There, are_at, are_append, word_of, flag_of, flag_there, unary_there, binary_there, compared_there, resized_there}
use Rattle.semantics_laws.proofs.Maps.{ReadThere, accessed_there, updated_there}
use Rattle.semantics_laws.proofs.Bound.{make_of, bound_of, variables_have}

-- ---- what holds of each call
abbrev pub Each : (Call → Type 0) → List Call → Type 0
Each P [] = Unit {0}
Each P (c ∷ cs) = P c × Each P cs

pub each_left : (P : Call → Type 0) (xs ys : List Call) → Each P (xs ++ ys) → Each P xs
each_left P [] ys h = tt
each_left P (c ∷ xs) ys h = (h.0, each_left P xs ys h.1)

pub each_right : (P : Call → Type 0) (xs ys : List Call) → Each P (xs ++ ys) → Each P ys
each_right P [] ys h = h
each_right P (c ∷ xs) ys h = each_right P xs ys h.1

module _ (env : Environment) where
  -- An outcome is deep, or gives what P holds of with reads of maps that are declared.
  abbrev pub Is : {A : Type 0} → (A → Type 0) → Outcome A → Type 0
  Is P (o.deep i) = Unit {0}
  Is P o.wrong = ⊥
  Is P (o.gives x l) = P x × (are_reads env l ≡ true)

  pub bind_is : {A B : Type 0} (P : A → Type 0) (Q : B → Type 0) (x : Outcome A) (f : A → List Read → Outcome B) → Is P x → ((p : A) (l : List Read) → P p → are_reads env l ≡ true → Is Q (f p l)) → Is Q (x >>> f)
  bind_is P Q (o.deep i) f h k = tt
  bind_is P Q o.wrong f h k = absurd h
  bind_is P Q (o.gives p l) f h k = k p l h.0 h.1

  pub taken_as : (s t : Ty) (x : Outcome Val) → s ≡ t → Is (IsOf env t) x → Is (IsOf env s) x
  taken_as s t x e h = subst (λ z. Is (IsOf env z) x) (sym e) h

  given_is : (ty : Ty) (x : Option Val) (l : List Read) → There env ty x → are_reads env l ≡ true → Is (IsOf env ty) (given x l)
  given_is ty x l h r = subst (λ z. Is (IsOf env ty) (given z l)) (sym h.is) (h.of, r)

  seen_is : (ty : Ty) (x : Option (Val × Read)) (l : List Read) → ReadThere env ty x → are_reads env l ≡ true → Is (IsOf env ty) (seen x l)
  seen_is ty x l h r =
      let reads : are_reads env (l ++ h.read ∷ []) ≡ true = list_all-append (is_read env) l (h.read ∷ []) ∙ both (are_reads env l) (is_read env h.read && true) r (both (is_read env h.read) true h.known refl) in
      subst (λ z. Is (IsOf env ty) (seen z l)) (sym h.is) (h.of, reads)

  either_is : {A : Type 0} (P : A → Type 0) (c : Bool) (x y : Outcome A) → (c ≡ true → Is P x) → (c ≡ false → Is P y) → Is P (cond c x y)
  either_is P true x y h k = h refl
  either_is P false x y h k = k refl

  branch_is : {A : Type 0} (P : A → Type 0) (p : Val) (x y : Outcome A) → IsOf env Flag p → Is P x → Is P y → Is P (branch p x y)
  branch_is P p x y h hx hy = let b = flag_there env p h in subst (λ z. Is P (branch z x y)) (sym b.1) (at b.0)
    where
      at : (b : Bool) → Is P (branch (v.flag b) x y)
      at true = hx
      at false = hy

-- whether a value meets the pattern of an arm
abbrev meets_one : Arms → Value → Bool
meets_one arms x = list_any (λ p. meets p x) (patterns_of arms)

met : (n : ℕ) (rows : List Pattern) (x : Value) (c : Choice) → first_match (numbered n rows) x ≡ Some c → list_any (λ p. meets p x) rows ≡ true
met n [] x c h = absurd cc
met n (p ∷ rows) x c h = at (λ k. met (n + 1) rows x c k) (meets p x) h
  where
    at : (first_match (numbered (n + 1) rows) x ≡ Some c → list_any (λ q. meets q x) rows ≡ true) → (b : Bool) → cond b (Some (n, bindings [] p)) (first_match (numbered (n + 1) rows) x) ≡ Some c → (b || list_any (λ q. meets q x) rows) ≡ true
    at later true k = refl
    at later false k = later k

meets_later : (b c : Bool) → (b || c) ≡ true → b ≡ false → c ≡ true
meets_later true c h e = absurd (false≢true (sym e))
meets_later false c h e = h

pub map_at : (maps : List MapType) (m : ℕ) → m < length maps → (d : MapType) × (slice_get maps m ≡ Some d)
map_at [] m h = absurd (omega (arith, h))
map_at (d ∷ maps) zero h = (d, refl)
map_at (d ∷ maps) (suc m) h = map_at maps m (omega (arith, h))

-- `calls` gives a value of its result's type where a function may be called, and its arguments have their types
module _ (env : Environment) (wf : IsWellFormed env) (maps : list_all (is_map env) env.maps ≡ true) (P : Call → Type 0) (calls : ℕ → List Val → List Read → Outcome Val)
    (good : (c : Call) (s : Signature) (ps : List Val) (l : List Read) → P c → slice_get env.funs c.fun ≡ Some s → AreOf env s.params ps → are_reads env l ≡ true → Is env (IsOf env s.result_type) (calls c.fun ps l)) (a : ℕ) where
  abbrev means : List Val → Term → List Read → Outcome Val
  means = den env.maps calls a

  mutual
    pub den_of : (b : Bool) (x : Term) (vars : List Ty) (ty : Ty) (vs : List Val) (l : List Read) → HasType env vars x ty → IsTotal env vars x → Each P (k.calls b x) → AreOf env vars vs → are_reads env l ≡ true
        → Is env (IsOf env ty) (den env.maps calls a vs x l)
    den_of b (t.var n) vars ty vs l h g e are r = given_is env ty (slice_get vs n) l (are_at env vars vs n ty are h) r
    den_of b (t.flag c) vars ty vs l h g e are r = taken_as env ty Flag (o.gives (v.flag c) l) h (flag_of env c, r)
    den_of b (t.word w n) vars ty vs l h g e are r = taken_as env ty (Word w) (o.gives (v.word w n) l) h.2 (word_of env w n (width_to w h.0) h.1, r)
    den_of b (t.un op w x) vars ty vs l h g e are r =
        taken_as env ty (Word w) _ h.1
        (bind_is env (IsOf env (Word w)) (IsOf env (Word w)) (means vs x l) _ (den_of false x vars (Word w) vs l h.0 g e are r) (λ p l q r. given_is env (Word w) (unary op w p) l (unary_there env op w p q) r))
    den_of b (t.bin op w x y) vars ty vs l h g e are r =
        taken_as env ty (Word w) _ h.2
        (bind_is env (IsOf env (Word w)) (IsOf env (Word w)) (means vs x l) _ (den_of false x vars (Word w) vs l h.0 g.0 (each_left P (k.calls false x) (k.calls false y) e) are r) (λ p l hp r.
        bind_is env (IsOf env (Word w)) (IsOf env (Word w)) (means vs y l) _ (den_of false y vars (Word w) vs l h.1 g.1 (each_right P (k.calls false x) (k.calls false y) e) are r) (λ q l hq r.
        given_is env (Word w) (binary op w p q) l (binary_there env op w p q hp hq) r)))
    den_of b (t.test c w x y) vars ty vs l h g e are r =
        taken_as env ty Flag _ h.2
        (bind_is env (IsOf env (Word w)) (IsOf env Flag) (means vs x l) _ (den_of false x vars (Word w) vs l h.0 g.0 (each_left P (k.calls false x) (k.calls false y) e) are r) (λ p l hp r.
        bind_is env (IsOf env (Word w)) (IsOf env Flag) (means vs y l) _ (den_of false y vars (Word w) vs l h.1 g.1 (each_right P (k.calls false x) (k.calls false y) e) are r) (λ q l hq r.
        given_is env Flag (compared c w p q) l (compared_there env c w p q hp hq) r)))
    den_of b (t.cast kind from to x) vars ty vs l h g e are r =
        taken_as env ty (Word to) _ h.3
        (bind_is env (IsOf env (Word from)) (IsOf env (Word to)) (means vs x l) _ (den_of false x vars (Word from) vs l h.0 g e are r) (λ p l q r.
        given_is env (Word to) (resized kind from to p) l (resized_there env kind from to p q h.1 h.2) r))
    den_of b (t.let_in x body) vars ty vs l h g e are r =
        bind_is env (IsOf env h.0) (IsOf env ty) (means vs x l) _ (den_of false x vars h.0 vs l h.1 g.0 (each_left P (k.calls false x) (k.calls b body) e) are r) (λ p l q r.
        den_of b body (vars ++ h.0 ∷ []) ty (vs ++ p ∷ []) l h.2 (subst (λ z. IsTotal env (vars ++ z ∷ []) body) (g.1 h.0 h.1) g.2) (each_right P (k.calls false x) (k.calls b body) e) (are_append env vars (h.0 ∷ []) vs (p ∷ []) are (q, tt)) r)
    den_of b (t.if_else c x y) vars ty vs l h g e are r =
        let front = each_left P (k.calls false c ++ k.calls b x) (k.calls b y) e in
        bind_is env (IsOf env Flag) (IsOf env ty) (means vs c l) _ (den_of false c vars Flag vs l h.0 g.0 (each_left P (k.calls false c) (k.calls b x) front) are r) (λ p l q r.
        branch_is env (IsOf env ty) p (means vs x l) (means vs y l) q (den_of b x vars ty vs l h.1 g.1 (each_right P (k.calls false c) (k.calls b x) front) are r)
        (den_of b y vars ty vs l h.2 g.2 (each_right P (k.calls false c ++ k.calls b x) (k.calls b y) e) are r))
    den_of b (t.match_on x arms) vars ty vs l h g e are r =
        let all : AreDecided env h.0 arms × AreTotalArms env vars h.0 arms = subst (λ z. AreDecided env z arms × AreTotalArms env vars z arms) (g.1 h.0 h.1) (g.2, g.3) in
        bind_is env (IsOf env h.0) (IsOf env ty) (means vs x l) _ (den_of false x vars h.0 vs l h.1 g.0 (each_left P (k.calls false x) (arm_calls b arms) e) are r) (λ p l q r.
        arms_of b arms vars h.0 ty vs p l h.2 all.1 (each_right P (k.calls false x) (arm_calls b arms) e) are q (let c = all.0 p q.has in met 0 (patterns_of arms) (shown p) c.0 c.1) r)
    den_of b (t.make d c args) vars ty vs l h g e are r =
        taken_as env ty (DataTy d) _ h.1
        (bind_is env (AreOf env (fields_at (case_at env (DataTy d) c))) (IsOf env (DataTy d)) (den_all env.maps calls a vs args l) _ (all_of args vars (fields_at (case_at env (DataTy d) c)) vs l h.0 g.1 e are r) (λ ps l q r.
        (make_of env wf d c (case_at env (DataTy d) c) ps refl g.0 q, r)))
    den_of b (t.call f args) vars ty vs l h g e are r =
        taken_as env ty h.0.result_type _ h.3
        (bind_is env (AreOf env h.0.params) (IsOf env h.0.result_type) (den_all env.maps calls a vs args l) _ (all_of args vars h.0.params vs l h.2 g (each_left P (all_calls args) (call_of f b ∷ []) e) are r) (λ ps l q r.
        good (call_of f b) h.0 ps l (each_right P (all_calls args) (call_of f b ∷ []) e).0 h.1 q r))
    den_of b (t.get m x key) vars ty vs l h g e are r =
        let d = map_at env.maps m h.0 in
        taken_as env ty (value_type env m) _ h.3
        (bind_is env (IsOf env (MapOf m)) (IsOf env (value_type env m)) (means vs x l) _ (den_of false x vars (MapOf m) vs l h.1 g.0 (each_left P (k.calls false x) (k.calls false key) e) are r) (λ p l hp r.
        bind_is env (IsOf env (key_type env m)) (IsOf env (value_type env m)) (means vs key l) _ (den_of false key vars (key_type env m) vs l h.2 g.1 (each_right P (k.calls false x) (k.calls false key) e) are r) (λ q l hq r.
        seen_is env (value_type env m) (accessed env.maps m p q) l (accessed_there env maps m d.0 d.1 p q hp hq) r)))
    den_of b (t.put m x key y) vars ty vs l h g e are r =
        let d = map_at env.maps m h.0 in
        let front = each_left P (k.calls false x ++ k.calls false key) (k.calls false y) e in
        taken_as env ty (MapOf m) _ h.4
        (bind_is env (IsOf env (MapOf m)) (IsOf env (MapOf m)) (means vs x l) _ (den_of false x vars (MapOf m) vs l h.1 g.0 (each_left P (k.calls false x) (k.calls false key) front) are r) (λ p l hp r.
        bind_is env (IsOf env (key_type env m)) (IsOf env (MapOf m)) (means vs key l) _ (den_of false key vars (key_type env m) vs l h.2 g.1 (each_right P (k.calls false x) (k.calls false key) front) are r) (λ q l hq r.
        bind_is env (IsOf env (value_type env m)) (IsOf env (MapOf m)) (means vs y l) _ (den_of false y vars (value_type env m) vs l h.3 g.2 (each_right P (k.calls false x ++ k.calls false key) (k.calls false y) e) are r) (λ n l hn r.
        given_is env (MapOf m) (updated env.maps a m p q n) l (updated_there env maps m d.0 d.1 a p q n hp hq hn) r))))

    all_of : (xs : Terms) (vars tys : List Ty) (vs : List Val) (l : List Read) → HaveTypes env vars xs tys → AreTotal env vars xs → Each P (all_calls xs) → AreOf env vars vs → are_reads env l ≡ true
        → Is env (AreOf env tys) (den_all env.maps calls a vs xs l)
    all_of t.no_term vars [] vs l h g e are r = (tt, r)
    all_of t.no_term vars (ty ∷ tys) vs l h g e are r = absurd h
    all_of (t.term_then x xs) vars [] vs l h g e are r = absurd h
    all_of (t.term_then x xs) vars (ty ∷ tys) vs l h g e are r =
        bind_is env (IsOf env ty) (AreOf env (ty ∷ tys)) (means vs x l) _ (den_of false x vars ty vs l h.0 g.0 (each_left P (k.calls false x) (all_calls xs) e) are r) (λ p l hp r.
        bind_is env (AreOf env tys) (AreOf env (ty ∷ tys)) (den_all env.maps calls a vs xs l) _ (all_of xs vars tys vs l h.1 g.1 (each_right P (k.calls false x) (all_calls xs) e) are r) (λ ps l hs r. ((hp, hs), r)))

    arms_of : (b : Bool) (arms : Arms) (vars : List Ty) (from ty : Ty) (vs : List Val) (p : Val) (l : List Read) → ArmsHaveType env vars from arms ty → AreTotalArms env vars from arms → Each P (arm_calls b arms) → AreOf env vars vs → IsOf env from p
        → meets_one arms (shown p) ≡ true → are_reads env l ≡ true → Is env (IsOf env ty) (den_arms env.maps calls a vs p arms l)
    arms_of b t.no_arm vars from ty vs p l h g e are q one r = absurd (false≢true one)
    arms_of b (t.arm_then pat body rest) vars from ty vs p l h g e are q one r =
        either_is env (IsOf env ty) (meets pat (shown p)) (den env.maps calls a (vs ++ bound pat p) body l) (den_arms env.maps calls a vs p rest l)
        (λ met. den_of b body (vars ++ h.0) ty (vs ++ bound pat p) l h.2 (subst (λ zs. IsTotal env (vars ++ zs) body) (variables_have env (length vars) from pat h.0 h.1) g.0) (each_left P (k.calls b body) (arm_calls b rest) e) (are_append env vars h.0 vs (bound pat p) are (bound_of env wf (length vars) from pat h.0 p h.1 q met)) r)
        (λ not. arms_of b rest vars from ty vs p l h.3 g.1 (each_right P (k.calls b body) (arm_calls b rest) e) are q (meets_later (meets pat (shown p)) (meets_one rest (shown p)) one not) r)
