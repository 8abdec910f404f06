-- Turns one after the other are the direct meaning.
use Rattle.std.proofs.Common.{◌≡◌, ℕ, zero, suc, ◌<◌, Bool, true, false, cond, ◌==◌, Option, Some, None, List, [], ◌∷◌, ◌++◌, slice_get, refl, sym, ◌∙◌, subst, inl, inr, arith}
use Rattle.std.proofs.lemmas.Bool.{false≢true}
use Rattle.std.proofs.lemmas.Bool.Decides.{nat_tests}
use Rattle.base_trait.specs.Uses.{Read}
use Rattle.spec_match_compiler.specs.Meets.{meets}
use Rattle.spec_ir.specs.declared.declared.MapType.{MapType}
use Rattle.spec_ir.specs.Terms as t
use Rattle.spec_ir.specs.Terms.{Term, Terms, Arms}
use Rattle.spec_ir.specs.Specification.{Spec, Fun}
use Rattle.spec_calls.specs.declared.call.Call.{Call}
use Rattle.spec_calls.specs.Calls as k
use Rattle.spec_calls.specs.Calls.{call_of, all_calls, arm_calls}
use Rattle.semantics_values.specs.Values as v
use Rattle.semantics_values.specs.Values.{Val, vals}
use Rattle.semantics.specs.Outcomes as o
use Rattle.semantics.specs.Outcomes.{Outcome, given, seen, branch, ◌>>=◌ as ◌>>>◌}
use Rattle.semantics.specs.Steps.{shown, bound}
use Rattle.semantics.specs.Direct.{den, den_all, den_arms, with_own, group_of, body_or_wrong, turns, run}
use Rattle.semantics.specs.Tails as e
use Rattle.semantics.specs.Tails.{Ending, continued, ends, others, called, tail, tail_arms, tail_turns, run_tails}
use Rattle.semantics_laws.specs.TailForm.{TailsAreTheMeaning}
use Rattle.semantics_laws.specs.Accepted.{IsAccepted, IsInOrder}
use Rattle.semantics_laws.proofs.Terms.{Each, each_left, each_right}
use Rattle.semantics_laws.proofs.Turns.{each_from, each_more}

pub bind_same : {A B : Type 0} (x y : Outcome A) (f g : A → List Read → Outcome B) → x ≡ y → ((p : A) (l : List Read) → f p l ≡ g p l) → (x >>> f) ≡ (y >>> g)
bind_same x y f g e h = subst (λ z. (x >>> f) ≡ (z >>> g)) e (at x)
  where
    at : (z : Outcome _) → (z >>> f) ≡ (z >>> g)
    at (o.deep i) = refl
    at o.wrong = refl
    at (o.gives p l) = h p l

bind_twice : {A B C : Type 0} (x : Outcome A) (f : A → List Read → Outcome B) (g : B → List Read → Outcome C) → ((x >>> f) >>> g) ≡ (x >>> (λ p l. f p l >>> g))
bind_twice (o.deep i) f g = refl
bind_twice o.wrong f g = refl
bind_twice (o.gives p l) f g = refl

pub branch_same : {A : Type 0} (p : Val) (x y z u : Outcome A) → x ≡ z → y ≡ u → branch p x y ≡ branch p z u
branch_same p x y z u h k = rw (h, k) refl

branch_bind : {A B : Type 0} (p : Val) (x y : Outcome A) (f : A → List Read → Outcome B) → (branch p x y >>> f) ≡ branch p (x >>> f) (y >>> f)
branch_bind (v.flag true) x y f = refl
branch_bind (v.flag false) x y f = refl
branch_bind (v.word w n) x y f = refl
branch_bind (v.made ty c ps) x y f = refl
branch_bind (v.map m rest cells) x y f = refl

either_bind : {A B : Type 0} (b : Bool) (x y : Outcome A) (f : A → List Read → Outcome B) → (cond b x y >>> f) ≡ cond b (x >>> f) (y >>> f)
either_bind true x y f = refl
either_bind false x y f = refl

pub either_same : {A : Type 0} (b : Bool) (x y z u : Outcome A) → x ≡ z → y ≡ u → cond b x y ≡ cond b z u
either_same true x y z u h k = h
either_same false x y z u h k = k

leaf_ends : (own : ℕ → List Val → List Read → Outcome Val) (x : Outcome Val) → ((x >>> ends) >>> continued own) ≡ x
leaf_ends own (o.deep i) = refl
leaf_ends own o.wrong = refl
leaf_ends own (o.gives p l) = refl

-- `own` and `own'` are alike on functions of the group, and `calls` and `calls'` on all
module _ (maps : List MapType) (group : ℕ → ℕ) (g : ℕ) (own own' calls calls' : ℕ → List Val → List Read → Outcome Val) (a : ℕ)
    (owns : (f : ℕ) (ps : List Val) (l : List Read) → group f ≡ g → own f ps l ≡ own' f ps l) (all : (f : ℕ) (ps : List Val) (l : List Read) → calls f ps l ≡ calls' f ps l) where
  -- a call outside tail position is of another group
  abbrev pub IsOuter : Call → Type 0
  IsOuter c = c.tail ≡ false → ¬ (group c.fun ≡ g)

  abbrev full : ℕ → List Val → List Read → Outcome Val
  full = with_own group g own' calls'

  abbrev outer : ℕ → List Val → List Read → Outcome Val
  outer = others maps group g calls a

  outer_same : (f : ℕ) (ps : List Val) (l : List Read) (b : Bool) → (group f == g) ≡ b → ¬ (group f ≡ g) → cond b o.wrong (calls f ps l) ≡ cond b (own' f ps l) (calls' f ps l)
  outer_same f ps l true e h = let same : group f ≡ g = grind (arith, nat_tests) in absurd (h same)
  outer_same f ps l false e h = all f ps l

  mutual
    den_same : (x : Term) (env : List Val) (l : List Read) → Each IsOuter (k.calls false x) → den maps outer a env x l ≡ den maps full a env x l
    den_same (t.var n) env l h = refl
    den_same (t.flag b) env l h = refl
    den_same (t.word w n) env l h = refl
    den_same (t.un op w x) env l h = bind_same _ _ _ _ (den_same x env l h) (λ p l. refl)
    den_same (t.bin op w x y) env l h =
        bind_same _ _ _ _ (den_same x env l (each_left IsOuter (k.calls false x) (k.calls false y) h)) (λ p l. bind_same _ _ _ _ (den_same y env l (each_right IsOuter (k.calls false x) (k.calls false y) h)) (λ q l. refl))
    den_same (t.test c w x y) env l h =
        bind_same _ _ _ _ (den_same x env l (each_left IsOuter (k.calls false x) (k.calls false y) h)) (λ p l. bind_same _ _ _ _ (den_same y env l (each_right IsOuter (k.calls false x) (k.calls false y) h)) (λ q l. refl))
    den_same (t.cast kind from to x) env l h = bind_same _ _ _ _ (den_same x env l h) (λ p l. refl)
    den_same (t.let_in x y) env l h =
        bind_same _ _ _ _ (den_same x env l (each_left IsOuter (k.calls false x) (k.calls false y) h)) (λ p l. den_same y (env ++ p ∷ []) l (each_right IsOuter (k.calls false x) (k.calls false y) h))
    den_same (t.if_else c x y) env l h =
        let front = each_left IsOuter (k.calls false c ++ k.calls false x) (k.calls false y) h in
        bind_same _ _ _ _ (den_same c env l (each_left IsOuter (k.calls false c) (k.calls false x) front)) (λ p l.
        branch_same p _ _ _ _ (den_same x env l (each_right IsOuter (k.calls false c) (k.calls false x) front)) (den_same y env l (each_right IsOuter (k.calls false c ++ k.calls false x) (k.calls false y) h)))
    den_same (t.match_on x arms) env l h =
        bind_same _ _ _ _ (den_same x env l (each_left IsOuter (k.calls false x) (arm_calls false arms) h)) (λ p l. arms_same arms env p l (each_right IsOuter (k.calls false x) (arm_calls false arms) h))
    den_same (t.make ty c args) env l h = bind_same _ _ _ _ (all_same args env l h) (λ ps l. refl)
    den_same (t.call f args) env l h =
        bind_same _ _ _ _ (all_same args env l (each_left IsOuter (all_calls args) (call_of f false ∷ []) h)) (λ ps l.
        outer_same f ps l (group f == g) refl ((each_right IsOuter (all_calls args) (call_of f false ∷ []) h).0 refl))
    den_same (t.get m x y) env l h =
        bind_same _ _ _ _ (den_same x env l (each_left IsOuter (k.calls false x) (k.calls false y) h)) (λ p l. bind_same _ _ _ _ (den_same y env l (each_right IsOuter (k.calls false x) (k.calls false y) h)) (λ q l. refl))
    den_same (t.put m x y z) env l h =
        let front = each_left IsOuter (k.calls false x ++ k.calls false y) (k.calls false z) h in
        bind_same _ _ _ _ (den_same x env l (each_left IsOuter (k.calls false x) (k.calls false y) front)) (λ p l.
        bind_same _ _ _ _ (den_same y env l (each_right IsOuter (k.calls false x) (k.calls false y) front)) (λ q l.
        bind_same _ _ _ _ (den_same z env l (each_right IsOuter (k.calls false x ++ k.calls false y) (k.calls false z) h)) (λ r l. refl)))

    all_same : (xs : Terms) (env : List Val) (l : List Read) → Each IsOuter (all_calls xs) → den_all maps outer a env xs l ≡ den_all maps full a env xs l
    all_same t.no_term env l h = refl
    all_same (t.term_then x xs) env l h =
        bind_same _ _ _ _ (den_same x env l (each_left IsOuter (k.calls false x) (all_calls xs) h)) (λ p l. bind_same _ _ _ _ (all_same xs env l (each_right IsOuter (k.calls false x) (all_calls xs) h)) (λ ps l. refl))

    arms_same : (arms : Arms) (env : List Val) (p : Val) (l : List Read) → Each IsOuter (arm_calls false arms) → den_arms maps outer a env p arms l ≡ den_arms maps full a env p arms l
    arms_same t.no_arm env p l h = refl
    arms_same (t.arm_then pattern body rest) env p l h =
        either_same (meets pattern (shown p)) _ _ _ _ (den_same body (env ++ bound pattern p) l (each_left IsOuter (k.calls false body) (arm_calls false rest) h)) (arms_same rest env p l (each_right IsOuter (k.calls false body) (arm_calls false rest) h))

  -- a term whose value is a leaf
  leaf_same : (x : Term) (env : List Val) (l : List Read) → Each IsOuter (k.calls false x) → ((den maps outer a env x l >>> ends) >>> continued own) ≡ den maps full a env x l
  leaf_same x env l h = leaf_ends own (den maps outer a env x l) ∙ den_same x env l h

  called_same : (f : ℕ) (ps : List Val) (l : List Read) (b : Bool) → (group f == g) ≡ b → (cond b (o.gives (e.again f ps) l) (calls f ps l >>> ends) >>> continued own) ≡ cond b (own' f ps l) (calls' f ps l)
  called_same f ps l true h = let same : group f ≡ g = grind (arith, nat_tests) in owns f ps l same
  called_same f ps l false h = leaf_ends own (calls f ps l) ∙ all f ps l

  mutual
    pub tail_same : (x : Term) (env : List Val) (l : List Read) → Each IsOuter (k.calls true x) → (tail maps group g calls a env x l >>> continued own) ≡ den maps full a env x l
    tail_same (t.let_in x y) env l h =
        bind_twice (den maps outer a env x l) (λ p l. tail maps group g calls a (env ++ p ∷ []) y l) (continued own)
        ∙ bind_same _ _ _ _ (den_same x env l (each_left IsOuter (k.calls false x) (k.calls true y) h)) (λ p l. tail_same y (env ++ p ∷ []) l (each_right IsOuter (k.calls false x) (k.calls true y) h))
    tail_same (t.if_else c x y) env l h =
        let front = each_left IsOuter (k.calls false c ++ k.calls true x) (k.calls true y) h in
        bind_twice (den maps outer a env c l) (λ p l. branch p (tail maps group g calls a env x l) (tail maps group g calls a env y l)) (continued own)
        ∙ bind_same _ _ _ _ (den_same c env l (each_left IsOuter (k.calls false c) (k.calls true x) front)) (λ p l.
        branch_bind p (tail maps group g calls a env x l) (tail maps group g calls a env y l) (continued own)
        ∙ branch_same p _ _ _ _ (tail_same x env l (each_right IsOuter (k.calls false c) (k.calls true x) front)) (tail_same y env l (each_right IsOuter (k.calls false c ++ k.calls true x) (k.calls true y) h)))
    tail_same (t.match_on x arms) env l h =
        bind_twice (den maps outer a env x l) (λ p l. tail_arms maps group g calls a env p arms l) (continued own)
        ∙ bind_same _ _ _ _ (den_same x env l (each_left IsOuter (k.calls false x) (arm_calls true arms) h)) (λ p l. tail_arms_same arms env p l (each_right IsOuter (k.calls false x) (arm_calls true arms) h))
    tail_same (t.call f args) env l h =
        bind_twice (den_all maps outer a env args l) (λ ps l. called maps group g calls a f ps l) (continued own)
        ∙ bind_same _ _ _ _ (all_same args env l (each_left IsOuter (all_calls args) (call_of f true ∷ []) h)) (λ ps l. called_same f ps l (group f == g) refl)
    tail_same (t.var n) env l h = leaf_same (t.var n) env l h
    tail_same (t.flag b) env l h = leaf_same (t.flag b) env l h
    tail_same (t.word w n) env l h = leaf_same (t.word w n) env l h
    tail_same (t.un op w x) env l h = leaf_same (t.un op w x) env l h
    tail_same (t.bin op w x y) env l h = leaf_same (t.bin op w x y) env l h
    tail_same (t.test c w x y) env l h = leaf_same (t.test c w x y) env l h
    tail_same (t.cast kind from to x) env l h = leaf_same (t.cast kind from to x) env l h
    tail_same (t.make ty c args) env l h = leaf_same (t.make ty c args) env l h
    tail_same (t.get m x y) env l h = leaf_same (t.get m x y) env l h
    tail_same (t.put m x y z) env l h = leaf_same (t.put m x y z) env l h

    tail_arms_same : (arms : Arms) (env : List Val) (p : Val) (l : List Read) → Each IsOuter (arm_calls true arms) → (tail_arms maps group g calls a env p arms l >>> continued own) ≡ den_arms maps full a env p arms l
    tail_arms_same t.no_arm env p l h = refl
    tail_arms_same (t.arm_then pattern body rest) env p l h =
        either_bind (meets pattern (shown p)) (tail maps group g calls a (env ++ bound pattern p) body l) (tail_arms maps group g calls a env p rest l) (continued own)
        ∙ either_same (meets pattern (shown p)) _ _ _ _ (tail_same body (env ++ bound pattern p) l (each_left IsOuter (k.calls true body) (arm_calls true rest) h)) (tail_arms_same rest env p l (each_right IsOuter (k.calls true body) (arm_calls true rest) h))

module _ (spec : Spec) (ok : IsAccepted spec) (a : ℕ) where
  outer_from : (j g : ℕ) → group_of spec j ≡ g → (c : Call) → IsInOrder spec ok.rank j c → c.tail ≡ false → ¬ (group_of spec c.fun ≡ g)
  outer_from j g e c (inl h) t same = false≢true (sym t ∙ h.1)
  outer_from j g e c (inr h) t same = let less : ok.rank g < ok.rank g = subst (λ z. ok.rank z < ok.rank g) same (subst (λ z. ok.rank (group_of spec c.fun) < ok.rank z) e h) in omega (arith, less)

  body_same : (g : ℕ) (own own' calls calls' : ℕ → List Val → List Read → Outcome Val) → ((f : ℕ) (ps : List Val) (l : List Read) → group_of spec f ≡ g → own f ps l ≡ own' f ps l) → ((f : ℕ) (ps : List Val) (l : List Read) → calls f ps l ≡ calls' f ps l)
      → (j : ℕ) (x : Option Fun) (args : List Val) (l : List Read) → slice_get spec.funs j ≡ x → group_of spec j ≡ g
      → body_or_wrong x (λ body. tail spec.maps (group_of spec) g calls a args body l >>> continued own) ≡ body_or_wrong x (λ body. den spec.maps (with_own (group_of spec) g own' calls') a args body l)
  body_same g own own' calls calls' owns all j None args l e same = refl
  body_same g own own' calls calls' owns all j (Some fun) args l e same =
      let each =
      each_more (IsInOrder spec ok.rank j) (IsOuter spec.maps (group_of spec) g own own' calls calls' a owns all) (k.calls true fun.body) (outer_from j g same)
      (each_from (IsInOrder spec ok.rank j) (k.calls true fun.body) (ok.right j fun e).calls_in_order) in
      tail_same spec.maps (group_of spec) g own own' calls calls' a owns all fun.body args l each

  turns_same : (calls calls' : ℕ → List Val → List Read → Outcome Val) (i : ℕ) → ((f : ℕ) (ps : List Val) (l : List Read) → calls f ps l ≡ calls' f ps l) → (d j : ℕ) (args : List Val) (l : List Read) → group_of spec j ≡ group_of spec i
      → tail_turns spec a calls i d j args l ≡ turns spec a calls' i d j args l
  turns_same calls calls' i all zero j args l same = refl
  turns_same calls calls' i all (suc d) j args l same =
      body_same (group_of spec i) (tail_turns spec a calls i d) (turns spec a calls' i d) calls calls' (λ f ps l e. turns_same calls calls' i all d f ps l e) all j (slice_get spec.funs j) args l refl same

  run_same : (d n i : ℕ) (args : List Val) (l : List Read) → run_tails spec a d n i args l ≡ run spec a d n i args l
  run_same d zero i args l = refl
  run_same d (suc n) i args l = turns_same (run_tails spec a d n) (run spec a d n) i (λ f ps l. run_same d n f ps l) d i args l refl

pub tails_are_the_meaning : TailsAreTheMeaning
tails_are_the_meaning spec a d n i args l ok = run_same spec ok a d n i args l
