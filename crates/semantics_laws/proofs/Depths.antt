-- The direct meaning at other bounds on how deep calls of other groups go.
use Rattle.std.proofs.Common.{◌≡◌, ◌⊎◌, ℕ, zero, suc, ◌<◌, ◌≤◌, Bool, true, false, cond, ◌==◌, Option, Some, None, List, [], ◌∷◌, ◌++◌, length, slice_get, refl, sym, ap, ◌∙◌, subst, inl, inr, arith}
use Rattle.std.proofs.lemmas.Bool.Decides.{nat_tests}
use Rattle.base_trait.specs.Uses.{Read}
use Rattle.spec_match_compiler.specs.Meets.{meets}
use Rattle.spec_ir.specs.declared.declared.MapType.{MapType}
use Rattle.spec_ir.specs.Terms as t
use Rattle.spec_ir.specs.Terms.{Term, Terms, Arms}
use Rattle.spec_ir.specs.Specification.{Spec, Fun}
use Rattle.spec_calls.specs.declared.call.Call.{Call}
use Rattle.spec_calls.specs.Calls as k
use Rattle.spec_calls.specs.Calls.{call_of, all_calls, arm_calls}
use Rattle.semantics_values.specs.Values.{Val}
use Rattle.semantics.specs.Outcomes.{Outcome}
use Rattle.semantics.specs.Steps.{shown, bound}
use Rattle.semantics.specs.Direct.{den, den_all, den_arms, with_own, group_at, group_of, body_or_wrong, turns, run}
use Rattle.semantics_laws.specs.Accepted.{IsAccepted, IsInOrder}
use Rattle.semantics_laws.specs.Depths.{DepthsSettle}
use Rattle.semantics_laws.proofs.Terms.{Each, each_left, each_right}
use Rattle.semantics_laws.proofs.Turns.{each_from, each_more}
use Rattle.semantics_laws.proofs.Tailed.{bind_same, branch_same, either_same}

-- `calls` and `more` give the same where P holds of a call
module _ (maps : List MapType) (calls more : ℕ → List Val → List Read → Outcome Val) (a : ℕ) (P : Call → Type 0) (alike : (c : Call) (ps : List Val) (l : List Read) → P c → calls c.fun ps l ≡ more c.fun ps l) where
  mutual
    den_alike : (b : Bool) (x : Term) (env : List Val) (l : List Read) → Each P (k.calls b x) → den maps calls a env x l ≡ den maps more a env x l
    den_alike b (t.var n) env l h = refl
    den_alike b (t.flag c) env l h = refl
    den_alike b (t.word w n) env l h = refl
    den_alike b (t.un op w x) env l h = bind_same _ _ _ _ (den_alike false x env l h) (λ p l. refl)
    den_alike b (t.bin op w x y) env l h =
        bind_same _ _ _ _ (den_alike false x env l (each_left P (k.calls false x) (k.calls false y) h)) (λ p l. bind_same _ _ _ _ (den_alike false y env l (each_right P (k.calls false x) (k.calls false y) h)) (λ q l. refl))
    den_alike b (t.test c w x y) env l h =
        bind_same _ _ _ _ (den_alike false x env l (each_left P (k.calls false x) (k.calls false y) h)) (λ p l. bind_same _ _ _ _ (den_alike false y env l (each_right P (k.calls false x) (k.calls false y) h)) (λ q l. refl))
    den_alike b (t.cast kind from to x) env l h = bind_same _ _ _ _ (den_alike false x env l h) (λ p l. refl)
    den_alike b (t.let_in x y) env l h =
        bind_same _ _ _ _ (den_alike false x env l (each_left P (k.calls false x) (k.calls b y) h)) (λ p l. den_alike b y (env ++ p ∷ []) l (each_right P (k.calls false x) (k.calls b y) h))
    den_alike b (t.if_else c x y) env l h =
        let front = each_left P (k.calls false c ++ k.calls b x) (k.calls b y) h in
        bind_same _ _ _ _ (den_alike false c env l (each_left P (k.calls false c) (k.calls b x) front)) (λ p l.
        branch_same p _ _ _ _ (den_alike b x env l (each_right P (k.calls false c) (k.calls b x) front)) (den_alike b y env l (each_right P (k.calls false c ++ k.calls b x) (k.calls b y) h)))
    den_alike b (t.match_on x arms) env l h =
        bind_same _ _ _ _ (den_alike false x env l (each_left P (k.calls false x) (arm_calls b arms) h)) (λ p l. arms_alike b arms env p l (each_right P (k.calls false x) (arm_calls b arms) h))
    den_alike b (t.make ty c args) env l h = bind_same _ _ _ _ (all_alike args env l h) (λ ps l. refl)
    den_alike b (t.call f args) env l h =
        bind_same _ _ _ _ (all_alike args env l (each_left P (all_calls args) (call_of f b ∷ []) h)) (λ ps l. alike (call_of f b) ps l (each_right P (all_calls args) (call_of f b ∷ []) h).0)
    den_alike b (t.get m x y) env l h =
        bind_same _ _ _ _ (den_alike false x env l (each_left P (k.calls false x) (k.calls false y) h)) (λ p l. bind_same _ _ _ _ (den_alike false y env l (each_right P (k.calls false x) (k.calls false y) h)) (λ q l. refl))
    den_alike b (t.put m x y z) env l h =
        let front = each_left P (k.calls false x ++ k.calls false y) (k.calls false z) h in
        bind_same _ _ _ _ (den_alike false x env l (each_left P (k.calls false x) (k.calls false y) front)) (λ p l.
        bind_same _ _ _ _ (den_alike false y env l (each_right P (k.calls false x) (k.calls false y) front)) (λ q l.
        bind_same _ _ _ _ (den_alike false z env l (each_right P (k.calls false x ++ k.calls false y) (k.calls false z) h)) (λ r l. refl)))

    all_alike : (xs : Terms) (env : List Val) (l : List Read) → Each P (all_calls xs) → den_all maps calls a env xs l ≡ den_all maps more a env xs l
    all_alike t.no_term env l h = refl
    all_alike (t.term_then x xs) env l h =
        bind_same _ _ _ _ (den_alike false x env l (each_left P (k.calls false x) (all_calls xs) h)) (λ p l. bind_same _ _ _ _ (all_alike xs env l (each_right P (k.calls false x) (all_calls xs) h)) (λ ps l. refl))

    arms_alike : (b : Bool) (arms : Arms) (env : List Val) (p : Val) (l : List Read) → Each P (arm_calls b arms) → den_arms maps calls a env p arms l ≡ den_arms maps more a env p arms l
    arms_alike b t.no_arm env p l h = refl
    arms_alike b (t.arm_then pattern body rest) env p l h =
        either_same (meets pattern (shown p)) _ _ _ _ (den_alike b body (env ++ bound pattern p) l (each_left P (k.calls b body) (arm_calls b rest) h)) (arms_alike b rest env p l (each_right P (k.calls b body) (arm_calls b rest) h))

module _ (spec : Spec) (ok : IsAccepted spec) (a : ℕ) where
  abbrev IsLower : ℕ → ℕ → Type 0
  IsLower g f = ok.rank (group_of spec f) < ok.rank g

  abbrev IsNext : ℕ → Call → Type 0
  IsNext g c = (group_of spec c.fun ≡ g) ⊎ IsLower g c.fun

  next_from : (g f : ℕ) → group_of spec f ≡ g → (c : Call) → IsInOrder spec ok.rank f c → IsNext g c
  next_from g f e c (inl h) = inl (h.0 ∙ e)
  next_from g f e c (inr h) = inr (subst (λ z. ok.rank (group_of spec c.fun) < ok.rank z) e h)

  picked : (g f : ℕ) (b : Bool) (x y z u : Outcome Val) → (group_of spec f == g) ≡ b → (group_of spec f ≡ g → x ≡ z) → (IsLower g f → y ≡ u) → (group_of spec f ≡ g) ⊎ IsLower g f → cond b x y ≡ cond b z u
  picked g f true x y z u e own lower h = own (grind (arith, nat_tests))
  picked g f false x y z u e own lower (inl h) = absurd (grind (arith, nat_tests))
  picked g f false x y z u e own lower (inr h) = lower h

  body_alike : (g : ℕ) (own own' calls calls' : ℕ → List Val → List Read → Outcome Val) → ((f : ℕ) (ps : List Val) (l : List Read) → group_of spec f ≡ g → own f ps l ≡ own' f ps l)
      → ((f : ℕ) (ps : List Val) (l : List Read) → IsLower g f → calls f ps l ≡ calls' f ps l) → (j : ℕ) (x : Option Fun) (args : List Val) (l : List Read) → slice_get spec.funs j ≡ x → group_of spec j ≡ g
      → body_or_wrong x (λ body. den spec.maps (with_own (group_of spec) g own calls) a args body l) ≡ body_or_wrong x (λ body. den spec.maps (with_own (group_of spec) g own' calls') a args body l)
  body_alike g own own' calls calls' owns all j None args l e same = refl
  body_alike g own own' calls calls' owns all j (Some fun) args l e same =
      let each = each_more (IsInOrder spec ok.rank j) (IsNext g) (k.calls true fun.body) (next_from g j same) (each_from (IsInOrder spec ok.rank j) (k.calls true fun.body) (ok.right j fun e).calls_in_order) in
      den_alike spec.maps (with_own (group_of spec) g own calls) (with_own (group_of spec) g own' calls') a (IsNext g)
      (λ c ps m h. picked g c.fun (group_of spec c.fun == g) (own c.fun ps m) (calls c.fun ps m) (own' c.fun ps m) (calls' c.fun ps m) refl (owns c.fun ps m) (all c.fun ps m) h) true fun.body args l each

  turns_alike : (calls calls' : ℕ → List Val → List Read → Outcome Val) (i : ℕ) → ((f : ℕ) (ps : List Val) (l : List Read) → IsLower (group_of spec i) f → calls f ps l ≡ calls' f ps l) → (d j : ℕ) (args : List Val) (l : List Read)
      → group_of spec j ≡ group_of spec i → turns spec a calls i d j args l ≡ turns spec a calls' i d j args l
  turns_alike calls calls' i all zero j args l same = refl
  turns_alike calls calls' i all (suc d) j args l same =
      body_alike (group_of spec i) (turns spec a calls i d) (turns spec a calls' i d) calls calls' (λ f ps m e. turns_alike calls calls' i all d f ps m e) all j (slice_get spec.funs j) args l refl same

  run_alike : (d m n i : ℕ) (args : List Val) (l : List Read) → ok.rank (group_of spec i) < m → ok.rank (group_of spec i) < n → run spec a d m i args l ≡ run spec a d n i args l
  run_alike d zero n i args l lm ln = absurd (omega (arith, lm))
  run_alike d (suc m) zero i args l lm ln = absurd (omega (arith, ln))
  run_alike d (suc m) (suc n) i args l lm ln = turns_alike (run spec a d m) (run spec a d n) i (λ f ps r h. run_alike d m n f ps r (omega (arith, h, lm)) (omega (arith, h, ln))) d i args l refl

  pub above : (d m n i : ℕ) (fun : Fun) (args : List Val) (l : List Read) → slice_get spec.funs i ≡ Some fun → length spec.funs < m → length spec.funs < n → run spec a d m i args l ≡ run spec a d n i args l
  above d m n i fun args l e lm ln =
      let bound = subst (λ g. ok.rank g ≤ length spec.funs) (sym (ap group_at e)) (ok.right i fun e).bound in
      run_alike d m n i args l (omega (arith, bound, lm)) (omega (arith, bound, ln))

pub depths_settle : DepthsSettle
depths_settle spec a d m n i fun args l ok e lm ln = above spec ok a d m n i fun args l e lm ln
