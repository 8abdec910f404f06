-- The meaning with other stamps: where f gives the stamp of address n as that of address a, evaluation by the instruction at a on what f makes of
-- values is what f makes of the evaluation by the instruction at n.
use Rattle.std.proofs.Common.{◌≡◌, ℕ, zero, suc, Bool, true, false, cond, Option, Some, None, List, [], ◌∷◌, ◌++◌, length, slice_get, map as map_of, refl, sym, ap, ◌∙◌}
use Rattle.std.specs.Prelude.{◌==◌, nat_lt, option_map, option_and_then}
use Rattle.std.proofs.lemmas.Option.{slice_get-map}
use Rattle.std.proofs.lemmas.List.{map-append}
use Rattle.base_trait.specs.Uses.{Read}
use Rattle.word_operations.specs.declared.kinds.UnaryOperation.{UnaryOperation}
use Rattle.word_operations.specs.declared.kinds.BinaryOperation.{BinaryOperation}
use Rattle.word_operations.specs.declared.kinds.WordComparison.{WordComparison}
use Rattle.base_trait.specs.declared.uses.Stamp.{Stamp}
use Rattle.base_trait.specs.declared.uses.Stamp.TheVariants.{At}
use Rattle.spec_match_compiler.specs.Meets.{meets}
use Rattle.spec_match_compiler.specs.Values as m
use Rattle.spec_match_compiler.specs.Patterns.{Pattern, Patterns, any, bind, flag_is, word_is, case_is, no_pat, pat_then}
use Rattle.spec_ir.specs.declared.term.CastKind.{CastKind}
use Rattle.spec_ir.specs.declared.declared.MapType.{MapType}
use Rattle.spec_ir.specs.Terms as t
use Rattle.spec_ir.specs.Terms.{Term, Terms, Arms}
use Rattle.spec_ir.specs.Specification.{Spec, Fun}
use Rattle.semantics_values.specs.declared.value.Cell.{Cell}
use Rattle.semantics_values.specs.Values as v
use Rattle.semantics_values.specs.Values.{Val, Vals, vals, val_list, cell_at, put_cell}
use Rattle.semantics.specs.Outcomes as o
use Rattle.semantics.specs.Outcomes.{Outcome, given, seen, branch, ◌>>=◌ as ◌>>>◌}
use Rattle.semantics.specs.Steps.{number, key_of, width_of, read_at, accessed, stamped, updated, unary, binary, compared, casts, cast_of, resized, shown, all_shown, bound, all_bound}
use Rattle.semantics.specs.Direct.{den, den_all, den_arms, with_own, group_of, body_or_wrong, turns, run}
use Rattle.semantics.specs.Runs.{meaning}
use Rattle.analysis_query_laws.specs.Restamped.{all_restamped, restamped, restamped_cell, restamped_entry, restamped_read}

module _ (f : Stamp → Stamp) where
  -- what f makes of an outcome whose value g changes
  abbrev pub changed : {A : Type 0} → (A → A) → Outcome A → Outcome A
  changed g (o.deep i) = o.deep i
  changed g o.wrong = o.wrong
  changed g (o.gives x l) = o.gives (g x) (map_of (restamped_read f) l)

  bind_changed : {A B : Type 0} (g : A → A) (h : B → B) (x y : Outcome A) (k m : A → List Read → Outcome B) → y ≡ changed g x
      → ((p : A) (l : List Read) → m (g p) (map_of (restamped_read f) l) ≡ changed h (k p l)) → (y >>> m) ≡ changed h (x >>> k)
  bind_changed g h (o.deep i) y k m e more = rw e refl
  bind_changed g h o.wrong y k m e more = rw e refl
  bind_changed g h (o.gives p l) y k m e more = rw e (more p l)

  given_changed : {A : Type 0} (g : A → A) (x y : Option A) (l : List Read) → y ≡ option_map g x → given y (map_of (restamped_read f) l) ≡ changed g (given x l)
  given_changed g None y l e = rw e refl
  given_changed g (Some x) y l e = rw e refl

  -- a number that was read, with its read
  abbrev with_read : Val × Read → Val × Read
  with_read x = (restamped f x.0, restamped_read f x.1)

  seen_changed : (x y : Option (Val × Read)) (l : List Read) → y ≡ option_map with_read x → seen y (map_of (restamped_read f) l) ≡ changed (restamped f) (seen x l)
  seen_changed None y l e = rw e refl
  seen_changed (Some x) y l e = rw e (ap (o.gives (restamped f x.0)) (sym (map-append (restamped_read f) l (x.1 ∷ []))))

  branch_changed : (c : Val) (x y p q : Outcome Val) → p ≡ changed (restamped f) x → q ≡ changed (restamped f) y → branch (restamped f c) p q ≡ changed (restamped f) (branch c x y)
  branch_changed (v.flag true) x y p q h k = h
  branch_changed (v.flag false) x y p q h k = k
  branch_changed (v.word w n) x y p q h k = refl
  branch_changed (v.made ty c vs) x y p q h k = refl
  branch_changed (v.map m rest cells) x y p q h k = refl

  either_changed : (b : Bool) (x y p q : Outcome Val) → p ≡ changed (restamped f) x → q ≡ changed (restamped f) y → cond b p q ≡ changed (restamped f) (cond b x y)
  either_changed true x y p q h k = h
  either_changed false x y p q h k = k

  -- ---- words: stamps bear on no number
  number_stays : (w : ℕ) (p : Val) → number w (restamped f p) ≡ number w p
  number_stays w (v.flag b) = refl
  number_stays w (v.word u x) = refl
  number_stays w (v.made ty c vs) = refl
  number_stays w (v.map m rest cells) = refl

  key_stays : (p : Val) → key_of (restamped f p) ≡ key_of p
  key_stays (v.flag b) = refl
  key_stays (v.word u x) = refl
  key_stays (v.made ty c v.no_val) = refl
  key_stays (v.made ty c (v.val_then p ps)) = refl
  key_stays (v.map m rest cells) = refl

  mapped_stay : {A : Type 0} (k : A → Val) → ((x : A) → restamped f (k x) ≡ k x) → (x : Option A) → option_map k x ≡ option_map (restamped f) (option_map k x)
  mapped_stay k h None = refl
  mapped_stay k h (Some x) = ap Some (sym (h x))

  paired_stay : (k : ℕ → ℕ → Val) → ((x y : ℕ) → restamped f (k x y) ≡ k x y) → (x y : Option ℕ)
      → option_and_then (λ m. option_map (k m) y) x ≡ option_map (restamped f) (option_and_then (λ m. option_map (k m) y) x)
  paired_stay k h None y = refl
  paired_stay k h (Some x) y = mapped_stay (k x) (h x) y

  unary_stays : (op : UnaryOperation) (w : ℕ) (p : Val) → unary op w (restamped f p) ≡ option_map (restamped f) (unary op w p)
  unary_stays op w p = rw (number_stays w p) (mapped_stay _ (λ x. refl) (number w p))

  binary_stays : (op : BinaryOperation) (w : ℕ) (p q : Val) → binary op w (restamped f p) (restamped f q) ≡ option_map (restamped f) (binary op w p q)
  binary_stays op w p q = rw (number_stays w p, number_stays w q) (paired_stay _ (λ x y. refl) (number w p) (number w q))

  compared_stays : (c : WordComparison) (w : ℕ) (p q : Val) → compared c w (restamped f p) (restamped f q) ≡ option_map (restamped f) (compared c w p q)
  compared_stays c w p q = rw (number_stays w p, number_stays w q) (paired_stay _ (λ x y. refl) (number w p) (number w q))

  resized_stays : (kind : CastKind) (from to : ℕ) (p : Val) → resized kind from to (restamped f p) ≡ option_map (restamped f) (resized kind from to p)
  resized_stays kind from to p = rw (number_stays from p) (at (casts kind from to) (number from p))
    where
      at : (b : Bool) (x : Option ℕ) → cond b (option_map (λ y. v.word to (cast_of kind from to y)) x) None ≡ option_map (restamped f) (cond b (option_map (λ y. v.word to (cast_of kind from to y)) x) None)
      at true x = mapped_stay _ (λ y. refl) x
      at false x = refl

  -- ---- maps
  cell_changed : (rest : Cell) (cells : List (ℕ × Cell)) (k : ℕ) → cell_at (restamped_cell f rest) (map_of (restamped_entry f) cells) k ≡ restamped_cell f (cell_at rest cells k)
  cell_changed rest [] k = refl
  cell_changed rest (c ∷ cells) k = at (c.0 == k) (cell_changed rest cells k)
    where
      at : (b : Bool) → cell_at (restamped_cell f rest) (map_of (restamped_entry f) cells) k ≡ restamped_cell f (cell_at rest cells k)
          → cond b (restamped_cell f c.1) (cell_at (restamped_cell f rest) (map_of (restamped_entry f) cells) k) ≡ restamped_cell f (cond b c.1 (cell_at rest cells k))
      at true e = refl
      at false e = e

  put_changed : (k : ℕ) (x : Cell) (cells : List (ℕ × Cell)) → put_cell k (restamped_cell f x) (map_of (restamped_entry f) cells) ≡ map_of (restamped_entry f) (put_cell k x cells)
  put_changed k x [] = refl
  put_changed k x (c ∷ cells) = at (c.0 == k) (nat_lt k c.0) (put_changed k x cells)
    where
      at : (a b : Bool) → put_cell k (restamped_cell f x) (map_of (restamped_entry f) cells) ≡ map_of (restamped_entry f) (put_cell k x cells)
          → cond a ((k, restamped_cell f x) ∷ map_of (restamped_entry f) cells)
          (cond b ((k, restamped_cell f x) ∷ restamped_entry f c ∷ map_of (restamped_entry f) cells) (restamped_entry f c ∷ put_cell k (restamped_cell f x) (map_of (restamped_entry f) cells)))
          ≡ map_of (restamped_entry f) (cond a ((k, x) ∷ cells) (cond b ((k, x) ∷ c ∷ cells) (c ∷ put_cell k x cells)))
      at true b e = refl
      at false true e = refl
      at false false e = ap (λ es. restamped_entry f c ∷ es) e

  accessed_changed : (maps : List MapType) (m : ℕ) (p q : Val) → accessed maps m (restamped f p) (restamped f q) ≡ option_map with_read (accessed maps m p q)
  accessed_changed maps m (v.flag b) q = refl
  accessed_changed maps m (v.word u x) q = refl
  accessed_changed maps m (v.made ty c vs) q = refl
  accessed_changed maps m (v.map n rest cells) q = rw (key_stays q) (at (n == m) (width_of (slice_get maps m)) (key_of q))
    where
      at : (b : Bool) (w k : Option ℕ)
          → cond b (option_and_then (λ w. option_map (λ k. read_at maps m w k (cell_at (restamped_cell f rest) (map_of (restamped_entry f) cells) k)) k) w) None
          ≡ option_map with_read (cond b (option_and_then (λ w. option_map (λ k. read_at maps m w k (cell_at rest cells k)) k) w) None)
      at false w k = refl
      at true None k = refl
      at true (Some w) None = refl
      at true (Some w) (Some k) = ap (λ c. Some (read_at maps m w k c)) (cell_changed rest cells k)

  updated_changed : (maps : List MapType) (n a m : ℕ) → f (At n) ≡ At a → (p q x : Val) → updated maps a m (restamped f p) (restamped f q) (restamped f x) ≡ option_map (restamped f) (updated maps n m p q x)
  updated_changed maps n a m e (v.flag b) q x = refl
  updated_changed maps n a m e (v.word u y) q x = refl
  updated_changed maps n a m e (v.made ty c vs) q x = refl
  updated_changed maps n a m e (v.map i rest cells) q x = rw (key_stays q) (at (i == m) (width_of (slice_get maps m)) (key_of q))
    where
      put_at : (k : ℕ) (y : Option ℕ)
          → option_map (λ y. v.map m (restamped_cell f rest) (put_cell k (stamped maps a y) (map_of (restamped_entry f) cells))) y ≡ option_map (restamped f) (option_map (λ y. v.map m rest (put_cell k (stamped maps n y) cells)) y)
      put_at k None = refl
      put_at k (Some y) =
          ap (λ c. Some (v.map m (restamped_cell f rest) (put_cell k (record { v = y; stamp = c }) (map_of (restamped_entry f) cells)))) (sym e)
          ∙ ap (λ es. Some (v.map m (restamped_cell f rest) es)) (put_changed k (stamped maps n y) cells)

      at : (b : Bool) (w k : Option ℕ)
          → cond b (option_and_then (λ w. option_and_then (λ k. option_map (λ y. v.map m (restamped_cell f rest) (put_cell k (stamped maps a y) (map_of (restamped_entry f) cells))) (number w (restamped f x))) k) w) None
          ≡ option_map (restamped f) (cond b (option_and_then (λ w. option_and_then (λ k. option_map (λ y. v.map m rest (put_cell k (stamped maps n y) cells)) (number w x)) k) w) None)
      at false w k = refl
      at true None k = refl
      at true (Some w) None = refl
      at true (Some w) (Some k) = rw (number_stays w x) (put_at k (number w x))

  -- ---- matches
  mutual
    shown_stays : (p : Val) → shown (restamped f p) ≡ shown p
    shown_stays (v.flag b) = refl
    shown_stays (v.word u x) = refl
    shown_stays (v.made ty c vs) = ap (λ xs. m.made c xs) (all_shown_stay vs)
    shown_stays (v.map n rest cells) = refl

    all_shown_stay : (ps : Vals) → all_shown (all_restamped f ps) ≡ all_shown ps
    all_shown_stay v.no_val = refl
    all_shown_stay (v.val_then p ps) = ap (λ x. m.value_then x (all_shown (all_restamped f ps))) (shown_stays p) ∙ ap (λ xs. m.value_then (shown p) xs) (all_shown_stay ps)

  mutual
    bound_changed : (pattern : Pattern) (p : Val) → bound pattern (restamped f p) ≡ map_of (restamped f) (bound pattern p)
    bound_changed any p = refl
    bound_changed (bind n) p = refl
    bound_changed (flag_is b) p = refl
    bound_changed (word_is x) p = refl
    bound_changed (case_is c ps) (v.flag b) = refl
    bound_changed (case_is c ps) (v.word u x) = refl
    bound_changed (case_is c ps) (v.made ty d vs) = all_bound_changed ps vs
    bound_changed (case_is c ps) (v.map n rest cells) = refl

    all_bound_changed : (ps : Patterns) (vs : Vals) → all_bound ps (all_restamped f vs) ≡ map_of (restamped f) (all_bound ps vs)
    all_bound_changed no_pat vs = refl
    all_bound_changed (pat_then p ps) v.no_val = refl
    all_bound_changed (pat_then p ps) (v.val_then x vs) = rw (bound_changed p x, all_bound_changed ps vs) (sym (map-append (restamped f) (bound p x) (all_bound ps vs)))

  pub vals_changed : (ps : List Val) → vals (map_of (restamped f) ps) ≡ all_restamped f (vals ps)
  vals_changed [] = refl
  vals_changed (p ∷ ps) = ap (λ xs. v.val_then (restamped f p) xs) (vals_changed ps)

  pub list_changed : (ps : Vals) → val_list (all_restamped f ps) ≡ map_of (restamped f) (val_list ps)
  list_changed v.no_val = refl
  list_changed (v.val_then p ps) = ap (λ xs. restamped f p ∷ xs) (list_changed ps)

-- ---- terms
module _ (f : Stamp → Stamp) (n a : ℕ) (same : f (At n) ≡ At a) where
  -- what a call gives on changed values is what f makes of what it gives
  abbrev AreChanged : (ℕ → List Val → List Read → Outcome Val) → (ℕ → List Val → List Read → Outcome Val) → Type 0
  AreChanged calls others = (j : ℕ) (ps : List Val) (l : List Read) → others j (map_of (restamped f) ps) (map_of (restamped_read f) l) ≡ changed f (restamped f) (calls j ps l)

  abbrev all : List Val → List Val
  all = map_of (restamped f)

  abbrev log : List Read → List Read
  log = map_of (restamped_read f)

  module _ (maps : List MapType) (calls others : ℕ → List Val → List Read → Outcome Val) (are : AreChanged calls others) where
    abbrev to : Outcome Val → Outcome Val
    to = changed f (restamped f)

    longer : (env : List Val) (p : Val) → all env ++ restamped f p ∷ [] ≡ all (env ++ p ∷ [])
    longer env p = sym (map-append (restamped f) env (p ∷ []))

    bound_env : (pattern : Pattern) (env : List Val) (p : Val) → all env ++ bound pattern (restamped f p) ≡ all (env ++ bound pattern p)
    bound_env pattern env p = rw (bound_changed f pattern p) (sym (map-append (restamped f) env (bound pattern p)))

    mutual
      den_changed : (x : Term) (env : List Val) (l : List Read) → den maps others a (all env) x (log l) ≡ to (den maps calls n env x l)
      den_changed (t.var i) env l = given_changed f (restamped f) (slice_get env i) _ l (slice_get-map (restamped f) env i)
      den_changed (t.flag b) env l = refl
      den_changed (t.word w x) env l = refl
      den_changed (t.un op w x) env l = bind_changed f (restamped f) (restamped f) _ _ _ _ (den_changed x env l) (λ p l. given_changed f (restamped f) (unary op w p) _ l (unary_stays f op w p))
      den_changed (t.bin op w x y) env l =
          bind_changed f (restamped f) (restamped f) _ _ _ _ (den_changed x env l) (λ p l. bind_changed f (restamped f) (restamped f) _ _ _ _ (den_changed y env l) (λ q l.
          given_changed f (restamped f) (binary op w p q) _ l (binary_stays f op w p q)))
      den_changed (t.test c w x y) env l =
          bind_changed f (restamped f) (restamped f) _ _ _ _ (den_changed x env l) (λ p l. bind_changed f (restamped f) (restamped f) _ _ _ _ (den_changed y env l) (λ q l.
          given_changed f (restamped f) (compared c w p q) _ l (compared_stays f c w p q)))
      den_changed (t.cast kind from to x) env l =
          bind_changed f (restamped f) (restamped f) _ _ _ _ (den_changed x env l) (λ p l. given_changed f (restamped f) (resized kind from to p) _ l (resized_stays f kind from to p))
      den_changed (t.let_in x y) env l =
          bind_changed f (restamped f) (restamped f) _ _ _ _ (den_changed x env l) (λ p l. ap (λ e. den maps others a e y (log l)) (longer env p) ∙ den_changed y (env ++ p ∷ []) l)
      den_changed (t.if_else c x y) env l =
          bind_changed f (restamped f) (restamped f) _ _ _ _ (den_changed c env l) (λ p l. branch_changed f p _ _ _ _ (den_changed x env l) (den_changed y env l))
      den_changed (t.match_on x arms) env l = bind_changed f (restamped f) (restamped f) _ _ _ _ (den_changed x env l) (λ p l. arms_changed arms env p l)
      den_changed (t.make ty c args) env l =
          bind_changed f all (restamped f) _ _ _ _ (all_changed args env l) (λ ps l. ap (λ xs. o.gives (v.made ty c xs) (log l)) (vals_changed f ps))
      den_changed (t.call g args) env l = bind_changed f all (restamped f) _ _ _ _ (all_changed args env l) (λ ps l. are g ps l)
      den_changed (t.get m x k) env l =
          bind_changed f (restamped f) (restamped f) _ _ _ _ (den_changed x env l) (λ p l. bind_changed f (restamped f) (restamped f) _ _ _ _ (den_changed k env l) (λ q l.
          seen_changed f (accessed maps m p q) _ l (accessed_changed f maps m p q)))
      den_changed (t.put m x k y) env l =
          bind_changed f (restamped f) (restamped f) _ _ _ _ (den_changed x env l) (λ p l. bind_changed f (restamped f) (restamped f) _ _ _ _ (den_changed k env l) (λ q l.
          bind_changed f (restamped f) (restamped f) _ _ _ _ (den_changed y env l) (λ r l. given_changed f (restamped f) (updated maps n m p q r) _ l (updated_changed f maps n a m same p q r))))

      all_changed : (xs : Terms) (env : List Val) (l : List Read) → den_all maps others a (all env) xs (log l) ≡ changed f all (den_all maps calls n env xs l)
      all_changed t.no_term env l = refl
      all_changed (t.term_then x xs) env l =
          bind_changed f (restamped f) all _ _ _ _ (den_changed x env l) (λ p l. bind_changed f all all _ _ _ _ (all_changed xs env l) (λ ps l. refl))

      arms_changed : (arms : Arms) (env : List Val) (p : Val) (l : List Read) → den_arms maps others a (all env) (restamped f p) arms (log l) ≡ to (den_arms maps calls n env p arms l)
      arms_changed t.no_arm env p l = refl
      arms_changed (t.arm_then pattern body rest) env p l =
          rw (shown_stays f p) (either_changed f (meets pattern (shown p)) _ _ _ _ (ap (λ e. den maps others a e body (log l)) (bound_env pattern env p) ∙ den_changed body (env ++ bound pattern p) l) (arms_changed rest env p l))

  -- ---- calls
  module _ (spec : Spec) where
    body_changed : (own own' calls others : ℕ → List Val → List Read → Outcome Val) (g : ℕ) (x : Option Fun) (args : List Val) (l : List Read) → AreChanged own own' → AreChanged calls others
        → body_or_wrong x (λ body. den spec.maps (with_own (group_of spec) g own' others) a (all args) body (log l))
        ≡ changed f (restamped f) (body_or_wrong x (λ body. den spec.maps (with_own (group_of spec) g own calls) n args body l))
    body_changed own own' calls others g None args l owns are = refl
    body_changed own own' calls others g (Some fun) args l owns are =
        den_changed spec.maps (with_own (group_of spec) g own calls) (with_own (group_of spec) g own' others)
        (λ j ps m. either_changed f (group_of spec j == g) (own j ps m) (calls j ps m) _ _ (owns j ps m) (are j ps m)) fun.body args l

    turns_changed : (calls others : ℕ → List Val → List Read → Outcome Val) → AreChanged calls others → (i d : ℕ) → AreChanged (turns spec n calls i d) (turns spec a others i d)
    turns_changed calls others are i zero j args l = refl
    turns_changed calls others are i (suc d) j args l =
        body_changed (turns spec n calls i d) (turns spec a others i d) calls others (group_of spec i) (slice_get spec.funs j) args l (turns_changed calls others are i d) are

    run_changed : (d m : ℕ) → AreChanged (run spec n d m) (run spec a d m)
    run_changed d zero i args l = refl
    run_changed d (suc m) i args l = turns_changed (run spec n d m) (run spec a d m) (run_changed d m) i d i args l

    pub meaning_changed : (d : ℕ) → AreChanged (meaning spec n d) (meaning spec a d)
    meaning_changed d i args l = run_changed d (suc (length spec.funs)) i args l
