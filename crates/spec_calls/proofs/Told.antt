-- What a table tells of groups and of calls.
use Rattle.std.proofs.Common.{◌≡◌, ◌⊎◌, ℕ, zero, suc, ◌+◌, ◌<◌, ◌≤◌, Bool, true, false, not, cond, ◌&&◌, ◌==◌, Option, Some, None, option_map, Result, Ok, Err, OnOk, IfOk, List, [], ◌∷◌, length, map, get_or, slice_get, refl, sym, ap, ◌∙◌, subst, inl, inr, arith, zero-add}
use Rattle.std.specs.List.{Contains}
use Rattle.std.proofs.lemmas.Bool.{cases_lt, false≢true, not-true as not_is, eqb-true as same_number, and_from as and_both, and_parts, or_right, or_left, or_cases as or_parts}
use Rattle.std.proofs.lemmas.List.{get_or_past, length-map}
use Rattle.std.proofs.lemmas.Simd.{map-map}
use Rattle.std.proofs.lemmas.Option.{slice_get-map, slice_get_within}
use Rattle.support_reachability.specs.Graph.{Reaches, SameGroup, IsLeastOfGroup, edge, onward}
use Rattle.support_reachability.specs.Table.{IsTableOf, says, same_group}
use Rattle.support_reachability.proofs.Groups.{same_from, same_to, inside, least}
use Rattle.support_reachability.proofs.Ranks.{joined}
use Rattle.syntax_parser.specs.declared.tree.Name.{Name}
use Rattle.spec_ir.specs.declared.spec_error.SpecError.{SpecError}
use Rattle.spec_ir.specs.declared.spec_error.SpecError.TheVariants.{BadRecursion, NoMemory}
use Rattle.spec_ir.specs.Terms.{Term}
use Rattle.spec_calls.specs.declared.call.Call.{Call}
use Rattle.spec_calls.specs.declared.group.Group.{Group}
use Rattle.spec_calls.specs.Calls.{calls, call_of, call_graph}
use Rattle.spec_calls.specs.Groups.{InOneGroup, CallsGroupInside, GroupLoops, IsGroupOf, AreGroups}
use Rattle.spec_calls.specs.Recursion.{IsRecursionFault, NoRecursionFault}
use Rattle.spec_calls.specs.Told.{calls_inside, first_inside, AreTold}

pub graph_len : (bodies : List Term) → length (call_graph bodies) ≡ length bodies
graph_len bodies = length-map bodies (λ body. map (λ c. c.fun) (calls true body))

-- ---- of a graph and its table
module _ (graph : List (List ℕ)) (t : List (List Bool)) (table : IsTableOf graph t) where
  -- nodes past the end lead nowhere
  past : (a b : ℕ) → length graph ≤ a → says t a b ≡ false
  past a b l = rw (get_or_past t a [] (omega (arith, table.height, l))) refl

  pub told_from : (a b : ℕ) → a < length graph → same_group t a b ≡ true → SameGroup graph a b
  told_from a b la h = elim (cases_lt b (length graph)) [
    | inl lb ↦ same_from graph t table a b la lb h
    | inr lb ↦ at lb (or_parts (a == b) (says t a b && says t b a) h)
  ]
    where
      at : length graph ≤ b → ((a == b) ≡ true) ⊎ (says t a b && says t b a ≡ true) → SameGroup graph a b
      at lb (inl e) = inl (same_number a b e)
      at lb (inr p) = absurd (false≢true (sym (past b a lb) ∙ (and_parts (says t a b) (says t b a) p).1))

  pub told_to : (a b : ℕ) → a < length graph → SameGroup graph a b → same_group t a b ≡ true
  told_to a b la s = same_to graph t table a b la (inside graph t table a b la s) s

-- a path that ends where it began passes through its group
pub loops_from : (bodies : List Term) (f : ℕ) → Reaches (call_graph bodies) f f → GroupLoops bodies f
loops_from bodies f (edge e) = record { caller = f; called = f; of_group = inl refl; of_it_too = inl refl; calls_it = e }
loops_from bodies f (onward {b = c} e p) = record { caller = f; called = c; of_group = inl refl; of_it_too = inr (edge e, p); calls_it = e }

pub loops_to : (bodies : List Term) (f : ℕ) → GroupLoops bodies f → Reaches (call_graph bodies) f f
loops_to bodies f r = back r.of_it_too (front r.of_group)
  where
    front : InOneGroup bodies f r.caller → Reaches (call_graph bodies) f r.called
    front (inl e) = subst (λ a. Reaches (call_graph bodies) a r.called) (sym e) (edge r.calls_it)
    front (inr p) = joined (call_graph bodies) f r.caller r.called p.0 (edge r.calls_it)

    back : InOneGroup bodies f r.called → Reaches (call_graph bodies) f r.called → Reaches (call_graph bodies) f f
    back (inl e) p = subst (Reaches (call_graph bodies) f) (sym e) p
    back (inr q) p = joined (call_graph bodies) f r.called f p q.1

-- ---- calls within a group outside tail position
inside_from : (t : List (List Bool)) (f : ℕ) (cs : List Call) → calls_inside t f cs ≡ true → (g : ℕ) × Contains cs (call_of g false) × (same_group t f g ≡ true)
inside_from t f [] h = absurd (false≢true h)
inside_from t f (c ∷ cs) h = at (λ k. inside_from t f cs k) (or_parts (not c.tail && same_group t f c.fun) (calls_inside t f cs) h)
  where
    at : (calls_inside t f cs ≡ true → (g : ℕ) × Contains cs (call_of g false) × (same_group t f g ≡ true)) → (not c.tail && same_group t f c.fun ≡ true) ⊎ (calls_inside t f cs ≡ true) → (g : ℕ) × Contains (c ∷ cs) (call_of g false) × (same_group t f g ≡ true)
    at later (inl k) =
        let p = and_parts (not c.tail) (same_group t f c.fun) k in
        (c.fun, (0, omega arith, ap (call_of c.fun) (not_is c.tail p.0)), p.1)
    at later (inr k) = let r = later k in (r.0, (suc r.1.0, omega (arith, r.1.1), r.1.2), r.2)

inside_to : (t : List (List Bool)) (f g k : ℕ) (cs : List Call) → k < length cs → get_or cs k (call_of g false) ≡ call_of g false → same_group t f g ≡ true → calls_inside t f cs ≡ true
inside_to t f g k [] l e s = absurd (omega (arith, l))
inside_to t f g zero (c ∷ cs) l e s =
    let tail : not c.tail ≡ true = ap (λ x. not x.tail) e in
    let same : same_group t f c.fun ≡ true = ap (λ x. same_group t f x.fun) e ∙ s in
    or_left (not c.tail && same_group t f c.fun) (calls_inside t f cs) (and_both (not c.tail) (same_group t f c.fun) tail same)
inside_to t f g (suc k) (c ∷ cs) l e s =
    or_right (not c.tail && same_group t f c.fun) (calls_inside t f cs) (inside_to t f g k cs (omega (arith, l)) e s)

first_none : (t : List (List Bool)) (n : ℕ) (all : List (List Call)) → first_inside t n all ≡ None → (k : ℕ) (cs : List Call) → slice_get all k ≡ Some cs → calls_inside t (n + k) cs ≡ false
first_none t n [] h k cs e = absurd cc
first_none t n (ds ∷ rest) h k cs e = at (λ g i x. first_none t (n + 1) rest g i cs x) (calls_inside t n ds) refl h k e
  where
    at : (first_inside t (n + 1) rest ≡ None → (i : ℕ) → slice_get rest i ≡ Some cs → calls_inside t (n + 1 + i) cs ≡ false) → (b : Bool) → calls_inside t n ds ≡ b → cond b (Some n) (first_inside t (n + 1) rest) ≡ None → (k : ℕ) → slice_get (ds ∷ rest) k ≡ Some cs → calls_inside t (n + k) cs ≡ false
    at later true q j k e = absurd cc
    at later false q j zero e =
        let same : ds ≡ cs = cc in
        subst (λ m. calls_inside t m cs ≡ false) (omega arith) (subst (λ xs. calls_inside t n xs ≡ false) same q)
    at later false q j (suc k) e = subst (λ m. calls_inside t m cs ≡ false) (omega arith) (later j k e)

pub record FirstAt (t : List (List Bool)) (n : ℕ) (all : List (List Call)) (f : ℕ) : Type 0 where
  pub k : ℕ
  pub cs : List Call
  pub is : f ≡ n + k
  pub there : slice_get all k ≡ Some cs
  pub inside_it : calls_inside t f cs ≡ true
  pub before : (j : ℕ) (ds : List Call) → j < k → slice_get all j ≡ Some ds → calls_inside t (n + j) ds ≡ false

first_some : (t : List (List Bool)) (n : ℕ) (all : List (List Call)) (f : ℕ) → first_inside t n all ≡ Some f → FirstAt t n all f
first_some t n [] f h = absurd cc
first_some t n (ds ∷ rest) f h = at (λ g. first_some t (n + 1) rest f g) (calls_inside t n ds) refl h
  where
    at : (first_inside t (n + 1) rest ≡ Some f → FirstAt t (n + 1) rest f) → (b : Bool) → calls_inside t n ds ≡ b → cond b (Some n) (first_inside t (n + 1) rest) ≡ Some f → FirstAt t n (ds ∷ rest) f
    at later true q j =
        let same : n ≡ f = cc in
        record {
          k = 0;
          cs = ds;
          is = omega (arith, same);
          there = refl;
          inside_it = subst (λ m. calls_inside t m ds ≡ true) same q;
          before = λ i es l e. absurd (omega (arith, l));
        }
    at later false q j =
        let r = later j in
        record {
          k = suc r.k;
          cs = r.cs;
          is = omega (arith, r.is);
          there = r.there;
          inside_it = r.inside_it;
          before = earlier r;
        }
      where
        earlier : (r : FirstAt t (n + 1) rest f) (i : ℕ) (es : List Call) → i < suc r.k → slice_get (ds ∷ rest) i ≡ Some es → calls_inside t (n + i) es ≡ false
        earlier r zero es l e =
            let same : ds ≡ es = cc in
            subst (λ m. calls_inside t m es ≡ false) (omega arith) (subst (λ xs. calls_inside t n xs ≡ false) same q)
        earlier r (suc i) es l e = subst (λ m. calls_inside t m es ≡ false) (omega arith) (r.before i es (omega (arith, l)) e)

-- ---- of functions and the table of their calls
module _ (bodies : List Term) (t : List (List Bool)) (table : IsTableOf (call_graph bodies) t) where
  calls_at : (f : ℕ) (body : Term) → slice_get bodies f ≡ Some body → slice_get (map (calls true) bodies) f ≡ Some (calls true body)
  calls_at f body is = slice_get-map (calls true) bodies f ∙ ap (option_map (calls true)) is

  within : (f : ℕ) (body : Term) → slice_get bodies f ≡ Some body → f < length (call_graph bodies)
  within f body is = omega (arith, slice_get_within bodies f body is, graph_len bodies)

  bad_told : (f : ℕ) (r : CallsGroupInside bodies f) → calls_inside t f (calls true r.body) ≡ true
  bad_told f r =
      inside_to t f r.called r.calls_it.0 (calls true r.body) r.calls_it.1 r.calls_it.2 (told_to (call_graph bodies) t table f r.called (within f r.body r.is) r.same)

  bad_from : (f : ℕ) (body : Term) → slice_get bodies f ≡ Some body → calls_inside t f (calls true body) ≡ true → CallsGroupInside bodies f
  bad_from f body is h =
      let r = inside_from t f (calls true body) h in
      record { body = body; is = is; called = r.0; calls_it = r.1; same = told_from (call_graph bodies) t table f r.0 (within f body is) r.2 }

  none_bad : (f : ℕ) (cs : List Call) → calls_inside t f cs ≡ false → slice_get (map (calls true) bodies) f ≡ Some cs → ¬ CallsGroupInside bodies f
  none_bad f cs h e r =
      let same : calls true r.body ≡ cs = some_same (sym (calls_at f r.body r.is) ∙ e) in
      false≢true (sym h ∙ subst (λ xs. calls_inside t f xs ≡ true) same (bad_told f r))
    where
      some_same : {x y : List Call} → Some x ≡ Some y → x ≡ y
      some_same q = cc

  at_zero : (f : ℕ) (cs : List Call) → calls_inside t (0 + f) cs ≡ false → calls_inside t f cs ≡ false
  at_zero f cs h = subst (λ n. calls_inside t n cs ≡ false) (zero-add f) h

  pub accepted : first_inside t 0 (map (calls true) bodies) ≡ None → NoRecursionFault bodies
  accepted h f r =
      let none = first_none t 0 (map (calls true) bodies) h f (calls true r.body) (calls_at f r.body r.is) in
      false≢true (sym (at_zero f (calls true r.body) none) ∙ bad_told f r)

  -- the first function that is at fault
  pub record IsFirstBad (f : ℕ) : Type 0 where
    pub below : f < length bodies
    pub bad : CallsGroupInside bodies f
    pub first : (g : ℕ) → g < f → ¬ CallsGroupInside bodies g

  body_at : (f : ℕ) (cs : List Call) (o : Option Term) → slice_get bodies f ≡ o → option_map (calls true) o ≡ Some cs → (body : Term) × (slice_get bodies f ≡ Some body) × (calls true body ≡ cs)
  body_at f cs None e h = absurd cc
  body_at f cs (Some body) e h = (body, e, cc)

  pub refused : (f : ℕ) → first_inside t 0 (map (calls true) bodies) ≡ Some f → IsFirstBad f
  refused f h =
      let r = first_some t 0 (map (calls true) bodies) f h in
      let same : r.k ≡ f = omega (arith, r.is) in
      let b = body_at r.k r.cs (slice_get bodies r.k) refl (sym (slice_get-map (calls true) bodies r.k) ∙ r.there) in
      let is : slice_get bodies f ≡ Some b.0 = subst (λ k. slice_get bodies k ≡ Some b.0) same b.1 in
      record {
        below = slice_get_within bodies f b.0 is;
        bad = bad_from f b.0 is (subst (λ xs. calls_inside t f xs ≡ true) (sym b.2) r.inside_it);
        first = λ g l w. none_bad g (calls true w.body) (at_zero g (calls true w.body) (r.before g (calls true w.body) (omega (arith, l, same)) (calls_at g w.body w.is))) (calls_at g w.body w.is) w;
      }

  pub are_groups : (n : ℕ) (groups : List Group) → length bodies ≡ n → AreTold t n groups → AreGroups bodies groups
  are_groups n groups count told = record { all = told.all ∙ sym count; each = each }
    where
      each : (f : ℕ) (g : Group) → slice_get groups f ≡ Some g → IsGroupOf bodies f g
      each f g e =
          let r = told.each f g e in
          let lf : f < length (call_graph bodies) = omega (arith, slice_get_within groups f g e, told.all, count, graph_len bodies) in
          record {
            number = subst (IsLeastOfGroup (call_graph bodies) f) (sym r.0) (least (call_graph bodies) t table f lf);
            loops = (λ h. loops_from bodies f ((table.entries f f lf).0 (sym r.1 ∙ h)), λ l. r.1 ∙ (table.entries f f lf).1 (loops_to bodies f l));
          }

-- the graph of calls, from the calls of each body
pub graph_of : (bodies : List Term) (all : List (List Call)) (graph : List (List ℕ)) → all ≡ map (calls true) bodies → graph ≡ map (λ cs. map (λ c. c.fun) cs) all → graph ≡ call_graph bodies
graph_of bodies all graph e h = h ∙ ap (map (λ cs. map (λ c. c.fun) cs)) e ∙ map-map (λ cs. map (λ c. c.fun) cs) (calls true) bodies

-- the fault, where a function is the first that is bad
pub is_fault : (names : List Name) (bodies : List Term) (t : List (List Bool)) (table : IsTableOf (call_graph bodies) t) (f : ℕ) (name : Name) (e : SpecError)
    → IsFirstBad bodies t table f → slice_get names f ≡ Some name → (e ≡ BadRecursion name.span name.text) ⊎ (e ≡ NoMemory) → IsRecursionFault names bodies e ⊎ (e ≡ NoMemory)
is_fault names bodies t table f name e r is (inl says) = inl (record { fun = f; name = name; is = is; bad = r.bad; first = r.first; says = says })
is_fault names bodies t table f name e r is (inr none) = inr none

-- ---- results
pub on_ok : {A E P : Type 0} (r : Result A E) → P → OnOk r P
on_ok (Ok x) p = p
on_ok (Err e) p = tt

pub if_ok : {A E : Type 0} {P Q : A → Type 0} (r : Result A E) → IfOk r P → ((x : A) → P x → Q x) → IfOk r Q
if_ok (Ok x) p f = f x p
if_ok (Err e) p f = tt
