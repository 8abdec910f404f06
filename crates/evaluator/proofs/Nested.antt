-- What stretches, tails and branches give, by what their nodes and ends give.
use Rattle.std.proofs.Common.{◌≡◌, ◌∙◌, ℕ, false, true, List, Option, Some, None, Result, Ok, Err, option_map, length, map, take, slice_get, refl, sym, ap, subst}
use Rattle.std.specs.Prelude.{IfSome}
use Rattle.base_trait.specs.Algebra.{Algebra}
use Rattle.base_trait.specs.Uses.{Seen}
use Rattle.spec_ir.specs.Specification.{Spec}
use Rattle.semantics_laws.specs.Places.{all_of}
use Rattle.abstract_value_laws.specs.Abs.{Abs}
use Rattle.abstract_value_laws.specs.Fits.{Fits}
use Rattle.abstract_value.specs.View.{abs}
use Rattle.abstract_value.specs.declared.value.AbstractValue.{AbstractValue}
use Rattle.support_tail_fixpoint.specs.Answer.{fails, gives, out_of}
use Rattle.abstract_semantics.specs.Answers.{Answer, ◌>>=◌}
use Rattle.abstract_semantics.specs.Terms as terms
use Rattle.abstract_semantics.specs.Terms.{asked_with}
use Rattle.eval_code.specs.Code as code
use Rattle.eval_code.specs.Code.{End, Node, Nodes, Stretch, Tail}
use Rattle.eval_code_meaning.specs.Meaning as of
use Rattle.eval_memo.specs.declared.error.EvalError.{EvalError}
use Rattle.eval_memo.specs.declared.error.EvalError.TheVariants as e
use Rattle.eval_memo.specs.declared.setting.Setting.{Setting}
use Rattle.eval_memo.specs.Given.{Gives}
use Rattle.eval_memo.specs.Memos.{Remembered, Stands}
use Rattle.eval_memo.specs.Ready.{YieldFits}
use Rattle.eval_memo.specs.Settings.{leaf_of, spec_of}
use Rattle.eval_memo.proofs.Answering.{passed}
use Rattle.eval_activation.specs.Views.{yield}
use Rattle.eval_activation.specs.declared.turn_yield.TurnYield.{TurnYield}
use Rattle.eval_nodes.proofs.Plainly.{slots_are}
use Rattle.eval_plans.specs.Plans.{Plan}
use Rattle.evaluator.specs.Arms.{Branch, GoesOn, IsChoice, arms_of, asked_on, end_plan, frame_behind, given_branch, given_end, given_if_planned, given_plan, given_tail, node_plan, tail_branch, tail_arms, stretch_branch, value_of_node, value_of_stretch, stretch_arms, ways_of}
use Rattle.evaluator.specs.Runs.{Reaches, Runs, RunsNodes}
use Rattle.evaluator.proofs.Arming.{end_goes, node_goes}
use Rattle.evaluator.proofs.Fitting.{leaf_fits}
use Rattle.evaluator.proofs.Growing.{grown_then, no_more}
use Rattle.evaluator.proofs.Leaves.{leaf_failed, leaf_gave, leaf_gives}

-- the frame behind nodes is cut back
pub cut_back : {A : Type 0} {old last : List A} (mid : List A) (outer : ℕ) → take (length old) mid ≡ old → outer ≡ length old → last ≡ take outer mid → last ≡ old
cut_back mid outer front long cut = cut ∙ ap (λ n. take n mid) long ∙ front

module _ {W N A : Type 0} where
  -- an error of nodes is one of what follows them
  pub nodes_passed : {V : Type 0} (view : V → A) (er : EvalError) (frame : List (Abs W N)) (log : List Seen) (answer : Answer (List (Abs W N))) (later : Answer A) → Reaches (Err er) frame log answer → ((i : ℕ) → answer ≡ fails i → later ≡ fails i) → Gives view (Err er) log later
  nodes_passed view (e.OutOfFuel f) frame log answer later h k = k f h
  nodes_passed view e.NoMemory frame log answer later h k = tt

-- ---- what code gives is what its parts give
module _ {X W N C : Type 0} (B : Algebra W N C) (cap : ℕ) (on : ℕ → List (Abs W N) → Answer (Abs W N)) (s : Setting X W N C) (frame : List (Abs W N)) (l : List Seen) where
  stretch_so : (x : Stretch) (ns : Nodes) (k : ℕ) → x ≡ code.stretch ns k → value_of_stretch B cap on s frame x l ≡ (frame_behind B cap on s frame ns l >>= λ frame l. of.at_slot frame k l)
  stretch_so x ns k is = ap (λ z. value_of_stretch B cap on s frame z l) is

  tail_so : (x : Tail) (ns : Nodes) (k : End) → x ≡ code.tail ns k → given_tail B cap on s frame x l ≡ (frame_behind B cap on s frame ns l >>= λ frame l. given_end B cap on s frame k l)
  tail_so x ns k is = ap (λ z. given_tail B cap on s frame z l) is

  node_so : (x : Node) → IsChoice x → (o : Option (Plan W N)) → o ≡ node_plan B s.ctx.now frame x → leaf_of B cap on s (value_of_node B cap on s frame x l) ≡ given_if_planned B cap on s frame (stretch_arms (arms_of x)) o l
  node_so x choice o planned = node_goes B cap on s frame x choice l ∙ ap (λ o. given_if_planned B cap on s frame (stretch_arms (arms_of x)) o l) (sym planned)

  end_so : (x : End) → GoesOn x → (o : Option (Plan W N)) → o ≡ end_plan B s.ctx.now frame x → given_end B cap on s frame x l ≡ given_if_planned B cap on s frame (tail_arms (ways_of x)) o l
  end_so x on_goes o planned = end_goes B cap on s frame x on_goes l ∙ ap (λ o. given_if_planned B cap on s frame (tail_arms (ways_of x)) o l) (sym planned)

  asked_is : (f : ℕ) (o : Option (List (Abs W N))) → (gives o l >>= λ ps l. gives (asked_with (spec_of s) f ps) l) ≡ gives (asked_on (spec_of s) f o) l
  asked_is f None = refl
  asked_is f (Some ps) = refl

module _ {X W N C : Type 0} {B : Algebra W N C} {cap : ℕ} {s : Setting X W N C} {spec : Spec} {on : ℕ → List (Abs W N) → Answer (Abs W N)} {before ticked : ℕ} {old : List (AbstractValue X W N C)} {l : List Seen} {es : List (Remembered W N)} {steps : ℕ} where
  -- ---- stretches
  module _ {mid : List (AbstractValue X W N C)} {m : List Seen} {fs : List (Remembered W N)} (x : Stretch) (ns : Nodes) (k : ℕ) (is : x ≡ code.stretch ns k) where
    pub stretch_failed : {P : AbstractValue X W N C → Type 0} {er : EvalError} {new : List (AbstractValue X W N C)} → RunsNodes B cap s spec on before ticked (Err er) l m (frame_behind B cap on s (map abs old) ns l) old mid es fs steps
        → Runs B cap s spec on before ticked abs P (Err er) l m (value_of_stretch B cap on s (map abs old) x l) old new es fs steps
    stretch_failed {P} {er} {new} ran = record {
      value = nodes_passed (abs {X = X} {W = W} {N = N} {C = C}) er (map abs mid) m (frame_behind B cap on s (map abs old) ns l) (value_of_stretch B cap on s (map abs old) x l) ran.value (λ i h. stretch_so B cap on s (map abs old) l x ns k is ∙ ap (λ r. r >>= λ frame l. of.at_slot frame k l) h);
      fits = tt;
      env = tt;
      memo = ran.memo;
      grown = ran.grown;
    }

    pub stretch_none : {P : AbstractValue X W N C → Type 0} {last : List (AbstractValue X W N C)} (outer : ℕ) → RunsNodes B cap s spec on before ticked (Ok false) l m (frame_behind B cap on s (map abs old) ns l) old mid es fs steps → outer ≡ length old → last ≡ take outer mid
        → Runs B cap s spec on before ticked abs P (Ok None) l m (value_of_stretch B cap on s (map abs old) x l) old last es fs steps
    stretch_none outer ran long cut = record {
      value = stretch_so B cap on s (map abs old) l x ns k is ∙ ap (λ r. r >>= λ frame l. of.at_slot frame k l) ran.value;
      fits = tt;
      env = cut_back mid outer ran.front long cut;
      memo = ran.memo;
      grown = ran.grown;
    }

    pub stretch_gave : {last : List (AbstractValue X W N C)} (outer : ℕ) (v : Option (AbstractValue X W N C)) → RunsNodes B cap s spec on before ticked (Ok true) l m (frame_behind B cap on s (map abs old) ns l) old mid es fs steps → option_map abs v ≡ slice_get (map abs mid) k
        → IfSome v (λ v. Fits B s.ctx.now cap (abs v)) → outer ≡ length old → last ≡ take outer mid → Runs B cap s spec on before ticked abs (λ v. Fits B s.ctx.now cap (abs v)) (Ok v) l m (value_of_stretch B cap on s (map abs old) x l) old last es fs steps
    stretch_gave outer v ran there fits long cut = record {
      value = stretch_so B cap on s (map abs old) l x ns k is ∙ ap (λ r. r >>= λ frame l. of.at_slot frame k l) ran.value ∙ ap (λ o. gives o m) (sym there);
      fits = fits;
      env = cut_back mid outer ran.front long cut;
      memo = ran.memo;
      grown = ran.grown;
    }

    -- memory runs out where the value is copied
    pub stretch_without_memory : {P : AbstractValue X W N C → Type 0} {new : List (AbstractValue X W N C)} → RunsNodes B cap s spec on before ticked (Ok true) l m (frame_behind B cap on s (map abs old) ns l) old mid es fs steps
        → Runs B cap s spec on before ticked abs P (Err e.NoMemory) l m (value_of_stretch B cap on s (map abs old) x l) old new es fs steps
    stretch_without_memory ran = record { value = tt; fits = tt; env = tt; memo = ran.memo; grown = ran.grown }

  -- ---- tails
  module _ {mid : List (AbstractValue X W N C)} {m : List Seen} {fs : List (Remembered W N)} (x : Tail) (ns : Nodes) (k : End) (is : x ≡ code.tail ns k) where
    pub tail_failed : {P : TurnYield X W N C → Type 0} {er : EvalError} {new : List (AbstractValue X W N C)} → RunsNodes B cap s spec on before ticked (Err er) l m (frame_behind B cap on s (map abs old) ns l) old mid es fs steps
        → Runs B cap s spec on before ticked yield P (Err er) l m (given_tail B cap on s (map abs old) x l) old new es fs steps
    tail_failed {P} {er} {new} ran = record {
      value = nodes_passed (yield {X = X} {W = W} {N = N} {C = C}) er (map abs mid) m (frame_behind B cap on s (map abs old) ns l) (given_tail B cap on s (map abs old) x l) ran.value (λ i h. tail_so B cap on s (map abs old) l x ns k is ∙ ap (λ r. r >>= λ frame l. given_end B cap on s frame k l) h);
      fits = tt;
      env = tt;
      memo = ran.memo;
      grown = ran.grown;
    }

    pub tail_none : {P : TurnYield X W N C → Type 0} {last : List (AbstractValue X W N C)} (outer : ℕ) → RunsNodes B cap s spec on before ticked (Ok false) l m (frame_behind B cap on s (map abs old) ns l) old mid es fs steps → outer ≡ length old → last ≡ take outer mid
        → Runs B cap s spec on before ticked yield P (Ok None) l m (given_tail B cap on s (map abs old) x l) old last es fs steps
    tail_none outer ran long cut = record {
      value = tail_so B cap on s (map abs old) l x ns k is ∙ ap (λ r. r >>= λ frame l. given_end B cap on s frame k l) ran.value;
      fits = tt;
      env = cut_back mid outer ran.front long cut;
      memo = ran.memo;
      grown = ran.grown;
    }

    module _ (ran : RunsNodes B cap s spec on before ticked (Ok true) l m (frame_behind B cap on s (map abs old) ns l) old mid es fs steps) where
      then_end : given_tail B cap on s (map abs old) x l ≡ given_end B cap on s (map abs mid) k m
      then_end = tail_so B cap on s (map abs old) l x ns k is ∙ ap (λ r. r >>= λ frame l. given_end B cap on s frame k l) ran.value

      pub end_failed : {P : TurnYield X W N C → Type 0} {fresh : List (AbstractValue X W N C)} {n : List Seen} {gs : List (Remembered W N)} {high : ℕ} {er : EvalError} {new : List (AbstractValue X W N C)} → Runs B cap s spec on before ticked yield P (Err er) m n (given_end B cap on s (map abs mid) k m) mid fresh fs gs high
          → Runs B cap s spec on before ticked yield P (Err er) l n (given_tail B cap on s (map abs old) x l) old new es gs high
      end_failed {P} {fresh} {n} {gs} {high} {er} {new} runs = record {
        value = subst (λ a. Gives (yield {X = X} {W = W} {N = N} {C = C}) (Err er) n a) (sym then_end) runs.value;
        fits = tt;
        env = tt;
        memo = runs.memo;
        grown = grown_then ran.grown runs.grown;
      }

      pub end_gave : {P : TurnYield X W N C → Type 0} {fresh : List (AbstractValue X W N C)} {n : List Seen} {gs : List (Remembered W N)} {high : ℕ} {y : Option (TurnYield X W N C)} {last : List (AbstractValue X W N C)} (outer : ℕ) → Runs B cap s spec on before ticked yield P (Ok y) m n (given_end B cap on s (map abs mid) k m) mid fresh fs gs high → outer ≡ length old → last ≡ take outer fresh
          → Runs B cap s spec on before ticked yield P (Ok y) l n (given_tail B cap on s (map abs old) x l) old last es gs high
      end_gave {P} {fresh} {n} {gs} {high} {y} {last} outer runs long cut = record {
        value = then_end ∙ runs.value;
        fits = runs.fits;
        env = cut_back mid outer ran.front long (cut ∙ ap (take outer) runs.env);
        memo = runs.memo;
        grown = grown_then ran.grown runs.grown;
      }

  -- ---- branches
  module _ {mid : List (AbstractValue X W N C)} {m : List Seen} {fs : List (Remembered W N)} where
    pub value_failed : {P : TurnYield X W N C → Type 0} {Q : AbstractValue X W N C → Type 0} {er : EvalError} {new : List (AbstractValue X W N C)} (b : Branch) (x : Stretch) → b ≡ stretch_branch x
        → Runs B cap s spec on before ticked abs Q (Err er) l m (value_of_stretch B cap on s (map abs old) x l) old mid es fs steps → Runs B cap s spec on before ticked yield P (Err er) l m (given_branch B cap on s (map abs old) b l) old new es fs steps
    value_failed {P} {Q} {er} b x is runs = record {
      value = passed (abs {X = X} {W = W} {N = N} {C = C}) (yield {X = X} {W = W} {N = N} {C = C}) er m m (value_of_stretch B cap on s (map abs old) x l) (given_branch B cap on s (map abs old) b l) runs.value
          (λ i h. ap (λ b. given_branch B cap on s (map abs old) b l) is ∙ ap (leaf_of B cap on s) h);
      fits = tt;
      env = tt;
      memo = runs.memo;
      grown = runs.grown;
    }

    pub value_gave : {P : TurnYield X W N C → Type 0} {Q : AbstractValue X W N C → Type 0} (b : Branch) (x : Stretch) (v : Option (AbstractValue X W N C)) (y : Option (TurnYield X W N C)) → b ≡ stretch_branch x
        → Runs B cap s spec on before ticked abs Q (Ok v) l m (value_of_stretch B cap on s (map abs old) x l) old mid es fs steps → option_map yield y ≡ option_map terms.leaf (option_map abs v) → IfSome y P
        → Runs B cap s spec on before ticked yield P (Ok y) l m (given_branch B cap on s (map abs old) b l) old mid es fs steps
    value_gave b x v y is runs leaf fits = record {
      value = ap (λ b. given_branch B cap on s (map abs old) b l) is ∙ ap (leaf_of B cap on s) runs.value ∙ leaf_gives B cap on s (option_map abs v) m ∙ ap (λ o. gives o m) (sym leaf);
      fits = fits;
      env = runs.env;
      memo = runs.memo;
      grown = runs.grown;
    }

    pub turn_gave : {P : TurnYield X W N C → Type 0} {r : Result (Option (TurnYield X W N C)) EvalError} (b : Branch) (x : Tail) → b ≡ tail_branch x
        → Runs B cap s spec on before ticked yield P r l m (given_tail B cap on s (map abs old) x l) old mid es fs steps → Runs B cap s spec on before ticked yield P r l m (given_branch B cap on s (map abs old) b l) old mid es fs steps
    turn_gave {P} {r} b x is runs = record {
      value = subst (λ a. Gives (yield {X = X} {W = W} {N = N} {C = C}) r m a) (sym (ap (λ b. given_branch B cap on s (map abs old) b l) is)) runs.value;
      fits = runs.fits;
      env = runs.env;
      memo = runs.memo;
      grown = runs.grown;
    }

  -- ---- nodes that go on with one of their arms
  module _ (x : Node) (choice : IsChoice x) (o : Option (Plan W N)) (planned : o ≡ node_plan B s.ctx.now (map abs old) x) where
    pub choice_none : {P : AbstractValue X W N C → Type 0} → o ≡ None → Stands on before ticked es steps → Runs B cap s spec on before ticked abs P (Ok None) l l (value_of_node B cap on s (map abs old) x l) old old es es steps
    choice_none none stands = record {
      value = leaf_gave B cap on s (value_of_node B cap on s (map abs old) x l) None l (node_so B cap on s (map abs old) l x choice o planned ∙ ap (λ o. given_if_planned B cap on s (map abs old) (stretch_arms (arms_of x)) o l) none);
      fits = tt;
      env = refl;
      memo = stands;
      grown = no_more l es;
    }

    module _ {mid : List (AbstractValue X W N C)} {m : List Seen} {fs : List (Remembered W N)} (p : Plan W N) (some : o ≡ Some p) where
      pub choice_failed : {P : AbstractValue X W N C → Type 0} {Q : TurnYield X W N C → Type 0} {er : EvalError} {new : List (AbstractValue X W N C)}
          → Runs B cap s spec on before ticked yield Q (Err er) l m (given_plan B cap on s (map abs old) (stretch_arms (arms_of x)) p l) old mid es fs steps → Runs B cap s spec on before ticked abs P (Err er) l m (value_of_node B cap on s (map abs old) x l) old new es fs steps
      choice_failed {P} {Q} {er} runs = record {
        value = passed (yield {X = X} {W = W} {N = N} {C = C}) (abs {X = X} {W = W} {N = N} {C = C}) er m m (given_plan B cap on s (map abs old) (stretch_arms (arms_of x)) p l) (value_of_node B cap on s (map abs old) x l) runs.value
            (λ i h. leaf_failed B cap on s (value_of_node B cap on s (map abs old) x l) i (node_so B cap on s (map abs old) l x choice o planned ∙ ap (λ o. given_if_planned B cap on s (map abs old) (stretch_arms (arms_of x)) o l) some ∙ h));
        fits = tt;
        env = tt;
        memo = runs.memo;
        grown = runs.grown;
      }

      pub choice_gave : (g : ℕ) (y : Option (TurnYield X W N C)) (v : Option (AbstractValue X W N C)) → Runs B cap s spec on before ticked yield (λ y. YieldFits B cap s g (yield y)) (Ok y) l m (given_plan B cap on s (map abs old) (stretch_arms (arms_of x)) p l) old mid es fs steps
          → option_map abs v ≡ out_of (option_map yield y) → Runs B cap s spec on before ticked abs (λ v. Fits B s.ctx.now cap (abs v)) (Ok v) l m (value_of_node B cap on s (map abs old) x l) old mid es fs steps
      choice_gave g y v runs of_leaf = record {
        value = leaf_gave B cap on s (value_of_node B cap on s (map abs old) x l) (option_map yield y) m (node_so B cap on s (map abs old) l x choice o planned ∙ ap (λ o. given_if_planned B cap on s (map abs old) (stretch_arms (arms_of x)) o l) some ∙ runs.value) ∙ ap (λ o. gives o m) (sym of_leaf);
        fits = each v of_leaf;
        env = runs.env;
        memo = runs.memo;
        grown = runs.grown;
      }
        where
          each : (v : Option (AbstractValue X W N C)) → option_map abs v ≡ out_of (option_map yield y) → IfSome v (λ v. Fits B s.ctx.now cap (abs v))
          each None h = tt
          each (Some v) h = leaf_fits B cap s yield g y (abs v) runs.fits (sym h)

  -- ---- ends
  pub slot_gave : {P : TurnYield X W N C → Type 0} (x : End) (k : ℕ) (v : Option (AbstractValue X W N C)) (y : Option (TurnYield X W N C)) → x ≡ code.slot k → option_map abs v ≡ slice_get (map abs old) k → option_map yield y ≡ option_map terms.leaf (option_map abs v) → IfSome y P → Stands on before ticked es steps
      → Runs B cap s spec on before ticked yield P (Ok y) l l (given_end B cap on s (map abs old) x l) old old es es steps
  slot_gave x k v y is there leaf fits stands = record {
    value = ap (λ z. given_end B cap on s (map abs old) z l) is ∙ ap (λ o. leaf_of B cap on s (gives o l)) (sym there) ∙ leaf_gives B cap on s (option_map abs v) l ∙ ap (λ o. gives o l) (sym leaf);
    fits = fits;
    env = refl;
    memo = stands;
    grown = no_more l es;
  }

  pub again_gave : {P : TurnYield X W N C → Type 0} (x : End) (f : ℕ) (ks : List ℕ) (y : Option (TurnYield X W N C)) → x ≡ code.again f ks → option_map yield y ≡ asked_on (spec_of s) f (all_of (slice_get (map abs old)) ks) → IfSome y P → Stands on before ticked es steps
      → Runs B cap s spec on before ticked yield P (Ok y) l l (given_end B cap on s (map abs old) x l) old old es es steps
  again_gave x f ks y is asked fits stands = record {
    value = ap (λ z. given_end B cap on s (map abs old) z l) is ∙ ap (λ r. r >>= λ ps l. gives (asked_with (spec_of s) f ps) l) (slots_are (map abs old) ks l) ∙ asked_is B cap on s (map abs old) l f (all_of (slice_get (map abs old)) ks) ∙ ap (λ o. gives o l) (sym asked);
    fits = fits;
    env = refl;
    memo = stands;
    grown = no_more l es;
  }

  module _ (x : End) (on_goes : GoesOn x) (o : Option (Plan W N)) (planned : o ≡ end_plan B s.ctx.now (map abs old) x) where
    pub way_none : {P : TurnYield X W N C → Type 0} → o ≡ None → Stands on before ticked es steps → Runs B cap s spec on before ticked yield P (Ok None) l l (given_end B cap on s (map abs old) x l) old old es es steps
    way_none none stands = record {
      value = end_so B cap on s (map abs old) l x on_goes o planned ∙ ap (λ o. given_if_planned B cap on s (map abs old) (tail_arms (ways_of x)) o l) none;
      fits = tt;
      env = refl;
      memo = stands;
      grown = no_more l es;
    }

    pub way_gave : {mid : List (AbstractValue X W N C)} {m : List Seen} {fs : List (Remembered W N)} {P : TurnYield X W N C → Type 0} {r : Result (Option (TurnYield X W N C)) EvalError} (p : Plan W N) → o ≡ Some p
        → Runs B cap s spec on before ticked yield P r l m (given_plan B cap on s (map abs old) (tail_arms (ways_of x)) p l) old mid es fs steps → Runs B cap s spec on before ticked yield P r l m (given_end B cap on s (map abs old) x l) old mid es fs steps
    way_gave {mid} {m} {fs} {P} {r} p some runs = record {
      value = subst (λ a. Gives (yield {X = X} {W = W} {N = N} {C = C}) r m a) (sym (end_so B cap on s (map abs old) l x on_goes o planned ∙ ap (λ o. given_if_planned B cap on s (map abs old) (tail_arms (ways_of x)) o l) some)) runs.value;
      fits = runs.fits;
      env = runs.env;
      memo = runs.memo;
      grown = runs.grown;
    }
