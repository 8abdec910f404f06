-- Nodes run one after another over a frame.
use Rattle.std.proofs.Common.{◌≡◌, ◌∙◌, ◌++◌, ◌<◌, ◌≤◌, ◌+◌, ℕ, Bool, false, true, List, [], ◌∷◌, Option, Some, None, Result, Ok, Err, option_map, length, map, take, drop, get_or, refl, sym, ap, subst}
use Rattle.std.specs.Prelude.{All, IfSome}
use Rattle.std.proofs.lemmas.List.{drop_all, map-append}
use Rattle.std.proofs.lemmas.List.Elements.{All-append, All-cons, All-nil}
use Rattle.base_trait.specs.Algebra.{Algebra}
use Rattle.base_trait.specs.Uses.{Seen}
use Rattle.spec_match_compiler.proofs.Loops.{drop_here}
use Rattle.spec_ir.specs.Specification.{Spec}
use Rattle.abstract_value_laws.specs.Abs.{Abs}
use Rattle.abstract_value_laws.specs.Fits.{Fits}
use Rattle.abstract_value.specs.View.{abs}
use Rattle.abstract_value.specs.declared.value.AbstractValue.{AbstractValue}
use Rattle.support_tail_fixpoint.specs.Answer.{gives}
use Rattle.abstract_semantics.specs.Answers.{Answer, ◌>>=◌}
use Rattle.eval_code.specs.Code.{Node, Nodes, node_then, no_node, nodes}
use Rattle.eval_memo.specs.declared.error.EvalError.{EvalError}
use Rattle.eval_memo.specs.declared.error.EvalError.TheVariants as e
use Rattle.eval_memo.specs.declared.setting.Setting.{Setting}
use Rattle.eval_memo.specs.Given.{Gives}
use Rattle.eval_memo.specs.Memos.{Remembered, Stands}
use Rattle.evaluator.specs.Arms.{frame_behind, value_of_node}
use Rattle.evaluator.specs.Runs.{HaveGrown, Reaches, Runs, RunsNodes}
use Rattle.evaluator.proofs.Growing.{grown_then, no_more}

-- what begins with a list goes on to
pub front_more : {A : Type 0} (old xs ys : List A) → take (length old) xs ≡ old → take (length old) (xs ++ ys) ≡ old
front_more [] xs ys h = refl
front_more (o ∷ old) [] ys h = absurd cc
front_more (o ∷ old) (x ∷ xs) ys h =
    let first : x ≡ o = cc in
    let rest : take (length old) xs ≡ old = cc in
    ap (λ z. z ∷ take (length old) (xs ++ ys)) first ∙ ap (λ z. o ∷ z) (front_more old xs ys rest)

pub front_itself : {A : Type 0} (xs : List A) → take (length xs) xs ≡ xs
front_itself [] = refl
front_itself (x ∷ xs) = ap (λ z. x ∷ z) (front_itself xs)

-- the node that is next, and those behind it
pub next_node : {T : Type 0} (view : T → Node) (ns : List T) (i : ℕ) (n : T) → n ≡ get_or ns i n → i < length ns → nodes (map view (drop i ns)) ≡ node_then (view n) (nodes (map view (drop (i + 1) ns)))
next_node view ns i n is within = ap (λ z. nodes (map view z)) (drop_here ns i n is within)

pub no_next_node : {T : Type 0} (view : T → Node) (ns : List T) (i : ℕ) → length ns ≤ i → nodes (map view (drop i ns)) ≡ no_node
no_next_node view ns i past = ap (λ z. nodes (map view z)) (drop_all i ns past)

module _ {X W N C : Type 0} (B : Algebra W N C) (cap : ℕ) (s : Setting X W N C) (on : ℕ → List (Abs W N) → Answer (Abs W N)) (before ticked : ℕ) where
  -- What all nodes give is what the rest gives, on the frame as it is.
  pub record Ran (all rest : Nodes) (old new : List (AbstractValue X W N C)) (l m : List Seen) (es fs : List (Remembered W N)) (steps : ℕ) : Type 0 where
    pub whole : frame_behind B cap on s (map abs old) all l ≡ frame_behind B cap on s (map abs new) rest m
    pub fits : All (λ v. Fits B s.ctx.now cap (abs v)) new
    pub front : take (length old) new ≡ old
    pub memo : Stands on before ticked fs steps
    pub grown : HaveGrown l m es fs

module _ {X W N C : Type 0} {B : Algebra W N C} {cap : ℕ} {s : Setting X W N C} {on : ℕ → List (Abs W N) → Answer (Abs W N)} {before ticked : ℕ} where
  pub none_ran : {all : Nodes} {old : List (AbstractValue X W N C)} {l : List Seen} {es : List (Remembered W N)} {steps : ℕ} → All (λ v. Fits B s.ctx.now cap (abs v)) old → Stands on before ticked es steps → Ran B cap s on before ticked all all old old l l es es steps
  none_ran {all} {old} {l} {es} fits stands = record { whole = refl; fits = fits; front = front_itself old; memo = stands; grown = no_more l es }

  module _ {all rest : Nodes} {old mid : List (AbstractValue X W N C)} {l m : List Seen} {es fs : List (Remembered W N)} {steps : ℕ} (c : Ran B cap s on before ticked all rest old mid l m es fs steps) where
    -- no node is left
    pub all_ran : {spec : Spec} → rest ≡ no_node → RunsNodes B cap s spec on before ticked (Ok true) l m (frame_behind B cap on s (map abs old) all l) old mid es fs steps
    all_ran none = record {
      value = c.whole ∙ ap (λ ns. frame_behind B cap on s (map abs mid) ns m) none;
      fits = c.fits;
      front = c.front;
      memo = c.memo;
      grown = c.grown;
    }

    -- memory has run out
    pub nodes_without_memory : {spec : Spec} {new : List (AbstractValue X W N C)} {n : List Seen} {gs : List (Remembered W N)} {high : ℕ} → Stands on before ticked gs high → HaveGrown m n fs gs → RunsNodes B cap s spec on before ticked (Err e.NoMemory) l n (frame_behind B cap on s (map abs old) all l) old new es gs high
    nodes_without_memory stands grown = record { value = tt; fits = tt; front = tt; memo = stands; grown = grown_then c.grown grown }

    module _ (x : Node) (left : Nodes) (is : rest ≡ node_then x left) where
      at_node : frame_behind B cap on s (map abs old) all l ≡ (value_of_node B cap on s (map abs mid) x m >>= λ p l. frame_behind B cap on s (map abs mid ++ p ∷ []) left l)
      at_node = c.whole ∙ ap (λ ns. frame_behind B cap on s (map abs mid) ns m) is

      module _ {spec : Spec} {new : List (AbstractValue X W N C)} {n : List Seen} {gs : List (Remembered W N)} {high : ℕ} {Q : AbstractValue X W N C → Type 0} where
        -- the next node has an error
        pub node_failed : {last : List (AbstractValue X W N C)} {er : EvalError} → Runs B cap s spec on before ticked abs Q (Err er) m n (value_of_node B cap on s (map abs mid) x m) mid new fs gs high
            → RunsNodes B cap s spec on before ticked (Err er) l n (frame_behind B cap on s (map abs old) all l) old last es gs high
        node_failed {last} {er} runs = record {
          value = at_error er runs.value;
          fits = tt;
          front = tt;
          memo = runs.memo;
          grown = grown_then c.grown runs.grown;
        }
          where
            at_error : (er : EvalError) → Gives (abs {X = X} {W = W} {N = N} {C = C}) (Err er) n (value_of_node B cap on s (map abs mid) x m) → Reaches (Err er) (map abs last) n (frame_behind B cap on s (map abs old) all l)
            at_error (e.OutOfFuel f) h = at_node ∙ ap (λ r. r >>= λ p l. frame_behind B cap on s (map abs mid ++ p ∷ []) left l) h
            at_error e.NoMemory h = tt

        -- it has no value
        pub node_none : {v : Option (AbstractValue X W N C)} → Runs B cap s spec on before ticked abs Q (Ok v) m n (value_of_node B cap on s (map abs mid) x m) mid new fs gs high → v ≡ None
            → RunsNodes B cap s spec on before ticked (Ok false) l n (frame_behind B cap on s (map abs old) all l) old new es gs high
        node_none {v} runs none = record {
          value = at_node ∙ ap (λ r. r >>= λ p l. frame_behind B cap on s (map abs mid ++ p ∷ []) left l) (runs.value ∙ ap (λ o. gives (option_map abs o) n) none);
          fits = subst (All (λ v. Fits B s.ctx.now cap (abs v))) (sym runs.env) c.fits;
          front = ap (take (length old)) runs.env ∙ c.front;
          memo = runs.memo;
          grown = grown_then c.grown runs.grown;
        }

      -- it has one
      pub node_ran : {spec : Spec} {new longer : List (AbstractValue X W N C)} {n : List Seen} {gs : List (Remembered W N)} {high : ℕ} (o : Option (AbstractValue X W N C)) (v : AbstractValue X W N C)
          → Runs B cap s spec on before ticked abs (λ v. Fits B s.ctx.now cap (abs v)) (Ok o) m n (value_of_node B cap on s (map abs mid) x m) mid new fs gs high → o ≡ Some v → longer ≡ new ++ v ∷ []
          → Ran B cap s on before ticked all left old longer l n es gs high
      node_ran {spec} {new} {longer} {n} o v runs some pushed =
          let behind : longer ≡ mid ++ v ∷ [] = pushed ∙ ap (λ fr. fr ++ v ∷ []) runs.env in
          let v_fits : Fits B s.ctx.now cap (abs v) = subst (λ o. IfSome o (λ v. Fits B s.ctx.now cap (abs v))) some runs.fits in
          record {
            whole = at_node ∙ ap (λ r. r >>= λ p l. frame_behind B cap on s (map abs mid ++ p ∷ []) left l) (runs.value ∙ ap (λ o. gives (option_map abs o) n) some)
                ∙ ap (λ fr. frame_behind B cap on s fr left n) (sym (ap (map abs) behind ∙ map-append abs mid (v ∷ [])));
            fits = subst (All (λ v. Fits B s.ctx.now cap (abs v))) (sym behind) (All-append (λ v. Fits B s.ctx.now cap (abs v)) mid (v ∷ []) c.fits (All-cons (λ v. Fits B s.ctx.now cap (abs v)) v [] v_fits (All-nil (λ v. Fits B s.ctx.now cap (abs v)))));
            front = ap (take (length old)) behind ∙ front_more old mid (v ∷ []) c.front;
            memo = runs.memo;
            grown = grown_then c.grown runs.grown;
          }

module _ {X W N C : Type 0} {B : Algebra W N C} {cap : ℕ} {s : Setting X W N C} {spec : Spec} {on : ℕ → List (Abs W N) → Answer (Abs W N)} {before ticked : ℕ} where
  -- a result that is known to be such
  pub nodes_end_by : {l m : List Seen} {answer : Answer (List (Abs W N))} {old new : List (AbstractValue X W N C)} {es fs : List (Remembered W N)} {steps : ℕ} {r q : Result Bool EvalError} → r ≡ q
      → RunsNodes B cap s spec on before ticked q l m answer old new es fs steps → RunsNodes B cap s spec on before ticked r l m answer old new es fs steps
  nodes_end_by {l} {m} {answer} {old} {new} {es} {fs} {steps} is ran = subst (λ r. RunsNodes B cap s spec on before ticked r l m answer old new es fs steps) (sym is) ran

  pub all_or_not : {l m : List Seen} {answer : Answer (List (Abs W N))} {old new : List (AbstractValue X W N C)} {es fs : List (Remembered W N)} {steps : ℕ} {b d : Bool} → b ≡ d
      → RunsNodes B cap s spec on before ticked (Ok b) l m answer old new es fs steps → RunsNodes B cap s spec on before ticked (Ok d) l m answer old new es fs steps
  all_or_not {l} {m} {answer} {old} {new} {es} {fs} {steps} is ran = subst (λ d. RunsNodes B cap s spec on before ticked (Ok d) l m answer old new es fs steps) is ran
