-- Joins of what turns give fit.
use Rattle.std.proofs.Common.{ℕ, List, Option, Some, None, option_map}
use Rattle.std.specs.Prelude.{IfSome}
use Rattle.base_trait.specs.Algebra.{Algebra}
use Rattle.base_trait.specs.Laws.{Laws}
use Rattle.semantics_values.specs.Types.{environment_of}
use Rattle.abstract_value_laws.specs.Abs.{Abs}
use Rattle.abstract_value_laws.specs.Calls.{join_of}
use Rattle.abstract_value_laws.specs.Fits.{Fits}
use Rattle.abstract_value_laws.proofs.Joining.{join_fits}
use Rattle.spec_ir.specs.Specification.{Spec}
use Rattle.support_tail_fixpoint.specs.Answer.{Yield}
use Rattle.support_tail_fixpoint.specs.Groups.{merge_each}
use Rattle.support_tail_fixpoint.proofs.Groups.{each_weaker, merge_each_kept}
use Rattle.support_tail_fixpoint.proofs.Somes.{some_kept}
use Rattle.eval_group_turns.specs.Fitting.{EachFits, ListFits}
use Rattle.abstract_semantics.specs.Answers.{Answer}
use Rattle.abstract_semantics.specs.Terms.{GroupArgs, join_yields, merge_all, params_of}
use Rattle.abstract_semantics.proofs.Called.{keys_fine}
use Rattle.abstract_semantics.proofs.Plain.{Nothing, are_given, each_nothing, keeps_nothing}
use Rattle.abstract_semantics.proofs.Termed as termed
use Rattle.abstract_semantics.proofs.Termed.{args_joined}
use Rattle.abstract_semantics.proofs.Typed.{are_fit, are_typed}
use Rattle.eval_memo.specs.declared.setting.Setting.{Setting}
use Rattle.eval_memo.specs.Ready.{AreGroupArgs, ArgsOf, IsReady, YieldFits}
use Rattle.eval_memo.specs.Settings.{spec_of}

module _ {X W N C : Type 0} (B : Algebra W N C) (laws : Laws W N C B) (cap : ℕ) (s : Setting X W N C) where
  -- ---- arguments as the reinterpretation has them
  pub to_plain : (g f : ℕ) (xs : List (Abs W N)) → ArgsOf B cap s g f xs → termed.ArgsOf B laws s.ctx.now cap (spec_of s) s.at Nothing g f xs
  to_plain g f xs h = record {
    there = h.there;
    of_group = h.of_group;
    are = are_given B s.ctx.now cap Nothing (environment_of (spec_of s)) (params_of (spec_of s) f) xs h.are.typed h.are.fit (each_nothing xs);
  }

  pub from_any : (P : Abs W N → Type 0) (g f : ℕ) (xs : List (Abs W N)) → termed.ArgsOf B laws s.ctx.now cap (spec_of s) s.at P g f xs → ArgsOf B cap s g f xs
  from_any P g f xs h = record {
    there = h.there;
    of_group = h.of_group;
    are = record {
      typed = are_typed B s.ctx.now cap (environment_of (spec_of s)) P (params_of (spec_of s) f) xs h.are;
      fit = are_fit B s.ctx.now cap (environment_of (spec_of s)) P (params_of (spec_of s) f) xs h.are;
    };
  }

  pub lists_fit : (g : ℕ) (args : GroupArgs W N) → AreGroupArgs B cap s g args → EachFits B s.ctx.now cap args
  lists_fit g args h = each_weaker (ArgsOf B cap s g) (λ f xs. ListFits B s.ctx.now cap xs) args (λ f xs k. k.are.fit) h

  module _ (spec : Spec) (calls : ℕ → List (Abs W N) → Answer (Abs W N)) (ready : IsReady B cap s spec calls) (g : ℕ) where
    list_joined : (f : ℕ) (xs ys : List (Abs W N)) → ArgsOf B cap s g f xs → ArgsOf B cap s g f ys → ArgsOf B cap s g f (merge_all (join_of B s.ctx.now cap) xs ys)
    list_joined f xs ys h k =
        from_any Nothing g f (merge_all (join_of B s.ctx.now cap) xs ys)
        (args_joined B laws s.ctx.now cap (spec_of s) s.at Nothing (keeps_nothing B s.ctx.now cap (environment_of (spec_of s)) s.at) ready.room ready.accepted.types (keys_fine (spec_of s) ready.accepted) g f xs ys
        (to_plain g f xs h) (to_plain g f ys k))

    groups_joined : (xs ys : GroupArgs W N) → AreGroupArgs B cap s g xs → AreGroupArgs B cap s g ys → AreGroupArgs B cap s g (merge_each (merge_all (join_of B s.ctx.now cap)) xs ys)
    groups_joined xs ys h k = merge_each_kept (ArgsOf B cap s g) (merge_all (join_of B s.ctx.now cap)) xs ys list_joined h k

    pub yields_join : (y z : Yield (GroupArgs W N) (Abs W N)) → YieldFits B cap s g y → YieldFits B cap s g z → YieldFits B cap s g (join_yields B s.ctx.now cap (spec_of s) s.at y z)
    yields_join y z h k = record {
      out = some_kept (Fits B s.ctx.now cap) (join_of B s.ctx.now cap) (λ v w p q. join_fits B laws s.ctx.now cap v w ready.room p q) y.out z.out h.out k.out;
      next = some_kept (AreGroupArgs B cap s g) (merge_each (merge_all (join_of B s.ctx.now cap))) groups_joined y.next z.next h.next k.next;
    }

  pub next_fits : {V : Type 0} (view : V → GroupArgs W N) (g : ℕ) (v : Option V) → IfSome (option_map view v) (AreGroupArgs B cap s g) → IfSome v (λ args. EachFits B s.ctx.now cap (view args))
  next_fits view g None h = tt
  next_fits view g (Some v) h = lists_fit g (view v) h
