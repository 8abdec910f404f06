-- When an evaluation may take place.
use Rattle.std.proofs.Common.{◌≡◌, ◌<◌, ℕ, List, length, Option, Some, None, slice_get, refl, arith}
use Rattle.base_trait.specs.Algebra.{Algebra}
use Rattle.base_trait.specs.Laws.{Laws}
use Rattle.abstract_map_laws.specs.Laws.{HasRoom}
use Rattle.spec_ir.specs.Specification.{Fun}
use Rattle.semantics_laws.specs.Accepted.{IsAccepted}
use Rattle.eval_code.specs.Lowered.{IsCodeOf}
use Rattle.eval_code.specs.Views.{code}
use Rattle.support_tail_fixpoint.specs.Activation.{HasTurn}
use Rattle.support_tail_fixpoint.specs.Answer.{IfGives, fails, gives}
use Rattle.abstract_value_laws.specs.Abs.{Abs}
use Rattle.abstract_value_laws.specs.Fits.{Fits}
use Rattle.abstract_semantics.specs.Answers.{Answer}
use Rattle.abstract_semantics.specs.Calls.{AreArguments, AreRight}
use Rattle.abstract_semantics.specs.Laws.{IsResult}
use Rattle.abstract_semantics.proofs.Plain.{calls_keep_types, past}
use Rattle.eval_memo.specs.declared.setting.Setting.{Setting}
use Rattle.abstract_semantics.specs.CallLaws.{JoinsUnder}
use Rattle.eval_memo.specs.Ready.{IsReady}
use Rattle.eval_memo.specs.Settings.{spec_of}

module _ {X W N C : Type 0} (B : Algebra W N C) (laws : Laws W N C B) (cap : ℕ) (s : Setting X W N C) (calls : ℕ → List (Abs W N) → Answer (Abs W N)) where
  result_fits : (fun : Fun) (r : Answer (Abs W N)) → IfGives r (IsResult B s.ctx.now cap (spec_of s) fun) → IfGives r (Fits B s.ctx.now cap)
  result_fits fun (fails i) h = tt
  result_fits fun (gives None l) h = tt
  result_fits fun (gives (Some x) l) h = h.fits

  -- ---- an evaluation may take place: of an accepted specification with its own code, by its reinterpretation
  pub may_evaluate : IsAccepted (spec_of s) → IsCodeOf (code s.cir.now) (spec_of s) → HasRoom B cap → HasTurn s.policy → JoinsUnder B s.policy → AreRight B s.ctx.now cap (spec_of s) s.at s.policy calls
      → IsReady B cap s (spec_of s) calls
  may_evaluate ok code_is room turn joins right = record {
    spec_is = refl;
    accepted = ok;
    code_is = code_is;
    room = room;
    has_turn = turn;
    joins = joins;
    right = right;
    results = λ f xs lt are. at f xs lt are (slice_get (spec_of s).funs f) refl;
  }
    where
      at : (f : ℕ) (xs : List (Abs W N)) → f < length (spec_of s).funs → AreArguments B s.ctx.now cap (spec_of s) f xs → (o : Option Fun) → slice_get (spec_of s).funs f ≡ o → IfGives (calls f xs) (Fits B s.ctx.now cap)
      at f xs lt are None e = let le = past (spec_of s).funs f e in absurd (omega (arith, lt, le))
      at f xs lt are (Some fun) e = result_fits fun (calls f xs) (calls_keep_types B laws (spec_of s) s.ctx.now cap s.at s.policy calls f fun xs ok room turn right e are)
