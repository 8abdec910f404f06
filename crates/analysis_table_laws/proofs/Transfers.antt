-- What transfers give: targets of 32 bits, uses of cells of states in their order, and elements that have their property.
use Rattle.std.proofs.Common.{◌≡◌, ℕ, ◌<◌, ◌^◌, List, Option, Some, None, IsTrue, refl, sym, subst, ◌∙◌}
use Rattle.base_trait.specs.Algebra.{Algebra}
use Rattle.base_trait.specs.Laws.{Laws}
use Rattle.base_trait.specs.Lists.{Each}
use Rattle.base_trait.specs.Uses.{Seen}
use Rattle.semantics_values.specs.States.{State}
use Rattle.semantics_values.specs.Values.{Val}
use Rattle.semantics.specs.Decode.{decoded}
use Rattle.abstract_value_laws.specs.Abs.{Abs, word, made, no_case, present, part}
use Rattle.support_tail_fixpoint.specs.Answer.{fails, gives}
use Rattle.abstract_semantics.specs.Answers.{Answer}
use Rattle.fixpoint_theory.proofs.Bounded.{each_weaker}
use Rattle.fixpoint_theory.specs.Code.{is_code}
use Rattle.fixpoint_theory.specs.Elements.{Elements}
use Rattle.fixpoint_theory.specs.Outcome.{IfPost, IfUses, Outcome, addresses, moves, sends, too_many, undecodable}
use Rattle.domain_laws.specs.Domain.{Meaning}
use Rattle.domain_laws.specs.States.{StateType, state_type}
use Rattle.domain_laws.specs.Values.{IsStateForm, IsStateValue}
use Rattle.analysis_transfer_laws.specs.Laws.{IsAnalysed}
use Rattle.analysis_transfer_laws.specs.Problem.{Problem}
use Rattle.analysis_transfer_laws.specs.Transfer.{arguments, counter_of, executed, fetched, moved, moved_to, outcome_of, transfer_of, uses_in}
use Rattle.analysis_transfer_laws.specs.Uses.{AreInOrder}
use Rattle.analysis_transfer_laws.proofs.Evaluated.{IsEvaluated, evaluated, state_value}
use Rattle.analysis_transfer_laws.proofs.Ordered.{uses_are_merged}
use Rattle.analysis_transfer_laws.proofs.Transfers.{counter_fits}
use Rattle.analysis_table_laws.specs.Domains.{ElementsKeep}
use Rattle.analysis_table_laws.specs.InvariantLaws.{has_word}
use Rattle.analysis_table_laws.specs.Notes.{NotesKeep}
use Rattle.analysis_table_laws.specs.Tables.{IsUseOf}
use Rattle.analysis_table_laws.specs.Values.{HasNotes}
use Rattle.analysis_table_laws.proofs.Evaluated.{IsNoted, evaluated_noted}
use Rattle.analysis_table_laws.proofs.Uses.{merged_of}

-- the targets, if there are some, have the property
abbrev pub IfTargets : {E W : Type 0} → (List ℕ → Type 0) → Outcome E W → Type 0
IfTargets P (undecodable code_word) = Unit {0}
IfTargets P (too_many shown uses) = Unit {0}
IfTargets P (moves targets post uses) = P targets
IfTargets P (sends arrivals uses) = P (addresses arrivals)

pub record IsOutcome {E W : Type 0} (p : Problem) (K : E → Type 0) (given : Outcome E W) : Type 0 where
  pub targets : IfTargets (Each (λ to. to < 2 ^ 32)) given
  pub uses : IfUses (λ uses. Each (IsUseOf p.spec) uses × AreInOrder (state_type p.spec).fields uses) given
  pub post : IfPost K given

-- the counter of a state has 32 bits
counter_wide : {W N : Type 0} (t : StateType) (y : Abs W N) (counter : ℕ × W) → IsStateForm t y → counter_of y ≡ Some counter → counter.0 ≡ 32
counter_wide t (made ty (present (part (word w x) xs) no_case)) counter h e =
    let same : (w, x) ≡ counter = cc in
    subst (λ q. q.0 ≡ 32) same h.1
counter_wide t _ counter h e = absurd cc

module _ {E W N C : Type 0} (B : Algebra W N C) (laws : Laws W N C B) (cap : ℕ) (D : Elements E State) (M : Meaning E W N C) (p : Problem) (calls : ℕ → ℕ → List (Abs W N) → Answer (Abs W N)) (h : IsAnalysed B cap D M p calls)
    (F : N → Type 0) (K : E → Type 0) (notes : NotesKeep B.notes (has_word p) F) (elements : ElementsKeep D M F K) where
  used : (log : List Seen) → Each (IsUseOf p.spec) log → Each (IsUseOf p.spec) (uses_in p log) × AreInOrder (state_type p.spec).fields (uses_in p log)
  used log each = (merged_of p.spec (state_type p.spec).fields log each, (uses_are_merged (state_type p.spec).fields log).order)

  module _ (a : ℕ) (lt : a < 2 ^ 32) (code : IsTrue (has_word p a)) (x : E) (fit : D.fits x) (kept : K x) where
    moved_is : (y : Abs W N) (log : List Seen) (counter : ℕ × W) → IsStateValue B M.context cap (state_type p.spec) y → counter_of y ≡ Some counter → HasNotes F y → Each (IsUseOf p.spec) log
        → (o : Option (List ℕ)) → B.words.members M.context counter.0 counter.1 p.limit ≡ o → IsOutcome p K (moved_to B M p x y log counter.1 o)
    moved_is y log counter state e noted each None is = record { targets = tt; uses = used log each; post = tt }
    moved_is y log counter state e noted each (Some targets) is =
        let word_fits = counter_fits B M.context cap y counter state.1 e in
        let members = laws.words.members_fit M.context counter.0 p.limit targets counter.1 word_fits.0 word_fits.1 is in
        let wide = counter_wide (state_type p.spec) y counter state.0 e in
        record {
          targets = each_weaker (λ n. (n < 2 ^ counter.0) × IsTrue (B.words.may M.context counter.0 counter.1 n)) (λ n. n < 2 ^ 32) (λ n k. subst (λ w. n < 2 ^ w) wide k.0) targets members;
          uses = used log each;
          post = elements.closed x y kept noted;
        }

    answer_is : (r : Answer (Abs W N)) → IsEvaluated B cap D M p a x r → IsNoted p F r → IsOutcome p K (outcome_of B M p x r)
    answer_is (fails i) is noted = record { targets = tt; uses = (tt, tt); post = tt }
    answer_is (gives None log) is noted = record { targets = tt; uses = used log noted.logged; post = tt }
    answer_is (gives (Some y) log) is noted = at (counter_of y) refl
      where
        at : (o : Option (ℕ × W)) → counter_of y ≡ o → IsOutcome p K (moved B M p x y log o)
        at None e = record { targets = tt; uses = used log noted.logged; post = tt }
        at (Some counter) e =
            moved_is y log counter (state_value B laws cap D M p calls h y counter is.kept.0 e) e noted.notes noted.logged (B.words.members M.context counter.0 counter.1 p.limit) refl

    executed_is : (code_word : ℕ) (o : Option Val) → decoded p.machine.instr p.spec.rows code_word ≡ o → IsOutcome p K (executed B cap M p calls a x code_word o)
    executed_is code_word None e = record { targets = tt; uses = tt; post = tt }
    executed_is code_word (Some instruction) e =
        answer_is (calls a p.machine.interp (arguments B cap M p a x instruction)) (evaluated B laws cap D M p calls h a x code_word instruction lt fit e)
        (evaluated_noted B laws cap D M p calls h F K notes elements a lt code x fit kept code_word instruction e)

    fetched_is : (o : Option ℕ) → IsOutcome p K (fetched B cap M p calls a x o)
    fetched_is None = record { targets = tt; uses = (tt, tt); post = tt }
    fetched_is (Some code_word) = executed_is code_word (decoded p.machine.instr p.spec.rows code_word) refl

  -- the transfer of an element that fits and has its property, at a code address
  pub transfer_is : (a : ℕ) (x : E) → IsTrue (is_code p.addresses a) → D.fits x → K x → IsOutcome p K (transfer_of B cap M p calls a x)
  transfer_is a x code fit kept = fetched_is a (h.posed.addressed a code) (sym (h.posed.words a) ∙ code) x fit kept (p.word_at a)
