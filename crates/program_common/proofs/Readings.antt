-- Inputs that are read one after another.
use Rattle.std.proofs.Common.{◌≡◌, ◌⊎◌, inl, inr, ℕ, ◌+◌, ◌<◌, Bool, List, ◌++◌, IsTrue, length, refl, sym, ◌∙◌, ap, subst, arith}
use Rattle.std.specs.Prelude.{IsErr, IsErrAnd, IsSomeAnd, Result, Ok, Err}
use Rattle.std.specs.Bool.{IsFalse}
use Rattle.std.proofs.lemmas.List.Elements.{Contains-append_left, Contains-append_right}
use Rattle.support_io.specs.Faults.{RoseByOne}
use Rattle.support_io.specs.InputState.{InputState, InputsKept}
use Rattle.support_io.specs.WholeRead.{TakesAtMost}
use Rattle.support_command_line.specs.SpecNames.{SpecName, input, power_pc, risc_v}
use Rattle.program_common.specs.Outcome.{Refusal}
use Rattle.program_common.specs.declared.outcome.Halt.{Halt}
use Rattle.program_common.specs.Faultless.{NoOtherFault}
use Rattle.program_common.specs.Reading.{Capped, Gave, Held, IsTakenFrom, Reading, ReadsOnly, Took, whole, long, unread}
use Rattle.program_common.specs.Sources.{SourceOf, source_cap}
use Rattle.program_common.proofs.Giving.{later_fault, no_other_fault, stopped_fault}

-- Each thing that the one gives the other gives too.
abbrev pub IsWider : Reading → Reading → Type 0
IsWider reads other = (cap : ℕ) (name : List ℕ) (found : Result (List ℕ) Refusal) → reads cap name found → other cap name found

-- All bytes that the one gives the other gives too.
abbrev pub KeepsBytes : Reading → Reading → Type 0
KeepsBytes reads other = (cap : ℕ) (name bytes : List ℕ) → reads cap name (Ok bytes) → other cap name (Ok bytes)

-- what stays through two calls
pub kept_both : (old mid new : InputState) → InputsKept old mid → InputsKept mid new → InputsKept old new
kept_both old mid new p q =
    let first = p.faults in
    let second = q.faults in
    record { tells = q.tells ∙ p.tells; held = q.held ∙ p.held; sure = q.sure ∙ p.sure; faults = omega arith }

module _ (old mid new : InputState) where
  -- behind calls in which no fault was counted
  pub gave_later : InputsKept old mid → mid.faults ≡ old.faults → IsWider (Gave mid new) (Gave old new)
  gave_later kept calm cap name found (whole holds fits) =
      whole (λ told. sym (ap (λ (h : Held). h name) kept.held) ∙ holds (subst (λ (b : Bool). IsTrue b) (sym kept.tells) told)) fits
  gave_later kept calm cap name found (long far) =
      long (λ told. subst (λ (h : Held). IsSomeAnd (h name) (λ bytes. cap < length bytes)) kept.held (far (subst (λ (b : Bool). IsTrue b) (sym kept.tells) told)))
  gave_later kept calm cap name found (unread cause) = unread (record {
    unsure = subst (λ (s : List ℕ → Bool). IsFalse (s name)) kept.sure cause.unsure;
    fault = subst (λ (n : ℕ). RoseByOne n new.faults) calm cause.fault;
  })

  abbrev StillGave : ℕ → List ℕ → Result (List ℕ) Refusal → Type 0
  StillGave cap name (Ok bytes) = Gave old new cap name (Ok bytes)
  StillGave cap name (Err refusal) = Unit {0}

  still_gave : (cap : ℕ) (name : List ℕ) (found : Result (List ℕ) Refusal) → Gave old mid cap name found → StillGave cap name found
  still_gave cap name found (whole holds fits) = whole holds fits
  still_gave cap name found (long far) = tt
  still_gave cap name found (unread cause) = tt

  -- whatever is read later
  pub gave_still : KeepsBytes (Gave old mid) (Gave old new)
  gave_still cap name bytes gave = still_gave cap name (Ok bytes) gave

pub source_still : (reads other : Reading) → KeepsBytes reads other → (spec : SpecName) (source : List ℕ) → SourceOf reads spec (Ok source) → SourceOf other spec (Ok source)
source_still reads other keeps (input name) source read = keeps source_cap name source read
source_still reads other keeps power_pc source is = is
source_still reads other keeps risc_v source is = is

-- ---- what is taken

module _ (xs ys : List Capped) (old mid new : InputState) where
  pub taken_first : IsTakenFrom xs old new → IsTakenFrom (xs ++ ys) old new
  taken_first p = record { cap = p.cap; named = Contains-append_left xs ys (new.name, p.cap) p.named; taken = p.taken }

  pub taken_later : InputsKept old mid → IsTakenFrom ys mid new → IsTakenFrom (xs ++ ys) old new
  taken_later kept p = record {
    cap = p.cap;
    named = Contains-append_right xs ys (new.name, p.cap) p.named;
    taken = subst (λ (h : Held). IsSomeAnd (h new.name) (λ bytes. TakesAtMost (p.cap + 1) bytes new.left)) kept.held p.taken;
  }

-- one reader after another
pub took_both : {T : Type 0} (state : T → InputState) (xs ys : List Capped) (old mid new : T) → InputsKept (state old) (state mid)
    → (IsTrue (state old).tells → Took state xs old mid) → (IsTrue (state mid).tells → Took state ys mid new) → IsTrue (state old).tells → Took state (xs ++ ys) old new
took_both {T = T} state xs ys old mid new kept first second told = by (second (subst (λ (b : Bool). IsTrue b) (sym kept.tells) told))
  where
    by_first : new ≡ mid → Took state xs old mid → Took state (xs ++ ys) old new
    by_first same (inl none) = inl (same ∙ none)
    by_first same (inr taken) = inr (λ is_open. taken_first xs ys (state old) (state mid) (state new)
        (subst (λ (z : T). IsTakenFrom xs (state old) (state z)) (sym same) (taken (subst (λ (z : T). IsTrue (state z).is_open) same is_open))))

    by : Took state ys mid new → Took state (xs ++ ys) old new
    by (inl same) = by_first same (first told)
    by (inr taken) = inr (λ is_open. taken_later xs ys (state old) (state mid) (state new) kept (taken is_open))

-- a reader that stops behind the first one
pub took_first : {T : Type 0} (state : T → InputState) (xs ys : List Capped) (old new : T) → (IsTrue (state old).tells → Took state xs old new) → IsTrue (state old).tells → Took state (xs ++ ys) old new
took_first {T = T} state xs ys old new first told = by (first told)
  where
    by : Took state xs old new → Took state (xs ++ ys) old new
    by (inl none) = inl none
    by (inr taken) = inr (λ is_open. taken_first xs ys (state old) (state new) (state new) (taken is_open))

-- ---- what functions that read do to the inputs

module _ {T : Type 0} (state : T → InputState) where
  -- one that read one input
  pub reads_one : {A : Type 0} (xs : List Capped) (old new : T) (result : Result A Halt) → InputsKept (state old) (state new) → NoOtherFault (state old) (state new) result
      → (IsTrue (state old).tells → IsTrue (state new).is_open → IsTakenFrom xs (state old) (state new)) → ReadsOnly state xs old new result
  reads_one xs old new result kept calm taken = record { kept = kept; no_other_fault = calm; taken = λ told. inr (taken told) }

  -- one that read, and then another step, which reads nothing
  pub reads_still : {A B : Type 0} (xs : List Capped) (old new : T) (found : A) (result : Result B Halt) → ReadsOnly state xs old new (Ok found) → ReadsOnly state xs old new result
  reads_still xs old new found result p = record { kept = p.kept; no_other_fault = no_other_fault (state old) (state new) result p.no_other_fault; taken = p.taken }

  -- what stops one is passed on
  pub reads_stopped : {A B : Type 0} (xs : List Capped) (old new : T) (halt : Halt) (result : Result B Halt) → IsErr result × IsErrAnd result (λ e. e ≡ halt)
      → ReadsOnly {A = A} state xs old new (Err halt) → ReadsOnly state xs old new result
  reads_stopped xs old new halt (Ok found) is p = absurd is.1
  reads_stopped {A = A} {B = B} xs old new halt (Err e) is p = record {
    kept = p.kept;
    no_other_fault = subst (λ (h : Halt). NoOtherFault {A = B} (state old) (state new) (Err h)) (sym is.1) (stopped_fault A B (state old) (state old) (state new) halt refl p.no_other_fault);
    taken = p.taken;
  }

  -- of the same inputs
  pub reads_same : {A : Type 0} (xs ys : List Capped) (old new : T) (result : Result A Halt) → xs ≡ ys → ReadsOnly state xs old new result → ReadsOnly state ys old new result
  reads_same xs ys old new result same p = subst (λ (inputs : List Capped). ReadsOnly state inputs old new result) same p

  -- one that reads of some inputs reads of more
  pub reads_first : {A : Type 0} (xs ys : List Capped) (old new : T) (result : Result A Halt) → ReadsOnly state xs old new result → ReadsOnly state (xs ++ ys) old new result
  reads_first xs ys old new result p = record { kept = p.kept; no_other_fault = p.no_other_fault; taken = took_first state xs ys old new p.taken }

  -- one after another
  pub reads_both : {A B : Type 0} (xs ys : List Capped) (old mid new : T) (found : A) (result : Result B Halt) → ReadsOnly state xs old mid (Ok found) → ReadsOnly state ys mid new result
      → ReadsOnly state (xs ++ ys) old new result
  reads_both xs ys old mid new found result p q = record {
    kept = kept_both (state old) (state mid) (state new) p.kept q.kept;
    no_other_fault = later_fault (state old) (state mid) (state new) result p.no_other_fault q.no_other_fault;
    taken = took_both state xs ys old mid new p.kept p.taken q.taken;
  }
