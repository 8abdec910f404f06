-- Memos as plain data, and when one is right.
use Rattle.std.specs.Prelude.{◌≡◌, ⊤, ◌⊎◌, ℕ, ◌+◌, ◌++◌, Option, List, [], ◌∷◌, Vec, length, map, option_map}
use Rattle.std.specs.declared.alloc.Global.{Global}
use Rattle.base_trait.specs.Uses.{Seen, uses_of}
use Rattle.support_tail_fixpoint.specs.Answer.{gives}
use Rattle.abstract_value_laws.specs.Abs.{Abs}
use Rattle.abstract_value.specs.View.{abs}
use Rattle.abstract_semantics.specs.Answers.{Answer}
use Rattle.abstract_value.specs.declared.value.AbstractValue.{AbstractValue}
use Rattle.eval_memo.specs.declared.call.Call.{Call}
use Rattle.eval_memo.specs.declared.memo.Memo.{Memo}
use Rattle.eval_memo.specs.declared.memo.Outcome.{Outcome}

-- a call of a function, with its value, or none, and its own reads
pub record Remembered (W N : Type 0) : Type 0 where
  pub function : ℕ
  pub args : List (Abs W N)
  pub value : Option (Abs W N)
  pub reads : List Seen

abbrev pub called : {W N : Type 0} → ℕ → List (Abs W N) → Option (Abs W N) → List Seen → Remembered W N
called f args value reads = record { function = f; args = args; value = value; reads = reads }

module _ {X W N C : Type 0} where
  -- a call that gave this
  abbrev pub gave : ℕ → List (AbstractValue X W N C) → Outcome X W N C → Remembered W N
  gave f args o = called f (map abs args) (option_map abs o.value) (uses_of o.reads)

  abbrev pub remembered : Call (Vec (AbstractValue X W N C) Global) × Outcome X W N C → Remembered W N
  remembered e = gave e.0.function e.0.args.items e.1

  -- the calls of a memo, in the order in which they were kept
  abbrev pub entries : Memo X W N C → List (Remembered W N)
  entries memo = map remembered memo.calls.entries

module _ {W N : Type 0} where
  -- No entry is of this call.
  abbrev pub IsNew : ℕ → List (Abs W N) → List (Remembered W N) → Type 0
  IsNew f args [] = ⊤
  IsNew f args (e ∷ es) = (e.function ≡ f → e.args ≡ args → ⊥) × IsNew f args es

  -- Some entry is of this call.
  abbrev pub Holds : ℕ → List (Abs W N) → List (Remembered W N) → Type 0
  Holds f args [] = ⊥
  Holds f args (e ∷ es) = ((e.function ≡ f) × (e.args ≡ args)) ⊎ Holds f args es

  -- An entry is kept: where its call is new it comes behind those before, and otherwise nothing changes.
  abbrev pub Keeps : List (Remembered W N) → Remembered W N → List (Remembered W N) → Type 0
  Keeps old e new = (IsNew e.function e.args old × (new ≡ old ++ e ∷ [])) ⊎ (Holds e.function e.args old × (new ≡ old))

  -- No two entries are of one call.
  abbrev pub AreDistinct : List (Remembered W N) → Type 0
  AreDistinct [] = ⊤
  AreDistinct (e ∷ es) = IsNew e.function e.args es × AreDistinct es

  -- Each entry says what the call gives.
  abbrev pub AreTrue : (calls : ℕ → List (Abs W N) → Answer (Abs W N)) → List (Remembered W N) → Type 0
  AreTrue calls [] = ⊤
  AreTrue calls (e ∷ es) = (calls e.function e.args ≡ gives e.value e.reads) × AreTrue calls es

  -- The entries are right; and from `before` entries and `ticked` steps on, entries and steps have grown by the same number.
  pub record Stands (calls : ℕ → List (Abs W N) → Answer (Abs W N)) (before ticked : ℕ) (es : List (Remembered W N)) (steps : ℕ) : Type 0 where
    pub true_of : AreTrue calls es
    pub distinct : AreDistinct es
    pub counted : length es + ticked ≡ before + steps

  -- Where the entries are true, so is this one, of this call.
  abbrev pub Tells : List (Remembered W N) → ℕ → List (Abs W N) → Remembered W N → Type 0
  Tells es f args e = (calls : ℕ → List (Abs W N) → Answer (Abs W N)) → AreTrue calls es → calls f args ≡ gives e.value e.reads
