-- Steps with other stamps.
use Rattle.std.proofs.Common.{◌≡◌, ◌∙◌, ℕ, List, [], ◌∷◌, Option, Some, None, map as map_of, refl, sym, ap, subst}
use Rattle.std.specs.Prelude.{option_map}
use Rattle.base_trait.specs.Uses.{Read}
use Rattle.base_trait.specs.declared.uses.Stamp.{Stamp}
use Rattle.base_trait.specs.declared.uses.Stamp.TheVariants.{At}
use Rattle.spec_ir.specs.declared.row.Arg.{Arg}
use Rattle.spec_ir.specs.declared.spec.Machine.{Machine}
use Rattle.spec_ir.specs.Specification.{Row, Spec}
use Rattle.semantics_values.specs.Values as v
use Rattle.semantics_values.specs.Values.{Val, Vals, vals}
use Rattle.semantics_values.specs.States.{State, value_of}
use Rattle.semantics.specs.Decode.{argument_of, decoded, fields_in, instruction_of, row_met}
use Rattle.semantics.specs.Outcomes as o
use Rattle.semantics.specs.Outcomes.{Outcome}
use Rattle.semantics.specs.Runs as r
use Rattle.semantics.specs.Runs.{Stepped, executed, fetched, meaning, state_from, step, stepped_of}
use Rattle.analysis_query_laws.specs.Chains.{executed_as, fetched_as, step_as}
use Rattle.analysis_query_laws.specs.Restamped.{all_restamped, restamped, restamped_read, restamped_state, restamped_step}
use Rattle.analysis_query_laws.proofs.Restamped.{changed, list_changed, meaning_changed, vals_changed}

-- ---- instructions have no stamps
module _ (f : Stamp → Stamp) where
  arguments_stay : (fields : List (ℕ × ℕ)) (args : List Arg) → all_restamped f (vals (map_of (argument_of fields) args)) ≡ vals (map_of (argument_of fields) args)
  arguments_stay fields [] = refl
  arguments_stay fields (x ∷ args) = ap (λ xs. v.val_then (argument_of fields x) xs) (arguments_stay fields args)

  instruction_stays : (instr code_word : ℕ) (x : Option Row) (i : Val) → option_map (instruction_of instr code_word) x ≡ Some i → restamped f i ≡ i
  instruction_stays instr code_word None i e = cc
  instruction_stays instr code_word (Some row) i e =
      let same : instruction_of instr code_word row ≡ i = cc in
      subst (λ z. restamped f z ≡ z) same (ap (λ xs. v.made instr row.case xs) (arguments_stay (fields_in code_word row.parts) row.args))

  -- ---- what an outcome comes to
  state_changed : (ps : Vals) (l : List Read) → state_from (all_restamped f ps) (map_of (restamped_read f) l) ≡ restamped_step f (state_from ps l)
  state_changed v.no_val l = refl
  state_changed (v.val_then (v.flag b) ps) l = refl
  state_changed (v.val_then (v.made ty c vs) ps) l = refl
  state_changed (v.val_then (v.map m rest cells) ps) l = refl
  state_changed (v.val_then (v.word w pc) ps) l = ap (λ xs. r.steps_to (record { pc = pc; parts = xs }) (map_of (restamped_read f) l)) (list_changed f ps)

  stepped_changed : (x : Outcome Val) → stepped_of (changed f (restamped f) x) ≡ restamped_step f (stepped_of x)
  stepped_changed (o.deep i) = refl
  stepped_changed o.wrong = refl
  stepped_changed (o.gives (v.flag b) l) = refl
  stepped_changed (o.gives (v.word w n) l) = refl
  stepped_changed (o.gives (v.map m rest cells) l) = refl
  stepped_changed (o.gives (v.made ty c ps) l) = state_changed ps l

module _ (spec : Spec) (machine : Machine) (code : ℕ → Option ℕ) (d : ℕ) where
  -- a step is the one with its own address
  as_step : (s : State) → step spec machine code d s ≡ step_as spec machine code d s.pc s
  as_step s = by_code (code s.pc)
    where
      by_instruction : (code_word : ℕ) (i : Option Val) → executed spec machine code d s code_word i ≡ executed_as spec machine code d s.pc s code_word i
      by_instruction code_word None = refl
      by_instruction code_word (Some i) = refl

      by_code : (x : Option ℕ) → fetched spec machine code d s x ≡ fetched_as spec machine code d s.pc s x
      by_code None = refl
      by_code (Some code_word) = by_instruction code_word (decoded machine.instr spec.rows code_word)

  -- whatever the address
  pub to_other : (f : Stamp → Stamp) (n a : ℕ) (s : State) → f (At n) ≡ At a → step_as spec machine code d a (restamped_state f s) ≡ restamped_step f (step_as spec machine code d n s)
  to_other f n a s same = by_code (code s.pc)
    where
      by_instruction : (code_word : ℕ) (i : Option Val) → decoded machine.instr spec.rows code_word ≡ i
          → executed_as spec machine code d a (restamped_state f s) code_word i ≡ restamped_step f (executed_as spec machine code d n s code_word i)
      by_instruction code_word None e = refl
      by_instruction code_word (Some i) e =
          let stays = instruction_stays f machine.instr code_word (row_met code_word spec.rows) i e in
          let value : value_of machine.state (restamped_state f s) ≡ restamped f (value_of machine.state s) = ap (λ xs. v.made machine.state 0 (v.val_then (v.word 32 s.pc) xs)) (vals_changed f s.parts) in
          ap (λ x. stepped_of (meaning spec a d machine.interp (x ∷ value_of machine.state (restamped_state f s) ∷ []) [])) (sym stays)
          ∙ ap (λ x. stepped_of (meaning spec a d machine.interp (restamped f i ∷ x ∷ []) [])) value
          ∙ ap stepped_of (meaning_changed f n a same spec d machine.interp (i ∷ value_of machine.state s ∷ []) [])
          ∙ stepped_changed f (meaning spec n d machine.interp (i ∷ value_of machine.state s ∷ []) [])

      by_code : (x : Option ℕ) → fetched_as spec machine code d a (restamped_state f s) x ≡ restamped_step f (fetched_as spec machine code d n s x)
      by_code None = refl
      by_code (Some code_word) = by_instruction code_word (decoded machine.instr spec.rows code_word) refl

  -- where f gives the stamp of n as that of the step's address, the step from what f makes of a state is what f makes of the step with n
  pub step_changed : (f : Stamp → Stamp) (n : ℕ) (s : State) → f (At n) ≡ At s.pc → step spec machine code d (restamped_state f s) ≡ restamped_step f (step_as spec machine code d n s)
  step_changed f n s same = as_step (restamped_state f s) ∙ to_other f n s.pc s same
