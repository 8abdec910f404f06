-- What is given in a domain that is made is given in some; what is given in the domain of a base is given over the base.
use Rattle.std.proofs.Common.{◌≡◌, ◌≤◌, ◌+◌, ℕ, refl, sym, subst}
use Rattle.std.specs.Prelude.{Result, Ok, Err}
use Rattle.support_command_line.specs.declared.bases.BaseName.{BaseName}
use Rattle.support_command_line.specs.Bases.{base_text}
use Rattle.code_image.specs.Image.{Image}
use Rattle.spec_ir.specs.Specification.{Spec}
use Rattle.domain_laws.specs.States.{state_type}
use Rattle.program_common.specs.declared.outcome.Halt.{Halt}
use Rattle.program_common.specs.declared.outcome.Halt.TheVariants.{NoMemory, Refused}
use Rattle.program_common.specs.Outcome.{Answer, Refusal}
use Rattle.program_common.specs.Outcomes.{Gives}
use Rattle.program_domains.specs.Named.{Done, domain_of}
use Rattle.program_domains.specs.Tasks.{Comes, spec_of}
use Rattle.program_domains.specs.Work.{IsWork, WorkOf}
use Rattle.program_domain_tasks.specs.Read.{task_of}
use Rattle.program_domain_tasks.specs.declared.task.DomainTask.{DomainTask}
use Rattle.program_domain_tasks.specs.declared.task.DomainTask.TheVariants.{Analyse, AnalyseOpen, Check, CheckOpen, Claims, ClaimsOpen, Convert, Measure, Slice, SliceOpen}

-- what one value gives, some value gives
pub gives_some : {A B D : Type 0} (d : D) (Is : D → Type 0) (step : D → Result B Refusal → Type 0) (seen : A → B) (r : Result A Halt) → Is d → Gives (step d) seen r → Gives (λ o. (x : D) × Is x × step x o) seen r
gives_some d Is step seen (Ok found) is given = (d, is, given)
gives_some d Is step seen (Err NoMemory) is given = tt
gives_some d Is step seen (Err (Refused refusal)) is given = (d, is, given)

module _ (spec : Spec) (image : Image) where
  spec_is : (task : DomainTask) → spec_of (task_of spec image task) ≡ spec
  spec_is (Analyse start) = refl
  spec_is (AnalyseOpen start) = refl
  spec_is (Measure start) = refl
  spec_is (Check start table) = refl
  spec_is (CheckOpen start table) = refl
  spec_is (Convert table) = refl
  spec_is (Slice start table criterion) = refl
  spec_is (SliceOpen start table criterion) = refl
  spec_is (Claims start table list) = refl
  spec_is (ClaimsOpen start table list) = refl

  -- the base is this one
  pub over_it : {A : Type 0} (task : DomainTask) (base it : BaseName) (seen : A → Answer) (r : Result A Halt) → base ≡ it
      → Gives (Comes (domain_of (state_type spec) it).domain image (base_text base) (task_of spec image task)) seen r → Gives (Done image (task_of spec image task) base) seen r
  over_it task base it seen r same given =
      subst (λ s. Gives (Comes (domain_of (state_type s) base).domain image (base_text base) (task_of spec image task)) seen r) (sym (spec_is task))
      (subst (λ b. Gives (Comes (domain_of (state_type spec) b).domain image (base_text base) (task_of spec image task)) seen r) (sym same) given)

  pub work_over : (task : DomainTask) (base it : BaseName) (old new : ℕ) → base ≡ it → IsWork (domain_of (state_type spec) it).domain image (base_text base) (task_of spec image task) old new
      → WorkOf image (task_of spec image task) base old new
  work_over task base it old new same few =
      subst (λ s. IsWork (domain_of (state_type s) base).domain image (base_text base) (task_of spec image task) old new) (sym (spec_is task))
      (subst (λ b. IsWork (domain_of (state_type spec) b).domain image (base_text base) (task_of spec image task) old new) (sym same) few)
