-- The choices at an address of code are those of its instruction.
use Rattle.std.proofs.Common.{◌≡◌, ◌∙◌, ℕ, List, [], Option, Some, None, ap, sym}
use Rattle.semantics_values.specs.declared.entry.KeyAt.{KeyAt}
use Rattle.semantics_values.specs.Values.{Val}
use Rattle.semantics.specs.Decode.{decoded}
use Rattle.code_image.specs.Decoders.{decoding, instr_of}
use Rattle.analysis_transfer_laws.specs.Problem.{Problem}
use Rattle.analysis_choices.specs.Choice.{choices_of}
use Rattle.analysis_cuts.specs.Analysis.{choices_at, choices_by, choices_with}

module _ (p : Problem) (a w : ℕ) (machine : p.spec.machine ≡ Some p.machine) (is : p.word_at a ≡ Some w) where
  decodes : decoding p.spec w ≡ decoded p.machine.instr p.spec.rows w
  decodes = ap (λ m. decoded (instr_of m) p.spec.rows w) machine

  pub chosen : (i : Val) → Some i ≡ decoding p.spec w → choices_of p.spec p.machine i ≡ choices_at p a
  chosen i found = ap (choices_by p) (found ∙ decodes) ∙ sym (ap (choices_with p) is)

  pub none_chosen : ◌≡◌ {A = Option Val} None (decoding p.spec w) → ◌≡◌ {A = List ((ℕ × KeyAt) × List ℕ)} [] (choices_at p a)
  none_chosen found = ap (choices_by p) (found ∙ decodes) ∙ sym (ap (choices_with p) is)
