use Rattle.std.proofs.Common.{◌∙◌, ap, map, option_map, sym}
use Rattle.std.proofs.lemmas.Result.{IfOk-weaker}
use Rattle.semantics_values.specs.Views.{val}
use Rattle.analysis_transfer.specs.Analysis.{problem}
use Rattle.analysis_choices.specs.Views.{choice}
use Rattle.analysis_cuts.proofs.Choosing.{chosen, none_chosen}
use Rattle.analysis_cuts.proofs.cut_analysis.CutAnalysis.choices_at.Goals as goal

pub returns-in-Some : goal.returns-in-Some
returns-in-Some g c =
    let p = problem c.args.self.now.of.now in
    let found = ap (option_map val) (sym c.in-Some.is) ∙ c.in_ok-instruction.ensures.instruction in
    let same = chosen p c.args.at c.word_at-word.result c.requires.ready.posed.machine c.word_at-word.ensures (val c.in-Some.instruction) found in
    IfOk-weaker c.choices_of.result _ _ (λ r e. e ∙ same) c.choices_of.ensures

pub returns-in-None : goal.returns-in-None
returns-in-None g c =
    let p = problem c.args.self.now.of.now in
    ap (map choice) c.new.ensures.items ∙ none_chosen p c.args.at c.word_at-word.result c.requires.ready.posed.machine c.word_at-word.ensures (ap (option_map val) (sym c.in-None.is) ∙ c.in_ok-instruction.ensures.instruction)
