use Rattle.std.proofs.Common.{sym, ap, ◌∙◌}
use Rattle.abstract_value.specs.View.{abs, cases_of}
use Rattle.abstract_value.proofs.Views.{abs_Data}
use Rattle.analysis_transfer_laws.specs.Transfer.{counter_of}
use Rattle.analysis_transfer.proofs.Counters.{counter_in}
use Rattle.analysis_transfer.proofs.counter.counter_of.Goals as goal

pub returns-in-Data : goal.returns-in-Data
returns-in-Data g c =
    c.of_one.ensures ∙ sym (ap (λ v. counter_of (abs v)) c.in-Data.is ∙ ap counter_of (abs_Data c.in-Data._ty c.in-Data.cases) ∙ counter_in c.in-Data._ty (cases_of c.in-Data.cases))
