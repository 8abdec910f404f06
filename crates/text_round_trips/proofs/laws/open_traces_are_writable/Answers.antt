use Rattle.text_round_trips.proofs.OpenAnalyses.{open_traces_are_writable}
use Rattle.text_round_trips.proofs.laws.open_traces_are_writable.Goals as goal

pub returns : goal.returns
returns g c =
    open_traces_are_writable g.D.B.Base.algebra g.met.D.B.Base.laws g.D.B.Base.CAP (g.D.WrittenDomain.elements c.args.domain.now) (g.D.WrittenDomain.meaning c.args.domain.now) g.D.WrittenDomain.NoteFits g.D.WrittenDomain.ElementFits
    g.met.D.WrittenDomain.notes_keep (g.D.WrittenDomain.elements_keep c.args.domain.now)
