use Rattle.text_round_trips.proofs.OpenAnalyses.{texts_of_open_traces_are_accepted}
use Rattle.text_round_trips.proofs.laws.texts_of_open_traces_are_accepted.Goals as goal

pub returns : goal.returns
returns g c =
    texts_of_open_traces_are_accepted g.D.B.Base.algebra g.met.D.B.Base.laws g.D.B.Base.CAP (g.D.WrittenDomain.elements c.args.domain.now) (g.D.WrittenDomain.meaning c.args.domain.now) g.D.WrittenDomain.NoteFits g.D.WrittenDomain.ElementFits
    g.met.D.WrittenDomain.notes_keep (g.D.WrittenDomain.elements_keep c.args.domain.now) g.D.WrittenDomain.Reads g.D.WrittenDomain.word_in g.D.WrittenDomain.IsText g.D.WrittenDomain.word_text
