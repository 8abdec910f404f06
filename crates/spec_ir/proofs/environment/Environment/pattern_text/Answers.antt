use Rattle.spec_ir.proofs.environment.Environment.pattern_text.Goals as goal

pub returns : goal.returns
returns c = rw (← c.self.view_is) c.pattern_text.ensures
