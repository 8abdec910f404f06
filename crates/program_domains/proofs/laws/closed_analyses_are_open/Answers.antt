use Rattle.support_command_line.specs.Bases.{base_text}
use Rattle.domain_laws.specs.States.{state_type}
use Rattle.program_domains.specs.Named.{domain_of}
use Rattle.program_domains.proofs.OpenTraces.{closed_is_open}
use Rattle.program_domains.proofs.laws.closed_analyses_are_open.Goals as goal

pub returns : goal.returns
returns c = λ image p base bytes is. closed_is_open (domain_of (state_type p.spec) base).domain p image (base_text base) bytes is
