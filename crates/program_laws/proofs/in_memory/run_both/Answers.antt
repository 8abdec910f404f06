use Rattle.support_io.specs.FileList.{first_file}
use Rattle.support_command_line.specs.Views.{texts}
use Rattle.program_laws.proofs.Memory.{ends_accepted}
use Rattle.program_laws.proofs.in_memory.run_both.Goals as goal

pub returns : goal.returns
returns c request joins table asks also are same ok holds fits =
    ends_accepted (texts c.args.words.now) (texts c.args.other_words.now) (first_file c.args.files.items) (first_file c.args.other_files.items) request joins table c.in_ok-first.first.text.items asks also are same
    (λ closed. c.in_ok-first.ensures.table request asks closed ok) (λ left_open. c.in_ok-first.ensures.open_table request asks left_open ok) holds fits c.in_ok-other.other.status c.in_ok-other.other.text.items c.in_ok-other.ensures.owed
