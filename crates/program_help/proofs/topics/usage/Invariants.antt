use Rattle.std.proofs.Common.{◌≡◌, fold, take}
use Rattle.std.specs.String.{string_bytes}
use Rattle.program_help.specs.Help.{head_text, with_page}
use Rattle.program_help.specs.Pages.{all_pages}
use Rattle.program_help.proofs.topics.usage.Given as goal

-- the pages so far stand behind the head
abbrev pub invariant-loop-page : goal.invariant-loop-page
invariant-loop-page l = string_bytes l.out ≡ fold with_page head_text (take l.page-index all_pages)
