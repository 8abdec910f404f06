use Rattle.std.proofs.Common.{◌≡◌, ◌<◌, ◌∙◌, ◌++◌, ℕ, List, ap, ap₂, arith, sym, take, fold, length}
use Rattle.std.proofs.lemmas.List.{take_all}
use Rattle.std.proofs.lemmas.List.Sums.{fold_more}
use Rattle.program_help.specs.declared.pages.Page.TheVariants.{Call}
use Rattle.program_help.specs.Help.{head_text, with_page}
use Rattle.program_help.specs.Pages.{all_pages}
use Rattle.program_help.proofs.topics.usage.Goals as goal

abbrev behind : List ℕ → List ℕ → List ℕ
behind text more = text ++ more

pub loop-page-preserved : goal.loop-page-preserved
loop-page-preserved c =
    let place : c.loop-page.page-index < length all_pages = omega arith in
    c.in_ok-push_str.ensures.bytes ∙ ap₂ behind c.loop-page.invariant c.text.ensures ∙ sym (fold_more with_page head_text all_pages c.loop-page.page-index Call place)
