-- The pages of help, one of each command.
use Rattle.std.specs.Prelude.{ℕ, List, [], ◌∷◌, Option, bytes_eq, codes, find}
use Rattle.program_help.specs.declared.pages.Page.{Page}
use Rattle.program_help.specs.declared.pages.Page.TheVariants as p
use Rattle.program_help.specs.declared.page_texts.TheConstants as texts

-- the name of its command
abbrev pub page_name : Page → List ℕ
page_name p.Call = codes "call"
page_name p.List = codes "list"
page_name p.Emulate = codes "emulate"
page_name p.Analyse = codes "analyse"
page_name p.Check = codes "check"
page_name p.Convert = codes "convert"
page_name p.Slice = codes "slice"
page_name p.Claims = codes "claims"
page_name p.Stress = codes "stress"

-- what it tells
unfoldable pub page_text : Page → List ℕ
page_text p.Call = texts.CALL.now
page_text p.List = texts.LIST.now
page_text p.Emulate = texts.EMULATE.now
page_text p.Analyse = texts.ANALYSE.now
page_text p.Check = texts.CHECK.now
page_text p.Convert = texts.CONVERT.now
page_text p.Slice = texts.SLICE.now
page_text p.Claims = texts.CLAIMS.now
page_text p.Stress = texts.STRESS.now

abbrev pub all_pages : List Page
all_pages = p.Call ∷ p.List ∷ p.Emulate ∷ p.Analyse ∷ p.Check ∷ p.Convert ∷ p.Slice ∷ p.Claims ∷ p.Stress ∷ []

abbrev pub page_named : List ℕ → Option Page
page_named name = find (λ page. bytes_eq (page_name page) name) all_pages
