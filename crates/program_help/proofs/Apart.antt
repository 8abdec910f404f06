-- Words that ask for help ask for nothing else.
use Rattle.std.proofs.Common.{◌≡◌, ℕ, Bool, true, false, List, [], ◌∷◌, Option, Some, None, refl, subst, sym, ap}
use Rattle.std.specs.Prelude.{IsSome, bytes_eq, codes, find, if◌then◌else◌, option_map}
use Rattle.std.proofs.lemmas.Slice.Eq.{bytes_eq-Decides}
use Rattle.clap.specs.Faults.{defaults_fault, flags_fault, walk_fault}
use Rattle.clap.specs.Walk.{walked}
use Rattle.support_command_line.specs.CommandLine.{given_in}
use Rattle.support_command_line.specs.Words.{asked}
use Rattle.program_help.specs.declared.pages.Page.{Page}
use Rattle.program_help.specs.declared.pages.Page.TheVariants as p
use Rattle.program_help.specs.Help.{Topic, all, is_help, is_version, one, told, topic, topic_text, version}
use Rattle.program_help.specs.Laws.{HelpIsApart}
use Rattle.program_help.specs.Pages.{all_pages, page_name, page_named}

-- ---- the words, one by one

help_alone : asked (codes "--help" ∷ []) ≡ None
unfolding asked given_in walk_fault flags_fault defaults_fault walked
help_alone = refl

version_alone : asked (codes "--version" ∷ []) ≡ None
unfolding asked given_in walk_fault flags_fault defaults_fault walked
version_alone = refl

help_behind : (page : Page) → asked (page_name page ∷ (codes "--help" ∷ [])) ≡ None
unfolding asked given_in walk_fault flags_fault defaults_fault walked
help_behind p.Call = refl
help_behind p.List = refl
help_behind p.Emulate = refl
help_behind p.Analyse = refl
help_behind p.Check = refl
help_behind p.Convert = refl
help_behind p.Slice = refl
help_behind p.Claims = refl
help_behind p.Stress = refl

-- ---- what is found by its name has it

abbrev Passes : (Page → Bool) → Option Page → Type 0
Passes test None = Unit {0}
Passes test (Some page) = test page ≡ true

found_passes : (test : Page → Bool) (pages : List Page) → Passes test (find test pages)
found_passes test [] = tt
found_passes test (page ∷ pages) = by (test page) refl (found_passes test pages)
  where
    by : (b : Bool) → test page ≡ b → Passes test (find test pages) → Passes test (if b then Some page else find test pages)
    by true is later = is
    by false is later = later

named_so : (word : List ℕ) (page : Page) → page_named word ≡ Some page → page_name page ≡ word
named_so word page is =
    let test : Page → Bool = λ other. bytes_eq (page_name other) word in
    (bytes_eq-Decides (page_name page) word).0 (subst (λ (found : Option Page). Passes test found) is (found_passes test all_pages))

-- ---- any words

alone : (word : List ℕ) (h v : Bool) → is_help word ≡ h → is_version word ≡ v → IsSome (option_map topic_text (if h then Some all else if v then Some version else None)) → asked (word ∷ []) ≡ None
alone word true v is other some = subst (λ (w : List ℕ). asked (w ∷ []) ≡ None) (sym ((bytes_eq-Decides word (codes "--help")).0 is)) help_alone
alone word false true is other some = subst (λ (w : List ℕ). asked (w ∷ []) ≡ None) (sym ((bytes_eq-Decides word (codes "--version")).0 other)) version_alone
alone word false false is other some = absurd (cc)

by_page : (word : List ℕ) (found : Option Page) → page_named word ≡ found → IsSome (option_map topic_text (option_map one found)) → asked (word ∷ (codes "--help" ∷ [])) ≡ None
by_page word None is some = absurd (cc)
by_page word (Some page) is some = subst (λ (w : List ℕ). asked (w ∷ (codes "--help" ∷ [])) ≡ None) (named_so word page is) (help_behind page)

behind : (word flag : List ℕ) (h : Bool) → is_help flag ≡ h → IsSome (option_map topic_text (if h then option_map one (page_named word) else None)) → asked (word ∷ (flag ∷ [])) ≡ None
behind word flag true is some = subst (λ (f : List ℕ). asked (word ∷ (f ∷ [])) ≡ None) (sym ((bytes_eq-Decides flag (codes "--help")).0 is)) (by_page word (page_named word) refl some)
behind word flag false is some = absurd (cc)

pub help_is_apart : HelpIsApart
help_is_apart [] some = absurd (cc)
help_is_apart (word ∷ []) some = alone word (is_help word) (is_version word) refl refl some
help_is_apart (word ∷ (flag ∷ [])) some = behind word flag (is_help flag) refl some
help_is_apart (word ∷ (flag ∷ (more ∷ words))) some = absurd (cc)
