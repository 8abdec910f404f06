-- Words that ask for help or for the version, and what is told.
use Rattle.std.specs.Prelude.{◌≡◌, ℕ, Bool, List, [], ◌∷◌, ◌++◌, Option, Some, None, Result, Ok, Err, bytes_eq, codes, fold, if◌then◌else◌, option_map}
use Rattle.support_io.specs.Faults.{RoseByOne}
use Rattle.support_io.specs.SinkState.{Appends, AppendsFront, SinkState}
use Rattle.program_help.specs.declared.help_error.HelpError.{HelpError}
use Rattle.program_help.specs.declared.help_error.HelpError.TheVariants.{NoMemory, WriteFault}
use Rattle.program_help.specs.declared.pages.Page.{Page}
use Rattle.program_help.specs.declared.page_texts.TheConstants as texts
use Rattle.program_help.specs.Pages.{all_pages, page_named, page_text}

-- the version
unfoldable pub version_text : List ℕ
version_text = texts.VERSION.now

-- what stands before the pages, and behind them
unfoldable pub head_text : List ℕ
head_text = texts.HEAD.now

unfoldable pub tail_text : List ℕ
tail_text = texts.TAIL.now

-- a text and a page behind it
abbrev pub with_page : List ℕ → Page → List ℕ
with_page text page = text ++ page_text page

-- all of help
abbrev pub usage : List ℕ
usage = fold with_page head_text all_pages ++ tail_text

-- what is asked for
pub data Topic : Type 0 where
  all : Topic
  one : Page → Topic
  version : Topic

abbrev pub topic_text : Topic → List ℕ
topic_text all = usage
topic_text (one page) = page_text page
topic_text version = version_text

abbrev pub is_help : List ℕ → Bool
is_help word = bytes_eq word (codes "--help")

abbrev pub is_version : List ℕ → Bool
is_version word = bytes_eq word (codes "--version")

-- What words ask to be told: `--help` alone, or behind the name of a command, or `--version` alone. No other words ask for it.
abbrev pub topic : List (List ℕ) → Option Topic
topic [] = None
topic (word ∷ []) = if is_help word then Some all else if is_version word then Some version else None
topic (word ∷ (flag ∷ [])) = if is_help flag then option_map one (page_named word) else None
topic (word ∷ (flag ∷ (more ∷ words))) = None

abbrev pub told : List (List ℕ) → Option (List ℕ)
told words = option_map topic_text (topic words)

-- Where a text is asked for, it is written; or the sink fails, and a front of it is written; or memory runs out, and nothing is. Where none is, nothing is done.
abbrev pub Tells : Option (List ℕ) → SinkState → SinkState → Option (Result (Unit {0}) HelpError) → Type 0
Tells None old new None = new ≡ old
Tells None old new (Some result) = ⊥
Tells (Some text) old new None = ⊥
Tells (Some text) old new (Some (Ok done)) = Appends old new text
Tells (Some text) old new (Some (Err WriteFault)) = AppendsFront old new text × RoseByOne old.faults new.faults
Tells (Some text) old new (Some (Err NoMemory)) = new ≡ old
