-- How many transfers a task makes.
use Rattle.std.specs.Prelude.{◌⊎◌, ℕ, ◌+◌, ◌*◌, ◌≤◌, List, length}
use Rattle.support_command_line.specs.Bases.{base_text}
use Rattle.support_command_line.specs.declared.bases.BaseName.{BaseName}
use Rattle.code_image.specs.Image.{Image}
use Rattle.spec_ir.specs.Specification.{Spec}
use Rattle.domain_laws.specs.States.{state_type}
use Rattle.fixpoint_theory.specs.Analysis.{height_of}
use Rattle.fixpoint_theory.specs.Table.{Listings}
use Rattle.fixpoint_open_tables.specs.Endings.{Endings}
use Rattle.text_table_reader.specs.Tables.{IsOpenTableIn, IsTableIn}
use Rattle.analysis_transfer_laws.specs.Problem.{Problem}
use Rattle.program_domains.specs.Analyses.{analysis}
use Rattle.program_domains.specs.Domains.{DomainOf}
use Rattle.program_domains.specs.Named.{domain_of}
use Rattle.program_domains.specs.Tasks.{Task, analyse, analyse_open, check, check_open, claims, claims_open, convert, measure, slice, slice_open, spec_of}

module _ {E W N C : Type 0} (domain : DomainOf E W N C) where
  -- Of N code words and elements of the height H an analysis makes at most N(H + J + 1), where J changes of an element join.
  abbrev pub analysis_work : Problem → ℕ
  analysis_work p = length p.addresses * (height_of (analysis domain p) + p.joins + 1)

  module _ (image : Image) (base : List ℕ) where
    -- From so many to so many, where a text is to be a table: none was made, or the text is one, and at most one was made for each address that it lists.
    abbrev pub IsWorkOn : Spec → List ℕ → ℕ → ℕ → Type 0
    IsWorkOn spec bytes old new = (new ≤ old) ⊎ ((table : Listings E) × (is : IsTableIn domain.Reads domain.word_in spec base image bytes table) × (new ≤ old + length is.blocks))

    -- The same, where blocks may be left open: at most two were made for each address.
    abbrev pub IsOpenWorkOn : Spec → List ℕ → ℕ → ℕ → Type 0
    IsOpenWorkOn spec bytes old new =
        (new ≤ old)
        ⊎ ((table : Listings E) × (ends : Endings W) × (is : IsOpenTableIn domain.Reads domain.word_in spec base image bytes table ends) × (new ≤ old + (length is.blocks + length is.blocks)))

    -- From so many to so many, for a task.
    abbrev pub IsWork : Task → ℕ → ℕ → Type 0
    IsWork (analyse p) old new = new ≤ old + analysis_work p
    IsWork (analyse_open p) old new = new ≤ old + (analysis_work p + length p.addresses)
    IsWork (measure p) old new = new ≤ old + (analysis_work p + length p.addresses)
    IsWork (check p bytes) old new = IsWorkOn p.spec bytes old new
    IsWork (check_open p bytes) old new = IsOpenWorkOn p.spec bytes old new
    IsWork (convert spec bytes) old new = new ≤ old
    IsWork (slice p bytes at asked) old new = IsWorkOn p.spec bytes old new
    IsWork (slice_open p bytes at asked) old new = IsOpenWorkOn p.spec bytes old new
    IsWork (claims p bytes list) old new = IsWorkOn p.spec bytes old new
    IsWork (claims_open p bytes list) old new = IsOpenWorkOn p.spec bytes old new

-- the same over a base
abbrev pub WorkOf : Image → Task → BaseName → ℕ → ℕ → Type 0
WorkOf image task base = IsWork (domain_of (state_type (spec_of task)) base).domain image (base_text base) task
