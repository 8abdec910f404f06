-- A text is that of a table of which no block is left open, or is refused so.
use Rattle.std.proofs.Common.{◌≡◌, ◌∙◌, ◌⊎◌, ℕ, ◌<◌, List, None, Option, Some, true, false, arith, inl, inr, refl, sym, ap}
use Rattle.std.specs.Prelude.{IsSome}
use Rattle.std.proofs.lemmas.Bool.{cases_lt}
use Rattle.code_image.specs.Image.{Image}
use Rattle.spec_ir.specs.Specification.{Spec}
use Rattle.fixpoint_theory.specs.Table.{Listings}
use Rattle.fixpoint_open_tables.specs.Endings.{Endings}
use Rattle.text_faults.specs.declared.table_error.TableError.{TableError}
use Rattle.text_table_reader.specs.Tables.{IsErrorIn, IsOpenTableIn, IsTableIn}
use Rattle.text_table_reader.specs.Readings.{IsFirstOpen}
use Rattle.text_table_reader.proofs.Errors.{errors_are_one, open_tables_are_alike, open_tables_have_no_error, open_tables_or_errors}
use Rattle.text_table_reader.proofs.FirstOpen.{closed_or_open}
use Rattle.program_common.specs.Outcome.{Refusal, rejected, table_refused}
use Rattle.program_common.specs.declared.rejection.Rejection.TheVariants as r
use Rattle.program_domains.specs.Domains.{DomainOf}
use Rattle.program_domains.specs.Refusals.{IsRefused, faulty, left_open}
use Rattle.program_domains.proofs.Lawful.{IsLawful}

none_or_some : {X : Type 0} (o : Option X) → o ≡ None → IsSome o → ⊥
none_or_some None e some = let bad : false ≡ true = some in cc
none_or_some (Some x) e some = cc

-- there is one first address
module _ {W : Type 0} (ends others : Endings W) (same : (a : ℕ) → ends a ≡ others a) where
  first_is_one : (at other : ℕ) → IsFirstOpen ends at → IsFirstOpen others other → at ≡ other
  first_is_one at other h k =
      elim (cases_lt at other) [
        | inl below ↦ absurd (none_or_some (ends at) (same at ∙ k.least at below) h.is_open)
        | inr not_below ↦
            elim (cases_lt other at) [
              | inl above ↦ absurd (none_or_some (others other) (sym (same other) ∙ h.least other above) k.is_open)
              | inr not_above ↦ omega arith
            ]
      ]

module _ {E W N C : Type 0} (domain : DomainOf E W N C) (spec : Spec) (lawful : IsLawful domain spec) (image : Image) (base bytes : List ℕ) where
  pub refusals_are_one : (x y : Refusal) → IsRefused domain spec image base bytes x → IsRefused domain spec image base bytes y → x ≡ y
  refusals_are_one x y (faulty {error = e} h) (faulty {error = f} k) = ap (λ (z : TableError). table_refused z) (errors_are_one domain.Reads domain.word_in domain.elements spec lawful.reads base image bytes e f h k)
  refusals_are_one x y (faulty {error = e} h) (left_open u others k first) = absurd (open_tables_have_no_error domain.Reads domain.word_in domain.elements spec lawful.reads base image bytes u others e k h)
  refusals_are_one x y (left_open t ends h first) (faulty {error = f} k) = absurd (open_tables_have_no_error domain.Reads domain.word_in domain.elements spec lawful.reads base image bytes t ends f h k)
  refusals_are_one x y (left_open {at = a} t ends h first) (left_open {at = c} u others k second) =
      let alike = open_tables_are_alike domain.Reads domain.word_in domain.elements spec lawful.reads base image bytes t u ends others h k in
      ap (λ (n : ℕ). rejected (r.Targets n)) (first_is_one ends others alike.1 a c first second)

  pub tables_are_not_refused : (t : Listings E) (x : Refusal) → IsTableIn domain.Reads domain.word_in spec base image bytes t → IsRefused domain spec image base bytes x → ⊥
  tables_are_not_refused t x h (faulty {error = e} k) = open_tables_have_no_error domain.Reads domain.word_in domain.elements spec lawful.reads base image bytes t (λ a. None) e h k
  tables_are_not_refused t x h (left_open {at = a} u ends k first) =
      let alike = open_tables_are_alike domain.Reads domain.word_in domain.elements spec lawful.reads base image bytes t u (λ a. None) ends h k in
      none_or_some (ends a) (sym (alike.1 a)) first.is_open

  -- one of both stands
  abbrev pub IsReadOrRefused : Type 0
  IsReadOrRefused = ((t : Listings E) × IsTableIn domain.Reads domain.word_in spec base image bytes t) ⊎ ((x : Refusal) × IsRefused domain spec image base bytes x)

  by_reading : ((t : Listings E) × (ends : Endings W) × IsOpenTableIn domain.Reads domain.word_in spec base image bytes t ends) ⊎ ((error : TableError) × IsErrorIn domain.Reads domain.word_in spec base image bytes error)
      → IsReadOrRefused
  by_reading (inr (error, is)) = inr (table_refused error, faulty is)
  by_reading (inl (t, ends, is)) = by_endings (closed_or_open domain.Reads domain.word_in spec base image bytes t ends is)
    where
      by_endings : IsTableIn domain.Reads domain.word_in spec base image bytes t ⊎ ((at : ℕ) × IsFirstOpen ends at) → IsReadOrRefused
      by_endings (inl closed) = inl (t, closed)
      by_endings (inr (at, first)) = inr (rejected (r.Targets at), left_open t ends is first)

  pub read_or_refused : IsReadOrRefused
  read_or_refused = by_reading (open_tables_or_errors domain.Reads domain.word_in domain.elements spec lawful.reads base image bytes)
