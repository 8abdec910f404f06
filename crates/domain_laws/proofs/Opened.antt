-- Opening, closing, and ranks of words alone.
use Rattle.std.proofs.Common.{ℕ, ◌<◌, ◌≤◌, List, [], ◌∷◌, refl, arith}
use Rattle.std.specs.Prelude.{◌^◌}
use Rattle.word_operations.specs.Width.{IsWidth}
use Rattle.base_trait.specs.Algebra.{Algebra}
use Rattle.base_trait.specs.Laws.{Laws}
use Rattle.base_trait.specs.declared.uses.Stamp.{Stamp}
use Rattle.semantics_values.specs.States.{State, value_of}
use Rattle.semantics_values.specs.Values.{vals}
use Rattle.abstract_value_laws.specs.Abs.{Abs, Parts, word, made, map, no_case, present, no_part, part}
use Rattle.abstract_value_laws.specs.Describes.{Describes, PartsDescribe}
use Rattle.abstract_value_laws.specs.Shapes.{ListsStamps, PartsList, maps, parts_rank, rank_of}
use Rattle.abstract_value_laws.specs.Ranks.{leaf_rank}
use Rattle.abstract_value_laws.proofs.Noted.{notes_add}
use Rattle.domain_laws.specs.declared.field.Field.{Field}
use Rattle.domain_laws.specs.declared.field.Field.TheVariants as field
use Rattle.domain_laws.specs.States.{StateType}
use Rattle.domain_laws.specs.Values.{AreOf, FieldsFit, IsOf, IsStateForm, IsStateValue}
use Rattle.domain_laws.specs.Calls.{fields_of, made_state, values_rank}
use Rattle.domain_laws.specs.Cells.{shape_of, shapes_of}

pub width_32 : IsWidth 32
width_32 = (omega arith, omega arith)

module _ {W N C : Type 0} (B : Algebra W N C) (L : Laws W N C B) (c : C) (cap : ℕ) where
  -- ---- opening
  pub opened_fits : (t : StateType) (pc : ℕ) (x : Parts W N) → pc < 2 ^ 32 → FieldsFit B c cap t.fields x → IsStateValue B c cap t (made_state t.number (B.words.constant c 32 pc) x)
  opened_fits t pc x lt fit = ((refl, refl, fit.0), (((width_32, L.words.constant_fits c 32 pc width_32 lt), fit.1), tt))

  pub opened_lists : (stamps : List Stamp) (number : ℕ) (k : W) (x : Parts W N) → PartsList B stamps x → ListsStamps B stamps (made_state number k x)
  opened_lists stamps number k x h = ((tt, h), tt)

  pub opened_describes : (number : ℕ) (x : Parts W N) (s : State) → s.pc < 2 ^ 32 → PartsDescribe B [] x (vals s.parts) → Describes B [] (made_state number (B.words.constant c 32 s.pc) x) (value_of number s)
  opened_describes number x s lt h = (refl, ((refl, L.words.constant_sound c [] 32 s.pc width_32 lt), h))

  -- ---- closing
  pub closed_fits : (t : StateType) (x : Abs W N) → IsStateValue B c cap t x → FieldsFit B c cap t.fields (fields_of x)
  closed_fits t (made ty (present (part (word w k) xs) no_case)) h = (h.0.2, h.1.0.1)
  closed_fits t _ h = absurd h.0

  pub closed_lists : (stamps : List Stamp) (t : StateType) (x : Abs W N) → IsStateForm t x → ListsStamps B stamps x → PartsList B stamps (fields_of x)
  closed_lists stamps t (made ty (present (part (word w k) xs) no_case)) h l = l.0.1
  closed_lists stamps t _ h l = absurd h

  pub closed_describes : (t : StateType) (x : Abs W N) (s : State) → IsStateForm t x → Describes B [] x (value_of t.number s) → PartsDescribe B [] (fields_of x) (vals s.parts)
  closed_describes t (made ty (present (part (word w k) xs) no_case)) s h d = d.1.1
  closed_describes t _ s h d = absurd h

  -- ---- ranks of words alone are no greater
  module _ (stamps : List Stamp) where
    value_least : (f : Field) (x : Abs W N) → IsOf f x → leaf_rank B c x ≤ rank_of B cap c stamps (shape_of f) x
    value_least (field.Word w) (word u x) h = omega arith
    value_least (field.Map m bound width default) (map n x) h = notes_add B c cap stamps (maps m width) (map n x)
    value_least _ _ h = absurd h

    pub values_least : (fields : List Field) (xs : Parts W N) → AreOf fields xs → values_rank B c xs ≤ parts_rank B cap c stamps (shapes_of fields) xs
    values_least [] no_part h = omega arith
    values_least (f ∷ fields) (part x xs) h = let here = value_least f x h.0 in let later = values_least fields xs h.1 in omega (arith, here, later)
    values_least _ _ h = absurd h
