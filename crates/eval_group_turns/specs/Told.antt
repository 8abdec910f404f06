-- What the tests of arguments tell.
use Rattle.std.proofs.Common.{ℕ, ◌&&◌, List, [], ◌∷◌, length, refl, IsTrue, arith}
use Rattle.std.specs.Prelude.{◌==◌, nat_lt}
use Rattle.std.specs.List.{list_all}
use Rattle.std.proofs.lemmas.Bool.Decides.{nat_tests}
use Rattle.base_trait.specs.Algebra.{Algebra}
use Rattle.base_trait.specs.Laws.{Laws}
use Rattle.base_trait.specs.Lists.{AreAmong, Each}
use Rattle.base_trait.specs.Stamps.{is_listed}
use Rattle.base_trait.specs.declared.uses.Stamp.{Stamp}
use Rattle.base_trait.proofs.Stamps.{among_listed, listed_from}
use Rattle.base_trait.proofs.Tests.{and_both, and_parts}
use Rattle.abstract_map_laws.specs.declared.cell.AbstractCell.{AbstractCell}
use Rattle.abstract_map_laws.specs.Cells.{ListsOnly}
use Rattle.spec_ir.specs.declared.ty.Ty.{Ty}
use Rattle.spec_ir.specs.Specification.{Spec}
use Rattle.semantics_values.specs.Types.{environment_of}
use Rattle.semantics.specs.Direct.{group_of}
use Rattle.abstract_value_laws.specs.Abs.{Abs, Cases, Parts, flag, word, made, map, no_case, absent, present, no_part, part, parts}
use Rattle.abstract_value_laws.specs.Shapes.{CasesList, ListsStamps, PartsList}
use Rattle.abstract_value_laws.specs.Types.{have_types}
use Rattle.abstract_semantics.specs.Terms.{params_of}
use Rattle.abstract_semantics.proofs.Listed.{each_lists}
use Rattle.abstract_semantics.proofs.Plain.{are_given}
use Rattle.abstract_semantics.proofs.Termed.{ArgsOf}
use Rattle.abstract_semantics.specs.Tests.{parts_fit}
use Rattle.abstract_semantics.proofs.Tested.{parts_tell, parts_told}
use Rattle.abstract_semantics.proofs.Typed.{AreOf, are_fit, are_typed}
use Rattle.eval_group_turns.specs.Listing.{cases_list, cell_lists, parts_list, value_lists}
use Rattle.eval_group_turns.specs.Turning.{may_be_of}

module _ (stamps : List Stamp) where
  among_told : (xs : List Stamp) → IsTrue (list_all (is_listed stamps) xs) → AreAmong xs stamps
  among_told [] h = tt
  among_told (x ∷ xs) h = let k = and_parts (is_listed stamps x) (list_all (is_listed stamps) xs) h in (among_listed x stamps k.0, among_told xs k.1)

  among_tells : (xs : List Stamp) → AreAmong xs stamps → IsTrue (list_all (is_listed stamps) xs)
  among_tells [] h = refl
  among_tells (x ∷ xs) h = and_both (is_listed stamps x) (list_all (is_listed stamps) xs) (listed_from x stamps h.0) (among_tells xs h.1)

module _ {W N C : Type 0} (B : Algebra W N C) (stamps : List Stamp) where
  -- ---- stamps
  cells_told : (es : List (ℕ × AbstractCell W N)) → IsTrue (list_all (λ e. cell_lists B stamps e.1) es) → Each (λ e. ListsOnly B stamps e.1) es
  cells_told [] h = tt
  cells_told (e ∷ es) h = let k = and_parts (cell_lists B stamps e.1) (list_all (λ e. cell_lists B stamps e.1) es) h in (among_told stamps (B.notes.listed e.1.note) k.0, cells_told es k.1)

  cells_tell : (es : List (ℕ × AbstractCell W N)) → Each (λ e. ListsOnly B stamps e.1) es → IsTrue (list_all (λ e. cell_lists B stamps e.1) es)
  cells_tell [] h = refl
  cells_tell (e ∷ es) h = and_both (cell_lists B stamps e.1) (list_all (λ e. cell_lists B stamps e.1) es) (among_tells stamps (B.notes.listed e.1.note) h.0) (cells_tell es h.1)

  mutual
    lists_told : (x : Abs W N) → IsTrue (value_lists B stamps x) → ListsStamps B stamps x
    lists_told (flag t) h = tt
    lists_told (word w x) h = tt
    lists_told (made ty cs) h = cases_told cs h
    lists_told (map m x) h =
        let k = and_parts (cell_lists B stamps x.rest) (list_all (λ e. cell_lists B stamps e.1) x.cells) h in (among_told stamps (B.notes.listed x.rest.note) k.0, cells_told x.cells k.1)

    cases_told : (cs : Cases W N) → IsTrue (cases_list B stamps cs) → CasesList B stamps cs
    cases_told no_case h = tt
    cases_told (absent cs) h = cases_told cs h
    cases_told (present xs cs) h = let k = and_parts (parts_list B stamps xs) (cases_list B stamps cs) h in (list_told xs k.0, cases_told cs k.1)

    pub list_told : (xs : Parts W N) → IsTrue (parts_list B stamps xs) → PartsList B stamps xs
    list_told no_part h = tt
    list_told (part x xs) h = let k = and_parts (value_lists B stamps x) (parts_list B stamps xs) h in (lists_told x k.0, list_told xs k.1)

  mutual
    lists_tell : (x : Abs W N) → ListsStamps B stamps x → IsTrue (value_lists B stamps x)
    lists_tell (flag t) h = refl
    lists_tell (word w x) h = refl
    lists_tell (made ty cs) h = cases_tell cs h
    lists_tell (map m x) h = and_both (cell_lists B stamps x.rest) (list_all (λ e. cell_lists B stamps e.1) x.cells) (among_tells stamps (B.notes.listed x.rest.note) h.0) (cells_tell x.cells h.1)

    cases_tell : (cs : Cases W N) → CasesList B stamps cs → IsTrue (cases_list B stamps cs)
    cases_tell no_case h = refl
    cases_tell (absent cs) h = cases_tell cs h
    cases_tell (present xs cs) h = and_both (parts_list B stamps xs) (cases_list B stamps cs) (list_tells xs h.0) (cases_tell cs h.1)

    pub list_tells : (xs : Parts W N) → PartsList B stamps xs → IsTrue (parts_list B stamps xs)
    list_tells no_part h = refl
    list_tells (part x xs) h = and_both (value_lists B stamps x) (parts_list B stamps xs) (lists_tell x h.0) (list_tells xs h.1)

module _ {W N C : Type 0} (B : Algebra W N C) (laws : Laws W N C B) (c : C) (cap : ℕ) (spec : Spec) (a : ℕ) (stamps : List Stamp) (g : ℕ) where
  all_list : (ts : List Ty) (xs : List (Abs W N)) → AreOf B c cap (environment_of spec) (ListsStamps B stamps) ts xs → PartsList B stamps (parts xs)
  all_list [] [] h = tt
  all_list [] (x ∷ xs) h = absurd h
  all_list (t ∷ ts) [] h = absurd h
  all_list (t ∷ ts) (x ∷ xs) h = (h.0.also, all_list ts xs h.1)

  -- ---- a list passes the test where it is one of arguments of a function of the group
  pub list_is : (f : ℕ) (xs : List (Abs W N)) → IsTrue (may_be_of B c cap spec stamps g f xs) → ArgsOf B laws c cap spec a (ListsStamps B stamps) g f xs
  list_is f xs h =
      let types = have_types (environment_of spec) (parts xs) (params_of spec f) in
      let fit = parts_fit B c cap (parts xs) in
      let listed = parts_list B stamps (parts xs) in
      let p = and_parts (nat_lt f (length spec.funs)) (group_of spec f == g && (types && (fit && listed))) h in
      let q = and_parts (group_of spec f == g) (types && (fit && listed)) p.1 in
      let r = and_parts types (fit && listed) q.1 in
      let s = and_parts fit listed r.1 in
      record {
        there = (let lt = p.0 in grind (arith, nat_tests));
        of_group = (let same = q.0 in grind (arith, nat_tests));
        are = are_given B c cap (ListsStamps B stamps) (environment_of spec) (params_of spec f) xs r.0 (parts_told B laws c cap (parts xs) s.0)
            (each_lists B stamps xs (list_told B stamps (parts xs) s.1));
      }

  pub passes : (f : ℕ) (xs : List (Abs W N)) → ArgsOf B laws c cap spec a (ListsStamps B stamps) g f xs → IsTrue (may_be_of B c cap spec stamps g f xs)
  passes f xs h =
      let types = have_types (environment_of spec) (parts xs) (params_of spec f) in
      let fit = parts_fit B c cap (parts xs) in
      let listed = parts_list B stamps (parts xs) in
      let ts = params_of spec f in
      let lt = h.there in
      let same = h.of_group in
      and_both (nat_lt f (length spec.funs)) (group_of spec f == g && (types && (fit && listed))) (grind (arith, nat_tests))
      (and_both (group_of spec f == g) (types && (fit && listed)) (grind (arith, nat_tests))
      (and_both types (fit && listed) (are_typed B c cap (environment_of spec) (ListsStamps B stamps) ts xs h.are)
      (and_both fit listed (parts_tell B laws c cap (parts xs) (are_fit B c cap (environment_of spec) (ListsStamps B stamps) ts xs h.are))
      (list_tells B stamps (parts xs) (all_list ts xs h.are)))))
