-- In a state that an entry describes each cell has the entry's stamp.
use Rattle.std.proofs.Common.{◌≡◌, ◌∙◌, ℕ, suc, ◌<◌, ◌≤◌, true, false, List, [], ◌∷◌, Option, Some, None, map as map_of, refl, sym, ap, subst, arith}
use Rattle.std.specs.Prelude.{◌==◌, ◌&&◌, nat_le, nat_lt, slice_get, if◌then◌else◌}
use Rattle.std.specs.List.{list_all}
use Rattle.std.proofs.lemmas.Bool.Decides.{nat_tests}
use Rattle.base_trait.specs.declared.uses.Stamp.{Stamp}
use Rattle.base_trait.specs.declared.uses.Stamp.TheVariants.{Entry}
use Rattle.base_trait.proofs.Tests.{and_parts}
use Rattle.spec_ir.specs.declared.ty.Ty.{Ty}
use Rattle.spec_ir.specs.declared.ty.Ty.TheVariants as ty
use Rattle.spec_ir.specs.declared.declared.MapType.{MapType}
use Rattle.spec_ir.specs.Environment.{Environment}
use Rattle.semantics_values.specs.declared.entry.Line.{Line}
use Rattle.semantics_values.specs.declared.value.Cell.{Cell}
use Rattle.semantics_values.specs.States.{State}
use Rattle.semantics_values.specs.Types.{have_types, has_type, key_count, keys_ascend, cell_fits, listed_fits, map_fits}
use Rattle.semantics_values.specs.Values as v
use Rattle.semantics_values.specs.Values.{Val, cell_at, vals}
use Rattle.semantics.specs.Entries.{AreEntryFields, IsEntryField, IsEntryMapOf, IsEntryState}
use Rattle.analysis_query_laws.specs.Restamped.{restamped, restamped_entry, restamped_state}

module _ (f : Stamp → Stamp) (entry : f Entry ≡ Entry) where
  stamp_stays : (s : Stamp) → s ≡ Entry → f s ≡ s
  stamp_stays s e = ap f e ∙ entry ∙ sym e

  cell_here : (rest : Cell) (c : ℕ × Cell) (cells : List (ℕ × Cell)) → cell_at rest (c ∷ cells) c.0 ≡ c.1
  cell_here rest c cells = let same : (c.0 == c.0) ≡ true = grind (arith, nat_tests) in ap (λ b. if b then c.1 else cell_at rest cells c.0) same

  cell_behind : (rest : Cell) (c : ℕ × Cell) (cells : List (ℕ × Cell)) (k : ℕ) → suc c.0 ≤ k → cell_at rest (c ∷ cells) k ≡ cell_at rest cells k
  cell_behind rest c cells k h = let other : (c.0 == k) ≡ false = differs c.0 k h in ap (λ b. if b then c.1 else cell_at rest cells k) other
    where
      differs : (i j : ℕ) → suc i ≤ j → (i == j) ≡ false
      differs i j h = grind (arith, nat_tests)

  cells_stay : (count w low : ℕ) (rest : Cell) (cells : List (ℕ × Cell)) → keys_ascend low cells ≡ true → list_all (listed_fits count w) cells ≡ true
      → ((k : ℕ) → low ≤ k → k < count → (cell_at rest cells k).stamp ≡ Entry) → map_of (restamped_entry f) cells ≡ cells
  cells_stay count w low rest [] ascend fit h = refl
  cells_stay count w low rest (c ∷ cells) ascend fit h =
      let keys = and_parts (nat_le low c.0) (keys_ascend (suc c.0) cells) ascend in
      let fits = and_parts (listed_fits count w c) (list_all (listed_fits count w) cells) fit in
      let key = (and_parts (nat_lt c.0 count) (cell_fits w c.1) fits.0).0 in
      let from : low ≤ c.0 = grind (arith, nat_tests, keys.0) in
      let below : c.0 < count = grind (arith, nat_tests, key) in
      let here : c.1.stamp ≡ Entry = subst (λ x. x.stamp ≡ Entry) (cell_here rest c cells) (h c.0 from below) in
      let later = cells_stay count w (suc c.0) rest cells keys.1 fits.1 (λ k le lt. subst (λ x. x.stamp ≡ Entry) (cell_behind rest c cells k le) (h k (omega (arith, le, from)) lt)) in
      ap (λ s. (c.0, record { v = c.1.v; stamp = s }) ∷ map_of (restamped_entry f) cells) (stamp_stays c.1.stamp here) ∙ ap (λ es. c ∷ es) later

  module _ (env : Environment) (lines : List Line) where
    map_stays : (field m : ℕ) (o : Option MapType) (rest : Cell) (cells : List (ℕ × Cell)) → map_fits env o rest cells ≡ true → IsEntryMapOf env lines field o rest cells
        → restamped f (v.map m rest cells) ≡ v.map m rest cells
    map_stays field m None rest cells typed is = absurd is
    map_stays field m (Some d) rest cells typed is =
        let p = and_parts (cell_fits d.width rest) (keys_ascend 0 cells && list_all (listed_fits (key_count env d.key) d.width) cells) typed in
        let q = and_parts (keys_ascend 0 cells) (list_all (listed_fits (key_count env d.key) d.width) cells) p.1 in
        let same = cells_stay (key_count env d.key) d.width 0 rest cells q.0 q.1 (λ k le lt. (is.each k lt).stamp) in
        ap (λ s. v.map m (record { v = rest.v; stamp = s }) (map_of (restamped_entry f) cells)) (stamp_stays rest.stamp is.others.stamp) ∙ ap (λ es. v.map m rest es) same

    field_stays : (field : ℕ) (t : Ty) (p : Val) → has_type env p t ≡ true → IsEntryField env lines field t p → restamped f p ≡ p
    field_stays field (ty.Word w) (v.word u x) typed is = refl
    field_stays field (ty.Map m) (v.map n rest cells) typed is =
        map_stays field n (slice_get env.maps m) rest cells (and_parts (n == m) (map_fits env (slice_get env.maps m) rest cells) typed).1 is.1
    field_stays field _ _ typed is = absurd is

    fields_stay : (field : ℕ) (types : List Ty) (ps : List Val) → have_types env (vals ps) types ≡ true → AreEntryFields env lines field types ps → map_of (restamped f) ps ≡ ps
    fields_stay field [] [] typed are = refl
    fields_stay field (t ∷ types) (p ∷ ps) typed are =
        let parts = and_parts (has_type env p t) (have_types env (vals ps) types) typed in
        ap (λ x. x ∷ map_of (restamped f) ps) (field_stays field t p parts.0 are.0) ∙ ap (λ xs. p ∷ xs) (fields_stay (suc field) types ps parts.1 are.1)
    fields_stay field _ _ typed are = absurd are

    pub entry_stays : (types : List Ty) (pc : ℕ) (s : State) → IsEntryState env types pc lines s → restamped_state f s ≡ s
    entry_stays types pc s is = ap (λ ps. record { pc = s.pc; parts = ps }) (fields_stay 1 types s.parts is.typed is.fields)
