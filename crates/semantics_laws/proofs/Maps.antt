-- Reads and changes of maps.
use Rattle.std.proofs.Common.{◌≡◌, ℕ, suc, ◌^◌, ◌≤◌, ◌&&◌, Bool, true, false, cond, ◌==◌, Option, Some, None, option_map, List, [], ◌∷◌, length, slice_get, refl, sym, ap, subst, arith}
use Rattle.std.specs.Prelude.{nat_le, nat_lt}
use Rattle.std.specs.List.{list_all}
use Rattle.std.proofs.lemmas.Bool.{false≢true, eqb-true as same_number, lt-ltb as less_is, ltb-true as is_less, le-leb as at_most_is}
use Rattle.std.proofs.lemmas.Bool.Decides.{nat_tests}
use Rattle.std.proofs.lemmas.Option.{slice_get_within}
use Rattle.base_trait.specs.Uses.{Read}
use Rattle.spec_match_compiler.proofs.Truth.{and_left, and_right, both, equal_itself}
use Rattle.spec_ir.specs.declared.ty.Ty.{Ty}
use Rattle.spec_ir.specs.declared.ty.Ty.TheVariants.{Bool as Flag, Word, Data as DataTy, Map as MapOf}
use Rattle.spec_ir.specs.declared.declared.MapType.{MapType}
use Rattle.spec_ir.specs.Environment.{Environment, Data, Case, field_types, key_type, value_type, key_of as type_of_key, value_of}
use Rattle.spec_ir.specs.Texts.{cases_of}
use Rattle.spec_ir.specs.WellFormed.{is_width}
use Rattle.spec_ir.proofs.Lists.{all_at}
use Rattle.semantics_values.specs.declared.value.Cell.{Cell}
use Rattle.semantics_values.specs.Values as v
use Rattle.semantics_values.specs.Values.{Val, Vals, cell_at, put_cell}
use Rattle.semantics_values.specs.Types.{key_count, keys_ascend, cell_fits, listed_fits, of_case, map_fits, have_types}
use Rattle.semantics.specs.Steps.{number, key_of, read_at, accessed, stamped, updated}
use Rattle.semantics_laws.specs.Accepted.{is_enumeration, is_key_type, is_map}
use Rattle.semantics_laws.specs.Typed.{is_read}
use Rattle.semantics_laws.proofs.Values.{IsOf, There, number_there, word_of}

-- ---- cells

pub cell_at_fits : (keys w : ℕ) (rest : Cell) (cells : List (ℕ × Cell)) (k : ℕ) → cell_fits w rest ≡ true → list_all (listed_fits keys w) cells ≡ true → cell_fits w (cell_at rest cells k) ≡ true
cell_at_fits keys w rest [] k h l = h
cell_at_fits keys w rest (c ∷ cells) k h l =
    at (c.0 == k) (and_right (nat_lt c.0 keys) (cell_fits w c.1) (and_left (listed_fits keys w c) (list_all (listed_fits keys w) cells) l))
    (cell_at_fits keys w rest cells k h (and_right (listed_fits keys w c) (list_all (listed_fits keys w) cells) l))
  where
    at : (b : Bool) → cell_fits w c.1 ≡ true → cell_fits w (cell_at rest cells k) ≡ true → cell_fits w (cond b c.1 (cell_at rest cells k)) ≡ true
    at true here later = here
    at false here later = later

pub put_ascends : (least k : ℕ) (cell : Cell) (cells : List (ℕ × Cell)) → least ≤ k → keys_ascend least cells ≡ true → keys_ascend least (put_cell k cell cells) ≡ true
put_ascends least k cell [] le h = both (nat_le least k) true (at_most_is least k le) refl
put_ascends least k cell (c ∷ cells) le h = at (c.0 == k) refl (nat_lt k c.0) refl (λ g. put_ascends (suc c.0) k cell cells g later)
  where
    later : keys_ascend (suc c.0) cells ≡ true
    later = and_right (nat_le least c.0) (keys_ascend (suc c.0) cells) h

    at : (b : Bool) → (c.0 == k) ≡ b → (before : Bool) → nat_lt k c.0 ≡ before → (suc c.0 ≤ k → keys_ascend (suc c.0) (put_cell k cell cells) ≡ true)
        → keys_ascend least (cond b ((k, cell) ∷ cells) (cond before ((k, cell) ∷ c ∷ cells) (c ∷ put_cell k cell cells))) ≡ true
    at true e before f go = both (nat_le least k) (keys_ascend (suc k) cells) (at_most_is least k le) (subst (λ n. keys_ascend (suc n) cells ≡ true) (same_number c.0 k e) later)
    at false e true f go =
        let lt = is_less k c.0 f in
        both (nat_le least k) (keys_ascend (suc k) (c ∷ cells)) (at_most_is least k le) (both (nat_le (suc k) c.0) (keys_ascend (suc c.0) cells) (at_most_is (suc k) c.0 (omega (arith, lt))) later)
    at false e false f go =
        let past : suc c.0 ≤ k = grind (arith, nat_tests) in
        both (nat_le least c.0) (keys_ascend (suc c.0) (put_cell k cell cells)) (and_left (nat_le least c.0) (keys_ascend (suc c.0) cells) h) (go past)

put_listed : (keys w k : ℕ) (cell : Cell) (cells : List (ℕ × Cell)) → listed_fits keys w (k, cell) ≡ true → list_all (listed_fits keys w) cells ≡ true → list_all (listed_fits keys w) (put_cell k cell cells) ≡ true
put_listed keys w k cell [] here h = both (listed_fits keys w (k, cell)) true here refl
put_listed keys w k cell (c ∷ cells) here h = at (c.0 == k) (nat_lt k c.0) (put_listed keys w k cell cells here later)
  where
    later : list_all (listed_fits keys w) cells ≡ true
    later = and_right (listed_fits keys w c) (list_all (listed_fits keys w) cells) h

    at : (b before : Bool) → list_all (listed_fits keys w) (put_cell k cell cells) ≡ true
        → list_all (listed_fits keys w) (cond b ((k, cell) ∷ cells) (cond before ((k, cell) ∷ c ∷ cells) (c ∷ put_cell k cell cells))) ≡ true
    at true before go = both (listed_fits keys w (k, cell)) (list_all (listed_fits keys w) cells) here later
    at false true go = both (listed_fits keys w (k, cell)) (list_all (listed_fits keys w) (c ∷ cells)) here h
    at false false go = both (listed_fits keys w c) (list_all (listed_fits keys w) (put_cell k cell cells)) (and_left (listed_fits keys w c) (list_all (listed_fits keys w) cells) h) go

-- what a read and a change give, by the parts of the map, the map type and the key
accessed_is : (maps : List MapType) (m : ℕ) (p q : Val) (rest : Cell) (cells : List (ℕ × Cell)) (d : MapType) (k : ℕ) → p ≡ v.map m rest cells → slice_get maps m ≡ Some d → key_of q ≡ Some k
    → accessed maps m p q ≡ Some (read_at maps m d.width k (cell_at rest cells k))
accessed_is maps m p q rest cells d k is e h = rw (is, equal_itself m, e, h) refl

updated_is : (maps : List MapType) (a m : ℕ) (p q r : Val) (rest : Cell) (cells : List (ℕ × Cell)) (d : MapType) (k x : ℕ) → p ≡ v.map m rest cells → slice_get maps m ≡ Some d → key_of q ≡ Some k → number d.width r ≡ Some x
    → updated maps a m p q r ≡ Some (v.map m rest (put_cell k (stamped maps a x) cells))
updated_is maps a m p q r rest cells d k x is e h n = rw (is, equal_itself m, e, h) (ap (λ z. option_map (λ y. v.map m rest (put_cell k (stamped maps a y) cells)) z) n)

module _ (env : Environment) where
  -- ---- keys
  -- the number of a key
  pub record KeyThere (ty : Ty) (q : Val) : Type 0 where
    pub k : ℕ
    pub is : key_of q ≡ Some k
    pub below : nat_lt k (key_count env ty) ≡ true

  no_fields : (c : Case) → nat_le (length c.fields) 0 ≡ true → field_types c ≡ []
  no_fields c h = at c.fields h
    where
      at : (fields : List (List ℕ × Ty)) → nat_le (length fields) 0 ≡ true → field_types (record { name = c.name; fields = fields }) ≡ []
      at [] h = refl
      at (f ∷ fields) h = absurd (grind (arith, nat_tests))

  none_have : (ps : Vals) → have_types env ps [] ≡ true → ps ≡ v.no_val
  none_have v.no_val h = refl
  none_have (v.val_then p ps) h = absurd (false≢true h)

  made_key : (t s c : ℕ) (ps : Vals) (o : Option Data) → slice_get env.datas t ≡ o → is_enumeration o ≡ true → (x : Option Case) → slice_get (cases_of o) c ≡ x → of_case x (have_types env ps) ≡ true
      → nat_lt c (length (cases_of o)) ≡ true → KeyThere (DataTy t) (v.made s c ps)
  made_key t s c ps None e h x f g l = absurd (false≢true h)
  made_key t s c ps (Some d) e h None f g l = absurd (false≢true g)
  made_key t s c ps (Some d) e h (Some case) f g l =
      let none = no_fields case (all_at (λ c. nat_le (length c.fields) 0) d.cases c case h f) in
      let empty = none_have ps (subst (λ ts. have_types env ps ts ≡ true) none g) in
      record {
        k = c;
        is = ap (λ z. key_of (v.made s c z)) empty;
        below = subst (λ o. nat_lt c (length (cases_of o)) ≡ true) (sym e) l;
      }

  case_within : (o : Option Data) (c : ℕ) (x : Option Case) (ps : Vals) → slice_get (cases_of o) c ≡ x → of_case x (have_types env ps) ≡ true → nat_lt c (length (cases_of o)) ≡ true
  case_within o c None ps e h = absurd (false≢true h)
  case_within o c (Some case) ps e h = less_is c (length (cases_of o)) (slice_get_within (cases_of o) c case e)

  word_key : (w : ℕ) (q : Val) → IsOf env (Word w) q → KeyThere (Word w) q
  word_key w (v.word u k) h = record { k = k; is = refl; below = and_right (u == w) (nat_lt k (2 ^ w)) h.has }
  word_key w (v.flag b) h = absurd (false≢true h.has)
  word_key w (v.made ty c ps) h = absurd (false≢true h.has)
  word_key w (v.map m rest cells) h = absurd (false≢true h.has)

  data_key : (t : ℕ) (q : Val) → is_enumeration (slice_get env.datas t) ≡ true → IsOf env (DataTy t) q → KeyThere (DataTy t) q
  data_key t (v.made s c ps) h k =
      let there = and_right (s == t) (of_case (slice_get (cases_of (slice_get env.datas t)) c) (have_types env ps)) k.has in
      made_key t s c ps (slice_get env.datas t) refl h (slice_get (cases_of (slice_get env.datas t)) c) refl there (case_within (slice_get env.datas t) c (slice_get (cases_of (slice_get env.datas t)) c) ps refl there)
  data_key t (v.flag b) h k = absurd (false≢true k.has)
  data_key t (v.word u x) h k = absurd (false≢true k.has)
  data_key t (v.map m rest cells) h k = absurd (false≢true k.has)

  pub key_there : (ty : Ty) (q : Val) → is_key_type env ty ≡ true → IsOf env ty q → KeyThere ty q
  key_there (Word w) q h k = word_key w q k
  key_there (DataTy t) q h k = data_key t q h k
  key_there Flag q h k = absurd (false≢true h)
  key_there (MapOf m) q h k = absurd (false≢true h)

  -- ---- maps
  pub record MapThere (m : ℕ) (p : Val) : Type 0 where
    pub rest : Cell
    pub cells : List (ℕ × Cell)
    pub is : p ≡ v.map m rest cells
    pub fits : map_fits env (slice_get env.maps m) rest cells ≡ true

  pub map_there : (m : ℕ) (p : Val) → IsOf env (MapOf m) p → MapThere m p
  map_there m (v.map n rest cells) h =
      let same = same_number n m (and_left (n == m) (map_fits env (slice_get env.maps m) rest cells) h.has) in
      record {
        rest = rest;
        cells = cells;
        is = ap (λ z. v.map z rest cells) same;
        fits = and_right (n == m) (map_fits env (slice_get env.maps m) rest cells) h.has;
      }
  map_there m (v.flag b) h = absurd (false≢true h.has)
  map_there m (v.word u x) h = absurd (false≢true h.has)
  map_there m (v.made ty c ps) h = absurd (false≢true h.has)

  -- a number that was read
  pub record ReadThere (ty : Ty) (o : Option (Val × Read)) : Type 0 where
    pub value : Val
    pub read : Read
    pub is : o ≡ Some (value, read)
    pub of : IsOf env ty value
    pub known : is_read env read ≡ true

  module _ (maps : list_all (is_map env) env.maps ≡ true) (m : ℕ) (d : MapType) (e : slice_get env.maps m ≡ Some d) where
    declared : is_map env d ≡ true
    declared = all_at (is_map env) env.maps m d maps e

    width : is_width d.width ≡ true
    width = and_left (is_width d.width) (nat_lt d.default (2 ^ d.width)) (and_right (is_key_type env d.key) (is_width d.width && nat_lt d.default (2 ^ d.width)) declared)

    key_is : is_key_type env d.key ≡ true
    key_is = and_left (is_key_type env d.key) (is_width d.width && nat_lt d.default (2 ^ d.width)) declared

    key_ty : key_type env m ≡ d.key
    key_ty = ap type_of_key e

    value_ty : value_type env m ≡ Word d.width
    value_ty = ap value_of e

    pub accessed_there : (p q : Val) → IsOf env (MapOf m) p → IsOf env (key_type env m) q → ReadThere (value_type env m) (accessed env.maps m p q)
    accessed_there p q h k =
        let a = map_there m p h in
        let fits = subst (λ o. map_fits env o a.rest a.cells ≡ true) e a.fits in
        let b = key_there d.key q key_is (subst (λ t. IsOf env t q) key_ty k) in
        let rest_fits = and_left (cell_fits d.width a.rest) (keys_ascend 0 a.cells && list_all (listed_fits (key_count env d.key) d.width) a.cells) fits in
        let cells_fit =
        and_right (keys_ascend 0 a.cells) (list_all (listed_fits (key_count env d.key) d.width) a.cells)
        (and_right (cell_fits d.width a.rest) (keys_ascend 0 a.cells && list_all (listed_fits (key_count env d.key) d.width) a.cells) fits) in
        let cell = cell_at a.rest a.cells b.k in
        let small = is_less cell.v (2 ^ d.width) (cell_at_fits (key_count env d.key) d.width a.rest a.cells b.k rest_fits cells_fit) in
        record {
          value = v.word d.width cell.v;
          read = record { of_map = m; key = b.k; stamp = cell.stamp };
          is = accessed_is env.maps m p q a.rest a.cells d b.k a.is e b.is;
          of = subst (λ t. IsOf env t (v.word d.width cell.v)) (sym value_ty) (word_of env d.width cell.v width small);
          known = both (nat_lt m (length env.maps)) (nat_lt b.k (key_count env (key_type env m))) (less_is m (length env.maps) (slice_get_within env.maps m d e)) (subst (λ t. nat_lt b.k (key_count env t) ≡ true) (sym key_ty) b.below);
        }

    pub updated_there : (a : ℕ) (p q r : Val) → IsOf env (MapOf m) p → IsOf env (key_type env m) q → IsOf env (value_type env m) r → There env (MapOf m) (updated env.maps a m p q r)
    updated_there a p q r h k g =
        let s = map_there m p h in
        let keys = key_count env d.key in
        let fits = subst (λ o. map_fits env o s.rest s.cells ≡ true) e s.fits in
        let b = key_there d.key q key_is (subst (λ t. IsOf env t q) key_ty k) in
        let n = number_there env d.width r (subst (λ t. IsOf env t r) value_ty g) in
        let rest_fits = and_left (cell_fits d.width s.rest) (keys_ascend 0 s.cells && list_all (listed_fits keys d.width) s.cells) fits in
        let listed = and_right (cell_fits d.width s.rest) (keys_ascend 0 s.cells && list_all (listed_fits keys d.width) s.cells) fits in
        let ascend = and_left (keys_ascend 0 s.cells) (list_all (listed_fits keys d.width) s.cells) listed in
        let cells_fit = and_right (keys_ascend 0 s.cells) (list_all (listed_fits keys d.width) s.cells) listed in
        let cell = stamped env.maps a n.x in
        let here = both (nat_lt b.k keys) (cell_fits d.width cell) b.below (less_is n.x (2 ^ d.width) n.below) in
        let after = put_cell b.k cell s.cells in
        let now : map_fits env (Some d) s.rest after ≡ true =
        both (cell_fits d.width s.rest) (keys_ascend 0 after && list_all (listed_fits keys d.width) after) rest_fits
        (both (keys_ascend 0 after) (list_all (listed_fits keys d.width) after) (put_ascends 0 b.k cell s.cells (omega arith) ascend) (put_listed keys d.width b.k cell s.cells here cells_fit)) in
        record {
          value = v.map m s.rest after;
          is = updated_is env.maps a m p q r s.rest s.cells d b.k n.x s.is e b.is n.number_is;
          of = record {
            has = both (m == m) (map_fits env (slice_get env.maps m) s.rest after) (equal_itself m) (subst (λ o. map_fits env o s.rest after ≡ true) (sym e) now);
            is = h.is;
          };
        }
