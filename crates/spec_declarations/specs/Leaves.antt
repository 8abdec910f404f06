-- Datatypes that contain themselves, and leaves.
use Rattle.std.specs.Prelude.{◌≡◌, ℕ, ◌+◌, ◌<◌, Bool, true, Option, Some, None, List, [], ◌∷◌, filter_map, map, slice_get, length, ◌↔◌}
use Rattle.std.specs.List.{flat_map}
use Rattle.syntax_parser.specs.Tree as e
use Rattle.syntax_parser.specs.Tree.{Item, Datatype}
use Rattle.support_reachability.specs.Graph.{Reaches}
use Rattle.spec_ir.specs.declared.ty.Ty.TheVariants.{Bool as Flag, Word, Data as DataTy, Map as MapOf}
use Rattle.spec_declarations.specs.declared.type_names.Meaning.{Meaning}
use Rattle.spec_declarations.specs.declared.type_names.Meaning.TheVariants.{Known, BadWidth, Unknown}
use Rattle.spec_declarations.specs.TypeNames.{TypeTable, types_of, type_named}

-- how many leaves a datatype may have
abbrev pub most_leaves : ℕ
most_leaves = 8192

-- one more: where a count of leaves stops
abbrev pub past_leaves : ℕ
past_leaves = 8193

-- the datatypes in the order of declaration
abbrev pub datatypes : List Item → List Datatype
datatypes [] = []
datatypes (e.datatype d ∷ items) = d ∷ datatypes items
datatypes (e.map_type m ∷ items) = datatypes items
datatypes (e.function f ∷ items) = datatypes items
datatypes (e.decode x ∷ items) = datatypes items

-- the constructors of a datatype, each by what the types of its fields mean
abbrev pub Made : Type 0
Made = List (List Meaning)

abbrev pub made : TypeTable → Datatype → Made
made types d = map (λ c. map (λ f. type_named types f.ty.text) c.fields) d.cases

abbrev pub all_made : List Item → List Made
all_made items = map (made (types_of items)) (datatypes items)

-- the number of a datatype
abbrev pub data_number : Meaning → Option ℕ
data_number (Known Flag) = None
data_number (Known (Word w)) = None
data_number (Known (DataTy d)) = Some d
data_number (Known (MapOf m)) = None
data_number BadWidth = None
data_number Unknown = None

-- the datatypes that are types of fields of a datatype
abbrev pub held : Made → List ℕ
held cases = flat_map (filter_map data_number) cases

-- datatypes by their numbers
module _ (datas : List Made) where
  -- A datatype that contains itself: a path of fields leads from it back to it.
  abbrev pub IsRecursive : ℕ → Type 0
  IsRecursive d = Reaches (map held datas) d d

  mutual
    -- The leaves of a datatype: one for each constructor, and those of all fields. It has none where
    -- it contains, directly or through others, itself, one that does, or a field of an unknown type.
    pub data LeavesOf : ℕ → ℕ → Type 0 where
      data_leaves : {d n : ℕ} (cases : Made) → slice_get datas d ≡ Some cases → CaseLeaves cases n → LeavesOf d n

    pub data CaseLeaves : Made → ℕ → Type 0 where
      no_cases : CaseLeaves [] 0
      next_case : {c : List Meaning} {cs : Made} {m n : ℕ} → FieldLeaves c m → CaseLeaves cs n → CaseLeaves (c ∷ cs) (1 + m + n)

    pub data FieldLeaves : List Meaning → ℕ → Type 0 where
      no_fields : FieldLeaves [] 0
      next_field : {f : Meaning} {fs : List Meaning} {m n : ℕ} → TypeLeaves f m → FieldLeaves fs n → FieldLeaves (f ∷ fs) (m + n)

    pub data TypeLeaves : Meaning → ℕ → Type 0 where
      flag_leaf : TypeLeaves (Known Flag) 1
      word_leaf : {w : ℕ} → TypeLeaves (Known (Word w)) 1
      map_leaf : {m : ℕ} → TypeLeaves (Known (MapOf m)) 1
      width_leaf : TypeLeaves BadWidth 1
      data_leaf : {d n : ℕ} → LeavesOf d n → TypeLeaves (Known (DataTy d)) n

  -- A datatype past the limit of leaves.
  abbrev pub IsLarge : ℕ → Type 0
  IsLarge d = (n : ℕ) × LeavesOf d n × (most_leaves < n)

  -- What is known of each datatype: whether it contains itself, and whether it has too many leaves.
  pub record IsKnown (recursive large : List Bool) : Type 0 where
    pub recursive_length : length recursive ≡ length datas
    pub large_length : length large ≡ length datas
    pub recursive_is : (d : ℕ) (b : Bool) → slice_get recursive d ≡ Some b → (b ≡ true) ↔ IsRecursive d
    pub large_is : (d : ℕ) (b : Bool) → slice_get large d ≡ Some b → (b ≡ true) ↔ IsLarge d
