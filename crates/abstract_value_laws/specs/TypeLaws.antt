-- What holds of types, shapes and the values of concrete ones.
use Rattle.std.specs.Prelude.{◌≡◌, ℕ, ◌^◌, ◌≤◌, Bool, true, nat_le, List, ◌↔◌}
use Rattle.std.specs.List.{list_all}
use Rattle.base_trait.specs.Algebra.{Algebra}
use Rattle.base_trait.specs.declared.uses.Stamp.{Stamp}
use Rattle.abstract_map_laws.specs.Laws.{HasRoom}
use Rattle.spec_ir.specs.declared.ty.Ty.{Ty}
use Rattle.spec_ir.specs.Environment.{Environment}
use Rattle.spec_ir.specs.WellFormed.{IsWellFormed, is_type}
use Rattle.semantics_values.specs.Types as concrete
use Rattle.semantics_values.specs.Types.{key_count}
use Rattle.semantics_values.specs.Values.{Val}
use Rattle.abstract_value_laws.specs.Abs.{Abs}
use Rattle.abstract_value_laws.specs.Calls.{join_of, widen_of}
use Rattle.abstract_value_laws.specs.Describes.{Describes}
use Rattle.abstract_value_laws.specs.Fits.{Fits}
use Rattle.abstract_value_laws.specs.Shapes.{HasShape, ListsStamps, Shape, rank_of}
use Rattle.abstract_value_laws.specs.Keys.{KeysFit}
use Rattle.abstract_value_laws.specs.OfValues.{ValueFits, of_value, stamps_of}
use Rattle.abstract_value_laws.specs.Ranks.{IsLeaf, leaf_rank, word_rank}
use Rattle.abstract_value_laws.specs.TypeShapes.{shape_of}
use Rattle.abstract_value_laws.specs.Types.{has_type}

-- whether map types have at most 2^32 keys
abbrev pub are_keyed : Environment → Bool
are_keyed env = list_all (λ m. nat_le (key_count env m.key) (2 ^ 32)) env.maps

-- A concrete value that has a type fits.
abbrev pub TypedFits : Type 0
TypedFits = (env : Environment) (v : Val) (ty : Ty) → IsWellFormed env → are_keyed env ≡ true → is_type env ty ≡ true → concrete.has_type env v ty ≡ true → ValueFits env v

module _ {W N C : Type 0} (B : Algebra W N C) where
  -- A value has a type where it has the type's shape.
  abbrev pub TypesAreShapes : Type 0
  TypesAreShapes = (env : Environment) (ty : Ty) (x : Abs W N) → IsWellFormed env → is_type env ty ≡ true → (has_type env x ty ≡ true) ↔ HasShape (shape_of env ty) x

  -- ---- joins and widenings keep a type
  abbrev pub JoinIsTyped : Type 0
  JoinIsTyped = (c : C) (cap : ℕ) (env : Environment) (ty : Ty) (x y : Abs W N) → IsWellFormed env → is_type env ty ≡ true
      → has_type env x ty ≡ true → has_type env y ty ≡ true → has_type env (join_of B c cap x y) ty ≡ true

  abbrev pub WidenIsTyped : Type 0
  WidenIsTyped = (c : C) (env : Environment) (ty : Ty) (old new : Abs W N) → IsWellFormed env → is_type env ty ≡ true
      → has_type env old ty ≡ true → has_type env new ty ≡ true → has_type env (widen_of B c old new) ty ≡ true

  -- ---- the value of a concrete one describes it, in each valuation; it fits, has the same types, and lists its stamps alone
  abbrev pub ValueDescribes : Type 0
  ValueDescribes = (c : C) (cap : ℕ) (env : Environment) (valuation : List ℕ) (v : Val) → ValueFits env v → Describes B valuation (of_value B c cap env v) v

  abbrev pub ValueIsFit : Type 0
  ValueIsFit = (c : C) (cap : ℕ) (env : Environment) (v : Val) → HasRoom B cap → ValueFits env v → Fits B c cap (of_value B c cap env v)

  abbrev pub ValueIsTyped : Type 0
  ValueIsTyped = (c : C) (cap : ℕ) (env : Environment) (v : Val) (ty : Ty) → concrete.has_type env v ty ≡ true → has_type env (of_value B c cap env v) ty ≡ true

  abbrev pub ValueLists : Type 0
  ValueLists = (c : C) (cap : ℕ) (env : Environment) (v : Val) → ListsStamps B (stamps_of v) (of_value B c cap env v)

  -- ---- maps list keys of their map types alone
  abbrev pub JoinKeysFit : Type 0
  JoinKeysFit = (c : C) (cap : ℕ) (env : Environment) (x y : Abs W N) → KeysFit env x → KeysFit env y → KeysFit env (join_of B c cap x y)

  abbrev pub WidenKeysFit : Type 0
  WidenKeysFit = (c : C) (env : Environment) (old new : Abs W N) → KeysFit env old → KeysFit env new → KeysFit env (widen_of B c old new)

  abbrev pub ValueKeysFit : Type 0
  ValueKeysFit = (c : C) (cap : ℕ) (env : Environment) (v : Val) (ty : Ty) → concrete.has_type env v ty ≡ true → KeysFit env (of_value B c cap env v)

  -- ---- notes that are counted add to the rank
  abbrev pub NotesAdd : Type 0
  NotesAdd = (c : C) (cap : ℕ) (stamps : List Stamp) (s : Shape) (x : Abs W N) → word_rank B cap c s x ≤ rank_of B cap c stamps s x

  abbrev pub LeafRanks : Type 0
  LeafRanks = (c : C) (cap : ℕ) (s : Shape) (x : Abs W N) → IsLeaf x → HasShape s x → word_rank B cap c s x ≡ leaf_rank B c x
