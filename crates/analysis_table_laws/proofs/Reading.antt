-- What is read of maps of states is of cells of states.
use Rattle.std.proofs.Common.{◌≡◌, ℕ, ◌<◌, List, [], ◌∷◌, Option, sym, subst}
use Rattle.std.specs.Prelude.{Bool, IfSome}
use Rattle.base_trait.specs.Algebra.{Algebra}
use Rattle.base_trait.specs.Laws.{Laws}
use Rattle.base_trait.specs.Lists.{Each, IsAmong}
use Rattle.base_trait.specs.Uses.{Seen}
use Rattle.abstract_map_laws.specs.Calls.{access_of}
use Rattle.abstract_map_laws.specs.Keys.{Keys, one, some}
use Rattle.abstract_map_laws.specs.Maps.{Map}
use Rattle.spec_ir.specs.declared.ty.Ty.TheVariants.{Map as MapOf}
use Rattle.spec_ir.specs.Environment.{key_type}
use Rattle.spec_ir.specs.Specification.{Spec}
use Rattle.semantics_values.specs.Types.{environment_of, key_count}
use Rattle.abstract_semantics.specs.Keys.{named_key}
use Rattle.abstract_semantics.proofs.Keyed.{IsBelow}
use Rattle.domain_laws.specs.States.{state_types}
use Rattle.analysis_transfer_laws.proofs.LoggedTerms.{ReadsAre}
use Rattle.analysis_table_laws.specs.Notes.{HasStamps, NotesKeep}
use Rattle.analysis_table_laws.specs.Tables.{IsUseOf}
use Rattle.analysis_table_laws.specs.Values.{MapHasNotes, MapsAre}
use Rattle.analysis_table_laws.proofs.Maps.{accessed_noted}

-- a map that is a field, whose notes have a property
abbrev pub IsFieldMap : {W N : Type 0} → Spec → (N → Type 0) → ℕ → Map W N → Type 0
IsFieldMap spec F m x = IsAmong (MapOf m) (state_types spec) × MapHasNotes F m x

named_below : (n : ℕ) (ks : Keys) → IsBelow n ks → IfSome (named_key ks) (λ k. k < n)
named_below n (one k) h = h
named_below n (some ks all) h = tt

module _ (spec : Spec) (m : ℕ) (key : Option ℕ) (field : IsAmong (MapOf m) (state_types spec)) (below : IfSome key (λ k. k < key_count (environment_of spec) (key_type (environment_of spec) m))) where
  use_of : (u : Seen) → (u.of_map ≡ m) × (u.key ≡ key) → HasStamps u → IsUseOf spec u
  use_of u named stamps = record {
    field = subst (λ n. IsAmong (MapOf n) (state_types spec)) (sym named.0) field;
    key = subst (λ n. IfSome u.key (λ k. k < key_count (environment_of spec) (key_type (environment_of spec) n))) (sym named.0)
        (subst (λ o. IfSome o (λ k. k < key_count (environment_of spec) (key_type (environment_of spec) m))) (sym named.1) below);
    stamps = stamps;
  }

  uses_of : (us : List Seen) → Each (λ u. (u.of_map ≡ m) × (u.key ≡ key)) us → Each HasStamps us → Each (IsUseOf spec) us
  uses_of [] h k = tt
  uses_of (u ∷ us) h k = (use_of u h.0 k.0, uses_of us h.1 k.1)

module _ {W N C : Type 0} (B : Algebra W N C) (laws : Laws W N C B) (c : C) (spec : Spec) (code : ℕ → Bool) (F : N → Type 0) (keep : NotesKeep B.notes code F) where
  pub reads_used : ReadsAre B c (environment_of spec) (MapsAre (IsFieldMap spec F)) (IsUseOf spec)
  reads_used m x ks below h =
      let note = (access_of B c x ks).note in
      uses_of spec m (named_key ks) h.0 (named_below (key_count (environment_of spec) (key_type (environment_of spec) m)) ks below) (B.notes.reads m (named_key ks) note)
      (laws.notes.reads_name m (named_key ks) note) (keep.reads m (named_key ks) note (accessed_noted B c code F keep m x ks h.1))
