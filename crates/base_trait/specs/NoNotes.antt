-- Notes that tell nothing, for bases that do not follow definitions.
use Rattle.std.specs.Prelude.{Bool, true, false, [], ⊤, refl}
use Rattle.std.proofs.Common.{arith}
use Rattle.base_trait.specs.Algebra.{Notes}
use Rattle.base_trait.specs.Laws.{NoteLaws}

abbrev pub no_notes : Notes (Unit {0})
no_notes = record {
  describes = λ s x. ⊤;
  stamped = false;
  listed = λ x. [];
  entry = tt;
  at = λ a. tt;
  join = λ x y. tt;
  widen = λ old new. tt;
  absorbs = λ old new. true;
  rank = λ stamps x. 0;
  height = λ n. 0;
  reads = λ m key x. [];
}

pub no_note_laws : (joins : Bool) → NoteLaws (Unit {0}) joins no_notes
no_note_laws joins = record {
  entry_sound = tt;
  at_sound = λ a. tt;
  join_describes = λ s x y may h. tt;
  join_absorbs = λ x y may. (refl, refl);
  join_least = λ x y z h k. refl;
  widen_describes = λ s old new may h. tt;
  widen_absorbs = λ old new may. (refl, refl);
  absorbs_itself = λ x. refl;
  absorbs_on = λ x y z h k. refl;
  absorbs_describes = λ s old new h k. tt;
  widen_keeps = λ old new j h. refl;
  widen_falls = λ stamps old new j a b h. cc;
  rank_height = λ stamps x. omega arith;
  reads_cover = λ m key k s x e h d. cc;
  reads_name = λ m key x. tt;
  reads_nothing = λ m key x e. refl;
  entry_lists = tt;
  at_lists = λ a. tt;
  join_lists = λ x y. tt;
  widen_lists = λ old new. tt;
  reads_list = λ m key x. tt;
}
