-- Notes of each kind keep their property.
use Rattle.std.proofs.Common.{ℕ, Bool, List, [], ◌∷◌, ◌++◌, ◌⊎◌, inl, inr}
use Rattle.base_trait.specs.Algebra.{Notes}
use Rattle.base_trait.specs.Lists.{Each, IsAmong}
use Rattle.base_trait.specs.NoNotes.{no_notes}
use Rattle.base_trait.specs.PairedNotes.{paired_notes}
use Rattle.base_trait.specs.Stamps.{AreAscending, is_before, is_listed}
use Rattle.base_trait.specs.Uses.{Seen}
use Rattle.base_trait.specs.declared.uses.Stamp.{Stamp}
use Rattle.base_trait.proofs.Lists.{among_either, are_among_at, each_at, each_from}
use Rattle.base_trait.proofs.Tests.{at_choice}
use Rattle.base_defuse.specs.Instance.{stamp_note_laws, union_ascends}
use Rattle.base_defuse.specs.Notes.{placed, stamp_notes, union, with_stamp}
use Rattle.analysis_table_laws.specs.Notes.{AreStampsOf, BothNotes, HasItems, HasStamps, IsStampOf, NotesKeep, TellsNothing}

-- ---- unions of stamps
placed_some : (s : Stamp) (xs : List Stamp) → HasItems (placed s xs)
placed_some s [] = tt
placed_some s (x ∷ xs) = at_choice HasItems (is_before s x) (s ∷ x ∷ xs) (x ∷ placed s xs) (λ e. tt) (λ e. tt)

with_some : (s : Stamp) (xs : List Stamp) → HasItems xs → HasItems (with_stamp xs s)
with_some s xs h = at_choice HasItems (is_listed xs s) xs (placed s xs) (λ e. h) (λ e. placed_some s xs)

union_some : (xs ys : List Stamp) → HasItems xs → HasItems (union xs ys)
union_some xs [] h = h
union_some xs (y ∷ ys) h = union_some (with_stamp xs y) ys (with_some y xs h)

-- what holds of each stamp of both lists holds of each of their union
union_each : (P : Stamp → Type 0) (xs ys : List Stamp) → Each P xs → Each P ys → Each P (union xs ys)
union_each P xs ys h k = each_from P (union xs ys) (λ s a. either s (among_either s xs ys (are_among_at (union xs ys) (xs ++ ys) s (stamp_note_laws.join_lists xs ys) a)))
  where
    either : (s : Stamp) → IsAmong s xs ⊎ IsAmong s ys → P s
    either s (inl a) = each_at P xs s h a
    either s (inr a) = each_at P ys s k a

-- some stamps are a list with a first one
stamps_from : (code : ℕ → Bool) (xs : List Stamp) → HasItems xs → AreAscending xs → Each (IsStampOf code) xs → AreStampsOf code xs
stamps_from code [] some order each = some
stamps_from code (x ∷ xs) some order each = (order, each)

some_stamps : (code : ℕ → Bool) (xs : List Stamp) → AreStampsOf code xs → HasItems xs × AreAscending xs × Each (IsStampOf code) xs
some_stamps code [] h = absurd h
some_stamps code (x ∷ xs) h = (tt, h.0, h.1)

union_of : (code : ℕ → Bool) (xs ys : List Stamp) → AreStampsOf code xs → AreStampsOf code ys → AreStampsOf code (union xs ys)
union_of code xs ys h k =
    let p = some_stamps code xs h in
    let q = some_stamps code ys k in
    stamps_from code (union xs ys) (union_some xs ys p.0) (union_ascends xs ys p.1) (union_each (IsStampOf code) xs ys p.2 q.2)

-- ---- notes
pub stamps_keep : (code : ℕ → Bool) → NotesKeep stamp_notes code (AreStampsOf code)
stamps_keep code = record {
  entry = ((tt, tt), (tt, tt));
  at = λ a lt is. ((tt, tt), ((lt, is), tt));
  join = λ x y h k. union_of code x y h k;
  widen = λ x y h k. union_of code x y h k;
  reads = λ m key x h. ((some_stamps code x h).0, tt);
}

pub nothing_keeps : (code : ℕ → Bool) → NotesKeep no_notes code (TellsNothing code)
nothing_keeps code = record { entry = tt; at = λ a lt is. tt; join = λ x y h k. tt; widen = λ x y h k. tt; reads = λ m key x h. tt }

-- uses of both lists
both_uses : (us vs : List Seen) → Each HasStamps us → Each HasStamps vs → Each HasStamps (us ++ vs)
both_uses [] vs h k = k
both_uses (u ∷ us) vs h k = (h.0, both_uses us vs h.1 k)

pub pairs_keep : {M N : Type 0} (A : Notes M) (B : Notes N) (code : ℕ → Bool) (F : M → Type 0) (G : N → Type 0) → NotesKeep A code F → NotesKeep B code G
    → NotesKeep (paired_notes A B) code (BothNotes F G)
pairs_keep A B code F G h k = record {
  entry = (h.entry, k.entry);
  at = λ a lt is. (h.at a lt is, k.at a lt is);
  join = λ x y p q. (h.join x.0 y.0 p.0 q.0, k.join x.1 y.1 p.1 q.1);
  widen = λ x y p q. (h.widen x.0 y.0 p.0 q.0, k.widen x.1 y.1 p.1 q.1);
  reads = λ m key x p. both_uses (A.reads m key x.0) (B.reads m key x.1) (h.reads m key x.0 p.0) (k.reads m key x.1 p.1);
}
