-- Values that stand for states.
use Rattle.std.proofs.Common.{◌≡◌, ℕ, suc, ◌+◌, ◌<◌, ◌^◌, true, Some, None, List, [], ◌∷◌, map as map_of, refl, sym, ap, ◌∙◌, subst, arith}
use Rattle.std.specs.Prelude.{nat_le, if◌then◌else◌}
use Rattle.std.proofs.lemmas.Bool.{lt-ltb, le-leb as is_at_most}
use Rattle.base_trait.specs.Lists.{IsAscendingFrom}
use Rattle.base_trait.specs.declared.uses.Stamp.{Stamp}
use Rattle.base_trait.proofs.Tests.{and_both}
use Rattle.base_concrete.specs.Meaning.{concrete}
use Rattle.abstract_map_laws.specs.declared.cell.AbstractCell.{AbstractCell}
use Rattle.spec_ir.specs.Specification.{Spec}
use Rattle.semantics_values.specs.States.{State, value_of}
use Rattle.semantics_values.specs.Types.{keys_ascend}
use Rattle.semantics_values.specs.Values as v
use Rattle.semantics_values.specs.Values.{Val, Vals, vals, val_list}
use Rattle.abstract_value_laws.specs.Abs.{Abs, Cases, Parts, flag, word, made, map, no_case, absent, present, no_part, part}
use Rattle.abstract_value_laws.specs.Describes.{Describes, PartsDescribe}
use Rattle.abstract_value_laws.specs.Fits.{Fits, PartsFit}
use Rattle.abstract_semantics.specs.Sound.{AreSingle, IsSingle}
use Rattle.concrete_calls.specs.Laws.{room}
use Rattle.concrete_calls.specs.Same.{AllSame}
use Rattle.concrete_calls.specs.Values.{case_in, cells_in, value_in, values_in}
use Rattle.concrete_calls.proofs.Same.{same}
use Rattle.concrete_emulator.specs.Laws.{AllAscend, KeysAscend}
use Rattle.concrete_emulator.specs.States.{IsLast, IsStateValue, Shows, counter_in, counter_in_fields}
use Rattle.concrete_emulator.specs.Values.{state_of}
use Rattle.concrete_emulator.proofs.States.{counted}

-- ---- the counter
word_counts : (w n pc : ℕ) (xs : Parts ℕ Stamp) → pc ≡ n → pc < 2 ^ 32 → counter_in_fields (part (word w n) xs) ≡ Some pc
word_counts w n pc xs e lt = ap (λ k. counter_in_fields (part (word w k) xs)) (sym e) ∙ ap (λ b. if b then Some pc else None) (lt-ltb pc (2 ^ 32) lt)

fields_count : (xs : Parts ℕ Stamp) (pc : ℕ) (ps : Vals) → PartsDescribe concrete [] xs (v.val_then (v.word 32 pc) ps) → counter_in_fields xs ≡ Some pc
fields_count no_part pc ps d = absurd d
fields_count (part (flag t) xs) pc ps d = absurd d.0
fields_count (part (word w n) xs) pc ps d = word_counts w n pc xs d.0.1.0 (subst (λ u. pc < 2 ^ u) (sym d.0.0) d.0.1.1)
fields_count (part (made t cs) xs) pc ps d = absurd d.0
fields_count (part (map m x) xs) pc ps d = absurd d.0

value_counts : (x : Abs ℕ Stamp) (ty : ℕ) (s : State) → Describes concrete [] x (value_of ty s) → counter_in x ≡ Some s.pc
value_counts (flag t) ty s d = absurd d
value_counts (word w n) ty s d = absurd d
value_counts (map m x) ty s d = absurd d
value_counts (made t no_case) ty s d = absurd d.1
value_counts (made t (absent cs)) ty s d = absurd d.1
value_counts (made t (present xs cs)) ty s d = fields_count xs s.pc (vals s.parts) d.1

pub counter_shown : (spec : Spec) (ty : ℕ) (s : State) (x : Abs ℕ Stamp) → Shows spec ty s x → counter_in x ≡ Some s.pc
counter_shown spec ty s x h = value_counts x ty s h.stands.describes

-- ---- keys ascend

ascending : (low : ℕ) (cells : List (ℕ × AbstractCell ℕ Stamp)) → IsAscendingFrom low (map_of (λ e. e.0) cells) → keys_ascend low (cells_in cells) ≡ true
ascending low [] h = refl
ascending low (e ∷ cells) h =
    let next : e.0 + 1 ≡ suc e.0 = omega arith in
    and_both (nat_le low e.0) (keys_ascend (suc e.0) (cells_in cells)) (is_at_most low e.0 h.0) (ascending (suc e.0) cells (subst (λ n. IsAscendingFrom n (map_of (λ e. e.0) cells)) next h.1))

case_ascends : (t n : ℕ) (cs : Cases ℕ Stamp) → KeysAscend (case_in t n cs)
case_ascends t n no_case = tt
case_ascends t n (absent cs) = case_ascends t (suc n) cs
case_ascends t n (present xs cs) = tt

part_ascends : (x : Abs ℕ Stamp) → Fits concrete tt room x → KeysAscend (value_in x)
part_ascends (flag t) f = tt
part_ascends (word w n) f = tt
part_ascends (made t cs) f = case_ascends t 0 cs
part_ascends (map m x) f = ascending 0 x.cells f.order

parts_last : (xs : Parts ℕ Stamp) (ps : List Val) → PartsDescribe concrete [] xs (vals ps) → AreSingle xs → PartsFit concrete tt room xs → AllSame (vals (val_list (values_in xs))) (vals ps) × AllAscend (val_list (values_in xs))
parts_last no_part [] d s f = (tt, tt)
parts_last no_part (p ∷ ps) d s f = absurd d
parts_last (part x xs) [] d s f = absurd d
parts_last (part x xs) (p ∷ ps) d s f =
    let more = parts_last xs ps d.1 s.1 f.1 in
    ((same x p d.0 s.0, more.0), (part_ascends x f.0, more.1))

-- ---- the state for which a value stands
pub record HasLast (x : Abs ℕ Stamp) (s : State) : Type 0 where
  pub last : State
  pub there : state_of (value_in x) ≡ Some last
  pub is : IsLast last s

fields_last : (t ty w n : ℕ) (xs : Parts ℕ Stamp) (cs : Cases ℕ Stamp) (s : State) → s.pc ≡ n → s.pc < 2 ^ 32 → PartsDescribe concrete [] xs (vals s.parts) → AreSingle xs → PartsFit concrete tt room xs
    → HasLast (made t (present (part (word w n) xs) cs)) s
fields_last t ty w n xs cs s e lt d single fit =
    let rest = parts_last xs s.parts d single fit in
    record {
      last = record { pc = n; parts = val_list (values_in xs) };
      there = counted w n (values_in xs) (subst (λ k. k < 2 ^ 32) e lt);
      is = record { same = record { counter = sym e; parts = rest.0 }; ascending = rest.1 };
    }

by_form : (x : Abs ℕ Stamp) (ty : ℕ) (s : State) → Describes concrete [] x (value_of ty s) → IsSingle x → Fits concrete tt room x → HasLast x s
by_form (flag t) ty s d single fit = absurd d
by_form (word w n) ty s d single fit = absurd d
by_form (map m x) ty s d single fit = absurd d
by_form (made t no_case) ty s d single fit = absurd d.1
by_form (made t (absent cs)) ty s d single fit = absurd d.1
by_form (made t (present no_part cs)) ty s d single fit = absurd d.1
by_form (made t (present (part (flag u) xs) cs)) ty s d single fit = absurd d.1.0
by_form (made t (present (part (made u ds) xs) cs)) ty s d single fit = absurd d.1.0
by_form (made t (present (part (map m x) xs) cs)) ty s d single fit = absurd d.1.0
by_form (made t (present (part (word w n) xs) cs)) ty s d single fit =
    fields_last t ty w n xs cs s d.1.0.1.0 (subst (λ u. s.pc < 2 ^ u) (sym d.1.0.0) d.1.0.1.1) d.1.1 single.0.1 fit.0.1

pub has_last : (s : State) (x : Abs ℕ Stamp) → IsStateValue s x → HasLast x s
has_last s x h = by_form x h.ty s h.stands.describes h.stands.single h.fits

-- a value that shows a state of a machine stands for it
pub state_value : (spec : Spec) (ty : ℕ) (s : State) (x : Abs ℕ Stamp) → Shows spec ty s x → IsStateValue s x
state_value spec ty s x h = record { ty = ty; stands = h.stands; fits = h.fits }
