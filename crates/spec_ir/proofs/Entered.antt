-- A table into which a constructor enters.
use Rattle.std.proofs.Common.{◌≡◌, ℕ, Bool, true, false, List, Option, Some, None, option_map, refl, sym, ap, ◌∙◌, subst}
use Rattle.std.specs.Prelude.{bytes_eq, if◌then◌else◌, is_some}
use Rattle.std.specs.Map.{update}
use Rattle.std.proofs.lemmas.Slice.Eq.{bytes_eq-Decides}
use Rattle.spec_ir.specs.Environment as e
use Rattle.spec_ir.specs.Environment.{or_else}
use Rattle.spec_ir.specs.Scopes.{constructor_of}
use Rattle.spec_ir.specs.declared.names.Constructor.{Constructor}

or_none : {A : Type 0} (o : Option A) → o ≡ or_else o None
or_none None = refl
or_none (Some x) = refl

pub or_if : {A : Type 0} (o : Option A) (b : Bool) (x : A) (rest : Option A) → or_else (or_else o (if b then Some x else None)) rest ≡ or_else o (if b then Some x else rest)
or_if None true x rest = refl
or_if None false x rest = refl
or_if (Some y) b x rest = refl

pub same_name : (name other : List ℕ) → bytes_eq name other ≡ true → name ≡ other
same_name name other h = (bytes_eq-Decides name other).0 h

pub name_itself : (name : List ℕ) → bytes_eq name name ≡ true
name_itself name = (bytes_eq-Decides name name).1 refl

abbrev at_name : Option Constructor → Option e.Constructor
at_name o = option_map constructor_of o

kept_at : (o : Option Constructor) (b : Bool) (x : e.Constructor) → (b ≡ true → is_some o ≡ true) → at_name o ≡ or_else (at_name o) (if b then Some x else None)
kept_at (Some y) b x h = refl
kept_at None false x h = refl
kept_at None true x h = let k = h refl in absurd cc

pub kept : (g : List ℕ → Option Constructor) (name other : List ℕ) (x : e.Constructor) → is_some (g name) ≡ true → at_name (g other) ≡ or_else (at_name (g other)) (if bytes_eq name other then Some x else None)
kept g name other x h = kept_at (g other) (bytes_eq name other) x (λ b. subst (λ n. is_some (g n) ≡ true) (same_name name other b) h)

entered_at : (o n : Option Constructor) (b : Bool) (x : Constructor) → (b ≡ true → is_some o ≡ false) → n ≡ (if b then Some x else o) → at_name n ≡ or_else (at_name o) (if b then Some (constructor_of x) else None)
entered_at None n true x h k = ap at_name k
entered_at (Some y) n true x h k = let f = h refl in absurd cc
entered_at o n false x h k = ap at_name k ∙ or_none (at_name o)

pub entered : (g n : List ℕ → Option Constructor) (name other : List ℕ) (x : Constructor) → is_some (g name) ≡ false → n other ≡ update bytes_eq g name (Some x) other → at_name (n other) ≡ or_else (at_name (g other)) (if bytes_eq name other then Some (constructor_of x) else None)
entered g n name other x h k = entered_at (g other) (n other) (bytes_eq name other) x (λ b. subst (λ m. is_some (g m) ≡ false) (same_name name other b) h) k
