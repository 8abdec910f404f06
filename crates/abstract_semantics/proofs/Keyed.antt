-- Keys of a type: which numbers they may be.
use Rattle.std.proofs.Common.{◌≡◌, ℕ, ◌+◌, ◌<◌, ◌≤◌, ◌^◌, true, List, [], ◌∷◌, length, Option, Some, None, refl, sym, subst, arith}
use Rattle.std.specs.Prelude.{⊤, filter}
use Rattle.std.proofs.lemmas.Bool.{false≢true}
use Rattle.word_operations.specs.Width.{IsWidth}
use Rattle.base_trait.specs.Algebra.{Algebra}
use Rattle.base_trait.specs.Laws.{Laws}
use Rattle.abstract_map_laws.specs.Keys.{Keys, one, some, IsKeyed}
use Rattle.abstract_map_laws.specs.Maps.{Map, keys}
use Rattle.spec_ir.specs.declared.ty.Ty.{Ty}
use Rattle.spec_ir.specs.declared.ty.Ty.TheVariants.{Bool as Flag, Word, Data as DataTy, Map as MapOf}
use Rattle.spec_ir.specs.Environment.{Environment, Case}
use Rattle.spec_ir.specs.Texts.{cases_of}
use Rattle.semantics_values.specs.Types.{key_count}
use Rattle.semantics_laws.specs.Accepted.{is_key_type}
use Rattle.abstract_value_laws.specs.Abs.{Abs, Cases, word, made, no_case, absent, present}
use Rattle.abstract_value_laws.specs.Types.{have_cases}
use Rattle.abstract_semantics.specs.Keys.{all_listed, case_keys, cases_from, exact_or, keys_of}
use Rattle.abstract_semantics.proofs.Typed.{IsOf, word_there, made_there}

-- A key that is one is below a number.
abbrev pub IsBelow : ℕ → Keys → Type 0
IsBelow n (one k) = k < n
IsBelow n (some ks all) = ⊤

pub keyed : (n : ℕ) (ks : Keys) → n ≤ 2 ^ 32 → IsBelow n ks → IsKeyed ks
keyed n (one k) le h = omega (arith, le, h)
keyed n (some ks all) le h = tt

module _ {W N : Type 0} (env : Environment) where
  -- the only constructor that is present is one of the datatype's
  one_within : (n k : ℕ) (cs : Cases W N) (ds : List Case) → have_cases env cs ds ≡ true → cases_from n cs ≡ k ∷ [] → k < n + length ds
  one_within n k no_case ds h e = absurd cc
  one_within n k (absent cs) [] h e = absurd (false≢true h)
  one_within n k (absent cs) (d ∷ ds) h e = let later = one_within (n + 1) k cs ds h e in omega (arith, later)
  one_within n k (present xs cs) [] h e = absurd (false≢true h)
  one_within n k (present xs cs) (d ∷ ds) h e = let same : n ≡ k = cc in omega (arith, same)

module _ {W N C : Type 0} (B : Algebra W N C) (laws : Laws W N C B) (c : C) (cap : ℕ) (env : Environment) (P : Abs W N → Type 0) where
  exact_below : (w : ℕ) (x : W) (o : Option ℕ) (ks : Keys) → IsWidth w → B.words.fits c w x → B.words.exact c w x ≡ o → IsBelow (2 ^ w) ks → IsBelow (2 ^ w) (exact_or o ks)
  exact_below w x None ks wide f e h = h
  exact_below w x (Some k) ks wide f e h = laws.words.exact_fits c w k x wide f e

  case_below : (n : ℕ) (ns listed : List ℕ) → ((k : ℕ) → ns ≡ k ∷ [] → k < n) → IsBelow n (case_keys ns listed)
  case_below n [] listed h = tt
  case_below n (k ∷ []) listed h = h k refl
  case_below n (k ∷ (j ∷ js)) listed h = tt

  -- a key of a type is below the number of its keys
  pub key_below : (ty : Ty) (m : Map W N) (key : Abs W N) (ks : Keys) → is_key_type env ty ≡ true → IsOf B c cap env P ty key → keys_of B c m key ≡ Some ks → IsBelow (key_count env ty) ks
  key_below (Word w) m key ks t h e =
      let k = word_there B c cap env P w key h in
      let there : keys_of B c m (word w k.word_is) ≡ Some ks = subst (λ z. keys_of B c m z ≡ Some ks) k.is e in
      let several = some (filter (B.words.may c w k.word_is) (keys m)) (all_listed (B.words.members c w k.word_is 256) (keys m)) in
      let same : exact_or (B.words.exact c w k.word_is) several ≡ ks = cc in
      subst (IsBelow (2 ^ w)) same (exact_below w k.word_is (B.words.exact c w k.word_is) several k.width k.fits refl tt)
  key_below (DataTy d) m key ks t h e =
      let k = made_there B c cap env P d key h in
      let there : keys_of B c m (made d k.cases_are) ≡ Some ks = subst (λ z. keys_of B c m z ≡ Some ks) k.is e in
      let same : case_keys (cases_from 0 k.cases_are) (keys m) ≡ ks = cc in
      subst (IsBelow (key_count env (DataTy d))) same
      (case_below (key_count env (DataTy d)) (cases_from 0 k.cases_are) (keys m) (λ n e.
      subst (λ o. n < length (cases_of o)) (sym k.declared) (let h = one_within env 0 n k.cases_are k.data_is.cases k.typed e in omega (arith, h))))
  key_below Flag m key ks t h e = absurd (false≢true t)
  key_below (MapOf n) m key ks t h e = absurd (false≢true t)
