-- Abstract keys that stand for concrete ones: the concrete key is one that may be meant.
use Rattle.std.proofs.Common.{◌≡◌, ℕ, zero, suc, ◌+◌, ◌⊎◌, inl, inr, Bool, true, false, cond, List, [], ◌∷◌, length, Option, Some, None, refl, sym, ap, subst, arith, IsTrue}
use Rattle.std.specs.Prelude.{nat_le, filter, IsSome}
use Rattle.std.specs.List.{list_all}
use Rattle.std.proofs.lemmas.Bool.{false≢true}
use Rattle.std.proofs.lemmas.Bool.Decides.{nat_tests}
use Rattle.word_operations.specs.Width.{IsWidth}
use Rattle.base_trait.specs.Algebra.{Algebra}
use Rattle.base_trait.specs.Laws.{Laws}
use Rattle.base_trait.specs.Lists.{IsAmong, Each}
use Rattle.base_trait.specs.Uses.{IsKey}
use Rattle.abstract_map_laws.specs.Keys.{Keys, one, some, has_key}
use Rattle.abstract_map_laws.specs.Maps.{Map, keys, MayBe, MayUse, AreListed}
use Rattle.abstract_map_laws.proofs.KeyLists.{has_from, has_to, sort_key}
use Rattle.abstract_map_laws.proofs.Widening.{among_filter as kept_in}
use Rattle.spec_match_compiler.proofs.Truth.{and_left, and_right}
use Rattle.spec_ir.specs.declared.ty.Ty.{Ty}
use Rattle.spec_ir.specs.declared.ty.Ty.TheVariants.{Bool as Flag, Word, Data as DataTy, Map as MapOf}
use Rattle.spec_ir.specs.Environment.{Environment, Case, field_types}
use Rattle.semantics.specs.Steps.{key_of}
use Rattle.semantics_laws.specs.Accepted.{is_enumeration, is_key_type}
use Rattle.semantics_values.specs.Values as v
use Rattle.semantics_values.specs.Values.{Val, Vals}
use Rattle.abstract_value_laws.specs.Abs.{Abs, Cases, Parts, word, made, no_case, absent, present, no_part, part}
use Rattle.abstract_value_laws.specs.Describes.{CaseDescribes, PartsDescribe}
use Rattle.abstract_value_laws.specs.Types.{have_cases, have_types}
use Rattle.abstract_semantics.specs.Keys.{all_listed, case_keys, cases_from, exact_or, keys_of, named_key}
use Rattle.abstract_semantics.specs.Sound.{IsSingleCase, AreAbsent}
use Rattle.abstract_semantics.proofs.Typed.{IsOf, IsWord, IsMade, word_there, made_there}
use Rattle.abstract_semantics.proofs.Standing.{Stands}
use Rattle.abstract_semantics.proofs.Deciding.{Mode}

-- ---- lists of keys

among_more : (j : ℕ) (ks js : List ℕ) → Each (λ k. IsAmong k js) ks → Each (λ k. IsAmong k (j ∷ js)) ks
among_more j [] js h = tt
among_more j (k ∷ ks) js h = (inr h.0, among_more j ks js h.1)

are_listed : (f : ℕ → Bool) (ks : List ℕ) → Each (λ k. IsAmong k ks) (filter f ks)
are_listed f [] = tt
are_listed f (j ∷ js) = at (f j) (among_more j (filter f js) js (are_listed f js))
  where
    at : (b : Bool) → Each (λ k. IsAmong k (j ∷ js)) (filter f js) → Each (λ k. IsAmong k (j ∷ js)) (cond b (j ∷ filter f js) (filter f js))
    at true t = (inl refl, t)
    at false t = t

all_have : (k : ℕ) (ks listed : List ℕ) → list_all (has_key listed) ks ≡ true → IsAmong k ks → IsAmong k listed
all_have k [] listed h m = absurd m
all_have k (j ∷ js) listed h (inl e) = subst (λ z. IsAmong z listed) (sym e) (has_from j listed (and_left (has_key listed j) (list_all (has_key listed) js) h))
all_have k (j ∷ js) listed h (inr m) = all_have k js listed (and_right (has_key listed j) (list_all (has_key listed) js) h) m

-- a key that is among some, and not listed, is another
other_key : (k : ℕ) (o : Option (List ℕ)) (listed : List ℕ) → ((ks : List ℕ) → o ≡ Some ks → IsAmong k ks) → (IsAmong k listed → ⊥) → all_listed o listed ≡ false
other_key k None listed h not_listed = refl
other_key k (Some []) listed h not_listed = refl
other_key k (Some (j ∷ js)) listed h not_listed = at (list_all (has_key listed) (j ∷ js)) refl
  where
    at : (b : Bool) → list_all (has_key listed) (j ∷ js) ≡ b → b ≡ false
    at true e = absurd (not_listed (all_have k (j ∷ js) listed e (h (j ∷ js) refl)))
    at false e = refl

-- one of several keys
several : {W N : Type 0} (x : Map W N) (f : ℕ → Bool) (o : Option (List ℕ)) (k : ℕ) → IsTrue (f k) → ((ks : List ℕ) → o ≡ Some ks → IsAmong k ks) → MayBe x (some (filter f (keys x)) (all_listed o (keys x))) k
several x f o k h members = at (sort_key k (keys x))
  where
    at : IsAmong k (keys x) ⊎ (IsAmong k (keys x) → ⊥) → MayBe x (some (filter f (keys x)) (all_listed o (keys x))) k
    at (inl m) = inl (kept_in f k (keys x) h m)
    at (inr n) = inr (other_key k o (keys x) members n, n)

pub named_is : {W N : Type 0} (x : Map W N) (ks : Keys) (k : ℕ) → MayBe x ks k → IsKey (named_key ks) k
named_is x (one j) k h = sym h
named_is x (some ks all) k h = tt

-- ---- constructors that are present
module _ {W N C : Type 0} (B : Algebra W N C) (valuation : List ℕ) where
  present_among : (n : ℕ) (cs : Cases W N) (k : ℕ) (ps : Vals) → CaseDescribes B valuation cs k ps → IsAmong (n + k) (cases_from n cs)
  present_among n no_case k ps d = absurd d
  present_among n (absent cs) zero ps d = absurd d
  present_among n (absent cs) (suc k) ps d = subst (λ z. IsAmong z (cases_from (n + 1) cs)) (omega arith) (present_among (n + 1) cs k ps d)
  present_among n (present xs cs) zero ps d = inl (omega arith)
  present_among n (present xs cs) (suc k) ps d = inr (subst (λ z. IsAmong z (cases_from (n + 1) cs)) (omega arith) (present_among (n + 1) cs k ps d))

  none_from : (n : ℕ) (cs : Cases W N) → AreAbsent cs → cases_from n cs ≡ []
  none_from n no_case h = refl
  none_from n (absent cs) h = none_from (n + 1) cs h
  none_from n (present xs cs) h = absurd h

  single_from : (n : ℕ) (cs : Cases W N) → IsSingleCase cs → (k : ℕ) × (cases_from n cs ≡ k ∷ [])
  single_from n no_case h = absurd h
  single_from n (absent cs) h = single_from (n + 1) cs h
  single_from n (present xs cs) h = (n, ap (λ z. n ∷ z) (none_from (n + 1) cs h.1))

  -- the fields of a constructor of an enumeration
  no_fields : (env : Environment) (cs : Cases W N) (ds : List Case) (k : ℕ) (ps : Vals) → list_all (λ c. nat_le (length c.fields) 0) ds ≡ true → have_cases env cs ds ≡ true → CaseDescribes B valuation cs k ps → ps ≡ v.no_val
  no_fields env no_case ds k ps e h d = absurd d
  no_fields env (absent cs) [] k ps e h d = absurd (false≢true h)
  no_fields env (absent cs) (q ∷ ds) zero ps e h d = absurd d
  no_fields env (absent cs) (q ∷ ds) (suc k) ps e h d = no_fields env cs ds k ps (and_right (nat_le (length q.fields) 0) _ e) h d
  no_fields env (present xs cs) [] k ps e h d = absurd (false≢true h)
  no_fields env (present xs cs) (q ∷ ds) (suc k) ps e h d = no_fields env cs ds k ps (and_right (nat_le (length q.fields) 0) _ e) (and_right (have_types env xs (field_types q)) _ h) d
  no_fields env (present xs cs) (q ∷ ds) zero ps e h d = at q.fields xs ps (and_left (nat_le (length q.fields) 0) _ e) (and_left (have_types env xs (field_types q)) _ h) d
    where
      at : (fields : List (List ℕ × Ty)) (xs : Parts W N) (ps : Vals) → nat_le (length fields) 0 ≡ true → have_types env xs (field_types (record { name = q.name; fields = fields })) ≡ true → PartsDescribe B valuation xs ps → ps ≡ v.no_val
      at [] no_part v.no_val e h d = refl
      at [] no_part (v.val_then p ps) e h d = absurd d
      at [] (part x xs) ps e h d = absurd (false≢true h)
      at (f ∷ fields) xs ps e h d = absurd (grind (arith, nat_tests))

module _ {W N C : Type 0} (B : Algebra W N C) (laws : Laws W N C B) (c : C) (cap : ℕ) (env : Environment) (P : Abs W N → Type 0) (valuation : List ℕ) (exact : Bool) (mode : Mode B exact) where
  -- the number of a concrete key, which is one that is meant
  pub record KeyMet (x : Map W N) (o : Option Keys) (q : Val) : Type 0 where
    pub ks : Keys
    pub there : o ≡ Some ks
    pub k : ℕ
    pub is : key_of q ≡ Some k
    pub may : MayBe x ks k
    pub use_ : MayUse B ks
    pub listed : AreListed x ks

  -- several may be meant over a base that joins alone
  joins_if : (b : Bool) → B.joins ≡ b → (B.joins ≡ false → ⊥) → IsTrue B.joins
  joins_if true e never = subst IsTrue (sym e) refl
  joins_if false e never = absurd (never e)

  word_keys : (w n : ℕ) (x : Map W N) (y : W) (o : Option ℕ) → IsWidth w → B.words.fits c w y → B.words.exact c w y ≡ o → B.words.describes valuation w n y
      → KeyMet x (Some (exact_or o (some (filter (B.words.may c w y) (keys x)) (all_listed (B.words.members c w y 256) (keys x))))) (v.word w n)
  word_keys w n x y (Some j) wide f e d = record { ks = one j; there = refl; k = n; is = refl; may = laws.words.exact_only c valuation w n j y wide f e d; use_ = tt; listed = tt }
  word_keys w n x y None wide f e d = record {
    ks = some (filter (B.words.may c w y) (keys x)) (all_listed (B.words.members c w y 256) (keys x));
    there = refl;
    k = n;
    is = refl;
    may = several x (B.words.may c w y) (B.words.members c w y 256) n (laws.words.may_sound c valuation w n y wide f d) (λ ks g. laws.words.members_hold c valuation w 256 n ks y wide f g d);
    use_ = joins_if B.joins refl (λ never. let there = laws.words.is_exact c w y wide never f in absurd (false≢true (subst IsSome e there)));
    listed = are_listed (B.words.may c w y) (keys x);
  }

  case_met : (x : Map W N) (t k : ℕ) (ns : List ℕ) → IsAmong k ns → (B.joins ≡ false → (j : ℕ) × (ns ≡ j ∷ [])) → KeyMet x (Some (case_keys ns (keys x))) (v.made t k v.no_val)
  case_met x t k [] m single = absurd m
  case_met x t k (j ∷ []) (inl e) single = record { ks = one j; there = refl; k = k; is = refl; may = e; use_ = tt; listed = tt }
  case_met x t k (j ∷ []) (inr m) single = absurd m
  case_met x t k (j ∷ (i ∷ is)) m single = record {
    ks = some (filter (has_key (j ∷ (i ∷ is))) (keys x)) (all_listed (Some (j ∷ (i ∷ is))) (keys x));
    there = refl;
    k = k;
    is = refl;
    may = several x (has_key (j ∷ (i ∷ is))) (Some (j ∷ (i ∷ is))) k (has_to k (j ∷ (i ∷ is)) m) (λ ks e. subst (IsAmong k) (let same : j ∷ (i ∷ is) ≡ ks = cc in same) m);
    use_ = joins_if B.joins refl (λ never. let one_ = single never in cc);
    listed = are_listed (has_key (j ∷ (i ∷ is))) (keys x);
  }

  pub key_met : (ty : Ty) (x : Map W N) (key : Abs W N) (q : Val) → is_key_type env ty ≡ true → IsOf B c cap env P ty key → Stands B valuation exact key q → KeyMet x (keys_of B c x key) q
  key_met (Word w) x key q t h st = at q (subst (λ z. Stands B valuation exact z q) form.is st)
    where
      form : IsWord B c cap env P w key
      form = word_there B c cap env P w key h

      at : (q : Val) → Stands B valuation exact (word w form.word_is) q → KeyMet x (keys_of B c x key) q
      at (v.word u n) st = subst (λ z. KeyMet x (keys_of B c x z) (v.word u n)) (sym form.is)
          (subst (λ z. KeyMet x (keys_of B c x (word w form.word_is)) (v.word z n)) (sym st.describes.0) (word_keys w n x form.word_is (B.words.exact c w form.word_is) form.width form.fits refl st.describes.1))
      at (v.flag b) st = absurd st.describes
      at (v.made t k ps) st = absurd st.describes
      at (v.map m rest cells) st = absurd st.describes
  key_met (DataTy d) x key q t h st = at q (subst (λ z. Stands B valuation exact z q) form.is st)
    where
      form : IsMade B c cap env P d key
      form = made_there B c cap env P d key h

      enum : list_all (λ c. nat_le (length c.fields) 0) form.data_is.cases ≡ true
      enum = subst (λ o. is_enumeration o ≡ true) form.declared t

      single : (p : Val) → Stands B valuation exact (made d form.cases_are) p → B.joins ≡ false → IsSingleCase form.cases_are
      single p st never = by mode
        where
          by : Mode B exact → IsSingleCase form.cases_are
          by (inl md) = absurd (let h = md.1 in cc)
          by (inr md) = st.single (subst IsTrue (sym md.0) refl)

      at : (q : Val) → Stands B valuation exact (made d form.cases_are) q → KeyMet x (keys_of B c x key) q
      at (v.made t k ps) st =
          let same : 0 + k ≡ k = omega arith in
          let empty = no_fields B valuation env form.cases_are form.data_is.cases k ps enum form.typed st.describes.1 in
          subst (λ z. KeyMet x (keys_of B c x z) (v.made t k ps)) (sym form.is)
          (subst (λ z. KeyMet x (keys_of B c x (made d form.cases_are)) (v.made t k z)) (sym empty)
          (case_met x t k (cases_from 0 form.cases_are) (subst (λ z. IsAmong z (cases_from 0 form.cases_are)) same (present_among B valuation 0 form.cases_are k ps st.describes.1)) (λ never. single_from B valuation 0 form.cases_are (single (v.made t k ps) st never))))
      at (v.flag b) st = absurd st.describes
      at (v.word u n) st = absurd st.describes
      at (v.map m rest cells) st = absurd st.describes
  key_met Flag x key q t h st = absurd (false≢true t)
  key_met (MapOf m) x key q t h st = absurd (false≢true t)
