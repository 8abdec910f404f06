-- Claims that are read are of cells that the states have, at addresses of code words.
use Rattle.std.proofs.Common.{◌≡◌, ◌∙◌, ℕ, ◌+◌, ◌<◌, ◌≤◌, ◌^◌, ◌++◌, ◌==◌, Bool, true, false, List, [], ◌∷◌, Option, Some, None, Result, Ok, Err, length, refl, sym, ap, subst, arith, IsTrue}
use Rattle.std.specs.Prelude.{◌&&◌, not, nat_lt, nat_le, is_some, IsSome, bytes_eq, codes, if◌then◌else◌}
use Rattle.std.specs.List.{list_all, slice_split}
use Rattle.std.proofs.lemmas.Bool.{leb-true, ltb-true}
use Rattle.base_trait.specs.Lists.{Each}
use Rattle.base_trait.proofs.Lists.{all_told}
use Rattle.spec_ir.specs.Specification.{Spec}
use Rattle.semantics_values.specs.declared.entry.GivenNumber.TheVariants.{One, Range}
use Rattle.state_cell_text.specs.Digits.{hex_number}
use Rattle.state_cell_names.specs.Names.{split_once}
use Rattle.domain_laws.specs.States.{state_type}
use Rattle.state_text.specs.Lines.{lines}
use Rattle.analysis_query_laws.specs.Answers.{Telling, column_of}
use Rattle.analysis_query_laws.specs.Claims.{Claim, Multiple, address_of, differs, never, range, sum}
use Rattle.analysis_query_laws.specs.Laws.{IsClaim, IsOfCell}
use Rattle.text_faults.specs.declared.claim_error.ClaimError.{ClaimError}
use Rattle.text_claims.specs.declared.kinds.ClaimFault.{ClaimFault}
use Rattle.text_claims.specs.declared.kinds.ClaimFault.TheVariants as fault
use Rattle.text_claims.specs.declared.kinds.Known.{Known}
use Rattle.text_claims.specs.Cells.{cell_in}
use Rattle.text_claims.specs.Laws.{IsReadClaim, ReadClaimsFit}
use Rattle.text_claims.specs.Lines.{is_space}
use Rattle.text_claims.specs.Meaning.{Meant, bad, differs_means, line_means, meant, never_means, nothing, range_means, says, sized, sum_means, total_means, unknown, verb_means, words_mean}
use Rattle.text_claims.specs.Numbers.{behind_dot, ends, ends_of, in_order}
use Rattle.text_claims.specs.Reading.{are_tracked, fault_of, goes_on, is_tracked, part_fault, read_from, unless_told, with_claim, with_line}
use Rattle.text_claims.specs.Sums.{Sum, nothing as no_term, sum_from}
use Rattle.text_claims.proofs.Places.{CellIs, cell_there}

-- ---- ranges have their ends in order
abbrev AreInOrder : Option (ℕ × ℕ) → Type 0
AreInOrder None = Unit {0}
AreInOrder (Some (lo, hi)) = lo ≤ hi

in_order_is : (a b : Option ℕ) → AreInOrder (in_order a b)
in_order_is None b = tt
in_order_is (Some lo) None = tt
in_order_is (Some lo) (Some hi) = by_test lo hi (nat_le lo hi) refl where
  by_test : (lo hi : ℕ) (b : Bool) → nat_le lo hi ≡ b → AreInOrder (in_order (Some lo) (Some hi))
  by_test lo hi true e = rw e (leb-true lo hi e)
  by_test lo hi false e = rw e tt

ends_are : (o : Option (List ℕ × List ℕ)) → AreInOrder (ends_of o)
ends_are None = tt
ends_are (Some (low, more)) = in_order_is (hex_number 16 low) (behind_dot more)

-- ---- lines
module _ (spec : Spec) where
  -- the cells of single claims are there
  abbrev IsThere : Claim → Type 0
  IsThere (range at field key lo hi) = IsOfCell (state_type spec).fields field key (Range lo hi)
  IsThere (differs at field key v) = IsOfCell (state_type spec).fields field key (One v)
  IsThere _ = Unit {0}

  abbrev SaysThere : Meant → Type 0
  SaysThere (says c) = IsThere c
  SaysThere _ = Unit {0}

  sized_there : (v : ℕ) (k : Known) (of : Known → Claim) → (v < 2 ^ k.width → IsThere (of k)) → SaysThere (sized v (Some k) of)
  sized_there v k of h = by_test v k of h (nat_lt v (2 ^ k.width)) refl where
    by_test : (v : ℕ) (k : Known) (of : Known → Claim) → (v < 2 ^ k.width → IsThere (of k)) → (b : Bool) → nat_lt v (2 ^ k.width) ≡ b → SaysThere (sized v (Some k) of)
    by_test v k of h true e = rw e (h (ltb-true v (2 ^ k.width) e))
    by_test v k of h false e = rw e tt

  range_there : (at : Option ℕ) (cell : Option (Option Known)) (e : Option (ℕ × ℕ)) → CellIs spec cell → AreInOrder e → SaysThere (range_means at cell e)
  range_there None cell e h o = tt
  range_there (Some at) None e h o = tt
  range_there (Some at) (Some k) None h o = tt
  range_there (Some at) (Some None) (Some (lo, hi)) h o = tt
  range_there (Some at) (Some (Some k)) (Some (lo, hi)) h o = sized_there hi k (λ k. range at k.field k.key lo hi) (λ lt. h (Range lo hi) (o, lt))

  differs_there : (at : Option ℕ) (cell : Option (Option Known)) (v : Option ℕ) → CellIs spec cell → SaysThere (differs_means at cell v)
  differs_there None cell v h = tt
  differs_there (Some at) None v h = tt
  differs_there (Some at) (Some k) None h = tt
  differs_there (Some at) (Some None) (Some v) h = tt
  differs_there (Some at) (Some (Some k)) (Some v) h = sized_there v k (λ k. differs at k.field k.key v) (λ lt. h (One v) lt)

  never_there : (at : Option ℕ) (word : List ℕ) → SaysThere (never_means at word)
  never_there None word = tt
  never_there (Some at) word = by_test at word (bytes_eq word (codes "never")) refl where
    by_test : (at : ℕ) (word : List ℕ) (b : Bool) → bytes_eq word (codes "never") ≡ b → SaysThere (never_means (Some at) word)
    by_test at word true e = rw e tt
    by_test at word false e = rw e tt

  total_there : (at : Option ℕ) (s : Option Sum) → SaysThere (total_means at s)
  total_there None s = tt
  total_there (Some at) None = tt
  total_there (Some at) (Some s) = by_test at s s.known refl where
    by_test : (at : ℕ) (s : Sum) (b : Bool) → s.known ≡ b → SaysThere (total_means (Some at) (Some s))
    by_test at s true e = rw e tt
    by_test at s false e = rw e tt

  sum_there : (at : Option ℕ) (word : List ℕ) (terms : List (List ℕ)) → SaysThere (sum_means spec at word terms)
  sum_there at word terms = by_test (bytes_eq word (codes "eq")) refl where
    by_test : (b : Bool) → bytes_eq word (codes "eq") ≡ b → SaysThere (sum_means spec at word terms)
    by_test true e = rw e (total_there at (sum_from spec no_term terms))
    by_test false e = rw e tt

  verb_there : (at : Option ℕ) (first verb value : List ℕ) (b c : Bool) → bytes_eq verb (codes "in") ≡ b → bytes_eq verb (codes "!=") ≡ c → SaysThere (verb_means spec at first verb value)
  verb_there at first verb value true c e f = rw e (range_there at (cell_in spec first) (ends value) (cell_there spec first) (ends_are (split_once 46 value)))
  verb_there at first verb value false true e f = rw (e, f) (differs_there at (cell_in spec first) (hex_number 16 value) (cell_there spec first))
  verb_there at first verb value false false e f = rw (e, f) (sum_there at first (verb ∷ value ∷ []))

  words_there : (at : Option ℕ) (first : List ℕ) (more : List (List ℕ)) → SaysThere (words_mean spec at first more)
  words_there at first [] = sum_there at first []
  words_there at first (verb ∷ []) = sum_there at first (verb ∷ [])
  words_there at first (verb ∷ value ∷ []) = verb_there at first verb value (bytes_eq verb (codes "in")) (bytes_eq verb (codes "!=")) refl refl
  words_there at first (verb ∷ value ∷ x ∷ more) = sum_there at first (verb ∷ value ∷ x ∷ more)

  words_of_line : (words : List (List ℕ)) → SaysThere (line_means spec words)
  words_of_line [] = tt
  words_of_line (at ∷ []) = tt
  words_of_line (at ∷ word ∷ []) = never_there (hex_number 8 at) word
  words_of_line (at ∷ first ∷ second ∷ more) = words_there (hex_number 8 at) first (second ∷ more)

  line_there : (line : List ℕ) → SaysThere (meant spec line)
  line_there [] = tt
  line_there (b ∷ bytes) = by_comment (b == 35) refl where
    by_comment : (c : Bool) → (b == 35) ≡ c → SaysThere (meant spec (b ∷ bytes))
    by_comment true e = rw e tt
    by_comment false e = rw e (words_of_line (slice_split is_space (b ∷ bytes)))

-- ---- faults
module _ {X : Type 0} (K : Telling X) (code : ℕ → Bool) where
  sum_is : (parts : List Multiple) (takes : Bool) → (if takes && not (are_tracked K parts) then Some fault.Place else unless_told takes) ≡ None → Each (λ p. IsSome (column_of K.tracked p.1 p.2)) parts
  sum_is parts false e = cc
  sum_is parts true e = by_test (are_tracked K parts) refl where
    by_test : (b : Bool) → are_tracked K parts ≡ b → Each (λ p. IsSome (column_of K.tracked p.1 p.2)) parts
    by_test true is = (all_told (is_tracked K) parts).0 is
    by_test false is = let s = rw is at e in cc

  module _ (spec : Spec) where
    claim_is : (c : Claim) → IsThere spec c → part_fault K c ≡ None → IsClaim K (state_type spec).fields c
    claim_is (range at field key lo hi) there e = there
    claim_is (differs at field key v) there e = there
    claim_is (sum at c parts) there e = sum_is parts K.takes_sums e
    claim_is (never at) there e = tt

    no_fault : (c : Claim) → IsThere spec c → fault_of K code c ≡ None → IsReadClaim K code spec c
    no_fault c there e = by_test (code (address_of c)) refl where
      by_test : (b : Bool) → code (address_of c) ≡ b → IsReadClaim K code spec c
      by_test true is = record { of_cells = claim_is c there (rw is at e); at_code = is }
      by_test false is = let s = rw is at e in cc

    -- ---- texts
    one_more : (claims : List Claim) (c : Claim) → Each (IsReadClaim K code spec) claims → IsReadClaim K code spec c → Each (IsReadClaim K code spec) (claims ++ c ∷ [])
    one_more [] c h g = (g, tt)
    one_more (x ∷ claims) c h g = (h.0, one_more claims c h.1 g)

    with_claim_fits : (n : ℕ) (claims : List Claim) (c : Claim) → IsThere spec c → Each (IsReadClaim K code spec) claims → (o : Option ClaimFault) → fault_of K code c ≡ o → (more : List Claim)
        → with_claim K code n claims c o ≡ Ok more → Each (IsReadClaim K code spec) more
    with_claim_fits n claims c there h None e more m = let same : claims ++ c ∷ [] ≡ more = cc in subst (Each (IsReadClaim K code spec)) same (one_more claims c h (no_fault c there e))
    with_claim_fits n claims c there h (Some f) e more m = cc

    with_line_fits : (n : ℕ) (line : Meant) (claims : List Claim) → SaysThere spec line → Each (IsReadClaim K code spec) claims → (more : List Claim) → with_line K code n line claims ≡ Ok more
        → Each (IsReadClaim K code spec) more
    with_line_fits n nothing claims there h more m = let same : claims ≡ more = cc in subst (Each (IsReadClaim K code spec)) same h
    with_line_fits n bad claims there h more m = cc
    with_line_fits n unknown claims there h more m = cc
    with_line_fits n (says c) claims there h more m = with_claim_fits n claims c there h (fault_of K code c) refl more m

    read_fits : (n : ℕ) (claims : List Claim) (ls : List (List ℕ)) (all : List Claim) → Each (IsReadClaim K code spec) claims → read_from K code spec n claims ls ≡ Ok all → Each (IsReadClaim K code spec) all
    read_fits n claims [] all h e = let same : claims ≡ all = cc in subst (Each (IsReadClaim K code spec)) same h
    read_fits n claims (line ∷ ls) all h e = by_line n claims line ls all h (λ more g. read_fits (n + 1) more ls all g) (with_line K code n (meant spec line) claims) refl e where
      by_line : (n : ℕ) (claims : List Claim) (line : List ℕ) (ls : List (List ℕ)) (all : List Claim) → Each (IsReadClaim K code spec) claims
          → ((more : List Claim) → Each (IsReadClaim K code spec) more → read_from K code spec (n + 1) more ls ≡ Ok all → Each (IsReadClaim K code spec) all)
          → (r : Result (List Claim) ClaimError) → with_line K code n (meant spec line) claims ≡ r → goes_on r (λ more. read_from K code spec (n + 1) more ls) ≡ Ok all → Each (IsReadClaim K code spec) all
      by_line n claims line ls all h ih (Err x) r e = cc
      by_line n claims line ls all h ih (Ok more) r e = ih more (with_line_fits n (meant spec line) claims (line_there spec line) h more r) e

-- behind the last line
pub nothing_left : {X : Type 0} (K : Telling X) (code : ℕ → Bool) (spec : Spec) (n : ℕ) (claims : List Claim) (rest : List ℕ) → length rest ≡ 0 → read_from K code spec n claims (lines rest) ≡ Ok claims
nothing_left K code spec n claims [] none = refl
nothing_left K code spec n claims (b ∷ rest) none = absurd (omega (arith, none))

pub read_claims_fit : {X : Type 0} (K : Telling X) → ReadClaimsFit K
read_claims_fit K code spec bytes claims e = read_fits K code spec 1 [] (lines bytes) claims tt e
