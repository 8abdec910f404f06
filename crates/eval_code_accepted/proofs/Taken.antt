-- How many variables arms have, where each row of a decision names as many as its pattern has.
use Rattle.std.proofs.Common.{◌≡◌, ◌⊎◌, ℕ, ◌==◌, Bool, true, false, cond, Option, Some, None, List, [], ◌∷◌, length, refl, sym, ap, ◌∙◌, inl, inr}
use Rattle.std.specs.Prelude.{unwrap_or, if◌then◌else◌}
use Rattle.spec_match_compiler.specs.Values.{Place}
use Rattle.spec_match_compiler.specs.Decisions.{Decision, Decisions, row, on_case, on_word, on_flag, no_tree, tree_then}
use Rattle.spec_match_compiler.proofs.Truth.{equal_itself}
use Rattle.std.proofs.lemmas.Bool.{eqb-true as same_number}
use Rattle.spec_ir.specs.declared.ty.Ty.{Ty}
use Rattle.spec_ir.specs.Environment.{Case, Environment}
use Rattle.spec_ir.specs.Texts.{cases_of}
use Rattle.std.specs.Prelude.{slice_get}
use Rattle.semantics_laws.specs.CoreTypes.{AllDecide, Decides}
use Rattle.eval_code.specs.Lowered.{first_some, named_first, named_first_in, taken}
use Rattle.eval_code.specs.Valid.{EachRow, EachRowIn}

-- rows of a decision that tests places which are there
module _ (env : Environment) (P : ℕ → List (ℕ × Place) → Type 0) (ty : Ty) where
  mutual
    pub rows_of : (by : Decision) → Decides env P ty by → EachRow P by
    rows_of (row r binds) h = h
    rows_of (on_case at ts) h = rows_in ts (cases_of (slice_get env.datas h.0)) h.2
    rows_of (on_word at n a b) h = (rows_of a h.3, rows_of b h.4)
    rows_of (on_flag at a b) h = (rows_of a h.1, rows_of b h.2)

    rows_in : (ts : Decisions) (cases : List Case) → AllDecide env P ty ts cases → EachRowIn P ts
    rows_in no_tree cases h = tt
    rows_in (tree_then t ts) [] h = absurd h
    rows_in (tree_then t ts) (c ∷ cases) h = (rows_of t h.0, rows_in ts cases h.1)

module _ (names : ℕ → ℕ) where
  -- each row names as many variables as that
  abbrev pub IsNamed : ℕ → List (ℕ × Place) → Type 0
  IsNamed r binds = length binds ≡ names r

  abbrev Found : ℕ → Option ℕ → Type 0
  Found r o = (o ≡ None) ⊎ (o ≡ Some (names r))

  first_found : (r : ℕ) (o u : Option ℕ) → Found r o → Found r u → Found r (first_some o u)
  first_found r None u h k = k
  first_found r (Some n) u (inl e) k = absurd cc
  first_found r (Some n) u (inr e) k = inr e

  row_found : (q r : ℕ) (binds : List (ℕ × Place)) → IsNamed q binds → (b : Bool) → (q == r) ≡ b → Found r (if b then Some (length binds) else None)
  row_found q r binds h true e = let same : q ≡ r = same_number q r e in inr (ap Some (h ∙ ap names same))
  row_found q r binds h false e = inl refl

  mutual
    found : (r : ℕ) (by : Decision) → EachRow IsNamed by → Found r (named_first r by)
    found r (row q binds) h = row_found q r binds h (q == r) refl
    found r (on_case at ts) h = found_in r ts h
    found r (on_word at n a b) h = first_found r (named_first r a) (named_first r b) (found r a h.0) (found r b h.1)
    found r (on_flag at a b) h = first_found r (named_first r a) (named_first r b) (found r a h.0) (found r b h.1)

    found_in : (r : ℕ) (ts : Decisions) → EachRowIn IsNamed ts → Found r (named_first_in r ts)
    found_in r no_tree h = inl refl
    found_in r (tree_then t ts) h = first_found r (named_first r t) (named_first_in r ts) (found r t h.0) (found_in r ts h.1)

  -- where one of two is there, the first is
  left_there : (r : ℕ) (o u : Option ℕ) → o ≡ Some (names r) → first_some o u ≡ Some (names r)
  left_there r None u e = absurd cc
  left_there r (Some n) u e = e

  right_there : (r : ℕ) (o u : Option ℕ) → Found r o → u ≡ Some (names r) → first_some o u ≡ Some (names r)
  right_there r None u h e = e
  right_there r (Some n) u (inl k) e = absurd cc
  right_there r (Some n) u (inr k) e = k

  -- a row of a part of a decision is found in the whole
  module _ (P Q : ℕ → List (ℕ × Place) → Type 0) (more : (r : ℕ) (binds : List (ℕ × Place)) → P r binds → IsNamed r binds) where
    abbrev There : Decision → (ℕ → List (ℕ × Place) → Type 0) → Type 0
    There whole R = (r : ℕ) (binds : List (ℕ × Place)) → R r binds → named_first r whole ≡ Some (names r)

    mutual
      named_of : (by : Decision) → EachRow P by → EachRow IsNamed by
      named_of (row r binds) h = more r binds h
      named_of (on_case at ts) h = named_in ts h
      named_of (on_word at n a b) h = (named_of a h.0, named_of b h.1)
      named_of (on_flag at a b) h = (named_of a h.0, named_of b h.1)

      named_in : (ts : Decisions) → EachRowIn P ts → EachRowIn IsNamed ts
      named_in no_tree h = tt
      named_in (tree_then t ts) h = (named_of t h.0, named_in ts h.1)

    -- `up` says that what is found in a part is found in the whole
    module _ (whole : Decision) (go : (r : ℕ) (binds : List (ℕ × Place)) → P r binds → named_first r whole ≡ Some (names r) → Q r binds) where
      mutual
        rows_up : (by : Decision) → EachRow P by → ((r : ℕ) → named_first r by ≡ Some (names r) → named_first r whole ≡ Some (names r)) → EachRow Q by
        rows_up (row r binds) h up = go r binds h (up r (ap (λ b. cond b (Some (length binds)) None) (equal_itself r) ∙ ap Some (more r binds h)))
        rows_up (on_case at ts) h up = rows_up_in ts h up
        rows_up (on_word at n a b) h up =
            (rows_up a h.0 (λ r e. up r (left_there r (named_first r a) (named_first r b) e)), rows_up b h.1 (λ r e. up r (right_there r (named_first r a) (named_first r b) (found r a (named_of a h.0)) e)))
        rows_up (on_flag at a b) h up =
            (rows_up a h.0 (λ r e. up r (left_there r (named_first r a) (named_first r b) e)), rows_up b h.1 (λ r e. up r (right_there r (named_first r a) (named_first r b) (found r a (named_of a h.0)) e)))

        rows_up_in : (ts : Decisions) → EachRowIn P ts → ((r : ℕ) → named_first_in r ts ≡ Some (names r) → named_first r whole ≡ Some (names r)) → EachRowIn Q ts
        rows_up_in no_tree h up = tt
        rows_up_in (tree_then t ts) h up =
            (rows_up t h.0 (λ r e. up r (left_there r (named_first r t) (named_first_in r ts) e)), rows_up_in ts h.1 (λ r e. up r (right_there r (named_first r t) (named_first_in r ts) (found r t (named_of t h.0)) e)))

    -- each row names as many variables as its arm takes
    pub rows_taken : (by : Decision) → EachRow P by → ((r : ℕ) (binds : List (ℕ × Place)) → P r binds → length binds ≡ taken r by → Q r binds) → EachRow Q by
    rows_taken by h go = rows_up by (λ r binds p e. go r binds p (more r binds p ∙ ap (λ o. unwrap_or o 0) (sym e))) by h (λ r e. e)
