-- The entries of a table, one by one.
use Rattle.std.proofs.Common.{◌≡◌, ◌∙◌, ℕ, ◌<◌, ◌≤◌, List, [], ◌∷◌, ◌++◌, map, length, get_or, Option, None, Some, arith, nat_cmp, inl, inr, ap, refl, sym, subst}
use Rattle.std.specs.Prelude.{All, Contains, option_map}
use Rattle.std.specs.declared.cmp.Ordering.TheVariants.{Less}
use Rattle.std.specs.BTreeMap.{BTreeMap, IsOrdered, get}
use Rattle.std.proofs.lemmas.Bool.{cases_lt}
use Rattle.std.proofs.lemmas.Bool.Decides.{nat_tests}
use Rattle.std.proofs.lemmas.Cmp.{nat_cmp_total}
use Rattle.std.proofs.lemmas.List.{get_or-map, get_or_append_left, get_or_at, length-map}
use Rattle.std.proofs.lemmas.List.Elements.{All-contains, Contains-append_left, Contains-append_right, Contains-push}
use Rattle.std.proofs.lemmas.Map.Keys.{Less-from_sorted}
use Rattle.std.proofs.lemmas.Map.Lookups.{exact_unsigned}
use Rattle.std.proofs.lemmas.Map.Views.{btree_map_get_iff}
use Rattle.fixpoint_theory.specs.Analysis.{Analysis}
use Rattle.fixpoint_theory.specs.Table.{IsClosed, Listing}
use Rattle.fixpoint_theory.specs.Verdicts.{EntryStands, Stands}
use Rattle.fixpoint_theory.specs.Views.{listing, listings}
use Rattle.fixpoint_theory.specs.declared.table.Block.{Block}
use Rattle.fixpoint_theory.specs.declared.table.Table.{Table}
use Rattle.fixpoint_table_check.specs.Standing.{AllStand}

-- A table of which all entries stand is closed.
pub closed_from : {E P W S : Type 0} (view : E → P) (A : Analysis P W S) (t : Table E) → IsOrdered nat_cmp t.blocks → EntryStands A (listings view t) → AllStand view A t t.blocks.entries → IsClosed A (listings view t)
closed_from {E} {P} {W} {S} view A t ordered entry all =
    let found : (at : ℕ) (b : Listing P) → listings view t at ≡ Some b → Stands A (listings view t) b (A.transfer at b.elem) =
    λ at b is. from at b (get nat_cmp t.blocks at) refl is in
    record { entry = entry; tells = λ at b is. (found at b is).tells; reaches = λ at b is. (found at b is).reaches }
  where
    from : (at : ℕ) (b : Listing P) (x : Option (Block E)) → get nat_cmp t.blocks at ≡ x → option_map (listing view) x ≡ Some b → Stands A (listings view t) b (A.transfer at b.elem)
    from at b None is same = cc
    from at b (Some c) is same =
        let one : listing view c ≡ b = cc in
        let inside = (btree_map_get_iff nat_cmp_total exact_unsigned t.blocks ordered at c).0 is in
        subst (λ b. Stands A (listings view t) b (A.transfer at b.elem)) one
        (All-contains (λ (e : ℕ × Block E). Stands A (listings view t) (listing view e.1) (A.transfer e.0 (view e.1.elem))) t.blocks.entries (at, c) all inside)

-- ---- the entries of a map up to a key
-- what stands before a key's place holds the lesser keys
pub earlier : {X : Type 0} (P : ℕ × X → Type 0) (m : BTreeMap ℕ X) (done rest : List (ℕ × X)) (at : ℕ) (b : X) → m.entries ≡ done ++ (at, b) ∷ rest → IsOrdered nat_cmp m
    → All P done → (a : ℕ) (c : X) → get nat_cmp m a ≡ Some c → a < at → P (a, c)
earlier {X} P m done rest at b split ordered all a c is below =
    let inside = (btree_map_get_iff nat_cmp_total exact_unsigned m ordered a c).0 is in
    let k = inside.0 in
    let within = inside.1 in
    let here : get_or m.entries k (a, c) ≡ (a, c) = inside.2 in
    elim (cases_lt k (length done)) [
      | inl before ↦
          let read : get_or done k (a, c) ≡ (a, c) = sym (get_or_append_left done ((at, b) ∷ rest) (a, c) k before) ∙ ap (λ es. get_or es k (a, c)) (sym split) ∙ here in
          subst P read (all k (a, c) before)
      | inr past ↦ absurd (past_key k within here past)
    ]
  where
    seam : get_or m.entries (length done) (a, c) ≡ (at, b)
    seam = ap (λ es. get_or es (length done) (a, c)) split ∙ get_or_at done (at, b) rest (a, c) (length done) refl

    less_told : (x y : ℕ) → nat_cmp x y ≡ Less → x < y
    less_told x y h = grind (arith, nat_tests)

    key_at : (i : ℕ) → i < length m.entries → get_or (map (λ (e : ℕ × X). e.0) m.entries) i a ≡ (get_or m.entries i (a, c)).0
    key_at i lt = get_or-map (λ (e : ℕ × X). e.0) m.entries i (a, c) a lt

    past_key : (k : ℕ) → k < length m.entries → get_or m.entries k (a, c) ≡ (a, c) → length done ≤ k → ⊥
    past_key k within here past =
        elim (cases_lt (length done) k) [
          | inl after ↦
              let long = length-map m.entries (λ (e : ℕ × X). e.0) in
              let less = Less-from_sorted nat_cmp (map (λ (e : ℕ × X). e.0) m.entries) (length done) k a ordered after (omega (arith, long)) in
              let lower : get_or (map (λ (e : ℕ × X). e.0) m.entries) (length done) a ≡ at = key_at (length done) (omega arith) ∙ ap (λ (e : ℕ × X). e.0) seam in
              let upper : get_or (map (λ (e : ℕ × X). e.0) m.entries) k a ≡ a = key_at k within ∙ ap (λ (e : ℕ × X). e.0) here in
              let told = less_told (get_or (map (λ (e : ℕ × X). e.0) m.entries) (length done) a) (get_or (map (λ (e : ℕ × X). e.0) m.entries) k a) less in
              omega (arith, told, lower, upper)
          | inr not_after ↦
              let same : k ≡ length done = omega arith in
              let one : (at, b) ≡ (a, c) = sym seam ∙ sym (ap (λ k. get_or m.entries k (a, c)) same) ∙ here in
              let key : at ≡ a = ap (λ (e : ℕ × X). e.0) one in
              omega (arith, key)
        ]

-- what holds of all entries holds of the one between
pub at_seam : {X : Type 0} (P : X → Type 0) (es done rest : List X) (x : X) → es ≡ done ++ x ∷ rest → All P es → P x
at_seam {X} P es done rest x split all =
    All-contains P es x all (subst (λ es. Contains es x) (sym split) (Contains-append_right done (x ∷ rest) x (Contains-append_left (x ∷ []) rest x (Contains-push [] x))))

-- The blocks of lesser addresses stand.
pub earlier_stands : {E P W S : Type 0} (view : E → P) (A : Analysis P W S) (t : Table E) (done rest : List (ℕ × Block E)) (at : ℕ) (b : Block E) → t.blocks.entries ≡ done ++ (at, b) ∷ rest
    → IsOrdered nat_cmp t.blocks → AllStand view A t done → (a : ℕ) (c : Listing P) → listings view t a ≡ Some c → a < at → Stands A (listings view t) c (A.transfer a c.elem)
earlier_stands {E} {P} {W} {S} view A t done rest at b split ordered all a c is below = from (get nat_cmp t.blocks a) refl is
  where
    from : (x : Option (Block E)) → get nat_cmp t.blocks a ≡ x → option_map (listing view) x ≡ Some c → Stands A (listings view t) c (A.transfer a c.elem)
    from None is same = cc
    from (Some d) is same =
        let one : listing view d ≡ c = cc in
        subst (λ c. Stands A (listings view t) c (A.transfer a c.elem)) one
        (earlier (λ (e : ℕ × Block E). Stands A (listings view t) (listing view e.1) (A.transfer e.0 (view e.1.elem))) t.blocks done rest at b split ordered all a d is below)
