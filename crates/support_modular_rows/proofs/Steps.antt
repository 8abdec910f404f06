-- The steps of an image.
use Rattle.std.proofs.Common.{◌≡◌, ◌≢◌, ℕ, suc, ◌+◌, ◌<◌, List, [], ◌∷◌, ◌++◌, length, get_or, take, refl, ap, sym, ◌∙◌, subst, arith, Option, Some, None, slice_get, is_some, not, Bool, true, false}
use Rattle.support_modular_rows.specs.Submodule.{Submodule, Adds, unit_row}
use Rattle.support_modular_rows.specs.Reduction.{Span}
use Rattle.support_modular_rows.specs.Forms.{HasEntry}
use Rattle.support_modular_rows.specs.Values.{form_at, Images, Forgotten}
use Rattle.support_modular_rows.proofs.Growth.{greatest}
use Rattle.support_modular_rows.proofs.Images.{adds_to, adds_from, images_more, images_none, take_snoc}
use Rattle.support_modular_rows.proofs.Forgets.{forgotten_known, forgotten_more}
use Rattle.support_modular_rows.proofs.Entries.{values_alike, form_read}

added_down : (k : ℕ) (s t : Submodule) (r : List ℕ) → s.k ≡ k → Adds s r t → (v : ℕ → ℕ) → Span greatest (k + 1) t.rows v → Span greatest (k + 1) (r ∷ s.rows) v
added_down k s t r same adds v h =
    subst (λ k. Span greatest (k + 1) (r ∷ s.rows) v) same (adds_to s t r v adds (subst (λ k. Span greatest (k + 1) t.rows v) (sym same) h))

added_up : (k : ℕ) (s t : Submodule) (r : List ℕ) → s.k ≡ k → Adds s r t → (v : ℕ → ℕ) → Span greatest (k + 1) (r ∷ s.rows) v → Span greatest (k + 1) t.rows v
added_up k s t r same adds v h =
    subst (λ k. Span greatest (k + 1) t.rows v) same (adds_from s t r v adds (subst (λ k. Span greatest (k + 1) (r ∷ s.rows) v) (sym same) h))

pub values_start : (k : ℕ) (fs : List (Option (List ℕ))) (rows : List (List ℕ)) → rows ≡ [] → Images (k + 1) fs [] rows
values_start k fs rows e = subst (Images (k + 1) fs []) (sym e) (images_none (k + 1) (omega arith) fs)

-- the values over one generating row more
pub values_step : (from into new : Submodule) (fs : List (Option (List ℕ))) (i columns : ℕ) (r out : List ℕ) → into.k ≡ from.k → slice_get from.rows i ≡ Some r → length r ≡ from.k + 1
    → get_or out 0 0 ≡ get_or r 0 0 → ((i : ℕ) → i < from.k → HasEntry (form_at fs i) r (get_or out (i + 1) 0)) → columns ≡ from.k + 1 → Adds into (take columns out) new
    → Images (from.k + 1) fs (take i from.rows) into.rows → Images (from.k + 1) fs (take (i + 1) from.rows) new.rows
values_step from into new fs i columns r out same item size first cells width adds old =
    let adds' : Adds into (take (from.k + 1) out) new = subst (λ n. Adds into (take n out) new) width adds in
    let one_more : take i from.rows ++ r ∷ [] ≡ take (i + 1) from.rows =
    sym (take_snoc from.rows i r item) ∙ (let e : suc i ≡ i + 1 = omega arith in ap (λ j. take j from.rows) e) in
    subst (λ xs. Images (from.k + 1) fs xs new.rows) one_more
    (images_more (from.k + 1) (omega arith) fs (take i from.rows) into.rows new.rows r (take (from.k + 1) out) old
    (values_alike from.k fs r out size first cells)
    (added_down from.k into new (take (from.k + 1) out) same adds') (added_up from.k into new (take (from.k + 1) out) same adds'))

no_form : (x : Option (List ℕ)) (b : Bool) → is_some x ≡ not b → b ≡ true → x ≡ None
no_form None b e t = refl
no_form (Some x) true e t = cc
no_form (Some x) false e t = cc

some_form : (x : Option (List ℕ)) (b : Bool) → is_some x ≡ not b → b ≡ false → x ≢ None
some_form None true e t n = cc
some_form None false e t n = cc
some_form (Some x) b e t n = cc

-- a cell with a form, and one with none
pub forget_known : (k cell : ℕ) (fs : List (Option (List ℕ))) (x : Option (List ℕ)) (b : Bool) (old rows : List (List ℕ)) → x ≡ get_or fs cell x → cell < length fs → is_some x ≡ not b → b ≡ false
    → Forgotten fs (k + 1) cell old rows → Forgotten fs (k + 1) (cell + 1) old rows
forget_known k cell fs x b old rows is lt e none f =
    forgotten_known fs (k + 1) cell old rows (λ n. some_form x b e none (sym (form_read fs cell x is lt) ∙ n)) f

pub forget_more : (k cell : ℕ) (fs : List (Option (List ℕ))) (x : Option (List ℕ)) (b : Bool) (old : List (List ℕ)) (s t : Submodule) → x ≡ get_or fs cell x → cell < length fs → length fs ≡ k
    → is_some x ≡ not b → b ≡ true → s.k ≡ k → Adds s (unit_row (s.k + 1) (cell + 1)) t
    → Forgotten fs (k + 1) cell old s.rows → Forgotten fs (k + 1) (cell + 1) old t.rows
forget_more k cell fs x b old s t is lt size e none same adds f =
    let adds' : Adds s (unit_row (k + 1) (cell + 1)) t = subst (λ n. Adds s (unit_row (n + 1) (cell + 1)) t) same adds in
    forgotten_more fs (k + 1) cell old s.rows t.rows (omega arith) (form_read fs cell x is lt ∙ no_form x b e none) f
    (added_down k s t (unit_row (k + 1) (cell + 1)) same adds') (added_up k s t (unit_row (k + 1) (cell + 1)) same adds')
