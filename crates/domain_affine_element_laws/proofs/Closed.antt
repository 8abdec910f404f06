-- The element behind an instruction is the image of the one before it.
use Rattle.std.proofs.Common.{◌≡◌, ℕ, zero, suc, ◌+◌, ◌*◌, ◌%◌, ◌^◌, ◌<◌, ◌≤◌, List, [], ◌∷◌, length, map, get_or, Option, Some, None, refl, sym, ap, ◌∙◌, subst, arith}
use Rattle.std.specs.Prelude.{replicate}
use Rattle.std.proofs.lemmas.List.{length-replicate}
use Rattle.support_modular_rows.specs.Submodule.{HasValue, IsMember, Submodule, dot, unit_row}
use Rattle.support_modular_rows.specs.Values.{Forgotten, Images, dot_first, form_at, image, plain}
use Rattle.support_modular_rows.proofs.Forgets.{forgotten_known, forgotten_more, forgotten_none, image_from, image_to}
use Rattle.support_modular_rows.proofs.Growth.{greatest, of}
use Rattle.support_modular_rows.proofs.Closure.{image_grows, rows_are_members}
use Rattle.support_modular_rows.proofs.Images.{away, dot_linear, dot_zero, images_none}
use Rattle.support_modular_rows.proofs.Spans.{Alike, cong_add, cong_mul, span_alike}
use Rattle.base_trait.specs.Lists.{Each}
use Rattle.domain_affine_base.specs.Exact.{form_of}
use Rattle.domain_affine_base.specs.Results.{alone}
use Rattle.domain_affine_base.specs.Words.{Fits, Stands}
use Rattle.domain_affine_base.specs.declared.word.Word.{Word}
use Rattle.domain_affine_base.specs.declared.word.Word.TheVariants.{Any, Const, Form}
use Rattle.domain_affine_element_laws.specs.Closed.{closed_rows, image_row, value_over, with_all_free, with_free}
use Rattle.domain_affine_element_laws.specs.Laws.{ClosesSame, ClosesSoundly, ClosesToImage, EntersSoundly, StandAll}

-- ---- values over rows
dot_reads : (n : ℕ) (cs xs : List ℕ) → length cs ≤ n → dot cs xs ≡ dot_first n cs (of xs)
dot_reads zero [] xs le = refl
dot_reads zero (c ∷ cs) xs le = absurd (omega (arith, le))
dot_reads (suc n) [] xs le = refl
dot_reads (suc n) (c ∷ cs) [] le = let none = dot_zero n cs in omega (arith, none)
dot_reads (suc n) (c ∷ cs) (x ∷ xs) le = ap (λ y. c * x + y) (dot_reads n cs xs (omega (arith, le)))

-- a form with at most n numbers
abbrev IsShort : ℕ → Option (List ℕ) → Type 0
IsShort n None = Unit {0}
IsShort n (Some c) = length c ≤ n

value_reads : (n : ℕ) (f : Option (List ℕ)) (r : List ℕ) → IsShort n f → value_over r f ≡ plain n f (of r)
value_reads n None r short = refl
value_reads n (Some c) r short = dot_reads n c r short

values_read : (n : ℕ) (forms : List (Option (List ℕ))) (r : List ℕ) (j : ℕ) → Each (IsShort n) forms → get_or (map (value_over r) forms) j 0 ≡ plain n (form_at forms j) (of r)
values_read n [] r j short = refl
values_read n (f ∷ forms) r zero short = value_reads n f r short.0
values_read n (f ∷ forms) r (suc j) short = values_read n forms r j short.1

module _ (n : ℕ) (positive : 0 < n) (forms : List (Option (List ℕ))) (short : Each (IsShort n) forms) where
  row_reads : (r : List ℕ) → Alike greatest n (of (image_row forms r)) (image n forms (of r))
  row_reads r zero lt = refl
  row_reads r (suc j) lt = ap (λ z. z % 2 ^ 32) (values_read n forms r j short)

  plain_linear : (f : Option (List ℕ)) (q : ℕ) (v w : ℕ → ℕ) → plain n f (λ j. v j + q * w j) ≡ plain n f v + q * plain n f w
  plain_linear None q v w = omega arith
  plain_linear (Some c) q v w = dot_linear n c q v w

  image_linear : (q : ℕ) (v w : ℕ → ℕ) (j : ℕ) → image n forms (λ j. v j + q * w j) j ≡ image n forms v j + q * image n forms w j
  image_linear q v w zero = refl
  image_linear q v w (suc j) = plain_linear (form_at forms j) q v w

  -- the values over a row, in front of those over others
  images_first : (xs rows : List (List ℕ)) (r g : List ℕ) → Images n forms xs rows → Alike greatest n (of g) (image n forms (of r)) → Images n forms (r ∷ xs) (g ∷ rows)
  images_first xs rows r g i alike = record {
    to = λ v (c, h).
        let old = i.to (λ j. v j + c * of g j) h in (
          (λ j. old.0 j + greatest * c * of r j),
          (
            c,
            span_alike greatest n xs old.0 (λ j. old.0 j + greatest * c * of r j + c * of r j)
                (λ j lt. sym ((let f : old.0 j + greatest * c * of r j + c * of r j ≡ old.0 j + c * of r j + greatest * c * of r j = omega arith in ap (λ z. z % 2 ^ 32) f) ∙ away (old.0 j) (of r j) c)) old.1,
          ),
          λ j lt.
              sym (away (v j) (of g j) c)
              ∙ cong_add greatest (v j + c * of g j) (image n forms old.0 j) (greatest * c * of g j) (greatest * c * image n forms (of r) j) (old.2 j lt)
              (cong_mul greatest (greatest * c) (of g j) (image n forms (of r) j) (alike j lt))
              ∙ ap (λ z. z % 2 ^ 32) (sym (image_linear (greatest * c) old.0 (of r) j)),
        );
    from = λ v (x, (c, hx), hv). (
      c,
      i.from (λ j. v j + c * of g j) (
        (λ j. x j + c * of r j),
        hx,
        λ j lt. cong_add greatest (v j) (image n forms x j) (c * of g j) (c * image n forms (of r) j) (hv j lt) (cong_mul greatest c (of g j) (image n forms (of r) j) (alike j lt))
            ∙ ap (λ z. z % 2 ^ 32) (sym (image_linear c x (of r) j)),
      ),
    );
  }

  images : (rows : List (List ℕ)) → Images n forms rows (map (image_row forms) rows)
  images [] = images_none n positive forms
  images (r ∷ rows) = images_first rows (map (image_row forms) rows) r (image_row forms r) (images rows) (row_reads r)

-- ---- cells of any number
module _ (n : ℕ) (forms : List (Option (List ℕ))) where
  free_step : (cells : ℕ) (old rows : List (List ℕ)) (f : Option (List ℕ)) → f ≡ form_at forms cells → suc cells < n → Forgotten forms n cells old rows
      → Forgotten forms n (cells + 1) old (with_free n cells f rows)
  free_step cells old rows None e lt h = forgotten_more forms n cells old rows (unit_row n (cells + 1) ∷ rows) lt (sym e) h (λ v g. g) (λ v g. g)
  free_step cells old rows (Some c) e lt h = forgotten_known forms n cells old rows (λ none. let both : Some c ≡ None = e ∙ none in cc) h

  free_all : (cells : ℕ) (rows : List (List ℕ)) → cells < n → Forgotten forms n cells rows (with_all_free n forms cells rows)
  free_all zero rows lt = forgotten_none forms n rows
  free_all (suc cells) rows lt =
      let next : cells + 1 ≡ suc cells = omega arith in
      subst (λ j. Forgotten forms n j rows (with_all_free n forms (suc cells) rows)) next
      (free_step cells rows (with_all_free n forms cells rows) (form_at forms cells) refl lt (free_all cells rows (omega (arith, lt))))

-- ---- words
short_word : (k : ℕ) (x : Word) → Fits k 32 x → IsShort (k + 1) (form_of x)
short_word k Any f = tt
short_word k (Const n) f = omega arith
short_word k (Form c) f = let size = f.1 in omega (arith, size)

short_words : (k : ℕ) (words : List Word) → Each (λ x. Fits k 32 x) words → Each (IsShort (k + 1)) (map form_of words)
short_words k [] f = tt
short_words k (x ∷ words) f = (short_word k x f.0, short_words k words f.1)

pub closes_to_image : ClosesToImage
closes_to_image k words rows fits y =
    let s : Submodule = record { k = k; rows = rows } in
    let positive : 0 < k + 1 = omega arith in
    let forms : List (Option (List ℕ)) = map form_of words in
    let middle = images (k + 1) positive (map form_of words) (short_words k words fits) rows in
    let free = free_all (k + 1) (map form_of words) k (map (image_row (map form_of words)) rows) (omega arith) in (
      image_to (map form_of words) (record { k = k; rows = rows }) (map (image_row (map form_of words)) rows) (closed_rows k (map form_of words) rows) positive middle free y,
      image_from (map form_of words) (record { k = k; rows = rows }) (map (image_row (map form_of words)) rows) (closed_rows k (map form_of words) rows) positive middle free y,
    )

has_value : (valuation : List ℕ) (n : ℕ) (x : Word) → Stands valuation x n → HasValue (form_of x) (1 ∷ valuation) n
has_value valuation n Any h = tt
has_value valuation n (Const c) h = alone valuation n c h
has_value valuation n (Form f) h = h

have_values : (valuation : List ℕ) (words : List Word) (next : List ℕ) (i : ℕ) → StandAll valuation words next → HasValue (form_at (map form_of words) i) (1 ∷ valuation) (get_or next i 0)
have_values valuation [] next i h = tt
have_values valuation (x ∷ words) [] i h = absurd h
have_values valuation (x ∷ words) (n ∷ next) zero h = has_value valuation n x h.0
have_values valuation (x ∷ words) (n ∷ next) (suc i) h = have_values valuation words next i h.1

pub closes_soundly : ClosesSoundly
closes_soundly k words rows valuation next fits size member stand =
    let long : length (1 ∷ valuation) ≡ k + 1 = omega (arith, size) in
    (closes_to_image k words rows fits (1 ∷ next)).1 (
      1 ∷ valuation,
      long,
      member,
      record {
        first = refl;
        cells = λ i lt. let up : suc i ≡ i + 1 = omega arith in
            subst (λ j. HasValue (form_at (map form_of words) i) (1 ∷ valuation) (get_or (1 ∷ next) j 0)) up (have_values valuation words next i stand);
      },
    )

pub closes_same : ClosesSame
closes_same k words rows others fits same y = (
  λ h. (closes_to_image k words others fits y).1 (image_grows k (map form_of words) rows others (λ x. (same x).0) y ((closes_to_image k words rows fits y).0 h)),
  λ h. (closes_to_image k words rows fits y).1 (image_grows k (map form_of words) others rows (λ x. (same x).1) y ((closes_to_image k words others fits y).0 h)),
)

-- ---- the entry
pub enters_soundly : EntersSoundly
enters_soundly k words numbers fits stand =
    let start : unit_row (k + 1) 0 ≡ 1 ∷ replicate k 0 = (let n : k + 1 ≡ suc k = omega arith in ap (λ n. unit_row n 0) n) in
    let zeros : List ℕ = replicate k 0 in
    closes_soundly k words (unit_row (k + 1) 0 ∷ []) (replicate k 0) numbers fits (length-replicate k zero)
    (subst (IsMember k (unit_row (k + 1) 0 ∷ [])) start (rows_are_members k [] [] (unit_row (k + 1) 0))) stand
