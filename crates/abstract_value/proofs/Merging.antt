-- One more element of a list of parts or cases.
use Rattle.std.proofs.Common.{◌≡◌, ℕ, zero, suc, ◌+◌, ◌<◌, List, [], ◌∷◌, ◌++◌, length, map, take, drop, get_or, ◌∙◌, Option, Some, None, Result, Ok, Err, refl, sym, ap, subst, arith, min, ◌≤◌, length-drop}
use Rattle.std.specs.Prelude.{IfOk, IsOkAnd, ◌&&◌, ◌==◌, if◌then◌else◌}
use Rattle.base_trait.proofs.Lists.{number_itself}
use Rattle.base_trait.specs.Algebra.{Algebra}
use Rattle.abstract_map_laws.specs.Maps.{Fits as MapFits, Map}
use Rattle.word_operations.specs.Width.{IsWidth}
use Rattle.abstract_map.proofs.ByKey.{push_more}
use Rattle.abstract_value_laws.specs.Abs as v
use Rattle.abstract_value_laws.specs.Abs.{Abs, Parts, Cases, absent, present, part, no_part, no_case, parts, cases, parts_onto, cases_onto, case_onto}
use Rattle.abstract_value_laws.specs.Calls.{either, merge_case, merge_cases, merge_parts}
use Rattle.abstract_value_laws.specs.Calls.{merge_of}
use Rattle.abstract_value_laws.specs.Fits.{CaseFits, CasesFit, Fits, PartsFit}
use Rattle.abstract_value_laws.specs.OfValues.{absent_onto, one_case}
use Rattle.abstract_value.specs.Constructors.{AreOnly, IsOnly, only}
use Rattle.abstract_value.specs.View.{abs, case_of, cases_of}
use Rattle.abstract_value.specs.declared.constructors.Constructors.{Constructors}
use Rattle.abstract_value.specs.declared.value.AbstractValue.{AbstractValue, Data, Flag, Map as AMap, Word}
use Rattle.base_trait.specs.declared.tri.Tri.{Tri}
use Rattle.abstract_value.proofs.Alone.{alone_seen, one_seen}
use Rattle.abstract_value.proofs.Views.{abs_Data, abs_Flag, abs_Map, abs_Word}
use Rattle.spec_match_compiler.proofs.Loops.{drop_here}

-- the view of one more
module _ {A D : Type 0} (f : A → D) where
  pub map_push : (xs : List A) (x : A) → map f (xs ++ x ∷ []) ≡ map f xs ++ f x ∷ []
  map_push [] x = refl
  map_push (y ∷ xs) x = ap (λ l. f y ∷ l) (map_push xs x)

  pub seen_more : (out out' : List A) (z : A) (xs : List A) (i : ℕ) (d : A) → i < length xs → map f out ≡ map f (take i xs) → out' ≡ out ++ z ∷ [] → f z ≡ f (get_or xs i d) → map f out' ≡ map f (take (i + 1) xs)
  seen_more out out' z xs i d l h p e = push_more f (map f out) (map f out') (f z) xs i d l h (ap (map f) p ∙ map_push out z) e

  -- the same of one that may fail
  pub seen_pushed : {E : Type 0} (item : Result A E) (out out' : List A) (xs : List A) (i : ℕ) (x : A) → i < length xs → x ≡ get_or xs i x → map f out ≡ map f (take i xs) → IsOkAnd item (λ z. out' ≡ out ++ z ∷ []) → IfOk item (λ z. f z ≡ f x) → map f out' ≡ map f (take (i + 1) xs)
  seen_pushed (Ok z) out out' xs i x l e p q h = seen_more out out' z xs i x l p q (h ∙ ap f e)
  seen_pushed (Err e) out out' xs i x l k p q h = absurd q

  -- one more of what is made of each
  pub taken_pushed : {E : Type 0} (item : Result D E) (out out' : List D) (xs : List A) (i : ℕ) (d : A) → i < length xs → out ≡ map f (take i xs) → IsOkAnd item (λ z. out' ≡ out ++ z ∷ []) → IfOk item (λ z. z ≡ f (get_or xs i d)) → out' ≡ map f (take (i + 1) xs)
  taken_pushed (Ok z) out out' xs i d l p q h = push_more f out out' z xs i d l p q h
  taken_pushed (Err k) out out' xs i d l p q h = absurd q

module _ {W N : Type 0} where
  pub parts_onto_more : (out : List (Abs W N)) (z : Abs W N) (rest : Parts W N) → parts_onto (out ++ z ∷ []) rest ≡ parts_onto out (part z rest)
  parts_onto_more [] z rest = refl
  parts_onto_more (x ∷ out) z rest = ap (part x) (parts_onto_more out z rest)

  pub cases_onto_more : (out : List (Option (Parts W N))) (z : Option (Parts W N)) (rest : Cases W N) → cases_onto (out ++ z ∷ []) rest ≡ cases_onto out (case_onto z rest)
  cases_onto_more [] z rest = refl
  cases_onto_more (x ∷ out) z rest = ap (case_onto x) (cases_onto_more out z rest)

module _ {W N : Type 0} (words : ℕ → W → W → W) (maps : Map W N → Map W N → Map W N) where
  -- one step of merging two lists of cases
  pub merge_case_step : (x y : Option (Parts W N)) (cs ds : Cases W N) → merge_cases words maps (case_onto x cs) (case_onto y ds) ≡ case_onto (merge_case words maps x y) (merge_cases words maps cs ds)
  merge_case_step None None cs ds = refl
  merge_case_step None (Some ys) cs ds = refl
  merge_case_step (Some xs) None cs ds = refl
  merge_case_step (Some xs) (Some ys) cs ds = refl

  -- where one constructor is present in both
  none_merged : (n : ℕ) → merge_cases words maps (absent_onto n no_case) (absent_onto n no_case) ≡ absent_onto n no_case
  none_merged zero = refl
  none_merged (suc n) = ap (λ z. absent z) (none_merged n)

  pub one_merged : (n k : ℕ) (xs ys : Parts W N) → k < n → merge_cases words maps (one_case n k xs) (one_case n k ys) ≡ one_case n k (merge_parts words maps xs ys)
  one_merged zero k xs ys h = absurd (omega (arith, h))
  one_merged (suc n) zero xs ys h = ap (λ z. present (merge_parts words maps xs ys) z) (none_merged n)
  one_merged (suc n) (suc k) xs ys h = ap (λ z. absent z) (one_merged n k xs ys (omega (arith, h)))

  -- words of one width, and maps of one type and one width
  pub merged_word : (w u : ℕ) (x y z : W) → w ≡ u → z ≡ words w x y → v.word w z ≡ merge_of words maps (v.word w x) (v.word u y)
  merged_word w u x y z e h = ap (λ k. v.word w k) h ∙ sym (ap (λ t. if t then v.word w (words w x y) else v.word w x) (ap (λ k. w == k) (sym e) ∙ number_itself w))

  pub merged_map : (m n : ℕ) (x y z : Map W N) → m ≡ n → x.width ≡ y.width → z ≡ maps x y → v.map m z ≡ merge_of words maps (v.map m x) (v.map n y)
  merged_map m n x y z e d h =
      ap (λ k. v.map m k) h
      ∙ sym (ap (λ t. if t then v.map m (maps x y) else v.map m x) (ap (λ t. t && x.width == y.width) (ap (λ k. m == k) (sym e) ∙ number_itself m) ∙ ap (λ k. x.width == k) (sym d) ∙ number_itself x.width))

-- one more element merged, which may fail
module _ {X W N C : Type 0} (words : ℕ → W → W → W) (maps : Map W N → Map W N → Map W N) where
  pub parts_pushed : {E : Type 0} (item : Result (AbstractValue X W N C) E) (xs ys : List (AbstractValue X W N C)) (i n : ℕ) (x y : AbstractValue X W N C) (out out' : List (AbstractValue X W N C)) (whole : Parts W N) → i < n → n ≡ min (length xs) (length ys) → x ≡ get_or xs i x → y ≡ get_or ys i y
      → IsOkAnd item (λ z. out' ≡ out ++ z ∷ []) → IfOk item (λ z. abs z ≡ merge_of words maps (abs x) (abs y))
      → parts_onto (map abs out) (merge_parts words maps (parts (map abs (drop i xs))) (parts (map abs (drop i ys)))) ≡ whole
      → parts_onto (map abs out') (merge_parts words maps (parts (map abs (drop (i + 1) xs))) (parts (map abs (drop (i + 1) ys)))) ≡ whole
  parts_pushed (Err e) xs ys i n x y out out' whole l m p q k h w = absurd k
  parts_pushed (Ok z) xs ys i n x y out out' whole l m p q k h w =
      let rest = merge_parts words maps (parts (map abs (drop (i + 1) xs))) (parts (map abs (drop (i + 1) ys))) in
      let left : i < length xs = omega (arith, l, m) in
      let right : i < length ys = omega (arith, l, m) in
      ap (λ o. parts_onto (map abs o) rest) k ∙ ap (λ o. parts_onto o rest) (map_push (λ v. abs v) out z) ∙ parts_onto_more (map abs out) (abs z) rest ∙ ap (λ v. parts_onto (map abs out) (part v rest)) h
      ∙ ap (λ o. parts_onto (map abs out) (merge_parts words maps (parts (map abs o)) (part (abs y) (parts (map abs (drop (i + 1) ys)))))) (sym (drop_here xs i x p left))
      ∙ ap (λ o. parts_onto (map abs out) (merge_parts words maps (parts (map abs (drop i xs))) (parts (map abs o)))) (sym (drop_here ys i y q right)) ∙ w

  pub cases_pushed : {E Z : Type 0} (view : Z → Option (List (AbstractValue X W N C))) (item : Result Z E) (xs ys : List (Option (List (AbstractValue X W N C)))) (i n : ℕ) (x y : Option (List (AbstractValue X W N C))) (out out' : List (Option (List (AbstractValue X W N C)))) (whole : Cases W N) → i < n → n ≡ min (length xs) (length ys) → x ≡ get_or xs i x → y ≡ get_or ys i y
      → IsOkAnd item (λ z. out' ≡ out ++ view z ∷ []) → IfOk item (λ z. case_of (view z) ≡ merge_case words maps (case_of x) (case_of y))
      → cases_onto (map case_of out) (merge_cases words maps (cases (map case_of (drop i xs))) (cases (map case_of (drop i ys)))) ≡ whole
      → cases_onto (map case_of out') (merge_cases words maps (cases (map case_of (drop (i + 1) xs))) (cases (map case_of (drop (i + 1) ys)))) ≡ whole
  cases_pushed view (Err e) xs ys i n x y out out' whole l m p q k h w = absurd k
  cases_pushed view (Ok z) xs ys i n x y out out' whole l m p q k h w =
      let cs = cases (map case_of (drop (i + 1) xs)) in
      let ds = cases (map case_of (drop (i + 1) ys)) in
      let rest = merge_cases words maps cs ds in
      let left : i < length xs = omega (arith, l, m) in
      let right : i < length ys = omega (arith, l, m) in
      ap (λ o. cases_onto (map case_of o) rest) k ∙ ap (λ o. cases_onto o rest) (map_push (λ v. case_of v) out (view z)) ∙ cases_onto_more (map case_of out) (case_of (view z)) rest ∙ ap (λ v. cases_onto (map case_of out) (case_onto v rest)) h
      ∙ ap (λ o. cases_onto (map case_of out) o) (sym (merge_case_step words maps (case_of x) (case_of y) cs ds))
      ∙ ap (λ o. cases_onto (map case_of out) (merge_cases words maps (cases (map case_of o)) (case_onto (case_of y) ds))) (sym (drop_here xs i x p left))
      ∙ ap (λ o. cases_onto (map case_of out) (merge_cases words maps (cases (map case_of (drop i xs))) (cases (map case_of o)))) (sym (drop_here ys i y q right)) ∙ w

  -- one constructor that is present alone in both
  pub alone_merged : (l m r : List (Option (List (AbstractValue X W N C)))) (k : ℕ) (f g h : List (AbstractValue X W N C)) → AreOnly l m k f g → r ≡ only (length l) k h → parts (map abs h) ≡ merge_parts words maps (parts (map abs f)) (parts (map abs g))
      → cases (map case_of r) ≡ merge_cases words maps (cases (map case_of l)) (cases (map case_of m))
  alone_merged l m r k f g h o e d =
      let n = length l in
      ap (λ z. cases (map case_of z)) e ∙ one_seen n k h o.first.within ∙ ap (λ z. one_case n k z) d ∙ sym (one_merged words maps n k (parts (map abs f)) (parts (map abs g)) o.first.within)
      ∙ sym (ap (λ z. merge_cases words maps z (cases (map case_of m))) (alone_seen l k f o.first) ∙ ap (λ z. merge_cases words maps (one_case n k (parts (map abs f))) z) (alone_seen m k g o.second ∙ ap (λ i. one_case i k (parts (map abs g))) (sym o.lengths)))

  -- the merging of two values, by their forms
  merged_seen : (x y : AbstractValue X W N C) (p q z : Abs W N) → abs x ≡ p → abs y ≡ q → z ≡ merge_of words maps p q → z ≡ merge_of words maps (abs x) (abs y)
  merged_seen x y p q z e d h = h ∙ ap (λ k. merge_of words maps k q) (sym e) ∙ ap (λ k. merge_of words maps (abs x) k) (sym d)

  pub flags_merged : (x y : AbstractValue X W N C) (t u r : Tri) → x ≡ Flag t → y ≡ Flag u → r ≡ either t u → abs {X = X} {W = W} {N = N} {C = C} (Flag r) ≡ merge_of words maps (abs x) (abs y)
  flags_merged x y t u r e d h = abs_Flag X W N C r ∙ merged_seen x y (v.flag t) (v.flag u) (v.flag r) (ap abs e ∙ abs_Flag X W N C t) (ap abs d ∙ abs_Flag X W N C u) (ap (λ k. v.flag k) h)

  pub words_merged : (x y : AbstractValue X W N C) (w u : ℕ) (k l r : W) → x ≡ Word w k → y ≡ Word u l → w ≡ u → r ≡ words w k l → abs {X = X} {W = W} {N = N} {C = C} (Word w r) ≡ merge_of words maps (abs x) (abs y)
  words_merged x y w u k l r e d h f = abs_Word X N C w r ∙ merged_seen x y (v.word w k) (v.word u l) (v.word w r) (ap abs e ∙ abs_Word X N C w k) (ap abs d ∙ abs_Word X N C u l) (merged_word words maps w u k l r h f)

  pub maps_merged : (x y : AbstractValue X W N C) (m n : ℕ) (k l r : Map W N) (a b : ℕ) → x ≡ AMap m k → y ≡ AMap n l → m ≡ n → a ≡ k.width → b ≡ l.width → a ≡ b → r ≡ maps k l → abs {X = X} {W = W} {N = N} {C = C} (AMap m r) ≡ merge_of words maps (abs x) (abs y)
  maps_merged x y m n k l r a b e d h i j f g = abs_Map X C m r ∙ merged_seen x y (v.map m k) (v.map n l) (v.map m r) (ap abs e ∙ abs_Map X C m k) (ap abs d ∙ abs_Map X C n l) (merged_map words maps m n k l r h (sym i ∙ f ∙ j) g)

  pub made_merged : (x y : AbstractValue X W N C) (t u : ℕ) (cs ds r : Constructors (AbstractValue X W N C)) → x ≡ Data t cs → y ≡ Data u ds → cases_of r ≡ merge_cases words maps (cases_of cs) (cases_of ds) → abs (Data t r) ≡ merge_of words maps (abs x) (abs y)
  made_merged x y t u cs ds r e d f =
      abs_Data t r ∙ merged_seen x y (v.made t (cases_of cs)) (v.made u (cases_of ds)) (v.made t (cases_of r)) (ap abs e ∙ abs_Data t cs) (ap abs d ∙ abs_Data u ds) (ap (λ z. v.made t z) f)

  -- merging ends with the shorter list
  pub parts_done : (xs ys : List (AbstractValue X W N C)) (i n : ℕ) (out : List (AbstractValue X W N C)) (whole : Parts W N) → n ≤ i → n ≡ min (length xs) (length ys)
      → parts_onto (map abs out) (merge_parts words maps (parts (map abs (drop i xs))) (parts (map abs (drop i ys)))) ≡ whole → parts (map abs out) ≡ whole
  parts_done xs ys i n out whole l m h = ap (λ k. parts_onto (map abs out) k) (sym (ends (drop i xs) (drop i ys) (omega (arith, l, m, length-drop i xs, length-drop i ys)))) ∙ h
    where
      ends : (ps qs : List (AbstractValue X W N C)) → min (length ps) (length qs) ≡ 0 → merge_parts words maps (parts (map abs ps)) (parts (map abs qs)) ≡ no_part
      ends [] qs e = refl
      ends (a ∷ ps) [] e = refl
      ends (a ∷ ps) (d ∷ qs) e = absurd (omega arith)

  pub cases_done : (xs ys : List (Option (List (AbstractValue X W N C)))) (i n : ℕ) (out : List (Option (List (AbstractValue X W N C)))) (whole : Cases W N) → n ≤ i → n ≡ min (length xs) (length ys)
      → cases_onto (map case_of out) (merge_cases words maps (cases (map case_of (drop i xs))) (cases (map case_of (drop i ys)))) ≡ whole → cases (map case_of out) ≡ whole
  cases_done xs ys i n out whole l m h = ap (λ k. cases_onto (map case_of out) k) (sym (ends (drop i xs) (drop i ys) (omega (arith, l, m, length-drop i xs, length-drop i ys)))) ∙ h
    where
      ends : (ps qs : List (Option (List (AbstractValue X W N C)))) → min (length ps) (length qs) ≡ 0 → merge_cases words maps (cases (map case_of ps)) (cases (map case_of qs)) ≡ no_case
      ends [] qs e = refl
      ends (None ∷ ps) [] e = refl
      ends (Some a ∷ ps) [] e = refl
      ends (a ∷ ps) (d ∷ qs) e = absurd (omega arith)

-- an index below the shorter length
pub below_min : (i n a b : ℕ) → i < n → n ≡ min a b → (i < a) × (i < b)
below_min i n a b l m = (omega (arith, l, m), omega (arith, l, m))

module _ {W N C : Type 0} (B : Algebra W N C) (c : C) (cap : ℕ) where
  case_fits : (x : Option (Parts W N)) (cs : Cases W N) → CasesFit B c cap (case_onto x cs) → CaseFits B c cap x × CasesFit B c cap cs
  case_fits None cs h = (tt, h)
  case_fits (Some xs) cs h = h

-- what fits of the first of those that are left, and of the others
module _ {X W N C : Type 0} (B : Algebra W N C) (c : C) (cap : ℕ) where
  pub parts_fit_here : (xs : List (AbstractValue X W N C)) (i : ℕ) (x : AbstractValue X W N C) → x ≡ get_or xs i x → i < length xs → PartsFit B c cap (parts (map abs (drop i xs))) → Fits B c cap (abs x) × PartsFit B c cap (parts (map abs (drop (i + 1) xs)))
  parts_fit_here xs i x p l h = subst (λ k. PartsFit B c cap (parts (map abs k))) (drop_here xs i x p l) h

  -- what fits of a word, a map and a constructor value
  pub word_fits_of : (x : AbstractValue X W N C) (w : ℕ) (k : W) → x ≡ Word w k → Fits B c cap (abs x) → IsWidth w × B.words.fits c w k
  word_fits_of x w k e h = subst (λ z. Fits B c cap z) (ap abs e ∙ abs_Word X N C w k) h

  -- of a word of the same width as another
  pub other_fits_of : (x : AbstractValue X W N C) (w u : ℕ) (k : W) → x ≡ Word u k → w ≡ u → Fits B c cap (abs x) → B.words.fits c w k
  other_fits_of x w u k e d h = subst (λ z. B.words.fits c z k) (sym d) (word_fits_of x u k e h).1

  pub map_fits_of : (x : AbstractValue X W N C) (m : ℕ) (k : Map W N) → x ≡ AMap m k → Fits B c cap (abs x) → MapFits B c cap k
  map_fits_of x m k e h = subst (λ z. Fits B c cap z) (ap abs e ∙ abs_Map X C m k) h

  pub cases_fit_of : (x : AbstractValue X W N C) (t : ℕ) (cs : Constructors (AbstractValue X W N C)) → x ≡ Data t cs → Fits B c cap (abs x) → CasesFit B c cap (cases_of cs)
  cases_fit_of x t cs e h = subst (λ k. Fits B c cap k) (ap abs e ∙ abs_Data t cs) h

  pub cases_fit_here : (xs : List (Option (List (AbstractValue X W N C)))) (i : ℕ) (x : Option (List (AbstractValue X W N C))) → x ≡ get_or xs i x → i < length xs → CasesFit B c cap (cases (map case_of (drop i xs))) → CaseFits B c cap (case_of x) × CasesFit B c cap (cases (map case_of (drop (i + 1) xs)))
  cases_fit_here xs i x p l h = case_fits B c cap (case_of x) (cases (map case_of (drop (i + 1) xs))) (subst (λ k. CasesFit B c cap (cases (map case_of k))) (drop_here xs i x p l) h)

  -- what fits of the fields of one constructor
  pub parts_fit_of : (o : Option (List (AbstractValue X W N C))) (f : List (AbstractValue X W N C)) → o ≡ Some f → CaseFits B c cap (case_of o) → PartsFit B c cap (parts (map abs f))
  parts_fit_of o f e h = subst (λ k. CaseFits B c cap (case_of k)) e h

  pub alone_fits : (l : List (Option (List (AbstractValue X W N C)))) (k : ℕ) (f : List (AbstractValue X W N C)) → IsOnly l k f → CasesFit B c cap (cases (map case_of l)) → PartsFit B c cap (parts (map abs f))
  alone_fits l k f o h = present_fits (length l) k o.within (subst (λ z. CasesFit B c cap z) (alone_seen l k f o) h)
    where
      present_fits : (n k : ℕ) → k < n → CasesFit B c cap (one_case n k (parts (map abs f))) → PartsFit B c cap (parts (map abs f))
      present_fits zero k l h = absurd (omega (arith, l))
      present_fits (suc n) zero l h = h.0
      present_fits (suc n) (suc k) l h = present_fits n k (omega (arith, l)) h
