-- One more element of lists of parts or cases.
use Rattle.std.proofs.Common.{◌≡◌, ℕ, ◌+◌, ◌≤◌, List, [], ◌∷◌, ◌++◌, length, drop, min, Option, Some, None, Result, Ok, Err, refl, sym, ap, subst, ◌∙◌, arith, length-drop}
use Rattle.std.specs.Prelude.{map as map_of, IfOk, IsOkAnd, Vec}
use Rattle.std.specs.declared.alloc.Global.{Global}
use Rattle.std.proofs.lemmas.List.{map_push, drop_all}
use Rattle.base_trait.specs.Algebra.{Algebra}
use Rattle.abstract_value_laws.specs.Abs.{Abs, Cases, Parts, flag, word, made, map, no_case, absent, present, no_part, part, case_onto, cases, cases_onto, parts, parts_onto}
use Rattle.abstract_value_laws.specs.Fits.{CaseFits, CasesFit, Fits, PartsFit}
use Rattle.abstract_value.specs.View.{abs, case_of, cases_of}
use Rattle.abstract_value.specs.declared.constructors.Constructors.{Constructors}
use Rattle.abstract_value.specs.declared.value.AbstractValue.{AbstractValue, Data}
use Rattle.abstract_value.proofs.Merging.{cases_onto_more, parts_onto_more}
use Rattle.abstract_value.proofs.Views.{abs_Data}
use Rattle.domain_product_laws.specs.Calls.{mapped_cases, mapped_parts, mapped_value, zip_cases, zip_parts, zip_value}
use Rattle.domain_product_laws.proofs.Values.{CasesMeet, Meet, PartsMeet}
use Rattle.domain_product_values.specs.Cases.{CaseMeets, mapped_case, zip_case}
use Rattle.domain_product_maps.proofs.Maps.{fits_more}

-- ---- what fits where fewer cells may be listed
module _ {W N C : Type 0} (B : Algebra W N C) (c : C) (low high : ℕ) (l : low ≤ high) where
  mutual
    pub value_fits_more : (x : Abs W N) → Fits B c low x → Fits B c high x
    value_fits_more (flag t) h = tt
    value_fits_more (word w x) h = h
    value_fits_more (made ty cs) h = cases_fit_more cs h
    value_fits_more (map m x) h = fits_more B c low high x l h

    cases_fit_more : (cs : Cases W N) → CasesFit B c low cs → CasesFit B c high cs
    cases_fit_more no_case h = tt
    cases_fit_more (absent cs) h = cases_fit_more cs h
    cases_fit_more (present xs cs) h = (parts_fit_more xs h.0, cases_fit_more cs h.1)

    parts_fit_more : (xs : Parts W N) → PartsFit B c low xs → PartsFit B c high xs
    parts_fit_more no_part h = tt
    parts_fit_more (part x xs) h = (value_fits_more x h.0, parts_fit_more xs h.1)

-- ---- one more behind those that are out
module _ {S D E : Type 0} (h : S → D) where
  pub pushed_view : (out out' : List S) (next : Result S E) (v : D) → IsOkAnd next (λ z. out' ≡ out ++ z ∷ []) → IfOk next (λ z. h z ≡ v) → map_of h out' ≡ map_of h out ++ v ∷ []
  pushed_view out out' (Ok z) v more is = ap (map_of h) more ∙ map_push h out z ∙ ap (λ t. map_of h out ++ t ∷ []) is
  pushed_view out out' (Err e) v more is = absurd more

-- the same of constructors
module _ {S Z D E : Type 0} (h : S → D) (view : Z → S) where
  pub grown_view : (out out' : List S) (next : Result Z E) (v : D) → IsOkAnd next (λ z. out' ≡ out ++ view z ∷ []) → IfOk next (λ z. h (view z) ≡ v) → map_of h out' ≡ map_of h out ++ v ∷ []
  grown_view out out' (Ok z) v more is = ap (map_of h) more ∙ map_push h out (view z) ∙ ap (λ t. map_of h out ++ t ∷ []) is
  grown_view out out' (Err e) v more is = absurd more

-- ---- what a constructor has that is there
module _ {X W N C Z E : Type 0} (view : Z → Option (List (AbstractValue X W N C))) where
  pub case_is : (v : Result (Vec (AbstractValue X W N C) Global) E) (r : Result Z E) (p : Parts W N) (o : Option (Parts W N)) → o ≡ Some p → IfOk v (λ xs. parts (map_of abs xs.items) ≡ p)
      → IfOk r (λ t. IsOkAnd v (λ xs. view t ≡ Some xs.items)) → IfOk r (λ t. case_of (view t) ≡ o)
  case_is (Ok xs) (Ok t) p o e d h = ap case_of h ∙ ap (λ q. Some q) d ∙ sym e
  case_is (Err f) (Ok t) p o e d h = absurd h
  case_is v (Err f) p o e d h = tt

-- ---- a constructor value that is made, where its constructors are
module _ {X W N C E : Type 0} where
  pub data_is : (ty : ℕ) (o : Result (Constructors (AbstractValue X W N C)) E) (v : Constructors (AbstractValue X W N C)) → o ≡ Ok v → IsOkAnd o (λ cs. abs (Data ty v) ≡ made ty (cases_of cs))
  data_is ty o v e = subst (λ o. IsOkAnd o (λ cs. abs (Data ty v) ≡ made ty (cases_of cs))) (sym e) (abs_Data ty v)

-- ---- the first of what is left, and the others
module _ {W N C : Type 0} (B : Algebra W N C) (c : C) (cap : ℕ) where
  case_fits : (x : Option (Parts W N)) (cs : Cases W N) → CasesFit B c cap (case_onto x cs) → CaseFits B c cap x × CasesFit B c cap cs
  case_fits None cs h = (tt, h)
  case_fits (Some xs) cs h = h

module _ {T W N C : Type 0} (B : Algebra W N C) (c : C) (cap : ℕ) where
  pub parts_fit_on : (f : T → Abs W N) (xs : List T) (i : ℕ) (x : T) → drop i xs ≡ x ∷ drop (i + 1) xs → PartsFit B c cap (parts (map_of f (drop i xs)))
      → Fits B c cap (f x) × PartsFit B c cap (parts (map_of f (drop (i + 1) xs)))
  parts_fit_on f xs i x e h = subst (λ l. PartsFit B c cap (parts (map_of f l))) e h

  pub cases_fit_on : (f : T → Option (Parts W N)) (xs : List T) (i : ℕ) (x : T) → drop i xs ≡ x ∷ drop (i + 1) xs → CasesFit B c cap (cases (map_of f (drop i xs)))
      → CaseFits B c cap (f x) × CasesFit B c cap (cases (map_of f (drop (i + 1) xs)))
  cases_fit_on f xs i x e h = case_fits B c cap (f x) (cases (map_of f (drop (i + 1) xs))) (subst (λ l. CasesFit B c cap (cases (map_of f l))) e h)

module _ {V W M N : Type 0} where
  case_meets : (a : Option (Parts V M)) (b : Option (Parts W N)) (cs : Cases V M) (ds : Cases W N) → CasesMeet (case_onto a cs) (case_onto b ds) → CaseMeets a b × CasesMeet cs ds
  case_meets None None cs ds h = (tt, h)
  case_meets None (Some ys) cs ds h = (tt, h)
  case_meets (Some xs) None cs ds h = (tt, h)
  case_meets (Some xs) (Some ys) cs ds h = h

module _ {T U V W M N : Type 0} (xs : List T) (ys : List U) (i : ℕ) (x : T) (y : U) (p : drop i xs ≡ x ∷ drop (i + 1) xs) (q : drop i ys ≡ y ∷ drop (i + 1) ys) where
  pub parts_meet_on : (f : T → Abs V M) (g : U → Abs W N) → PartsMeet (parts (map_of f (drop i xs))) (parts (map_of g (drop i ys)))
      → Meet (f x) (g y) × PartsMeet (parts (map_of f (drop (i + 1) xs))) (parts (map_of g (drop (i + 1) ys)))
  parts_meet_on f g h = subst (λ l. PartsMeet (parts (map_of f (x ∷ drop (i + 1) xs))) (parts (map_of g l))) q (subst (λ l. PartsMeet (parts (map_of f l)) (parts (map_of g (drop i ys)))) p h)

  pub cases_meet_on : (f : T → Option (Parts V M)) (g : U → Option (Parts W N)) → CasesMeet (cases (map_of f (drop i xs))) (cases (map_of g (drop i ys)))
      → CaseMeets (f x) (g y) × CasesMeet (cases (map_of f (drop (i + 1) xs))) (cases (map_of g (drop (i + 1) ys)))
  cases_meet_on f g h = case_meets (f x) (g y) (cases (map_of f (drop (i + 1) xs))) (cases (map_of g (drop (i + 1) ys)))
      (subst (λ l. CasesMeet (cases (map_of f (x ∷ drop (i + 1) xs))) (cases (map_of g l))) q (subst (λ l. CasesMeet (cases (map_of f l)) (cases (map_of g (drop i ys)))) p h))

-- ---- two lists side by side
module _ {V W M N C D : Type 0} (A : Algebra V M C) (B : Algebra W N D) (c : C × D) (cap : ℕ) where
  case_step : (x : Option (Parts V M)) (y : Option (Parts W N)) (cs : Cases V M) (ds : Cases W N) → zip_cases A B c cap (case_onto x cs) (case_onto y ds) ≡ case_onto (zip_case A B c cap x y) (zip_cases A B c cap cs ds)
  case_step None None cs ds = refl
  case_step None (Some ys) cs ds = refl
  case_step (Some xs) None cs ds = refl
  case_step (Some xs) (Some ys) cs ds = refl

module _ {T U V W M N C D : Type 0} (A : Algebra V M C) (B : Algebra W N D) (c : C × D) (cap : ℕ) where
  -- the shorter list is the end
  pub zip_parts_end : (f : T → Abs V M) (g : U → Abs W N) (xs : List T) (ys : List U) (i : ℕ) → min (length xs) (length ys) ≤ i → zip_parts A B c cap (parts (map_of f (drop i xs))) (parts (map_of g (drop i ys))) ≡ no_part
  zip_parts_end f g xs ys i h = ends (drop i xs) (drop i ys) (simp length-drop (omega arith))
    where
      ends : (ps : List T) (qs : List U) → min (length ps) (length qs) ≡ 0 → zip_parts A B c cap (parts (map_of f ps)) (parts (map_of g qs)) ≡ no_part
      ends [] qs h = refl
      ends (p ∷ ps) [] h = refl
      ends (p ∷ ps) (q ∷ qs) h = absurd (omega arith)

  pub zip_cases_end : (f : T → Option (Parts V M)) (g : U → Option (Parts W N)) (xs : List T) (ys : List U) (i : ℕ) → min (length xs) (length ys) ≤ i → zip_cases A B c cap (cases (map_of f (drop i xs))) (cases (map_of g (drop i ys))) ≡ no_case
  zip_cases_end f g xs ys i h = ends (drop i xs) (drop i ys) (simp length-drop (omega arith))
    where
      no_second : (p : Option (Parts V M)) (cs : Cases V M) → zip_cases A B c cap (case_onto p cs) no_case ≡ no_case
      no_second None cs = refl
      no_second (Some xs) cs = refl

      ends : (ps : List T) (qs : List U) → min (length ps) (length qs) ≡ 0 → zip_cases A B c cap (cases (map_of f ps)) (cases (map_of g qs)) ≡ no_case
      ends [] qs h = refl
      ends (p ∷ ps) [] h = no_second (f p) (cases (map_of f ps))
      ends (p ∷ ps) (q ∷ qs) h = absurd (omega arith)

module _ {T U V W M N C D : Type 0} (A : Algebra V M C) (B : Algebra W N D) (c : C × D) (cap : ℕ) where
  module _ (xs : List T) (ys : List U) (i : ℕ) (x : T) (y : U) (p : drop i xs ≡ x ∷ drop (i + 1) xs) (q : drop i ys ≡ y ∷ drop (i + 1) ys) where
    pub zip_parts_more : (f : T → Abs V M) (g : U → Abs W N) (out out' : List (Abs (V × W) (M × N))) (whole : Parts (V × W) (M × N)) → out' ≡ out ++ zip_value A B c cap (f x) (g y) ∷ []
        → parts_onto out (zip_parts A B c cap (parts (map_of f (drop i xs))) (parts (map_of g (drop i ys)))) ≡ whole
        → parts_onto out' (zip_parts A B c cap (parts (map_of f (drop (i + 1) xs))) (parts (map_of g (drop (i + 1) ys)))) ≡ whole
    zip_parts_more f g out out' whole more is =
        let rest = zip_parts A B c cap (parts (map_of f (drop (i + 1) xs))) (parts (map_of g (drop (i + 1) ys))) in
        ap (λ l. parts_onto l rest) more ∙ parts_onto_more out (zip_value A B c cap (f x) (g y)) rest
        ∙ sym (ap (λ l. parts_onto out (zip_parts A B c cap (parts (map_of f l)) (parts (map_of g (drop i ys))))) p
        ∙ ap (λ l. parts_onto out (zip_parts A B c cap (parts (map_of f (x ∷ drop (i + 1) xs))) (parts (map_of g l)))) q) ∙ is

    pub zip_cases_more : (f : T → Option (Parts V M)) (g : U → Option (Parts W N)) (out out' : List (Option (Parts (V × W) (M × N)))) (whole : Cases (V × W) (M × N)) → out' ≡ out ++ zip_case A B c cap (f x) (g y) ∷ []
        → cases_onto out (zip_cases A B c cap (cases (map_of f (drop i xs))) (cases (map_of g (drop i ys)))) ≡ whole
        → cases_onto out' (zip_cases A B c cap (cases (map_of f (drop (i + 1) xs))) (cases (map_of g (drop (i + 1) ys)))) ≡ whole
    zip_cases_more f g out out' whole more is =
        let cs = cases (map_of f (drop (i + 1) xs)) in
        let ds = cases (map_of g (drop (i + 1) ys)) in
        let rest = zip_cases A B c cap cs ds in
        ap (λ l. cases_onto l rest) more ∙ cases_onto_more out (zip_case A B c cap (f x) (g y)) rest
        ∙ sym (ap (λ l. cases_onto out (zip_cases A B c cap (cases (map_of f l)) (cases (map_of g (drop i ys))))) p
        ∙ ap (λ l. cases_onto out (zip_cases A B c cap (cases (map_of f (x ∷ drop (i + 1) xs))) (cases (map_of g l)))) q
        ∙ ap (λ t. cases_onto out t) (case_step A B c cap (f x) (g y) cs ds)) ∙ is

  -- what is out is all
  pub zip_parts_done : (f : T → Abs V M) (g : U → Abs W N) (xs : List T) (ys : List U) (i : ℕ) (out : List (Abs (V × W) (M × N))) (whole : Parts (V × W) (M × N)) → min (length xs) (length ys) ≤ i
      → parts_onto out (zip_parts A B c cap (parts (map_of f (drop i xs))) (parts (map_of g (drop i ys)))) ≡ whole → parts out ≡ whole
  zip_parts_done f g xs ys i out whole l is = sym (ap (λ t. parts_onto out t) (zip_parts_end A B c cap f g xs ys i l)) ∙ is

  pub zip_cases_done : (f : T → Option (Parts V M)) (g : U → Option (Parts W N)) (xs : List T) (ys : List U) (i : ℕ) (out : List (Option (Parts (V × W) (M × N)))) (whole : Cases (V × W) (M × N)) → min (length xs) (length ys) ≤ i
      → cases_onto out (zip_cases A B c cap (cases (map_of f (drop i xs))) (cases (map_of g (drop i ys)))) ≡ whole → cases out ≡ whole
  zip_cases_done f g xs ys i out whole l is = sym (ap (λ t. cases_onto out t) (zip_cases_end A B c cap f g xs ys i l)) ∙ is

module _ {V W M N C D : Type 0} (A : Algebra V M C) (B : Algebra W N D) (c : C × D) (cap : ℕ) where
  -- the value that the code makes of two constructor values
  zipped_made : (ty tz : ℕ) (a : Abs V M) (b : Abs W N) (r : Abs (V × W) (M × N)) (cs cs' : Cases V M) (ds ds' : Cases W N) (out : Cases (V × W) (M × N))
      → a ≡ made ty cs → b ≡ made tz ds → r ≡ made ty out → out ≡ zip_cases A B c cap cs' ds' → cs' ≡ cs → ds' ≡ ds → r ≡ zip_value A B c cap a b
  zipped_made ty tz a b r cs cs' ds ds' out ea eb er is e f =
      er ∙ ap (λ t. made ty t) (is ∙ ap (λ t. zip_cases A B c cap t ds') e ∙ ap (λ t. zip_cases A B c cap cs t) f) ∙ sym (ap (λ t. zip_value A B c cap t b) ea ∙ ap (λ t. zip_value A B c cap (made ty cs) t) eb)

  -- the same, where there are such cases
  pub zipped_data : {S T E : Type 0} (g : T → Cases (V × W) (M × N)) (h : S → Abs (V × W) (M × N)) (out : Result T E) (r : Result S E) (ty tz : ℕ) (a : Abs V M) (b : Abs W N) (cs cs' : Cases V M) (ds ds' : Cases W N)
      → a ≡ made ty cs → b ≡ made tz ds → cs' ≡ cs → ds' ≡ ds → IfOk out (λ v. g v ≡ zip_cases A B c cap cs' ds') → IfOk r (λ t. IsOkAnd out (λ v. h t ≡ made ty (g v))) → IfOk r (λ t. h t ≡ zip_value A B c cap a b)
  zipped_data g h (Ok v) (Ok t) ty tz a b cs cs' ds ds' ea eb e f is er = zipped_made ty tz a b (h t) cs cs' ds ds' (g v) ea eb er is e f
  zipped_data g h (Err x) (Ok t) ty tz a b cs cs' ds ds' ea eb e f is er = absurd er
  zipped_data g h out (Err x) ty tz a b cs cs' ds ds' ea eb e f is er = tt

  -- what is made of a value of another form
  pub zipped_as : {S E : Type 0} (h : S → Abs (V × W) (M × N)) (r : Result S E) (a z : Abs V M) (b : Abs W N) → a ≡ z → IfOk r (λ t. h t ≡ zip_value A B c cap z b) → IfOk r (λ t. h t ≡ zip_value A B c cap a b)
  zipped_as h (Ok t) a z b e is = is ∙ sym (ap (λ u. zip_value A B c cap u b) e)
  zipped_as h (Err x) a z b e is = tt

-- ---- the parts of a list
module _ {V W M N : Type 0} (word : V → W) (note : M → N) where
  mapped_step : (x : Option (Parts V M)) (cs : Cases V M) → mapped_cases word note (case_onto x cs) ≡ case_onto (mapped_case word note x) (mapped_cases word note cs)
  mapped_step None cs = refl
  mapped_step (Some xs) cs = refl

module _ {T V W M N : Type 0} (word : V → W) (note : M → N) where
  module _ (xs : List T) (i : ℕ) (x : T) (p : drop i xs ≡ x ∷ drop (i + 1) xs) where
    pub mapped_parts_fit_on : {C : Type 0} (B : Algebra W N C) (c : C) (cap : ℕ) (f : T → Abs V M) → PartsFit B c cap (mapped_parts word note (parts (map_of f (drop i xs))))
        → Fits B c cap (mapped_value word note (f x)) × PartsFit B c cap (mapped_parts word note (parts (map_of f (drop (i + 1) xs))))
    mapped_parts_fit_on B c cap f h = subst (λ l. PartsFit B c cap (mapped_parts word note (parts (map_of f l)))) p h

    pub mapped_cases_fit_on : {C : Type 0} (B : Algebra W N C) (c : C) (cap : ℕ) (f : T → Option (Parts V M)) → CasesFit B c cap (mapped_cases word note (cases (map_of f (drop i xs))))
        → CaseFits B c cap (mapped_case word note (f x)) × CasesFit B c cap (mapped_cases word note (cases (map_of f (drop (i + 1) xs))))
    mapped_cases_fit_on B c cap f h = case_fits B c cap (mapped_case word note (f x)) (mapped_cases word note (cases (map_of f (drop (i + 1) xs))))
        (subst (CasesFit B c cap) (mapped_step word note (f x) (cases (map_of f (drop (i + 1) xs)))) (subst (λ l. CasesFit B c cap (mapped_cases word note (cases (map_of f l)))) p h))

module _ {T V W M N : Type 0} (word : V → W) (note : M → N) where
  module _ (xs : List T) (i : ℕ) (x : T) (p : drop i xs ≡ x ∷ drop (i + 1) xs) where
    pub mapped_parts_more : (f : T → Abs V M) (out out' : List (Abs W N)) (whole : Parts W N) → out' ≡ out ++ mapped_value word note (f x) ∷ []
        → parts_onto out (mapped_parts word note (parts (map_of f (drop i xs)))) ≡ whole → parts_onto out' (mapped_parts word note (parts (map_of f (drop (i + 1) xs)))) ≡ whole
    mapped_parts_more f out out' whole more is =
        let rest = mapped_parts word note (parts (map_of f (drop (i + 1) xs))) in
        ap (λ l. parts_onto l rest) more ∙ parts_onto_more out (mapped_value word note (f x)) rest ∙ sym (ap (λ l. parts_onto out (mapped_parts word note (parts (map_of f l)))) p) ∙ is

    pub mapped_cases_more : (f : T → Option (Parts V M)) (out out' : List (Option (Parts W N))) (whole : Cases W N) → out' ≡ out ++ mapped_case word note (f x) ∷ []
        → cases_onto out (mapped_cases word note (cases (map_of f (drop i xs)))) ≡ whole → cases_onto out' (mapped_cases word note (cases (map_of f (drop (i + 1) xs)))) ≡ whole
    mapped_cases_more f out out' whole more is =
        let cs = cases (map_of f (drop (i + 1) xs)) in
        let rest = mapped_cases word note cs in
        ap (λ l. cases_onto l rest) more ∙ cases_onto_more out (mapped_case word note (f x)) rest
        ∙ sym (ap (λ l. cases_onto out (mapped_cases word note (cases (map_of f l)))) p ∙ ap (λ t. cases_onto out t) (mapped_step word note (f x) cs)) ∙ is

module _ {T V W M N : Type 0} (word : V → W) (note : M → N) (xs : List T) (i : ℕ) (l : length xs ≤ i) where
  -- what is out is all
  pub mapped_parts_done : (f : T → Abs V M) (out : List (Abs W N)) (whole : Parts W N) → parts_onto out (mapped_parts word note (parts (map_of f (drop i xs)))) ≡ whole → parts out ≡ whole
  mapped_parts_done f out whole is = sym (ap (λ t. parts_onto out (mapped_parts word note (parts (map_of f t)))) (drop_all i xs l)) ∙ is

  pub mapped_cases_done : (f : T → Option (Parts V M)) (out : List (Option (Parts W N))) (whole : Cases W N) → cases_onto out (mapped_cases word note (cases (map_of f (drop i xs)))) ≡ whole → cases out ≡ whole
  mapped_cases_done f out whole is = sym (ap (λ t. cases_onto out (mapped_cases word note (cases (map_of f t)))) (drop_all i xs l)) ∙ is

module _ {V W M N : Type 0} (word : V → W) (note : M → N) where
  -- the value that the code makes of a constructor value
  mapped_made : (ty : ℕ) (a : Abs V M) (r : Abs W N) (cs cs' : Cases V M) (out : Cases W N) → a ≡ made ty cs → r ≡ made ty out → out ≡ mapped_cases word note cs' → cs' ≡ cs → r ≡ mapped_value word note a
  mapped_made ty a r cs cs' out ea er is e = er ∙ ap (λ t. made ty t) (is ∙ ap (λ t. mapped_cases word note t) e) ∙ sym (ap (λ t. mapped_value word note t) ea)

  pub mapped_data_is : {S T E : Type 0} (g : T → Cases W N) (h : S → Abs W N) (out : Result T E) (r : Result S E) (ty : ℕ) (a : Abs V M) (cs cs' : Cases V M) → a ≡ made ty cs → cs' ≡ cs
      → IfOk out (λ v. g v ≡ mapped_cases word note cs') → IfOk r (λ t. IsOkAnd out (λ v. h t ≡ made ty (g v))) → IfOk r (λ t. h t ≡ mapped_value word note a)
  mapped_data_is g h (Ok v) (Ok t) ty a cs cs' ea e is er = mapped_made ty a (h t) cs cs' (g v) ea er is e
  mapped_data_is g h (Err x) (Ok t) ty a cs cs' ea e is er = absurd er
  mapped_data_is g h out (Err x) ty a cs cs' ea e is er = tt

  -- what is made as the part of a value of another form
  pub mapped_as : {S E : Type 0} (h : S → Abs W N) (r : Result S E) (a b : Abs V M) (t : Abs W N) → a ≡ b → mapped_value word note b ≡ t → IfOk r (λ s. h s ≡ t) → IfOk r (λ s. h s ≡ mapped_value word note a)
  mapped_as h (Ok s) a b t e d is = is ∙ sym d ∙ sym (ap (λ z. mapped_value word note z) e)
  mapped_as h (Err x) a b t e d is = tt
