-- Widening.
use Rattle.std.proofs.Common.{◌≡◌, ℕ, Bool, true, false, List, refl, sym, ap, subst, ◌∙◌, IsTrue, inl, inr}
use Rattle.std.specs.Prelude.{◌&&◌, ◌||◌, ◌==◌, not}
use Rattle.base_trait.specs.Algebra.{Algebra}
use Rattle.base_trait.specs.Laws.{Laws}
use Rattle.base_trait.specs.declared.tri.Tri.{Tri}
use Rattle.base_trait.specs.declared.uses.Stamp.{Stamp}
use Rattle.base_trait.proofs.Lists.{number_itself, number_told}
use Rattle.base_trait.proofs.Tests.{and_both, and_parts, at_choice}
use Rattle.abstract_map_laws.specs.Calls.{absorbs_of as absorbs_map, widen_of as widen_map}
use Rattle.abstract_map_laws.proofs.Fitting as fitting
use Rattle.abstract_map_laws.proofs.Widening as maps
use Rattle.abstract_value_laws.specs.Abs.{Abs, Cases, Parts, flag, word, made, map, no_case, absent, present, no_part, part}
use Rattle.abstract_value_laws.specs.Calls.{absorbs_cases, absorbs_flag, absorbs_of, absorbs_parts, either, same_type, widen_cases, widen_of, widen_parts}
use Rattle.abstract_value_laws.specs.Fits.{CasesFit, Fits, PartsFit}
use Rattle.abstract_value_laws.specs.Laws.{WidenAbsorbs, WidenDescribes, WidenFits, WidenKeeps, WidenLists, WidenShapes}
use Rattle.abstract_value_laws.specs.Shapes.{CaseShapes, CasesHave, CasesList, HasShape, ListsStamps, PartShapes, PartsHave, PartsList, Shape, case_then, datas, field_then, flags, maps as map_shape, no_field, no_more, words}
use Rattle.abstract_value_laws.proofs.Absorbing.{absorbs_describes, parts_itself, type_told}
use Rattle.abstract_value_laws.proofs.Both.{Both, BothCases, BothParts, both}
use Rattle.abstract_value_laws.proofs.Joining.{flag_over, same_number}

-- a flag that absorbs another is what it was
flag_keeps : (t u : Tri) → IsTrue (absorbs_flag t u) → either t u ≡ t
flag_keeps t u a =
    let p = and_parts (t.may_true || not u.may_true) (t.may_false || not u.may_false) a in
    ap (λ b. record { may_true = b; may_false = t.may_false || u.may_false }) (bit t.may_true u.may_true p.0) ∙ ap (λ b. record { may_true = t.may_true; may_false = b }) (bit t.may_false u.may_false p.1)
  where
    bit : (p q : Bool) → IsTrue (p || not q) → p || q ≡ p
    bit true q h = refl
    bit false true h = cc
    bit false false h = refl

module _ {W N C : Type 0} (B : Algebra W N C) (L : Laws W N C B) (c : C) (cap : ℕ) where
  mutual
    fits : (x y : Abs W N) → Fits B c cap x → Fits B c cap y → Fits B c cap (widen_of B c x y)
    fits (flag t) (flag u) a b = tt
    fits (word w x) (word u y) a b = at_choice (Fits B c cap) (w == u) (word w (B.words.widen c w x y)) (word w x)
        (λ e. (a.0, L.words.widen_fits c w x y a.0 a.1 (subst (λ t. B.words.fits c t y) (sym (number_told w u e)) b.1))) (λ e. a)
    fits (made ty cs) (made tz ds) a b = cases_fit cs ds a b
    fits (map m x) (map n y) a b = at_choice (Fits B c cap) (same_type m x n y) (map m (widen_map B c x y)) (map m x) (λ e. fitting.widen_fits B L c cap x y a b (type_told m n x y e).1) (λ e. a)
    fits _ _ a b = a

    cases_fit : (cs ds : Cases W N) → CasesFit B c cap cs → CasesFit B c cap ds → CasesFit B c cap (widen_cases B c cs ds)
    cases_fit (absent cs) (absent ds) a b = cases_fit cs ds a b
    cases_fit (absent cs) (present ys ds) a b = (b.0, cases_fit cs ds a b.1)
    cases_fit (present xs cs) (absent ds) a b = (a.0, cases_fit cs ds a.1 b)
    cases_fit (present xs cs) (present ys ds) a b = (parts_fit xs ys a.0 b.0, cases_fit cs ds a.1 b.1)
    cases_fit _ _ a b = tt

    parts_fit : (xs ys : Parts W N) → PartsFit B c cap xs → PartsFit B c cap ys → PartsFit B c cap (widen_parts B c xs ys)
    parts_fit (part x xs) (part y ys) a b = (fits x y a.0 b.0, parts_fit xs ys a.1 b.1)
    parts_fit _ _ a b = tt

  module _ (joins : IsTrue B.joins) where
    mutual
      over : (s : Shape) (x y : Abs W N) → Both s x y → Fits B c cap x → Fits B c cap y → IsTrue (absorbs_of B c (widen_of B c x y) x) × IsTrue (absorbs_of B c (widen_of B c x y) y)
      over flags (flag t) (flag u) h a b = flag_over t u
      over (words w) (word u x) (word k y) h a b =
          let same : u ≡ k = h.0 ∙ sym h.1 in
          let fit : B.words.fits c u y = subst (λ t. B.words.fits c t y) (sym same) b.1 in
          let up = L.words.widen_absorbs c u x y a.0 (inl joins) a.1 fit in
          at_choice (λ z. IsTrue (absorbs_of B c z (word u x)) × IsTrue (absorbs_of B c z (word k y))) (u == k) (word u (B.words.widen c u x y)) (word u x)
          (λ e. (and_both (u == u) (B.words.absorbs c u (B.words.widen c u x y) x) (number_itself u) up.0, and_both (u == k) (B.words.absorbs c u (B.words.widen c u x y) y) e up.1))
          (λ e. let t = same_number u k same in cc)
      over (datas ty ss) (made tz cs) (made tu ds) h a b =
          let up = cases_over ss cs ds h.2 a b in
          (and_both (tz == tz) (absorbs_cases B c (widen_cases B c cs ds) cs) (number_itself tz) up.0, and_both (tz == tu) (absorbs_cases B c (widen_cases B c cs ds) ds) (same_number tz tu (h.0 ∙ sym h.1)) up.1)
      over (map_shape m w) (map n x) (map k y) h a b =
          let same : n ≡ k = h.0 ∙ sym h.1 in
          let width : x.width ≡ y.width = h.2 ∙ sym h.3 in
          let up = maps.widen_absorbs B L c cap x y joins a b width in
          let left = and_both (n == n) (x.width == x.width) (number_itself n) (number_itself x.width) in
          let right = and_both (n == k) (x.width == y.width) (same_number n k same) (same_number x.width y.width width) in
          at_choice (λ z. IsTrue (absorbs_of B c z (map n x)) × IsTrue (absorbs_of B c z (map k y))) (same_type n x k y) (map n (widen_map B c x y)) (map n x)
          (λ e. (and_both (n == n && x.width == x.width) (absorbs_map B c (widen_map B c x y) x) left up.0, and_both (n == k && x.width == y.width) (absorbs_map B c (widen_map B c x y) y) right up.1))
          (λ e. cc)
      over _ _ _ h a b = absurd h

      cases_over : (ss : CaseShapes) (cs ds : Cases W N) → BothCases ss cs ds → CasesFit B c cap cs → CasesFit B c cap ds
          → IsTrue (absorbs_cases B c (widen_cases B c cs ds) cs) × IsTrue (absorbs_cases B c (widen_cases B c cs ds) ds)
      cases_over no_more no_case no_case h a b = (refl, refl)
      cases_over (case_then s ss) (absent cs) (absent ds) h a b = cases_over ss cs ds h a b
      cases_over (case_then s ss) (absent cs) (present ys ds) h a b =
          let up = cases_over ss cs ds h.1 a b.1 in
          (up.0, and_both (absorbs_parts B c ys ys) (absorbs_cases B c (widen_cases B c cs ds) ds) (parts_itself B L c cap ys b.0) up.1)
      cases_over (case_then s ss) (present xs cs) (absent ds) h a b =
          let up = cases_over ss cs ds h.1 a.1 b in
          (and_both (absorbs_parts B c xs xs) (absorbs_cases B c (widen_cases B c cs ds) cs) (parts_itself B L c cap xs a.0) up.0, up.1)
      cases_over (case_then s ss) (present xs cs) (present ys ds) h a b =
          let up = cases_over ss cs ds h.1 a.1 b.1 in
          let here = parts_over s xs ys h.0 a.0 b.0 in (
            and_both (absorbs_parts B c (widen_parts B c xs ys) xs) (absorbs_cases B c (widen_cases B c cs ds) cs) here.0 up.0,
            and_both (absorbs_parts B c (widen_parts B c xs ys) ys) (absorbs_cases B c (widen_cases B c cs ds) ds) here.1 up.1,
          )
      cases_over _ _ _ h a b = absurd h

      parts_over : (ss : PartShapes) (xs ys : Parts W N) → BothParts ss xs ys → PartsFit B c cap xs → PartsFit B c cap ys
          → IsTrue (absorbs_parts B c (widen_parts B c xs ys) xs) × IsTrue (absorbs_parts B c (widen_parts B c xs ys) ys)
      parts_over no_field no_part no_part h a b = (refl, refl)
      parts_over (field_then s ss) (part x xs) (part y ys) h a b =
          let here = over s x y h.0 a.0 b.0 in
          let up = parts_over ss xs ys h.1 a.1 b.1 in (
            and_both (absorbs_of B c (widen_of B c x y) x) (absorbs_parts B c (widen_parts B c xs ys) xs) here.0 up.0,
            and_both (absorbs_of B c (widen_of B c x y) y) (absorbs_parts B c (widen_parts B c xs ys) ys) here.1 up.1,
          )
      parts_over _ _ _ h a b = absurd h

    mutual
      pub keeps : (x y : Abs W N) → Fits B c cap x → Fits B c cap y → IsTrue (absorbs_of B c x y) → widen_of B c x y ≡ x
      keeps (flag t) (flag u) a b h = ap (λ v. flag v) (flag_keeps t u h)
      keeps (word w x) (word u y) a b h =
          let p = and_parts (w == u) (B.words.absorbs c w x y) h in
          let fit : B.words.fits c w y = subst (λ t. B.words.fits c t y) (sym (number_told w u p.0)) b.1 in
          at_choice (λ z. z ≡ word w x) (w == u) (word w (B.words.widen c w x y)) (word w x) (λ e. ap (λ z. word w z) (L.words.widen_keeps c w x y a.0 joins a.1 fit p.1)) (λ e. refl)
      keeps (made ty cs) (made tz ds) a b h = ap (λ z. made ty z) (cases_keep cs ds a b (and_parts (ty == tz) (absorbs_cases B c cs ds) h).1)
      keeps (map m x) (map n y) a b h =
          let p = and_parts (same_type m x n y) (absorbs_map B c x y) h in
          at_choice (λ z. z ≡ map m x) (same_type m x n y) (map m (widen_map B c x y)) (map m x) (λ e. ap (λ z. map m z) (maps.widen_keeps B L c cap x y joins a b (type_told m n x y p.0).1 p.1)) (λ e. refl)
      keeps _ _ a b h = cc

      cases_keep : (cs ds : Cases W N) → CasesFit B c cap cs → CasesFit B c cap ds → IsTrue (absorbs_cases B c cs ds) → widen_cases B c cs ds ≡ cs
      cases_keep no_case no_case a b h = refl
      cases_keep (absent cs) (absent ds) a b h = ap (λ z. absent z) (cases_keep cs ds a b h)
      cases_keep (present xs cs) (absent ds) a b h = ap (λ z. present xs z) (cases_keep cs ds a.1 b h)
      cases_keep (present xs cs) (present ys ds) a b h =
          let p = and_parts (absorbs_parts B c xs ys) (absorbs_cases B c cs ds) h in
          ap (λ z. present z (widen_cases B c cs ds)) (parts_keep xs ys a.0 b.0 p.0) ∙ ap (λ z. present xs z) (cases_keep cs ds a.1 b.1 p.1)
      cases_keep _ _ a b h = cc

      parts_keep : (xs ys : Parts W N) → PartsFit B c cap xs → PartsFit B c cap ys → IsTrue (absorbs_parts B c xs ys) → widen_parts B c xs ys ≡ xs
      parts_keep no_part no_part a b h = refl
      parts_keep (part x xs) (part y ys) a b h =
          let p = and_parts (absorbs_of B c x y) (absorbs_parts B c xs ys) h in
          ap (λ z. part z (widen_parts B c xs ys)) (keeps x y a.0 b.0 p.0) ∙ ap (λ z. part x z) (parts_keep xs ys a.1 b.1 p.1)
      parts_keep _ _ a b h = cc

module _ {W N C : Type 0} (B : Algebra W N C) (c : C) where
  mutual
    shapes : (s : Shape) (x y : Abs W N) → Both s x y → HasShape s (widen_of B c x y)
    shapes flags (flag t) (flag u) h = tt
    shapes (words w) (word u x) (word k y) h = at_choice (HasShape (words w)) (u == k) (word u (B.words.widen c u x y)) (word u x) (λ e. h.0) (λ e. h.0)
    shapes (datas ty ss) (made tz cs) (made tu ds) h = (h.0, cases_shape ss cs ds h.2)
    shapes (map_shape m w) (map n x) (map k y) h = at_choice (HasShape (map_shape m w)) (same_type n x k y) (map n (widen_map B c x y)) (map n x) (λ e. (h.0, h.2)) (λ e. (h.0, h.2))
    shapes _ _ _ h = absurd h

    cases_shape : (ss : CaseShapes) (cs ds : Cases W N) → BothCases ss cs ds → CasesHave ss (widen_cases B c cs ds)
    cases_shape no_more no_case no_case h = tt
    cases_shape (case_then s ss) (absent cs) (absent ds) h = cases_shape ss cs ds h
    cases_shape (case_then s ss) (absent cs) (present ys ds) h = (h.0, cases_shape ss cs ds h.1)
    cases_shape (case_then s ss) (present xs cs) (absent ds) h = (h.0, cases_shape ss cs ds h.1)
    cases_shape (case_then s ss) (present xs cs) (present ys ds) h = (parts_shape s xs ys h.0, cases_shape ss cs ds h.1)
    cases_shape _ _ _ h = absurd h

    parts_shape : (ss : PartShapes) (xs ys : Parts W N) → BothParts ss xs ys → PartsHave ss (widen_parts B c xs ys)
    parts_shape no_field no_part no_part h = tt
    parts_shape (field_then s ss) (part x xs) (part y ys) h = (shapes s x y h.0, parts_shape ss xs ys h.1)
    parts_shape _ _ _ h = absurd h

module _ {W N C : Type 0} (B : Algebra W N C) (L : Laws W N C B) (c : C) (stamps : List Stamp) where
  mutual
    lists : (x y : Abs W N) → ListsStamps B stamps x → ListsStamps B stamps y → ListsStamps B stamps (widen_of B c x y)
    lists (flag t) (flag u) a b = tt
    lists (word w x) (word u y) a b = at_choice (ListsStamps B stamps) (w == u) (word w (B.words.widen c w x y)) (word w x) (λ e. tt) (λ e. tt)
    lists (made ty cs) (made tz ds) a b = cases_list cs ds a b
    lists (map m x) (map n y) a b = at_choice (ListsStamps B stamps) (same_type m x n y) (map m (widen_map B c x y)) (map m x) (λ e. maps.widen_lists B L c stamps x y a b) (λ e. a)
    lists _ _ a b = a

    cases_list : (cs ds : Cases W N) → CasesList B stamps cs → CasesList B stamps ds → CasesList B stamps (widen_cases B c cs ds)
    cases_list (absent cs) (absent ds) a b = cases_list cs ds a b
    cases_list (absent cs) (present ys ds) a b = (b.0, cases_list cs ds a b.1)
    cases_list (present xs cs) (absent ds) a b = (a.0, cases_list cs ds a.1 b)
    cases_list (present xs cs) (present ys ds) a b = (parts_list xs ys a.0 b.0, cases_list cs ds a.1 b.1)
    cases_list _ _ a b = tt

    parts_list : (xs ys : Parts W N) → PartsList B stamps xs → PartsList B stamps ys → PartsList B stamps (widen_parts B c xs ys)
    parts_list (part x xs) (part y ys) a b = (lists x y a.0 b.0, parts_list xs ys a.1 b.1)
    parts_list _ _ a b = tt

module _ {W N C : Type 0} (B : Algebra W N C) (L : Laws W N C B) where
  pub widen_fits : WidenFits B
  widen_fits c cap old new a b = fits B L c cap old new a b

  pub widen_shapes : WidenShapes B
  widen_shapes c s old new a b = shapes B c s old new (both s old new a b)

  pub widen_lists : WidenLists B
  widen_lists c stamps old new a b = lists B L c stamps old new a b

  pub widen_absorbs : WidenAbsorbs B
  widen_absorbs c cap s old new joins a b p q = over B L c cap joins s old new (both s old new p q) a b

  pub widen_keeps : WidenKeeps B
  widen_keeps c cap old new joins a b h = keeps B L c cap joins old new a b h

  pub widen_describes : WidenDescribes B
  widen_describes c cap valuation val s old new joins a b p q (inl d) =
      absorbs_describes B L c cap valuation val (widen_of B c old new) old (widen_fits c cap old new a b) a (widen_absorbs c cap s old new joins a b p q).0 d
  widen_describes c cap valuation val s old new joins a b p q (inr d) =
      absorbs_describes B L c cap valuation val (widen_of B c old new) new (widen_fits c cap old new a b) b (widen_absorbs c cap s old new joins a b p q).1 d
