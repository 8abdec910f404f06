-- The join of two values.
use Rattle.std.proofs.Common.{◌≡◌, ℕ, Bool, true, false, List, refl, sym, subst, ◌∙◌, IsTrue, inl, inr}
use Rattle.std.specs.Prelude.{◌&&◌, ◌||◌, ◌==◌, not}
use Rattle.base_trait.specs.Algebra.{Algebra}
use Rattle.base_trait.specs.Laws.{Laws}
use Rattle.base_trait.specs.declared.tri.Tri.{Tri}
use Rattle.base_trait.specs.declared.uses.Stamp.{Stamp}
use Rattle.base_trait.proofs.Lists.{number_itself, number_told}
use Rattle.base_trait.proofs.Tests.{and_both, at_choice}
use Rattle.abstract_map_laws.specs.Calls.{absorbs_of as absorbs_map, join_of as join_map}
use Rattle.abstract_map_laws.specs.Laws.{HasRoom}
use Rattle.abstract_map_laws.proofs.Fitting as fitting
use Rattle.abstract_map_laws.proofs.Joining as maps
use Rattle.abstract_value_laws.specs.Abs.{Abs, Cases, Parts, flag, word, made, map, no_case, absent, present, no_part, part}
use Rattle.abstract_value_laws.specs.Calls.{absorbs_cases, absorbs_flag, absorbs_of, absorbs_parts, either, join_cases, join_of, join_parts, same_type}
use Rattle.abstract_value_laws.specs.Fits.{CasesFit, Fits, PartsFit}
use Rattle.abstract_value_laws.specs.Laws.{JoinAbsorbs, JoinDescribes, JoinFits, JoinLists, JoinShapes}
use Rattle.abstract_value_laws.specs.Shapes.{CaseShapes, CasesHave, CasesList, HasShape, ListsStamps, PartShapes, PartsHave, PartsList, Shape, case_then, datas, field_then, flags, maps as map_shape, no_field, no_more, words}
use Rattle.abstract_value_laws.proofs.Absorbing.{absorbs_describes, parts_itself, type_told}
use Rattle.abstract_value_laws.proofs.Both.{Both, BothCases, BothParts, both}

pub flag_over : (t u : Tri) → IsTrue (absorbs_flag (either t u) t) × IsTrue (absorbs_flag (either t u) u)
flag_over t u = (
  and_both ((t.may_true || u.may_true) || not t.may_true) ((t.may_false || u.may_false) || not t.may_false) (left t.may_true u.may_true) (left t.may_false u.may_false),
  and_both ((t.may_true || u.may_true) || not u.may_true) ((t.may_false || u.may_false) || not u.may_false) (right t.may_true u.may_true) (right t.may_false u.may_false),
)
  where
    left : (p q : Bool) → IsTrue ((p || q) || not p)
    left true q = refl
    left false true = refl
    left false false = refl

    right : (p q : Bool) → IsTrue ((p || q) || not q)
    right true q = refl
    right false true = refl
    right false false = refl

-- what is tested is so
pub same_number : (m n : ℕ) → m ≡ n → IsTrue (m == n)
same_number m n e = subst (λ t. IsTrue (m == t)) e (number_itself m)

module _ {W N C : Type 0} (B : Algebra W N C) (L : Laws W N C B) (c : C) (cap : ℕ) where
  module _ (room : HasRoom B cap) where
    mutual
      pub fits : (x y : Abs W N) → Fits B c cap x → Fits B c cap y → Fits B c cap (join_of B c cap x y)
      fits (flag t) (flag u) a b = tt
      fits (word w x) (word u y) a b = at_choice (Fits B c cap) (w == u) (word w (B.words.join c w x y)) (word w x)
          (λ e. (a.0, L.words.join_fits c w x y a.0 a.1 (subst (λ t. B.words.fits c t y) (sym (number_told w u e)) b.1))) (λ e. a)
      fits (made ty cs) (made tz ds) a b = cases_fit cs ds a b
      fits (map m x) (map n y) a b = at_choice (Fits B c cap) (same_type m x n y) (map m (join_map B c cap x y)) (map m x) (λ e. fitting.join_fits B L c cap x y room a b (type_told m n x y e).1) (λ e. a)
      fits _ _ a b = a

      pub cases_fit : (cs ds : Cases W N) → CasesFit B c cap cs → CasesFit B c cap ds → CasesFit B c cap (join_cases B c cap cs ds)
      cases_fit (absent cs) (absent ds) a b = cases_fit cs ds a b
      cases_fit (absent cs) (present ys ds) a b = (b.0, cases_fit cs ds a b.1)
      cases_fit (present xs cs) (absent ds) a b = (a.0, cases_fit cs ds a.1 b)
      cases_fit (present xs cs) (present ys ds) a b = (parts_fit xs ys a.0 b.0, cases_fit cs ds a.1 b.1)
      cases_fit _ _ a b = tt

      pub parts_fit : (xs ys : Parts W N) → PartsFit B c cap xs → PartsFit B c cap ys → PartsFit B c cap (join_parts B c cap xs ys)
      parts_fit (part x xs) (part y ys) a b = (fits x y a.0 b.0, parts_fit xs ys a.1 b.1)
      parts_fit _ _ a b = tt

  mutual
    shapes : (s : Shape) (x y : Abs W N) → Both s x y → HasShape s (join_of B c cap x y)
    shapes flags (flag t) (flag u) h = tt
    shapes (words w) (word u x) (word k y) h = at_choice (HasShape (words w)) (u == k) (word u (B.words.join c u x y)) (word u x) (λ e. h.0) (λ e. h.0)
    shapes (datas ty ss) (made tz cs) (made tu ds) h = (h.0, cases_shape ss cs ds h.2)
    shapes (map_shape m w) (map n x) (map k y) h = at_choice (HasShape (map_shape m w)) (same_type n x k y) (map n (join_map B c cap x y)) (map n x) (λ e. (h.0, h.2)) (λ e. (h.0, h.2))
    shapes _ _ _ h = absurd h

    cases_shape : (ss : CaseShapes) (cs ds : Cases W N) → BothCases ss cs ds → CasesHave ss (join_cases B c cap cs ds)
    cases_shape no_more no_case no_case h = tt
    cases_shape (case_then s ss) (absent cs) (absent ds) h = cases_shape ss cs ds h
    cases_shape (case_then s ss) (absent cs) (present ys ds) h = (h.0, cases_shape ss cs ds h.1)
    cases_shape (case_then s ss) (present xs cs) (absent ds) h = (h.0, cases_shape ss cs ds h.1)
    cases_shape (case_then s ss) (present xs cs) (present ys ds) h = (parts_shape s xs ys h.0, cases_shape ss cs ds h.1)
    cases_shape _ _ _ h = absurd h

    parts_shape : (ss : PartShapes) (xs ys : Parts W N) → BothParts ss xs ys → PartsHave ss (join_parts B c cap xs ys)
    parts_shape no_field no_part no_part h = tt
    parts_shape (field_then s ss) (part x xs) (part y ys) h = (shapes s x y h.0, parts_shape ss xs ys h.1)
    parts_shape _ _ _ h = absurd h

  module _ (joins : IsTrue B.joins) where
    mutual
      over : (s : Shape) (x y : Abs W N) → Both s x y → Fits B c cap x → Fits B c cap y → IsTrue (absorbs_of B c (join_of B c cap x y) x) × IsTrue (absorbs_of B c (join_of B c cap x y) y)
      over flags (flag t) (flag u) h a b = flag_over t u
      over (words w) (word u x) (word k y) h a b =
          let same : u ≡ k = h.0 ∙ sym h.1 in
          let fit : B.words.fits c u y = subst (λ t. B.words.fits c t y) (sym same) b.1 in
          let up = L.words.join_absorbs c u x y a.0 (inl joins) a.1 fit in
          at_choice (λ z. IsTrue (absorbs_of B c z (word u x)) × IsTrue (absorbs_of B c z (word k y))) (u == k) (word u (B.words.join c u x y)) (word u x)
          (λ e. (and_both (u == u) (B.words.absorbs c u (B.words.join c u x y) x) (number_itself u) up.0, and_both (u == k) (B.words.absorbs c u (B.words.join c u x y) y) e up.1))
          (λ e. let t = same_number u k same in cc)
      over (datas ty ss) (made tz cs) (made tu ds) h a b =
          let up = cases_over ss cs ds h.2 a b in
          (and_both (tz == tz) (absorbs_cases B c (join_cases B c cap cs ds) cs) (number_itself tz) up.0, and_both (tz == tu) (absorbs_cases B c (join_cases B c cap cs ds) ds) (same_number tz tu (h.0 ∙ sym h.1)) up.1)
      over (map_shape m w) (map n x) (map k y) h a b =
          let same : n ≡ k = h.0 ∙ sym h.1 in
          let width : x.width ≡ y.width = h.2 ∙ sym h.3 in
          let up = maps.join_absorbs B L c cap x y joins a b width in
          let left = and_both (n == n) (x.width == x.width) (number_itself n) (number_itself x.width) in
          let right = and_both (n == k) (x.width == y.width) (same_number n k same) (same_number x.width y.width width) in
          at_choice (λ z. IsTrue (absorbs_of B c z (map n x)) × IsTrue (absorbs_of B c z (map k y))) (same_type n x k y) (map n (join_map B c cap x y)) (map n x)
          (λ e. (and_both (n == n && x.width == x.width) (absorbs_map B c (join_map B c cap x y) x) left up.0, and_both (n == k && x.width == y.width) (absorbs_map B c (join_map B c cap x y) y) right up.1))
          (λ e. cc)
      over _ _ _ h a b = absurd h

      cases_over : (ss : CaseShapes) (cs ds : Cases W N) → BothCases ss cs ds → CasesFit B c cap cs → CasesFit B c cap ds
          → IsTrue (absorbs_cases B c (join_cases B c cap cs ds) cs) × IsTrue (absorbs_cases B c (join_cases B c cap cs ds) ds)
      cases_over no_more no_case no_case h a b = (refl, refl)
      cases_over (case_then s ss) (absent cs) (absent ds) h a b = cases_over ss cs ds h a b
      cases_over (case_then s ss) (absent cs) (present ys ds) h a b =
          let up = cases_over ss cs ds h.1 a b.1 in
          (up.0, and_both (absorbs_parts B c ys ys) (absorbs_cases B c (join_cases B c cap cs ds) ds) (parts_itself B L c cap ys b.0) up.1)
      cases_over (case_then s ss) (present xs cs) (absent ds) h a b =
          let up = cases_over ss cs ds h.1 a.1 b in
          (and_both (absorbs_parts B c xs xs) (absorbs_cases B c (join_cases B c cap cs ds) cs) (parts_itself B L c cap xs a.0) up.0, up.1)
      cases_over (case_then s ss) (present xs cs) (present ys ds) h a b =
          let up = cases_over ss cs ds h.1 a.1 b.1 in
          let here = parts_over s xs ys h.0 a.0 b.0 in (
            and_both (absorbs_parts B c (join_parts B c cap xs ys) xs) (absorbs_cases B c (join_cases B c cap cs ds) cs) here.0 up.0,
            and_both (absorbs_parts B c (join_parts B c cap xs ys) ys) (absorbs_cases B c (join_cases B c cap cs ds) ds) here.1 up.1,
          )
      cases_over _ _ _ h a b = absurd h

      parts_over : (ss : PartShapes) (xs ys : Parts W N) → BothParts ss xs ys → PartsFit B c cap xs → PartsFit B c cap ys
          → IsTrue (absorbs_parts B c (join_parts B c cap xs ys) xs) × IsTrue (absorbs_parts B c (join_parts B c cap xs ys) ys)
      parts_over no_field no_part no_part h a b = (refl, refl)
      parts_over (field_then s ss) (part x xs) (part y ys) h a b =
          let here = over s x y h.0 a.0 b.0 in
          let up = parts_over ss xs ys h.1 a.1 b.1 in (
            and_both (absorbs_of B c (join_of B c cap x y) x) (absorbs_parts B c (join_parts B c cap xs ys) xs) here.0 up.0,
            and_both (absorbs_of B c (join_of B c cap x y) y) (absorbs_parts B c (join_parts B c cap xs ys) ys) here.1 up.1,
          )
      parts_over _ _ _ h a b = absurd h

module _ {W N C : Type 0} (B : Algebra W N C) (L : Laws W N C B) (c : C) (cap : ℕ) (stamps : List Stamp) where
  mutual
    lists : (x y : Abs W N) → ListsStamps B stamps x → ListsStamps B stamps y → ListsStamps B stamps (join_of B c cap x y)
    lists (flag t) (flag u) a b = tt
    lists (word w x) (word u y) a b = at_choice (ListsStamps B stamps) (w == u) (word w (B.words.join c w x y)) (word w x) (λ e. tt) (λ e. tt)
    lists (made ty cs) (made tz ds) a b = cases_list cs ds a b
    lists (map m x) (map n y) a b = at_choice (ListsStamps B stamps) (same_type m x n y) (map m (join_map B c cap x y)) (map m x) (λ e. maps.join_lists B L c cap stamps x y a b) (λ e. a)
    lists _ _ a b = a

    cases_list : (cs ds : Cases W N) → CasesList B stamps cs → CasesList B stamps ds → CasesList B stamps (join_cases B c cap cs ds)
    cases_list (absent cs) (absent ds) a b = cases_list cs ds a b
    cases_list (absent cs) (present ys ds) a b = (b.0, cases_list cs ds a b.1)
    cases_list (present xs cs) (absent ds) a b = (a.0, cases_list cs ds a.1 b)
    cases_list (present xs cs) (present ys ds) a b = (parts_list xs ys a.0 b.0, cases_list cs ds a.1 b.1)
    cases_list _ _ a b = tt

    parts_list : (xs ys : Parts W N) → PartsList B stamps xs → PartsList B stamps ys → PartsList B stamps (join_parts B c cap xs ys)
    parts_list (part x xs) (part y ys) a b = (lists x y a.0 b.0, parts_list xs ys a.1 b.1)
    parts_list _ _ a b = tt

module _ {W N C : Type 0} (B : Algebra W N C) (L : Laws W N C B) where
  pub join_fits : JoinFits B
  join_fits c cap x y room a b = fits B L c cap room x y a b

  pub join_shapes : JoinShapes B
  join_shapes c cap s x y a b = shapes B L c cap s x y (both s x y a b)

  pub join_lists : JoinLists B
  join_lists c cap stamps x y a b = lists B L c cap stamps x y a b

  pub join_absorbs : JoinAbsorbs B
  join_absorbs c cap s x y joins a b p q = over B L c cap joins s x y (both s x y p q) a b

  pub join_describes : JoinDescribes B
  join_describes c cap valuation val s x y joins a b p q (inl d) =
      absorbs_describes B L c cap valuation val (join_of B c cap x y) x (join_fits c cap x y (inl joins) a b) a (join_absorbs c cap s x y joins a b p q).0 d
  join_describes c cap valuation val s x y joins a b p q (inr d) =
      absorbs_describes B L c cap valuation val (join_of B c cap x y) y (join_fits c cap x y (inl joins) a b) b (join_absorbs c cap s x y joins a b p q).1 d
