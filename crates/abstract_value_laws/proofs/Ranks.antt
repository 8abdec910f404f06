-- Ranks of values.
use Rattle.std.proofs.Common.{◌≡◌, ℕ, ◌+◌, ◌<◌, ◌≤◌, Bool, true, false, List, length, sym, ap, subst, ◌∙◌, arith, IsTrue, ◌⊎◌, inl, inr}
use Rattle.std.specs.Prelude.{◌&&◌, ◌||◌, ◌==◌, not}
use Rattle.base_trait.specs.Algebra.{Algebra}
use Rattle.base_trait.specs.Laws.{Laws}
use Rattle.base_trait.specs.declared.uses.Stamp.{Stamp}
use Rattle.base_trait.proofs.Tests.{and_both, at_choice, decide, not_both}
use Rattle.abstract_map_laws.specs.Maps.{Map}
use Rattle.abstract_map_laws.specs.Calls.{absorbs_of as absorbs_map, height_of as height_map, rank_of as rank_map, widen_of as widen_map}
use Rattle.abstract_map_laws.proofs.Ranks as maps
use Rattle.abstract_map_laws.proofs.Widening as widening
use Rattle.abstract_value_laws.specs.Abs.{Abs, Cases, Parts, flag, word, made, map, no_case, absent, present, no_part, part}
use Rattle.abstract_value_laws.specs.Calls.{absorbs_cases, absorbs_of, absorbs_parts, same_type, widen_cases, widen_of, widen_parts}
use Rattle.abstract_value_laws.specs.Fits.{CasesFit, Fits, PartsFit}
use Rattle.abstract_value_laws.specs.Laws.{RankHeight, WidenFalls}
use Rattle.abstract_value_laws.specs.Shapes.{CaseShapes, CasesHave, CasesList, HasShape, ListsStamps, PartShapes, PartsHave, PartsList, Shape, case_then, cases_height, cases_rank, datas, field_then, flags, height_of, lacks, maps as map_shape, no_field, no_more, parts_height, parts_rank, rank_of, words}
use Rattle.abstract_value_laws.proofs.Both.{Both, BothCases, BothParts, both}
use Rattle.abstract_value_laws.proofs.Joining.{same_number}

-- ---- what falls unless it was absorbed, and never rises
abbrev Falls : Bool → ℕ → ℕ → Type 0
Falls absorbed new old = (absorbed ≡ false → new < old) × (new ≤ old)

falls_both : (a b : Bool) (m n p q : ℕ) → Falls a m n → Falls b p q → Falls (a && b) (m + p) (n + q)
falls_both a b m n p q f g = (λ e. sorted (not_both a b e), (let x = f.1 in let y = g.1 in omega (arith, x, y)))
  where
    sorted : (a ≡ false) ⊎ (b ≡ false) → m + p < n + q
    sorted (inl e) = let x = f.0 e in let y = g.1 in omega (arith, x, y)
    sorted (inr e) = let x = f.1 in let y = g.0 e in omega (arith, x, y)

bit_falls : (p q : Bool) → Falls (p || not q) (lacks (p || q)) (lacks p)
bit_falls true q = ((λ e. cc), omega arith)
bit_falls false true = ((λ e. omega arith), omega arith)
bit_falls false false = ((λ e. cc), omega arith)

bit_height : (p : Bool) → lacks p ≤ 1
bit_height true = omega arith
bit_height false = omega arith

-- where the first test is known, the second decides
second_falls : (a b : Bool) (m n : ℕ) → IsTrue a → Falls b m n → Falls (a && b) m n
second_falls true b m n h f = f
second_falls false b m n h f = cc

module _ {W N C : Type 0} (B : Algebra W N C) (L : Laws W N C B) (c : C) (cap : ℕ) (stamps : List Stamp) where
  -- ---- the rank is at most the height
  mutual
    pub height : (s : Shape) (x : Abs W N) → Fits B c cap x → HasShape s x → rank_of B cap c stamps s x ≤ height_of B cap (length stamps) s
    height flags (flag t) fit h = let p = bit_height t.may_true in let q = bit_height t.may_false in omega (arith, p, q)
    height (words w) (word u x) fit h = subst (λ t. B.words.rank c u x ≤ B.words.height t) h (L.words.rank_height c u x fit.0 fit.1)
    height (datas ty ss) (made tz cs) fit h = cases_top ss cs fit h.1
    height (map_shape m w) (map n x) fit h = subst (λ t. rank_map B c stamps x ≤ height_map B cap t (length stamps)) h.1 (maps.rank_height B L c cap stamps x fit)
    height flags (word _ _) fit h = absurd h
    height flags (made _ _) fit h = absurd h
    height flags (map _ _) fit h = absurd h
    height (words _) (flag _) fit h = absurd h
    height (words _) (made _ _) fit h = absurd h
    height (words _) (map _ _) fit h = absurd h
    height (datas _ _) (flag _) fit h = absurd h
    height (datas _ _) (word _ _) fit h = absurd h
    height (datas _ _) (map _ _) fit h = absurd h
    height (map_shape _ _) (flag _) fit h = absurd h
    height (map_shape _ _) (word _ _) fit h = absurd h
    height (map_shape _ _) (made _ _) fit h = absurd h

    cases_top : (ss : CaseShapes) (cs : Cases W N) → CasesFit B c cap cs → CasesHave ss cs → cases_rank B cap c stamps ss cs ≤ cases_height B cap (length stamps) ss
    cases_top no_more no_case fit h = omega arith
    cases_top (case_then s ss) (absent cs) fit h = let later = cases_top ss cs fit h in omega (arith, later)
    cases_top (case_then s ss) (present xs cs) fit h = let here = parts_top s xs fit.0 h.0 in let later = cases_top ss cs fit.1 h.1 in omega (arith, here, later)
    cases_top no_more (absent _) fit h = absurd h
    cases_top no_more (present _ _) fit h = absurd h
    cases_top (case_then _ _) no_case fit h = absurd h

    parts_top : (ss : PartShapes) (xs : Parts W N) → PartsFit B c cap xs → PartsHave ss xs → parts_rank B cap c stamps ss xs ≤ parts_height B cap (length stamps) ss
    parts_top no_field no_part fit h = omega arith
    parts_top (field_then s ss) (part x xs) fit h = let here = height s x fit.0 h.0 in let later = parts_top ss xs fit.1 h.1 in omega (arith, here, later)
    parts_top no_field (part _ _) fit h = absurd h
    parts_top (field_then _ _) no_part fit h = absurd h

  module _ (joins : IsTrue B.joins) where
    word_falls : (w : ℕ) (x y : W) → Fits B c cap (word w x) → B.words.fits c w y → Falls (B.words.absorbs c w x y) (B.words.rank c w (B.words.widen c w x y)) (B.words.rank c w x)
    word_falls w x y a b = ((λ e. L.words.widen_falls c w x y a.0 joins a.1 b e), no_more (decide (B.words.absorbs c w x y)))
      where
        no_more : IsTrue (B.words.absorbs c w x y) ⊎ (B.words.absorbs c w x y ≡ false) → B.words.rank c w (B.words.widen c w x y) ≤ B.words.rank c w x
        no_more (inl t) = let e = ap (λ z. B.words.rank c w z) (L.words.widen_keeps c w x y a.0 joins a.1 b t) in omega (arith, e)
        no_more (inr t) = let l = L.words.widen_falls c w x y a.0 joins a.1 b t in omega (arith, l)

    map_falls : (x y : Map W N) → Fits B c cap (map 0 x) → Fits B c cap (map 0 y) → x.width ≡ y.width → ListsStamps B stamps (map 0 x) → ListsStamps B stamps (map 0 y)
        → Falls (absorbs_map B c x y) (rank_map B c stamps (widen_map B c x y)) (rank_map B c stamps x)
    map_falls x y a b e p q = ((λ t. maps.widen_falls B L c cap stamps x y joins a b e p q t), no_more (decide (absorbs_map B c x y)))
      where
        no_more : IsTrue (absorbs_map B c x y) ⊎ (absorbs_map B c x y ≡ false) → rank_map B c stamps (widen_map B c x y) ≤ rank_map B c stamps x
        no_more (inl t) = let e = ap (λ z. rank_map B c stamps z) (widening.widen_keeps B L c cap x y joins a b e t) in omega (arith, e)
        no_more (inr t) = let l = maps.widen_falls B L c cap stamps x y joins a b e p q t in omega (arith, l)

    mutual
      falls : (s : Shape) (x y : Abs W N) → Both s x y → Fits B c cap x → Fits B c cap y → ListsStamps B stamps x → ListsStamps B stamps y
          → Falls (absorbs_of B c x y) (rank_of B cap c stamps s (widen_of B c x y)) (rank_of B cap c stamps s x)
      falls flags (flag t) (flag u) h a b p q =
          falls_both (t.may_true || not u.may_true) (t.may_false || not u.may_false) (lacks (t.may_true || u.may_true)) (lacks t.may_true) (lacks (t.may_false || u.may_false)) (lacks t.may_false)
          (bit_falls t.may_true u.may_true) (bit_falls t.may_false u.may_false)
      falls (words w) (word u x) (word k y) h a b p q =
          let same : u ≡ k = h.0 ∙ sym h.1 in
          let fit : B.words.fits c u y = subst (λ t. B.words.fits c t y) (sym same) b.1 in
          at_choice (λ z. Falls (u == k && B.words.absorbs c u x y) (rank_of B cap c stamps (words w) z) (B.words.rank c u x)) (u == k) (word u (B.words.widen c u x y)) (word u x)
          (λ e. second_falls (u == k) (B.words.absorbs c u x y) (B.words.rank c u (B.words.widen c u x y)) (B.words.rank c u x) e (word_falls u x y a fit)) (λ e. let t = same_number u k same in cc)
      falls (datas ty ss) (made tz cs) (made tu ds) h a b p q =
          second_falls (tz == tu) (absorbs_cases B c cs ds) (cases_rank B cap c stamps ss (widen_cases B c cs ds)) (cases_rank B cap c stamps ss cs) (same_number tz tu (h.0 ∙ sym h.1)) (cases_fall ss cs ds h.2 a b p q)
      falls (map_shape m w) (map n x) (map k y) h a b p q =
          let width : x.width ≡ y.width = h.2 ∙ sym h.3 in
          let right = and_both (n == k) (x.width == y.width) (same_number n k (h.0 ∙ sym h.1)) (same_number x.width y.width width) in
          at_choice (λ z. Falls (same_type n x k y && absorbs_map B c x y) (rank_of B cap c stamps (map_shape m w) z) (rank_map B c stamps x)) (same_type n x k y) (map n (widen_map B c x y)) (map n x)
          (λ e. second_falls (same_type n x k y) (absorbs_map B c x y) (rank_map B c stamps (widen_map B c x y)) (rank_map B c stamps x) e (map_falls x y a b width p q)) (λ e. cc)
      falls _ _ _ h a b p q = absurd h

      cases_fall : (ss : CaseShapes) (cs ds : Cases W N) → BothCases ss cs ds → CasesFit B c cap cs → CasesFit B c cap ds → CasesList B stamps cs → CasesList B stamps ds
          → Falls (absorbs_cases B c cs ds) (cases_rank B cap c stamps ss (widen_cases B c cs ds)) (cases_rank B cap c stamps ss cs)
      cases_fall no_more no_case no_case h a b p q = ((λ e. cc), omega arith)
      cases_fall (case_then s ss) (absent cs) (absent ds) h a b p q = let later = cases_fall ss cs ds h a b p q in ((λ e. let l = later.0 e in omega (arith, l)), (let l = later.1 in omega (arith, l)))
      cases_fall (case_then s ss) (absent cs) (present ys ds) h a b p q =
          let later = (cases_fall ss cs ds h.1 a b.1 p q.1).1 in
          let top = parts_top s ys b.0 h.0 in
          ((λ e. omega (arith, later, top)), omega (arith, later, top))
      cases_fall (case_then s ss) (present xs cs) (absent ds) h a b p q = let later = cases_fall ss cs ds h.1 a.1 b p.1 q in ((λ e. let l = later.0 e in omega (arith, l)), (let l = later.1 in omega (arith, l)))
      cases_fall (case_then s ss) (present xs cs) (present ys ds) h a b p q =
          falls_both (absorbs_parts B c xs ys) (absorbs_cases B c cs ds) (parts_rank B cap c stamps s (widen_parts B c xs ys)) (parts_rank B cap c stamps s xs) (cases_rank B cap c stamps ss (widen_cases B c cs ds)) (cases_rank B cap c stamps ss cs)
          (parts_fall s xs ys h.0 a.0 b.0 p.0 q.0) (cases_fall ss cs ds h.1 a.1 b.1 p.1 q.1)
      cases_fall _ _ _ h a b p q = absurd h

      parts_fall : (ss : PartShapes) (xs ys : Parts W N) → BothParts ss xs ys → PartsFit B c cap xs → PartsFit B c cap ys → PartsList B stamps xs → PartsList B stamps ys
          → Falls (absorbs_parts B c xs ys) (parts_rank B cap c stamps ss (widen_parts B c xs ys)) (parts_rank B cap c stamps ss xs)
      parts_fall no_field no_part no_part h a b p q = ((λ e. cc), omega arith)
      parts_fall (field_then s ss) (part x xs) (part y ys) h a b p q =
          falls_both (absorbs_of B c x y) (absorbs_parts B c xs ys) (rank_of B cap c stamps s (widen_of B c x y)) (rank_of B cap c stamps s x) (parts_rank B cap c stamps ss (widen_parts B c xs ys)) (parts_rank B cap c stamps ss xs)
          (falls s x y h.0 a.0 b.0 p.0 q.0) (parts_fall ss xs ys h.1 a.1 b.1 p.1 q.1)
      parts_fall _ _ _ h a b p q = absurd h

module _ {W N C : Type 0} (B : Algebra W N C) (L : Laws W N C B) where
  pub rank_height : RankHeight B
  rank_height c cap stamps s x fit h = height B L c cap stamps s x fit h

  pub widen_falls : WidenFalls B
  widen_falls c cap stamps s old new joins a b p q l m e = (falls B L c cap stamps joins s old new (both s old new p q) a b l m).0 e
