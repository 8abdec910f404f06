-- Absorption of values.
use Rattle.std.proofs.Common.{◌≡◌, ℕ, Bool, true, false, List, zero, suc, refl, sym, subst, ◌∙◌, IsTrue}
use Rattle.std.specs.Prelude.{◌&&◌, ◌||◌, ◌==◌, not}
use Rattle.base_trait.specs.Algebra.{Algebra, can_be}
use Rattle.base_trait.specs.Laws.{Laws}
use Rattle.base_trait.specs.declared.tri.Tri.{Tri}
use Rattle.base_trait.proofs.Lists.{number_itself, number_told}
use Rattle.base_trait.proofs.Tests.{and_both, and_parts}
use Rattle.abstract_map_laws.specs.Maps.{Map}
use Rattle.abstract_map_laws.specs.Calls.{absorbs_of as absorbs_map}
use Rattle.abstract_map_laws.proofs.Joining as maps
use Rattle.semantics_values.specs.Values as v
use Rattle.semantics_values.specs.Values.{Val, Vals}
use Rattle.abstract_value_laws.specs.Abs.{Abs, Cases, Parts, flag, word, made, map, no_case, absent, present, no_part, part}
use Rattle.abstract_value_laws.specs.Calls.{absorbs_flag, absorbs_of, absorbs_cases, absorbs_parts, same_type}
use Rattle.abstract_value_laws.specs.Describes.{CaseDescribes, Describes, PartsDescribe, held_at}
use Rattle.abstract_value_laws.specs.Fits.{CasesFit, Fits, PartsFit}
use Rattle.abstract_value_laws.specs.Laws.{AbsorbsDescribes, AbsorbsItself, AbsorbsOn}

-- ---- flags
flag_itself : (p q : Bool) → IsTrue ((p || not p) && (q || not q))
flag_itself true true = refl
flag_itself true false = refl
flag_itself false true = refl
flag_itself false false = refl

-- what is taken in is taken in by what takes that in
one_on : (p q r : Bool) → IsTrue (p || not q) → IsTrue (q || not r) → IsTrue (p || not r)
one_on true q r a b = refl
one_on false true r a b = cc
one_on false false r a b = b

one_may : (p q : Bool) → IsTrue (p || not q) → IsTrue q → IsTrue p
one_may true q a b = refl
one_may false true a b = cc
one_may false false a b = cc

pub flag_on : (t u s : Tri) → IsTrue (absorbs_flag t u) → IsTrue (absorbs_flag u s) → IsTrue (absorbs_flag t s)
flag_on t u s a b =
    let p = and_parts (t.may_true || not u.may_true) (t.may_false || not u.may_false) a in
    let q = and_parts (u.may_true || not s.may_true) (u.may_false || not s.may_false) b in
    and_both (t.may_true || not s.may_true) (t.may_false || not s.may_false) (one_on t.may_true u.may_true s.may_true p.0 q.0) (one_on t.may_false u.may_false s.may_false p.1 q.1)

pub flag_may : (t u : Tri) (b : Bool) → IsTrue (absorbs_flag t u) → IsTrue (can_be u b) → IsTrue (can_be t b)
flag_may t u true a h = one_may t.may_true u.may_true (and_parts (t.may_true || not u.may_true) (t.may_false || not u.may_false) a).0 h
flag_may t u false a h = one_may t.may_false u.may_false (and_parts (t.may_true || not u.may_true) (t.may_false || not u.may_false) a).1 h

-- ---- tests of numbers
number_on : (m n k : ℕ) → IsTrue (m == n) → IsTrue (n == k) → IsTrue (m == k)
number_on m n k a b = subst (λ t. IsTrue (m == t)) (number_told n k b) a

module _ {W N : Type 0} where
  pub type_itself : (m : ℕ) (x : Map W N) → IsTrue (same_type m x m x)
  type_itself m x = and_both (m == m) (x.width == x.width) (number_itself m) (number_itself x.width)

  pub type_told : (m n : ℕ) (x y : Map W N) → IsTrue (same_type m x n y) → (m ≡ n) × (x.width ≡ y.width)
  type_told m n x y h = let p = and_parts (m == n) (x.width == y.width) h in (number_told m n p.0, number_told x.width y.width p.1)

  pub type_on : (m n k : ℕ) (x y z : Map W N) → IsTrue (same_type m x n y) → IsTrue (same_type n y k z) → IsTrue (same_type m x k z)
  type_on m n k x y z a b =
      let p = and_parts (m == n) (x.width == y.width) a in
      let q = and_parts (n == k) (y.width == z.width) b in
      and_both (m == k) (x.width == z.width) (number_on m n k p.0 q.0) (number_on x.width y.width z.width p.1 q.1)

module _ {W N C : Type 0} (B : Algebra W N C) (L : Laws W N C B) (c : C) (cap : ℕ) where
  mutual
    pub itself : (x : Abs W N) → Fits B c cap x → IsTrue (absorbs_of B c x x)
    itself (flag t) h = flag_itself t.may_true t.may_false
    itself (word w x) h = and_both (w == w) (B.words.absorbs c w x x) (number_itself w) (L.words.absorbs_itself c w x h.0 h.1)
    itself (made ty cs) h = and_both (ty == ty) (absorbs_cases B c cs cs) (number_itself ty) (cases_itself cs h)
    itself (map m x) h = and_both (same_type m x m x) (absorbs_map B c x x) (type_itself m x) (maps.absorbs_itself B L c cap x h)

    pub cases_itself : (cs : Cases W N) → CasesFit B c cap cs → IsTrue (absorbs_cases B c cs cs)
    cases_itself no_case h = refl
    cases_itself (absent cs) h = cases_itself cs h
    cases_itself (present xs cs) h = and_both (absorbs_parts B c xs xs) (absorbs_cases B c cs cs) (parts_itself xs h.0) (cases_itself cs h.1)

    pub parts_itself : (xs : Parts W N) → PartsFit B c cap xs → IsTrue (absorbs_parts B c xs xs)
    parts_itself no_part h = refl
    parts_itself (part x xs) h = and_both (absorbs_of B c x x) (absorbs_parts B c xs xs) (itself x h.0) (parts_itself xs h.1)

  -- at another width, where the widths are the same
  word_at : (w u : ℕ) (y : W) → w ≡ u → B.words.fits c u y → B.words.fits c w y
  word_at w u y e h = subst (λ t. B.words.fits c t y) (sym e) h

  mutual
    pub on : (x y z : Abs W N) → Fits B c cap x → Fits B c cap y → Fits B c cap z → IsTrue (absorbs_of B c x y) → IsTrue (absorbs_of B c y z) → IsTrue (absorbs_of B c x z)
    on (flag t) (flag u) (flag s) hx hy hz a b = flag_on t u s a b
    on (word w x) (word u y) (word t z) hx hy hz a b =
        let p = and_parts (w == u) (B.words.absorbs c w x y) a in
        let q = and_parts (u == t) (B.words.absorbs c u y z) b in
        let e = number_told w u p.0 in
        let d = number_told u t q.0 in
        and_both (w == t) (B.words.absorbs c w x z) (number_on w u t p.0 q.0)
        (L.words.absorbs_on c w x y z hx.0 hx.1 (word_at w u y e hy.1) (word_at w t z (e ∙ d) hz.1) p.1 (subst (λ k. IsTrue (B.words.absorbs c k y z)) (sym e) q.1))
    on (made ty cs) (made tu ds) (made tw es) hx hy hz a b =
        let p = and_parts (ty == tu) (absorbs_cases B c cs ds) a in
        let q = and_parts (tu == tw) (absorbs_cases B c ds es) b in
        and_both (ty == tw) (absorbs_cases B c cs es) (number_on ty tu tw p.0 q.0) (cases_on cs ds es hx hy hz p.1 q.1)
    on (map m x) (map n y) (map k z) hx hy hz a b =
        let p = and_parts (same_type m x n y) (absorbs_map B c x y) a in
        let q = and_parts (same_type n y k z) (absorbs_map B c y z) b in
        and_both (same_type m x k z) (absorbs_map B c x z) (type_on m n k x y z p.0 q.0)
        (maps.absorbs_on B L c cap x y z hx hy hz (type_told m n x y p.0).1 (type_told n k y z q.0).1 p.1 q.1)
    on _ _ _ hx hy hz a b = cc

    pub cases_on : (cs ds es : Cases W N) → CasesFit B c cap cs → CasesFit B c cap ds → CasesFit B c cap es → IsTrue (absorbs_cases B c cs ds) → IsTrue (absorbs_cases B c ds es) → IsTrue (absorbs_cases B c cs es)
    cases_on no_case no_case no_case hc hd he a b = refl
    cases_on (absent cs) (absent ds) (absent es) hc hd he a b = cases_on cs ds es hc hd he a b
    cases_on (present xs cs) (absent ds) (absent es) hc hd he a b = cases_on cs ds es hc.1 hd he a b
    cases_on (present xs cs) (present ys ds) (absent es) hc hd he a b = cases_on cs ds es hc.1 hd.1 he (and_parts (absorbs_parts B c xs ys) (absorbs_cases B c cs ds) a).1 b
    cases_on (present xs cs) (present ys ds) (present zs es) hc hd he a b =
        let p = and_parts (absorbs_parts B c xs ys) (absorbs_cases B c cs ds) a in
        let q = and_parts (absorbs_parts B c ys zs) (absorbs_cases B c ds es) b in
        and_both (absorbs_parts B c xs zs) (absorbs_cases B c cs es) (parts_on xs ys zs hc.0 hd.0 he.0 p.0 q.0) (cases_on cs ds es hc.1 hd.1 he.1 p.1 q.1)
    cases_on _ _ _ hc hd he a b = cc

    pub parts_on : (xs ys zs : Parts W N) → PartsFit B c cap xs → PartsFit B c cap ys → PartsFit B c cap zs → IsTrue (absorbs_parts B c xs ys) → IsTrue (absorbs_parts B c ys zs) → IsTrue (absorbs_parts B c xs zs)
    parts_on no_part no_part no_part hx hy hz a b = refl
    parts_on (part x xs) (part y ys) (part z zs) hx hy hz a b =
        let p = and_parts (absorbs_of B c x y) (absorbs_parts B c xs ys) a in
        let q = and_parts (absorbs_of B c y z) (absorbs_parts B c ys zs) b in
        and_both (absorbs_of B c x z) (absorbs_parts B c xs zs) (on x y z hx.0 hy.0 hz.0 p.0 q.0) (parts_on xs ys zs hx.1 hy.1 hz.1 p.1 q.1)
    parts_on _ _ _ hx hy hz a b = cc

  module _ (valuation : List ℕ) where
    mutual
      pub describes : (val : Val) (x y : Abs W N) → Fits B c cap x → Fits B c cap y → IsTrue (absorbs_of B c x y) → Describes B valuation y val → Describes B valuation x val
      describes (v.flag b) (flag t) (flag u) hx hy a d = flag_may t u b a d
      describes (v.word k n) (word w x) (word u y) hx hy a d =
          let p = and_parts (w == u) (B.words.absorbs c w x y) a in
          let e = number_told w u p.0 in
          (d.0 ∙ sym e, L.words.absorbs_describes c valuation w n x y hx.0 hx.1 (word_at w u y e hy.1) p.1 (subst (λ t. B.words.describes valuation t n y) (sym e) d.1))
      describes (v.made tz k ps) (made ty cs) (made tu ds) hx hy a d =
          let p = and_parts (ty == tu) (absorbs_cases B c cs ds) a in
          (d.0 ∙ sym (number_told ty tu p.0), case_describes k ps cs ds hx hy p.1 d.1)
      describes (v.map k rest cells) (map m x) (map n y) hx hy a d =
          let p = and_parts (same_type m x n y) (absorbs_map B c x y) a in
          let e = type_told m n x y p.0 in
          (d.0 ∙ sym e.0, maps.absorbs_describes B L c cap valuation (held_at rest cells) x y hx hy e.1 p.1 d.1)
      describes _ (flag _) (word _ _) hx hy a d = cc
      describes _ (flag _) (made _ _) hx hy a d = cc
      describes _ (flag _) (map _ _) hx hy a d = cc
      describes _ (word _ _) (flag _) hx hy a d = cc
      describes _ (word _ _) (made _ _) hx hy a d = cc
      describes _ (word _ _) (map _ _) hx hy a d = cc
      describes _ (made _ _) (flag _) hx hy a d = cc
      describes _ (made _ _) (word _ _) hx hy a d = cc
      describes _ (made _ _) (map _ _) hx hy a d = cc
      describes _ (map _ _) (flag _) hx hy a d = cc
      describes _ (map _ _) (word _ _) hx hy a d = cc
      describes _ (map _ _) (made _ _) hx hy a d = cc
      describes _ _ _ hx hy a d = absurd d

      pub case_describes : (k : ℕ) (ps : Vals) (cs ds : Cases W N) → CasesFit B c cap cs → CasesFit B c cap ds → IsTrue (absorbs_cases B c cs ds) → CaseDescribes B valuation ds k ps → CaseDescribes B valuation cs k ps
      case_describes k ps cs no_case hc hd a d = absurd d
      case_describes k ps no_case (absent ds) hc hd a d = cc
      case_describes k ps no_case (present ys ds) hc hd a d = cc
      case_describes zero ps (absent cs) (absent ds) hc hd a d = absurd d
      case_describes zero ps (present xs cs) (absent ds) hc hd a d = absurd d
      case_describes (suc k) ps (absent cs) (absent ds) hc hd a d = case_describes k ps cs ds hc hd a d
      case_describes (suc k) ps (present xs cs) (absent ds) hc hd a d = case_describes k ps cs ds hc.1 hd a d
      case_describes k ps (absent cs) (present ys ds) hc hd a d = cc
      case_describes zero ps (present xs cs) (present ys ds) hc hd a d = parts_describe ps xs ys hc.0 hd.0 (and_parts (absorbs_parts B c xs ys) (absorbs_cases B c cs ds) a).0 d
      case_describes (suc k) ps (present xs cs) (present ys ds) hc hd a d = case_describes k ps cs ds hc.1 hd.1 (and_parts (absorbs_parts B c xs ys) (absorbs_cases B c cs ds) a).1 d

      pub parts_describe : (ps : Vals) (xs ys : Parts W N) → PartsFit B c cap xs → PartsFit B c cap ys → IsTrue (absorbs_parts B c xs ys) → PartsDescribe B valuation ys ps → PartsDescribe B valuation xs ps
      parts_describe v.no_val no_part no_part hx hy a d = d
      parts_describe (v.val_then p ps) (part x xs) (part y ys) hx hy a d =
          let q = and_parts (absorbs_of B c x y) (absorbs_parts B c xs ys) a in
          (describes p x y hx.0 hy.0 q.0 d.0, parts_describe ps xs ys hx.1 hy.1 q.1 d.1)
      parts_describe _ no_part (part _ _) hx hy a d = cc
      parts_describe _ (part _ _) no_part hx hy a d = cc
      parts_describe _ _ _ hx hy a d = absurd d

module _ {W N C : Type 0} (B : Algebra W N C) (L : Laws W N C B) where
  pub absorbs_itself : AbsorbsItself B
  absorbs_itself c cap x h = itself B L c cap x h

  pub absorbs_on : AbsorbsOn B
  absorbs_on c cap x y z hx hy hz a b = on B L c cap x y z hx hy hz a b

  pub absorbs_describes : AbsorbsDescribes B
  absorbs_describes c cap valuation val old new ho hn a d = describes B L c cap valuation val old new ho hn a d
