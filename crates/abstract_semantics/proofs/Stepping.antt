-- Steps meet those of the direct meaning.
use Rattle.std.proofs.Common.{◌≡◌, ℕ, zero, suc, ◌<◌, ◌≤◌, ◌^◌, Bool, true, false, cond, List, [], ◌∷◌, ◌++◌, length, Option, Some, option_map, slice_get, refl, sym, ap, subst, ◌∙◌, arith, IsTrue}
use Rattle.std.specs.Prelude.{◌==◌, nat_lt, nat_le, is_some}
use Rattle.std.proofs.lemmas.Bool.{false≢true, lt-ltb as less_is, le-leb as at_most_is}
use Rattle.std.proofs.lemmas.Bool.Decides.{nat_tests}
use Rattle.word_operations.specs.Width.{IsWidth}
use Rattle.word_operations.specs.declared.kinds.UnaryOperation.{UnaryOperation}
use Rattle.word_operations.specs.declared.kinds.BinaryOperation.{BinaryOperation}
use Rattle.word_operations.specs.declared.kinds.WordComparison.{WordComparison}
use Rattle.word_operations.specs.Op1.{op1_of}
use Rattle.word_operations.specs.Op2.{op2_of}
use Rattle.word_operations.specs.Cmp.{cmp_of}
use Rattle.base_trait.specs.Algebra.{Algebra}
use Rattle.base_trait.specs.Laws.{Laws}
use Rattle.base_trait.specs.Uses.{AreCovering, Seen, Read}
use Rattle.base_trait.specs.declared.tri.Tri.{Tri}
use Rattle.abstract_map_laws.specs.Cells.{CellDescribes, Held}
use Rattle.abstract_map_laws.specs.Keys.{IsKeyed, Keys, one, some}
use Rattle.abstract_map_laws.specs.Maps.{Map, Describes as MapDescribes, cell}
use Rattle.abstract_map_laws.specs.Calls.{access_of, update_of}
use Rattle.abstract_map_laws.proofs.Reading.{access_describes}
use Rattle.abstract_map_laws.proofs.Writing.{update_describes}
use Rattle.spec_match_compiler.proofs.Truth.{both, equal_itself}
use Rattle.spec_ir.specs.declared.ty.Ty.TheVariants.{Word, Data as DataTy, Map as MapOf}
use Rattle.spec_ir.specs.declared.declared.MapType.{MapType}
use Rattle.spec_ir.specs.declared.term.CastKind.{CastKind}
use Rattle.spec_ir.specs.Environment.{Environment, Case, key_type, value_of, value_type}
use Rattle.spec_ir.specs.Texts.{case_at, cases_of}
use Rattle.spec_ir.specs.TermTypes.{CastFits}
use Rattle.semantics.specs.Outcomes as o
use Rattle.semantics.specs.Outcomes.{Outcome}
use Rattle.semantics.specs.Steps as s
use Rattle.semantics.specs.Steps.{casts, is_word, key_of, number}
use Rattle.semantics_laws.specs.Accepted.{is_key_type}
use Rattle.semantics_laws.proofs.Values.{width_to}
use Rattle.semantics_values.specs.declared.value.Cell.{Cell}
use Rattle.semantics_values.specs.Types.{key_count}
use Rattle.semantics_values.specs.Values as v
use Rattle.semantics_values.specs.Values.{Val, Vals, cell_at, put_cell, vals}
use Rattle.abstract_value_laws.specs.Abs.{Abs, Parts, flag, word, made, map, no_case, parts}
use Rattle.abstract_value_laws.specs.Describes.{CaseDescribes, PartsDescribe, held_at}
use Rattle.abstract_value_laws.specs.OfValues.{absent_onto, case_count, one_case}
use Rattle.support_tail_fixpoint.specs.Answer.{gives}
use Rattle.abstract_semantics.specs.Keys.{is_keyed, keys_of, named_key}
use Rattle.abstract_semantics.specs.Sound.{AreSingle, AreAbsent, IsSingle, IsSingleCase, Covered}
use Rattle.abstract_semantics.specs.Steps.{accessed, binary, cast_of, compared, made_of, put_at, read_of, resized, unary, updated}
use Rattle.abstract_semantics.proofs.Kept.{covering_right, keeps_more}
use Rattle.abstract_semantics.proofs.Typed.{IsOf, word_there, map_there}
use Rattle.abstract_semantics.proofs.Keyed.{key_below, keyed}
use Rattle.abstract_semantics.proofs.Stepped.{Invariant}
use Rattle.abstract_semantics.proofs.Meeting.{ChosenMet, IsMet, follows_itself}
use Rattle.abstract_semantics.proofs.Standing.{AllStand, Stands}
use Rattle.abstract_semantics.proofs.Deciding.{Mode, compared_single}
use Rattle.abstract_semantics.proofs.Keying.{key_met, named_is}

covered_more : (log : List Seen) (rs : List Read) (r : Read) → Covered log rs → AreCovering log r → Covered log (rs ++ r ∷ [])
covered_more log [] r h k = (k, tt)
covered_more log (q ∷ rs) r h k = (h.0, covered_more log rs r h.1 k)

number_is : (w n : ℕ) → IsWidth w → n < 2 ^ w → number w (v.word w n) ≡ Some n
number_is w n wide small =
    let is : is_word w n ≡ true = both _ (nat_lt n (2 ^ w)) (width_to w wide) (less_is n (2 ^ w) small) in
    rw (equal_itself w, is) refl

-- ---- cells of concrete maps
abbrev held_of : Cell → Held
held_of cell = record { number = cell.v; stamp = cell.stamp }

put_held : (rest : Cell) (k j : ℕ) (cell : Cell) (cells : List (ℕ × Cell)) → held_of (cell_at rest (put_cell k cell cells) j) ≡ cond (j == k) (held_of cell) (held_of (cell_at rest cells j))
put_held rest k j cell [] = at (k == j) (j == k) refl refl
  where
    at : (p q : Bool) → (k == j) ≡ p → (j == k) ≡ q → held_of (cond p cell rest) ≡ cond q (held_of cell) (held_of rest)
    at true true e f = refl
    at false false e f = refl
    at true false e f = absurd (grind (arith, nat_tests))
    at false true e f = absurd (grind (arith, nat_tests))
put_held rest k j cell (c ∷ cells) = at (c.0 == k) refl (nat_lt k c.0) (c.0 == j) refl (k == j) refl (j == k) refl (put_held rest k j cell cells)
  where
    at : (p : Bool) → (c.0 == k) ≡ p → (before : Bool) → (q : Bool) → (c.0 == j) ≡ q → (r : Bool) → (k == j) ≡ r → (z : Bool) → (j == k) ≡ z
        → held_of (cell_at rest (put_cell k cell cells) j) ≡ cond z (held_of cell) (held_of (cell_at rest cells j))
        → held_of (cell_at rest (cond p ((k, cell) ∷ cells) (cond before ((k, cell) ∷ c ∷ cells) (c ∷ put_cell k cell cells))) j) ≡ cond z (held_of cell) (held_of (cond q c.1 (cell_at rest cells j)))
    at true e before q f true g true h go = rw g refl
    at true e before q f true g false h go = absurd (grind (arith, nat_tests))
    at true e before q f false g true h go = absurd (grind (arith, nat_tests))
    at true e before true f false g false h go = absurd (grind (arith, nat_tests))
    at true e before false f false g false h go = rw g refl
    at false e true q f true g true h go = rw g refl
    at false e true q f true g false h go = absurd (grind (arith, nat_tests))
    at false e true q f false g true h go = absurd (grind (arith, nat_tests))
    at false e true true f false g false h go = rw (g, f) refl
    at false e true false f false g false h go = rw (g, f) refl
    at false e false true f r g true h go = absurd (grind (arith, nat_tests))
    at false e false true f r g false h go = rw f refl
    at false e false false f r g z h go = rw f go

module _ {W N C : Type 0} (B : Algebra W N C) (laws : Laws W N C B) (c : C) (cap : ℕ) (env : Environment) (a : ℕ) (P : Abs W N → Type 0) (inv : Invariant B c cap env a P) (valuation : List ℕ) (exact : Bool) (mode : Mode B exact) where
  stamped : Type 0
  stamped = IsTrue B.notes.stamped

  met_of : {A V : Type 0} (R : A → V → Type 0) (x : Option A) (n : Option V) (y : A) (q : V) (l : List Seen) (m : List Read) → x ≡ Some y → n ≡ Some q → R y q → IsMet exact (IsTrue B.notes.stamped) R l m (gives x l) (o.given n m)
  met_of R x n y q l m e f h = subst (λ z. IsMet exact (IsTrue B.notes.stamped) R l m (gives z l) (o.given n m)) (sym e) (subst (λ z. IsMet exact (IsTrue B.notes.stamped) R l m (gives (Some y) l) (o.given z m)) (sym f) (h, follows_itself _ l m))

  pub record WordStands (w : ℕ) (x : W) (p : Val) : Type 0 where
    pub n : ℕ
    pub is : p ≡ v.word w n
    pub describes : B.words.describes valuation w n x
    pub below : n < 2 ^ w

  pub word_stands : (w : ℕ) (x : W) (p : Val) → Stands B valuation exact (word w x) p → WordStands w x p
  word_stands w x (v.word u n) st = record { n = n; is = ap (λ z. v.word z n) st.describes.0; describes = st.describes.1; below = laws.words.described_fits valuation w n x st.describes.1 }
  word_stands w x (v.flag b) st = absurd st.describes
  word_stands w x (v.made t k ps) st = absurd st.describes
  word_stands w x (v.map m rest cells) st = absurd st.describes

  pub word_standing : (w n : ℕ) (x : W) → B.words.describes valuation w n x → Stands B valuation exact (word w x) (v.word w n)
  word_standing w n x h = record { describes = (refl, h); single = λ t. tt }

  chosen_single : (t : Tri) → ChosenMet exact t → IsTrue exact → IsSingle {W = W} {N = N} (flag t)
  chosen_single t h = at exact h
    where
      at : (e : Bool) → ChosenMet e t → IsTrue e → IsSingle {W = W} {N = N} (flag t)
      at true h k = h
      at false h k = absurd (false≢true k)

  pub unary_met : (op : UnaryOperation) (w : ℕ) (x : Abs W N) (p : Val) (l : List Seen) (m : List Read) → IsOf B c cap env P (Word w) x → Stands B valuation exact x p
      → IsMet exact (IsTrue B.notes.stamped) (Stands B valuation exact) l m (gives (unary B c op w x) l) (o.given (s.unary op w p) m)
  unary_met op w x p l m h st =
      let f = word_there B c cap env P w x h in
      let q = word_stands w f.word_is p (subst (λ z. Stands B valuation exact z p) f.is st) in
      let left : unary B c op w (word w f.word_is) ≡ Some (word w (B.words.op1 c op w f.word_is)) = rw (equal_itself w) refl in
      met_of (Stands B valuation exact) _ _ _ _ l m (ap (unary B c op w) f.is ∙ left) (ap (s.unary op w) q.is ∙ ap (option_map (λ x. v.word w (op1_of op w x))) (number_is w q.n f.width q.below))
      (word_standing w (op1_of op w q.n) (B.words.op1 c op w f.word_is) (laws.words.op1_sound c valuation op w q.n f.word_is f.width f.fits q.describes))

  pub binary_met : (op : BinaryOperation) (w : ℕ) (x y : Abs W N) (p r : Val) (l : List Seen) (m : List Read) → IsOf B c cap env P (Word w) x → IsOf B c cap env P (Word w) y → Stands B valuation exact x p → Stands B valuation exact y r
      → IsMet exact (IsTrue B.notes.stamped) (Stands B valuation exact) l m (gives (binary B c op w x y) l) (o.given (s.binary op w p r) m)
  binary_met op w x y p r l m h k st su =
      let f = word_there B c cap env P w x h in
      let g = word_there B c cap env P w y k in
      let q = word_stands w f.word_is p (subst (λ z. Stands B valuation exact z p) f.is st) in
      let u = word_stands w g.word_is r (subst (λ z. Stands B valuation exact z r) g.is su) in
      let both_ : binary B c op w (word w f.word_is) (word w g.word_is) ≡ Some (word w (B.words.op2 c op w f.word_is g.word_is)) = rw (equal_itself w) refl in
      let left = ap (λ z. binary B c op w z y) f.is ∙ ap (binary B c op w (word w f.word_is)) g.is ∙ both_ in
      let numbers : s.binary op w (v.word w q.n) (v.word w u.n) ≡ Some (v.word w (op2_of op w q.n u.n)) = rw (number_is w q.n f.width q.below, number_is w u.n f.width u.below) refl in
      let right = ap (λ z. s.binary op w z r) q.is ∙ ap (s.binary op w (v.word w q.n)) u.is ∙ numbers in
      met_of (Stands B valuation exact) _ _ _ _ l m left right
      (word_standing w (op2_of op w q.n u.n) (B.words.op2 c op w f.word_is g.word_is) (laws.words.op2_sound c valuation op w q.n u.n f.word_is g.word_is f.width f.fits g.fits q.describes u.describes))

  pub compared_met : (k : WordComparison) (w : ℕ) (x y : Abs W N) (p r : Val) (l : List Seen) (m : List Read) → IsOf B c cap env P (Word w) x → IsOf B c cap env P (Word w) y → Stands B valuation exact x p → Stands B valuation exact y r
      → IsMet exact (IsTrue B.notes.stamped) (Stands B valuation exact) l m (gives (compared B c k w x y) l) (o.given (s.compared k w p r) m)
  compared_met k w x y p r l m h i st su =
      let f = word_there B c cap env P w x h in
      let g = word_there B c cap env P w y i in
      let q = word_stands w f.word_is p (subst (λ z. Stands B valuation exact z p) f.is st) in
      let u = word_stands w g.word_is r (subst (λ z. Stands B valuation exact z r) g.is su) in
      let both_ : compared B c k w (word w f.word_is) (word w g.word_is) ≡ Some (flag (B.words.cmp c k w f.word_is g.word_is)) = rw (equal_itself w) refl in
      let left = ap (λ z. compared B c k w z y) f.is ∙ ap (compared B c k w (word w f.word_is)) g.is ∙ both_ in
      let numbers : s.compared k w (v.word w q.n) (v.word w u.n) ≡ Some (v.flag (cmp_of k w q.n u.n)) = rw (number_is w q.n f.width q.below, number_is w u.n f.width u.below) refl in
      let right = ap (λ z. s.compared k w z r) q.is ∙ ap (s.compared k w (v.word w q.n)) u.is ∙ numbers in
      let may = laws.words.cmp_sound c valuation k w q.n u.n f.word_is g.word_is f.width f.fits g.fits q.describes u.describes in
      met_of (Stands B valuation exact) _ _ _ _ l m left right
      (record {
        describes = may;
        single = chosen_single (B.words.cmp c k w f.word_is g.word_is) (compared_single B laws c cap env a P inv valuation exact mode _ (cmp_of k w q.n u.n) may (λ never. laws.words.not_both c k w f.word_is g.word_is f.width never f.fits g.fits));
      })

  casts_is : (kind : CastKind) (from to : ℕ) → IsWidth from → IsWidth to → CastFits kind from to → casts kind from to ≡ true
  casts_is CastKind.Zero from to n w h = both (nat_le from to) (nat_le to 64) (at_most_is from to h) (at_most_is to 64 w.1)
  casts_is CastKind.Sign from to n w h = both (nat_le from to) (nat_le to 64) (at_most_is from to h) (at_most_is to 64 w.1)
  casts_is CastKind.Cut from to n w h = both (nat_le 1 to) (nat_le to from) (at_most_is 1 to w.0) (at_most_is to from h)

  cast_sound : (kind : CastKind) (from to n : ℕ) (x : W) → IsWidth from → IsWidth to → CastFits kind from to → B.words.fits c from x → B.words.describes valuation from n x → B.words.describes valuation to (s.cast_of kind from to n) (cast_of B c kind from to x)
  cast_sound CastKind.Zero from to n x nar w h f d = laws.words.zext_sound c valuation from to n x (record { narrow = nar; wide = w; order = h }) f d
  cast_sound CastKind.Sign from to n x nar w h f d = laws.words.sext_sound c valuation from to n x (record { narrow = nar; wide = w; order = h }) f d
  cast_sound CastKind.Cut from to n x nar w h f d = laws.words.trunc_sound c valuation from to n x (record { narrow = w; wide = nar; order = h }) f d

  pub resized_met : (kind : CastKind) (from to : ℕ) (x : Abs W N) (p : Val) (l : List Seen) (m : List Read) → IsOf B c cap env P (Word from) x → IsWidth to → CastFits kind from to → Stands B valuation exact x p
      → IsMet exact (IsTrue B.notes.stamped) (Stands B valuation exact) l m (gives (resized B c kind from to x) l) (o.given (s.resized kind from to p) m)
  resized_met kind from to x p l m h w f st =
      let g = word_there B c cap env P from x h in
      let q = word_stands from g.word_is p (subst (λ z. Stands B valuation exact z p) g.is st) in
      let can = casts_is kind from to g.width w f in
      let one_ : resized B c kind from to (word from g.word_is) ≡ Some (word to (cast_of B c kind from to g.word_is)) = rw (equal_itself from, can) refl in
      let number_ : s.resized kind from to (v.word from q.n) ≡ Some (v.word to (s.cast_of kind from to q.n)) = rw (can, number_is from q.n g.width q.below) refl in
      met_of (Stands B valuation exact) _ _ _ _ l m (ap (resized B c kind from to) g.is ∙ one_) (ap (s.resized kind from to) q.is ∙ number_)
      (word_standing to (s.cast_of kind from to q.n) (cast_of B c kind from to g.word_is) (cast_sound kind from to q.n g.word_is g.width w f g.fits q.describes))

  -- ---- maps
  pub record MapStands (m : ℕ) (x : Map W N) (p : Val) : Type 0 where
    pub rest : Cell
    pub cells : List (ℕ × Cell)
    pub is : p ≡ v.map m rest cells
    pub describes : MapDescribes B valuation (held_at rest cells) x

  map_stands : (m : ℕ) (x : Map W N) (p : Val) → Stands B valuation exact (map m x) p → MapStands m x p
  map_stands m x (v.map n rest cells) st = record { rest = rest; cells = cells; is = ap (λ z. v.map z rest cells) st.describes.0; describes = st.describes.1 }
  map_stands m x (v.flag b) st = absurd st.describes
  map_stands m x (v.word w n) st = absurd st.describes
  map_stands m x (v.made t k ps) st = absurd st.describes

  access_is : (m : ℕ) (x : Map W N) (key : Abs W N) (l : List Seen) (ks : Keys) → keys_of B c x key ≡ Some ks → accessed B c m (map m x) key l ≡ read_of B c m x l (Some ks)
  access_is m x key l ks e = rw (equal_itself m, e) refl

  access_at : (m : ℕ) (rest : Cell) (cells : List (ℕ × Cell)) (r : Val) (d : MapType) (k : ℕ) → slice_get env.maps m ≡ Some d → key_of r ≡ Some k → s.accessed env.maps m (v.map m rest cells) r ≡ Some (s.read_at env.maps m d.width k (cell_at rest cells k))
  access_at m rest cells r d k e h = rw (equal_itself m, e, h) refl

  update_is : (m : ℕ) (x : Map W N) (key : Abs W N) (y : W) (ks : Keys) → keys_of B c x key ≡ Some ks → is_keyed ks ≡ true → updated B c cap a m (map m x) key (word x.width y) ≡ Some (map m (update_of B c cap x ks (put_at B c a y)))
  update_is m x key y ks e h = rw (equal_itself m, equal_itself x.width, e, h) refl

  update_at : (m : ℕ) (rest : Cell) (cells : List (ℕ × Cell)) (r : Val) (d : MapType) (k w n : ℕ) → slice_get env.maps m ≡ Some d → key_of r ≡ Some k → number d.width (v.word w n) ≡ Some n
      → s.updated env.maps a m (v.map m rest cells) r (v.word w n) ≡ Some (v.map m rest (put_cell k (s.stamped env.maps a n) cells))
  update_at m rest cells r d k w n e h g = rw (equal_itself m, e, h) (ap (λ z. option_map (λ y. v.map m rest (put_cell k (s.stamped env.maps a y) cells)) z) g)

  pub accessed_met : (m : ℕ) (x key : Abs W N) (p r : Val) (l : List Seen) (rs : List Read) → is_key_type env (key_type env m) ≡ true → IsOf B c cap env P (MapOf m) x → IsOf B c cap env P (key_type env m) key
      → Stands B valuation exact x p → Stands B valuation exact key r → IsMet exact (IsTrue B.notes.stamped) (Stands B valuation exact) l rs (accessed B c m x key l) (o.seen (s.accessed env.maps m p r) rs)
  accessed_met m x key p r l rs kt h g st su =
      let f = map_there B c cap env P m x h in
      let q = map_stands m f.map_is p (subst (λ z. Stands B valuation exact z p) f.is st) in
      let k = key_met B laws c cap env P valuation exact mode (key_type env m) f.map_is key r kt g su in
      let cell = access_describes B laws c cap valuation (held_at q.rest q.cells) f.map_is k.ks k.k f.fits k.use_ q.describes k.may in
      let left = access_is m f.map_is key l k.ks k.there in
      let right = access_at m q.rest q.cells r f.ty k.k f.declared k.is in
      subst (λ z. IsMet exact (IsTrue B.notes.stamped) (Stands B valuation exact) l rs z (o.seen (s.accessed env.maps m p r) rs)) (sym (ap (λ z. accessed B c m z key l) f.is ∙ left))
      (subst (λ z. IsMet exact (IsTrue B.notes.stamped) (Stands B valuation exact) l rs (read_of B c m f.map_is l (Some k.ks)) (o.seen z rs)) (sym (ap (λ z. s.accessed env.maps m z r) q.is ∙ right)) (
        record { describes = (f.width, cell.0); single = λ t. tt },
        record {
          keeps = keeps_more l _;
          covers = λ tells log keeps cov. covered_more log rs _ cov (keeps _ (covering_right l (B.notes.reads m (named_key k.ks) (access_of B c f.map_is k.ks).note) _
              (laws.notes.reads_cover m (named_key k.ks) k.k (cell_at q.rest q.cells k.k).stamp (access_of B c f.map_is k.ks).note tells (named_is f.map_is k.ks k.k k.may) cell.1)));
        },
      ))

  pub updated_met : (m : ℕ) (x key y : Abs W N) (p r u : Val) (l : List Seen) (rs : List Read) → is_key_type env (key_type env m) ≡ true → key_count env (key_type env m) ≤ 2 ^ 32
      → IsOf B c cap env P (MapOf m) x → IsOf B c cap env P (key_type env m) key → IsOf B c cap env P (value_type env m) y
      → Stands B valuation exact x p → Stands B valuation exact key r → Stands B valuation exact y u
      → IsMet exact (IsTrue B.notes.stamped) (Stands B valuation exact) l rs (gives (updated B c cap a m x key y) l) (o.given (s.updated env.maps a m p r u) rs)
  updated_met m x key y p r u l rs kt few h g i st su sv =
      let f = map_there B c cap env P m x h in
      let q = map_stands m f.map_is p (subst (λ z. Stands B valuation exact z p) f.is st) in
      let k = key_met B laws c cap env P valuation exact mode (key_type env m) f.map_is key r kt g su in
      let w = word_there B c cap env P f.map_is.width y (subst (λ ty. IsOf B c cap env P ty y) (value_is_of f.ty f.map_is f.declared f.width) i) in
      let n = word_stands f.map_is.width w.word_is u (subst (λ z. Stands B valuation exact z u) w.is sv) in
      let below = key_below B laws c cap env P (key_type env m) f.map_is key k.ks kt g k.there in
      let one_ = update_is m f.map_is key w.word_is k.ks k.there (is_keyed_so k.ks (keyed (key_count env (key_type env m)) k.ks few below)) in
      let number_ : number f.ty.width (v.word f.map_is.width n.n) ≡ Some n.n = subst (λ z. number z (v.word f.map_is.width n.n) ≡ Some n.n) (sym f.width) (number_is f.map_is.width n.n w.width n.below) in
      let right = update_at m q.rest q.cells r f.ty k.k f.map_is.width n.n f.declared k.is number_ in
      met_of (Stands B valuation exact) _ _ _ _ l rs
      (ap (λ z. updated B c cap a m z key y) f.is ∙ ap (updated B c cap a m (map m f.map_is) key) w.is ∙ one_)
      (ap (λ z. s.updated env.maps a m z r u) q.is ∙ ap (s.updated env.maps a m (v.map m q.rest q.cells) r) n.is ∙ right)
      (record {
        describes = (
          refl,
          λ j. subst (λ z. CellDescribes B valuation (update_of B c cap f.map_is k.ks (put_at B c a w.word_is)).width z (cell (update_of B c cap f.map_is k.ks (put_at B c a w.word_is)) j))
              (sym (put_held q.rest k.k j (s.stamped env.maps a n.n) q.cells))
              (update_describes B laws c cap valuation (held_at q.rest q.cells) f.map_is k.ks k.k (held_of (s.stamped env.maps a n.n)) (put_at B c a w.word_is) f.fits k.use_ k.listed w.fits q.describes k.may (n.describes, laws.notes.at_sound a) j),
        );
        single = λ t. tt;
      })
    where
      value_is_of : (ty : MapType) (x : Map W N) → slice_get env.maps m ≡ Some ty → ty.width ≡ x.width → value_type env m ≡ Word x.width
      value_is_of ty x e w = ap value_of e ∙ ap Word w

      is_keyed_so : (ks : Keys) → IsKeyed ks → is_keyed ks ≡ true
      is_keyed_so (one k) h = less_is k (2 ^ 32) h
      is_keyed_so (some ks all) h = refl

  -- ---- constructors
  absent_are : (n : ℕ) → AreAbsent {W = W} {N = N} (absent_onto n no_case)
  absent_are zero = tt
  absent_are (suc n) = absent_are n

  one_single : (n k : ℕ) (xs : Parts W N) → k < n → AreSingle xs → IsSingleCase (one_case n k xs)
  one_single zero k xs lt h = absurd (omega (arith, lt))
  one_single (suc n) zero xs lt h = (h, absent_are n)
  one_single (suc n) (suc k) xs lt h = one_single n k xs (omega (arith, lt)) h

  one_describes : (n k : ℕ) (xs : Parts W N) (ps : Vals) → k < n → PartsDescribe B valuation xs ps → CaseDescribes B valuation (one_case n k xs) k ps
  one_describes zero k xs ps lt h = absurd (omega (arith, lt))
  one_describes (suc n) zero xs ps lt h = h
  one_describes (suc n) (suc k) xs ps lt h = one_describes n k xs ps (omega (arith, lt)) h

  pub all_describe : (xs : List (Abs W N)) (ps : List Val) → AllStand B valuation exact xs ps → PartsDescribe B valuation (parts xs) (vals ps)
  all_describe [] [] h = tt
  all_describe [] (p ∷ ps) h = absurd h
  all_describe (x ∷ xs) [] h = absurd h
  all_describe (x ∷ xs) (p ∷ ps) h = (h.0.describes, all_describe xs ps h.1)

  all_single : (xs : List (Abs W N)) (ps : List Val) → AllStand B valuation exact xs ps → IsTrue exact → AreSingle (parts xs)
  all_single [] [] h t = tt
  all_single [] (p ∷ ps) h t = absurd h
  all_single (x ∷ xs) [] h t = absurd h
  all_single (x ∷ xs) (p ∷ ps) h t = (h.0.single t, all_single xs ps h.1 t)

  case_within : (ds : List Case) (k : ℕ) → is_some (slice_get ds k) ≡ true → k < length ds
  case_within [] k h = absurd (false≢true h)
  case_within (d ∷ ds) zero h = omega arith
  case_within (d ∷ ds) (suc k) h = let later = case_within ds k h in omega (arith, later)

  pub made_met : (d k : ℕ) (xs : List (Abs W N)) (ps : List Val) (l : List Seen) (rs : List Read) → is_some (case_at env (DataTy d) k) ≡ true → AllStand B valuation exact xs ps
      → IsMet exact (IsTrue B.notes.stamped) (Stands B valuation exact) l rs (gives (made_of env d k xs) l) (o.gives (v.made d k (vals ps)) rs)
  made_met d k xs ps l rs there h =
      let lt = case_within (cases_of (slice_get env.datas d)) k there in
      met_of (Stands B valuation exact) (made_of env d k xs) (Some (v.made d k (vals ps))) (made d (one_case (case_count env d) k (parts xs))) (v.made d k (vals ps)) l rs (rw (less_is k (case_count env d) lt) refl) refl
      (record {
        describes = (refl, one_describes (case_count env d) k (parts xs) (vals ps) lt (all_describe xs ps h));
        single = λ t. one_single (case_count env d) k (parts xs) lt (all_single xs ps h t);
      })
