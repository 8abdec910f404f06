-- A decision on a value that stands for a concrete one meets what the row gives that this picks.
use Rattle.std.proofs.Common.{◌≡◌, ℕ, zero, suc, ◌<◌, ◌^◌, ◌⊎◌, inl, inr, Bool, true, false, cond, List, [], ◌∷◌, Option, Some, None, slice_get, refl, sym, subst, IsTrue}
use Rattle.std.specs.Prelude.{◌==◌, not, option_and_then, IfSome}
use Rattle.std.proofs.lemmas.Bool.{false≢true, lt-ltb as less_is}
use Rattle.std.proofs.lemmas.Option.{same_Some as some_same}
use Rattle.word_operations.specs.declared.kinds.WordComparison.TheVariants.{Eq}
use Rattle.base_trait.specs.Algebra.{Algebra, can_be}
use Rattle.base_trait.specs.Laws.{Laws}
use Rattle.base_trait.specs.Uses.{Seen, Read}
use Rattle.base_trait.specs.declared.tri.Tri.{Tri}
use Rattle.spec_match_compiler.specs.Values as m
use Rattle.spec_match_compiler.specs.Values.{Place, Value, value_at}
use Rattle.spec_match_compiler.specs.Decisions.{Decision, Decisions, row, on_case, on_word, on_flag, no_tree, tree_then}
use Rattle.spec_match_compiler.specs.Picks.{Choice, arm_at, case_at, flag_branch, picks, word_branch}
use Rattle.spec_ir.specs.declared.ty.Ty.{Ty}
use Rattle.spec_ir.specs.declared.ty.Ty.TheVariants.{Word}
use Rattle.spec_ir.specs.Environment.{Environment, Case}
use Rattle.spec_ir.specs.Texts.{cases_of}
use Rattle.semantics.specs.Outcomes.{Outcome}
use Rattle.semantics.specs.Steps.{shown}
use Rattle.semantics_values.specs.Values as v
use Rattle.semantics_values.specs.Values.{Val, Vals}
use Rattle.semantics_laws.specs.CoreTypes.{Decides, AllDecide}
use Rattle.semantics_laws.specs.Places.{type_at}
use Rattle.abstract_value_laws.specs.Abs.{Abs, Cases, flag, word, made, map, no_case, absent, present}
use Rattle.abstract_value_laws.specs.Describes.{Describes, CaseDescribes}
use Rattle.abstract_semantics.specs.Answers.{Evaluation, branch, joined}
use Rattle.abstract_semantics.specs.Choices.{abs_at, abs_named, arm_on, arms_present, cases_there, decided, flag_there, neither, word_there}
use Rattle.abstract_semantics.specs.Sound.{IsSingle, IsSingleCase, AreAbsent}
use Rattle.abstract_semantics.proofs.Kept.{Keeping}
use Rattle.abstract_semantics.proofs.Typed.{IsOf, word_there as word_form}
use Rattle.abstract_semantics.proofs.Stepped.{Invariant}
use Rattle.abstract_semantics.proofs.Chosen.{at_kept, arms_kept, decided_kept}
use Rattle.abstract_semantics.proofs.Meeting.{ChosenMet, Has, IsMet, IsOne, MayFail, branch_met, joined_met}
use Rattle.abstract_semantics.proofs.Standing.{Stands, at_stands, no_absent, shown_at}

-- sound over a base that joins, or exact over one that does not
abbrev pub Mode : {W N C : Type 0} → Algebra W N C → Bool → Type 0
Mode B exact = ((exact ≡ false) × IsTrue B.joins) ⊎ ((exact ≡ true) × (B.joins ≡ false))

module _ {W N C : Type 0} (B : Algebra W N C) (laws : Laws W N C B) (c : C) (cap : ℕ) (env : Environment) (a : ℕ) (P : Abs W N → Type 0) (inv : Invariant B c cap env a P) (valuation : List ℕ) (exact : Bool) (mode : Mode B exact) where
  -- a comparison is single where all is exact
  pub compared_single : (t : Tri) (b : Bool) → IsTrue (can_be t b) → (B.joins ≡ false → IsTrue (can_be t true) → can_be t false ≡ false) → ChosenMet exact t
  compared_single t b h both = at exact mode b h
    where
      single : (p q b : Bool) → IsTrue (can_be (record { may_true = p; may_false = q }) b) → (IsTrue p → q ≡ false) → p ≡ not q
      single true true b h k = absurd (let e = k refl in cc)
      single true false b h k = refl
      single false true b h k = refl
      single false false true h k = absurd cc
      single false false false h k = absurd cc

      at : (e : Bool) → Mode B e → (b : Bool) → IsTrue (can_be t b) → ChosenMet e t
      at false md b h = tt
      at true (inl md) b h = absurd (false≢true (sym md.0))
      at true (inr md) b h = single t.may_true t.may_false b h (both md.1)

  pub flag_single : (t : Tri) → (IsTrue exact → IsSingle {W = W} {N = N} (flag t)) → ChosenMet exact t
  flag_single t s = at exact s
    where
      at : (e : Bool) → (IsTrue e → IsSingle {W = W} {N = N} (flag t)) → ChosenMet e t
      at false s = tt
      at true s = s refl

  module _ {A V : Type 0} (stamped : Type 0) (Q : A → Type 0) (R : A → V → Type 0) (j : A → A → A) (keeps : (x y : A) → Q x → Q y → Q (j x y))
      (left : exact ≡ false → (x y : A) (n : V) → Q x → Q y → R x n → R (j x y) n) (right : exact ≡ false → (x y : A) (n : V) → Q x → Q y → R y n → R (j x y) n)
      (arm : ℕ → List (Abs W N) → Evaluation A) (x : Abs W N) (p : Val) (ty : Ty) (typed : IsOf B c cap env P ty x) (stands : Stands B valuation exact x p)
      (Row : ℕ → List (ℕ × Place) → Type 0) (row_kept : (r : ℕ) (binds : List (ℕ × Place)) → Row r binds → Keeping (MayFail exact) Q (arm_on (arm r) (abs_named x binds)))
      (reads : List Read) (choice : Choice) (o : Outcome V) (picked : (l : List Seen) → IsMet exact stamped R l reads (arm_on (arm choice.0) (abs_named x choice.1) l) o) where
    kept : (t : Decision) → Decides env Row ty t → Keeping (MayFail exact) Q (decided B c j arm x t)
    kept t h = decided_kept B c cap env a P inv (MayFail exact) Q j keeps arm x ty Row row_kept t h

    abbrev Met : Decision → Type 0
    Met t = (l : List Seen) → IsMet exact stamped R l reads (decided B c j arm x t l) o

    none_present : (ts : Decisions) (cs : Cases W N) → AreAbsent cs → arms_present B c j arm x ts cs ≡ []
    none_present no_tree cs h = refl
    none_present (tree_then t ts) no_case h = refl
    none_present (tree_then t ts) (absent cs) h = none_present ts cs h
    none_present (tree_then t ts) (present xs cs) h = absurd h

    one_of : (fs : List (Evaluation A)) (f : Evaluation A) → fs ≡ [] → IsOne (f ∷ fs)
    one_of [] f e = tt
    one_of (g ∷ fs) f e = absurd cc

    one_present : (ts : Decisions) (cs : Cases W N) (k : ℕ) (ps : Vals) → IsSingleCase cs → CaseDescribes B valuation cs k ps → arm_at ts k (shown p) ≡ Some choice → IsOne (arms_present B c j arm x ts cs)
    one_present no_tree cs k ps s d e = absurd cc
    one_present (tree_then t ts) no_case k ps s d e = absurd s
    one_present (tree_then t ts) (absent cs) zero ps s d e = absurd d
    one_present (tree_then t ts) (absent cs) (suc k) ps s d e = one_present ts cs k ps s d e
    one_present (tree_then t ts) (present xs cs) zero ps s d e = one_of (arms_present B c j arm x ts cs) (decided B c j arm x t) (none_present ts cs s.1)
    one_present (tree_then t ts) (present xs cs) (suc k) ps s d e = absurd (no_absent B valuation exact cs k ps s.1 d)

    -- ---- a flag
    flag_met : (at : Place) (u w : Decision) (q : Bool) → Decides env Row ty u → Decides env Row ty w → (y : Abs W N) (s : Val) → shown s ≡ m.flag q → abs_at at x ≡ Some y → Stands B valuation exact y s
        → ((l : List Seen) → IsMet exact stamped R l reads (cond q (decided B c j arm x u) (decided B c j arm x w) l) o) → Met (on_flag at u w)
    flag_met at u w q hu hw (flag t) (v.flag b) f is st go l =
        let same : b ≡ q = cc in
        subst (λ z. IsMet exact stamped R l reads (branch j (flag_there z) (decided B c j arm x u) (decided B c j arm x w) l) o) (sym is)
        (branch_met stamped Q R j keeps exact left right t q _ _ o l reads (kept u hu) (kept w hw) (subst (λ z. IsTrue (can_be t z)) same st.describes) (flag_single t st.single) go)
    flag_met at u w q hu hw y (v.word w' n) f is st go l = absurd cc
    flag_met at u w q hu hw y (v.made ty' k ps) f is st go l = absurd cc
    flag_met at u w q hu hw y (v.map n rest cells) f is st go l = absurd cc
    flag_met at u w q hu hw (word w' z) (v.flag b) f is st go l = absurd st.describes
    flag_met at u w q hu hw (made ty' cs) (v.flag b) f is st go l = absurd st.describes
    flag_met at u w q hu hw (map n z) (v.flag b) f is st go l = absurd st.describes

    flag_test : (at : Place) (u w : Decision) → Decides env Row ty u → Decides env Row ty w → (z : Option Value) → value_at (shown p) at ≡ z → flag_branch z (picks u (shown p)) (picks w (shown p)) ≡ Some choice
        → (picks u (shown p) ≡ Some choice → Met u) → (picks w (shown p) ≡ Some choice → Met w) → Met (on_flag at u w)
    flag_test at u w hu hw (Some (m.flag true)) f e gu gw =
        let q = shown_at at p (m.flag true) f in
        let y = at_stands B valuation exact at x p q.value stands q.is in
        flag_met at u w true hu hw y.value q.value q.seen y.is y.stands (gu e)
    flag_test at u w hu hw (Some (m.flag false)) f e gu gw =
        let q = shown_at at p (m.flag false) f in
        let y = at_stands B valuation exact at x p q.value stands q.is in
        flag_met at u w false hu hw y.value q.value q.seen y.is y.stands (gw e)
    flag_test at u w hu hw (Some (m.word n)) f e gu gw = absurd cc
    flag_test at u w hu hw (Some (m.made k vs)) f e gu gw = absurd cc
    flag_test at u w hu hw (Some (m.thing n)) f e gu gw = absurd cc
    flag_test at u w hu hw None f e gu gw = absurd cc

    -- ---- a number
    typed_at : (at : Place) (s : Ty) (y : Abs W N) → type_at env ty at ≡ Some s → abs_at at x ≡ Some y → IsOf B c cap env P s y
    typed_at at s y e is = there (abs_at at x) is (at_kept B c cap env a P inv at x ty s typed e)
      where
        there : (z : Option (Abs W N)) → z ≡ Some y → IfSome z (IsOf B c cap env P s) → IsOf B c cap env P s y
        there None e h = absurd cc
        there (Some y') e h = subst (IsOf B c cap env P s) (some_same y' y e) h

    word_met : (at : Place) (w n k : ℕ) (u z : Decision) → type_at env ty at ≡ Some (Word w) → n < 2 ^ w → Decides env Row ty u → Decides env Row ty z → (y : Abs W N) (s : Val) → shown s ≡ m.word k → abs_at at x ≡ Some y → Stands B valuation exact y s
        → ((l : List Seen) → IsMet exact stamped R l reads (cond (k == n) (decided B c j arm x u) (decided B c j arm x z) l) o) → Met (on_word at n u z)
    word_met at w n k u z te small hu hz y (v.word w' k') f is st go l =
        let form = word_form B c cap env P w y (typed_at at (Word w) y te is) in
        let there : abs_at at x ≡ Some (word w form.word_is) = subst (λ q. abs_at at x ≡ Some q) form.is is in
        let d : Describes B valuation (word w form.word_is) (v.word w' k') = subst (λ q. Describes B valuation q (v.word w' k')) form.is st.describes in
        let same : k' ≡ k = cc in
        let fits = laws.words.constant_fits c w n form.width small in
        let may = laws.words.cmp_sound c valuation Eq w k n form.word_is (B.words.constant c w n) form.width form.fits fits (subst (λ q. B.words.describes valuation w q form.word_is) same d.1) (laws.words.constant_sound c valuation w n form.width small) in
        subst (λ q. IsMet exact stamped R l reads (branch j (word_there B c q n) (decided B c j arm x u) (decided B c j arm x z) l) o) (sym there)
        (subst (λ q. IsMet exact stamped R l reads (branch j (cond q (B.words.cmp c Eq w form.word_is (B.words.constant c w n)) neither) (decided B c j arm x u) (decided B c j arm x z) l) o) (sym (less_is n (2 ^ w) small))
        (branch_met stamped Q R j keeps exact left right (B.words.cmp c Eq w form.word_is (B.words.constant c w n)) (k == n) _ _ o l reads (kept u hu) (kept z hz) may
        (compared_single _ (k == n) may (λ never. laws.words.not_both c Eq w form.word_is (B.words.constant c w n) form.width never form.fits fits)) go))
    word_met at w n k u z te small hu hz y (v.flag b) f is st go l = absurd cc
    word_met at w n k u z te small hu hz y (v.made ty' i ps) f is st go l = absurd cc
    word_met at w n k u z te small hu hz y (v.map i rest cells) f is st go l = absurd cc

    word_test : (at : Place) (w n : ℕ) (u z : Decision) → type_at env ty at ≡ Some (Word w) → n < 2 ^ w → Decides env Row ty u → Decides env Row ty z → (y : Option Value) → value_at (shown p) at ≡ y
        → word_branch y n (picks u (shown p)) (picks z (shown p)) ≡ Some choice → (picks u (shown p) ≡ Some choice → Met u) → (picks z (shown p) ≡ Some choice → Met z) → Met (on_word at n u z)
    word_test at w n u z te small hu hz (Some (m.word k)) f e gu gz =
        let q = shown_at at p (m.word k) f in
        let y = at_stands B valuation exact at x p q.value stands q.is in
        word_met at w n k u z te small hu hz y.value q.value q.seen y.is y.stands (side (k == n) e)
      where
        side : (b : Bool) → cond b (picks u (shown p)) (picks z (shown p)) ≡ Some choice → (l : List Seen) → IsMet exact stamped R l reads (cond b (decided B c j arm x u) (decided B c j arm x z) l) o
        side true e = gu e
        side false e = gz e
    word_test at w n u z te small hu hz (Some (m.flag b)) f e gu gz = absurd cc
    word_test at w n u z te small hu hz (Some (m.made k vs)) f e gu gz = absurd cc
    word_test at w n u z te small hu hz (Some (m.thing k)) f e gu gz = absurd cc
    word_test at w n u z te small hu hz None f e gu gz = absurd cc

    -- ---- a constructor
    case_met : (at : Place) (ts : Decisions) (ds : List Case) (k : ℕ) → AllDecide env Row ty ts ds → (y : Abs W N) (s : Val) (vs : m.Values) → shown s ≡ m.made k vs → abs_at at x ≡ Some y → Stands B valuation exact y s → arm_at ts k (shown p) ≡ Some choice
        → ((cs : Cases W N) (ps : Vals) → CaseDescribes B valuation cs k ps → Has (λ f. (l : List Seen) → IsMet exact stamped R l reads (f l) o) (arms_present B c j arm x ts cs)) → Met (on_case at ts)
    case_met at ts ds k h (made ty' cs) (v.made t i ps) vs f is st e go l =
        let same : i ≡ k = cc in
        let d : CaseDescribes B valuation cs k ps = subst (λ q. CaseDescribes B valuation cs q ps) same st.describes.1 in
        subst (λ q. IsMet exact stamped R l reads (joined j (arms_present B c j arm x ts (cases_there q)) l) o) (sym is)
        (joined_met stamped Q R j keeps exact left right (arms_present B c j arm x ts cs) l reads o (arms_kept B c cap env a P inv (MayFail exact) Q j keeps arm x ty Row row_kept ts ds cs h) (go cs ps d)
        (λ t. one_present ts cs k ps (st.single t) d e))
    case_met at ts ds k h y (v.flag b) vs f is st e go l = absurd cc
    case_met at ts ds k h y (v.word w n) vs f is st e go l = absurd cc
    case_met at ts ds k h y (v.map n rest cells) vs f is st e go l = absurd cc
    case_met at ts ds k h (flag t) (v.made t' i ps) vs f is st e go l = absurd st.describes
    case_met at ts ds k h (word w z) (v.made t' i ps) vs f is st e go l = absurd st.describes
    case_met at ts ds k h (map n z) (v.made t' i ps) vs f is st e go l = absurd st.describes

    case_test : (at : Place) (ts : Decisions) (ds : List Case) → AllDecide env Row ty ts ds → (y : Option Value) → value_at (shown p) at ≡ y → option_and_then (λ k. arm_at ts k (shown p)) (case_at y) ≡ Some choice
        → ((k : ℕ) (cs : Cases W N) (ps : Vals) → arm_at ts k (shown p) ≡ Some choice → CaseDescribes B valuation cs k ps → Has (λ f. (l : List Seen) → IsMet exact stamped R l reads (f l) o) (arms_present B c j arm x ts cs)) → Met (on_case at ts)
    case_test at ts ds h (Some (m.made k vs)) f e go =
        let q = shown_at at p (m.made k vs) f in
        let y = at_stands B valuation exact at x p q.value stands q.is in
        case_met at ts ds k h y.value q.value vs q.seen y.is y.stands e (λ cs ps d. go k cs ps e d)
    case_test at ts ds h (Some (m.flag b)) f e go = absurd cc
    case_test at ts ds h (Some (m.word n)) f e go = absurd cc
    case_test at ts ds h (Some (m.thing n)) f e go = absurd cc
    case_test at ts ds h None f e go = absurd cc

    mutual
      pub decided_met : (t : Decision) → Decides env Row ty t → picks t (shown p) ≡ Some choice → Met t
      decided_met (row r binds) h e l =
          let same : (r, binds) ≡ choice = some_same (r, binds) choice e in
          subst (λ z. IsMet exact stamped R l reads (arm_on (arm z.0) (abs_named x z.1) l) o) (sym same) (picked l)
      decided_met (on_flag at u w) h e l = flag_test at u w h.1 h.2 (value_at (shown p) at) refl e (λ e l. decided_met u h.1 e l) (λ e l. decided_met w h.2 e l) l
      decided_met (on_word at n u w) h e l = word_test at h.0 n u w h.1 h.2 h.3 h.4 (value_at (shown p) at) refl e (λ e l. decided_met u h.3 e l) (λ e l. decided_met w h.4 e l) l
      decided_met (on_case at ts) h e l = case_test at ts (cases_of (slice_get env.datas h.0)) h.2 (value_at (shown p) at) refl e (λ k cs ps e d. has_arm ts (cases_of (slice_get env.datas h.0)) cs k ps h.2 e d) l

      has_arm : (ts : Decisions) (ds : List Case) (cs : Cases W N) (k : ℕ) (ps : Vals) → AllDecide env Row ty ts ds → arm_at ts k (shown p) ≡ Some choice → CaseDescribes B valuation cs k ps
          → Has (λ f. (l : List Seen) → IsMet exact stamped R l reads (f l) o) (arms_present B c j arm x ts cs)
      has_arm no_tree ds cs k ps h e d = absurd cc
      has_arm (tree_then t ts) [] cs k ps h e d = absurd h
      has_arm (tree_then t ts) (q ∷ ds) no_case k ps h e d = absurd d
      has_arm (tree_then t ts) (q ∷ ds) (absent cs) zero ps h e d = absurd d
      has_arm (tree_then t ts) (q ∷ ds) (absent cs) (suc k) ps h e d = has_arm ts ds cs k ps h.1 e d
      has_arm (tree_then t ts) (q ∷ ds) (present xs cs) zero ps h e d = inl (λ l. decided_met t h.0 e l)
      has_arm (tree_then t ts) (q ∷ ds) (present xs cs) (suc k) ps h e d = inr (has_arm ts ds cs k ps h.1 e d)

-- the row that a decision picks
module _ (env : Environment) (Row : ℕ → List (ℕ × Place) → Type 0) (ty : Ty) (u : Value) (choice : Choice) where
  pick_case : (ts : Decisions) (ds : List Case) (z : Option ℕ) → AllDecide env Row ty ts ds → option_and_then (λ k. arm_at ts k u) z ≡ Some choice → ((k : ℕ) → arm_at ts k u ≡ Some choice → Row choice.0 choice.1) → Row choice.0 choice.1
  pick_case ts ds None h e go = absurd cc
  pick_case ts ds (Some k) h e go = go k e

  pick_word : (z : Option Value) (n : ℕ) (p q : Option Choice) → word_branch z n p q ≡ Some choice → (p ≡ Some choice → Row choice.0 choice.1) → (q ≡ Some choice → Row choice.0 choice.1) → Row choice.0 choice.1
  pick_word (Some (m.word k)) n p q e gp gq = at (k == n) e
    where
      at : (b : Bool) → cond b p q ≡ Some choice → Row choice.0 choice.1
      at true e = gp e
      at false e = gq e
  pick_word (Some (m.flag b)) n p q e gp gq = absurd cc
  pick_word (Some (m.made k vs)) n p q e gp gq = absurd cc
  pick_word (Some (m.thing k)) n p q e gp gq = absurd cc
  pick_word None n p q e gp gq = absurd cc

  pick_flag : (z : Option Value) (p q : Option Choice) → flag_branch z p q ≡ Some choice → (p ≡ Some choice → Row choice.0 choice.1) → (q ≡ Some choice → Row choice.0 choice.1) → Row choice.0 choice.1
  pick_flag (Some (m.flag true)) p q e gp gq = gp e
  pick_flag (Some (m.flag false)) p q e gp gq = gq e
  pick_flag (Some (m.word k)) p q e gp gq = absurd cc
  pick_flag (Some (m.made k vs)) p q e gp gq = absurd cc
  pick_flag (Some (m.thing k)) p q e gp gq = absurd cc
  pick_flag None p q e gp gq = absurd cc

  mutual
    pub row_picked : (t : Decision) → Decides env Row ty t → picks t u ≡ Some choice → Row choice.0 choice.1
    row_picked (row r binds) h e = let same : (r, binds) ≡ choice = some_same (r, binds) choice e in subst (λ z. Row z.0 z.1) same h
    row_picked (on_case at ts) h e = pick_case ts (cases_of (slice_get env.datas h.0)) (case_at (value_at u at)) h.2 e (λ k e. rows_picked ts (cases_of (slice_get env.datas h.0)) k h.2 e)
    row_picked (on_word at n a b) h e = pick_word (value_at u at) n (picks a u) (picks b u) e (λ e. row_picked a h.3 e) (λ e. row_picked b h.4 e)
    row_picked (on_flag at a b) h e = pick_flag (value_at u at) (picks a u) (picks b u) e (λ e. row_picked a h.1 e) (λ e. row_picked b h.2 e)

    rows_picked : (ts : Decisions) (ds : List Case) (k : ℕ) → AllDecide env Row ty ts ds → arm_at ts k u ≡ Some choice → Row choice.0 choice.1
    rows_picked no_tree ds k h e = absurd cc
    rows_picked (tree_then t ts) [] k h e = absurd h
    rows_picked (tree_then t ts) (d ∷ ds) zero h e = row_picked t h.0 e
    rows_picked (tree_then t ts) (d ∷ ds) (suc k) h e = rows_picked ts ds k h.1 e
