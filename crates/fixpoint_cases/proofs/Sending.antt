-- What cases send together: what fits, what is named, and up to how elements are written.
use Rattle.std.proofs.Common.{◌≡◌, ◌∙◌, ℕ, List, [], ◌∷◌, ◌++◌, Option, None, Some, ap, refl, subst}
use Rattle.std.specs.Prelude.{IfSome, fold, map}
use Rattle.base_trait.specs.Lists.{Each, IsAscending}
use Rattle.base_trait.specs.Uses.{Seen}
use Rattle.fixpoint_theory.specs.Elements.{ElementLaws, Elements}
use Rattle.fixpoint_theory.specs.Outcome.{AreSameArrivals, HasTargets, IfPost, IfUses, Outcome, SameOutcome, SamePost, addresses, arrivals_behind, at_each, moves, sends, too_many, undecodable}
use Rattle.fixpoint_cases.specs.Same.{AreSame, AreSameSplits}
use Rattle.fixpoint_cases.specs.Sent.{and_case, and_sent, merged, unless_many, where_split}
use Rattle.fixpoint_cases.proofs.Putting.{all_ascend, all_keep, all_same, arrivals_itself, arrivals_on}

at_each_keep : {E : Type 0} (P : E → Type 0) (x : E) (targets : List ℕ) → P x → Each (λ a. P a.1) (at_each x targets)
at_each_keep P x [] h = tt
at_each_keep P x (to ∷ rest) h = (h, at_each_keep P x rest h)

pub behind_keep : {E : Type 0} (P : E → Type 0) (post : Option E) (targets : List ℕ) → IfSome post P → Each (λ a. P a.1) (arrivals_behind post targets)
behind_keep P None targets h = tt
behind_keep P (Some x) targets h = at_each_keep P x targets h

module _ {E S : Type 0} (D : Elements E S) where
  pub behind_fits : (post : Option E) (targets : List ℕ) → IfSome post D.fits → Each (λ a. D.fits a.1) (arrivals_behind post targets)
  behind_fits post targets h = behind_keep D.fits post targets h

  module _ (laws : ElementLaws D) where
    at_each_same : (x y : E) (targets : List ℕ) → D.same x y → AreSameArrivals D (at_each x targets) (at_each y targets)
    at_each_same x y [] same = tt
    at_each_same x y (to ∷ rest) same = (refl, same, at_each_same x y rest same)

    behind_same : (x y : Option E) (ts ts' : List ℕ) → ts ≡ ts' → SamePost D x y → AreSameArrivals D (arrivals_behind x ts) (arrivals_behind y ts')
    behind_same None None ts ts' e same = tt
    behind_same None (Some y) ts ts' e same = absurd same
    behind_same (Some x) None ts ts' e same = absurd same
    behind_same (Some x) (Some y) ts ts' e same = subst (λ l. AreSameArrivals D (at_each x ts) (at_each y l)) e (at_each_same x y ts same)

    uses_same : (us vs ms ns : List Seen) → us ≡ vs → ms ≡ ns → us ++ ms ≡ vs ++ ns
    uses_same us vs ms ns e f = ap (λ l. l ++ ms) e ∙ ap (λ l. vs ++ l) f

    post_itself : (x : Option E) → SamePost D x x
    post_itself None = tt
    post_itself (Some x) = laws.same_itself x

    post_on : (x y z : Option E) → SamePost D x y → SamePost D y z → SamePost D x z
    post_on None None z h k = k
    post_on None (Some y) z h k = absurd h
    post_on (Some x) None z h k = absurd h
    post_on (Some x) (Some y) None h k = absurd k
    post_on (Some x) (Some y) (Some z) h k = laws.same_on x y z h k

  module _ {W : Type 0} where
    -- ---- a property of elements that joins keep
    module _ (P : E → Type 0) (joined : (x y : E) → P x → P y → P (D.join x y)) where
      sent_keeps : (ys : List (ℕ × E)) (us : List Seen) (leaf : Outcome E W) → Each (λ a. P a.1) ys → IfPost P leaf → IfPost P (and_sent D ys us leaf)
      sent_keeps ys us (undecodable word) py pl = tt
      sent_keeps ys us (too_many shown more) py pl = tt
      sent_keeps ys us (moves targets post more) py pl = all_keep D P joined (arrivals_behind post targets) ys (behind_keep P post targets pl) py
      sent_keeps ys us (sends xs more) py pl = all_keep D P joined xs ys pl py

      pub case_keeps : (so_far leaf : Outcome E W) → IfPost P so_far → IfPost P leaf → IfPost P (and_case D so_far leaf)
      case_keeps (undecodable word) leaf ps pl = tt
      case_keeps (too_many shown us) leaf ps pl = tt
      case_keeps (moves targets post us) leaf ps pl = sent_keeps (arrivals_behind post targets) us leaf (behind_keep P post targets ps) pl
      case_keeps (sends ys us) leaf ps pl = sent_keeps ys us leaf ps pl

      pub all_cases_keep : (leaves : List (Outcome E W)) (so_far : Outcome E W) → IfPost P so_far → Each (IfPost P) leaves → IfPost P (fold (and_case D) so_far leaves)
      all_cases_keep [] so_far ps pl = ps
      all_cases_keep (leaf ∷ leaves) so_far ps pl = all_cases_keep leaves (and_case D so_far leaf) (case_keeps so_far leaf ps pl.0) pl.1

      pub merged_keeps : (merge : List Seen → List Seen) (o : Outcome E W) → IfPost P o → IfPost P (merged merge o)
      merged_keeps merge (undecodable word) h = tt
      merged_keeps merge (too_many shown us) h = tt
      merged_keeps merge (moves targets post us) h = h
      merged_keeps merge (sends xs us) h = h

    -- ---- a property of lists of uses that longer lists keep
    module _ (Q : List Seen → Type 0) (both : (us vs : List Seen) → Q us → Q vs → Q (us ++ vs)) where
      sent_uses : (ys : List (ℕ × E)) (us : List Seen) (leaf : Outcome E W) → Q us → IfUses Q leaf → IfUses Q (and_sent D ys us leaf)
      sent_uses ys us (undecodable word) qs ql = tt
      sent_uses ys us (too_many shown more) qs ql = ql
      sent_uses ys us (moves targets post more) qs ql = both us more qs ql
      sent_uses ys us (sends xs more) qs ql = both us more qs ql

      case_uses : (so_far leaf : Outcome E W) → IfUses Q so_far → IfUses Q leaf → IfUses Q (and_case D so_far leaf)
      case_uses (undecodable word) leaf qs ql = tt
      case_uses (too_many shown us) leaf qs ql = qs
      case_uses (moves targets post us) leaf qs ql = sent_uses (arrivals_behind post targets) us leaf qs ql
      case_uses (sends ys us) leaf qs ql = sent_uses ys us leaf qs ql

      pub all_uses : (leaves : List (Outcome E W)) (so_far : Outcome E W) → IfUses Q so_far → Each (IfUses Q) leaves → IfUses Q (fold (and_case D) so_far leaves)
      all_uses [] so_far qs ql = qs
      all_uses (leaf ∷ leaves) so_far qs ql = all_uses leaves (and_case D so_far leaf) (case_uses so_far leaf qs ql.0) ql.1

      pub merged_uses : (merge : List Seen → List Seen) → ((us : List Seen) → Q us → Q (merge us)) → (o : Outcome E W) → IfUses Q o → IfUses Q (merged merge o)
      merged_uses merge f (undecodable word) h = tt
      merged_uses merge f (too_many shown us) h = f us h
      merged_uses merge f (moves targets post us) h = f us h
      merged_uses merge f (sends xs us) h = f us h

    -- ---- addresses ascend
    -- what cases have sent so far does so at ascending addresses
    abbrev pub IsSoFar : Outcome E W → Type 0
    IsSoFar (undecodable word) = Unit {0}
    IsSoFar (too_many shown uses) = Unit {0}
    IsSoFar (moves targets post uses) = ⊥
    IsSoFar (sends arrivals uses) = IsAscending (addresses arrivals)

    sent_so_far : (ys : List (ℕ × E)) (us : List Seen) (leaf : Outcome E W) → IsAscending (addresses ys) → IsSoFar (and_sent D ys us leaf)
    sent_so_far ys us (undecodable word) h = tt
    sent_so_far ys us (too_many shown more) h = tt
    sent_so_far ys us (moves targets post more) h = all_ascend D (arrivals_behind post targets) ys h
    sent_so_far ys us (sends xs more) h = all_ascend D xs ys h

    pub case_so_far : (so_far leaf : Outcome E W) → IsSoFar so_far → IsSoFar (and_case D so_far leaf)
    case_so_far (undecodable word) leaf h = tt
    case_so_far (too_many shown us) leaf h = tt
    case_so_far (moves targets post us) leaf h = absurd h
    case_so_far (sends ys us) leaf h = sent_so_far ys us leaf h

    pub all_so_far : (leaves : List (Outcome E W)) (so_far : Outcome E W) → IsSoFar so_far → IsSoFar (fold (and_case D) so_far leaves)
    all_so_far [] so_far h = h
    all_so_far (leaf ∷ leaves) so_far h = all_so_far leaves (and_case D so_far leaf) (case_so_far so_far leaf h)

    pub so_far_targets : (merge : List Seen → List Seen) (o : Outcome E W) → IsSoFar o → HasTargets (merged merge o)
    so_far_targets merge (undecodable word) h = tt
    so_far_targets merge (too_many shown us) h = tt
    so_far_targets merge (moves targets post us) h = absurd h
    so_far_targets merge (sends xs us) h = h

    -- ---- what holds of the whole and of the cases
    pub unless_keeps : (P : Outcome E W → Type 0) (whole o : Outcome E W) → P whole → P o → P (unless_many whole o)
    unless_keeps P whole (undecodable word) h k = k
    unless_keeps P whole (too_many shown us) h k = h
    unless_keeps P whole (moves targets post us) h k = k
    unless_keeps P whole (sends xs us) h k = k

    pub split_keeps : (P : Outcome E W → Type 0) (whole : Outcome E W) (s : Option (List E)) (o : Outcome E W) → P whole → P o → P (where_split whole s o)
    split_keeps P whole None o h k = h
    split_keeps P whole (Some pieces) o h k = k

    pub both_keep : (P : Outcome E W → Type 0) (whole : Outcome E W) (s : Option (List E)) (o : Outcome E W) → P whole → P o → P (where_split whole s (unless_many whole o))
    both_keep P whole s o h k = split_keeps P whole s (unless_many whole o) h (unless_keeps P whole o h k)

    -- ---- outcomes that are the same
    module _ (laws : ElementLaws D) where
      pub case_fits : (so_far leaf : Outcome E W) → IfPost D.fits so_far → IfPost D.fits leaf → IfPost D.fits (and_case D so_far leaf)
      case_fits so_far leaf fs fl = case_keeps D.fits laws.join_fits so_far leaf fs fl

      pub all_cases_fit : (leaves : List (Outcome E W)) (so_far : Outcome E W) → IfPost D.fits so_far → Each (IfPost D.fits) leaves → IfPost D.fits (fold (and_case D) so_far leaves)
      all_cases_fit leaves so_far fs fl = all_cases_keep D.fits laws.join_fits leaves so_far fs fl

      sent_same : (xs ys : List (ℕ × E)) (us vs : List Seen) (o p : Outcome E W) → Each (λ a. D.fits a.1) xs → Each (λ a. D.fits a.1) ys → AreSameArrivals D xs ys → us ≡ vs → IfPost D.fits o → IfPost D.fits p → SameOutcome D o p
          → SameOutcome D (and_sent D xs us o) (and_sent D ys vs p)
      sent_same xs ys us vs (undecodable v) (undecodable w) fx fy s e fo fp h = h
      sent_same xs ys us vs (too_many a ms) (too_many b ns) fx fy s e fo fp h = h
      sent_same xs ys us vs (moves ts x ms) (moves ts' y ns) fx fy s e fo fp h = (
        all_same D laws (arrivals_behind x ts) (arrivals_behind y ts') xs ys (behind_fits x ts fo) (behind_fits y ts' fp) (behind_same laws x y ts ts' h.0 h.1) fx fy s,
        uses_same laws us vs ms ns e h.2,
      )
      sent_same xs ys us vs (sends rs ms) (sends bs ns) fx fy s e fo fp h = (all_same D laws rs bs xs ys fo fp h.0 fx fy s, uses_same laws us vs ms ns e h.1)
      sent_same xs ys us vs (undecodable v) (too_many b ns) fx fy s e fo fp h = absurd h
      sent_same xs ys us vs (undecodable v) (moves ts' y ns) fx fy s e fo fp h = absurd h
      sent_same xs ys us vs (undecodable v) (sends bs ns) fx fy s e fo fp h = absurd h
      sent_same xs ys us vs (too_many a ms) (undecodable w) fx fy s e fo fp h = absurd h
      sent_same xs ys us vs (too_many a ms) (moves ts' y ns) fx fy s e fo fp h = absurd h
      sent_same xs ys us vs (too_many a ms) (sends bs ns) fx fy s e fo fp h = absurd h
      sent_same xs ys us vs (moves ts x ms) (undecodable w) fx fy s e fo fp h = absurd h
      sent_same xs ys us vs (moves ts x ms) (too_many b ns) fx fy s e fo fp h = absurd h
      sent_same xs ys us vs (moves ts x ms) (sends bs ns) fx fy s e fo fp h = absurd h
      sent_same xs ys us vs (sends rs ms) (undecodable w) fx fy s e fo fp h = absurd h
      sent_same xs ys us vs (sends rs ms) (too_many b ns) fx fy s e fo fp h = absurd h
      sent_same xs ys us vs (sends rs ms) (moves ts' y ns) fx fy s e fo fp h = absurd h

      pub case_same : (c d o p : Outcome E W) → IfPost D.fits c → IfPost D.fits d → SameOutcome D c d → IfPost D.fits o → IfPost D.fits p → SameOutcome D o p
          → SameOutcome D (and_case D c o) (and_case D d p)
      case_same (undecodable v) (undecodable w) o p fc fd s fo fp h = s
      case_same (too_many a us) (too_many b vs) o p fc fd s fo fp h = s
      case_same (moves ts x us) (moves ts' y vs) o p fc fd s fo fp h =
          sent_same (arrivals_behind x ts) (arrivals_behind y ts') us vs o p (behind_fits x ts fc) (behind_fits y ts' fd) (behind_same laws x y ts ts' s.0 s.1) s.2 fo fp h
      case_same (sends xs us) (sends ys vs) o p fc fd s fo fp h = sent_same xs ys us vs o p fc fd s.0 s.1 fo fp h
      case_same (undecodable v) (too_many b vs) o p fc fd s fo fp h = absurd s
      case_same (undecodable v) (moves ts' y vs) o p fc fd s fo fp h = absurd s
      case_same (undecodable v) (sends ys vs) o p fc fd s fo fp h = absurd s
      case_same (too_many a us) (undecodable w) o p fc fd s fo fp h = absurd s
      case_same (too_many a us) (moves ts' y vs) o p fc fd s fo fp h = absurd s
      case_same (too_many a us) (sends ys vs) o p fc fd s fo fp h = absurd s
      case_same (moves ts x us) (undecodable w) o p fc fd s fo fp h = absurd s
      case_same (moves ts x us) (too_many b vs) o p fc fd s fo fp h = absurd s
      case_same (moves ts x us) (sends ys vs) o p fc fd s fo fp h = absurd s
      case_same (sends xs us) (undecodable w) o p fc fd s fo fp h = absurd s
      case_same (sends xs us) (too_many b vs) o p fc fd s fo fp h = absurd s
      case_same (sends xs us) (moves ts' y vs) o p fc fd s fo fp h = absurd s

      pub merged_same : (merge : List Seen → List Seen) (o p : Outcome E W) → SameOutcome D o p → SameOutcome D (merged merge o) (merged merge p)
      merged_same merge (undecodable v) (undecodable w) h = h
      merged_same merge (too_many a us) (too_many b vs) h = (h.0, ap merge h.1)
      merged_same merge (moves ts x us) (moves ts' y vs) h = (h.0, h.1, ap merge h.2)
      merged_same merge (sends xs us) (sends ys vs) h = (h.0, ap merge h.1)
      merged_same merge (undecodable v) (too_many b vs) h = absurd h
      merged_same merge (undecodable v) (moves ts' y vs) h = absurd h
      merged_same merge (undecodable v) (sends ys vs) h = absurd h
      merged_same merge (too_many a us) (undecodable w) h = absurd h
      merged_same merge (too_many a us) (moves ts' y vs) h = absurd h
      merged_same merge (too_many a us) (sends ys vs) h = absurd h
      merged_same merge (moves ts x us) (undecodable w) h = absurd h
      merged_same merge (moves ts x us) (too_many b vs) h = absurd h
      merged_same merge (moves ts x us) (sends ys vs) h = absurd h
      merged_same merge (sends xs us) (undecodable w) h = absurd h
      merged_same merge (sends xs us) (too_many b vs) h = absurd h
      merged_same merge (sends xs us) (moves ts' y vs) h = absurd h

      unless_same : (v w o p : Outcome E W) → SameOutcome D v w → SameOutcome D o p → SameOutcome D (unless_many v o) (unless_many w p)
      unless_same v w (undecodable a) (undecodable b) s h = h
      unless_same v w (too_many a us) (too_many b vs) s h = s
      unless_same v w (moves ts x us) (moves ts' y vs) s h = h
      unless_same v w (sends xs us) (sends ys vs) s h = h
      unless_same v w (undecodable a) (too_many b vs) s h = absurd h
      unless_same v w (undecodable a) (moves ts' y vs) s h = absurd h
      unless_same v w (undecodable a) (sends ys vs) s h = absurd h
      unless_same v w (too_many a us) (undecodable b) s h = absurd h
      unless_same v w (too_many a us) (moves ts' y vs) s h = absurd h
      unless_same v w (too_many a us) (sends ys vs) s h = absurd h
      unless_same v w (moves ts x us) (undecodable b) s h = absurd h
      unless_same v w (moves ts x us) (too_many b vs) s h = absurd h
      unless_same v w (moves ts x us) (sends ys vs) s h = absurd h
      unless_same v w (sends xs us) (undecodable b) s h = absurd h
      unless_same v w (sends xs us) (too_many b vs) s h = absurd h
      unless_same v w (sends xs us) (moves ts' y vs) s h = absurd h

      pub split_same : (v w : Outcome E W) (s t : Option (List E)) (o p : Outcome E W) → SameOutcome D v w → AreSameSplits D s t → SameOutcome D o p
          → SameOutcome D (where_split v s (unless_many v o)) (where_split w t (unless_many w p))
      split_same v w None None o p h st k = h
      split_same v w None (Some ys) o p h st k = absurd st
      split_same v w (Some xs) None o p h st k = absurd st
      split_same v w (Some xs) (Some ys) o p h st k = unless_same v w o p h k

      pub outcome_itself : (o : Outcome E W) → SameOutcome D o o
      outcome_itself (undecodable word) = refl
      outcome_itself (too_many shown uses) = (refl, refl)
      outcome_itself (moves targets post uses) = (refl, post_itself laws post, refl)
      outcome_itself (sends arrivals uses) = (arrivals_itself D laws arrivals, refl)

      pub outcome_on : (o p q : Outcome E W) → SameOutcome D o p → SameOutcome D p q → SameOutcome D o q
      outcome_on (undecodable u) (undecodable v) (undecodable w) h k = h ∙ k
      outcome_on (too_many x us) (too_many y vs) (too_many z ws) h k = (h.0 ∙ k.0, h.1 ∙ k.1)
      outcome_on (moves ts x us) (moves ts' y vs) (moves ts'' z ws) h k = (h.0 ∙ k.0, post_on laws x y z h.1 k.1, h.2 ∙ k.2)
      outcome_on (sends xs us) (sends ys vs) (sends zs ws) h k = (arrivals_on D laws xs ys zs h.0 k.0, h.1 ∙ k.1)
      outcome_on (undecodable u) (undecodable v) (too_many z ws) h k = absurd k
      outcome_on (undecodable u) (undecodable v) (moves ts'' z ws) h k = absurd k
      outcome_on (undecodable u) (undecodable v) (sends zs ws) h k = absurd k
      outcome_on (too_many x us) (too_many y vs) (undecodable w) h k = absurd k
      outcome_on (too_many x us) (too_many y vs) (moves ts'' z ws) h k = absurd k
      outcome_on (too_many x us) (too_many y vs) (sends zs ws) h k = absurd k
      outcome_on (moves ts x us) (moves ts' y vs) (undecodable w) h k = absurd k
      outcome_on (moves ts x us) (moves ts' y vs) (too_many z ws) h k = absurd k
      outcome_on (moves ts x us) (moves ts' y vs) (sends zs ws) h k = absurd k
      outcome_on (sends xs us) (sends ys vs) (undecodable w) h k = absurd k
      outcome_on (sends xs us) (sends ys vs) (too_many z ws) h k = absurd k
      outcome_on (sends xs us) (sends ys vs) (moves ts'' z ws) h k = absurd k
      outcome_on (undecodable u) (too_many y vs) q h k = absurd h
      outcome_on (undecodable u) (moves ts' y vs) q h k = absurd h
      outcome_on (undecodable u) (sends ys vs) q h k = absurd h
      outcome_on (too_many x us) (undecodable v) q h k = absurd h
      outcome_on (too_many x us) (moves ts' y vs) q h k = absurd h
      outcome_on (too_many x us) (sends ys vs) q h k = absurd h
      outcome_on (moves ts x us) (undecodable v) q h k = absurd h
      outcome_on (moves ts x us) (too_many y vs) q h k = absurd h
      outcome_on (moves ts x us) (sends ys vs) q h k = absurd h
      outcome_on (sends xs us) (undecodable v) q h k = absurd h
      outcome_on (sends xs us) (too_many y vs) q h k = absurd h
      outcome_on (sends xs us) (moves ts' y vs) q h k = absurd h

      -- ---- the transfers of elements
      module _ (transfer : E → Outcome E W) (transfer_fits : (x : E) → D.fits x → IfPost D.fits (transfer x)) (transfer_same : (x y : E) → D.fits x → D.fits y → D.same x y → SameOutcome D (transfer x) (transfer y)) where
        pub images_fit : (xs : List E) → Each D.fits xs → Each (IfPost D.fits) (map transfer xs)
        images_fit [] h = tt
        images_fit (x ∷ xs) h = (transfer_fits x h.0, images_fit xs h.1)

        pub lists_same : (xs ys : List E) (c d : Outcome E W) → Each D.fits xs → Each D.fits ys → AreSame D xs ys → IfPost D.fits c → IfPost D.fits d → SameOutcome D c d
            → SameOutcome D (fold (and_case D) c (map transfer xs)) (fold (and_case D) d (map transfer ys))
        lists_same [] [] c d fx fy s fc fd h = h
        lists_same [] (y ∷ ys) c d fx fy s fc fd h = absurd s
        lists_same (x ∷ xs) [] c d fx fy s fc fd h = absurd s
        lists_same (x ∷ xs) (y ∷ ys) c d fx fy s fc fd h =
            let o = transfer x in let p = transfer y in let fo = transfer_fits x fx.0 in let fp = transfer_fits y fy.0 in
            lists_same xs ys (and_case D c o) (and_case D d p) fx.1 fy.1 s.1 (case_fits c o fc fo) (case_fits d p fd fp) (case_same c d o p fc fd h fo fp (transfer_same x y fx.0 fy.0 s.0))
