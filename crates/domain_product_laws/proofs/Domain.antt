-- Two domains side by side.
use Rattle.std.proofs.Common.{◌≡◌, ℕ, ◌^◌, ◌<◌, ◌++◌, Bool, true, false, List, refl, sym, ap, ◌∙◌, subst, arith, cond, IsTrue, ◌↔◌, ◌⊎◌, inl, inr}
use Rattle.std.specs.Prelude.{◌&&◌, max, not}
use Rattle.base_trait.specs.Algebra.{Algebra}
use Rattle.base_trait.specs.Laws.{Laws}
use Rattle.base_trait.specs.Lists.{AreAmong, IsAmong}
use Rattle.base_trait.specs.declared.uses.Stamp.{Stamp}
use Rattle.base_trait.proofs.Lists.{among_either, are_among_at, are_among_from}
use Rattle.base_trait.proofs.Tests.{and_both, and_parts}
use Rattle.base_product.specs.Meaning.{paired}
use Rattle.abstract_map_laws.specs.Laws.{HasRoom}
use Rattle.spec_ir.specs.Specification.{Spec}
use Rattle.semantics_values.specs.States.{State, value_of}
use Rattle.fixpoint_theory.specs.Elements.{Elements}
use Rattle.fixpoint_theory.specs.Pairs.{paired as paired_elements}
use Rattle.fixpoint_theory.proofs.Pairs.{paired_laws, lists_first as to_first, lists_second as to_second}
use Rattle.abstract_value_laws.specs.Abs.{Abs}
use Rattle.abstract_value_laws.specs.Describes.{Describes}
use Rattle.domain_laws.specs.Domain.{DomainLaws, Meaning}
use Rattle.domain_laws.specs.States.{IsState, state_type}
use Rattle.domain_laws.specs.Values.{IsStateValue}
use Rattle.domain_product_laws.specs.Calls.{first_value, second_value, zip_value}
use Rattle.domain_product_laws.specs.Domain.{PairsKeepTheLaws, ShareValuation, may_pair, pair_meaning}
use Rattle.domain_product_laws.proofs.Kept.{parts_are_states, parts_list, zip_is_state, zip_lists}
use Rattle.domain_product_laws.proofs.Mapped.{mapped_describes}
use Rattle.domain_product_laws.proofs.Values.{described, states_meet}

-- ---- lists of both parts
from_both : (xs ys stamps : List Stamp) → AreAmong xs stamps → AreAmong ys stamps → AreAmong (xs ++ ys) stamps
from_both xs ys stamps h g = are_among_from (xs ++ ys) stamps (λ s k. sorted s (among_either s xs ys k))
  where
    sorted : (s : Stamp) → IsAmong s xs ⊎ IsAmong s ys → IsAmong s stamps
    sorted s (inl k) = are_among_at xs stamps s h k
    sorted s (inr k) = are_among_at ys stamps s g k

module _ {E F V W M N C D : Type 0} (A : Algebra V M C) (B : Algebra W N D) (a : Laws V M C A) (b : Laws W N D B) (cap : ℕ) (first : Meaning E V M C) (second : Meaning F W N D)
    (share : ShareValuation A B cap first second) where
  -- each part describes in its own valuation what it describes in that of the pair
  first_valuation : (s : State) (w n : ℕ) (x : V) → A.words.describes (first.valuation s) w n x ↔ A.words.describes ((pair_meaning A B cap first second).valuation s) w n x
  first_valuation s w n x = by_looks A.words.looks refl
    where
      by_looks : (p : Bool) → A.words.looks ≡ p → A.words.describes (first.valuation s) w n x ↔ A.words.describes (cond p (first.valuation s) (second.valuation s)) w n x
      by_looks true e = (λ h. h, λ h. h)
      by_looks false e = (λ h. a.words.unseen (first.valuation s) (second.valuation s) w n x e h, λ h. a.words.unseen (second.valuation s) (first.valuation s) w n x e h)

  second_valuation : (s : State) (w n : ℕ) (x : W) → B.words.describes (second.valuation s) w n x ↔ B.words.describes ((pair_meaning A B cap first second).valuation s) w n x
  second_valuation s w n x = by_looks A.words.looks refl share
    where
      by_looks : (p : Bool) → A.words.looks ≡ p → ShareValuation A B cap first second → B.words.describes (second.valuation s) w n x ↔ B.words.describes (cond p (first.valuation s) (second.valuation s)) w n x
      by_looks false e k = (λ h. h, λ h. h)
      by_looks true e (inl k) = cc
      by_looks true e (inr (inl k)) = (λ h. b.words.unseen (second.valuation s) (first.valuation s) w n x k h, λ h. b.words.unseen (first.valuation s) (second.valuation s) w n x k h)
      by_looks true e (inr (inr k)) = (λ h. subst (λ t. B.words.describes t w n x) (sym (k s)) h, λ h. subst (λ t. B.words.describes t w n x) (k s) h)

  module _ (spec : Spec) (P : Elements E State) (Q : Elements F State) (room : HasRoom (paired A B) cap) (p : DomainLaws A cap spec P first) (q : DomainLaws B cap spec Q second) where
    states : (c : C × D) (value : Abs (V × W) (M × N)) → IsStateValue (paired A B) c cap (state_type spec) value
        → IsStateValue A c.0 cap (state_type spec) (first_value value) × IsStateValue B c.1 cap (state_type spec) (second_value value)
    states c value h = parts_are_states A B c cap (state_type spec) value h

    open_describes : (x : E × F) (s : State) → s.pc < 2 ^ 32 → IsState spec s → P.fits x.0 × Q.fits x.1 → P.holds x.0 s × Q.holds x.1 s
        → Describes (paired A B) ((pair_meaning A B cap first second).valuation s) ((pair_meaning A B cap first second).opened s.pc x) (value_of (state_type spec).number s)
    open_describes x s below is fit holds =
        let left = p.open_fits s.pc x.0 below fit.0 in
        let right = q.open_fits s.pc x.1 below fit.1 in
        described A B a b (first.context, second.context) cap (first.valuation s) (second.valuation s) ((pair_meaning A B cap first second).valuation s)
        (λ w n t. (first_valuation s w n t).0) (λ w n t. (second_valuation s w n t).0) (first.opened s.pc x.0) (second.opened s.pc x.1) (value_of (state_type spec).number s)
        (states_meet (state_type spec) (first.opened s.pc x.0) (second.opened s.pc x.1) left.0 right.0) left.1 right.1
        (p.open_describes x.0 s below is fit.0 holds.0) (q.open_describes x.1 s below is fit.1 holds.1)

    close_holds : (before : E × F) (value : Abs (V × W) (M × N)) (s next : State) → P.fits before.0 × Q.fits before.1
        → IsStateValue (paired A B) (first.context, second.context) cap (state_type spec) value → P.holds before.0 s × Q.holds before.1 s
        → Describes (paired A B) ((pair_meaning A B cap first second).valuation s) value (value_of (state_type spec).number next)
        → P.holds (first.closed before.0 (first_value value)) next × Q.holds (second.closed before.1 (second_value value)) next
    close_holds before value s next fit is holds d =
        let parts = states (first.context, second.context) value is in (
          p.close_holds before.0 (first_value value) s next fit.0 parts.0 holds.0
              (mapped_describes (paired A B) A (λ x. x.0) (λ x. x.0) ((pair_meaning A B cap first second).valuation s) (first.valuation s) (λ w n x h. (first_valuation s w n x.0).1 h.0) (λ s x h. h.0)
              value (value_of (state_type spec).number next) d),
          q.close_holds before.1 (second_value value) s next fit.1 parts.1 holds.1
              (mapped_describes (paired A B) B (λ x. x.1) (λ x. x.1) ((pair_meaning A B cap first second).valuation s) (second.valuation s) (λ w n x h. (second_valuation s w n x.1).1 h.1) (λ s x h. h.1)
              value (value_of (state_type spec).number next) d),
        )

    pub pair_laws : DomainLaws (paired A B) cap spec (paired_elements P Q) (pair_meaning A B cap first second)
    pair_laws = record {
      elements = paired_laws P Q p.elements q.elements;
      entry_fits = λ lines h. (p.entry_fits lines h, q.entry_fits lines h);
      entry_lists = λ lines. from_both (P.listed (first.entry lines)) (Q.listed (second.entry lines)) _ (p.entry_lists lines) (q.entry_lists lines);
      entry_holds = λ lines pc s h is. (p.entry_holds lines pc s h is, q.entry_holds lines pc s h is);
      open_fits = λ pc x below fit. zip_is_state A B a b (first.context, second.context) cap (state_type spec) (first.opened pc x.0) (second.opened pc x.1) room
          (p.open_fits pc x.0 below fit.0) (q.open_fits pc x.1 below fit.1);
      open_lists = λ stamps pc x below fit h. zip_lists A B a b (first.context, second.context) cap stamps (first.opened pc x.0) (second.opened pc x.1)
          (p.open_lists stamps pc x.0 below fit.0 (to_first (P.listed x.0) (Q.listed x.1) stamps h)) (q.open_lists stamps pc x.1 below fit.1 (to_second (P.listed x.0) (Q.listed x.1) stamps h));
      open_describes = open_describes;
      close_fits = λ before value fit is. let parts = states (first.context, second.context) value is in
          (p.close_fits before.0 (first_value value) fit.0 parts.0, q.close_fits before.1 (second_value value) fit.1 parts.1);
      close_lists = λ stamps before value fit is h g.
          let parts = states (first.context, second.context) value is in
          let listed = parts_list A B stamps value g in
          from_both (P.listed (first.closed before.0 (first_value value))) (Q.listed (second.closed before.1 (second_value value))) stamps
          (p.close_lists stamps before.0 (first_value value) fit.0 parts.0 (to_first (P.listed before.0) (Q.listed before.1) stamps h) listed.0)
          (q.close_lists stamps before.1 (second_value value) fit.1 parts.1 (to_second (P.listed before.0) (Q.listed before.1) stamps h) listed.1);
      close_holds = close_holds;
      open_same = λ pc x y fx fy h.
          ap (λ t. zip_value A B (first.context, second.context) cap t (second.opened pc x.1)) (p.open_same pc x.0 y.0 fx.0 fy.0 h.0)
          ∙ ap (λ t. zip_value A B (first.context, second.context) cap (first.opened pc y.0) t) (q.open_same pc x.1 y.1 fx.1 fy.1 h.1);
      close_same = λ x y value fx fy is h. let parts = states (first.context, second.context) value is in
          (p.close_same x.0 y.0 (first_value value) fx.0 fy.0 parts.0 h.0, q.close_same x.1 y.1 (second_value value) fx.1 fy.1 parts.1 h.1);
      rank_least = λ stamps x fit. let left = p.rank_least stamps x.0 fit.0 in let right = q.rank_least stamps x.1 fit.1 in omega (arith, left, right);
    }

module _ {E F V W M N C D : Type 0} (A : Algebra V M C) (B : Algebra W N D) (a : Laws V M C A) (b : Laws W N D B) where
  pub pairs_keep_the_laws : (cap : ℕ) (first : Meaning E V M C) (second : Meaning F W N D) (P : Elements E State) (Q : Elements F State) → PairsKeepTheLaws A B cap first second P Q
  pairs_keep_the_laws cap first second P Q spec room share p q = pair_laws A B a b cap first second share spec P Q room p q

  -- of two bases that may stand side by side, with the cells that each may list
  pub pairs_are_domains : (m n : ℕ) (first : Meaning E V M C) (second : Meaning F W N D) (P : Elements E State) (Q : Elements F State) (spec : Spec)
      → m ≡ cond A.joins 256 (2 ^ 32) → n ≡ cond B.joins 256 (2 ^ 32) → IsTrue (may_pair A B) → DomainLaws A m spec P first → DomainLaws B n spec Q second
      → DomainLaws (paired A B) (max m n) spec (paired_elements P Q) (pair_meaning A B (max m n) first second)
  pairs_are_domains m n first second P Q spec e d may p q =
      let joins = and_parts A.joins (B.joins && not (A.words.looks && B.words.looks)) may in
      let later = and_parts B.joins (not (A.words.looks && B.words.looks)) joins.1 in
      let left : m ≡ 256 = e ∙ ap (λ t. cond t 256 (2 ^ 32)) joins.0 in
      let right : n ≡ 256 = d ∙ ap (λ t. cond t 256 (2 ^ 32)) later.0 in
      let both : max m n ≡ 256 = ap (λ t. max t n) left ∙ ap (λ t. max 256 t) right in
      pairs_keep_the_laws (max m n) first second P Q spec (inl (and_both A.joins B.joins joins.0 later.0)) (one_looks A.words.looks B.words.looks later.1)
      (subst (λ t. DomainLaws A t spec P first) (left ∙ sym both) p) (subst (λ t. DomainLaws B t spec Q second) (right ∙ sym both) q)
    where
      one_looks : (s t : Bool) → IsTrue (not (s && t)) → (s ≡ false) ⊎ (t ≡ false) ⊎ ((s : State) → first.valuation s ≡ second.valuation s)
      one_looks false t h = inl refl
      one_looks true false h = inr (inl refl)
      one_looks true true h = cc
