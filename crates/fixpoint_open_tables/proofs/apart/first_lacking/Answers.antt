use Rattle.std.proofs.Common.{◌≡◌, ◌∙◌, ℕ, [], ◌∷◌, ◌++◌, map, ap, sym, subst, append-nil}
use Rattle.std.specs.Map.Iter.{deref_pair}
use Rattle.std.proofs.lemmas.List.{map-append}
use Rattle.std.proofs.lemmas.List.Elements.{All-push}
use Rattle.std.proofs.lemmas.Map.Iter.{rest_so_far}
use Rattle.fixpoint_open_tables.specs.Apart.{HasToo}
use Rattle.fixpoint_open_tables.specs.Endings.{ends_in}
use Rattle.fixpoint_open_tables.proofs.Differing.{AreSameAt, all_had, lesser_had}
use Rattle.fixpoint_open_tables.proofs.apart.first_lacking.Goals as goal

pub loop-at-preserved : goal.loop-at-preserved
loop-at-preserved g c =
    let pushed = map-append deref_pair c.loop-at.yielded ((c.in-Some.at, c.in-Some._place) ∷ []) in
    subst (AreSameAt (ends_in c.args.x.now) (ends_in c.args.other.now)) (sym pushed)
    (All-push (λ (p : ℕ × ℕ). ends_in c.args.x.now p.0 ≡ ends_in c.args.other.now p.0) (map deref_pair c.loop-at.yielded) (c.in-Some.at.now, c.in-Some._place.now) c.loop-at.invariant
    (c.is_same_at.ensures.0 c.if-not-is_same_at.false))

pub returns-then-not-is_same_at-clause-least : goal.returns-then-not-is_same_at-clause-least
returns-then-not-is_same_at-clause-least g c a below =
    let m = c.x.inside.places in
    let split : m.entries ≡ map deref_pair c.loop-at.yielded ++ (c.in-Some.at.now, c.in-Some._place.now) ∷ c.next.new.self =
    sym (c.into_iter-at-iterator.ensures.into_iter_gives ∙ c.iter-at-items.ensures.rest) ∙ rest_so_far deref_pair c.loop-at.yielded c.into_iter-at-iterator.result c.loop-at.at-iterator c.loop-at.yielded_by
    ∙ ap (λ es. map deref_pair c.loop-at.yielded ++ es) c.in-Some.ensures.steps in
    subst (λ es. HasToo (ends_in es a) (ends_in c.args.other.now a)) c.x.view_is
    (lesser_had c.x.inside.listed.items m c.x.invariant c.iter-at-items.ensures.ordered (ends_in c.args.other.now) (map deref_pair c.loop-at.yielded) c.next.new.self c.in-Some.at.now c.in-Some._place.now split
    (subst (λ es. AreSameAt (ends_in es) (ends_in c.args.other.now) (map deref_pair c.loop-at.yielded)) (sym c.x.view_is) c.loop-at.invariant) a below)

pub returns-clause-none : goal.returns-clause-none
returns-clause-none g c a =
    let m = c.x.inside.places in
    let whole : m.entries ≡ map deref_pair c.loop-at.yielded =
    sym (c.into_iter-at-iterator.ensures.into_iter_gives ∙ c.iter-at-items.ensures.rest) ∙ rest_so_far deref_pair c.loop-at.yielded c.into_iter-at-iterator.result c.loop-at.at-iterator c.loop-at.yielded_by
    ∙ ap (λ es. map deref_pair c.loop-at.yielded ++ es) c.in-None.ensures.steps.0 ∙ append-nil (map deref_pair c.loop-at.yielded) in
    subst (λ es. HasToo (ends_in es a) (ends_in c.args.other.now a)) c.x.view_is
    (all_had c.x.inside.listed.items m c.x.invariant c.iter-at-items.ensures.ordered (ends_in c.args.other.now)
    (subst (λ es. AreSameAt (ends_in es) (ends_in c.args.other.now) m.entries) (sym c.x.view_is) (subst (AreSameAt (ends_in c.args.x.now) (ends_in c.args.other.now)) (sym whole) c.loop-at.invariant)) a)
