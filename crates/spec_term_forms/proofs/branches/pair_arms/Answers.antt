use Rattle.std.proofs.Common.{◌≡◌, ◌∙◌, [], arith, sym}
use Rattle.std.specs.Vec.Iter.{into_iter_items}
use Rattle.std.proofs.lemmas.List.{nil_from_length as nil_of}
use Rattle.spec_term_forms.proofs.Pairs.{zip_none}
use Rattle.spec_term_forms.proofs.branches.pair_arms.Goals as goal

-- no body is left
pub loop-pattern-preserved-in_default : goal.loop-pattern-preserved-in_default
loop-pattern-preserved-in_default c =
    let h = c.loop-pattern.invariant in
    let before : into_iter_items c.loop-pattern.bodies ≡ [] = nil_of _ (omega (arith, h.counts, c.in_default.ensures.cases.0)) in
    let after : into_iter_items c.next-in-loop-pattern.new.self ≡ [] = sym c.in_default.ensures.items ∙ before in
    record {
      pairs = rw (after, zip_none) (rw (before, zip_none) at h.pairs);
      counts = rw after c.in_default.ensures.cases.1;
    }

pub loop-pattern-preserved : goal.loop-pattern-preserved
loop-pattern-preserved c =
    let h = c.loop-pattern.invariant in
    let before : into_iter_items c.loop-pattern.bodies ≡ [] = nil_of _ (omega (arith, h.counts, c.in_default.ensures.cases.0)) in
    let after : into_iter_items c.next-in-loop-pattern.new.self ≡ [] = sym c.in_default.ensures.items ∙ before in
    record {
      pairs = rw (after, zip_none) (rw (before, zip_none) at h.pairs);
      counts = rw after c.in_default.ensures.cases.1;
    }
