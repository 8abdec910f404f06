use Rattle.std.proofs.Common.{◌≡◌, ◌∙◌, ℕ, [], ◌∷◌, ◌++◌, map, Some, nat_cmp, option_map, ap, sym, arith, length-append, append-nil}
use Rattle.std.specs.BTreeMap.{get}
use Rattle.std.specs.Map.Iter.{deref_pair}
use Rattle.std.proofs.lemmas.List.{map-append}
use Rattle.std.proofs.lemmas.Map.Iter.{rest_so_far}
use Rattle.fixpoint_theory.specs.Views.{listing, listings}
use Rattle.fixpoint_theory.specs.declared.table.Block.{Block}
use Rattle.fixpoint_table_check.proofs.Entries.{at_seam}
use Rattle.fixpoint_open_tables.specs.Endings.{ending_at, endings_of}
use Rattle.fixpoint_open_tables.proofs.Gathered.{ending_outside, put_more, so_far, so_far_all}
use Rattle.fixpoint_open_tables.proofs.block_endings.endings_of.Goals as goal

pub ending_of-requires-clause-code : goal.ending_of-requires-clause-code
ending_of-requires-clause-code g c =
    let split : c.args.table.now.blocks.entries ≡ map deref_pair c.loop-at.yielded ++ (c.in-Some.at.now, c.in-Some.block.now) ∷ c.next.new.self =
    sym (c.into_iter-at-iterator.ensures.into_iter_gives ∙ c.iter-at-items.ensures.rest) ∙ rest_so_far deref_pair c.loop-at.yielded c.into_iter-at-iterator.result c.loop-at.at-iterator c.loop-at.yielded_by
    ∙ ap (λ es. map deref_pair c.loop-at.yielded ++ es) c.in-Some.ensures.steps in
    let found = at_seam (λ (e : ℕ × Block _). get nat_cmp c.args.table.now.blocks e.0 ≡ Some e.1) c.args.table.now.blocks.entries (map deref_pair c.loop-at.yielded) c.next.new.self (c.in-Some.at.now, c.in-Some.block.now) split c.iter-at-items.ensures.found in
    let listed = ap (option_map (listing g.A.Analyser.view)) found in
    (c.requires.table c.in-Some.at.now (listing g.A.Analyser.view c.in-Some.block.now) listed).0

pub ending_of-requires-clause-fits : goal.ending_of-requires-clause-fits
ending_of-requires-clause-fits g c =
    let split : c.args.table.now.blocks.entries ≡ map deref_pair c.loop-at.yielded ++ (c.in-Some.at.now, c.in-Some.block.now) ∷ c.next.new.self =
    sym (c.into_iter-at-iterator.ensures.into_iter_gives ∙ c.iter-at-items.ensures.rest) ∙ rest_so_far deref_pair c.loop-at.yielded c.into_iter-at-iterator.result c.loop-at.at-iterator c.loop-at.yielded_by
    ∙ ap (λ es. map deref_pair c.loop-at.yielded ++ es) c.in-Some.ensures.steps in
    let found = at_seam (λ (e : ℕ × Block _). get nat_cmp c.args.table.now.blocks e.0 ≡ Some e.1) c.args.table.now.blocks.entries (map deref_pair c.loop-at.yielded) c.next.new.self (c.in-Some.at.now, c.in-Some.block.now) split c.iter-at-items.ensures.found in
    let listed = ap (option_map (listing g.A.Analyser.view)) found in
    (c.requires.table c.in-Some.at.now (listing g.A.Analyser.view c.in-Some.block.now) listed).1

pub ending_of-requires-clause-tells : goal.ending_of-requires-clause-tells
ending_of-requires-clause-tells g c some =
    let split : c.args.table.now.blocks.entries ≡ map deref_pair c.loop-at.yielded ++ (c.in-Some.at.now, c.in-Some.block.now) ∷ c.next.new.self =
    sym (c.into_iter-at-iterator.ensures.into_iter_gives ∙ c.iter-at-items.ensures.rest) ∙ rest_so_far deref_pair c.loop-at.yielded c.into_iter-at-iterator.result c.loop-at.at-iterator c.loop-at.yielded_by
    ∙ ap (λ es. map deref_pair c.loop-at.yielded ++ es) c.in-Some.ensures.steps in
    let found = at_seam (λ (e : ℕ × Block _). get nat_cmp c.args.table.now.blocks e.0 ≡ Some e.1) c.args.table.now.blocks.entries (map deref_pair c.loop-at.yielded) c.next.new.self (c.in-Some.at.now, c.in-Some.block.now) split c.iter-at-items.ensures.found in
    let listed = ap (option_map (listing g.A.Analyser.view)) found in
    (c.requires.closed some).tells c.in-Some.at.now (listing g.A.Analyser.view c.in-Some.block.now) listed

pub loop-at-preserved : goal.loop-at-preserved
loop-at-preserved g c =
    let A = g.A.Analyser.analysis c.args.analyser.now in
    let view = g.A.Analyser.view in
    let split : c.args.table.now.blocks.entries ≡ map deref_pair c.loop-at.yielded ++ (c.in-Some.at.now, c.in-Some.block.now) ∷ c.next.new.self =
    sym (c.into_iter-at-iterator.ensures.into_iter_gives ∙ c.iter-at-items.ensures.rest) ∙ rest_so_far deref_pair c.loop-at.yielded c.into_iter-at-iterator.result c.loop-at.at-iterator c.loop-at.yielded_by
    ∙ ap (λ es. map deref_pair c.loop-at.yielded ++ es) c.in-Some.ensures.steps in
    let found = at_seam (λ (e : ℕ × Block _). get nat_cmp c.args.table.now.blocks e.0 ≡ Some e.1) c.args.table.now.blocks.entries (map deref_pair c.loop-at.yielded) c.next.new.self (c.in-Some.at.now, c.in-Some.block.now) split c.iter-at-items.ensures.found in
    let f = endings_of A (listings view c.args.table.now) in
    let listed = ap (λ y. ending_at A c.in-Some.at.now (option_map (listing view) y)) found in
    let pushed = map-append deref_pair c.loop-at.yielded ((c.in-Some.at, c.in-Some.block) ∷ []) in
    record {
      made = λ a. put_more f (map deref_pair c.loop-at.yielded) (c.in-Some.at.now, c.in-Some.block.now) c.loop-at.found c.add_ending.new.endings c.in_ok-ending.ending c.in_ok-add_ending.ensures (c.in_ok-ending.ensures.value ∙ sym listed) c.loop-at.invariant.made a
          ∙ ap (λ es. so_far f es a) (sym pushed);
      steps = let so = c.loop-at.invariant.steps in let one = c.in_ok-ending.ensures.most in
          let longer = length-append c.loop-at.yielded ((c.in-Some.at, c.in-Some.block) ∷ []) in omega (arith, so, one, longer);
    }

pub returns-clause-value : goal.returns-clause-value
returns-clause-value g c a =
    let A = g.A.Analyser.analysis c.args.analyser.now in
    let f = endings_of A (listings g.A.Analyser.view c.args.table.now) in
    let whole : c.args.table.now.blocks.entries ≡ map deref_pair c.loop-at.yielded =
    sym (c.into_iter-at-iterator.ensures.into_iter_gives ∙ c.iter-at-items.ensures.rest) ∙ rest_so_far deref_pair c.loop-at.yielded c.into_iter-at-iterator.result c.loop-at.at-iterator c.loop-at.yielded_by
    ∙ ap (λ es. map deref_pair c.loop-at.yielded ++ es) c.in-None.ensures.steps.0 ∙ append-nil (map deref_pair c.loop-at.yielded) in
    c.loop-at.invariant.made a ∙ ap (λ es. so_far f es a) (sym whole) ∙ so_far_all f c.args.table.now.blocks (ending_outside g.A.Analyser.view A c.args.table.now) a
