use Rattle.std.proofs.Common.{◌∙◌, ◌<◌, ◌^◌, arith, ap}
use Rattle.std.proofs.Common.{map as map_of}
use Rattle.base_trait.specs.Uses.{seen}
use Rattle.fixpoint_theory.specs.Views.{listings}
use Rattle.analysis_query_laws.specs.Slices.{asked_uses, listed_uses}
use Rattle.analysis_slices.specs.declared.slice_search.SliceSearch.{SliceSearch}
use Rattle.analysis_slices.proofs.Loop.{is_slice, step_fine, step_smaller}
use Rattle.analysis_slices.proofs.reach.slice.Goals as goal

pub loop-found-smaller : goal.loop-found-smaller
loop-found-smaller g c =
    let uses = listed_uses (listings (λ e. e) c.args.table.now) in
    let taken = rw c.in-Some.is at c.in_ok-next.ensures.some in
    let fits : c.in-Some.next < 2 ^ 32 = omega arith in
    step_smaller uses (asked_uses uses c.args.at c.args.map c.args.key) c.loop-found.found c.next.new.self c.add_uses.new.self c.in-Some.next (map_of seen c.uses_at-in-Some.result.now) c.uses_at-in-Some.ensures taken
    c.in_ok-add_uses.ensures c.loop-found.invariant fits

pub loop-found-preserved : goal.loop-found-preserved
loop-found-preserved g c =
    let uses = listed_uses (listings (λ e. e) c.args.table.now) in
    let taken = rw c.in-Some.is at c.in_ok-next.ensures.some in
    let fits : c.in-Some.next < 2 ^ 32 = omega arith in
    step_fine uses (asked_uses uses c.args.at c.args.map c.args.key) c.loop-found.found c.next.new.self c.add_uses.new.self c.in-Some.next (map_of seen c.uses_at-in-Some.result.now) c.uses_at-in-Some.ensures taken
    c.in_ok-add_uses.ensures c.loop-found.invariant fits

pub returns : goal.returns
returns g c =
    let uses = listed_uses (listings (λ e. e) c.args.table.now) in
    let none = rw c.in_default.is at c.in_ok-next.ensures.none in
    let same = rw c.in_default.is at c.in_ok-next.ensures.same in
    is_slice uses (asked_uses uses c.args.at c.args.map c.args.key) c.loop-found.found c.next.new.self.entry c.in_ok-addresses.field-0.items c.loop-found.invariant none (ap (λ (f : SliceSearch). f.entry) same) (c.in_ok-addresses.ensures ∙ ap (λ (f : SliceSearch). f.followed.keys) same)
