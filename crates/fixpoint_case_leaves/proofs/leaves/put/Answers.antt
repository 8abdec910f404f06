use Rattle.std.proofs.Common.{◌≡◌, ◌<◌, Ok, Err, length, map, refl, subst, sym}
use Rattle.base_trait.specs.Lists.{Each}
use Rattle.fixpoint_theory.specs.Outcome.{AreSameArrivals}
use Rattle.fixpoint_theory.specs.Views.{arriving}
use Rattle.fixpoint_theory.proofs.Lists.{each_seen}
use Rattle.fixpoint_cases.specs.Sent.{put}
use Rattle.fixpoint_case_leaves.specs.Places.{put_at}
use Rattle.fixpoint_case_leaves.proofs.Places.{insert_fits, inserted_put, joined_put, set_fits}
use Rattle.fixpoint_case_leaves.proofs.leaves.put.Goals as goal

pub join-requires-clause-left : goal.join-requires-clause-left
join-requires-clause-left g c =
    let D = (g.A.SplitAnalyser.analysis c.args.analyser.now).elements in
    let xs = c.args.arrivals.now.items in
    let i = c.in-Ok.i in
    each_seen (λ a. D.fits a.1) (arriving g.A.SplitAnalyser.view) xs i c.index_mut-old.result.now (subst (λ l. i < length l) c.deref.ensures.value c.in-Ok.ensures.within) c.index_mut-old.ensures.value c.requires.arrivals

pub returns-in_ok-both-in-Ok-clause-value : goal.returns-in_ok-both-in-Ok-clause-value
returns-in_ok-both-in-Ok-clause-value g c =
    let D = (g.A.SplitAnalyser.analysis c.args.analyser.now).elements in
    let laws = (g.met.A.SplitAnalyser.laws c.args.analyser.now c.requires.ready).elements in
    let view = g.A.SplitAnalyser.view in
    let xs = c.args.arrivals.now.items in
    let i = c.in-Ok.i in
    let x = view c.args.x.now in
    let v = c.index_mut-old.result.now in
    joined_put D laws (arriving view) xs i (record { to = v.to; elem = c.in_ok-both-in-Ok.both }) c.args.to x v (subst (λ l. i < length l) c.deref.ensures.value c.in-Ok.ensures.within) c.index_mut-old.ensures.value refl
    c.in_ok-both-in-Ok.ensures.value
    (subst (λ l. put D (c.args.to, x) (map (arriving view) l) ≡ put_at D (c.args.to, x) (map (arriving view) l) (Ok i)) c.deref.ensures.value (c.in-Ok.ensures.place x))

pub returns-in_ok-both-in-Ok-clause-fits : goal.returns-in_ok-both-in-Ok-clause-fits
returns-in_ok-both-in-Ok-clause-fits g c =
    let D = (g.A.SplitAnalyser.analysis c.args.analyser.now).elements in
    let laws = (g.met.A.SplitAnalyser.laws c.args.analyser.now c.requires.ready).elements in
    let v = c.index_mut-old.result.now in
    set_fits D laws (arriving g.A.SplitAnalyser.view) c.args.arrivals.now.items c.in-Ok.i (record { to = v.to; elem = c.in_ok-both-in-Ok.both }) c.requires.arrivals c.in_ok-both-in-Ok.ensures.fits

pub returns-in_ok-insert_at-in-Err-clause-value : goal.returns-in_ok-insert_at-in-Err-clause-value
returns-in_ok-insert_at-in-Err-clause-value g c =
    let D = (g.A.SplitAnalyser.analysis c.args.analyser.now).elements in
    let laws = (g.met.A.SplitAnalyser.laws c.args.analyser.now c.requires.ready).elements in
    let view = g.A.SplitAnalyser.view in
    let xs = c.args.arrivals.now.items in
    let i = c.in-Err.i in
    let x = view c.args.x.now in
    subst (λ l. AreSameArrivals D (map (arriving view) l) (put D (c.args.to, x) (map (arriving view) xs))) (sym c.in_ok-insert_at-in-Err.ensures.items)
    (inserted_put D laws (arriving view) xs i (record { to = c.args.to; elem = c.in_ok-elem-in-Err.elem }) c.args.to x refl c.in_ok-elem-in-Err.ensures.value
    (subst (λ l. put D (c.args.to, x) (map (arriving view) l) ≡ put_at D (c.args.to, x) (map (arriving view) l) (Err i)) c.deref.ensures.value (c.in-Err.ensures.place x)))

pub returns-in_ok-insert_at-in-Err-clause-fits : goal.returns-in_ok-insert_at-in-Err-clause-fits
returns-in_ok-insert_at-in-Err-clause-fits g c =
    let D = (g.A.SplitAnalyser.analysis c.args.analyser.now).elements in
    let laws = (g.met.A.SplitAnalyser.laws c.args.analyser.now c.requires.ready).elements in
    subst (λ l. Each (λ a. D.fits a.1) (map (arriving g.A.SplitAnalyser.view) l)) (sym c.in_ok-insert_at-in-Err.ensures.items)
    (insert_fits D laws (arriving g.A.SplitAnalyser.view) c.args.arrivals.now.items c.in-Err.i (record { to = c.args.to; elem = c.in_ok-elem-in-Err.elem }) c.requires.arrivals c.in_ok-elem-in-Err.ensures.fits)
