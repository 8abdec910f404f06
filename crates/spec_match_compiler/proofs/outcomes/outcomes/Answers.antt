use Rattle.std.proofs.Common.{◌≡◌, map, ap, ◌∙◌, refl}
use Rattle.std.proofs.lemmas.List.{length-map}
use Rattle.spec_match_compiler.specs.Rule.{outcomes, made_known}
use Rattle.spec_match_compiler.specs.Views.{types, test}
use Rattle.spec_match_compiler.proofs.Loops.{cases_here, cases_past}
use Rattle.spec_match_compiler.proofs.outcomes.outcomes.Goals as goal

pub made_known-requires : goal.made_known-requires
made_known-requires c =
    let v = c.deref-in-Case.ensures.value in
    let h = rw v at c.in-Some.ensures.lookup in
    let e = cases_here c.args.sig.now c.in-Case.t c.in-Some.cases.now h.3.0 h.1 in
    let few = rw (e, length-map) at (c.requires c.in-Case.t) in
    rw c.deref-in-Some.ensures.value few

pub returns-in-Some : goal.returns-in-Some
returns-in-Some c =
    let v = c.deref-in-Case.ensures.value in
    let h = rw v at c.in-Some.ensures.lookup in
    let e = cases_here c.args.sig.now c.in-Case.t c.in-Some.cases.now h.3.0 h.1 in
    let is : outcomes (types c.args.sig.now) (test c.args.asked.now) ≡ made_known 0 (map (λ c. c.items) c.deref-in-Some.result.now) =
    rw c.deref-in-Some.ensures.value (ap (λ a. outcomes (types c.args.sig.now) (test a)) c.in-Case.is ∙ ap (made_known 0) e) in
    rw is c.made_known.ensures

pub returns-in-None : goal.returns-in-None
returns-in-None c =
    let v = c.deref-in-Case.ensures.value in
    let h = rw v at c.in-None.ensures.lookup in
    let e = cases_past c.args.sig.now c.in-Case.t h.3 in
    let is = ap (λ a. outcomes (types c.args.sig.now) (test a)) c.in-Case.is ∙ ap (made_known 0) e in
    rw (is, c.new.ensures.items) refl
