use Rattle.std.proofs.Common.{◌≡◌, ◌∙◌, ◌++◌, ◌∷◌, [], ◌+◌, length, map, drop, refl, sym, ap, arith, rules, append_assoc, append-nil}
use Rattle.std.proofs.lemmas.List.{map-append, drop_all, nil_from_length as nothing_left}
use Rattle.std.specs.Vec.Iter.{into_iter_items}
use Rattle.spec_ir.specs.Views.{fun_of, signature_of}
use Rattle.spec_checker.specs.Views.{form}
use Rattle.spec_checker.proofs.Making.{made_none, made_step}
use Rattle.spec_checker.proofs.functions.checked_functions.Goals as goal
use Rattle.spec_match_compiler.proofs.Loops.{drop_here}

pub returns-in-None : goal.returns-in-None
returns-in-None c =
    let at = c.loop-i in
    let empty : into_iter_items at.left ≡ [] = nothing_left _ (sym at.invariant.left_len ∙ c.in-None.ensures.cases.0) in
    let h = rw empty at at.invariant.out_is in
    sym (h ∙ (ap (λ m. map fun_of at.out.items ++ m) (made_none _ _) ∙ append-nil _))

pub returns : goal.returns
returns c =
    let at = c.loop-i in
    let h = rw (drop_all at.i c.args.signatures.now (omega arith)) at at.invariant.out_is in
    sym (h ∙ append-nil _)

pub loop-i-preserved : goal.loop-i-preserved
loop-i-preserved c =
    let at = c.loop-i in
    let i = at.i in
    let s = c.index-signatures-i.result in
    let x = c.in-Some.forms in
    let f = c.in_ok-checked_function-in-Some.field-0 in
    let gs = c.args.groups.now in
    let steps : into_iter_items at.left ≡ x ∷ into_iter_items c.next.new.self = c.in-Some.ensures.cases.0 in
    let here = drop_here c.args.signatures.now i s c.index-signatures-i.is (omega arith) in
    let h = rw (here, steps) at at.invariant.out_is in
    let out : c.push.new.self.items ≡ at.out.items ++ f ∷ [] = search rules in
    let is = c.in_ok-checked_function-in-Some.ensures in
    let next = made_step (map signature_of (drop (i + 1) c.args.signatures.now)) (signature_of s) (form x) (map form (into_iter_items c.next.new.self)) gs i _ _ is (omega arith) in
    record {
      left_len = let was = at.invariant.left_len in let gone = c.in-Some.ensures.cases.1 in let short = ap length steps in omega arith;
      out_is = h ∙ (ap (λ m. map fun_of at.out.items ++ m) next ∙ rw (out, map-append, append_assoc) refl);
    }
