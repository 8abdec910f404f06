use Rattle.std.proofs.Common.{◌≡◌, ◌++◌, [], ◌∷◌, false, map, rules, ap, ◌∙◌}
use Rattle.spec_ir.specs.Terms.{terms, arms, match_on, call, get, put}
use Rattle.spec_ir.specs.Views.{term}
use Rattle.spec_match_compiler.specs.Views.{pat}
use Rattle.spec_calls.specs.Calls.{calls, arm_calls, call_of}
use Rattle.spec_calls.proofs.Seen.{match_seen, call_seen, get_seen, put_seen, behind}
use Rattle.spec_calls.proofs.call.+calls.Goals as goal

pub calls-returns-in-Get : goal.calls-returns-in-Get
calls-returns-in-Get t c =
    let x = c.in-Get.x in
    let key = c.in-Get.key in
    let is : term c.args.term.now ≡ get c.in-Get.map (term x.value) (term key.value) = ap term c.in-Get.is ∙ get_seen c.in-Get.map x key in
    rw (is, ← c.deref-in-Get.ensures, ← c.deref-in-Get-2.ensures) c.calls_of_two-in-Get.ensures

pub calls-returns-in_ok-calls_of_two-in-Put : goal.calls-returns-in_ok-calls_of_two-in-Put
calls-returns-in_ok-calls_of_two-in-Put t c =
    let x = c.in-Put.x in
    let key = c.in-Put.key in
    let v = c.in-Put.v in
    let is : term c.args.term.now ≡ put c.in-Put.map (term x.value) (term key.value) (term v.value) = ap term c.in-Put.is ∙ put_seen c.in-Put.map x key v in
    let more = behind c.args.out.now.items _ (calls false (term c.deref-in-Put-3.result.now)) c.calls_of_two-in-Put.new.out.items c.in_ok-calls_of_two-in-Put.ensures in
    rw (is, ← c.deref-in-Put.ensures, ← c.deref-in-Put-2.ensures, ← c.deref-in-Put-3.ensures) (rw more at c.calls-in-Put.ensures)

pub calls-returns-in_ok-push-in-Call : goal.calls-returns-in_ok-push-in-Call
calls-returns-in_ok-push-in-Call t c =
    let is : term c.args.term.now ≡ call c.in-Call.fun (terms (map term c.in-Call.args.items)) = ap term c.in-Call.is ∙ call_seen c.in-Call.fun c.in-Call.args in
    let more = behind c.args.out.now.items _ (call_of c.in-Call.fun c.args.tail ∷ []) c.all_calls-in-Call.new.out.items c.in_ok-all_calls-in-Call.ensures in
    let pushed : c.push.new.self.items ≡ c.all_calls-in-Call.new.out.items ++ call_of c.in-Call.fun c.args.tail ∷ [] = search rules in
    rw (is, ← c.deref-in-Call.ensures.value) (pushed ∙ more)

pub calls-returns-in_ok-calls-in-Match : goal.calls-returns-in_ok-calls-in-Match
calls-returns-in_ok-calls-in-Match t c =
    let x = c.in-Match.x in
    let is : term c.args.term.now ≡ match_on (term x.value) (arms (map (λ a. (pat a.0, term a.1)) c.in-Match.arms.items)) = ap term c.in-Match.is ∙ match_seen x c.in-Match.arms in
    let more = behind c.args.out.now.items _ (arm_calls c.args.tail (arms (map (λ a. (pat a.0, term a.1)) c.deref-in-Match-2.result.now))) c.calls-in-Match.new.out.items c.in_ok-calls-in-Match.ensures in
    rw (is, ← c.deref-in-Match.ensures, ← c.deref-in-Match-2.ensures.value) (rw more at c.arm_calls.ensures)
