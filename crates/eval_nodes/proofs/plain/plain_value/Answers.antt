use Rattle.std.proofs.Common.{◌≡◌, ◌∙◌, map, ap, sym, subst, slice_get}
use Rattle.std.specs.Prelude.{IfOk, Result, option_and_then, option_map}
use Rattle.spec_ir.specs.Views.{specification}
use Rattle.semantics_values.specs.Types.{environment_of}
use Rattle.semantics_laws.specs.Places.{all_of}
use Rattle.abstract_value.specs.View.{abs}
use Rattle.abstract_semantics.specs.Steps.{made_of}
use Rattle.eval_code.specs.Code.{Node}
use Rattle.eval_code.specs.Views.{node}
use Rattle.eval_nodes.specs.Plain.{plain_value}
use Rattle.eval_nodes.proofs.NodeForms.{node_Bin, node_Cast, node_Make, node_Put, node_Un, node_Word}
use Rattle.eval_nodes.proofs.plain.plain_value.Goals as goal

-- What is given at a form is given at a node that is the form.
at_form : {E V D : Type 0} (r : Result V E) (f : V → D) (on : Node → D) (t k : Node) → t ≡ k → IfOk r (λ v. f v ≡ on k) → IfOk r (λ v. f v ≡ on t)
at_form r f on t k e h = subst (λ z. IfOk r (λ v. f v ≡ on z)) (sym e) h

pub returns-in-Word-clause-value : goal.returns-in-Word-clause-value
returns-in-Word-clause-value g c =
    let is = ap node c.in-Word.is ∙ node_Word c.in-Word.w c.in-Word.v in
    let on = λ (t : Node). plain_value g.B.Base.algebra c.args.ctx.now g.B.Base.CAP (specification c.args.spec.now) c.args.at (map abs c.args.frame.now) t in
    at_form c.word.result (option_map abs) on _ _ is c.word.ensures.value

pub returns-in-Un-clause-value : goal.returns-in-Un-clause-value
returns-in-Un-clause-value g c =
    let is = ap node c.in-Un.is ∙ node_Un c.in-Un.op c.in-Un.w c.in-Un.x in
    let on = λ (t : Node). plain_value g.B.Base.algebra c.args.ctx.now g.B.Base.CAP (specification c.args.spec.now) c.args.at (map abs c.args.frame.now) t in
    at_form c.unary_on.result (option_map abs) on _ _ is c.unary_on.ensures.value

pub returns-in-Bin-clause-value : goal.returns-in-Bin-clause-value
returns-in-Bin-clause-value g c =
    let is = ap node c.in-Bin.is ∙ node_Bin c.in-Bin.op c.in-Bin.w c.in-Bin.x c.in-Bin.y in
    let on = λ (t : Node). plain_value g.B.Base.algebra c.args.ctx.now g.B.Base.CAP (specification c.args.spec.now) c.args.at (map abs c.args.frame.now) t in
    at_form c.binary_on.result (option_map abs) on _ _ is c.binary_on.ensures.value

pub returns-in-Cast-clause-value : goal.returns-in-Cast-clause-value
returns-in-Cast-clause-value g c =
    let is = ap node c.in-Cast.is ∙ node_Cast c.in-Cast.kind c.in-Cast.from c.in-Cast.to c.in-Cast.x in
    let on = λ (t : Node). plain_value g.B.Base.algebra c.args.ctx.now g.B.Base.CAP (specification c.args.spec.now) c.args.at (map abs c.args.frame.now) t in
    at_form c.resized_on.result (option_map abs) on _ _ is c.resized_on.ensures.value

pub returns-in-Make-clause-value : goal.returns-in-Make-clause-value
returns-in-Make-clause-value g c =
    let is = ap node c.in-Make.is ∙ node_Make c.in-Make.ty c.in-Make.case c.in-Make.args in
    let on = λ (t : Node). plain_value g.B.Base.algebra c.args.ctx.now g.B.Base.CAP (specification c.args.spec.now) c.args.at (map abs c.args.frame.now) t in
    at_form c.made_on.result (option_map abs) on _ _ is (subst (λ l. IfOk c.made_on.result (λ r. option_map abs r ≡ option_and_then (made_of (environment_of (specification c.args.spec.now)) c.in-Make.ty c.in-Make.case) (all_of (slice_get (map abs c.args.frame.now)) l))) c.deref.ensures.value c.made_on.ensures.value)

pub returns-in-Put-clause-value : goal.returns-in-Put-clause-value
returns-in-Put-clause-value g c =
    let is = ap node c.in-Put.is ∙ node_Put c.in-Put.map c.in-Put.x c.in-Put.key c.in-Put.v in
    let on = λ (t : Node). plain_value g.B.Base.algebra c.args.ctx.now g.B.Base.CAP (specification c.args.spec.now) c.args.at (map abs c.args.frame.now) t in
    at_form c.updated_on.result (option_map abs) on _ _ is c.updated_on.ensures.value
