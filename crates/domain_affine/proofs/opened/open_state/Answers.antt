use Rattle.std.proofs.Common.{◌≡◌, ◌∙◌, [], ◌∷◌, map, ap, rules}
use Rattle.domain_affine_base.specs.declared.base.Affine.{Affine}
use Rattle.domain_affine_base.specs.declared.tracked.Tracked.{Tracked}
use Rattle.domain_affine_base.specs.declared.word.Word.TheVariants.{Const}
use Rattle.domain_affine_laws.specs.Opened as calls
use Rattle.abstract_value_laws.specs.Abs.{made, parts_onto}
use Rattle.abstract_value_laws.specs.OfValues.{one_case}
use Rattle.abstract_value.specs.View.{abs}
use Rattle.abstract_value.specs.declared.value.AbstractValue.{Word}
use Rattle.abstract_value.proofs.Views.{abs_Data, abs_Word}
use Rattle.domain_affine.proofs.opened.open_state.Goals as goal

pub returns : goal.returns
returns c =
    let rest = calls.opened_values c.args.ctx.now c.args.words.now 1 c.args.fields.now in
    let counter : c.push.new.self.items ≡ Word 32 (Const c.args.pc) ∷ [] = search rules in
    abs_Data c.args.number c.in_ok-cases.cases
    ∙ ap (made c.args.number)
    (c.in_ok-cases.ensures ∙ ap (one_case 1 0) (c.in_ok-push_values.ensures ∙ ap (λ l. parts_onto (map abs l) rest) counter ∙ ap (λ x. parts_onto (x ∷ []) rest) (abs_Word Affine (Unit {0}) Tracked 32 (Const c.args.pc))))
