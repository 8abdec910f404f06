use Rattle.std.proofs.Common.{◌≡◌, sym, subst, ◌∙◌, IsTrue}
use Rattle.abstract_value.specs.Same.{same_value, same_value_is, same_value_itself}
use Rattle.abstract_value.specs.View.{abs}
use Rattle.abstract_value.proofs.value.AbstractValue.same.Goals as goal

pub returns : goal.returns
returns g c =
    let words = g.B.Word.PartialEq.eq in
    let notes = g.B.Note.PartialEq.eq in
    let x = abs c.args.self.now in
    let y = abs c.args.other.now in
    let e : c.eq.result ≡ same_value words notes x y = c.eq.ensures in (
      λ h. same_value_is words notes g.met.B.Base.same_words g.met.B.Base.same_notes x y (sym e ∙ h),
      λ k. e ∙ subst (λ z. IsTrue (same_value words notes x z)) k (same_value_itself words notes g.met.B.Word.Eq.laws.refl g.met.B.Note.Eq.laws.refl x),
    )
