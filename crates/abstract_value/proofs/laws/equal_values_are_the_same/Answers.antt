use Rattle.std.proofs.Common.{subst, IsTrue}
use Rattle.abstract_value.specs.Same.{same_value, same_value_is, same_value_itself}
use Rattle.abstract_value.specs.View.{abs}
use Rattle.abstract_value.proofs.laws.equal_values_are_the_same.Goals as goal

pub returns : goal.returns
returns g c x y =
    let words = g.B.Word.PartialEq.eq in
    let notes = g.B.Note.PartialEq.eq in (
      λ h. same_value_is words notes g.met.B.Base.same_words g.met.B.Base.same_notes (abs x) (abs y) h,
      λ k. subst (λ z. IsTrue (same_value words notes (abs x) z)) k (same_value_itself words notes g.met.B.Word.Eq.laws.refl g.met.B.Note.Eq.laws.refl (abs x)),
    )
