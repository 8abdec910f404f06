use Rattle.std.proofs.Common.{◌≡◌, ℕ, Bool, List, Option, Some, None, Vec, Global, is_some, sym}
use Rattle.std.specs.Prelude.{IfSome}
use Rattle.std.proofs.lemmas.Result.{IfOk-weaker}
use Rattle.base_trait.specs.Lists.{items_of}
use Rattle.base_trait.specs.Stamps.{AreAscending, is_before}
use Rattle.base_trait.specs.declared.uses.Stamp.{Stamp}
use Rattle.code_image.specs.Image.{code_at}
use Rattle.text_words.specs.Pieces.{items_in, pieces}
use Rattle.text_words.specs.Reading.{stamp_in}
use Rattle.text_words.specs.Told.{stamps_ascending}
use Rattle.text_words.proofs.stamps.stamps_in.Goals as goal

ascending : (code : ℕ → Bool) (text : List ℕ) (r : Option (Vec Stamp Global)) → items_of r ≡ items_in is_before (stamp_in code) None (pieces 44 text) → IfSome r (λ v. AreAscending v.items)
ascending code text None e = tt
ascending code text (Some v) e = stamps_ascending code text v.items (sym e)

pub returns-in-Some-clause-ascending : goal.returns-in-Some-clause-ascending
returns-in-Some-clause-ascending c =
    IfOk-weaker c.listed_in.result _ _ (λ r e. ascending (λ a. is_some (code_at c.args.image.now a)) c.in-Some.stamps.now r e) c.listed_in.ensures
