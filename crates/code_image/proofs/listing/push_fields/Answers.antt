use Rattle.std.proofs.Common.{◌≡◌, ◌≤◌, ◌⊎◌, inl, inr, ◌++◌, [], length, drop, map, ap, sym, ◌∙◌, append-nil, arith}
use Rattle.std.proofs.lemmas.Bool.{cases_lt}
use Rattle.semantics_values.specs.Values.{vals}
use Rattle.semantics_values.specs.Views.{val}
use Rattle.code_image.specs.Listing.{field_texts}
use Rattle.code_image.proofs.Fields.{past_fields, past_values}
use Rattle.code_image.proofs.listing.push_fields.Goals as goal

pub returns : goal.returns
returns c =
    let fields = c.args.fields.now in
    let parts = c.args.parts.now in
    let i = c.loop-i.i in
    let out = c.loop-i.out.items in
    let past : (length fields ≤ i) ⊎ (length parts ≤ i) = elim (cases_lt (length fields) (length parts)) [ inl h ↦ inl (omega arith) | inr h ↦ inr (omega arith) ] in
    let end : field_texts (drop i fields) (vals (map val (drop i parts))) ≡ [] = elim past [ inl h ↦ past_fields fields parts i h | inr h ↦ past_values fields parts i h ] in
    sym (c.loop-i.invariant ∙ ap (λ r. out ++ r) end ∙ append-nil out)
