use Rattle.std.proofs.Common.{◌≡◌, ℕ, ◌<◌, Bor, List, [], ◌∷◌, ◌++◌, Some, None, length, map, get_or, drop, ◌+◌, ap, sym, ◌∙◌, arith}
use Rattle.std.specs.Prelude.{option_map}
use Rattle.std.proofs.lemmas.List.{length-map, map-append}
use Rattle.spec_ir.specs.declared.ty.Ty.TheVariants.{Bool as Flag}
use Rattle.semantics_values.specs.Values.{Val}
use Rattle.semantics_values.specs.Views.{val}
use Rattle.concrete_function_calls.specs.Arguments.{arguments_in, borrowed}
use Rattle.concrete_function_calls.proofs.Steps.{at_place, none_here, one_more, uneven}
use Rattle.concrete_function_calls.proofs.arguments.arguments.Goals as goal

pub returns-then-types-texts : goal.returns-then-types-texts
returns-then-types-texts c =
    let count : length (borrowed c.args.texts.now) ≡ length c.args.texts.now = length-map c.args.texts.now (λ (text : Bor (List ℕ)). text.now) in
    sym (uneven c.args.types.now (borrowed c.args.texts.now) (λ same. absurd (omega arith)))

abbrev no_text : Bor (List ℕ)
no_text = record { ref_ptr = (0, 0); now = [] }

pub returns-in_default : goal.returns-in_default
returns-in_default c =
    let i = c.loop-i.i in
    let texts = c.args.texts.now in
    let count : length (borrowed texts) ≡ length texts = length-map texts (λ (text : Bor (List ℕ)). text.now) in
    let within : i < length texts = omega (arith, c.loop-i.invariant.as_many) in
    sym (none_here c.args.types.now (borrowed texts) i Flag [] (map val c.loop-i.args.items) c.loop-i-test.true (omega arith) c.loop-i.invariant.so_far
    (at_place (get_or c.args.types.now i Flag) texts i no_text None within c.in_default.ensures))

pub loop-i-preserved : goal.loop-i-preserved
loop-i-preserved c =
    let i = c.loop-i.i in
    let texts = c.args.texts.now in
    let count : length (borrowed texts) ≡ length texts = length-map texts (λ (text : Bor (List ℕ)). text.now) in
    let within : i < length texts = omega (arith, c.loop-i.invariant.as_many) in
    let more = one_more c.args.types.now (borrowed texts) i Flag [] (map val c.loop-i.args.items) c.loop-i-test.true (omega arith) c.loop-i.invariant.so_far
    (val c.in-Some.arg) (at_place (get_or c.args.types.now i Flag) texts i no_text (Some (val c.in-Some.arg)) within c.in-Some.ensures) in
    let items = ap (map val) c.in_ok-push.ensures.items ∙ map-append val c.loop-i.args.items (c.in-Some.arg ∷ []) in
    record {
      as_many = c.loop-i.invariant.as_many;
      so_far = more ∙ ap (λ (args : List Val). option_map (λ rest. args ++ rest) (arguments_in (drop (i + 1) c.args.types.now) (drop (i + 1) (borrowed texts)))) (sym items);
    }
