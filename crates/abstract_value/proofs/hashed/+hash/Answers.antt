use Rattle.std.proofs.Common.{◌≡◌, ◌++◌, ◌<◌, ◌≤◌, suc, None, Some, option_map, length, get_or, map, arith, subst, ap, sym, ◌∙◌, rules}
use Rattle.std.specs.Hash.{u32, u8}
use Rattle.std.specs.List.{fold}
use Rattle.std.proofs.lemmas.List.Sums.{fold-append}
use Rattle.abstract_value_laws.specs.Abs.{cases, parts}
use Rattle.abstract_value.specs.Constructors.{spread}
use Rattle.abstract_value.specs.Same.{hashed_cases, hashed_parts, hashed_value}
use Rattle.abstract_value.specs.View.{abs, case_of, cases_of}
use Rattle.abstract_value.proofs.Falling.{fields_fall, value_falls}
use Rattle.abstract_value.proofs.Hashing.{cases_all_hashed, cases_hashed, parts_all_hashed, parts_hashed}
use Rattle.abstract_value.proofs.Places.{at_itself}
use Rattle.abstract_value.proofs.Views.{abs_Data}
use Rattle.abstract_value.proofs.Weights.{cases_weight, weight}
use Rattle.abstract_value.proofs.hashed.+hash.Goals as goal

pub hash_value-returns-in-Data : goal.hash_value-returns-in-Data
hash_value-returns-in-Data g t c =
    let write = g.H.Hasher.write in
    let words = g.B.Word.Hash.hash_input in
    let notes = g.B.Note.Hash.hash_input in
    let s = c.args.state.now in
    let ty = c.in-Data.ty in
    let ex = ap abs c.in-Data.is ∙ abs_Data ty c.in-Data.cases in
    let all = hashed_cases words notes (cases_of c.in-Data.cases) in
    let here : c.hash_cases.new.state ≡ fold write (fold write (fold write s (u8 2)) (u32 ty)) all = search rules in
    here ∙ sym (fold-append write (fold write s (u8 2)) (u32 ty) all) ∙ sym (fold-append write s (u8 2) (u32 ty ++ all)) ∙ ap (λ v. fold write s (hashed_value words notes v)) (sym ex)

pub hash_cases-loop-i-preserved : goal.hash_cases-loop-i-preserved
hash_cases-loop-i-preserved g t c =
    let words = g.B.Word.Hash.hash_input in
    let notes = g.B.Note.Hash.hash_input in
    let write = g.H.Hasher.write in
    let xs = spread c.args.values.now in
    let i = c.loop-i.i in
    let below : i < length xs = subst (λ n. i < n) c.len-i-end.ensures c.loop-i-test.true in
    cases_hashed words notes write xs i (get_or xs i None) c.loop-i.state c.hash_case.new.state (fold write c.args.state.now (hashed_cases words notes (cases (map case_of xs)))) below (at_itself xs i None below) c.hash_case.ensures c.loop-i.invariant

pub hash_cases-returns : goal.hash_cases-returns
hash_cases-returns g t c =
    let words = g.B.Word.Hash.hash_input in
    let notes = g.B.Note.Hash.hash_input in
    let write = g.H.Hasher.write in
    let xs = spread c.args.values.now in
    let i = c.loop-i.i in
    cases_all_hashed words notes write xs i c.loop-i.state (fold write c.args.state.now (hashed_cases words notes (cases (map case_of xs)))) (subst (λ n. n ≤ i) c.len-i-end.ensures c.loop-i-test.false) c.loop-i.invariant

pub hash_case-hash_parts-requires : goal.hash_case-hash_parts-requires
hash_case-hash_parts-requires g t c κs within =
    let xs = spread c.args.values.now in
    let x : get_or xs c.args.i None ≡ Some c.in-Some.fields.now = sym c.fields.ensures ∙ ap (λ o. option_map (λ f. f.now) o) c.in-Some.is in
    (fields_fall c.args.values.now c.args.i c.in-Some.fields.now x 3 t (omega arith) c.decreases, within)

pub hash_parts-loop-value-preserved : goal.hash_parts-loop-value-preserved
hash_parts-loop-value-preserved g t c =
    let words = g.B.Word.Hash.hash_input in
    let notes = g.B.Note.Hash.hash_input in
    let write = g.H.Hasher.write in
    parts_hashed words notes write c.args.values.now c.loop-value.value-index c.value-item.result c.loop-value.state c.hash_value.new.state (fold write c.args.state.now (hashed_parts words notes (parts (map abs c.args.values.now)))) c.loop-value-test.true c.value-item.is c.hash_value.ensures c.loop-value.invariant

pub hash_parts-returns : goal.hash_parts-returns
hash_parts-returns g t c =
    let words = g.B.Word.Hash.hash_input in
    let notes = g.B.Note.Hash.hash_input in
    let write = g.H.Hasher.write in
    parts_all_hashed words notes write c.args.values.now c.loop-value.value-index c.loop-value.state (fold write c.args.state.now (hashed_parts words notes (parts (map abs c.args.values.now)))) c.loop-value-test.false c.loop-value.invariant

pub hash_parts-hash_value-requires : goal.hash_parts-hash_value-requires
hash_parts-hash_value-requires g t c κs within = (value_falls c.args.values.now c.loop-value.value-index c.value-item.result c.value-item.is c.loop-value-test.true t c.decreases, within)

pub hash_value-hash_cases-requires : goal.hash_value-hash_cases-requires
hash_value-hash_cases-requires g t c κs within =
    let whole : weight (abs c.args.v.now) ≡ suc (cases_weight (cases_of c.in-Data.cases)) = ap weight (ap abs c.in-Data.is ∙ abs_Data c.in-Data.ty c.in-Data.cases) in
    (omega (arith, whole, c.decreases), within)
