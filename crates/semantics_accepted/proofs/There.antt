-- A tree has a specification.
use Rattle.std.proofs.Common.{◌≡◌, ℕ, suc, ◌+◌, ◌<◌, List, [], ◌∷◌, length, map, get_or, slice_get, Some, refl, sym, ap, ◌∙◌, arith}
use Rattle.std.specs.List.{range_with_len}
use Rattle.std.proofs.lemmas.List.FromFn.{get_or-map-range_with_len, length-map-range_with_len}
use Rattle.std.proofs.lemmas.Option.{get_or_from_slice_get, slice_get_within}
use Rattle.syntax_parser.specs.Tree.{Tree, Item, Function}
use Rattle.support_reachability.specs.Table.{group, says}
use Rattle.support_reachability.proofs.Tables.{some_table}
use Rattle.spec_ir.specs.declared.spec.SpecUse.{SpecUse}
use Rattle.spec_ir.specs.Environment.{Environment, Signature}
use Rattle.spec_ir.specs.Specification.{Spec}
use Rattle.spec_ir.specs.Terms.{Term}
use Rattle.spec_calls.specs.declared.group.Group.{Group}
use Rattle.spec_calls.specs.Calls.{call_graph}
use Rattle.spec_calls.specs.Groups.{AreGroups}
use Rattle.spec_calls.proofs.Told.{are_groups}
use Rattle.spec_declarations.specs.Declarations.{declared}
use Rattle.spec_declarations.specs.MachineRules.{machine_of}
use Rattle.spec_declarations.specs.TypeNames.{types_of}
use Rattle.spec_decode_rows.specs.Decoded.{decoded}
use Rattle.spec_decode_rows.specs.Rows.{rows_of}
use Rattle.spec_checker.specs.Check.{IsSpecOf}
use Rattle.spec_checker.specs.Functions.{bodies, forms, forms_of, functions}
use Rattle.spec_checker.specs.Steps.{made}
use Rattle.spec_checker.proofs.Making.{are_funs, groups_count, signatures_count}
use Rattle.semantics_accepted.specs.CheckerLaws.{SpecificationsAreThere}

-- the groups of functions with these bodies
some_groups : (terms : List Term) → (groups : List Group) × AreGroups terms groups
some_groups terms =
    let t = some_table (call_graph terms) in
    let told : ℕ → Group = λ f. record { number = group t.0 f; loops = says t.0 f f } in
    let groups = map told (range_with_len 0 (length terms)) in
    let all : length groups ≡ length terms = length-map-range_with_len told 0 (length terms) in
    let same : (f : ℕ) (g : Group) → slice_get groups f ≡ Some g → g ≡ told f =
    λ f g e. sym (get_or_from_slice_get groups f g g e) ∙ get_or-map-range_with_len told 0 (length terms) f f g (omega (arith, slice_get_within groups f g e, all)) (omega arith) in (
      groups,
      are_groups terms t.0 t.1 (length terms) groups refl (record {
        all = all;
        each = λ f g e. (ap (λ (x : Group). x.number) (same f g e), ap (λ (x : Group). x.loops) (same f g e));
      }),
    )

forms_count : (env : Environment) (fs : List Function) (ss : List Signature) → length fs ≡ length ss → length (forms_of env fs ss) ≡ length ss
forms_count env [] [] h = refl
forms_count env [] (s ∷ ss) h = absurd (omega arith)
forms_count env (f ∷ fs) [] h = absurd (omega arith)
forms_count env (f ∷ fs) (s ∷ ss) h = ap suc (forms_count env fs ss (omega arith))

pub specifications_are_there : SpecificationsAreThere
specifications_are_there wanted tree =
    let env = declared tree.items in
    let count = signatures_count (types_of tree.items) tree.items in
    let groups = some_groups (bodies env tree.items) in
    let as_many = groups_count (forms env tree.items) groups.0 groups.1 ∙ forms_count env (functions tree.items) env.funs count in (
      record {
        datas = env.datas;
        maps = env.maps;
        funs = made env.funs (forms env tree.items) groups.0;
        rows = map (decoded env) (rows_of tree.items);
        machine = machine_of wanted tree;
      },
      record {
        datas = refl;
        maps = refl;
        funs = are_funs env tree.items groups.0 count as_many groups.1;
        rows = refl;
        machine = refl;
      },
    )
