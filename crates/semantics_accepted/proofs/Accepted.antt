-- Checked specifications are accepted.
use Rattle.std.proofs.Common.{◌≡◌, ℕ, suc, ◌<◌, Bool, true, Option, Some, None, option_map, List, [], ◌∷◌, length, map, slice_get, refl, sym, ap, ◌∙◌, subst, inl, arith, zero-add}
use Rattle.std.specs.List.{list_all}
use Rattle.std.proofs.lemmas.Option.{slice_get_within, same_Some as some_signature}
use Rattle.support_reachability.specs.Graph.{IsLeastOfGroup}
use Rattle.support_reachability.specs.Table.{IsTableOf, rank}
use Rattle.support_reachability.proofs.Tables.{some_table}
use Rattle.syntax_parser.specs.Tree.{Tree}
use Rattle.spec_ir.specs.declared.ty.Ty.{Ty}
use Rattle.spec_ir.specs.declared.ty.Ty.TheVariants.{Word}
use Rattle.spec_ir.specs.declared.declared.MapType.{MapType}
use Rattle.spec_ir.specs.declared.spec.Machine.{Machine}
use Rattle.spec_ir.specs.declared.spec.SpecUse.{SpecUse}
use Rattle.spec_ir.specs.Environment.{Environment, Data, Case, Signature, field_types}
use Rattle.spec_ir.specs.Specification.{Spec, Fun}
use Rattle.spec_ir.specs.Terms.{Term}
use Rattle.spec_ir.specs.TermTypes.{HasType}
use Rattle.spec_ir.specs.Cores.{core_of}
use Rattle.spec_ir.specs.WellFormed.{IsWellFormed}
use Rattle.spec_declarations.specs.Declarations.{signature_declared, data_declared, declared}
use Rattle.spec_declarations.specs.TypeNames.{types_of}
use Rattle.spec_declarations.specs.MachineRules.{are_state_fields, machine_fault, machine_of, instr_of}
use Rattle.spec_declarations.proofs.Ranked.{types_are_ranked}
use Rattle.spec_declarations.proofs.States.{state_is_one}
use Rattle.spec_decode_rows.specs.Rows.{rows_of, rows_fault}
use Rattle.spec_decode_rows.specs.Decoded.{decoded}
use Rattle.spec_names.specs.Names.{nothing}
use Rattle.spec_calls.specs.Calls.{call_graph}
use Rattle.semantics_accepted.specs.Typed.{AreTyped}
use Rattle.semantics_accepted.proofs.Tails.{groups_have_one_result}
use Rattle.spec_checker.specs.Functions.{functions, body_of, bodies}
use Rattle.spec_checker.specs.Check.{IsParsed, IsFaultless, IsSpecOf}
use Rattle.spec_checker.proofs.Parsed.{have_cases}
use Rattle.semantics_values.specs.Types.{environment_of}
use Rattle.semantics_laws.specs.Total.{IsTotal}
use Rattle.semantics_laws.specs.Rows.{row_fits}
use Rattle.semantics_laws.specs.Accepted.{IsAccepted, IsRight, IsMachine, IsMachineIfAny, is_map}
use Rattle.semantics_laws.proofs.Turns.{signature_of}
use Rattle.semantics_accepted.specs.AcceptedLaws.{CheckedAreAccepted}
use Rattle.semantics_accepted.proofs.Sizes.{sized}
use Rattle.semantics_accepted.proofs.MapTypes.{all_maps}
use Rattle.semantics_accepted.proofs.Functions.{FunAt, fun_at, fun_from, signature_at, signatures_same, bodies_count, body_at, body_fine, body_typed, body_total, body_cored}
use Rattle.semantics_accepted.proofs.Groups.{fun_there, of_one_group, rank_bound, group_of_group, calls_in_order}
use Rattle.semantics_accepted.proofs.Machines.{parts, parts_are, instr_is, instr_below, state_at, interp_at, takes, returns, number_is}
use Rattle.semantics_accepted.proofs.Rows.{rows_are}

abbrev made : List Data → List MapType → List Signature → Environment
made datas maps funs = record { datas = datas; maps = maps; funs = funs }

same_environment : (a b : List Data) (c d : List MapType) (x y : List Signature) → a ≡ b → c ≡ d → x ≡ y → made a c x ≡ made b d y
same_environment a b c d x y p q r = rw (p, q, r) refl

some_term : (x y : Term) → Some x ≡ Some y → x ≡ y
some_term x y h = cc

module _ (wanted : SpecUse) (tree : Tree) (s : Spec) (parsed : IsParsed tree) (fine : IsFaultless wanted tree) (is : IsSpecOf tree wanted s) where
  abbrev env : Environment
  env = declared tree.items

  abbrev terms : List Term
  terms = bodies (declared tree.items) tree.items

  wf : IsWellFormed env
  wf = types_are_ranked tree.items fine.1.0 (sized nothing tree.items fine.0) (have_cases tree parsed)

  -- what terms may name is what is declared
  same : environment_of s ≡ env
  same = same_environment s.datas env.datas s.maps env.maps (map signature_of s.funs) env.funs is.datas is.maps (signatures_same env tree.items 0 (functions tree.items) env.funs s.funs is.funs)

  at : (f : ℕ) (fun : Fun) → slice_get s.funs f ≡ Some fun → FunAt env tree.items 0 (functions tree.items) env.funs f fun
  at f fun e = fun_at env tree.items 0 (functions tree.items) env.funs s.funs is.funs f fun e

  count : length terms ≡ length s.funs
  count = bodies_count env tree.items 0 (functions tree.items) env.funs s.funs is.funs

  term_at : (f : ℕ) (fun : Fun) → slice_get s.funs f ≡ Some fun → slice_get terms f ≡ Some fun.body
  term_at f fun e =
      let r = at f fun e in
      body_at env tree.items (functions tree.items) env.funs f r.f r.s r.f_at r.s_at ∙ ap Some (sym r.is.body)

  least_at : (f : ℕ) (fun : Fun) → slice_get s.funs f ≡ Some fun → IsLeastOfGroup (call_graph terms) f fun.group
  least_at f fun e = subst (λ n. IsLeastOfGroup (call_graph terms) n fun.group) (zero-add f) (at f fun e).is.group.number

  -- ---- types of bodies
  typed_at : (f : ℕ) (fun : Fun) → slice_get s.funs f ≡ Some fun → HasType env fun.params fun.body fun.result_type
  typed_at f fun e =
      let r = at f fun e in
      let none = body_fine env tree.items (functions tree.items) env.funs f r.f r.s r.f_at r.s_at fine.1.1.1.0.0 in
      let typed = body_typed tree.items wf r.f r.s f r.f_at r.s_at none in
      subst (λ t. HasType env fun.params fun.body t) (sym r.is.result_type) (subst (λ x. HasType env fun.params x r.s.result_type) (sym r.is.body) (subst (λ ps. HasType env ps (body_of env r.f r.s) r.s.result_type) (sym r.is.params) typed))

  total_at : (f : ℕ) (fun : Fun) → slice_get s.funs f ≡ Some fun → IsTotal env fun.params fun.body
  total_at f fun e =
      let r = at f fun e in
      let none = body_fine env tree.items (functions tree.items) env.funs f r.f r.s r.f_at r.s_at fine.1.1.1.0.0 in
      subst (λ x. IsTotal env fun.params x) (sym r.is.body) (subst (λ ps. IsTotal env ps (body_of env r.f r.s)) (sym r.is.params) (body_total tree.items wf r.f r.s f r.f_at r.s_at none))

  core_at : (f : ℕ) (fun : Fun) → slice_get s.funs f ≡ Some fun → fun.core ≡ core_of env fun.params fun.body
  core_at f fun e =
      let r = at f fun e in
      let none = body_fine env tree.items (functions tree.items) env.funs f r.f r.s r.f_at r.s_at fine.1.1.1.0.0 in
      r.is.core ∙ body_cored tree.items wf r.f r.s f r.f_at r.s_at none ∙ ap (λ ps. core_of env ps (body_of env r.f r.s)) (sym r.is.params) ∙ ap (λ x. core_of env fun.params x) (sym r.is.body)

  are_typed : AreTyped env terms
  are_typed f body sig h g =
      let there = fun_there s.funs f (omega (arith, slice_get_within terms f body h, count)) in
      let r = at f there.0 there.1 in
      let one = some_term there.0.body body (sym (term_at f there.0 there.1) ∙ h) in
      let two = some_signature r.s sig (sym r.s_at ∙ g) in
      subst (λ z. HasType env z.params body z.result_type) two (subst (λ x. HasType env r.s.params x r.s.result_type) one
      (subst (λ t. HasType env r.s.params there.0.body t) r.is.result_type (subst (λ ps. HasType env ps there.0.body there.0.result_type) r.is.params (typed_at f there.0 there.1))))

  -- ---- groups
  table : (t : List (List Bool)) × IsTableOf (call_graph terms) t
  table = some_table (call_graph terms)

  right : (f : ℕ) (fun : Fun) → slice_get s.funs f ≡ Some fun → IsRight s (rank table.0) f fun
  right f fun e = record {
    typed = subst (λ x. HasType x fun.params fun.body fun.result_type) (sym same) (typed_at f fun e);
    total = subst (λ x. IsTotal x fun.params fun.body) (sym same) (total_at f fun e);
    core = subst (λ x. fun.core ≡ core_of x fun.params fun.body) (sym same) (core_at f fun e);
    calls_in_order = calls_in_order s terms count term_at least_at table.0 table.1 fine.1.1.1.0.1 env f fun fun.params fun.result_type e funs_count (typed_at f fun e);
    first = (least_at f fun e).below f (inl refl);
    of_group = group_of_group s terms count term_at least_at table.0 table.1 fine.1.1.1.0.1 f fun e;
    bound = rank_bound s terms count term_at least_at table.0 table.1 fine.1.1.1.0.1 f fun e;
  }
    where
      funs_count : length env.funs ≡ length s.funs
      funs_count = sym (ap (λ x. length x.funs) same) ∙ counted s.funs
        where
          counted : (gs : List Fun) → length (map signature_of gs) ≡ length gs
          counted [] = refl
          counted (g ∷ gs) = ap suc (counted gs)

  alike : (f g : ℕ) (fun other : Fun) → slice_get s.funs f ≡ Some fun → slice_get s.funs g ≡ Some other → fun.group ≡ other.group → fun.result_type ≡ other.result_type
  alike f g fun other e h k =
      let a = at f fun e in
      let b = at g other h in
      a.is.result_type ∙ groups_have_one_result env terms f g a.s b.s are_typed fine.1.1.1.0.1 (of_one_group s terms count term_at least_at f g fun other e h k) a.s_at b.s_at ∙ sym b.is.result_type

  maps : list_all (is_map (environment_of s)) s.maps ≡ true
  maps = subst (λ x. list_all (is_map x) x.maps ≡ true) (sym same) (all_maps tree.items fine.1.0.0 fine.1.0.1 0 tree.items fine.1.0.3)

  -- ---- the machine
  module _ (m : Machine) (is_it : machine_of SpecUse.Machine tree ≡ Some m) (none : machine_fault SpecUse.Machine tree ≡ None) where
    abbrev states : Data
    states = data_declared (types_of tree.items) (parts tree m fine.0 none is_it).s.1

    one : (c : Case) × (rest : List Ty) × (states.cases ≡ c ∷ []) × (field_types c ≡ Word 32 ∷ rest) × (are_state_fields [] rest ≡ true)
    one = state_is_one tree m (data_declared (types_of tree.items) (parts tree m fine.0 none is_it).s.1) none is_it (state_at tree m fine.0 none is_it)

    interp : (g : Fun) × (slice_get s.funs m.interp ≡ Some g)
    interp = fun_from env tree.items 0 (functions tree.items) env.funs s.funs is.funs m.interp (parts tree m fine.0 none is_it).f.1 (interp_at tree m fine.0 none is_it)

    signed : signature_declared (types_of tree.items) (parts tree m fine.0 none is_it).f.1 ≡ (at m.interp interp.0 interp.1).s
    signed = signature_at (types_of tree.items) tree.items m.interp (parts tree m fine.0 none is_it).f.1 (at m.interp interp.0 interp.1).s (interp_at tree m fine.0 none is_it) (at m.interp interp.0 interp.1).s_at

    rows : list_all (row_fits (environment_of s) m.instr) s.rows ≡ true
    rows =
        let number : instr_of tree ≡ Some m.instr = ap (option_map (λ d. d.0)) (instr_is tree m fine.0 none is_it) ∙ ap Some (number_is tree m fine.0 none is_it) in
        let free = subst (λ o. rows_fault env o [] (rows_of tree.items) ≡ None) number fine.1.1.1.1 in
        subst (λ rs. list_all (row_fits (environment_of s) m.instr) rs ≡ true) (sym is.rows) (subst (λ x. list_all (row_fits x m.instr) (map (decoded env) (rows_of tree.items)) ≡ true) (sym same) (rows_are env m.instr [] (rows_of tree.items) free))

    is_machine : IsMachine s m
    is_machine = record {
      instr = subst (λ ds. m.instr < length ds) (sym is.datas) (instr_below tree m fine.0 none is_it);
      states = states;
      states_there = subst (λ ds. slice_get ds m.state ≡ Some states) (sym is.datas) (state_at tree m fine.0 none is_it);
      one = one.0;
      one_alone = one.2;
      parts = one.1;
      counter = one.3;
      words_or_maps = parts_are [] one.1 one.4;
      interp = interp.0;
      interp_there = interp.1;
      takes = (at m.interp interp.0 interp.1).is.params ∙ ap (λ z. z.params) (sym signed) ∙ takes tree m fine.0 none is_it;
      returns = (at m.interp interp.0 interp.1).is.result_type ∙ ap (λ z. z.result_type) (sym signed) ∙ returns tree m fine.0 none is_it;
      rows = rows;
    }

  machine_by_use : (u : SpecUse) → machine_fault u tree ≡ None → IsMachineIfAny s (machine_of u tree)
  machine_by_use SpecUse.Library h = tt
  machine_by_use SpecUse.Machine h = any (machine_of SpecUse.Machine tree) refl
    where
      any : (o : Option Machine) → machine_of SpecUse.Machine tree ≡ o → IsMachineIfAny s o
      any None e = tt
      any (Some m) e = is_machine m e h

  accepted : IsAccepted s
  accepted = record {
    types = subst IsWellFormed (sym same) wf;
    maps = maps;
    rank = rank table.0;
    right = right;
    alike = alike;
    machine = subst (IsMachineIfAny s) (sym is.machine) (machine_by_use wanted fine.1.1.0);
  }

pub checked_are_accepted : CheckedAreAccepted
checked_are_accepted wanted tree s parsed fine is = accepted wanted tree s parsed fine is
