use Rattle.std.proofs.Common.{◌≡◌, ◌⊎◌, None, inl, inr, map, ap, subst, rules}
use Rattle.syntax_parser.specs.View.{item, tree as tree_of}
use Rattle.spec_ir.specs.declared.spec_error.SpecError.TheVariants.{NoMemory}
use Rattle.spec_ir.specs.Views.{fun_of, row_of}
use Rattle.spec_declarations.specs.MachineRules.{machine_fault}
use Rattle.spec_decode_rows.specs.Decoded.{decoded}
use Rattle.spec_decode_rows.specs.Rows.{rows_of}
use Rattle.spec_checker.specs.Check.{AreFuns, later_passes}
use Rattle.spec_checker.proofs.passes.behind_types.Goals as goal

pub returns-in-Ok : goal.returns-in-Ok
returns-in-Ok c =
    let t = tree_of c.args.tree.now in
    let is = c.requires.declared in
    let none : machine_fault c.args.wanted t ≡ None = search rules in
    let later = subst (λ e. (later_passes e t).none) is c.in-Ok.ensures.accepted in
    let funs = subst (λ e. AreFuns e t.items (map fun_of c.in-Ok.later.funs.items)) is c.in-Ok.ensures.funs in
    let rows = subst (λ e. map row_of c.in-Ok.later.rows.items ≡ map (decoded e) (rows_of t.items)) is c.in-Ok.ensures.rows in (
      (none, later),
      record {
        datas = ap (λ e. e.datas) is;
        maps = ap (λ e. e.maps) is;
        funs = funs;
        rows = rows;
        machine = search rules;
      },
    )

pub returns-in-Err : goal.returns-in-Err
returns-in-Err c =
    let t = tree_of c.args.tree.now in
    let none : machine_fault c.args.wanted t ≡ None = search rules in
    let fault = subst (λ e. (later_passes e t).fault c.in-Err.e ⊎ (c.in-Err.e ≡ NoMemory)) c.requires.declared c.in-Err.ensures.fault in
    elim fault [ inl f ↦ inl (inr (none, f)) | inr m ↦ inr m ]
