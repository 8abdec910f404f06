-- Decode rows without a fault give instructions of their type.
use Rattle.std.proofs.Common.{◌≡◌, ℕ, suc, ◌+◌, ◌&&◌, ◌==◌, Bool, true, false, cond, bytes_eq, Option, Some, None, List, [], ◌∷◌, ◌++◌, map, slice_get, refl, sym, subst, arith}
use Rattle.std.specs.Prelude.{is_some}
use Rattle.std.specs.List.{list_all}
use Rattle.std.proofs.lemmas.Bool.{false≢true, eqb-true as same_number}
use Rattle.spec_match_compiler.proofs.Truth.{and_left, and_right, both}
use Rattle.syntax_parser.specs.declared.tree.PartDecl.{PartDecl}
use Rattle.syntax_parser.specs.declared.tree.PartDecl.TheVariants.{Fixed, Named}
use Rattle.syntax_parser.specs.declared.tree.ArgDecl.{ArgDecl}
use Rattle.syntax_parser.specs.declared.tree.ArgDecl.TheVariants as arg
use Rattle.syntax_parser.specs.Tree.{Row}
use Rattle.spec_ir.specs.declared.ty.Ty.{Ty}
use Rattle.spec_ir.specs.declared.ty.Ty.TheVariants.{Data as DataTy}
use Rattle.spec_ir.specs.Answers.{unless}
use Rattle.spec_ir.specs.Environment.{Environment, Constructor, constructor_named}
use Rattle.spec_ir.specs.Texts.{case_at, fields_at}
use Rattle.spec_ir.proofs.Checks.{then_left, then_right, unless_none}
use Rattle.spec_patterns.proofs.Found.{constructor_there}
use Rattle.semantics_accepted.proofs.Named.{constructor_fields}
use Rattle.spec_decode_rows.specs.Fields.{RowField, fields_from, fields_of, field_named}
use Rattle.spec_decode_rows.specs.Fits as f
use Rattle.spec_decode_rows.specs.Rows.{EarlierRow, earlier_of, row_fault, rows_fault, overlap_fault}
use Rattle.spec_decode_rows.specs.Decoded.{part_of, arg_of, case_or, number_or, decoded}
use Rattle.semantics_laws.specs.Rows.{field_widths, is_word_of, arg_fits, args_fit, row_fits}
use Rattle.semantics_accepted.proofs.Exhaustive.{case_there}

-- a field of a row has its width
pub record FieldAt (n : ℕ) (parts : List PartDecl) (x : RowField) : Type 0 where
  pub k : ℕ
  pub number : x.number ≡ n + k
  pub width : slice_get (field_widths (map part_of parts)) k ≡ Some x.width

field_at : (n : ℕ) (parts : List PartDecl) (name : List ℕ) (x : RowField) → field_named (fields_from n parts) name ≡ Some x → FieldAt n parts x
field_at n [] name x h = absurd cc
field_at n (Fixed v w span ∷ parts) name x h = let r = field_at n parts name x h in record { k = r.k; number = r.number; width = r.width }
field_at n (Named g w span ∷ parts) name x h = at (λ q. field_at (n + 1) parts name x q) (bytes_eq g.text name) h
  where
    at : (field_named (fields_from (n + 1) parts) name ≡ Some x → FieldAt (n + 1) parts x) → (b : Bool) → cond b (Some (record { name = g.text; number = n; width = w.v })) (field_named (fields_from (n + 1) parts) name) ≡ Some x
        → FieldAt n (Named g w span ∷ parts) x
    at later true q =
        let same : record { name = g.text; number = n; width = w.v } ≡ x = cc in
        subst (FieldAt n (Named g w span ∷ parts)) same (record { k = 0; number = omega arith; width = refl })
    at later false q = let r = later q in record { k = suc r.k; number = omega (arith, r.number); width = r.width }

field_fits : (parts : List PartDecl) (ty : Ty) (name : List ℕ) (o : Option RowField) → field_named (fields_of parts) name ≡ o → f.has_type ty o ≡ true → is_word_of ty (slice_get (field_widths (map part_of parts)) (number_or o)) ≡ true
field_fits parts ty name None e h = absurd (false≢true h)
field_fits parts ty name (Some x) e h =
    let r = field_at 0 parts name x e in
    let place : r.k ≡ x.number = omega (arith, r.number) in
    subst (λ o. is_word_of ty o ≡ true) (sym (subst (λ k. slice_get (field_widths (map part_of parts)) k ≡ Some x.width) place r.width)) h

argument_fits : (parts : List PartDecl) (a : ArgDecl) (ty : Ty) → f.arg_fits (fields_of parts) a ty ≡ true → arg_fits (field_widths (map part_of parts)) (arg_of (fields_of parts) a) ty ≡ true
argument_fits parts (arg.Named name) ty h = field_fits parts ty name.text (field_named (fields_of parts) name.text) refl h
argument_fits parts (arg.Word v w span) ty h = h

arguments_fit : (parts : List PartDecl) (args : List ArgDecl) (ts : List Ty) → f.args_fit (fields_of parts) args ts ≡ true → args_fit (field_widths (map part_of parts)) (map (arg_of (fields_of parts)) args) ts ≡ true
arguments_fit parts [] [] h = refl
arguments_fit parts [] (t ∷ ts) h = absurd (false≢true h)
arguments_fit parts (a ∷ args) [] h = absurd (false≢true h)
arguments_fit parts (a ∷ args) (t ∷ ts) h =
    both (arg_fits (field_widths (map part_of parts)) (arg_of (fields_of parts) a) t) (args_fit (field_widths (map part_of parts)) (map (arg_of (fields_of parts)) args) ts)
    (argument_fits parts a t (and_left (f.arg_fits (fields_of parts) a t) (f.args_fit (fields_of parts) args ts) h)) (arguments_fit parts args ts (and_right (f.arg_fits (fields_of parts) a t) (f.args_fit (fields_of parts) args ts) h))

module _ (env : Environment) (instr : ℕ) where
  case_fits : (r : Row) (o : Option Constructor) → constructor_named env r.case.text ≡ o → f.case_fits (Some instr) o && f.args_fit (fields_of r.parts) r.args (f.types_of o) ≡ true
      → is_some (case_at env (DataTy instr) (case_or o)) && args_fit (field_widths (map part_of r.parts)) (map (arg_of (fields_of r.parts)) r.args) (fields_at (case_at env (DataTy instr) (case_or o))) ≡ true
  case_fits r None e h = absurd (false≢true h)
  case_fits r (Some c) e h =
      let same = same_number c.ty instr (and_left (c.ty == instr) (f.args_fit (fields_of r.parts) r.args c.fields) h) in
      let args = arguments_fit r.parts r.args c.fields (and_right (c.ty == instr) (f.args_fit (fields_of r.parts) r.args c.fields) h) in
      let widths = field_widths (map part_of r.parts) in
      let given = map (arg_of (fields_of r.parts)) r.args in
      subst (λ t. is_some (case_at env (DataTy t) c.case) && args_fit widths given (fields_at (case_at env (DataTy t) c.case)) ≡ true) same
      (both (is_some (case_at env (DataTy c.ty) c.case)) (args_fit widths given (fields_at (case_at env (DataTy c.ty) c.case))) (case_there env c.ty c.case _ (constructor_there env r.case.text c e))
      (subst (λ ts. args_fit widths given ts ≡ true) (sym (constructor_fields env r.case.text c e)) args))

  row_is : (r : Row) → f.row_fits env (Some instr) r ≡ true → row_fits env instr (decoded env r) ≡ true
  row_is r h =
      let guards = list_all (f.guard_fits (fields_of r.parts)) r.guards in
      let rest = f.case_fits (Some instr) (constructor_named env r.case.text) && f.args_fit (fields_of r.parts) r.args (f.types_of (constructor_named env r.case.text)) in
      case_fits r (constructor_named env r.case.text) refl (and_right guards rest (and_right (f.parts_fit r.parts) (guards && rest) h))

  pub rows_are : (earlier : List EarlierRow) (rows : List Row) → rows_fault env (Some instr) earlier rows ≡ None → list_all (row_fits env instr) (map (decoded env) rows) ≡ true
  rows_are earlier [] h = refl
  rows_are earlier (r ∷ rows) h =
      let own = then_left (row_fault env (Some instr) earlier r) _ h in
      let fits = unless_none (f.row_fits env (Some instr) r) _ (then_left (unless (f.row_fits env (Some instr) r) _) (overlap_fault earlier r) own) in
      both (row_fits env instr (decoded env r)) (list_all (row_fits env instr) (map (decoded env) rows)) (row_is r fits) (rows_are (earlier ++ earlier_of r ∷ []) rows (then_right (row_fault env (Some instr) earlier r) _ h))
