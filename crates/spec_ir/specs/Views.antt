-- What the types of the crate are as plain data.
use Rattle.std.specs.Prelude.{map}
use Rattle.spec_match_compiler.specs.Views.{pat, tree}
use Rattle.spec_ir.specs.declared.declared.Case.{Case}
use Rattle.spec_ir.specs.declared.declared.Data.{Data}
use Rattle.spec_ir.specs.declared.declared.Signature.{Signature}
use Rattle.spec_ir.specs.declared.declared.Declarations.{Declarations}
use Rattle.spec_ir.specs.declared.term.Term.{Term, fold-Term}
use Rattle.spec_ir.specs.declared.term.Term.TheOpen.{Term-F}
use Rattle.spec_ir.specs.declared.core_term.Core.{Core, fold-Core}
use Rattle.spec_ir.specs.declared.core_term.Core.TheOpen.{Core-F}
use Rattle.spec_ir.specs.declared.row.Row.{Row}
use Rattle.spec_ir.specs.declared.spec.Fun.{Fun}
use Rattle.spec_ir.specs.declared.spec.Spec.{Spec}
use Rattle.spec_ir.specs.Environment as e
use Rattle.spec_ir.specs.Terms as s
use Rattle.spec_ir.specs.CoreTerms as c
use Rattle.spec_ir.specs.Specification as p

abbrev pub case_of : Case → e.Case
case_of c = record { name = c.name; fields = c.fields.items }

abbrev pub data_of : Data → e.Data
data_of d = record { name = d.name; cases = map case_of d.cases.items }

abbrev pub signature_of : Signature → e.Signature
signature_of f = record { name = f.name; params = f.params.items; result_type = f.result }

abbrev pub environment : Declarations → e.Environment
environment d = record { datas = map data_of d.datas.items; maps = d.maps.items; funs = map signature_of d.funs.items }

abbrev pub term_step : Term-F s.Term → s.Term
term_step (Term-F.Var n) = s.var n
term_step (Term-F.Flag b) = s.flag b
term_step (Term-F.Word w v) = s.word w v
term_step (Term-F.Un op w x) = s.un op w x.value
term_step (Term-F.Bin op w x y) = s.bin op w x.value y.value
term_step (Term-F.Test k w x y) = s.test k w x.value y.value
term_step (Term-F.Cast kind from to x) = s.cast kind from to x.value
term_step (Term-F.Let x then_) = s.let_in x.value then_.value
term_step (Term-F.If b x y) = s.if_else b.value x.value y.value
term_step (Term-F.Match x arms) = s.match_on x.value (s.arms (map (λ a. (pat a.0, a.1)) arms.items))
term_step (Term-F.Make ty k args) = s.make ty k (s.terms args.items)
term_step (Term-F.Call f args) = s.call f (s.terms args.items)
term_step (Term-F.Get m x k) = s.get m x.value k.value
term_step (Term-F.Put m x k v) = s.put m x.value k.value v.value

abbrev pub term : Term → s.Term
term = fold-Term s.Term term_step

abbrev pub core_step : Core-F c.Core → c.Core
core_step (Core-F.Var n) = c.var n
core_step (Core-F.Flag b) = c.flag b
core_step (Core-F.Word w v) = c.word w v
core_step (Core-F.Un op w x) = c.un op w x.value
core_step (Core-F.Bin op w x y) = c.bin op w x.value y.value
core_step (Core-F.Test k w x y) = c.test k w x.value y.value
core_step (Core-F.Cast kind from to x) = c.cast kind from to x.value
core_step (Core-F.Let x then_) = c.let_in x.value then_.value
core_step (Core-F.If b x y) = c.if_else b.value x.value y.value
core_step (Core-F.Choose x by arms) = c.choose x.value (tree by) (c.cores arms.items)
core_step (Core-F.Make ty k args) = c.make ty k (c.cores args.items)
core_step (Core-F.Call f args) = c.call f (c.cores args.items)
core_step (Core-F.Get m x k) = c.get m x.value k.value
core_step (Core-F.Put m x k v) = c.put m x.value k.value v.value

abbrev pub core : Core → c.Core
core = fold-Core c.Core core_step

abbrev pub fun_of : Fun → p.Fun
fun_of f = record { name = f.name; params = f.params.items; result_type = f.result; body = term f.body; core = core f.core; group = f.group; loops = f.loops }

abbrev pub row_of : Row → p.Row
row_of r = record { parts = r.parts.items; guards = r.guards.items; case = r.case; args = r.args.items }

abbrev pub specification : Spec → p.Spec
specification s = record { datas = map data_of s.datas.items; maps = s.maps.items; funs = map fun_of s.funs.items; rows = map row_of s.rows.items; machine = s.machine }
