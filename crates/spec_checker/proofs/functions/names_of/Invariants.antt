use Rattle.std.proofs.Common.{◌≡◌, ◌++◌, length, map, drop}
use Rattle.syntax_parser.specs.View.{function}
use Rattle.spec_checker.proofs.functions.names_of.Given as goal

abbrev pub invariant-loop-f : goal.invariant-loop-f
invariant-loop-f l = record {
  count : length l.out.items ≡ l.f-index;
  out_is : map (λ f. f.name) (map (λ f. function f.now) l.functions) ≡ map (λ n. n.now) l.out.items ++ map (λ f. f.name) (map (λ f. function f.now) (drop l.f-index l.functions));
}
