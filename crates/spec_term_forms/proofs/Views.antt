-- The view of a match made from its parts.
use Rattle.std.proofs.Common.{◌≡◌, List, [], ◌∷◌, map, Vec, Box, Global, refl, sym, ap, ◌∙◌}
use Rattle.spec_match_compiler.specs.declared.pattern.Pattern.{Pattern}
use Rattle.spec_match_compiler.specs.Patterns as plain
use Rattle.spec_match_compiler.specs.Views.{pat}
use Rattle.spec_ir.specs.Terms as s
use Rattle.spec_ir.specs.Views.{term, term_step}
use Rattle.spec_ir.specs.declared.term.Term.{Term, fold-roll-Term}
use Rattle.spec_ir.specs.declared.term.Term.TheOpen.{Term-F}
use Rattle.spec_ir.specs.declared.term.Term.TheVariants.{Match, rolls-Match}

-- the arms of a view are those of their parts
arms_of_parts : (arms : List (Pattern × Term)) → map {B = plain.Pattern × s.Term} (λ (a : Pattern × s.Term). (pat a.0, a.1)) (map {B = Pattern × s.Term} (λ (a : Pattern × Term). (a.0, term a.1)) arms) ≡ map {B = plain.Pattern × s.Term} (λ (a : Pattern × Term). (pat a.0, term a.1)) arms
arms_of_parts [] = refl
arms_of_parts (a ∷ arms) = ap (λ rest. (pat a.0, term a.1) ∷ rest) (arms_of_parts arms)

pub match_view : (x : Box Term Global) (arms : Vec (Pattern × Term) Global) → term (Match x arms) ≡ s.match_on (term x.value) (s.arms (map {B = plain.Pattern × s.Term} (λ (a : Pattern × Term). (pat a.0, term a.1)) arms.items))
match_view x arms = ap term (sym (rolls-Match x arms)) ∙ fold-roll-Term s.Term term_step (Term-F.Match x arms) ∙ ap (λ l. s.match_on (term x.value) (s.arms l)) (arms_of_parts arms.items)
