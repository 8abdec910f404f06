-- Lists of patterns.
use Rattle.std.proofs.Common.{◌≡◌, suc, List, [], ◌∷◌, ◌++◌, length, map, refl, ap}
use Rattle.syntax_parser.specs.Tree.{patterns}
use Rattle.syntax_parser.specs.View.{pattern}
use Rattle.syntax_parser.specs.declared.tree.Pat.{Pat as ParsedPat}
use Rattle.spec_match_compiler.specs.Patterns.{Pattern, Patterns, no_pat, pat_then, pats}
use Rattle.spec_patterns.specs.Patterns.{patterns_len}

-- patterns in front of more
abbrev pub pats_onto : List Pattern → Patterns → Patterns
pats_onto [] rest = rest
pats_onto (p ∷ ps) rest = pat_then p (pats_onto ps rest)

pub pats_onto_more : (out : List Pattern) (p : Pattern) (rest : Patterns) → pats_onto (out ++ p ∷ []) rest ≡ pats_onto out (pat_then p rest)
pats_onto_more [] p rest = refl
pats_onto_more (q ∷ out) p rest = ap (pat_then q) (pats_onto_more out p rest)

pub pats_onto_none : (ps : List Pattern) → pats_onto ps no_pat ≡ pats ps
pats_onto_none [] = refl
pats_onto_none (p ∷ ps) = ap (pat_then p) (pats_onto_none ps)

pub patterns_len_map : (parts : List ParsedPat) → patterns_len (patterns (map pattern parts)) ≡ length parts
patterns_len_map [] = refl
patterns_len_map (p ∷ parts) = ap suc (patterns_len_map parts)
