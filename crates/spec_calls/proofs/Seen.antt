-- What typed terms of several parts are as plain data.
use Rattle.std.proofs.Common.{◌≡◌, ℕ, Vec, Global, List, ◌++◌, map, sym, ap, ◌∙◌, append_assoc}
use Rattle.std.specs.Prelude.{Box}
use Rattle.std.proofs.lemmas.Simd.{map-map}
use Rattle.spec_match_compiler.specs.declared.pattern.Pattern.{Pattern}
use Rattle.spec_match_compiler.specs.Views.{pat}
use Rattle.spec_ir.specs.Terms as s
use Rattle.spec_ir.specs.Views.{term, term_step}
use Rattle.spec_ir.specs.declared.term.Term.{Term, fold-roll-Term}
use Rattle.spec_ir.specs.declared.term.Term.TheOpen.{Term-F}
use Rattle.spec_ir.specs.declared.term.Term.TheVariants.{Match, Call, Get, Put, rolls-Match, rolls-Call, rolls-Get, rolls-Put}

pub match_seen : (x : Box Term Global) (arms : Vec (Pattern × Term) Global) → term (Match x arms) ≡ s.match_on (term x.value) (s.arms (map (λ a. (pat a.0, term a.1)) arms.items))
match_seen x arms =
    ap term (sym (rolls-Match x arms))
    ∙ fold-roll-Term s.Term term_step (Term-F.Match x arms)
    ∙ ap (λ l. s.match_on (term x.value) (s.arms l)) (map-map _ _ arms.items)

pub call_seen : (f : ℕ) (args : Vec Term Global) → term (Call f args) ≡ s.call f (s.terms (map term args.items))
call_seen f args = ap term (sym (rolls-Call f args)) ∙ fold-roll-Term s.Term term_step (Term-F.Call f args)

pub get_seen : (m : ℕ) (x k : Box Term Global) → term (Get m x k) ≡ s.get m (term x.value) (term k.value)
get_seen m x k = ap term (sym (rolls-Get m x k)) ∙ fold-roll-Term s.Term term_step (Term-F.Get m x k)

pub put_seen : (m : ℕ) (x k v : Box Term Global) → term (Put m x k v) ≡ s.put m (term x.value) (term k.value) (term v.value)
put_seen m x k v = ap term (sym (rolls-Put m x k v)) ∙ fold-roll-Term s.Term term_step (Term-F.Put m x k v)

-- more behind what was put behind a list
pub behind : {A : Type 0} (out more rest now : List A) → now ≡ out ++ more → now ++ rest ≡ out ++ (more ++ rest)
behind out more rest now h = rw h (append_assoc out more rest)
