-- Steps of the loops.
use Rattle.std.proofs.Common.{◌≡◌, ℕ, suc, ◌+◌, ◌-◌, ◌<◌, ◌≤◌, ◌⊎◌, inl, inr, ⊎_elim, min, true, false, Option, Some, option_map, unwrap_or, slice_get, Vec, Global, arith, List, [], ◌∷◌, ◌++◌, map, length, get_or, drop, refl, sym, ap, ◌∙◌, add-one, drop-cons, append_assoc}
use Rattle.std.proofs.lemmas.List.{map-append, drop_all}
use Rattle.std.proofs.lemmas.Bool.{cases_lt}
use Rattle.std.proofs.lemmas.Option.{slice_get-map, slice_get_read, slice_get_past}
use Rattle.spec_match_compiler.specs.declared.shape.Shape.{Shape}
use Rattle.spec_match_compiler.specs.declared.shape.Sig.{Sig}
use Rattle.spec_match_compiler.specs.declared.pattern.Pattern.{Pattern, Bind, fold-roll-Pattern}
use Rattle.spec_match_compiler.specs.declared.pattern.Pattern.TheOpen.{Pattern-F}
use Rattle.spec_match_compiler.specs.declared.pattern.Pattern.TheVariants.{rolls-Bind}
use Rattle.spec_match_compiler.specs.declared.knowledge.Knowledge.{Knowledge}
use Rattle.spec_match_compiler.specs.Shapes.{cases_of}
use Rattle.spec_match_compiler.specs.Views.{types, pat, knowledge, pattern_step}
use Rattle.spec_match_compiler.specs.Patterns as plain
use Rattle.spec_match_compiler.specs.Patterns.{pats, pats_len, no_pat}
use Rattle.spec_match_compiler.specs.Patterns.{pat_then, bind}
use Rattle.spec_match_compiler.specs.Knowledge as plain_knowledge
use Rattle.spec_match_compiler.specs.Knowledge.{parts, no_part}
use Rattle.spec_match_compiler.specs.Limits.{parts_len}
use Rattle.spec_match_compiler.specs.Rule.{example, examples, all_can_match, first_below, PendingTest, is_among, least_from}

pub drop_here : {A : Type 0} (xs : List A) (i : ℕ) (x : A) → x ≡ get_or xs i x → i < length xs → drop i xs ≡ x ∷ drop (i + 1) xs
drop_here xs i x e h = rw (add-one, drop-cons xs i x h, ← e) refl

-- one more in front of what is left
pub pushed : {X A : Type 0} (f : X → A) (out : List X) (r : X) (rest : List A) → map f (out ++ r ∷ []) ++ rest ≡ map f out ++ f r ∷ rest
pushed f out r rest = rw map-append (append_assoc (map f out) (f r ∷ []) rest)

pub parts_len-parts : (ks : List plain_knowledge.Knowledge) → parts_len (parts ks) ≡ length ks
parts_len-parts [] = refl
parts_len-parts (k ∷ ks) = ap suc (parts_len-parts ks)

pub pats_len-pats : (ps : List plain.Pattern) → pats_len (pats ps) ≡ length ps
pats_len-pats [] = refl
pats_len-pats (p ∷ ps) = ap suc (pats_len-pats ps)

pub examples-parts : (ks : List plain_knowledge.Knowledge) → examples (parts ks) ≡ pats (map example ks)
examples-parts [] = refl
examples-parts (k ∷ ks) = ap (λ ps. pat_then (example k) ps) (examples-parts ks)

-- where one of two lists ends
two_ended : {X Y : Type 0} (xs : List X) (ys : List Y) (i : ℕ) → min (length xs) (length ys) ≤ i → (drop i xs ≡ []) ⊎ (drop i ys ≡ [])
two_ended xs ys i h = ⊎_elim (λ l. inr (drop_all i ys (omega arith))) (λ l. inl (drop_all i xs l)) (cases_lt i (length xs))

can_match_none : (ps : plain.Patterns) → all_can_match ps no_part ≡ true
can_match_none no_pat = refl
can_match_none (pat_then p ps) = refl

below_none : (best : Option PendingTest) (d i : ℕ) (ps : plain.Patterns) → first_below best d i ps no_part ≡ best
below_none best d i no_pat = refl
below_none best d i (pat_then p ps) = refl

pub can_match_end : (xs : List Pattern) (ys : List Knowledge) (i : ℕ) → min (length xs) (length ys) ≤ i → all_can_match (pats (map pat (drop i xs))) (parts (map knowledge (drop i ys))) ≡ true
can_match_end xs ys i h =
    ⊎_elim (λ e. rw e refl) (λ e. rw e (can_match_none (pats (map pat (drop i xs))))) (two_ended xs ys i h)

pub below_end : (best : Option PendingTest) (d j : ℕ) (xs : List Pattern) (ys : List Knowledge) (i : ℕ) → min (length xs) (length ys) ≤ i
    → first_below best d j (pats (map pat (drop i xs))) (parts (map knowledge (drop i ys))) ≡ best
below_end best d j xs ys i h =
    ⊎_elim (λ e. rw e refl) (λ e. rw e (below_none best d j (pats (map pat (drop i xs))))) (two_ended xs ys i h)

-- the least number from n on
pub least_here : (len n : ℕ) (ns : List ℕ) → n < len → is_among n ns ≡ false → least_from (len - n) n ns ≡ n
least_here len n ns h e = let m : len - n ≡ suc (len - (n + 1)) = omega arith in rw (m, e) refl

pub least_next : (len n : ℕ) (ns : List ℕ) → n < len → is_among n ns ≡ true → least_from (len - n) n ns ≡ least_from (len - (n + 1)) (n + 1) ns
least_next len n ns h e = let m : len - n ≡ suc (len - (n + 1)) = omega arith in rw (m, e) refl

-- the constructors of a type of a signature
pub cases_here : (sig : Sig) (t : ℕ) (cases : Vec (Vec Shape Global) Global) → t < length sig.datas.items → cases ≡ get_or sig.datas.items t cases → cases_of (types sig) t ≡ map (λ c. c.items) cases.items
cases_here sig t cases h e =
    let here : slice_get sig.datas.items t ≡ Some cases = slice_get_read sig.datas.items (length sig.datas.items) t cases refl h e in
    ap (λ o. unwrap_or o []) (slice_get-map (λ ks. map (λ c. c.items) ks.items) sig.datas.items t ∙ ap (option_map (λ ks. map (λ c. c.items) ks.items)) here)

pub cases_past : (sig : Sig) (t : ℕ) → length sig.datas.items ≤ t → cases_of (types sig) t ≡ []
cases_past sig t h =
    ap (λ o. unwrap_or o []) (slice_get-map (λ ks. map (λ c. c.items) ks.items) sig.datas.items t ∙ ap (option_map (λ ks. map (λ c. c.items) ks.items)) (slice_get_past sig.datas.items t h))

pub pat_Bind : (n : ℕ) → pat (Bind n) ≡ bind n
pat_Bind n = ap pat (sym (rolls-Bind n)) ∙ fold-roll-Pattern plain.Pattern pattern_step (Pattern-F.Bind n)
