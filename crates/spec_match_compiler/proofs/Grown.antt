-- Steps of loops that put one item more behind those that are out.
use Rattle.std.proofs.Common.{◌≡◌, ◌==◌, ℕ, ◌+◌, ◌<◌, ◌≤◌, true, false, Option, option_map, append_assoc, take, Vec, Global, List, [], ◌∷◌, ◌++◌, map, length, get_or, drop, refl, sym, ap, ◌∙◌}
use Rattle.std.proofs.lemmas.List.{drop_all, append-nil, take_more, map-append}
use Rattle.spec_match_compiler.specs.declared.shape.Shape.{Shape}
use Rattle.spec_match_compiler.specs.declared.pattern.Pattern.{Pattern}
use Rattle.spec_match_compiler.specs.declared.candidate.Candidate.{Candidate}
use Rattle.spec_match_compiler.specs.declared.knowledge.Knowledge.{Knowledge, Made, fold-roll-Knowledge}
use Rattle.spec_match_compiler.specs.declared.knowledge.Knowledge.TheOpen.{Knowledge-F}
use Rattle.spec_match_compiler.specs.declared.knowledge.Knowledge.TheVariants.{rolls-Made}
use Rattle.spec_match_compiler.specs.Picks.{Row, numbered}
use Rattle.spec_match_compiler.specs.Knowledge as plain
use Rattle.spec_match_compiler.specs.Knowledge.{parts, case_known, unknown, put}
use Rattle.spec_match_compiler.specs.Values.{Place}
use Rattle.spec_match_compiler.specs.Patterns.{pats}
use Rattle.spec_match_compiler.specs.Meets.{bindings, part_bindings}
use Rattle.spec_match_compiler.specs.Limits.{AllInLimits, PatsInLimits}
use Rattle.spec_match_compiler.specs.Rule.{can_match, all_can_match, still, made_known, example, PendingTest, first_test, first_below, outermost, below}
use Rattle.spec_match_compiler.specs.Views.{pat, knowledge, known_step, candidate}
use Rattle.spec_match_compiler.proofs.Loops.{drop_here, pushed}
use Rattle.spec_match_compiler.proofs.Changed.{changed}

pub known_Made : (c : ℕ) (ks : Vec Knowledge Global) → knowledge (Made c ks) ≡ case_known c (parts (map knowledge ks.items))
known_Made c ks = ap knowledge (sym (rolls-Made c ks)) ∙ fold-roll-Knowledge plain.Knowledge known_step (Knowledge-F.Made c _)

-- one more out, and one less left
pub grown : {X Y A : Type 0} (f : X → A) (g : Y → A) (out new : List X) (ys : List Y) (i : ℕ) (x : X) (y : Y)
    → new ≡ out ++ x ∷ [] → y ≡ get_or ys i y → i < length ys → f x ≡ g y
    → map f new ++ map g (drop (i + 1) ys) ≡ map f out ++ map g (drop i ys)
grown f g out new ys i x y more here lt same =
    rw (more, pushed f out x (map g (drop (i + 1) ys)), drop_here ys i y here lt, same) refl

-- nothing left
pub all_out : {Y A : Type 0} (g : Y → A) (whole out : List A) (ys : List Y) (i : ℕ) → length ys ≤ i → whole ≡ out ++ map g (drop i ys) → out ≡ whole
all_out g whole out ys i past e = let none = drop_all i ys past in sym (rw (none, append-nil) at e)

pub numbered_grown : (out new : List Candidate) (rows : List Pattern) (i : ℕ) (x : Candidate) (p : Pattern)
    → new ≡ out ++ x ∷ [] → p ≡ get_or rows i p → i < length rows → candidate x ≡ (i, pat p)
    → map candidate new ++ numbered (i + 1) (map pat (drop (i + 1) rows)) ≡ map candidate out ++ numbered i (map pat (drop i rows))
numbered_grown out new rows i x p more here lt same =
    rw (more, pushed candidate out x (numbered (i + 1) (map pat (drop (i + 1) rows))), drop_here rows i p here lt, same) refl

pub numbered_out : (whole : List Row) (out : List Candidate) (rows : List Pattern) (i : ℕ) → length rows ≤ i → map candidate out ++ numbered i (map pat (drop i rows)) ≡ whole → map candidate out ≡ whole
numbered_out whole out rows i past e = let none = drop_all i rows past in rw (none, append-nil) at e

-- a row that can still match, and one that can't
module _ (rows : List Candidate) (k : plain.Knowledge) (i : ℕ) (r : Candidate) (here : r ≡ get_or rows i r) (lt : i < length rows) where
  pub kept_grown : (out new : List Candidate) → new ≡ out ++ r ∷ [] → can_match (pat r.pattern.now) k ≡ true
      → map candidate new ++ still (map candidate (drop (i + 1) rows)) k ≡ map candidate out ++ still (map candidate (drop i rows)) k
  kept_grown out new more can =
      rw (more, pushed candidate out r (still (map candidate (drop (i + 1) rows)) k), drop_here rows i r here lt, can) refl

  pub left_out : (out : List Candidate) → can_match (pat r.pattern.now) k ≡ false
      → map candidate out ++ still (map candidate (drop (i + 1) rows)) k ≡ map candidate out ++ still (map candidate (drop i rows)) k
  left_out out can = rw (drop_here rows i r here lt, can) refl

pub still_out : (whole : List Row) (out rows : List Candidate) (k : plain.Knowledge) (i : ℕ) → length rows ≤ i → map candidate out ++ still (map candidate (drop i rows)) k ≡ whole → map candidate out ≡ whole
still_out whole out rows k i past e = let none = drop_all i rows past in rw (none, append-nil) at e

-- constructors, each with its fields
pub made_grown : (out new : List Knowledge) (cases : List (Vec Shape Global)) (i : ℕ) (fields : Vec Shape Global) (ks : Vec Knowledge Global)
    → new ≡ out ++ Made i ks ∷ [] → fields ≡ get_or cases i fields → i < length cases → map knowledge ks.items ≡ map unknown fields.items
    → map knowledge new ++ made_known (i + 1) (map (λ c. c.items) (drop (i + 1) cases)) ≡ map knowledge out ++ made_known i (map (λ c. c.items) (drop i cases))
made_grown out new cases i fields ks more here lt same =
    rw (more, pushed knowledge out (Made i ks) (made_known (i + 1) (map (λ c. c.items) (drop (i + 1) cases))), drop_here cases i fields here lt, known_Made i ks, same) refl

pub made_out : (whole out : List plain.Knowledge) (cases : List (Vec Shape Global)) (i : ℕ) → length cases ≤ i → out ++ made_known i (map (λ c. c.items) (drop i cases)) ≡ whole → out ≡ whole
made_out whole out cases i past e = let none = drop_all i cases past in rw (none, append-nil) at e

-- a pattern and what is known of its field
module _ (xs : List Pattern) (ys : List Knowledge) (i : ℕ) (x : Pattern) (y : Knowledge) (left : x ≡ get_or xs i x) (right : y ≡ get_or ys i y) (fst : i < length xs) (snd : i < length ys) where
  pub can_match_next : can_match (pat x) (knowledge y) ≡ true
      → all_can_match (pats (map pat (drop i xs))) (parts (map knowledge (drop i ys))) ≡ all_can_match (pats (map pat (drop (i + 1) xs))) (parts (map knowledge (drop (i + 1) ys)))
  can_match_next can = rw (drop_here xs i x left fst, drop_here ys i y right snd, can) refl

  pub can_match_stops : can_match (pat x) (knowledge y) ≡ false → all_can_match (pats (map pat (drop i xs))) (parts (map knowledge (drop i ys))) ≡ false
  can_match_stops can = rw (drop_here xs i x left fst, drop_here ys i y right snd, can) refl

  pub below_next : (best next : Option PendingTest) (d : ℕ) → next ≡ outermost best (option_map (below d i) (first_test (pat x) (knowledge y)))
      → first_below best d i (pats (map pat (drop i xs))) (parts (map knowledge (drop i ys))) ≡ first_below next d (i + 1) (pats (map pat (drop (i + 1) xs))) (parts (map knowledge (drop (i + 1) ys)))
  below_next best next d e = rw (drop_here xs i x left fst, drop_here ys i y right snd, e) refl

pub later_limits : (ys : List Knowledge) (i : ℕ) (y : Knowledge) → y ≡ get_or ys i y → i < length ys → AllInLimits (parts (map knowledge (drop i ys))) → AllInLimits (parts (map knowledge (drop (i + 1) ys)))
later_limits ys i y here lt h = let split = rw (drop_here ys i y here lt) at h in split.1

pub later_patterns : (xs : List Pattern) (i : ℕ) (x : Pattern) → x ≡ get_or xs i x → i < length xs → PatsInLimits (pats (map pat (drop i xs))) → PatsInLimits (pats (map pat (drop (i + 1) xs)))
later_patterns xs i x here lt h = let split = rw (drop_here xs i x here lt) at h in split.1

pub bindings_next : (out new : List (ℕ × Place)) (at place : Place) (d : ℕ) (xs : List Pattern) (i : ℕ) (x : Pattern) → x ≡ get_or xs i x → i < length xs
    → place ≡ at ++ (d, i) ∷ [] → new ≡ out ++ bindings place (pat x)
    → new ++ part_bindings at d (i + 1) (pats (map pat (drop (i + 1) xs))) ≡ out ++ part_bindings at d i (pats (map pat (drop i xs)))
bindings_next out new at place d xs i x here lt is more =
    rw (drop_here xs i x here lt, more, is) (append_assoc out (bindings (at ++ (d, i) ∷ []) (pat x)) (part_bindings at d (i + 1) (pats (map pat (drop (i + 1) xs)))))

pub bindings_out : (whole out : List (ℕ × Place)) (at : Place) (d : ℕ) (xs : List Pattern) (i : ℕ) → length xs ≤ i → out ++ part_bindings at d i (pats (map pat (drop i xs))) ≡ whole → out ≡ whole
bindings_out whole out at d xs i past e = let none = drop_all i xs past in rw (none, append-nil) at e

pub example_grown : (out new : List Pattern) (ys : List Knowledge) (i : ℕ) (x : Pattern) (y : Knowledge) → new ≡ out ++ x ∷ [] → y ≡ get_or ys i y → i < length ys → pat x ≡ example (knowledge y)
    → map pat out ≡ map example (map knowledge (take i ys)) → map pat new ≡ map example (map knowledge (take (i + 1) ys))
example_grown out new ys i x y more here lt same before =
    rw (more, map-append, take_more ys i y lt, map-append, map-append, ← here, same, before) refl

-- fields of which one is changed
module _ (out new ys : List Knowledge) (i : ℕ) (x y : Knowledge) (field : ℕ) (at : Place) (there : plain.Knowledge) (more : new ≡ out ++ x ∷ []) (here : y ≡ get_or ys i y) (lt : i < length ys) where
  pub changed_here : (i == field) ≡ true → knowledge x ≡ put (knowledge y) at there
      → map knowledge new ++ changed field at there (i + 1) (map knowledge (drop (i + 1) ys)) ≡ map knowledge out ++ changed field at there i (map knowledge (drop i ys))
  changed_here hit is = rw (more, pushed knowledge out x (changed field at there (i + 1) (map knowledge (drop (i + 1) ys))), drop_here ys i y here lt, hit, is) refl

  pub changed_elsewhere : (i == field) ≡ false → knowledge x ≡ knowledge y
      → map knowledge new ++ changed field at there (i + 1) (map knowledge (drop (i + 1) ys)) ≡ map knowledge out ++ changed field at there i (map knowledge (drop i ys))
  changed_elsewhere hit is = rw (more, pushed knowledge out x (changed field at there (i + 1) (map knowledge (drop (i + 1) ys))), drop_here ys i y here lt, hit, is) refl
