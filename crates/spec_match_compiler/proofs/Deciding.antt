-- One step of the compilation.
use Rattle.std.proofs.Common.{◌≡◌, ℕ, ◌+◌, ◌<◌, None, List, [], ◌∷◌, ◌++◌, length, get_or, map, take, drop, slice_get, Vec, Global, refl, sym, ap, ◌∙◌}
use Rattle.std.proofs.lemmas.List.{take-append-drop, drop-map, take_more, map-append}
use Rattle.std.specs.List.{take-map}
use Rattle.spec_match_compiler.specs.declared.knowledge.Knowledge.{Knowledge}
use Rattle.spec_match_compiler.specs.declared.candidate.Candidate.{Candidate}
use Rattle.spec_match_compiler.specs.declared.match_error.MatchError.{MatchError}
use Rattle.spec_match_compiler.specs.declared.step.Question.{Question}
use Rattle.spec_match_compiler.specs.declared.step.RowStep.TheVariants.{Asked}
use Rattle.spec_match_compiler.specs.Values.{Place}
use Rattle.spec_match_compiler.specs.Shapes.{Types}
use Rattle.spec_match_compiler.specs.Picks.{Row}
use Rattle.spec_match_compiler.specs.Decisions.{Decision, no_tree, tree_then, on_word}
use Rattle.spec_match_compiler.specs.Knowledge as plain
use Rattle.spec_match_compiler.specs.Knowledge.{word_known, others, put}
use Rattle.spec_match_compiler.specs.Rule.{Test, word_test, still, outcomes, IsTree}
use Rattle.spec_match_compiler.specs.Steps.{AsksFirst, AsksWord, MayShow, IsStep}
use Rattle.spec_match_compiler.specs.Refusals.{FailsWith}
use Rattle.spec_match_compiler.specs.Limits.{InLimits, RowsInLimits, TypesInLimits, CanAll}
use Rattle.spec_match_compiler.specs.Views.{tree, knowledge, candidate}
use Rattle.spec_match_compiler.proofs.Loops.{drop_here}
use Rattle.spec_match_compiler.proofs.Opens.{first_opens}
use Rattle.spec_match_compiler.proofs.Weight.{total, falls}
use Rattle.spec_match_compiler.proofs.Kept.{put_limits, test_limits, shows_limits, shown, still_limits, still_can}
use Rattle.spec_match_compiler.proofs.Nodes.{tree_of_word, fails_after}

pub split_known : (xs : List Knowledge) (i : ℕ) (x : Knowledge) → x ≡ get_or xs i x → i < length xs
    → map knowledge xs ≡ take i (map knowledge xs) ++ knowledge x ∷ map knowledge (drop (i + 1) xs)
split_known xs i x e h =
    sym (take-append-drop i (map knowledge xs)) ∙ ap (λ ys. take i (map knowledge xs) ++ ys) (drop-map knowledge i xs ∙ ap (map knowledge) (drop_here xs i x e h))

pub step_falls : (types : Types) (rows : List Row) (k o : plain.Knowledge) (at : Place) (test : Test) (earlier later : List plain.Knowledge)
    → AsksFirst rows k at test → CanAll rows k → outcomes types test ≡ earlier ++ o ∷ later
    → total (still rows (put k at o)) (put k at o) < total rows k
step_falls types [] k o at test earlier later asks can split = absurd asks
step_falls types (first ∷ rest) k o at test earlier later asks can split =
    falls types first rest k o at test (first_opens first.1 k (at, test) asks) can.0 (shown types test earlier later o split)

pub step_limits : (types : Types) (rows : List Row) (k o : plain.Knowledge) (at : Place) (test : Test) (earlier later : List plain.Knowledge)
    → AsksFirst rows k at test → TypesInLimits types → InLimits k → outcomes types test ≡ earlier ++ o ∷ later → InLimits (put k at o)
step_limits types [] k o at test earlier later asks all h split = absurd asks
step_limits types (first ∷ rest) k o at test earlier later asks all h split =
    let opens = first_opens first.1 k (at, test) asks in
    put_limits k o at h (shows_limits types test o all (test_limits first.1 k at test opens h) (shown types test earlier later o split))

pub no_rows : (xs : List Candidate) → None ≡ slice_get xs 0 → map candidate xs ≡ []
no_rows [] e = refl
no_rows (y ∷ ys) e = absurd (cc)

pub take_known : (xs : List Knowledge) (i : ℕ) (x : Knowledge) → x ≡ get_or xs i x → i < length xs → take (i + 1) (map knowledge xs) ≡ take i (map knowledge xs) ++ knowledge x ∷ []
take_known xs i x e h = rw (take-map knowledge (i + 1) xs, take-map knowledge i xs, take_more xs i x h, map-append, ← e) refl

-- where the answer to a question is no
module _ (types : Types) (rows : List Row) (k : plain.Knowledge) (q : Question) (left : Vec Candidate Global) (known : Knowledge) (step : IsStep types rows k (Asked q left known)) where
  abbrev no : plain.Knowledge
  no = others step.0 (step.1 ++ q.value ∷ [])

  abbrev asked : Test
  asked = word_test step.0 step.1 q.value

  pub no_falls : CanAll rows k → total (map candidate left.items) (knowledge known) < total rows k
  no_falls can = rw (step.5, step.4) (step_falls types rows k no q.at.steps.items asked (word_known q.value ∷ []) [] step.2 can refl)

  pub no_limits : TypesInLimits types → InLimits k → InLimits (knowledge known)
  no_limits all h = rw step.4 (step_limits types rows k no q.at.steps.items asked (word_known q.value ∷ []) [] step.2 all h refl)

  pub no_rows_limits : RowsInLimits rows → RowsInLimits (map candidate left.items)
  no_rows_limits h = rw step.5 (still_limits rows (knowledge known) h)

  pub no_can : CanAll (map candidate left.items) (knowledge known)
  no_can = rw step.5 (still_can rows (knowledge known))

  pub no_tree_is : (t : Decision) → IsTree types (map candidate left.items) (knowledge known) t → IsTree types rows k (on_word q.at.steps.items q.value (tree q.yes) t)
  no_tree_is t h = tree_of_word types rows k q.at.steps.items step.0 q.value step.1 (tree q.yes) t step.2 step.3 (rw step.4 at (rw step.5 at h))

  pub no_fails : (e : MatchError) → FailsWith types (map candidate left.items) (knowledge known) e → FailsWith types rows k e
  no_fails e h =
      fails_after types rows k no q.at.steps.items asked (word_known q.value ∷ []) [] (tree_then (tree q.yes) no_tree) e step.2 refl (step.3, tt) (rw step.4 at (rw step.5 at h))

-- the two answers of a question
pub first_is : (a b : plain.Knowledge) (outs : List Knowledge) (x : Knowledge) → map knowledge outs ≡ a ∷ (b ∷ []) → x ≡ get_or outs 0 x → knowledge x ≡ a
first_is a b [] x shown e = absurd (cc)
first_is a b (y ∷ ys) x shown e = let same : x ≡ y = e in rw same (cc)

pub second_is : (a b : plain.Knowledge) (outs : List Knowledge) (x : Knowledge) → map knowledge outs ≡ a ∷ (b ∷ []) → x ≡ get_or outs 1 x → knowledge x ≡ b
second_is a b [] x shown e = absurd (cc)
second_is a b (y ∷ []) x shown e = absurd (cc)
second_is a b (y ∷ (z ∷ zs)) x shown e = let same : x ≡ z = e in rw same (cc)

module _ (types : Types) (rows : List Row) (k : plain.Knowledge) (at : Place) (n : ℕ) (outs : List Knowledge) (asks : AsksWord types rows k at n (map knowledge outs)) (x : Knowledge) (e : x ≡ get_or outs 0 x) where
  abbrev later : List plain.Knowledge
  later = others asks.0 (asks.1 ++ n ∷ []) ∷ []

  split : outcomes types (word_test asks.0 asks.1 n) ≡ [] ++ knowledge x ∷ later
  split = ap (λ z. z ∷ later) (sym (first_is _ _ outs x asks.3 e))

  pub yes_shown : MayShow types rows k at (knowledge x)
  yes_shown = (word_test asks.0 asks.1 n, [], later, asks.2, split)

  pub yes_fails : (err : MatchError) → FailsWith types (still rows (put k at (knowledge x))) (put k at (knowledge x)) err → FailsWith types rows k err
  yes_fails err h = fails_after types rows k (knowledge x) at (word_test asks.0 asks.1 n) [] later no_tree err asks.2 split tt h
