-- Calls of other groups go down by a rank.
use Rattle.std.proofs.Common.{◌≡◌, ◌⊎◌, ℕ, suc, ◌<◌, ◌≤◌, Bool, true, false, cond, ltb, List, length, refl, sym, ap, ◌∙◌, inl, inr, arith}
use Rattle.std.proofs.lemmas.Bool.{cases_lt, false≢true}
use Rattle.std.proofs.lemmas.Bool.Decides.{nat_tests}
use Rattle.support_reachability.specs.Graph.{SameGroup, edge}
use Rattle.support_reachability.specs.Table.{IsTableOf, same_group, rank}
use Rattle.support_reachability.proofs.Searching.{leads}
use Rattle.support_reachability.proofs.Ranks.{ranks_fall}
use Rattle.spec_ir.specs.Terms.{Term}
use Rattle.spec_calls.specs.Calls.{call_graph}
use Rattle.spec_calls.specs.Groups.{InOneGroup, CallsTo, IsRanked}
use Rattle.spec_calls.specs.Laws.{CallsHaveRanks}
use Rattle.support_reachability.proofs.Tables.{some_table}
use Rattle.spec_calls.proofs.Told.{told_from, told_to}

module _ (bodies : List Term) (t : List (List Bool)) (table : IsTableOf (call_graph bodies) t) where
  -- functions that aren't there rank lowest
  abbrev level : ℕ → ℕ
  level f = cond (ltb f (length (call_graph bodies))) (suc (rank t f)) 0

  level_in : (f : ℕ) → f < length (call_graph bodies) → level f ≡ suc (rank t f)
  level_in f l = let e : ltb f (length (call_graph bodies)) ≡ true = grind (arith, nat_tests) in rw e refl

  level_out : (f : ℕ) → length (call_graph bodies) ≤ f → level f ≡ 0
  level_out f l = let e : ltb f (length (call_graph bodies)) ≡ false = grind (arith, nat_tests) in rw e refl

  apart : (f g : ℕ) → f < length (call_graph bodies) → same_group t f g ≡ false → ¬ SameGroup (call_graph bodies) f g
  apart f g lf h s = false≢true (sym h ∙ told_to (call_graph bodies) t table f g lf s)

  lower : (f g : ℕ) → f < length (call_graph bodies) → CallsTo bodies f g → same_group t f g ≡ false → level g < level f
  lower f g lf e h = elim (cases_lt g (length (call_graph bodies))) [
    | inl lg ↦
        let less = (ranks_fall (call_graph bodies) t table).falls f g lf lg (edge e) (apart f g lf h) in
        rw (level_in f lf, level_in g lg) (omega (arith, less))
    | inr lg ↦ rw (level_in f lf, level_out g lg) (omega arith)
  ]

  falls : (f g : ℕ) → CallsTo bodies f g → InOneGroup bodies f g ⊎ (level g < level f)
  falls f g e = at (same_group t f g) refl
    where
      lf : f < length (call_graph bodies)
      lf = leads (call_graph bodies) f g (edge e)

      at : (b : Bool) → same_group t f g ≡ b → InOneGroup bodies f g ⊎ (level g < level f)
      at true h = inl (told_from (call_graph bodies) t table f g lf h)
      at false h = inr (lower f g lf e h)

  stays : (f g : ℕ) → InOneGroup bodies f g → level f ≡ level g
  stays f g (inl e) = ap level e
  stays f g (inr p) =
      let lf = leads (call_graph bodies) f g p.0 in
      let lg = leads (call_graph bodies) g f p.1 in
      rw (level_in f lf, level_in g lg) (ap suc ((ranks_fall (call_graph bodies) t table).stays f g lf lg (inr p)))

  pub are_ranked : (rank : ℕ → ℕ) × IsRanked bodies rank
  are_ranked = (level, record { falls = falls; stays = stays })

pub calls_have_ranks : CallsHaveRanks
calls_have_ranks bodies = let some = some_table (call_graph bodies) in are_ranked bodies some.0 some.1
