-- What the tree of the rule, and its failure, say of all values.
use Rattle.std.proofs.Common.{◌≡◌, ℕ, true, false, List, refl, sym, ◌∙◌}
use Rattle.spec_match_compiler.specs.declared.shape.Shape.{Shape}
use Rattle.spec_match_compiler.specs.Patterns.{Pattern}
use Rattle.spec_match_compiler.specs.Shapes.{Types, AreTypes, IsShape}
use Rattle.spec_match_compiler.specs.Picks.{numbered}
use Rattle.spec_match_compiler.specs.Decisions.{Decision}
use Rattle.spec_match_compiler.specs.Names.{names}
use Rattle.spec_match_compiler.specs.Knowledge.{unknown}
use Rattle.spec_match_compiler.specs.Rule.{Fails}
use Rattle.spec_match_compiler.specs.Compiled.{IsTreeOf, PicksTheFirst, IsExhaustive, IsOfUse, IsUnmatched, IsRefusal}
use Rattle.spec_match_compiler.specs.Refusals.{FailsWith}
use Rattle.spec_match_compiler.specs.Views.{pat}
use Rattle.spec_match_compiler.specs.declared.match_error.MatchError.{MatchError}
use Rattle.spec_match_compiler.specs.declared.match_error.MatchError.TheVariants.{NotExhaustive, Useless, NoMemory}
use Rattle.spec_match_compiler.proofs.Fits.{KnownAs}
use Rattle.spec_match_compiler.proofs.Soundness.{RowsSuit, sound}
use Rattle.spec_match_compiler.proofs.Failing.{failing, named_tree, picked_named}
use Rattle.spec_match_compiler.proofs.Granted.{shape_limits, types_limits, can_all_unknown}

module _ (types : Types) (all : AreTypes types) (s : Shape) (shape : IsShape types s) (rows : List Pattern) (suit : RowsSuit types s (numbered 0 rows)) where
  known : KnownAs types s (unknown s)
  known = (refl, shape_limits types s shape)

  pub picks_first : (t : Decision) → IsTreeOf types s rows t → PicksTheFirst types s rows t
  picks_first t is v has =
      let a = sound types (types_limits types all) s t (numbered 0 rows) (unknown s) v is suit known (can_all_unknown (numbered 0 rows) s) has in
      a.1 ∙ sym a.2

  pub exhaustive : (t : Decision) → IsTreeOf types s rows t → IsExhaustive types s rows
  exhaustive t is v has =
      let a = sound types (types_limits types all) s t (numbered 0 rows) (unknown s) v is suit known (can_all_unknown (numbered 0 rows) s) has in
      (a.0, a.2)

  pub of_use : (t : Decision) (r : ℕ) → IsTreeOf types s rows t → names t r ≡ true → IsOfUse types s rows r
  of_use t r is named =
      named_tree types all (types_limits types all) s shape t r (numbered 0 rows) (unknown s) named is suit known (can_all_unknown (numbered 0 rows) s)

  pub no_use : (t : Decision) (r : ℕ) → IsTreeOf types s rows t → names t r ≡ false → ¬ IsOfUse types s rows r
  no_use t r is unnamed use' =
      let named = picked_named t use'.0 (r, use'.1) (picks_first t is use'.0 use'.2 ∙ use'.3) in
      let clash : true ≡ false = sym named ∙ unnamed in cc

  pub unmatched : (p : Pattern) → Fails types (numbered 0 rows) (unknown s) p → IsUnmatched types s rows p
  unmatched p fails =
      let u = failing types all (types_limits types all) s shape (numbered 0 rows) (unknown s) p fails suit known (can_all_unknown (numbered 0 rows) s) in
      (u.some, λ v has m. (u.none v has m).1)

  pub refused : (e : MatchError) → FailsWith types (numbered 0 rows) (unknown s) e → IsRefusal types s rows e
  refused (NotExhaustive p) fails = (fails, unmatched (pat p) fails)
  refused (Useless r) fails = absurd fails
  refused NoMemory fails = fails
