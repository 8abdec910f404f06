-- What the premises of a match give.
use Rattle.std.proofs.Common.{◌≡◌, ℕ, suc, ◌+◌, true, List, [], ◌∷◌, length, map, refl, sym, ap, ◌∙◌, All}
use Rattle.std.proofs.lemmas.List.Elements.{All-head, All-tail}
use Rattle.spec_match_compiler.specs.declared.shape.Shape.{Shape}
use Rattle.spec_match_compiler.specs.declared.shape.Shape.TheVariants.{Bool as Flag, Word, Data, Opaque}
use Rattle.spec_match_compiler.specs.declared.pattern.Pattern.{Pattern}
use Rattle.spec_match_compiler.specs.Patterns as plain
use Rattle.spec_match_compiler.specs.Patterns.{any, bind, flag_is, word_is, case_is, no_pat, pat_then, pats_len}
use Rattle.spec_match_compiler.specs.Shapes.{Types, Suits, AllSuit, AreTypes, IsShape, AreShapes}
use Rattle.spec_match_compiler.specs.Picks.{Row, numbered}
use Rattle.spec_match_compiler.specs.Knowledge as plain_knowledge
use Rattle.spec_match_compiler.specs.Knowledge.{unknown}
use Rattle.spec_match_compiler.specs.Rule.{can_match}
use Rattle.spec_match_compiler.specs.declared.knowledge.Knowledge.{Unknown, fold-roll-Knowledge}
use Rattle.spec_match_compiler.specs.declared.knowledge.Knowledge.TheOpen.{Knowledge-F}
use Rattle.spec_match_compiler.specs.declared.knowledge.Knowledge.TheVariants.{rolls-Unknown}
use Rattle.spec_match_compiler.specs.Views.{pat, knowledge, known_step}
use Rattle.spec_match_compiler.specs.Limits.{ShapeInLimits, ShapesInLimits, TypesInLimits, PatInLimits, PatsInLimits, RowsInLimits, CanAll}
use Rattle.spec_match_compiler.proofs.Soundness.{RowsSuit}

module _ (types : Types) where
  pub shape_limits : (s : Shape) → IsShape types s → ShapeInLimits s
  shape_limits Flag h = tt
  shape_limits (Word w) h = h
  shape_limits (Data t) h = tt
  shape_limits Opaque h = tt

  shapes_limits : (shapes : List Shape) → AreShapes types shapes → ShapesInLimits shapes
  shapes_limits [] h = tt
  shapes_limits (s ∷ shapes) h = (shape_limits s h.0, shapes_limits shapes h.1)

  pub types_limits : AreTypes types → TypesInLimits types
  types_limits all = record { cases = all.cases; fields = all.fields; shapes = λ t c shapes e. shapes_limits shapes (all.shapes t c shapes e) }

  suit_len : (shapes : List Shape) (ps : plain.Patterns) → AllSuit types shapes ps → pats_len ps ≡ length shapes
  suit_len [] no_pat h = refl
  suit_len (s ∷ shapes) (pat_then p ps) h = ap suc (suit_len shapes ps h.1)
  suit_len [] (pat_then p ps) h = absurd h
  suit_len (s ∷ shapes) no_pat h = absurd h

  mutual
    pub suit_limits : AreTypes types → (s : Shape) (p : plain.Pattern) → Suits types s p → PatInLimits p
    suit_limits all (Data t) (case_is c ps) h = (rw (suit_len h.0 ps h.2) (all.fields t c h.0 h.1), suits_limits all h.0 ps h.2)
    suit_limits all Flag (case_is c ps) h = absurd h
    suit_limits all (Word w) (case_is c ps) h = absurd h
    suit_limits all Opaque (case_is c ps) h = absurd h
    suit_limits all s any h = tt
    suit_limits all s (bind n) h = tt
    suit_limits all s (flag_is b) h = tt
    suit_limits all s (word_is n) h = tt

    suits_limits : AreTypes types → (shapes : List Shape) (ps : plain.Patterns) → AllSuit types shapes ps → PatsInLimits ps
    suits_limits all [] no_pat h = tt
    suits_limits all (s ∷ shapes) (pat_then p ps) h = (suit_limits all s p h.0, suits_limits all shapes ps h.1)
    suits_limits all [] (pat_then p ps) h = absurd h
    suits_limits all (s ∷ shapes) no_pat h = absurd h

  pub rows_suit : (s : Shape) (n : ℕ) (rows : List Pattern) → All (λ p. Suits types s (pat p)) rows → RowsSuit types s (numbered n (map pat rows))
  rows_suit s n [] h = tt
  rows_suit s n (p ∷ rows) h = (All-head (λ p. Suits types s (pat p)) p rows h, rows_suit s (n + 1) rows (All-tail (λ p. Suits types s (pat p)) p rows h))

  pub rows_limits : AreTypes types → (s : Shape) (rows : List Row) → RowsSuit types s rows → RowsInLimits rows
  rows_limits all s [] h = tt
  rows_limits all s (r ∷ rows) h = (suit_limits all s r.1 h.0, rows_limits all s rows h.1)

can_unknown : (p : plain.Pattern) (s : Shape) → can_match p (unknown s) ≡ true
can_unknown any s = refl
can_unknown (bind n) s = refl
can_unknown (flag_is b) s = refl
can_unknown (word_is n) s = refl
can_unknown (case_is c ps) s = refl

pub can_all_unknown : (rows : List Row) (s : Shape) → CanAll rows (unknown s)
can_all_unknown [] s = tt
can_all_unknown (r ∷ rows) s = (can_unknown r.1 s, can_all_unknown rows s)

pub known_Unknown : (s : Shape) → knowledge (Unknown s) ≡ unknown s
known_Unknown s = ap knowledge (sym (rolls-Unknown s)) ∙ fold-roll-Knowledge plain_knowledge.Knowledge known_step (Knowledge-F.Unknown s)
