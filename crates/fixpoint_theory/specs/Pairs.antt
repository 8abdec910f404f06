-- Elements of two kinds side by side: each call acts on both parts.
use Rattle.std.specs.Prelude.{◌+◌, ◌&&◌, ◌++◌}
use Rattle.fixpoint_theory.specs.Elements.{Elements}

module _ {E F S : Type 0} (A : Elements E S) (B : Elements F S) where
  abbrev pub paired : Elements (E × F) S
  paired = record {
    holds = λ x s. A.holds x.0 s × B.holds x.1 s;
    fits = λ x. A.fits x.0 × B.fits x.1;
    same = λ x y. A.same x.0 y.0 × B.same x.1 y.1;
    join = λ x y. (A.join x.0 y.0, B.join x.1 y.1);
    widen = λ old new. (A.widen old.0 new.0, B.widen old.1 new.1);
    absorbs = λ old new. A.absorbs old.0 new.0 && B.absorbs old.1 new.1;
    listed = λ x. A.listed x.0 ++ B.listed x.1;
    rank = λ stamps x. A.rank stamps x.0 + B.rank stamps x.1;
    height = λ n. A.height n + B.height n;
  }
