-- The bases of domains join.
use Rattle.std.specs.Prelude.{Bool, ◌&&◌, not, IsTrue}
use Rattle.base_trait.specs.Algebra.{Algebra}
use Rattle.base_trait.proofs.Tests.{and_both, and_parts}
use Rattle.domain_product_laws.specs.Domain.{may_pair}

pub cells_join : {W N C : Type 0} (B : Algebra W N C) → IsTrue (B.joins && not B.words.looks) → IsTrue B.joins
cells_join B h = (and_parts B.joins (not B.words.looks) h).0

pub pairs_join : {V W M N C D : Type 0} (p q : Bool) (A : Algebra V M C) (B : Algebra W N D) → IsTrue (p && (q && may_pair A B)) → IsTrue (A.joins && B.joins)
pairs_join p q A B h =
    let may = (and_parts q (may_pair A B) (and_parts p (q && may_pair A B) h).1).1 in
    let rest = and_parts A.joins (B.joins && not (A.words.looks && B.words.looks)) may in
    and_both A.joins B.joins rest.0 (and_parts B.joins (not (A.words.looks && B.words.looks)) rest.1).0
