-- A map with a word put at keys.
use Rattle.std.proofs.Common.{◌≡◌, ℕ, true, cond, Option, Some, None, ap, sym, ◌∙◌}
use Rattle.base_trait.specs.Algebra.{Algebra}
use Rattle.abstract_map_laws.specs.Calls.{update_of}
use Rattle.abstract_map_laws.specs.Keys.{Keys}
use Rattle.abstract_map_laws.specs.Maps.{Map}
use Rattle.abstract_value_laws.specs.Abs as value
use Rattle.abstract_semantics.specs.Keys.{is_keyed}
use Rattle.abstract_semantics.specs.Steps.{put_at, put_of}

module _ {W N C : Type 0} (B : Algebra W N C) (c : C) (cap a m : ℕ) (x : Map W N) (v : W) where
  pub put_is : (ks : Keys) (o : Option Keys) (r : Map W N) → o ≡ Some ks → is_keyed ks ≡ true → r ≡ update_of B c cap x ks (put_at B c a v) → Some (value.map m r) ≡ put_of B c cap a m x v o
  put_is ks o r e k h =
      ap (λ z. Some (value.map m z)) h ∙ sym (ap (λ b. cond b (Some (value.map m (update_of B c cap x ks (put_at B c a v)))) None) k) ∙ sym (ap (put_of B c cap a m x v) e)
