-- Logs that grow.
use Rattle.std.proofs.Common.{◌≡◌, ℕ, List, [], ◌∷◌, take, length, ◌⊎◌, inl, inr, sym, subst}
use Rattle.base_trait.specs.Uses.{Seen, Read, Covers, AreCovering, GrownLogsCover}

pub grown_cover : GrownLogsCover
grown_cover [] new r h k = absurd k
grown_cover (u ∷ us) [] r h k = cc
grown_cover (u ∷ us) (v ∷ vs) r h k = sorted k (λ l. grown_cover us vs r rest l)
  where
    first : v ≡ u
    first = cc

    rest : take (length us) vs ≡ us
    rest = cc

    sorted : Covers u r ⊎ AreCovering us r → (AreCovering us r → AreCovering vs r) → Covers v r ⊎ AreCovering vs r
    sorted (inl c) f = inl (subst (λ z. Covers z r) (sym first) c)
    sorted (inr c) f = inr (f c)
