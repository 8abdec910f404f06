-- Lists that have only grown.
use Rattle.std.proofs.Common.{◌≡◌, ◌++◌, List, [], ◌∷◌, length, take, refl}
use Rattle.std.proofs.Math.Seq.{take-append_seam, take-length}
use Rattle.base_trait.specs.Lists.{IsGrown}

module _ {A : Type 0} where
  pub grown_itself : (l : List A) → IsGrown l l
  grown_itself l = take-length l

  pub grown_more : (l more m : List A) → m ≡ l ++ more → IsGrown l m
  grown_more l more m e = rw e (take-append_seam l more)

  pub grown_same : (l m : List A) → m ≡ l → IsGrown l m
  grown_same l m e = rw e (take-length l)

  pub grown_on : (l m n : List A) → IsGrown l m → IsGrown m n → IsGrown l n
  grown_on [] m n h k = refl
  grown_on (x ∷ l) [] n h k = cc
  grown_on (x ∷ l) (y ∷ m) [] h k = cc
  grown_on (x ∷ l) (y ∷ m) (z ∷ n) h k =
      let first : take (length l) m ≡ l = cc in
      let later : take (length m) n ≡ m = cc in
      let rest : take (length l) n ≡ l = grown_on l m n first later in
      cc
