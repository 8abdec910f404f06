-- Pairs are written and read back.
use Rattle.std.proofs.Common.{◌≡◌, ℕ, Bool, List, ◌++◌, Some, codes, refl, sym, subst, ◌∙◌, ap, append_assoc}
use Rattle.spec_ir.specs.Specification.{Spec}
use Rattle.fixpoint_theory.specs.Elements.{Elements}
use Rattle.text_lines.specs.Lines.{Lines, lines}
use Rattle.text_elements.specs.Parts.{ElementText, PairText}
use Rattle.text_element_readers.specs.Reading.{ElementReading, PairRead, both}
use Rattle.text_round_trips.specs.Laws.{BeginWithPart, PairsRoundTrip}
use Rattle.text_round_trips.specs.RoundTrips.{AreInFront, IsBehindElement, RoundTrips}
use Rattle.text_round_trips.proofs.Begin.{behind_more, part_behind}
use Rattle.text_round_trips.proofs.Fronts.{both_in_front}

module _ {E F S : Type 0} (First : ElementReading E) (Second : ElementReading F) (FirstText : ElementText E) (SecondText : ElementText F) (A : Elements E S) (B : Elements F S)
    (J : (ℕ → Bool) → E → Type 0) (K : (ℕ → Bool) → F → Type 0) (spec : Spec) (begin : BeginWithPart SecondText spec)
    (first : RoundTrips First FirstText A J spec) (second : RoundTrips Second SecondText B K spec) where
  pair_told : (code : ℕ → Bool) (ls rest : Lines) (p : E × F) → PairRead First Second spec code ls (Some p) rest → AreInFront (PairText FirstText SecondText spec p) ls rest
  pair_told code ls rest p (both {mid = mid} x y h m) =
      both_in_front (FirstText spec x) (SecondText spec y) (PairText FirstText SecondText spec (x, y)) ls mid rest (λ a b f s. record { left = a; right = b; first = f; second = s; both = refl })
      (first.told code ls mid x h) (second.told code mid rest y m)

  pair_printable : (code : ℕ → Bool) (ls rest : Lines) (p : E × F) → PairRead First Second spec code ls (Some p) rest → J code p.0 × K code p.1
  pair_printable code ls rest p (both {mid = mid} x y h m) = (first.printable code ls mid x h, second.printable code mid rest y m)

  pair_back : (code : ℕ → Bool) (p : E × F) (text more : List ℕ) → A.fits p.0 × B.fits p.1 → J code p.0 × K code p.1 → PairText FirstText SecondText spec p text → IsBehindElement more
      → PairRead First Second spec code (lines (text ++ more)) (Some p) (lines more)
  pair_back code p text more fits fair is behind =
      let next : IsBehindElement (is.right ++ more) = part_behind (is.right ++ more) (behind_more (codes "part ") is.right more (begin p.1 is.right is.second)) in
      let whole : is.left ++ (is.right ++ more) ≡ text ++ more = sym (append_assoc is.left is.right more) ∙ ap (λ (t : List ℕ). t ++ more) (sym is.both) in
      subst (λ (t : List ℕ). PairRead First Second spec code (lines t) (Some p) (lines more)) whole
      (both p.0 p.1 (first.back code p.0 is.left (is.right ++ more) fits.0 fair.0 is.first next) (second.back code p.1 is.right more fits.1 fair.1 is.second behind))

pub pairs_round_trip : {E F S : Type 0} (First : ElementReading E) (Second : ElementReading F) (FirstText : ElementText E) (SecondText : ElementText F) (A : Elements E S) (B : Elements F S)
    (J : (ℕ → Bool) → E → Type 0) (K : (ℕ → Bool) → F → Type 0) → PairsRoundTrip First Second FirstText SecondText A B J K
pairs_round_trip First Second FirstText SecondText A B J K spec begin first second = record {
  told = pair_told First Second FirstText SecondText A B J K spec begin first second;
  printable = pair_printable First Second FirstText SecondText A B J K spec begin first second;
  back = pair_back First Second FirstText SecondText A B J K spec begin first second;
}
