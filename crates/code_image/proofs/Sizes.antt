-- How many bytes and words segments have.
use Rattle.std.proofs.Common.{◌≡◌, ℕ, zero, suc, ◌+◌, ◌-◌, ◌*◌, ◌<◌, ◌≤◌, Some, List, [], ◌∷◌, length, map, get_or, refl, ap, ◌∙◌, arith}
use Rattle.std.specs.Prelude.{slice_get, option_map}
use Rattle.std.proofs.lemmas.Option.{slice_get-map, slice_get_read}
use Rattle.std.proofs.lemmas.List.{length-map}
use Rattle.code_image.specs.declared.segment.Segment.{Segment as Coded}
use Rattle.code_image.specs.Image.{Segment, addresses_from}
use Rattle.code_image.specs.Faults.{bytes_sum}
use Rattle.code_image.specs.Views.{segment_of}

-- what is asked of a segment by its place
pub asked_at : (f : Segment → ℕ) (segments : List Coded) (i : ℕ) (x : Coded) → x ≡ get_or segments i x → i < length segments → slice_get (map f (map segment_of segments)) i ≡ Some (f (segment_of x))
asked_at f segments i x e h =
    slice_get-map f (map segment_of segments) i ∙ ap (option_map f) (slice_get-map segment_of segments i) ∙ ap (λ o. option_map f (option_map segment_of o)) (slice_get_read segments (length segments) i x refl h e)

pub within : (segments : List Coded) (shown : List Segment) (i : ℕ) → map segment_of segments ≡ shown → i < length shown → i < length segments
within segments shown i e h = omega (arith, ap length e, length-map segments segment_of, h)

-- a segment has no more bytes than all of them
pub bytes_at : (segments : List Coded) (i : ℕ) (x : Coded) → x ≡ get_or segments i x → i < length segments → length x.bytes.items ≤ bytes_sum (map segment_of segments)
bytes_at [] i x e h = absurd (omega (arith, h))
bytes_at (y ∷ segments) zero x e h = omega (arith, ap (λ s. length s.bytes.items) e)
bytes_at (y ∷ segments) (suc i) x e h = omega (arith, bytes_at segments i x e (omega (arith, h)))

pub addresses_step : (a i n : ℕ) → i < n → addresses_from (a + 4 * i) (n - i) ≡ (a + 4 * i) ∷ addresses_from (a + 4 * (i + 1)) (n - (i + 1))
addresses_step a i n h =
    let count : n - i ≡ suc (n - (i + 1)) = omega (arith, h) in
    let place : a + 4 * i + 4 ≡ a + 4 * (i + 1) = omega arith in
    ap (addresses_from (a + 4 * i)) count ∙ ap (λ b. (a + 4 * i) ∷ addresses_from b (n - (i + 1))) place
