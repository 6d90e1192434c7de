-- The rotation term is at most 1.735537190, since 01's K is the sine of at most 60 degrees.
-- Assumes nothing.
use mathlib.Core.Path.{◌≡◌, refl}
use Prim.Native.Nat.{ℕ, ◌+◌, ◌-◌, ◌*◌, ◌/◌, ◌%◌, ◌≤◌, ◌<◌}
use native.Mathlib.Nat.{le_trans, le_of_eq, mul-le-mul, mul-le-mul_left, mul-le-mul_right, min-le_right}
use native.Mathlib.Decide.{dec_le}
use native.Mathlib.Omega.{arith}
use lib.Dec.{lit<}
use borrow.Author.Tests.{lt-ltb, le-leb}
use lib.IntN.{nat_abs}
use Rattle.sine.specs.Sine.{unit, pi, alternating, series, sine_entry, interpolated, sine_quarter, sine_half, sine_turn, sine_of}
use Rattle.sine.proofs.SineLaws.{sine_entry-rises, sine_entry-le}
use Rattle.gaussian.specs.Gaussian.{gaussian_of}
use Rattle.gaussian.proofs.GaussianLaws.{gaussian-le}
use Rattle.weighting.specs.Weighting.{hue_distance, rotation_sine, rotation}

-- ---- the sine of at most 60 degrees

entry-599 : sine_entry 599 ≡ 865151421
unfolding unit pi alternating series sine_entry
entry-599 = refl

entry-600 : sine_entry 600 ≡ 866025404
unfolding unit pi alternating series sine_entry
entry-600 = refl

-- an entry and the arc past it
interpolated-le : (sin cos t : ℕ) → cos ≤ 1000000000 → interpolated sin cos t ≤ sin + t
unfolding interpolated
interpolated-le sin cos t h =
    le_trans (min-le_right 1000000000 _) (omega (arith, mul-le-mul_right t h, mul-le-mul_left sin (within (t * t / 2000000000))))
  where
    within : (n : ℕ) → 1000000000 - n ≤ 1000000000
    within n = omega arith

quarter-le : (angle : ℕ) → angle ≤ 60000000 → sine_quarter angle ≤ 867768595
unfolding sine_quarter
quarter-le angle h = by-tenth (dec_le 60000000 angle)
  where
    most : interpolated (sine_entry (angle / 100000)) (sine_entry (900 - angle / 100000)) (angle % 100000 * 17453293 / 1000000)
        ≤ sine_entry (angle / 100000) + angle % 100000 * 17453293 / 1000000
    most = interpolated-le _ _ _ (sine_entry-le (900 - angle / 100000) (omega arith))

    by-tenth : Dec (60000000 ≤ angle)
        → interpolated (sine_entry (angle / 100000)) (sine_entry (900 - angle / 100000)) (angle % 100000 * 17453293 / 1000000) ≤ 867768595
    by-tenth (yes g) =
        let r : angle % 100000 ≤ 0 = omega arith in
        omega (arith, most, entry-600, sine_entry-rises (angle / 100000) 600 (omega arith) (lit< tt))
    by-tenth (no f) =
        let r : angle % 100000 ≤ 99999 = omega arith in
        let l : angle / 100000 ≤ 599 = omega (arith, f) in
        omega (arith, most, entry-599, sine_entry-rises (angle / 100000) 599 l (lit< tt))

sixty : (angle : ℕ) → angle ≤ 60000000 → nat_abs (sine_of angle) ≡ sine_quarter angle
unfolding sine_of sine_turn sine_half
sixty angle h =
    let m : angle % 360000000 ≡ angle = omega arith in
    let t : angle < 180000000 = omega arith in
    let q : angle ≤ 90000000 = omega arith in
    rw (m, lt-ltb angle 180000000 t, le-leb angle 90000000 q)

pub rotation_sine-le : (e : ℕ) → e ≤ 1000000000 → rotation_sine e ≤ 867768595
unfolding rotation_sine
rotation_sine-le e h =
    let a : 6 * e / 100 ≤ 60000000 = omega arith in
    le_trans (le_of_eq (sixty (6 * e / 100) a)) (quarter-le (6 * e / 100) a)

-- R is at most 1,735,537,190
pub rotation-below : (z h : ℕ) → z ≤ 1000000000 → rotation z h ≤ 1735537190
unfolding rotation
rotation-below z h k =
    let twice : 2 * z ≤ 2000000000 = omega arith in
    omega (arith, mul-le-mul twice (rotation_sine-le (gaussian_of (hue_distance h)) (gaussian-le (hue_distance h))))
