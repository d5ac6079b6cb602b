-- The laws of numbers as bytes, over any width, and std's bytes at the widths that the code has.
use Rattle.std.proofs.Common.{◌≡◌, ℕ, zero, suc, ◌*◌, ◌/◌, ◌^◌, ◌<◌, pow-suc, arith}
use native.Mathlib.Nat.{div-div-eq-div-mul, mod-add-div}
use Rattle.std.specs.Int.{w32, w64, to_le_bytes}
use Rattle.std.proofs.lemmas.Nat.{div_below}
use Rattle.sector.specs.Bytes.{le, from_le}

pub of_le : (w n : ℕ) → n < 256 ^ w → from_le (le w n) ≡ n
unfolding le from_le
of_le zero n h = omega arith
of_le (suc w) n h =
    let e : 256 ^ suc w ≡ 256 ^ w * 256 = pow-suc 256 w in
    rw (of_le w (n / 256) (div_below n 256 (256 ^ w) (omega arith) (omega arith))) (mod-add-div n 256)

pub le_four : (n : ℕ) → to_le_bytes w32 n ≡ le 4 n
unfolding le
le_four n = simp div-div-eq-div-mul

pub le_eight : (n : ℕ) → to_le_bytes w64 n ≡ le 8 n
unfolding le
le_eight n = simp div-div-eq-div-mul
