-- Flags and their two bits.
use Prim.Native.Nat.{ℕ, zero, suc, ◌≤◌, ◌<◌}
use mathlib.Core.Path.{◌≡◌, refl}
use native.Mathlib.Omega.{arith}
use Rattle.format.specs.declared.Flag.{Flag}
use Rattle.format.specs.declared.Flag.TheVariants.{Middle, Start, End, Single}
use Rattle.format.specs.Formats.{flag_bits}
use Rattle.frame.specs.Layout.{flag_of}

pub bits_small : (flag : Flag) → flag_bits flag ≤ 3
bits_small Middle = omega arith
bits_small Start = omega arith
bits_small End = omega arith
bits_small Single = omega arith

pub flag_of_bits : (flag : Flag) → flag_of (flag_bits flag) ≡ flag
unfolding flag_of
flag_of_bits Middle = refl
flag_of_bits Start = refl
flag_of_bits End = refl
flag_of_bits Single = refl

pub bits_of_flag : (bits : ℕ) → bits < 4 → flag_bits (flag_of bits) ≡ bits
unfolding flag_of
bits_of_flag zero h = refl
bits_of_flag (suc zero) h = refl
bits_of_flag (suc (suc zero)) h = refl
bits_of_flag (suc (suc (suc zero))) h = refl
bits_of_flag (suc (suc (suc (suc bits)))) h = absurd (omega arith)
