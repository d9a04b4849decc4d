-- A frame's image: its size, and how the code puts it together.
use Prim.Native.Nat.{ℕ, suc, ◌+◌, ◌-◌, ◌<◌}
use mathlib.Core.Path.{◌≡◌, refl, ap}
use mathlib.Core.Bool.{Bool, true, false, cond}
use mathlib.Core.List.{List, [], ◌∷◌, ◌++◌}
use native.Mathlib.Omega.{arith}
use lib.Dec.{leb}
use lib.ListN.{length, take}
use Rattle.format.specs.declared.Fields.{Fields}
use Rattle.format.specs.declared.Fields.TheVariants.{Extended, Standard}
use Rattle.format.specs.declared.Flag.{Flag}
use Rattle.format.specs.Formats.{header_size, number_range, numbered, packet_start, format_of, in_range}
use Rattle.format.proofs.Tests.{Each, each}
use Rattle.frame.specs.Image.{header_bytes, image_of}
use Rattle.packet.specs.Split.{frame_with}
use Rattle.packet.specs.Parts.{filler}

-- what fields in range say of each field, and of the number
pub extended_range : (fields : Fields) (p q g d f n : ℕ) → fields ≡ Extended p q g d f → in_range fields ≡ true → n < number_range (format_of fields)
    → Each (leb p 3 ∷ leb q 63 ∷ leb g 3 ∷ leb d 63 ∷ leb f 31 ∷ []) × (n < 64)
unfolding in_range
extended_range fields p q g d f n e h m = (each _ (rw e at h), rw e at m)

pub standard_range : (fields : Fields) (p q s : ℕ) → fields ≡ Standard p q s → in_range fields ≡ true
    → Each (leb p 3 ∷ leb q 63 ∷ leb s 1 ∷ [])
unfolding in_range
standard_range fields p q s e h = each _ (rw e at h)

-- the image's size, and the image as the code puts it together: so much of the header's six bytes, then the packet bytes
module _ (flag : Flag) (number : ℕ) (bytes : List ℕ) where
  size_if : (fields : Fields) (b : Bool) → numbered (format_of fields) flag ≡ b
      → length (image_of (frame_with fields flag number bytes)) ≡ cond b (header_size (format_of fields) + 1) (header_size (format_of fields)) + length bytes
  unfolding header_bytes image_of
  size_if (Extended priority source group destination function) true e = let z : ◌≡◌ {A = ℕ} 0 1 = cc in absurd (omega arith)
  size_if (Extended priority source group destination function) false e = omega arith
  size_if (Standard priority address side) true e = rw e (omega arith)
  size_if (Standard priority address side) false e = rw e (omega arith)

  led_if : (fields : Fields) (b : Bool) → numbered (format_of fields) flag ≡ b → (count : ℕ)
      → count ≡ cond b (header_size (format_of fields) + 1) (header_size (format_of fields)) + length bytes - header_size (format_of fields)
      → take (cond b (header_size (format_of fields) + 1) (header_size (format_of fields))) (header_bytes fields flag number count ++ filler fields number) ++ bytes
      ≡ image_of (frame_with fields flag number bytes)
  unfolding header_bytes filler image_of
  led_if (Extended priority source group destination function) true e count ec = let z : ◌≡◌ {A = ℕ} 0 1 = cc in absurd (omega arith)
  led_if (Extended priority source group destination function) false e count ec = let n : count ≡ length bytes = omega arith in rw n
  led_if (Standard priority address side) true e count ec = let n : count ≡ suc (length bytes) = omega arith in rw (e, n)
  led_if (Standard priority address side) false e count ec = let n : count ≡ length bytes = omega arith in rw (e, n)

  module _ (fields : Fields) (start : ℕ) (es : start ≡ packet_start (format_of fields) flag) where
    pub image-size : length (image_of (frame_with fields flag number bytes)) ≡ start + length bytes
    image-size = rw es (size_if fields (numbered (format_of fields) flag) refl)

    pub image-led : (size : ℕ) → size ≡ header_size (format_of fields) → (head : List ℕ)
        → head ≡ header_bytes fields flag number (start + length bytes - size) ++ filler fields number
        → take start head ++ bytes ≡ image_of (frame_with fields flag number bytes)
    image-led size ez head eh =
        rw (eh, es, ez) (led_if fields (numbered (format_of fields) flag) refl _ refl)

pub head_six : (fields : Fields) (flag : Flag) (n count : ℕ) (head : List ℕ) → head ≡ header_bytes fields flag n count ++ filler fields n → length head ≡ 6
unfolding header_bytes filler
head_six (Extended priority source group destination function) flag n count head e = ap length e
head_six (Standard priority address side) flag n count head e = ap length e
