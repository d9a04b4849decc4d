-- Count codes: what they say, and that judging an image takes no more from its code.
use Prim.Native.Nat.{ℕ, ◌+◌, ◌*◌, ◌/◌, ◌%◌, ◌≤◌, ◌<◌}
use mathlib.Core.Path.{◌≡◌, refl, sym, ap, ◌∙◌}
use mathlib.Core.Bool.{Bool, true, false, cond}
use mathlib.Core.List.{List, [], ◌∷◌}
use native.Mathlib.Nat.{div-div-eq-div-mul}
use native.Mathlib.Omega.{arith}
use lib.Dec.{leb}
use lib.ListN.{length, drop}
use borrow.Author.Tests.{leb-true, leb-false, lt-leb}
use Rattle.format.specs.declared.Format.{Format}
use Rattle.format.specs.declared.Format.TheVariants as format
use Rattle.format.specs.declared.Fields.{Fields}
use Rattle.format.specs.declared.Fields.TheVariants.{Extended, Standard}
use Rattle.format.specs.declared.Flag.{Flag}
use Rattle.format.specs.declared.Flag.TheVariants.{Middle, Start, End, Single}
use Rattle.format.specs.Formats.{format_of, flag_bits, packet_start}
use Rattle.frame.specs.Layout.{flag_of, layout}
use Rattle.frame.specs.Judge.{data_count, Frame, checks, judge}
use Rattle.frame.specs.Image.{data_of, header_bytes, image_with, image_of, count_code, with_code}
use Rattle.frame.specs.Claims.{SaysEight, CodeFor, CodesAlike}
use Rattle.frame.proofs.Flags.{bits_small}

-- what a code says by its test, where the test's numbers are 9 and 8
few_if : (limit most code : ℕ) → 9 ≤ limit → code ≤ 8 → cond (leb limit code) most code ≡ code
few_if limit most code l h = rw (lt-leb limit code (omega arith))

eight_if : (limit most code : ℕ) → limit ≤ 9 → most ≡ 8 → 8 ≤ code → cond (leb limit code) most code ≡ 8
eight_if limit most code l m h = go (leb limit code) refl
  where
    go : (b : Bool) → leb limit code ≡ b → cond b most code ≡ 8
    go true e = m
    go false e = let k = leb-false limit code e in omega arith

pub few_said : (code : ℕ) → code ≤ 8 → data_count code ≡ code
few_said code h = few_if _ _ code (omega arith) h

pub eight_said : (code : ℕ) → 8 ≤ code → data_count code ≡ 8
eight_said code h = eight_if _ _ code (omega arith) (omega arith) h

-- a code of four bits may stand before as many data bytes as it says
pub code_for : (code : ℕ) → code < 16 → CodeFor code (data_count code)
code_for code h = go (leb 9 code) refl
  where
    go : (b : Bool) → leb 9 code ≡ b → CodeFor code (cond b 8 code)
    go true e = let l = leb-true 9 code e in record { eight = λ q. (omega arith, omega arith); other = λ q. absurd (q refl) }
    go false e = record { eight = λ q. (omega arith, omega arith); other = λ q. refl }

-- ---- another code in an image

-- two images' codes say the same
unfoldable Same : Format → (image image' : List ℕ) → Type 0
Same fm image image' = data_count (count_code fm image) ≡ data_count (count_code fm image')

-- an extended image is judged by the upper half of its byte 0 and by what the code in the lower half says
module _ (x y : ℕ) (rest : List ℕ) (upper : x / 16 ≡ y / 16) (says : Same format.Extended (x ∷ rest) (y ∷ rest)) where
  extended_alike : judge format.Extended (x ∷ rest) ≡ judge format.Extended (y ∷ rest)
  unfolding Same judge checks layout
  extended_alike =
      let rtr : x / 64 ≡ y / 64 = sym (div-div-eq-div-mul x 16 4) ∙ ap (λ q. q / 4) upper ∙ div-div-eq-div-mul y 16 4 in
      let one : x / 128 ≡ y / 128 = sym (div-div-eq-div-mul x 16 8) ∙ ap (λ q. q / 8) upper ∙ div-div-eq-div-mul y 16 8 in
      simp (one, upper, rtr, says)

-- the packet bytes stand behind byte 1
behind : (flag : Flag) (b0 x y : ℕ) (rest : List ℕ)
    → drop (packet_start format.Standard flag) (b0 ∷ x ∷ rest) ≡ drop (packet_start format.Standard flag) (b0 ∷ y ∷ rest)
behind Single b0 x y rest = refl
behind Start b0 x y rest = refl
behind Middle b0 x y rest = refl
behind End b0 x y rest = refl

module _ (b0 x y : ℕ) (rest : List ℕ) (upper : x / 16 ≡ y / 16) (says : Same format.Standard (b0 ∷ x ∷ rest) (b0 ∷ y ∷ rest)) where
  standard_alike : judge format.Standard (b0 ∷ x ∷ rest) ≡ judge format.Standard (b0 ∷ y ∷ rest)
  unfolding Same judge checks layout
  standard_alike =
      let flag : x / 32 ≡ y / 32 = sym (div-div-eq-div-mul x 16 2) ∙ ap (λ q. q / 2) upper ∙ div-div-eq-div-mul y 16 2 in
      let side : x / 128 ≡ y / 128 = sym (div-div-eq-div-mul x 16 8) ∙ ap (λ q. q / 8) upper ∙ div-div-eq-div-mul y 16 8 in
      simp (flag, side, upper, says, behind (flag_of (y / 32 % 4)) b0 x y rest)

module _ (q code : ℕ) (h : SaysEight code) where
  same_upper : (16 * q + code) / 16 ≡ (16 * q + 8) / 16
  same_upper =
      let a : (16 * q + code) / 16 ≡ q = omega (arith, h.0, h.1) in
      let b : (16 * q + 8) / 16 ≡ q = omega arith in
      a ∙ sym b

  same_said : data_count ((16 * q + code) % 16) ≡ data_count ((16 * q + 8) % 16)
  same_said =
      let a : (16 * q + code) % 16 ≡ code = omega (arith, h.0, h.1) in
      let b : (16 * q + 8) % 16 ≡ 8 = omega arith in
      ap data_count a ∙ eight_said code h.0 ∙ sym (ap data_count b)

pub codes_alike : CodesAlike
unfolding CodesAlike with_code Same layout
codes_alike format.Extended [] code h = refl
codes_alike format.Extended (b0 ∷ rest) code h = extended_alike _ _ rest (same_upper (b0 / 16) code h) (same_said (b0 / 16) code h)
codes_alike format.Standard [] code h = refl
codes_alike format.Standard (b0 ∷ []) code h = refl
codes_alike format.Standard (b0 ∷ b1 ∷ rest) code h = standard_alike b0 _ _ rest (same_upper (b1 / 16) code h) (same_said (b1 / 16) code h)

-- the image of a frame, with another code in place of its own
pub with_code_lem : (frame : Frame) (code other : ℕ) → code < 16
    → with_code (format_of frame.fields) other (image_with code frame) ≡ image_with other frame
unfolding with_code header_bytes
with_code_lem frame code other h = go frame.fields
  where
    go : (fields : Fields)
        → let f : Frame = record { fields = fields; flag = frame.flag; number = frame.number; bytes = frame.bytes } in
        with_code (format_of fields) other (image_with code f) ≡ image_with other f
    go (Extended priority source group destination function) =
        let e : 16 * ((128 + code) / 16) + other ≡ 128 + other = omega arith in
        rw e
    go (Standard priority address side) =
        let b = bits_small frame.flag in
        let e : 16 * ((128 * side + 32 * flag_bits frame.flag + code) / 16) + other ≡ 128 * side + 32 * flag_bits frame.flag + other =
        omega arith in
        rw e

-- the image that is sent has the count for its code
pub code_sent : (frame : Frame) → length (data_of frame) ≤ 8 → count_code (format_of frame.fields) (image_of frame) ≡ length (data_of frame)
unfolding image_of header_bytes layout
code_sent frame h = go frame.fields h
  where
    go : (fields : Fields)
        → let f : Frame = record { fields = fields; flag = frame.flag; number = frame.number; bytes = frame.bytes } in
        length (data_of f) ≤ 8 → count_code (format_of fields) (image_of f) ≡ length (data_of f)
    go (Extended priority source group destination function) l = omega arith
    go (Standard priority address side) l = omega arith
