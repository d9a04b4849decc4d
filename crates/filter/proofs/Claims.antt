-- Where a frame's fields stand in the bits that filters look at.
use Prim.Native.Nat.{ℕ, ◌+◌, ◌*◌, ◌≤◌}
use mathlib.Core.Path.{◌≡◌, sym, ap, ◌∙◌}
use mathlib.Core.Bool.{true}
use native.Mathlib.Omega.{arith}
use borrow.Author.Tests.{leb-true}
use Rattle.format.specs.declared.Fields.TheVariants.{Extended}
use Rattle.format.specs.Formats.{in_range}
use Rattle.format.proofs.Tests.{each}
use Rattle.frame.specs.Judge.{Frame}
use Rattle.frame.specs.Image.{header_bytes, image_of, sound_frame}
use Rattle.filter.specs.Claims.{id_in, InImage}

bits_of : (frame : Frame) (priority source group destination function : ℕ) → frame.fields ≡ Extended priority source group destination function
    → id_in (image_of frame) ≡ (64 * priority + source) * 256 + (64 * group + destination)
unfolding image_of header_bytes
bits_of frame priority source group destination function e = rw e

ranges : (priority source group destination function : ℕ) → in_range (Extended priority source group destination function) ≡ true
    → (priority ≤ 3) × ((source ≤ 63) × ((group ≤ 3) × (destination ≤ 63)))
unfolding in_range
ranges priority source group destination function r =
    let parts = each _ r in
    (leb-true _ _ parts.0, (leb-true _ _ parts.1.0, (leb-true _ _ parts.1.1.0, leb-true _ _ parts.1.1.1.0)))

pub in_image : InImage
unfolding InImage sound_frame
in_image frame priority source group destination function e s =
    let b = bits_of frame priority source group destination function e in
    let r = ranges priority source group destination function (ap in_range (sym e) ∙ (each _ s).0) in
    rw b (omega arith, (omega arith, (omega arith, omega arith)))
