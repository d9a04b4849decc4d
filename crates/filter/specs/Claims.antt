-- What is proved of the bits that filters look at; proofs/Claims.antt has the proof. Document 01, "Frame images": byte 1 is priority (2),
-- source (6), byte 2 is group (2), destination (6); source Tables 13 to 16: these are ID.28 to ID.13.
use Rattle.std.specs.Prelude.{ℕ, ◌+◌, ◌*◌, ◌/◌, ◌%◌, ◌^◌, ◌≡◌, true, List, get_or}
use Rattle.format.specs.declared.Fields.TheVariants.{Extended}
use Rattle.frame.specs.Judge.{Frame}
use Rattle.frame.specs.Image.{image_of, sound_frame}

-- the 16 bits of an extended image that a filter is asked about
abbrev pub id_in : List ℕ → ℕ
id_in image = get_or image 1 0 * 256 + get_or image 2 0

-- from the top they are the frame's priority, source, group and destination
unfoldable pub InImage : Type 0
InImage =
    (frame : Frame) (priority source group destination function : ℕ)
    → frame.fields ≡ Extended priority source group destination function → sound_frame frame ≡ true
    → (id_in (image_of frame) / 2 ^ 14 ≡ priority)
    × ((id_in (image_of frame) / 2 ^ 8 % 2 ^ 6 ≡ source)
    × ((id_in (image_of frame) / 2 ^ 6 % 2 ^ 2 ≡ group) × (id_in (image_of frame) % 2 ^ 6 ≡ destination)))
