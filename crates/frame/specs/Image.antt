-- Document 01, "Frame images": the image of a frame, and what a sound frame is. Document 02, L3: the images that mean the same frame.
use Rattle.std.specs.Prelude.{ℕ, ◌+◌, ◌*◌, ◌/◌, Bool, cond, List, [], ◌∷◌, ◌++◌, ltb, length, get_or, set}
use Rattle.format.specs.declared.Fields.{Fields}
use Rattle.format.specs.declared.Fields.TheVariants.{Extended, Standard}
use Rattle.format.specs.declared.Format.{Format}
use Rattle.format.specs.declared.Format.TheVariants as format
use Rattle.format.specs.declared.Flag.{Flag}
use Rattle.format.specs.Tests.{all_true}
use Rattle.format.specs.Formats.{format_of, number_range, numbered, in_range, flag_bits}
use Rattle.frame.specs.Layout.{layout}
use Rattle.frame.specs.Judge.{Frame, piece_rule}

-- the data bytes: in a standard start, middle or end piece the number, then the packet bytes
abbrev pub data_of : Frame → List ℕ
data_of frame = cond (numbered (format_of frame.fields) frame.flag) (frame.number ∷ frame.bytes) frame.bytes

-- the header's bytes by fields, flag, number and count code, with RTR 0
unfoldable pub header_bytes : Fields → Flag → (number code : ℕ) → List ℕ
header_bytes (Extended priority source group destination function) flag number code =
    (128 + code)
    ∷ (64 * priority + source)
    ∷ (64 * group + destination)
    ∷ (64 * flag_bits flag + number)
    ∷ (8 * function)
    ∷ []
header_bytes (Standard priority address side) flag number code =
    (64 * priority + address) ∷ (128 * side + 32 * flag_bits flag + code) ∷ []

-- the image of a frame with that count code
abbrev pub image_with : (code : ℕ) → Frame → List ℕ
image_with code frame = header_bytes frame.fields frame.flag frame.number code ++ data_of frame

-- the image that is sent: its code is the count, so that for eight data bytes "the writer still sends 8"
unfoldable pub image_of : Frame → List ℕ
image_of frame = image_with (length (data_of frame)) frame

-- an image's count code
abbrev pub count_code : Format → List ℕ → ℕ
count_code format image = (layout format image).code

-- an image with another count code: the low four bits of byte 0, in standard of byte 1
unfoldable pub with_code : Format → (code : ℕ) → List ℕ → List ℕ
with_code format.Extended code image = set image 0 (16 * (get_or image 0 0 / 16) + code)
with_code format.Standard code image = set image 1 (16 * (get_or image 1 0 / 16) + code)

-- a frame whose fields and number are in range and that keeps the piece rules
unfoldable pub sound_frame : Frame → Bool
sound_frame frame =
    let fm : Format = format_of frame.fields in
    all_true
    (in_range frame.fields
    ∷ ltb frame.number (number_range fm)
    ∷ piece_rule fm frame.flag (length (data_of frame)) frame.number
    ∷ [])
