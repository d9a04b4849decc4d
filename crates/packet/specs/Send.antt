-- Document 01, "Splitting", last sentence, and "Refusal numbers" 9 to 12: "A caller may ask for the piece count, or for piece
-- k written to a lent output; only the bytes of that image are written." "Order: [..] 9, then [..] for sending 10, 11, 12."
use Rattle.std.specs.Prelude.{ℕ, List, [], ◌∷◌, leb, ltb, length}
use Rattle.format.specs.declared.Format.{Format}
use Rattle.format.specs.declared.Fields.{Fields}
use Rattle.format.specs.declared.Refusal.TheVariants.{Field, Size, Index}
use Rattle.format.specs.Formats.{packet_limit, piece_size, format_of, in_range}
use Rattle.format.specs.Refusals.{Result, check, guarded, checked_then}
use Rattle.format.specs.Outputs.{fitting}
use Rattle.frame.specs.Image.{image_of}
use Rattle.packet.specs.Split.{count_of, piece}

-- the piece count of a packet of n bytes. SIZE: packet over the format's limit
unfoldable pub piece_count : Format → ℕ → Result ℕ
piece_count format n = guarded (check Size (leb n (packet_limit format)) ∷ []) (count_of (piece_size format) n)

-- the image of piece k, for an output of `room` bytes. FIELD: a field is out of range. SIZE. INDEX: no piece k. ROOM: output
-- shorter than the image
unfoldable pub send : Fields → List ℕ → (k room : ℕ) → Result (List ℕ)
send fields packet k room =
    let format : Format = format_of fields in
    let image : List ℕ = image_of (piece fields packet k) in
    checked_then
    (check Field (in_range fields)
    ∷ check Size (leb (length packet) (packet_limit format))
    ∷ check Index (ltb k (count_of (piece_size format) (length packet)))
    ∷ [])
    (fitting image room)
