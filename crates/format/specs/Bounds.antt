-- The documents' figures once more, as literals: document 01, "Refusal numbers" (the table's 21), "Frame images" (the flags' bits),
-- "Splitting" (the limits of each format, and the ends of each field's range); document 02, L4 (25). A figure changed alike in a definition
-- and in the code breaks the claim. proofs/Bounds.antt proves it.
use Rattle.std.specs.Prelude.{ℕ, ◌≡◌, Bool, true, false, List, [], ◌∷◌, replicate}
use Rattle.format.specs.declared.Format.{Format}
use Rattle.format.specs.declared.Format.TheVariants.{Extended, Standard}
use Rattle.format.specs.declared.Fields.{Fields}
use Rattle.format.specs.declared.Fields.TheVariants as fields
use Rattle.format.specs.declared.Flag.{Flag}
use Rattle.format.specs.declared.Flag.TheVariants.{Middle, Start, End, Single}
use Rattle.format.specs.declared.Refusal.{Refusal}
use Rattle.format.specs.declared.Refusal.TheVariants.{
  Length,
  Form,
  Remote,
  Count,
  Piece,
  Orphan,
  Step,
  Long,
  Field,
  Size,
  Index,
  Room,
  Store,
  Taken,
  Full,
  Closed,
  NoPacket,
  Busy,
  Idle,
  NotAwaited,
  State,
  Surplus,
}
use Rattle.format.specs.Formats.{packet_limit, piece_size, header_size, number_range, flag_bits, packet_start, in_range}
use Rattle.format.specs.Refusals.{Result, value, refused, number}
use Rattle.format.specs.Outputs.{fitting, answer, output_after}
use Rattle.format.specs.Tables.{AllHold}

pub data Bound : Type 0 where
  -- a refusal's number
  numbers : Refusal → ℕ → Bound
  -- a flag's bits
  bits : Flag → ℕ → Bound
  -- a format's packet limit, piece size, header size and number range
  limits : Format → (packet piece header range : ℕ) → Bound
  -- where in the image of such a piece the packet bytes begin
  starts : Format → Flag → ℕ → Bound
  -- whether fields are in range
  ranges : Fields → Bool → Bound
  -- so many bytes, all of them 7, for an output of `room` bytes, all of them 1: the answer, and the output afterwards
  writes : (size room : ℕ) → Result ℕ → List ℕ → Bound

abbrev pub table : List Bound
table =
    numbers Length 1
    ∷ numbers Form 2
    ∷ numbers Remote 3
    ∷ numbers Count 4
    ∷ numbers Piece 5
    ∷ numbers Orphan 6
    ∷ numbers Step 7
    ∷ numbers Long 8
    ∷ numbers Field 9
    ∷ numbers Size 10
    ∷ numbers Index 11
    ∷ numbers Room 12
    ∷ numbers Store 13
    ∷ numbers Taken 14
    ∷ numbers Full 15
    ∷ numbers Closed 16
    ∷ numbers NoPacket 17
    ∷ numbers Busy 18
    ∷ numbers Idle 19
    ∷ numbers NotAwaited 20
    ∷ numbers State 21
    ∷ numbers Surplus 25
    -- 01 start, 00 middle, 10 end, 11 single
    ∷ bits Start 0b01
    ∷ bits Middle 0b00
    ∷ bits End 0b10
    ∷ bits Single 0b11
    ∷ limits Extended 2048 8 5 64
    ∷ limits Standard 1792 7 2 256
    -- the number stands among the data bytes of a standard start, middle or end piece only
    ∷ starts Extended Start 5
    ∷ starts Extended Middle 5
    ∷ starts Extended End 5
    ∷ starts Extended Single 5
    ∷ starts Standard Start 3
    ∷ starts Standard Middle 3
    ∷ starts Standard End 3
    ∷ starts Standard Single 2
    -- the least of every field, the most, and one more than the most of each
    ∷ ranges (fields.Extended 0 0 0 0 0) true
    ∷ ranges (fields.Extended 3 63 3 63 31) true
    ∷ ranges (fields.Extended 4 63 3 63 31) false
    ∷ ranges (fields.Extended 3 64 3 63 31) false
    ∷ ranges (fields.Extended 3 63 4 63 31) false
    ∷ ranges (fields.Extended 3 63 3 64 31) false
    ∷ ranges (fields.Extended 3 63 3 63 32) false
    ∷ ranges (fields.Standard 0 0 0) true
    ∷ ranges (fields.Standard 3 63 1) true
    ∷ ranges (fields.Standard 4 63 1) false
    ∷ ranges (fields.Standard 3 64 1) false
    ∷ ranges (fields.Standard 3 63 2) false
    -- ROOM: an output that is shorter, which then stays; the rest of one that is longer stays
    ∷ writes 0 0 (value 0) []
    ∷ writes 0 2 (value 0) (1 ∷ 1 ∷ [])
    ∷ writes 2 1 (refused 12) (1 ∷ [])
    ∷ writes 2 2 (value 2) (7 ∷ 7 ∷ [])
    ∷ writes 2 4 (value 2) (7 ∷ 7 ∷ 1 ∷ 1 ∷ [])
    ∷ []

abbrev pub Holds : Bound → Type 0
Holds (numbers name n) = number name ≡ n
Holds (bits flag n) = flag_bits flag ≡ n
Holds (limits format packet piece header range) =
    packet_limit format ∷ piece_size format ∷ header_size format ∷ number_range format ∷ [] ≡ packet ∷ piece ∷ header ∷ range ∷ []
Holds (starts format flag n) = packet_start format flag ≡ n
Holds (ranges said ok) = in_range said ≡ ok
Holds (writes size room said bytes) =
    let given = fitting (replicate size 7) room in (answer given ≡ said) × (output_after given (replicate room 1) ≡ bytes)

unfoldable pub FormatBounds : Type 0
FormatBounds = AllHold Holds table
