-- Document 01, "Examples to hold against the rules": the starred examples of images, counts and numbers, as one table with a
-- single claim over it. Document 02, L3, changed one row: "the case "89 before 8 data bytes" becomes a sound image where its other fields
-- are sound". proofs/Examples.antt proves it.
use Rattle.std.specs.Prelude.{ℕ, ◌≡◌, List, [], ◌∷◌, length, get_or}
use Rattle.format.specs.declared.Format.{Format}
use Rattle.format.specs.declared.Format.TheVariants.{Extended, Standard}
use Rattle.format.specs.declared.Fields.{Fields}
use Rattle.format.specs.declared.Fields.TheVariants as fields
use Rattle.format.specs.declared.Flag.{Flag}
use Rattle.format.specs.declared.Flag.TheVariants.{End, Single}
use Rattle.format.specs.declared.Refusal.TheVariants.{Length, Form, Remote, Piece, Size}
use Rattle.format.specs.Refusals.{Result, value, refused, number}
use Rattle.format.specs.Tables.{AllHold}
use Rattle.frame.specs.Judge.{Judged, judge}
use Rattle.frame.specs.Image.{image_of}
use Rattle.packet.specs.Split.{piece}
use Rattle.packet.specs.Send.{piece_count}

pub data Example : Type 0 where
  -- an image, and what it is judged to be
  judges : Format → List ℕ → Result Judged → Example
  -- a packet's size, and its piece count
  counts : Format → ℕ → Result ℕ → Example
  -- an extended packet's size, and byte 3 of its piece k
  numbers : (size k : ℕ) → ℕ → Example

abbrev sound : Fields → Flag → (number : ℕ) → List ℕ → (start : ℕ) → Result Judged
sound said flag n bytes start = value (record { frame = record { fields = said; flag = flag; number = n; bytes = bytes }; start = start })

abbrev pub table : List Example
table =
    -- 81 45 00 C0 10 07: priority 1, source 5, group 0, destination 0, single, function 2, one byte
    judges Extended (0x81 ∷ 0x45 ∷ 0x00 ∷ 0xC0 ∷ 0x10 ∷ 0x07 ∷ []) (sound (fields.Extended 1 5 0 0 2) Single 0 (0x07 ∷ []) 5)
    -- 80 FF FF C0 F8: priority 3, 63, 3, 63, single, function 31, empty
    ∷ judges Extended (0x80 ∷ 0xFF ∷ 0xFF ∷ 0xC0 ∷ 0xF8 ∷ []) (sound (fields.Extended 3 63 3 63 31) Single 0 [] 5)
    -- 81 45 00 C1 10 07: PIECE. First byte 91: FORM. D1: FORM, not REMOTE. C1: REMOTE
    ∷ judges Extended (0x81 ∷ 0x45 ∷ 0x00 ∷ 0xC1 ∷ 0x10 ∷ 0x07 ∷ []) (refused (number Piece))
    ∷ judges Extended (0x91 ∷ 0x45 ∷ 0x00 ∷ 0xC1 ∷ 0x10 ∷ 0x07 ∷ []) (refused (number Form))
    ∷ judges Extended (0xD1 ∷ 0x45 ∷ 0x00 ∷ 0xC1 ∷ 0x10 ∷ 0x07 ∷ []) (refused (number Form))
    ∷ judges Extended (0xC1 ∷ 0x45 ∷ 0x00 ∷ 0xC1 ∷ 0x10 ∷ 0x07 ∷ []) (refused (number Remote))
    -- 89 before 8 data bytes: sound (L3; COUNT in document 01). 4 or 14 bytes: LENGTH
    ∷ judges Extended (0x89 ∷ 0x45 ∷ 0x00 ∷ 0xC0 ∷ 0x10 ∷ 1 ∷ 2 ∷ 3 ∷ 4 ∷ 5 ∷ 6 ∷ 7 ∷ 8 ∷ [])
    (sound (fields.Extended 1 5 0 0 2) Single 0 (1 ∷ 2 ∷ 3 ∷ 4 ∷ 5 ∷ 6 ∷ 7 ∷ 8 ∷ []) 5)
    ∷ judges Extended (0x81 ∷ 0x45 ∷ 0x00 ∷ 0xC0 ∷ []) (refused (number Length))
    ∷ judges Extended (0x81 ∷ 0x45 ∷ 0x00 ∷ 0xC0 ∷ 0x10 ∷ 1 ∷ 2 ∷ 3 ∷ 4 ∷ 5 ∷ 6 ∷ 7 ∷ 8 ∷ 9 ∷ []) (refused (number Length))
    -- standard 96 E3 and three bytes: priority 2, address 22, side 1, single
    ∷ judges Standard (0x96 ∷ 0xE3 ∷ 1 ∷ 2 ∷ 3 ∷ []) (sound (fields.Standard 2 22 1) Single 0 (1 ∷ 2 ∷ 3 ∷ []) 2)
    -- standard end, number 1: count 2 is PIECE, count 3 is sound
    ∷ judges Standard (0x96 ∷ 0xC2 ∷ 1 ∷ 8 ∷ []) (refused (number Piece))
    ∷ judges Standard (0x96 ∷ 0xC3 ∷ 1 ∷ 8 ∷ 9 ∷ []) (sound (fields.Standard 2 22 1) End 1 (8 ∷ 9 ∷ []) 3)
    -- extended 8, 9, 16, 17 bytes: 1, 2, 2, 3 pieces; 2,048: 256; 2,049: SIZE
    ∷ counts Extended 8 (value 1)
    ∷ counts Extended 9 (value 2)
    ∷ counts Extended 16 (value 2)
    ∷ counts Extended 17 (value 3)
    ∷ counts Extended 2048 (value 256)
    ∷ counts Extended 2049 (refused (number Size))
    -- standard 8, 9, 14, 15 bytes: 1, 2, 2, 3; 1,792: 256; 1,793: SIZE
    ∷ counts Standard 8 (value 1)
    ∷ counts Standard 9 (value 2)
    ∷ counts Standard 14 (value 2)
    ∷ counts Standard 15 (value 3)
    ∷ counts Standard 1792 (value 256)
    ∷ counts Standard 1793 (refused (number Size))
    -- in an extended 2,048-byte packet byte 3 of piece 64 is 00 and of piece 255 is BF
    ∷ numbers 2048 64 0x00
    ∷ numbers 2048 255 0xBF
    ∷ []

-- that an example holds of the definitions; for byte 3 whatever the fields and the packet's bytes are (256 is no byte: it would
-- stand for a byte that is not there)
abbrev pub Holds : Example → Type 0
Holds (judges format image said) = judge format image ≡ said
Holds (counts format size said) = piece_count format size ≡ said
Holds (numbers size k said) =
    (priority source group destination function : ℕ) (packet : List ℕ) → length packet ≡ size
    → get_or (image_of (piece (fields.Extended priority source group destination function) packet k)) 3 256 ≡ said

-- the single claim: every example of the table holds
unfoldable pub ExamplesHold : Type 0
ExamplesHold = AllHold Holds table
