-- Document 01, "Splitting" and refusals 9 to 12: each end of each range, from both sides, the order of the refusals, and whole images of
-- a packet's pieces. The figures are literals, so that a bound changed alike in a definition and in the code breaks the claim.
-- proofs/Bounds.antt proves it.
use Rattle.std.specs.Prelude.{ℕ, ◌≡◌, List, [], ◌∷◌, replicate}
use Rattle.format.specs.declared.Format.{Format}
use Rattle.format.specs.declared.Format.TheVariants.{Extended, Standard}
use Rattle.format.specs.declared.Fields.{Fields}
use Rattle.format.specs.declared.Fields.TheVariants as fields
use Rattle.format.specs.Refusals.{Result, value, refused}
use Rattle.format.specs.Outputs.{answer}
use Rattle.format.specs.Tables.{AllHold}
use Rattle.packet.specs.Send.{piece_count, send}

pub data Bound : Type 0 where
  -- a packet's size, and its piece count
  counts : Format → ℕ → Result ℕ → Bound
  -- what is answered to sending piece k of a packet of that size to an output of `room` bytes
  answers : Fields → (size k room : ℕ) → Result ℕ → Bound
  -- a packet and the image of its piece k
  writes : Fields → List ℕ → (k : ℕ) → List ℕ → Bound

abbrev extended : Fields
extended = fields.Extended 1 5 2 6 2

abbrev standard : Fields
standard = fields.Standard 2 22 1

abbrev pub table : List Bound
table =
    -- 0 to 8 bytes are one piece; 255 and 256 filled pieces; the limits
    counts Extended 0 (value 1)
    ∷ counts Extended 8 (value 1)
    ∷ counts Extended 9 (value 2)
    ∷ counts Extended 2040 (value 255)
    ∷ counts Extended 2041 (value 256)
    ∷ counts Extended 2048 (value 256)
    ∷ counts Extended 2049 (refused 10)
    ∷ counts Standard 0 (value 1)
    ∷ counts Standard 8 (value 1)
    ∷ counts Standard 9 (value 2)
    ∷ counts Standard 1785 (value 255)
    ∷ counts Standard 1786 (value 256)
    ∷ counts Standard 1792 (value 256)
    ∷ counts Standard 1793 (refused 10)
    -- FIELD before SIZE, SIZE before INDEX, INDEX before ROOM
    ∷ answers (fields.Extended 4 5 2 6 2) 2049 0 13 (refused 9)
    ∷ answers (fields.Standard 2 22 2) 1793 0 10 (refused 9)
    ∷ answers extended 2049 257 13 (refused 10)
    ∷ answers standard 1793 257 10 (refused 10)
    ∷ answers extended 9 2 0 (refused 11)
    ∷ answers standard 9 2 0 (refused 11)
    -- FIELD by itself; SIZE at the limit and one more
    ∷ answers (fields.Extended 4 5 2 6 2) 8 0 13 (refused 9)
    ∷ answers (fields.Standard 2 22 2) 8 0 10 (refused 9)
    ∷ answers extended 2048 0 13 (value 13)
    ∷ answers extended 2049 0 13 (refused 10)
    ∷ answers standard 1792 0 10 (value 10)
    ∷ answers standard 1793 0 10 (refused 10)
    -- INDEX at the count and one less
    ∷ answers extended 8 0 13 (value 13)
    ∷ answers extended 8 1 13 (refused 11)
    ∷ answers extended 2048 255 13 (value 13)
    ∷ answers extended 2048 256 13 (refused 11)
    ∷ answers standard 8 0 10 (value 10)
    ∷ answers standard 8 1 10 (refused 11)
    ∷ answers standard 1792 255 10 (value 10)
    ∷ answers standard 1792 256 10 (refused 11)
    -- ROOM at the image's length and one less: an empty single, a start, an end of one packet byte
    ∷ answers extended 0 0 5 (value 5)
    ∷ answers extended 0 0 4 (refused 12)
    ∷ answers extended 9 0 13 (value 13)
    ∷ answers extended 9 0 12 (refused 12)
    ∷ answers extended 9 1 6 (value 6)
    ∷ answers extended 9 1 5 (refused 12)
    ∷ answers standard 0 0 2 (value 2)
    ∷ answers standard 0 0 1 (refused 12)
    ∷ answers standard 9 0 10 (value 10)
    ∷ answers standard 9 0 9 (refused 12)
    ∷ answers standard 15 2 4 (value 4)
    ∷ answers standard 15 2 3 (refused 12)
    -- nine bytes: a start of 8 or 7 and an end; eight: a single
    ∷ writes extended (1 ∷ 2 ∷ 3 ∷ 4 ∷ 5 ∷ 6 ∷ 7 ∷ 8 ∷ 9 ∷ []) 0
    (0x88 ∷ 0x45 ∷ 0x86 ∷ 0x40 ∷ 0x10 ∷ 1 ∷ 2 ∷ 3 ∷ 4 ∷ 5 ∷ 6 ∷ 7 ∷ 8 ∷ [])
    ∷ writes extended (1 ∷ 2 ∷ 3 ∷ 4 ∷ 5 ∷ 6 ∷ 7 ∷ 8 ∷ 9 ∷ []) 1 (0x81 ∷ 0x45 ∷ 0x86 ∷ 0x81 ∷ 0x10 ∷ 9 ∷ [])
    ∷ writes extended (1 ∷ 2 ∷ 3 ∷ 4 ∷ 5 ∷ 6 ∷ 7 ∷ 8 ∷ []) 0
    (0x88 ∷ 0x45 ∷ 0x86 ∷ 0xC0 ∷ 0x10 ∷ 1 ∷ 2 ∷ 3 ∷ 4 ∷ 5 ∷ 6 ∷ 7 ∷ 8 ∷ [])
    ∷ writes standard (1 ∷ 2 ∷ 3 ∷ 4 ∷ 5 ∷ 6 ∷ 7 ∷ 8 ∷ 9 ∷ []) 0 (0x96 ∷ 0xA8 ∷ 0 ∷ 1 ∷ 2 ∷ 3 ∷ 4 ∷ 5 ∷ 6 ∷ 7 ∷ [])
    ∷ writes standard (1 ∷ 2 ∷ 3 ∷ 4 ∷ 5 ∷ 6 ∷ 7 ∷ 8 ∷ 9 ∷ []) 1 (0x96 ∷ 0xC3 ∷ 1 ∷ 8 ∷ 9 ∷ [])
    ∷ writes standard (1 ∷ 2 ∷ 3 ∷ 4 ∷ 5 ∷ 6 ∷ 7 ∷ 8 ∷ []) 0 (0x96 ∷ 0xE8 ∷ 1 ∷ 2 ∷ 3 ∷ 4 ∷ 5 ∷ 6 ∷ 7 ∷ 8 ∷ [])
    -- numbers of an extended packet's pieces 63, 64 and 255, of a standard one's 254 and 255
    ∷ writes extended (replicate 2048 7) 63 (0x88 ∷ 0x45 ∷ 0x86 ∷ 0x3F ∷ 0x10 ∷ replicate 8 7)
    ∷ writes extended (replicate 2048 7) 64 (0x88 ∷ 0x45 ∷ 0x86 ∷ 0x00 ∷ 0x10 ∷ replicate 8 7)
    ∷ writes extended (replicate 2048 7) 255 (0x88 ∷ 0x45 ∷ 0x86 ∷ 0xBF ∷ 0x10 ∷ replicate 8 7)
    ∷ writes standard (replicate 1792 7) 254 (0x96 ∷ 0x88 ∷ 254 ∷ replicate 7 7)
    ∷ writes standard (replicate 1792 7) 255 (0x96 ∷ 0xC8 ∷ 255 ∷ replicate 7 7)
    ∷ []

abbrev pub Holds : Bound → Type 0
Holds (counts format size said) = piece_count format size ≡ said
Holds (answers fs size k room said) = answer (send fs (replicate size 7) k room) ≡ said
Holds (writes fs packet k image) = send fs packet k 13 ≡ value image

unfoldable pub SendingBounds : Type 0
SendingBounds = AllHold Holds table
