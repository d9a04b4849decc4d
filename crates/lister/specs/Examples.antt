-- Document 01, the listing program's example: "Empty input gives the header and "records 0"", and the input and whole output at the end
-- of the paragraph. Beside it further examples, at the bounds of what the paragraph says. proofs/Examples.antt proves both tables by
-- computing.
use Rattle.std.specs.Prelude.{ℕ, zero, suc, List, [], ◌∷◌, ◌++◌, replicate}
use Prim.Native.String.{String}
use Rattle.trace.specs.Lines.{ascii}
use Rattle.trace.specs.Bounds.{Row, row, AllAs}
use Rattle.lister.specs.Claims.{program}

abbrev pub zeros : List ℕ
zeros = replicate 32768 0

-- the header and further lines, each with its newline
abbrev text_of : List String → List ℕ
text_of [] = []
text_of (line ∷ lines) = ascii line ++ (ascii "\n" ++ text_of lines)

abbrev headed : List String → List ℕ
headed lines = text_of ("record bus priority source group dest flag number function count answer" ∷ lines)

-- ---- document 01's

abbrev first : List ℕ
first = 0x00 ∷ 0x08 ∷ 0x01 ∷ 0x00 ∷ 0x81 ∷ 0x45 ∷ 0x00 ∷ 0xC0 ∷ 0x10 ∷ 0x07 ∷ []

abbrev second : List ℕ
second = 0x00 ∷ 0x0F ∷ 0x01 ∷ 0x01 ∷ 0x88 ∷ 0x06 ∷ 0x00 ∷ 0x40 ∷ 0x10 ∷ 0x30 ∷ 0x30 ∷ 0x34 ∷ 0x31 ∷ 0x32 ∷ 0x37 ∷ 0x30 ∷ 0x31 ∷ []

abbrev third : List ℕ
third = 0x00 ∷ 0x08 ∷ 0x01 ∷ 0x01 ∷ 0x81 ∷ 0x06 ∷ 0x00 ∷ 0x81 ∷ 0x10 ∷ 0x39 ∷ []

abbrev fourth : List ℕ
fourth = 0x00 ∷ 0x07 ∷ 0x01 ∷ 0x00 ∷ 0xC0 ∷ 0x45 ∷ 0x00 ∷ 0xC0 ∷ 0x10 ∷ []

abbrev pub examples : List (Row (List ℕ) (List ℕ))
examples =
    row [] (headed ("records 0" ∷ []))
    ∷ row (first ++ (second ++ (third ++ fourth)))
    (headed
    ("1 A 1 5 0 0 3 0 2 1 packet 1"
    ∷ "2 B 0 6 0 0 1 0 2 8 kept"
    ∷ "3 B 0 6 0 0 2 1 2 1 packet 9"
    ∷ "4 A refused 3"
    ∷ "records 4"
    ∷ []))
    ∷ []

unfoldable pub ListingExamples : Type 0
ListingExamples = AllAs (program zeros) examples

-- ---- at the bounds

-- an empty single from each of so many sources, the first of which is `source`
abbrev singles : (n source : ℕ) → List ℕ
singles zero source = []
singles (suc n) source = 0x00 ∷ 0x07 ∷ 0x01 ∷ 0x00 ∷ 0x80 ∷ source ∷ 0x00 ∷ 0xC0 ∷ 0x10 ∷ singles n (suc source)

-- an end, a middle and a start; the first and the last are of one key
abbrev an_end : List ℕ
an_end = 0x00 ∷ 0x08 ∷ 0x01 ∷ 0x00 ∷ 0x81 ∷ 0x45 ∷ 0x00 ∷ 0x81 ∷ 0x10 ∷ 0x07 ∷ []

abbrev a_middle : List ℕ
a_middle = 0x00 ∷ 0x0F ∷ 0x01 ∷ 0x01 ∷ 0x88 ∷ 0x06 ∷ 0x00 ∷ 0x01 ∷ 0x10 ∷ 0x30 ∷ 0x30 ∷ 0x34 ∷ 0x31 ∷ 0x32 ∷ 0x37 ∷ 0x30 ∷ 0x31 ∷ []

abbrev a_start : List ℕ
a_start = 0x00 ∷ 0x0F ∷ 0x01 ∷ 0x00 ∷ 0x88 ∷ 0x45 ∷ 0x00 ∷ 0x40 ∷ 0x10 ∷ 0x30 ∷ 0x30 ∷ 0x34 ∷ 0x31 ∷ 0x32 ∷ 0x37 ∷ 0x30 ∷ 0x31 ∷ []

-- a record of that size with bytes 0 and 3 of its image, and so many data bytes
abbrev coded : (size byte0 byte3 count : ℕ) → List ℕ
coded size byte0 byte3 count = 0x00 ∷ size ∷ 0x01 ∷ 0x00 ∷ byte0 ∷ 0x45 ∷ 0x00 ∷ byte3 ∷ 0x10 ∷ replicate count 7

abbrev pub at_bounds : List (Row (List ℕ) (List ℕ))
at_bounds =
    -- a damaged record "prints its number and "stopped" and isn't counted; the count line follows and nothing after is read"
    row (0x00 ∷ 0x01 ∷ first) (headed ("1 stopped" ∷ "records 0" ∷ []))
    ∷ row (first ++ (0x00 ∷ 0x02 ∷ 0x02 ∷ 0x00 ∷ first)) (headed ("1 A 1 5 0 0 3 0 2 1 packet 1" ∷ "2 stopped" ∷ "records 1" ∷ []))
    -- so does one that "the input ends inside"
    ∷ row (0x00 ∷ []) (headed ("1 stopped" ∷ "records 0" ∷ []))
    ∷ row (first ++ (0x00 ∷ 0x03 ∷ 0x01 ∷ 0x00 ∷ [])) (headed ("1 A 1 5 0 0 3 0 2 1 packet 1" ∷ "2 stopped" ∷ "records 1" ∷ []))
    -- an image that is refused opens nothing and is counted; so is an empty one
    ∷ row (0x00 ∷ 0x02 ∷ 0x01 ∷ 0x01 ∷ []) (headed ("1 B refused 1" ∷ "records 1" ∷ []))
    -- "It opens each new key as first seen, up to 16": the seventeenth is "filtered", and the first is open still
    ∷ row (singles 17 0 ++ singles 1 0)
    (headed
    ("1 A 0 0 0 0 3 0 2 0 packet 0"
    ∷ "2 A 0 1 0 0 3 0 2 0 packet 0"
    ∷ "3 A 0 2 0 0 3 0 2 0 packet 0"
    ∷ "4 A 0 3 0 0 3 0 2 0 packet 0"
    ∷ "5 A 0 4 0 0 3 0 2 0 packet 0"
    ∷ "6 A 0 5 0 0 3 0 2 0 packet 0"
    ∷ "7 A 0 6 0 0 3 0 2 0 packet 0"
    ∷ "8 A 0 7 0 0 3 0 2 0 packet 0"
    ∷ "9 A 0 8 0 0 3 0 2 0 packet 0"
    ∷ "10 A 0 9 0 0 3 0 2 0 packet 0"
    ∷ "11 A 0 10 0 0 3 0 2 0 packet 0"
    ∷ "12 A 0 11 0 0 3 0 2 0 packet 0"
    ∷ "13 A 0 12 0 0 3 0 2 0 packet 0"
    ∷ "14 A 0 13 0 0 3 0 2 0 packet 0"
    ∷ "15 A 0 14 0 0 3 0 2 0 packet 0"
    ∷ "16 A 0 15 0 0 3 0 2 0 packet 0"
    ∷ "17 A 0 16 0 0 3 0 2 0 filtered"
    ∷ "18 A 0 0 0 0 3 0 2 0 packet 0"
    ∷ "records 18"
    ∷ []))
    -- a key is seen first in an end, or in a middle, too: it is ORPHAN, not "filtered", and its key is open, so that a start of its own is
    -- "kept"
    ∷ row (an_end ++ (a_middle ++ (a_start ++ an_end)))
    (headed
    ("1 A 1 5 0 0 2 1 2 1 refused 6"
    ∷ "2 B 0 6 0 0 0 1 2 8 refused 6"
    ∷ "3 A 1 5 0 0 1 0 2 8 kept"
    ∷ "4 A 1 5 0 0 2 1 2 1 packet 9"
    ∷ "records 4"
    ∷ []))
    -- document 02, L3: "the listing prints 8 for such a count", of 9 to 15; with seven data bytes the image is refused
    ∷ row (coded 0x0F 0x89 0x40 8
    ++ (coded 0x0F 0x8C 0x01 8 ++ (coded 0x0F 0x8F 0x82 8 ++ (coded 0x0F 0x8C 0xC0 8 ++ coded 0x0E 0x8C 0xC0 7))))
    (headed
    ("1 A 1 5 0 0 1 0 2 8 kept"
    ∷ "2 A 1 5 0 0 0 1 2 8 kept"
    ∷ "3 A 1 5 0 0 2 2 2 8 packet 24"
    ∷ "4 A 1 5 0 0 3 0 2 8 packet 8"
    ∷ "5 A refused 4"
    ∷ "records 5"
    ∷ []))
    -- document 02, L4: "Demand 3 and the listing treat 25 as 4." Images too long and too short for their counts, between the pieces of a
    -- packet: each shows record, bus and refusal only, and the packet is whole
    ∷ row (coded 0x0F 0x88 0x40 8
    ++ (coded 0x0F 0x87 0x01 8
    ++ (coded 0x0E 0x88 0x01 7 ++ (coded 0x0F 0x88 0x01 8 ++ (coded 0x09 0x81 0x82 2 ++ coded 0x08 0x81 0x82 1)))))
    (headed
    ("1 A 1 5 0 0 1 0 2 8 kept"
    ∷ "2 A refused 25"
    ∷ "3 A refused 4"
    ∷ "4 A 1 5 0 0 0 1 2 8 kept"
    ∷ "5 A refused 25"
    ∷ "6 A 1 5 0 0 2 2 2 1 packet 17"
    ∷ "records 6"
    ∷ []))
    ∷ []

unfoldable pub ListingBounds : Type 0
ListingBounds = AllAs (program zeros) at_bounds
