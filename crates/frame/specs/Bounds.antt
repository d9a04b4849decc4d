-- Document 01, "Frame images" and the piece rules: every end of every range, from both sides, the order of refusals 1 to 5, and what
-- stands where; and document 02, L3: what each count code says, and L4: COUNT for an image too short, SURPLUS for one too long. The figures
-- are literals, so that one changed alike in a definition and in the code breaks the claim. proofs/Bounds.antt proves it.
use Rattle.std.specs.Prelude.{ℕ, suc, ◌+◌, ◌*◌, ◌≡◌, Bool, true, false, List, [], ◌∷◌, ◌++◌, replicate}
use Rattle.format.specs.declared.Format.{Format}
use Rattle.format.specs.declared.Format.TheVariants.{Extended, Standard}
use Rattle.format.specs.declared.Fields.{Fields}
use Rattle.format.specs.declared.Fields.TheVariants as fields
use Rattle.format.specs.declared.Flag.{Flag}
use Rattle.format.specs.declared.Flag.TheVariants.{Middle, Start, End, Single}
use Rattle.format.specs.Refusals.{Result, value, refused}
use Rattle.format.specs.Tables.{AllHold}
use Rattle.frame.specs.Judge.{Judged, piece_rule, judge}

pub data Bound : Type 0 where
  -- whether a piece with that count and number keeps its rule
  rules : Format → Flag → (count number : ℕ) → Bool → Bound
  -- an image, and the number it is refused with: 0 if it is sound
  judges : Format → List ℕ → ℕ → Bound
  -- a sound image, and all that is read from it
  reads : Format → List ℕ → Judged → Bound

-- an extended image by its bytes 0, 3 and 4 and the number of its data bytes
abbrev pub extended : (byte0 byte3 byte4 size : ℕ) → List ℕ
extended byte0 byte3 byte4 size = byte0 ∷ 0x45 ∷ 0x86 ∷ byte3 ∷ byte4 ∷ replicate size 7

-- a standard image by its byte 1 and its data bytes: the first, which is the number but for a single, and how many follow
abbrev pub standard : (byte1 first more : ℕ) → List ℕ
standard byte1 first more = 0x96 ∷ byte1 ∷ first ∷ replicate more 7

abbrev pub piece_table : List Bound
piece_table =
    -- single: any count 0 to 8; extended number 0
    rules Extended Single 0 0 true
    ∷ rules Extended Single 8 0 true
    ∷ rules Extended Single 9 0 false
    ∷ rules Extended Single 0 1 false
    ∷ rules Extended Single 8 63 false
    ∷ rules Standard Single 0 0 true
    ∷ rules Standard Single 8 0 true
    ∷ rules Standard Single 9 0 false
    -- start: count 8, number 0
    ∷ rules Extended Start 8 0 true
    ∷ rules Extended Start 7 0 false
    ∷ rules Extended Start 9 0 false
    ∷ rules Extended Start 8 1 false
    ∷ rules Standard Start 8 0 true
    ∷ rules Standard Start 7 0 false
    ∷ rules Standard Start 9 0 false
    ∷ rules Standard Start 8 1 false
    -- middle: count 8; extended any number, standard number 1 to 254
    ∷ rules Extended Middle 8 0 true
    ∷ rules Extended Middle 8 63 true
    ∷ rules Extended Middle 7 1 false
    ∷ rules Extended Middle 9 1 false
    ∷ rules Standard Middle 8 1 true
    ∷ rules Standard Middle 8 0 false
    ∷ rules Standard Middle 8 254 true
    ∷ rules Standard Middle 8 255 false
    ∷ rules Standard Middle 7 1 false
    ∷ rules Standard Middle 9 1 false
    -- end: extended count 1 to 8, any number
    ∷ rules Extended End 1 0 true
    ∷ rules Extended End 0 0 false
    ∷ rules Extended End 0 63 false
    ∷ rules Extended End 8 63 true
    ∷ rules Extended End 9 63 false
    -- end: standard number 1 to 255 and count 2 to 8, but at least 3 where the number is 1
    ∷ rules Standard End 8 1 true
    ∷ rules Standard End 8 0 false
    ∷ rules Standard End 8 255 true
    ∷ rules Standard End 8 256 false
    ∷ rules Standard End 9 255 false
    ∷ rules Standard End 2 2 true
    ∷ rules Standard End 1 2 false
    ∷ rules Standard End 2 255 true
    ∷ rules Standard End 1 255 false
    ∷ rules Standard End 3 1 true
    ∷ rules Standard End 2 1 false
    ∷ []

abbrev pub image_table : List Bound
image_table =
    -- extended: 5 to 13 bytes
    judges Extended (0x80 ∷ 0x45 ∷ 0x00 ∷ 0xC0 ∷ []) 1
    ∷ judges Extended (extended 0x80 0xC0 0x10 0) 0
    ∷ judges Extended (extended 0x88 0xC0 0x10 8) 0
    ∷ judges Extended (extended 0x89 0xC0 0x10 9) 1
    -- each fixed bit
    ∷ judges Extended (extended 0x01 0xC0 0x10 1) 2
    ∷ judges Extended (extended 0xA1 0xC0 0x10 1) 2
    ∷ judges Extended (extended 0x91 0xC0 0x10 1) 2
    ∷ judges Extended (extended 0x81 0xC0 0x14 1) 2
    ∷ judges Extended (extended 0x81 0xC0 0x12 1) 2
    ∷ judges Extended (extended 0x81 0xC0 0x11 1) 2
    -- RTR
    ∷ judges Extended (extended 0xC1 0xC0 0x10 1) 3
    -- a piece of each flag, and one that breaks its rule
    ∷ judges Extended (extended 0x81 0xC1 0x10 1) 5
    ∷ judges Extended (extended 0x88 0x40 0x10 8) 0
    ∷ judges Extended (extended 0x88 0x41 0x10 8) 5
    ∷ judges Extended (extended 0x88 0x3F 0x10 8) 0
    ∷ judges Extended (extended 0x87 0x3F 0x10 7) 5
    ∷ judges Extended (extended 0x81 0xBF 0x10 1) 0
    ∷ judges Extended (extended 0x80 0xBF 0x10 0) 5
    -- two refusals apply: LENGTH before FORM, FORM before REMOTE, REMOTE before COUNT, COUNT before PIECE
    ∷ judges Extended (extended 0x11 0xC0 0x10 9) 1
    ∷ judges Extended (extended 0xD1 0xC0 0x10 1) 2
    ∷ judges Extended (extended 0xC2 0xC0 0x10 1) 3
    ∷ judges Extended (extended 0x82 0xC1 0x10 1) 4
    -- standard: 2 to 10 bytes
    ∷ judges Standard (0x96 ∷ []) 1
    ∷ judges Standard (0x96 ∷ 0xE0 ∷ []) 0
    ∷ judges Standard (standard 0xE8 7 7) 0
    ∷ judges Standard (standard 0xE9 7 8) 1
    -- RTR, and pieces
    ∷ judges Standard (standard 0xF1 7 0) 3
    ∷ judges Standard (standard 0xA8 0 7) 0
    ∷ judges Standard (standard 0xA8 1 7) 5
    ∷ judges Standard (standard 0x88 254 7) 0
    ∷ judges Standard (standard 0x88 255 7) 5
    ∷ judges Standard (standard 0xC2 255 1) 0
    ∷ judges Standard (standard 0xC1 255 0) 5
    -- LENGTH before REMOTE, REMOTE before COUNT, COUNT before PIECE
    ∷ judges Standard (standard 0xF9 7 8) 1
    ∷ judges Standard (standard 0xF2 7 0) 3
    ∷ judges Standard (standard 0xC2 1 0) 4
    ∷ []

-- a piece by its flag's bits, its count code and the number of its data bytes, all of them 7
abbrev pub coded_piece : Format → (flag code size : ℕ) → List ℕ
coded_piece Extended flag code size = extended (0x80 + code) (0x40 * flag) 0x10 size
coded_piece Standard flag code size = 0x96 ∷ (0x80 + 0x20 * flag + code) ∷ replicate size 7

-- document 02, L4: the number that a single is refused with, 0 if it is sound, by its count code (a row for each of 0 to 15; by L3 all from
-- 8 on say eight) and its data bytes (0 to 9): COUNT for an image too short, SURPLUS for one too long, LENGTH for nine data bytes
abbrev pub length_table : List (List ℕ)
length_table =
    (0 ∷ 25 ∷ 25 ∷ 25 ∷ 25 ∷ 25 ∷ 25 ∷ 25 ∷ 25 ∷ 1 ∷ [])
    ∷ (4 ∷ 0 ∷ 25 ∷ 25 ∷ 25 ∷ 25 ∷ 25 ∷ 25 ∷ 25 ∷ 1 ∷ [])
    ∷ (4 ∷ 4 ∷ 0 ∷ 25 ∷ 25 ∷ 25 ∷ 25 ∷ 25 ∷ 25 ∷ 1 ∷ [])
    ∷ (4 ∷ 4 ∷ 4 ∷ 0 ∷ 25 ∷ 25 ∷ 25 ∷ 25 ∷ 25 ∷ 1 ∷ [])
    ∷ (4 ∷ 4 ∷ 4 ∷ 4 ∷ 0 ∷ 25 ∷ 25 ∷ 25 ∷ 25 ∷ 1 ∷ [])
    ∷ (4 ∷ 4 ∷ 4 ∷ 4 ∷ 4 ∷ 0 ∷ 25 ∷ 25 ∷ 25 ∷ 1 ∷ [])
    ∷ (4 ∷ 4 ∷ 4 ∷ 4 ∷ 4 ∷ 4 ∷ 0 ∷ 25 ∷ 25 ∷ 1 ∷ [])
    ∷ (4 ∷ 4 ∷ 4 ∷ 4 ∷ 4 ∷ 4 ∷ 4 ∷ 0 ∷ 25 ∷ 1 ∷ [])
    ∷ replicate 8 (4 ∷ 4 ∷ 4 ∷ 4 ∷ 4 ∷ 4 ∷ 4 ∷ 4 ∷ 0 ∷ 1 ∷ [])

-- the examples of one row, from so many data bytes on; and of all rows, from a count code on
abbrev pub length_row : Format → (code size : ℕ) → List ℕ → List Bound
length_row format code size [] = []
length_row format code size (n ∷ ns) = judges format (coded_piece format 0b11 code size) n ∷ length_row format code (suc size) ns

abbrev pub length_rows : Format → (code : ℕ) → List (List ℕ) → List Bound
length_rows format code [] = []
length_rows format code (row ∷ rows) = length_row format code 0 row ++ length_rows format (suc code) rows

-- "at the same place in the order", where two refusals apply: SURPLUS before PIECE, a start, a middle and an end
abbrev pub order_rows : Format → List Bound
order_rows format =
    judges format (coded_piece format 0b01 7 8) 25 ∷ judges format (coded_piece format 0b00 7 8) 25 ∷ judges format (coded_piece format 0b10 0 1) 25 ∷ []

-- and an extended single; FORM and REMOTE before SURPLUS
abbrev pub length_order : List Bound
length_order =
    judges Extended (extended 0x81 0xC1 0x10 2) 25
    ∷ judges Extended (extended 0x91 0xC0 0x10 2) 2
    ∷ judges Extended (extended 0x81 0xC0 0x11 2) 2
    ∷ judges Extended (extended 0xC1 0xC0 0x10 2) 3
    ∷ judges Standard (standard 0xF1 7 1) 3
    ∷ []

-- in both formats
abbrev pub in_both : (Format → List Bound) → List Bound
in_both rows = rows Extended ++ rows Standard

-- each row with each of the count codes 8 to 15
abbrev pub for_codes : List (ℕ → Bound) → List Bound
for_codes [] = []
for_codes (row ∷ rows) = row 8 ∷ row 9 ∷ row 10 ∷ row 11 ∷ row 12 ∷ row 13 ∷ row 14 ∷ row 15 ∷ for_codes rows

-- document 02, L3: what is judged is the same with each of them
abbrev pub code_table : List Bound
code_table =
    for_codes
    -- extended: a start, a middle and an end are sound before eight data bytes; singles stand in `length_table`
    ((λ code. judges Extended (extended (0x80 + code) 0x40 0x10 8) 0)
    ∷ (λ code. judges Extended (extended (0x80 + code) 0x3F 0x10 8) 0)
    ∷ (λ code. judges Extended (extended (0x80 + code) 0xBF 0x10 8) 0)
    -- a piece rule broken; FORM and REMOTE come before COUNT, and COUNT before PIECE
    ∷ (λ code. judges Extended (extended (0x80 + code) 0xC1 0x10 8) 5)
    ∷ (λ code. judges Extended (extended (0x80 + code) 0x41 0x10 8) 5)
    ∷ (λ code. judges Extended (extended (0x90 + code) 0xC0 0x10 7) 2)
    ∷ (λ code. judges Extended (extended (0x80 + code) 0xC0 0x11 7) 2)
    ∷ (λ code. judges Extended (extended (0xC0 + code) 0xC0 0x10 7) 3)
    ∷ (λ code. judges Extended (extended (0x80 + code) 0x41 0x10 7) 4)
    -- standard: the same, where the eight data bytes include the number
    ∷ (λ code. judges Standard (standard (0xA0 + code) 0 7) 0)
    ∷ (λ code. judges Standard (standard (0x80 + code) 254 7) 0)
    ∷ (λ code. judges Standard (standard (0xC0 + code) 255 7) 0)
    ∷ (λ code. judges Standard (standard (0xA0 + code) 1 7) 5)
    ∷ (λ code. judges Standard (standard (0x80 + code) 255 7) 5)
    ∷ (λ code. judges Standard (standard (0xC0 + code) 0 7) 5)
    ∷ (λ code. judges Standard (standard (0xF0 + code) 7 6) 3)
    ∷ (λ code. judges Standard (standard (0xA0 + code) 1 6) 4)
    ∷ [])

abbrev judged_frame : Fields → Flag → (number : ℕ) → (bytes : List ℕ) → (start : ℕ) → Judged
judged_frame said flag n bytes start =
    record { frame = record { fields = said; flag = flag; number = n; bytes = bytes }; start = start }

-- what stands where: an image of each flag
abbrev pub layout_table : List Bound
layout_table =
    reads Extended (0x80 ∷ 0x00 ∷ 0x00 ∷ 0xC0 ∷ 0x00 ∷ []) (judged_frame (fields.Extended 0 0 0 0 0) Single 0 [] 5)
    ∷ reads Extended (extended 0x88 0x40 0x10 8) (judged_frame (fields.Extended 1 5 2 6 2) Start 0 (replicate 8 7) 5)
    ∷ reads Extended (0x88 ∷ 0xFF ∷ 0xFF ∷ 0x3F ∷ 0xF8 ∷ replicate 8 7)
    (judged_frame (fields.Extended 3 63 3 63 31) Middle 63 (replicate 8 7) 5)
    ∷ reads Extended (0x82 ∷ 0x45 ∷ 0x86 ∷ 0x81 ∷ 0x10 ∷ 8 ∷ 9 ∷ []) (judged_frame (fields.Extended 1 5 2 6 2) End 1 (8 ∷ 9 ∷ []) 5)
    ∷ reads Extended (0x8C ∷ 0x45 ∷ 0x86 ∷ 0x82 ∷ 0x10 ∷ 1 ∷ 2 ∷ 3 ∷ 4 ∷ 5 ∷ 6 ∷ 7 ∷ 8 ∷ [])
    (judged_frame (fields.Extended 1 5 2 6 2) End 2 (1 ∷ 2 ∷ 3 ∷ 4 ∷ 5 ∷ 6 ∷ 7 ∷ 8 ∷ []) 5)
    ∷ reads Standard (0xFF ∷ 0x62 ∷ 8 ∷ 9 ∷ []) (judged_frame (fields.Standard 3 63 0) Single 0 (8 ∷ 9 ∷ []) 2)
    ∷ reads Standard (standard 0xA8 0 7) (judged_frame (fields.Standard 2 22 1) Start 0 (replicate 7 7) 3)
    ∷ reads Standard (0x05 ∷ 0x08 ∷ 254 ∷ replicate 7 7) (judged_frame (fields.Standard 0 5 0) Middle 254 (replicate 7 7) 3)
    ∷ reads Standard (0x96 ∷ 0xCC ∷ 2 ∷ 1 ∷ 2 ∷ 3 ∷ 4 ∷ 5 ∷ 6 ∷ 7 ∷ [])
    (judged_frame (fields.Standard 2 22 1) End 2 (1 ∷ 2 ∷ 3 ∷ 4 ∷ 5 ∷ 6 ∷ 7 ∷ []) 3)
    ∷ reads Standard (0x96 ∷ 0xC3 ∷ 1 ∷ 8 ∷ 9 ∷ []) (judged_frame (fields.Standard 2 22 1) End 1 (8 ∷ 9 ∷ []) 3)
    ∷ []

-- the number that a result is refused with, 0 if it is not
abbrev pub refusal_of : Result Judged → ℕ
refusal_of (value judged) = 0
refusal_of (refused n) = n

abbrev pub Holds : Bound → Type 0
Holds (rules format flag count number ok) = piece_rule format flag count number ≡ ok
Holds (judges format image n) = refusal_of (judge format image) ≡ n
Holds (reads format image judged) = judge format image ≡ value judged

abbrev pub table : List Bound
table =
    piece_table
    ++ (image_table
    ++ (in_both (λ format. length_rows format 0 length_table) ++ (in_both order_rows ++ (length_order ++ (code_table ++ layout_table)))))

unfoldable pub JudgingBounds : Type 0
JudgingBounds = AllHold Holds table
