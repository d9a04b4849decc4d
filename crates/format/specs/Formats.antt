-- Document 01, "Splitting": "The limits of each format stand with that format under its own name: 2,048 bytes extended,
-- 1,792 standard (256 pieces in each). [..] Fields: priority 0 to 3, source, destination and address 0 to 63, group 0 to 3,
-- function 0 to 31, side 0 to 1."
use Rattle.std.specs.Prelude.{ℕ, ◌+◌, Bool, true, false, cond, [], ◌∷◌, leb}
use Rattle.format.specs.declared.Format.{Format}
use Rattle.format.specs.declared.Format.TheVariants.{Extended, Standard}
use Rattle.format.specs.declared.Fields.{Fields}
use Rattle.format.specs.declared.Fields.TheVariants as fields
use Rattle.format.specs.declared.Flag.{Flag}
use Rattle.format.specs.declared.Flag.TheVariants.{Middle, Start, End, Single}
use Rattle.format.specs.Tests.{all_true}

-- the one of the two that is a format's
abbrev pub own : Format → ℕ → ℕ → ℕ
own Extended extended standard = extended
own Standard extended standard = standard

-- most bytes in a packet
abbrev pub packet_limit : Format → ℕ
packet_limit Extended = 2048
packet_limit Standard = 1792

-- packet bytes in a filled piece
abbrev pub piece_size : Format → ℕ
piece_size Extended = 8
piece_size Standard = 7

-- image bytes before the data bytes
abbrev pub header_size : Format → ℕ
header_size Extended = 5
header_size Standard = 2

-- values that a number takes: it is taken modulo 64 in extended; a standard packet has 256 pieces at most, so modulo 256 is
-- no change there
abbrev pub number_range : Format → ℕ
number_range Extended = 64
number_range Standard = 256

-- "Frame images": "Flags: 01 start, 00 middle, 10 end, 11 single."
abbrev pub flag_bits : Flag → ℕ
flag_bits Start = 1
flag_bits Middle = 0
flag_bits End = 2
flag_bits Single = 3

-- "Frame images": "In a start, middle or end piece the first data byte is the number; it isn't packet data." This is said of
-- the standard image; an extended one has its number in byte 3
abbrev pub numbered : Format → Flag → Bool
numbered Extended flag = false
numbered Standard Start = true
numbered Standard Middle = true
numbered Standard End = true
numbered Standard Single = false

-- where in an image the packet bytes begin: after the header and the number, where that is among the data bytes. They run to
-- the image's end
abbrev pub packet_start : Format → Flag → ℕ
packet_start format flag = cond (numbered format flag) (header_size format + 1) (header_size format)

-- the format of fields, and whether each is in its range. A standard frame's side says who sent it: 0 the master,
-- 1 a slave (source Table 6)
abbrev pub format_of : Fields → Format
format_of (fields.Extended priority source group destination function) = Extended
format_of (fields.Standard priority address side) = Standard

unfoldable pub in_range : Fields → Bool
in_range (fields.Extended priority source group destination function) =
    all_true (leb priority 3 ∷ leb source 63 ∷ leb group 3 ∷ leb destination 63 ∷ leb function 31 ∷ [])
in_range (fields.Standard priority address side) = all_true (leb priority 3 ∷ leb address 63 ∷ leb side 1 ∷ [])
