-- Document 01, the listing program: "It prints the header, one line a record, and the count. Fields are decimal, bus A or B; after the
-- count field comes the answer: packet and length, kept, filtered, or refused and number; "broke" last. An image refused by 1 to 5 shows
-- record, bus and refusal only." Of a damaged record "it prints its number and "stopped"". Document 02, L4: "Demand 3 and the
-- listing treat 25 as 4."
use Rattle.std.specs.Prelude.{ℕ, zero, suc, ◌+◌, ◌/◌, ◌%◌, Bool, true, false, cond, List, [], ◌∷◌, ◌++◌, leb, ltb}
use Prim.Native.Char.{code}
use Prim.Native.String as text
use Prim.Native.String.{String}
use Rattle.format.specs.declared.Fields.{Fields}
use Rattle.format.specs.declared.Fields.TheVariants.{Extended, Standard}
use Rattle.format.specs.declared.Flag.{Flag}
use Rattle.format.specs.declared.Refusal.TheVariants.{Field}
use Rattle.format.specs.Tests.{all_true}
use Rattle.format.specs.Formats.{in_range, flag_bits}
use Rattle.format.specs.Refusals.{Result, value, refused, check, checked_then, number}
use Rattle.format.specs.Outputs.{fitting}
use Rattle.stream.specs.Answers.{Reply, packet, kept, filtered, meaning}
use Rattle.trace.specs.declared.Line.{Line}
use Rattle.trace.specs.declared.Line.TheVariants as line

-- the bytes of a text
abbrev pub ascii : String → List ℕ
ascii text.[] = []
ascii (text.◌∷◌ c s) = code c ∷ ascii s

-- a number in decimal digits, by its first ones and its last; 20 digits hold every number of 64 bits
unfoldable pub digits : (most : ℕ) → ℕ → List ℕ
digits zero n = []
digits (suc most) n = cond (ltb n 10) ((48 + n) ∷ []) (digits most (n / 10) ++ ((48 + n % 10) ∷ []))

unfoldable pub decimal : ℕ → List ℕ
decimal n = digits 20 n

-- a number after a blank; several, one after the other
unfoldable pub field_text : ℕ → List ℕ
field_text n = 32 ∷ decimal n

unfoldable pub fields_text : List ℕ → List ℕ
fields_text [] = []
fields_text (n ∷ ns) = field_text n ++ fields_text ns

-- 0 is A, 1 is B
abbrev pub bus_name : ℕ → List ℕ
bus_name zero = ascii " A"
bus_name (suc n) = ascii " B"

abbrev pub broke_or : Bool → List ℕ
broke_or true = ascii " broke"
broke_or false = []

abbrev pub answer_text : Result Reply → List ℕ
answer_text (value (packet n broke)) = ascii " packet" ++ (field_text n ++ broke_or broke)
answer_text (value (kept broke)) = ascii " kept" ++ broke_or broke
answer_text (value filtered) = ascii " filtered"
answer_text (refused n) = ascii " refused" ++ field_text n

abbrev pub with_newline : List ℕ → List ℕ
with_newline line = line ++ ascii "\n"

unfoldable pub header_line : List ℕ
header_line = ascii "record bus priority source group dest flag number function count answer\n"

-- the fields in the header's order: those of the identifier, with the flag and the piece's number between them, and the count
abbrev pub columns : Fields → (flag n count : ℕ) → List ℕ
columns (Extended priority source group destination function) flag n count =
    priority ∷ source ∷ group ∷ destination ∷ flag ∷ n ∷ function ∷ count ∷ []
columns (Standard priority address side) flag n count = []

-- record r: a frame with its answer; an image refused by 1 to 5 or 25
unfoldable pub frame_line : (r bus : ℕ) → Fields → Flag → (n count : ℕ) → Result Reply → List ℕ
frame_line r bus id flag n count answer =
    with_newline (decimal r ++ (bus_name bus ++ (fields_text (columns id (flag_bits flag) n count) ++ answer_text answer)))

unfoldable pub refused_line : (r bus refusal : ℕ) → List ℕ
refused_line r bus refusal = with_newline (decimal r ++ (bus_name bus ++ answer_text (refused refusal)))

-- a damaged record; how many records there were
unfoldable pub stopped_line : ℕ → List ℕ
stopped_line r = with_newline (decimal r ++ ascii " stopped")

unfoldable pub count_line : ℕ → List ℕ
count_line n = with_newline (ascii "records" ++ field_text n)

-- ---- the call that writes a line

unfoldable pub line_text : Line → List ℕ
line_text line.Header = header_line
line_text (line.Frame r bus id flag n count answer) = frame_line r bus id flag n count (meaning answer)
line_text (line.Refused r bus name) = refused_line r bus (number name)
line_text (line.Stopped r) = stopped_line r
line_text (line.Records n) = count_line n

-- whether the fields are extended ones and, like the bus, the number and the count, in their ranges
abbrev pub extended_in_range : Fields → Bool
extended_in_range (Extended priority source group destination function) = in_range (Extended priority source group destination function)
extended_in_range (Standard priority address side) = false

unfoldable pub line_in_range : Line → Bool
line_in_range line.Header = true
line_in_range (line.Frame r bus id flag n count answer) = all_true (leb bus 1 ∷ extended_in_range id ∷ leb n 63 ∷ leb count 8 ∷ [])
line_in_range (line.Refused r bus name) = leb bus 1
line_in_range (line.Stopped r) = true
line_in_range (line.Records n) = true

-- for an output of `room` bytes. FIELD: the bus or a field is out of range. ROOM: output shorter than the line
unfoldable pub writing : Line → (room : ℕ) → Result (List ℕ)
writing said room =
    checked_then (check Field (line_in_range said) ∷ []) (fitting (line_text said) room)
