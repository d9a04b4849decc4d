-- Document 01, the listing program: the bounds of a record ("2 to 15", "version byte 1", "bus byte 0 or 1", "the input ends inside it"),
-- and the columns, words and numbers of a line, each by examples, so that no definition can be changed alike with the code. Tables of
-- what is asked and what is to come of it; proofs/Bounds.antt proves them by computing.
use Rattle.std.specs.Prelude.{ℕ, ◌≡◌, Bool, true, false, List, [], ◌∷◌, replicate}
use Rattle.format.specs.declared.Fields.{Fields}
use Rattle.format.specs.declared.Fields.TheVariants as fields
use Rattle.format.specs.declared.Flag.TheVariants.{Start, Middle, End, Single}
use Rattle.format.specs.declared.Refusal.TheVariants.{Remote, Count, Surplus, Orphan, State}
use Rattle.format.specs.Refusals.{Result, value, refused}
use Rattle.stream.specs.declared.Answer.TheVariants as answer
use Rattle.std.specs.Prelude.{Ok, Err}
use Rattle.trace.specs.declared.Line.{Line}
use Rattle.trace.specs.declared.Line.TheVariants as line
use Rattle.trace.specs.Records.{Found, whole, damaged, cut, none, record_at}
use Rattle.trace.specs.Lines.{ascii, line_text, line_in_range, writing}

pub data Row (A B : Type 0) : Type 0 where
  row : A → B → Row A B

-- what comes of each that is asked, and what is to come
unfoldable pub results : {A B : Type 0} → (A → B) → List (Row A B) → List B
results f [] = []
results f (row a b ∷ rows) = f a ∷ results f rows

unfoldable pub expected : {A B : Type 0} → List (Row A B) → List B
expected [] = []
expected (row a b ∷ rows) = b ∷ expected rows

abbrev pub AllAs : {A B : Type 0} → (A → B) → List (Row A B) → Type 0
AllAs f rows = results f rows ≡ expected rows

-- ---- records

-- 13 bytes of an image, as many as there can be
abbrev most : List ℕ
most = replicate 13 0x81

abbrev pub records : List (Row (List ℕ) Found)
records =
    -- the input ends inside: nowhere, after each byte of the head, inside the image, a byte short of its end
    row [] none
    ∷ row (0x00 ∷ []) cut
    ∷ row (0xFF ∷ []) cut
    ∷ row (0x00 ∷ 0x04 ∷ []) cut
    ∷ row (0x00 ∷ 0x04 ∷ 1 ∷ []) cut
    ∷ row (0x00 ∷ 0x04 ∷ 1 ∷ 0 ∷ []) cut
    ∷ row (0x00 ∷ 0x04 ∷ 1 ∷ 0 ∷ 0x81 ∷ []) cut
    ∷ row (0x00 ∷ 0x04 ∷ 1 ∷ 0 ∷ 0x81 ∷ 0x82 ∷ []) (whole 0 (0x81 ∷ 0x82 ∷ []) 6)
    -- what follows a record is no part of it
    ∷ row (0x00 ∷ 0x04 ∷ 1 ∷ 0 ∷ 0x81 ∷ 0x82 ∷ 0x83 ∷ []) (whole 0 (0x81 ∷ 0x82 ∷ []) 6)
    -- lengths 2 and 15; 0, 1, 16; 2 in the high byte, and 256 and 2
    ∷ row (0x00 ∷ 0x02 ∷ 1 ∷ 0 ∷ []) (whole 0 [] 4)
    ∷ row (0x00 ∷ 0x0F ∷ 1 ∷ 0 ∷ most) (whole 0 most 17)
    ∷ row (0x00 ∷ 0x00 ∷ 1 ∷ 0 ∷ []) damaged
    ∷ row (0x00 ∷ 0x01 ∷ 1 ∷ 0 ∷ []) damaged
    ∷ row (0x00 ∷ 0x10 ∷ 1 ∷ 0 ∷ 0x81 ∷ most) damaged
    ∷ row (0x02 ∷ 0x00 ∷ 1 ∷ 0 ∷ []) damaged
    ∷ row (0x01 ∷ 0x02 ∷ 1 ∷ 0 ∷ []) damaged
    -- a wrong length tells at once
    ∷ row (0x00 ∷ 0x01 ∷ []) damaged
    ∷ row (0x00 ∷ 0x10 ∷ []) damaged
    -- versions 0, 1 and 2
    ∷ row (0x00 ∷ 0x02 ∷ 0 ∷ 0 ∷ []) damaged
    ∷ row (0x00 ∷ 0x02 ∷ 2 ∷ 0 ∷ []) damaged
    -- buses 0, 1 and 2
    ∷ row (0x00 ∷ 0x02 ∷ 1 ∷ 1 ∷ []) (whole 1 [] 4)
    ∷ row (0x00 ∷ 0x02 ∷ 1 ∷ 2 ∷ []) damaged
    -- a wrong version or bus tells when the record is whole: until then the input ends inside it
    ∷ row (0x00 ∷ 0x03 ∷ 2 ∷ 2 ∷ []) cut
    ∷ row (0x00 ∷ 0x03 ∷ 2 ∷ 2 ∷ 0x81 ∷ []) damaged
    ∷ []

unfoldable pub RecordBounds : Type 0
RecordBounds = AllAs record_at records

-- ---- lines

-- an identifier whose fields differ from one another and from what the lines below show beside them
abbrev some : Fields
some = fields.Extended 1 23 3 45 31

abbrev greatest : Fields
greatest = fields.Extended 3 63 3 63 31

abbrev pub lines : List (Row Line (List ℕ))
lines =
    row line.Header (ascii "record bus priority source group dest flag number function count answer\n")
    -- each flag, bus and answer
    ∷ row (line.Frame 12 0 some Middle 62 8 (Ok (answer.Kept false))) (ascii "12 A 1 23 3 45 0 62 31 8 kept\n")
    ∷ row (line.Frame 12 1 some Start 0 8 (Ok (answer.Kept true))) (ascii "12 B 1 23 3 45 1 0 31 8 kept broke\n")
    ∷ row (line.Frame 12 1 some End 62 7 (Ok (answer.Packet 503 false))) (ascii "12 B 1 23 3 45 2 62 31 7 packet 503\n")
    ∷ row (line.Frame 12 0 some Single 0 7 (Ok (answer.Packet 7 true))) (ascii "12 A 1 23 3 45 3 0 31 7 packet 7 broke\n")
    ∷ row (line.Frame 12 0 some Single 0 7 (Ok answer.Filtered)) (ascii "12 A 1 23 3 45 3 0 31 7 filtered\n")
    ∷ row (line.Frame 12 0 some Middle 62 8 (Err Orphan)) (ascii "12 A 1 23 3 45 0 62 31 8 refused 6\n")
    -- the least and the greatest values
    ∷ row (line.Frame 0 0 (fields.Extended 0 0 0 0 0) Middle 0 0 (Ok (answer.Packet 0 false))) (ascii "0 A 0 0 0 0 0 0 0 0 packet 0\n")
    ∷ row (line.Frame 18446744073709551615 1 greatest Single 63 8 (Ok (answer.Packet 18446744073709551615 true)))
    (ascii "18446744073709551615 B 3 63 3 63 3 63 31 8 packet 18446744073709551615 broke\n")
    -- the other lines
    ∷ row (line.Refused 9 0 Remote) (ascii "9 A refused 3\n")
    -- document 02, L4
    ∷ row (line.Refused 9 0 Count) (ascii "9 A refused 4\n")
    ∷ row (line.Refused 9 0 Surplus) (ascii "9 A refused 25\n")
    ∷ row (line.Refused 18446744073709551615 1 State) (ascii "18446744073709551615 B refused 21\n")
    ∷ row (line.Stopped 100) (ascii "100 stopped\n")
    ∷ row (line.Stopped 18446744073709551615) (ascii "18446744073709551615 stopped\n")
    ∷ row (line.Records 0) (ascii "records 0\n")
    ∷ row (line.Records 18446744073709551615) (ascii "records 18446744073709551615\n")
    ∷ []

unfoldable pub LineTexts : Type 0
LineTexts = AllAs line_text lines

-- ---- what is refused

abbrev pub ranges : List (Row Line Bool)
ranges =
    row (line.Frame 1 1 greatest Middle 63 8 (Ok (answer.Kept false))) true
    ∷ row (line.Frame 1 2 greatest Middle 63 8 (Ok (answer.Kept false))) false
    ∷ row (line.Frame 1 1 greatest Middle 64 8 (Ok (answer.Kept false))) false
    ∷ row (line.Frame 1 1 greatest Middle 63 9 (Ok (answer.Kept false))) false
    ∷ row (line.Frame 1 1 (fields.Extended 4 63 3 63 31) Middle 63 8 (Ok (answer.Kept false))) false
    ∷ row (line.Frame 1 1 (fields.Standard 0 0 0) Middle 63 8 (Ok (answer.Kept false))) false
    ∷ row (line.Refused 1 1 Remote) true
    ∷ row (line.Refused 1 2 Remote) false
    ∷ []

-- FIELD before ROOM; an output of just the line's length, and one of a byte less
abbrev pub on_bus_two : List (Row ℕ (Result (List ℕ)))
on_bus_two = row 0 (refused 9) ∷ row 96 (refused 9) ∷ []

abbrev pub rooms : List (Row ℕ (Result (List ℕ)))
rooms = row 9 (refused 12) ∷ row 10 (value (ascii "records 0\n")) ∷ []

unfoldable pub LinesRefused : Type 0
LinesRefused =
    AllAs line_in_range ranges × AllAs (writing (line.Refused 1 2 Remote)) on_bus_two × AllAs (writing (line.Records 0)) rooms
