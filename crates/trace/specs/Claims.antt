-- What is proved of lines and records; proofs/LineRoom.antt, proofs/Decimals.antt and proofs/Arriving.antt have the proofs.
use Rattle.std.specs.Prelude.{ℕ, ◌+◌, ◌-◌, ◌*◌, ◌≤◌, ◌<◌, ◌≡◌, ◌≢◌, Bool, true, ◌&&◌, List, [], ◌∷◌, ◌++◌, leb, length, get_or}
use Rattle.trace.specs.declared.Entry.{Entry}
use Rattle.trace.specs.declared.Line.{Line}
use Rattle.trace.specs.Records.{whole, cut, none, record_at, meaning}
use Rattle.trace.specs.Lines.{ascii, digits, decimal, line_text, line_in_range}

-- no line that is not refused by FIELD has more than 96 bytes (`LINE_ROOM`)
unfoldable pub RoomForLine : Type 0
RoomForLine = (line : Line) → line_in_range line ≡ true → length (line_text line) ≤ 96

-- ---- numbers in decimal

-- whether each is a byte '0' to '9'
unfoldable pub are_digits : List ℕ → Bool
are_digits [] = true
are_digits (d ∷ ds) = leb 48 d && (leb d 57 && are_digits ds)

-- the digits after a number, read by ten
unfoldable pub read_by_ten : ℕ → List ℕ → ℕ
read_by_ten n [] = n
read_by_ten n (d ∷ ds) = read_by_ten (10 * n + (d - 48)) ds

-- a text is a number's decimal: digits, of which the first is '0' only in "0", and which read by ten give the number
pub record InDecimal (n : ℕ) (text : List ℕ) : Type 0 where
  pub digits : are_digits text ≡ true
  pub first : get_or text 0 48 ≡ 48 → text ≡ ascii "0"
  pub read : read_by_ten 0 text ≡ n

-- every number of 64 bits is shown in its decimal; 20 digits are enough for that, and 19 are not
unfoldable pub Decimal : Type 0
Decimal =
    ((n : ℕ) → n < 18446744073709551616 → InDecimal n (decimal n))
    × (read_by_ten 0 (digits 19 18446744073709551615) ≢ 18446744073709551615)

-- ---- records

-- what stands at the head of the bytes that are there stays when more arrive, unless they end inside a record or there is none
unfoldable pub Arriving : Type 0
Arriving = (input more : List ℕ) → record_at input ≢ cut → record_at input ≢ none → record_at (input ++ more) ≡ record_at input

-- a whole record takes four bytes or more, and no more than there are; its bus is 0 or 1
unfoldable pub Sized : Type 0
Sized =
    (input : List ℕ) (bus : ℕ) (image : List ℕ) (size : ℕ) → record_at input ≡ whole bus image size
    → (4 ≤ size) × (size ≤ length input) × (bus ≤ 1)

-- an answer's meaning leaves no doubt which answer it is, so the contract of reading determines the answer
unfoldable pub OneEntry : Type 0
OneEntry = (a b : Entry) (input : List ℕ) → meaning a input ≡ meaning b input → a ≡ b
