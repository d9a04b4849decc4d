-- Document 01, the listing program: "A record is a two-byte big-endian length of what follows (2 to 15), version byte 1, bus byte 0
-- or 1, image." "A record is damaged when its length, version or bus is none of these or the input ends inside it."
use Rattle.std.specs.Prelude.{ℕ, ◌+◌, ◌-◌, ◌*◌, Bool, cond, List, [], ◌∷◌, leb, eqb, length, get_or, take, drop}
use Rattle.trace.specs.declared.Entry.{Entry}
use Rattle.trace.specs.declared.Entry.TheVariants as entry

-- what stands at the head of a trace's bytes: a whole record, with its bus, its image and how many bytes it takes; one that is
-- damaged by its length, version or bus; the beginning of one, which is damaged too if the input ends there; or no byte
pub data Found : Type 0 where
  whole : (bus : ℕ) (image : List ℕ) (size : ℕ) → Found
  damaged : Found
  cut : Found
  none : Found

-- the image of a record of that size: what follows the length, the version and the bus
abbrev pub image_in : (size : ℕ) → List ℕ → List ℕ
image_in size input = take (size - 4) (drop 4 input)

-- what is found unless a test holds
pub data Test : Type 0 where
  unless : (test : Bool) (found : Found) → Test

-- the tests in their order: the first that fails tells what is found; if all hold, it is the last
unfoldable pub found_by : List Test → Found → Found
found_by [] found = found
found_by (unless test other ∷ tests) found = cond test (found_by tests found) other

unfoldable pub record_at : List ℕ → Found
record_at input =
    let byte : ℕ → ℕ = λ i. get_or input i 0 in
    let follows : ℕ = byte 0 * 256 + byte 1 in
    found_by
    (unless (leb 1 (length input)) none
    ∷ unless (leb 2 (length input)) cut
    ∷ unless (leb 2 follows) damaged
    ∷ unless (leb follows 15) damaged
    ∷ unless (leb (2 + follows) (length input)) cut
    ∷ unless (eqb (byte 2) 1) damaged
    ∷ unless (leb (byte 3) 1) damaged
    ∷ [])
    (whole (byte 3) (image_in (2 + follows) input) (2 + follows))

-- what the code's answer says of the bytes
abbrev pub meaning : Entry → List ℕ → Found
meaning (entry.Record bus size) input = whole bus (image_in size input) size
meaning entry.Damaged input = damaged
meaning entry.Cut input = cut
meaning entry.End input = none
