-- The calls of the library that add something to the definitions of the crates below: a format handed in as a number, and where
-- a packet begins. All others are those definitions, with their answers as numbers (Answers).
use Rattle.std.specs.Prelude.{ℕ, ◌*◌, cond, List, leb, eqb, length}
use Rattle.format.specs.declared.Refusal.TheVariants.{Field, State}
use Rattle.format.specs.Refusals.{Result, value, refused, number}
use Rattle.packet.specs.Send.{piece_count}
use Rattle.station_bytes.specs.Calls.{StateAfter, renewed}
use Rattle.station_bytes.specs.States.{format_in}

-- FIELD: a format that is neither
unfoldable pub count_in : (format size : ℕ) → Result ℕ
count_in format size = cond (leb format 1) (piece_count (format_in format) size) (refused (number Field))

abbrev pub unchanged : List ℕ → Result ℕ → StateAfter
unchanged state answer = record { answer = answer; state = state }

-- STATE: another number of bytes. FIELD: a format that is neither
unfoldable pub new_in : List ℕ → (format : ℕ) → StateAfter
new_in state format =
    cond (eqb (length state) 130) (cond (leb format 1) (renewed state (format_in format)) (unchanged state (refused (number Field))))
    (unchanged state (refused (number State)))

-- "Reading a done slot returns that part of the store itself, the head of the area": where in the store it begins; a refusal leaves the
-- number handed in
abbrev pub start_after : Result (List ℕ) → (slot start : ℕ) → ℕ
start_after (value packet) slot start = 2048 * slot
start_after (refused n) slot start = start
