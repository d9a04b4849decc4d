-- The 130 bytes of a station, once more as literals: what a state that was written yesterday is read by tomorrow, so that a layout changed
-- alike in the definitions and in the code breaks the claim; and which bytes are no state. proofs/Bounds.antt proves it.
use Rattle.std.specs.Prelude.{ℕ, ◌*◌, ◌≡◌, Bool, true, false, List, [], ◌∷◌, ◌++◌, replicate}
use Rattle.format.specs.declared.Format.{Format}
use Rattle.format.specs.declared.Format.TheVariants.{Extended, Standard}
use Rattle.format.specs.declared.Fields.TheVariants as fields
use Rattle.format.specs.Refusals.{Result, value, refused}
use Rattle.format.specs.Tables.{AllHold}
use Rattle.stream.specs.declared.Progress.{Progress}
use Rattle.stream.specs.declared.Progress.TheVariants.{Idle, Collecting, Done}
use Rattle.slot.specs.declared.Slot.{Slot}
use Rattle.slot.specs.Slots.{closed_slot, open_slot}
use Rattle.slot.specs.Bounds.{key_with}
use Rattle.station.specs.Stations.{station_of}
use Rattle.station_bytes.specs.States.{state_bytes, is_state}
use Rattle.station_bytes.specs.Calls.{renewed}

pub data Bound : Type 0 where
  -- a station's bytes
  writes : Format → List Slot → List ℕ → Bound
  -- whether bytes are a state's
  states : List ℕ → Bool → Bound
  -- so many bytes made a new station's: the answer, and the bytes
  renews : (size : ℕ) → Format → Result ℕ → List ℕ → Bound

-- an extended key of bus B with five different fields, and a standard one
abbrev node : Progress → Slot
node progress = open_slot (key_with 1 (fields.Extended 1 5 2 6 3)) progress

abbrev unit : Progress → Slot
unit progress = open_slot (key_with 1 (fields.Standard 2 22 1)) progress

-- the bytes of so many closed slots
abbrev closed : ℕ → List ℕ
closed n = replicate (8 * n) 0

-- fifteen closed slots behind a record, the format and the layout
abbrev first : (bytes : List ℕ) (format : ℕ) → List ℕ
first bytes format = bytes ++ (closed 15 ++ (format ∷ 1 ∷ []))

abbrev pub table : List Bound
table =
    -- new ones: every slot closed, then the format, 0 extended and 1 standard, then the layout
    writes Extended (replicate 16 closed_slot) (closed 16 ++ (0 ∷ 1 ∷ []))
    ∷ writes Standard (replicate 16 closed_slot) (closed 16 ++ (1 ∷ 1 ∷ []))
    -- extended: priority, function × 4, bus × 128; source; group; destination. Then h, and 1 idle, 2 collecting, 3 done
    ∷ writes Extended (node Idle ∷ replicate 15 closed_slot) (first (0x8D ∷ 5 ∷ 2 ∷ 6 ∷ 0 ∷ 0 ∷ 1 ∷ 0 ∷ []) 0)
    ∷ writes Extended (node (Collecting 520) ∷ replicate 15 closed_slot) (first (0x8D ∷ 5 ∷ 2 ∷ 6 ∷ 0x08 ∷ 0x02 ∷ 2 ∷ 0 ∷ []) 0)
    ∷ writes Extended (node (Done 521) ∷ replicate 15 closed_slot) (first (0x8D ∷ 5 ∷ 2 ∷ 6 ∷ 0x09 ∷ 0x02 ∷ 3 ∷ 0 ∷ []) 0)
    -- standard: priority, bus × 128; address and 64; side
    ∷ writes Standard (unit Idle ∷ replicate 15 closed_slot) (first (0x82 ∷ 0x56 ∷ 1 ∷ 0 ∷ 0 ∷ 0 ∷ 1 ∷ 0 ∷ []) 1)
    -- slot i has the eight bytes from 8 × i
    ∷ writes Extended (closed_slot ∷ node Idle ∷ replicate 14 closed_slot)
    (closed 1 ++ ((0x8D ∷ 5 ∷ 2 ∷ 6 ∷ 0 ∷ 0 ∷ 1 ∷ 0 ∷ []) ++ (closed 14 ++ (0 ∷ 1 ∷ []))))
    ∷ writes Extended (replicate 15 closed_slot ++ (node (Done 0) ∷ [])) (closed 15 ++ (0x8D ∷ 5 ∷ 2 ∷ 6 ∷ 0 ∷ 0 ∷ 3 ∷ 0 ∷ 0 ∷ 1 ∷ []))
    -- 130 bytes, a format 0 or 1
    ∷ states (closed 16 ++ (0 ∷ 1 ∷ [])) true
    ∷ states (closed 16 ++ (1 ∷ [])) false
    ∷ states (closed 16 ++ (0 ∷ 1 ∷ 1 ∷ [])) false
    ∷ states (closed 16 ++ (1 ∷ 1 ∷ [])) true
    ∷ states (closed 16 ++ (2 ∷ 1 ∷ [])) false
    -- another layout is no state, and zeros are none
    ∷ states (closed 16 ++ (0 ∷ 2 ∷ [])) false
    ∷ states (closed 16 ++ (0 ∷ 255 ∷ [])) false
    ∷ states (closed 16 ++ (1 ∷ 0 ∷ [])) false
    ∷ states (replicate 130 0) false
    -- a closed slot's record is all 0; an idle one holds nothing; the record's seventh byte is 1 to 3, the eighth 0
    ∷ states (first (0x8D ∷ 5 ∷ 2 ∷ 6 ∷ 0 ∷ 0 ∷ 0 ∷ 0 ∷ []) 0) false
    ∷ states (first (0x8D ∷ 5 ∷ 2 ∷ 6 ∷ 1 ∷ 0 ∷ 1 ∷ 0 ∷ []) 0) false
    ∷ states (first (0x8D ∷ 5 ∷ 2 ∷ 6 ∷ 8 ∷ 0 ∷ 3 ∷ 0 ∷ []) 0) true
    ∷ states (first (0x8D ∷ 5 ∷ 2 ∷ 6 ∷ 8 ∷ 0 ∷ 4 ∷ 0 ∷ []) 0) false
    ∷ states (first (0x8D ∷ 5 ∷ 2 ∷ 6 ∷ 8 ∷ 0 ∷ 3 ∷ 1 ∷ []) 0) false
    -- a standard key has the mark 01 above its address
    ∷ states (first (0x82 ∷ 0x56 ∷ 1 ∷ 0 ∷ 0 ∷ 0 ∷ 1 ∷ 0 ∷ []) 1) true
    ∷ states (first (0x82 ∷ 0x16 ∷ 1 ∷ 0 ∷ 0 ∷ 0 ∷ 1 ∷ 0 ∷ []) 1) false
    -- any 130 bytes become a new station's
    ∷ renews 130 Extended (value 0) (closed 16 ++ (0 ∷ 1 ∷ []))
    ∷ renews 130 Standard (value 0) (closed 16 ++ (1 ∷ 1 ∷ []))
    ∷ renews 129 Standard (refused 21) (replicate 129 7)
    ∷ renews 131 Standard (refused 21) (replicate 131 7)
    ∷ []

abbrev pub Holds : Bound → Type 0
Holds (writes format slots bytes) = state_bytes (station_of format slots) ≡ bytes
Holds (states bytes ok) = is_state bytes ≡ ok
Holds (renews size format said bytes) =
    ((renewed (replicate size 7) format).answer ≡ said) × ((renewed (replicate size 7) format).state ≡ bytes)

unfoldable pub StateBounds : Type 0
StateBounds = AllHold Holds table
