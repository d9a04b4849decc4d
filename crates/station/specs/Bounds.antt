-- Document 01, "Refusal numbers", the order of the refusals at a station: "21, 13, 9, then for images 1 to 8; [..] for opening 14, 15; for
-- closing 16; for reading 16, 17", with 25 as document 02, L4, has it; and each end of each range, from both sides: sixteen slots, two
-- buses, 32,768 bytes. The figures are literals, so that an order or a bound changed alike in a definition and in the code breaks the
-- claim. proofs/Bounds.antt proves it.
use Rattle.std.specs.Prelude.{ℕ, ◌≡◌, false, List, [], ◌∷◌, replicate}
use Rattle.format.specs.declared.Format.{Format}
use Rattle.format.specs.declared.Format.TheVariants.{Extended, Standard}
use Rattle.format.specs.declared.Fields.{Fields}
use Rattle.format.specs.declared.Fields.TheVariants as fields
use Rattle.format.specs.Refusals.{Result, value, refused}
use Rattle.format.specs.Tables.{AllHold}
use Rattle.stream.specs.declared.Progress.{Progress}
use Rattle.stream.specs.declared.Progress.TheVariants.{Idle, Collecting, Done}
use Rattle.stream.specs.Answers.{Reply, packet, kept, filtered}
use Rattle.slot.specs.declared.Slot.{Slot}
use Rattle.slot.specs.Slots.{closed_slot, open_slot}
use Rattle.slot.specs.Bounds.{key_with}
use Rattle.station.specs.Stations.{station_of}
use Rattle.station.specs.Receive.{receive, concerned}
use Rattle.station.specs.Open.{opening, closing}
use Rattle.station.specs.Read.{reading, length_of}

pub data Bound : Type 0 where
  -- slots, the store's size, a bus and an image: the answer, and the slot concerned
  receives : Format → List Slot → (size bus : ℕ) → List ℕ → Result Reply → (at : ℕ) → Bound
  -- slots and a key: the slot that opens
  opens : Format → List Slot → (bus : ℕ) → Fields → Result ℕ → Bound
  -- slots and a number: the slot that closes
  closes : Format → List Slot → ℕ → Result ℕ → Bound
  -- slots, the store's size and a number: the length of the packet there
  reads : Format → List Slot → (size slot : ℕ) → Result ℕ → Bound

-- a single of one byte, and an image with the piece rule broken (an extended single of number 1)
abbrev single : List ℕ
single = 0x81 ∷ 0x45 ∷ 0x86 ∷ 0xC0 ∷ 0x10 ∷ 7 ∷ []

abbrev broken : List ℕ
broken = 0x81 ∷ 0x45 ∷ 0x86 ∷ 0xC1 ∷ 0x10 ∷ 7 ∷ []

-- the single with a byte more, and with one less
abbrev longer : List ℕ
longer = 0x81 ∷ 0x45 ∷ 0x86 ∷ 0xC0 ∷ 0x10 ∷ 7 ∷ 8 ∷ []

abbrev shorter : List ℕ
shorter = 0x81 ∷ 0x45 ∷ 0x86 ∷ 0xC0 ∷ 0x10 ∷ []

-- a middle of number 1
abbrev middle : List ℕ
middle = 0x88 ∷ 0x45 ∷ 0x86 ∷ 0x01 ∷ 0x10 ∷ 1 ∷ 2 ∷ 3 ∷ 4 ∷ 5 ∷ 6 ∷ 7 ∷ 8 ∷ []

-- their fields; and others
abbrev own : Fields
own = fields.Extended 1 5 2 6 2

abbrev others : Fields
others = fields.Extended 1 5 2 6 3

abbrev at : (bus : ℕ) → Fields → Progress → Slot
at bus said progress = open_slot (key_with bus said) progress

-- none open; the own key in slot 2 on bus B; all sixteen open, the last with it; and slots that are not sound
abbrev none : List Slot
none = replicate 16 closed_slot

abbrev third : Progress → List Slot
third progress = at 0 own Idle ∷ closed_slot ∷ at 1 own progress ∷ replicate 13 closed_slot

abbrev node : ℕ → Slot
node n = at 0 (fields.Extended 1 n 2 6 3) Idle

abbrev full : List Slot
full =
    node 0 ∷ node 1 ∷ node 2 ∷ node 3 ∷ node 4 ∷ node 5 ∷ node 6 ∷ node 7
    ∷ node 8 ∷ node 9 ∷ node 10 ∷ node 11 ∷ node 12 ∷ node 13 ∷ node 14
    ∷ at 1 own (Done 9) ∷ []

abbrev unsound : List Slot
unsound = at 0 own Idle ∷ at 0 own Idle ∷ replicate 14 closed_slot

abbrev pub table : List Bound
table =
    -- receiving: 21, 13, 9, then the image's own; then "filtered", then the stream's
    receives Extended unsound 32767 2 broken (refused 21) 16
    ∷ receives Extended none 32767 2 broken (refused 13) 16
    ∷ receives Extended none 32769 0 single (refused 13) 16
    ∷ receives Extended none 32768 2 broken (refused 9) 16
    ∷ receives Extended none 32768 1 broken (refused 5) 16
    ∷ receives Extended (third Idle) 32768 1 broken (refused 5) 16
    -- 25 comes where 4 does, and concerns no slot, as 4 does
    ∷ receives Extended unsound 32767 2 longer (refused 21) 16
    ∷ receives Extended none 32767 2 longer (refused 13) 16
    ∷ receives Extended none 32768 2 longer (refused 9) 16
    ∷ receives Extended (third Idle) 32768 1 longer (refused 25) 16
    ∷ receives Extended (third Idle) 32768 1 shorter (refused 4) 16
    ∷ receives Extended (third (Collecting 8)) 32768 1 longer (refused 25) 16
    ∷ receives Extended full 32768 1 longer (refused 25) 16
    ∷ receives Extended none 32768 1 single (value filtered) 16
    ∷ receives Extended none 32768 1 middle (value filtered) 16
    ∷ receives Extended (third Idle) 32768 1 single (value (packet 1 false)) 2
    ∷ receives Extended (third Idle) 32768 0 single (value (packet 1 false)) 0
    ∷ receives Extended (third Idle) 32768 1 middle (refused 6) 2
    ∷ receives Extended (third (Collecting 16)) 32768 1 middle (refused 7) 2
    ∷ receives Extended (third (Collecting 8)) 32768 1 middle (value (kept false)) 2
    ∷ receives Extended full 32768 1 single (value (packet 1 false)) 15
    -- opening: 21, 9, 14, 15; the lowest closed slot, freed ones included
    ∷ opens Extended unsound 2 own (refused 21)
    ∷ opens Extended (third Idle) 2 own (refused 9)
    ∷ opens Extended full 2 own (refused 9)
    ∷ opens Extended full 1 own (refused 14)
    ∷ opens Extended full 0 own (refused 15)
    ∷ opens Extended (third Idle) 1 own (refused 14)
    ∷ opens Extended (third Idle) 1 others (value 1)
    ∷ opens Extended none 1 own (value 0)
    ∷ opens Extended none 1 (fields.Standard 2 22 1) (refused 9)
    ∷ opens Standard none 1 (fields.Standard 2 22 1) (value 0)
    -- closing: 21, 16
    ∷ closes Extended unsound 16 (refused 21)
    ∷ closes Extended full 15 (value 15)
    ∷ closes Extended full 16 (refused 16)
    ∷ closes Extended (third Idle) 1 (refused 16)
    ∷ closes Extended (third Idle) 2 (value 2)
    -- reading: 21, 13, 16, 17
    ∷ reads Extended unsound 32767 16 (refused 21)
    ∷ reads Extended none 32767 16 (refused 13)
    ∷ reads Extended full 32768 16 (refused 16)
    ∷ reads Extended (third Idle) 32768 1 (refused 16)
    ∷ reads Extended (third Idle) 32768 2 (refused 17)
    ∷ reads Extended (third (Collecting 8)) 32768 2 (refused 17)
    ∷ reads Extended full 32768 15 (value 9)
    ∷ []

abbrev pub Holds : Bound → Type 0
Holds (receives format slots size bus image said i) =
    ((receive (station_of format slots) (replicate size 0) bus image).answer ≡ said)
    × (concerned (station_of format slots) (replicate size 0) bus image ≡ i)
Holds (opens format slots bus said answer) = (opening (station_of format slots) (key_with bus said)).answer ≡ answer
Holds (closes format slots i answer) = (closing (station_of format slots) i).answer ≡ answer
Holds (reads format slots size i answer) = length_of (reading (station_of format slots) (replicate size 0) i) ≡ answer

unfoldable pub StationBounds : Type 0
StationBounds = AllHold Holds table
