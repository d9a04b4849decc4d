-- Document 01, "Streams and receiving", first paragraph: "A station has one format and 16 slots, all closed when new. [..] The
-- lent store is 32,768 bytes; slot i owns the 2,048 bytes from 2,048 × i."
use Rattle.std.specs.Prelude.{ℕ, ◌+◌, ◌*◌, Bool, List, ◌++◌, eqb, length, take, drop, replicate}
use Rattle.format.specs.declared.Format.{Format}
use Rattle.slot.specs.declared.Slot.{Slot}
use Rattle.slot.specs.Slots.{closed_slot}
use Rattle.slot.specs.Sound.{sound}
use Rattle.station.specs.declared.Station.{Station}

abbrev pub station_of : Format → List Slot → Station
station_of format slots = record { format = format; slots = slots }

abbrev pub new_station : Format → Station
new_station format = record { format = format; slots = replicate 16 closed_slot }

abbrev pub sound_station : Station → Bool
sound_station station = sound station.format station.slots

abbrev pub with_slots : Station → List Slot → Station
with_slots station slots = record { format = station.format; slots = slots }

-- the area of slot i
unfoldable pub area : List ℕ → ℕ → List ℕ
area store i = take 2048 (drop (2048 * i) store)

-- the store with the area of slot i replaced
unfoldable pub with_area : List ℕ → ℕ → List ℕ → List ℕ
with_area store i bytes = take (2048 * i) store ++ (bytes ++ drop (2048 * i + 2048) store)

-- "A full-size store has 32,768 bytes."
abbrev pub full_size : List ℕ → Bool
full_size store = eqb (length store) 32768
