-- Document 01, "Streams and receiving", last paragraph: "After the core, a second front receives the sixteen stream records as a lent table
-- and updates the one record concerned; it answers as the first. A table of any other length is refused as 21." Its contract is the first
-- front's: `after_in .. ≡ receive (station_of format table) ..`. A station is sound only with sixteen slots, so that `receive` refuses a
-- table of another length.
use Rattle.std.specs.Prelude.{ℕ, List}
use Rattle.format.specs.declared.Format.{Format}
use Rattle.format.specs.Refusals.{Result}
use Rattle.stream.specs.Answers.{Reply}
use Rattle.slot.specs.declared.Slot.{Slot}
use Rattle.station.specs.Stations.{station_of}
use Rattle.station.specs.Receive.{After}

-- what an answer, and the table and the store afterwards, say, in the terms of the first front
abbrev pub after_in : Format → Result Reply → (table : List Slot) → (store : List ℕ) → After
after_in format answer table store = record { answer = answer; station = station_of format table; store = store }
