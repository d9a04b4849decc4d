-- Document 01, "Streams and receiving": "Reading a done slot returns that part of the store itself, the head of the area, with no
-- copying." "Refusal numbers": "reading answers length or number in one call and the part, empty if refused, in another",
-- order: 21, 13; for reading 16, 17.
use Rattle.std.specs.Prelude.{ℕ, ◌+◌, ◌*◌, Bool, true, false, List, [], ◌∷◌, length, take}
use Rattle.format.specs.declared.Refusal.TheVariants as refusal
use Rattle.format.specs.Refusals.{Result, value, refused, check, guarded}
use Rattle.stream.specs.declared.Progress.{Progress}
use Rattle.stream.specs.declared.Progress.TheVariants.{Idle, Collecting, Done}
use Rattle.stream.specs.Step.{held}
use Rattle.slot.specs.Slots.{slot_at}
use Rattle.station.specs.declared.Station.{Station}
use Rattle.station.specs.Stations.{sound_station, area, full_size}
use Rattle.station.specs.Receive.{progress_of}
use Rattle.station.specs.Open.{is_open}

abbrev pub is_done : Progress → Bool
is_done Idle = false
is_done (Collecting h) = false
is_done (Done h) = true

-- the packet of slot i. CLOSED: slot number over 15 or slot closed. NOPACKET: slot not done
unfoldable pub reading : Station → List ℕ → ℕ → Result (List ℕ)
reading station store i =
    let progress : Progress = progress_of (slot_at station.slots i) in
    guarded
    (check refusal.State (sound_station station)
    ∷ check refusal.Store (full_size store)
    ∷ check refusal.Closed (is_open station.slots i)
    ∷ check refusal.NoPacket (is_done progress)
    ∷ [])
    (take (held progress) (area store i))

-- the call that answers its length; the call that returns the part
abbrev pub length_of : Result (List ℕ) → Result ℕ
length_of (value packet) = value (length packet)
length_of (refused n) = refused n

abbrev pub part_of : Result (List ℕ) → List ℕ
part_of (value packet) = packet
part_of (refused n) = []

-- where that part begins, in a store that begins at `start`: where the slot's area does. A refusal's empty part stands at the
-- store's beginning, which document 01 leaves free
abbrev pub place_of : Result (List ℕ) → (start i : ℕ) → ℕ
place_of (value packet) start i = 2048 * i + start
place_of (refused n) start i = start
