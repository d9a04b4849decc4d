-- Document 01, "Streams and receiving": "Opening takes the lowest closed slot, freed ones included, and makes it idle. Closing
-- changes no store byte." "Refusal numbers", order: 21, 9; for opening 14, 15; for closing 16. Each answers the slot's number.
use Rattle.std.specs.Prelude.{ℕ, Bool, not, List, [], ◌∷◌, ltb, set}
use Rattle.format.specs.declared.Refusal.TheVariants as refusal
use Rattle.format.specs.Refusals.{Result, value, refused, check, guarded, meaning}
use Rattle.format.specs.Tests.{all_true}
use Rattle.stream.specs.declared.Progress.TheVariants.{Idle}
use Rattle.slot.specs.declared.Key.{Key}
use Rattle.slot.specs.declared.Slot.{Slot}
use Rattle.slot.specs.Slots.{closed_slot, open_slot, slot_at, is_closed, has_key, place}
use Rattle.slot.specs.Sound.{key_in_range, any}
use Rattle.station.specs.declared.Station.{Station}
use Rattle.station.specs.declared.HandedBack.{HandedBack}
use Rattle.station.specs.Stations.{sound_station, with_slots}

-- the answer, and the station handed back
pub record StationAfter : Type 0 where
  pub answer : Result ℕ
  pub station : Station

-- slot i becomes that; a refusal hands back the station handed in
abbrev pub changed_at : Station → Slot → Result ℕ → StationAfter
changed_at station slot (value i) = record { answer = value i; station = with_slots station (set station.slots i slot) }
changed_at station slot (refused n) = record { answer = refused n; station = station }

-- the slot that opens. FIELD: a field or bus of the key is out of range, or its fields are of the other format. TAKEN: key already
-- open. FULL: all 16 open
abbrev pub vacancy : Station → Key → Result ℕ
vacancy station key =
    guarded
    (check refusal.State (sound_station station)
    ∷ check refusal.Field (key_in_range station.format key)
    ∷ check refusal.Taken (not (any (has_key key) station.slots))
    ∷ check refusal.Full (any is_closed station.slots)
    ∷ [])
    (place is_closed station.slots)

unfoldable pub opening : Station → Key → StationAfter
opening station key = changed_at station (open_slot key Idle) (vacancy station key)

-- CLOSED: slot number over 15 or slot closed
unfoldable pub is_open : List Slot → ℕ → Bool
is_open slots i = all_true (ltb i 16 ∷ not (is_closed (slot_at slots i)) ∷ [])

-- the slot that closes
abbrev pub occupied : Station → ℕ → Result ℕ
occupied station i = guarded (check refusal.State (sound_station station) ∷ check refusal.Closed (is_open station.slots i) ∷ []) i

unfoldable pub closing : Station → ℕ → StationAfter
closing station i = changed_at station closed_slot (occupied station i)

-- what the code hands back says
abbrev pub station_after : HandedBack ℕ → StationAfter
station_after r = record { answer = meaning r.answer; station = r.station }
