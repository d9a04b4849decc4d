-- The calls on a station whose state is in lent bytes. Each is the station's own, on the station that the bytes are: its answer, the bytes
-- of the station that it hands back, and the store. Document 01, "Refusal numbers", 21: bytes that are no station's are refused with
-- STATE, before all else, and nothing changes.
use Rattle.std.specs.Prelude.{ℕ, cond, List, eqb, length}
use Rattle.format.specs.declared.Format.{Format}
use Rattle.format.specs.declared.Refusal.TheVariants.{State}
use Rattle.format.specs.Refusals.{Returned}
use Rattle.format.specs.Refusals as outcomes
use Rattle.format.specs.Refusals.{Result, value, refused, number}
use Rattle.format.specs.Refusals.{Returned}
use Rattle.stream.specs.declared.Answer.{Answer}
use Rattle.stream.specs.Answers.{Reply, meaning}
use Rattle.slot.specs.declared.Key.{Key}
use Rattle.station.specs.Stations.{new_station}
use Rattle.station.specs.Receive as receiving
use Rattle.station.specs.Open as handing
use Rattle.station.specs.Read as reading
use Rattle.station_bytes.specs.States.{state_bytes, station_in, is_state}

-- the answer, and the bytes of state and store afterwards
pub record BytesAfter : Type 0 where
  pub answer : Result Reply
  pub state : List ℕ
  pub store : List ℕ

abbrev pub in_bytes : receiving.After → BytesAfter
in_bytes state_after = record { answer = state_after.answer; state = state_bytes state_after.station; store = state_after.store }

unfoldable pub receive_in : (state store : List ℕ) (bus : ℕ) → List ℕ → BytesAfter
receive_in state store bus image =
    cond (is_state state) (in_bytes (receiving.receive (station_in state) store bus image))
    (record { answer = refused (number State); state = state; store = store })

-- the answer, and the bytes of the state afterwards
pub record StateAfter : Type 0 where
  pub answer : Result ℕ
  pub state : List ℕ

abbrev pub as_state : handing.StationAfter → StateAfter
as_state given = record { answer = given.answer; state = state_bytes given.station }

abbrev pub not_state : List ℕ → StateAfter
not_state state = record { answer = refused (number State); state = state }

-- any 130 bytes become a new station's; the answer is 0
unfoldable pub renewed : List ℕ → Format → StateAfter
renewed state format =
    cond (eqb (length state) 130) (record { answer = value 0; state = state_bytes (new_station format) }) (not_state state)

unfoldable pub open_in : List ℕ → Key → StateAfter
open_in state key = cond (is_state state) (as_state (handing.opening (station_in state) key)) (not_state state)

unfoldable pub close_in : List ℕ → ℕ → StateAfter
close_in state i = cond (is_state state) (as_state (handing.closing (station_in state) i)) (not_state state)

-- the packet of slot i; a call that reads changes nothing
unfoldable pub read_in : (state store : List ℕ) → ℕ → Result (List ℕ)
read_in state store i = cond (is_state state) (reading.reading (station_in state) store i) (refused (number State))

-- what the code's answers, and the bytes afterwards, say
abbrev pub bytes_after : Returned Answer → (state store : List ℕ) → BytesAfter
bytes_after answer state store = record { answer = meaning answer; state = state; store = store }

abbrev pub state_after : Returned ℕ → List ℕ → StateAfter
state_after outcome state = record { answer = outcomes.meaning outcome; state = state }
