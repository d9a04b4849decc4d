-- What is promised of a station in lent bytes. `ReadBack`, `WrittenBack` and `NotWritten` are of the bytes; `AsFirst`, `StaySound` and
-- `RefusedKeeps` of one call; `AsRun`, `Demand3OnBytes`, `RoundTripOnBytes` and `ReadAtEnd` of calls one after the other. Proofs:
-- proofs/ReadBack.antt (the bytes) and proofs/Runs.antt (the calls).
use Rattle.std.specs.Prelude.{ℕ, ◌≡◌, ◌≢◌, true, cond, ◌||◌, List, [], ◌∷◌, eqb, length}
use Rattle.format.specs.declared.Format.{Format}
use Rattle.format.specs.declared.Refusal.TheVariants.{Step, Long, State}
use Rattle.format.specs.Refusals.{refused, number}
use Rattle.frame.specs.Claims.{Bytes}
use Rattle.slot.specs.declared.Key.{Key}
use Rattle.station.specs.declared.Station.{Station}
use Rattle.station.specs.Stations.{sound_station, full_size}
use Rattle.station.specs.Receive.{receive, concerned}
use Rattle.station.specs.Open.{opening, closing}
use Rattle.station.specs.Read.{reading}
use Rattle.station.specs.Run.{Call, Ran, run}
use Rattle.station.specs.Demands.{Demand3From, RoundTripFrom, left_by}
use Rattle.station_bytes.specs.States.{state_bytes, station_in, is_state}
use Rattle.station_bytes.specs.Calls.{BytesAfter, in_bytes, receive_in, as_state, not_state, renewed, open_in, close_in, read_in}

-- ---- the bytes

-- the bytes of a sound station are a state's, and read back they are that station
unfoldable pub ReadBack : Type 0
ReadBack =
    (station : Station)
    → sound_station station ≡ true → (is_state (state_bytes station) ≡ true) × (station_in (state_bytes station) ≡ station)

-- bytes that are a state's are those that the station read from them writes
unfoldable pub WrittenBack : Type 0
WrittenBack = (state : List ℕ) → Bytes state → is_state state ≡ true → state_bytes (station_in state) ≡ state

-- every call refuses with 21 and leaves every byte
pub record Refuses (state : List ℕ) : Type 0 where
  pub receives : (store : List ℕ) (bus : ℕ) (image : List ℕ)
      → receive_in state store bus image ≡ record { answer = refused (number State); state = state; store = store }
  pub opens : (key : Key) → open_in state key ≡ not_state state
  pub closes : (i : ℕ) → close_in state i ≡ not_state state
  pub reads : (store : List ℕ) (i : ℕ) → read_in state store i ≡ refused (number State)

-- so it is of bytes that no sound station writes
unfoldable pub NotWritten : Type 0
NotWritten =
    (state : List ℕ) → Bytes state → ((station : Station) → sound_station station ≡ true → state_bytes station ≢ state) → Refuses state

-- ---- one call

-- on a station's bytes each call gives what the station's own gives
pub record SameAs (station : Station) : Type 0 where
  pub receives : (store : List ℕ) (bus : ℕ) (image : List ℕ)
      → receive_in (state_bytes station) store bus image ≡ in_bytes (receive station store bus image)
  pub opens : (key : Key) → open_in (state_bytes station) key ≡ as_state (opening station key)
  pub closes : (i : ℕ) → close_in (state_bytes station) i ≡ as_state (closing station i)
  pub reads : (store : List ℕ) (i : ℕ) → read_in (state_bytes station) store i ≡ reading station store i

-- so it is for every sound station
unfoldable pub AsFirst : Type 0
AsFirst = (station : Station) → sound_station station ≡ true → SameAs station

-- bytes of a sound station
abbrev pub AreSound : List ℕ → Type 0
AreSound state = (is_state state ≡ true) × (sound_station (station_in state) ≡ true)

-- such bytes are such bytes again after each call; any 130 bytes are after `new`
pub record StaySound : Type 0 where
  pub receives : (station : Station) → sound_station station ≡ true → (store : List ℕ) (bus : ℕ) (image : List ℕ)
      → AreSound (receive_in (state_bytes station) store bus image).state
  pub opens : (station : Station) → sound_station station ≡ true → (key : Key) → AreSound (open_in (state_bytes station) key).state
  pub closes : (station : Station) → sound_station station ≡ true → (i : ℕ) → AreSound (close_in (state_bytes station) i).state
  pub new : (state : List ℕ) → length state ≡ 130 → (format : Format) → AreSound (renewed state format).state

-- "Nothing is written and the state handed back is the one handed in, except the idle slot after 7 and 8": the bytes that a call refused by
-- n leaves, where it concerned slot i
unfoldable pub left_in : (n : ℕ) → List ℕ → (i : ℕ) → List ℕ
left_in n state i = cond (eqb n (number Step) || eqb n (number Long)) (state_bytes (left_by n (station_in state) i)) state

pub record RefusedKeeps : Type 0 where
  pub receives : (state : List ℕ) → Bytes state → (store : List ℕ) (bus : ℕ) (image : List ℕ) (n : ℕ)
      → (receive_in state store bus image).answer ≡ refused n
      → receive_in state store bus image
      ≡ record { answer = refused n; state = left_in n state (concerned (station_in state) store bus image); store = store }
  pub opens : (state : List ℕ) → Bytes state → (key : Key) (n : ℕ) → (open_in state key).answer ≡ refused n → (open_in state key).state ≡ state
  pub closes : (state : List ℕ) → Bytes state → (i n : ℕ) → (close_in state i).answer ≡ refused n → (close_in state i).state ≡ state
  pub renews : (state : List ℕ) (format : Format) (n : ℕ) → (renewed state format).answer ≡ refused n → (renewed state format).state ≡ state

-- ---- calls one after the other

-- each gets the state's and the store's bytes as the last left them, and what it gives meets the contract of `receive`
unfoldable pub Chained : (state store : List ℕ) → List Call → List BytesAfter → Type 0
Chained state store [] [] = Unit {0}
Chained state store [] (given ∷ givens) = ⊥
Chained state store (call ∷ calls) [] = ⊥
Chained state store (call ∷ calls) (given ∷ givens) =
    (given ≡ receive_in state store call.bus call.image) × Chained given.state given.store calls givens

-- the state's bytes in the end
unfoldable pub last_of : List ℕ → List BytesAfter → List ℕ
last_of state [] = state
last_of state (given ∷ givens) = last_of given.state givens

-- the answers given, and in the end the station read from the bytes, and the store
unfoldable pub ended : (state store : List ℕ) → List BytesAfter → Ran
ended state store [] = record { answers = []; station = station_in state; store = store }
ended state store (given ∷ givens) =
    let rest : Ran = ended given.state given.store givens in
    record { answers = given.answer ∷ rest.answers; station = rest.station; store = rest.store }

-- calls on the bytes of a station that end so
pub record CallsEnd (station : Station) (store : List ℕ) (calls : List Call) (ran : Ran) : Type 0 where
  pub givens : List BytesAfter
  pub chained : Chained (state_bytes station) store calls givens
  pub ends : ended (state_bytes station) store givens ≡ ran

-- on the bytes of a sound station they end as the run of the station's own `receive` does, and the bytes in the end are those of its
-- station
pub record EndsAsRun (station : Station) (store : List ℕ) (calls : List Call) (ran : Ran) (end : CallsEnd station store calls ran) : Type 0 where
  pub same : run station store calls ≡ ran
  pub last : last_of (state_bytes station) end.givens ≡ state_bytes ran.station

unfoldable pub AsRun : Type 0
AsRun =
    (station : Station) (store : List ℕ) → sound_station station ≡ true
    → (calls : List Call) (ran : Ran) (end : CallsEnd station store calls ran)
    → EndsAsRun station store calls ran end

-- so demand 3, and the last sentence of demand 2, hold of them, for every sound station and full-size store
unfoldable pub Demand3OnBytes : Type 0
Demand3OnBytes =
    (station : Station) (store : List ℕ) → sound_station station ≡ true → full_size store ≡ true
    → Demand3From station store (CallsEnd station store)

unfoldable pub RoundTripOnBytes : Type 0
RoundTripOnBytes =
    (station : Station) (store : List ℕ) → sound_station station ≡ true → full_size store ≡ true
    → RoundTripFrom station store (CallsEnd station store)

-- and what is read of the station in the end is read from the bytes in the end
unfoldable pub ReadAtEnd : Type 0
ReadAtEnd =
    (station : Station) (store : List ℕ) → sound_station station ≡ true
    → (calls : List Call) (ran : Ran) (end : CallsEnd station store calls ran)
    → (i : ℕ) → read_in (last_of (state_bytes station) end.givens) ran.store i ≡ reading ran.station ran.store i
