-- What is promised of a station and of whole runs. Open this file first; the definitions that it speaks of are those that the calls'
-- contracts cite. In which order to read, from the bottom:
--   format  Formats (limits, fields), Refusals (numbers, what an order of refusals means)
--   frame   Layout (what stands where), Judge (piece rules, refusals 1 to 5 and 25), Image (the image of a frame)
--   packet  Split (the pieces of a packet)
--   stream  Answers, Step (what a frame does to its stream), OneStream (the receiver of one stream)
--   slot    Slots (keys, where a key is open), Sound
--   station Stations, Receive, Open, Read, Run (a run, a stream's frames), and this file: demand 3, demand 2's last sentence, refusals,
--           soundness, and that the premises can be met
-- Proofs: proofs/Isolation.antt (demand 3), proofs/RoundTrip.antt, proofs/OnCalls.antt (calls of the code), proofs/Refusals.antt,
-- proofs/Soundness.antt (the rest).
use Rattle.std.specs.Prelude.{ℕ, ◌-◌, ◌≤◌, ◌<◌, ◌≡◌, ◌≢◌, Bool, true, false, cond, ◌||◌, List, [], ◌∷◌, ◌++◌, map, leb, eqb, length, replicate, set, Option, None, Some}
use Rattle.format.specs.declared.Format.{Format}
use Rattle.format.specs.declared.Format.TheVariants.{Standard}
use Rattle.format.specs.declared.Refusal.TheVariants.{Step, Long}
use Rattle.format.specs.Refusals.{Result, value, refused, number}
use Rattle.format.specs.Formats.{packet_limit}
use Rattle.frame.specs.Judge.{Frame}
use Rattle.frame.specs.Image.{image_of}
use Rattle.packet.specs.Split.{pieces}
use Rattle.stream.specs.declared.Progress.TheVariants.{Idle}
use Rattle.stream.specs.declared.Answer.{Answer}
use Rattle.stream.specs.Answers.{Reply, packet, kept, meaning}
use Rattle.stream.specs.Step.{collecting}
use Rattle.stream.specs.OneStream.{Alone, one_stream}
use Rattle.slot.specs.declared.Key.{Key}
use Rattle.slot.specs.declared.Stream.{Stream}
use Rattle.slot.specs.declared.Slot.{Slot}
use Rattle.slot.specs.Slots.{closed_slot, open_slot, slot_at, is_closed, has_key, place}
use Rattle.slot.specs.Sound.{key_in_range, any}
use Rattle.station.specs.declared.Station.{Station}
use Rattle.station.specs.declared.HandedBack.{HandedBack}
use Rattle.station.specs.Stations.{new_station, sound_station, with_slots, area, full_size}
use Rattle.station.specs.Receive.{receive, concerned, progress_of, after}
use Rattle.station.specs.Open.{opening, closing}
use Rattle.station.specs.Read.{reading}
use Rattle.station.specs.Run.{Call, Ran, Front, run_on, frames_of, answers_of}

-- ---- demand 3: each stream behaves as if it were alone

-- "A stream is a slot open when the run begins."
abbrev pub IsStream : Station → ℕ → Stream → Type 0
IsStream station i stream = (i < 16) × (slot_at station.slots i ≡ open_slot stream.key stream.progress)

abbrev pub IsClosed : Station → ℕ → Type 0
IsClosed station i = (i < 16) × (slot_at station.slots i ≡ closed_slot)

-- what a run of calls shows of slot i and its key: the answers at its frames, its final progress, its area's bytes
unfoldable pub shown : Format → ℕ → Key → List Call → Ran → Alone
shown format i key calls ran =
    record {
      answers = answers_of format key calls ran.answers;
      progress = progress_of (slot_at ran.station.slots i);
      area = area ran.store i;
    }

-- what the one-stream receiver gives for the stream's frames alone
unfoldable pub alone : Format → ℕ → Stream → List ℕ → List Call → Alone
alone format i stream store calls =
    one_stream format stream.progress (area store i) (frames_of format stream.key calls)

-- whatever the other streams send: each stream is shown as it would be alone, and stays open with its key; closed slots and
-- their areas stay as they were, and so does the format; the station is sound then, and the store full-size
pub record Isolated (station : Station) (store : List ℕ) (calls : List Call) (ran : Ran) : Type 0 where
  pub streams : (i : ℕ) (stream : Stream) → IsStream station i stream
      → shown station.format i stream.key calls ran ≡ alone station.format i stream store calls
  pub slots : (i : ℕ) (stream : Stream) → IsStream station i stream
      → slot_at ran.station.slots i ≡ open_slot stream.key (alone station.format i stream store calls).progress
  pub closed : (i : ℕ) → IsClosed station i
      → (slot_at ran.station.slots i ≡ closed_slot) × (area ran.store i ≡ area store i)
  pub format : ran.station.format ≡ station.format
  pub sound : sound_station ran.station ≡ true
  pub whole : full_size ran.store ≡ true

-- two runs give each stream the same frames in the same order
unfoldable pub SameFrames : Station → List Call → List Call → Type 0
SameFrames station calls others =
    (i : ℕ) (stream : Stream) → IsStream station i stream
    → frames_of station.format stream.key calls ≡ frames_of station.format stream.key others

-- they give the same answers at them, and end with the same slots, format, packets and store
pub record Agree (station : Station) (calls others : List Call) (ran other : Ran) : Type 0 where
  pub answers : (i : ℕ) (stream : Stream) → IsStream station i stream
      → answers_of station.format stream.key calls ran.answers
      ≡ answers_of station.format stream.key others other.answers
  pub slots : ran.station.slots ≡ other.station.slots
  pub format : ran.station.format ≡ other.station.format
  pub packets : (i : ℕ) → reading ran.station ran.store i ≡ reading other.station other.store i
  pub stores : ran.store ≡ other.store

-- demand 3 of the runs from a station and a store, where `Ends calls ran` says that a run of these calls ends in ran
pub record Demand3From (station : Station) (store : List ℕ) (Ends : List Call → Ran → Type 0) : Type 0 where
  pub isolated : (calls : List Call) (ran : Ran) → Ends calls ran → Isolated station store calls ran
  -- "hence two runs that give each stream the same frames in the same order end alike"
  pub alike : (calls others : List Call) (ran other : Ran) → Ends calls ran → Ends others other → SameFrames station calls others
      → Agree station calls others ran other

-- for every sound station with a full-size store and every list of calls, run on a front
unfoldable pub Demand3On : Front → Type 0
Demand3On front =
    (station : Station) (store : List ℕ) → sound_station station ≡ true → full_size store ≡ true
    → Demand3From station store (λ calls ran. run_on front station store calls ≡ ran)

-- "on the first front"
abbrev pub Demand3 : Type 0
Demand3 = Demand3On receive

-- ---- calls of the code: `Station::receive` called again and again, each call given the station that the last handed back and the store
-- as it left it, and each meeting the contract at its own arguments

-- what a call hands back, and the store then
pub record Given : Type 0 where
  pub received : HandedBack Answer
  pub store : List ℕ

unfoldable pub Chained : Station → List ℕ → List Call → List Given → Type 0
Chained station store [] [] = Unit {0}
Chained station store [] (given ∷ givens) = ⊥
Chained station store (call ∷ calls) [] = ⊥
Chained station store (call ∷ calls) (given ∷ givens) =
    (after given.received given.store ≡ receive station store call.bus call.image)
    × Chained given.received.station given.store calls givens

-- the answers given, and the station and the store in the end
unfoldable pub ended : Station → List ℕ → List Given → Ran
ended station store [] = record { answers = []; station = station; store = store }
ended station store (given ∷ givens) =
    let rest : Ran = ended given.received.station given.store givens in
    record { answers = meaning given.received.answer ∷ rest.answers; station = rest.station; store = rest.store }

pub record CallsEnd (station : Station) (store : List ℕ) (calls : List Call) (ran : Ran) : Type 0 where
  pub givens : List Given
  pub chained : Chained station store calls givens
  pub ends : ended station store givens ≡ ran

-- they end as the run does
unfoldable pub AsRun : Type 0
AsRun =
    (station : Station) (store : List ℕ) (calls : List Call) (ran : Ran) → CallsEnd station store calls ran
    → run_on receive station store calls ≡ ran

-- so demand 3 holds of the code, and not of the definition only
unfoldable pub Demand3OnCalls : Type 0
Demand3OnCalls =
    (station : Station) (store : List ℕ) → sound_station station ≡ true → full_size store ≡ true
    → Demand3From station store (CallsEnd station store)

-- ---- demand 2, last sentence: a packet's frames fed in order come out as that packet

-- the calls that feed frames on a bus
abbrev pub fed : (bus : ℕ) → List Frame → List Call
fed bus frames = map (λ (frame : Frame). record { bus = bus; image = image_of frame }) frames

-- two lists of calls, each in its order, one between the other as the choices say: true takes the next of the first
unfoldable pub woven : List Bool → List Call → List Call → List Call
woven [] calls others = calls ++ others
woven (choice ∷ choices) [] others = others
woven (choice ∷ choices) (call ∷ calls) [] = call ∷ calls
woven (true ∷ choices) (call ∷ calls) (other ∷ others) = call ∷ woven choices calls (other ∷ others)
woven (false ∷ choices) (call ∷ calls) (other ∷ others) = other ∷ woven choices (call ∷ calls) others

-- the answers at the pieces of a packet of n bytes: "kept" at each but the last, then "packet" with the length; "broke" at the
-- first if the stream was collecting
unfoldable pub answers_to : (count n : ℕ) (broke : Bool) → List (Result Reply)
answers_to count n broke =
    cond (leb count 1) (value (packet n broke) ∷ [])
    (value (kept broke) ∷ (replicate (count - 2) (value (kept false)) ++ (value (packet n false) ∷ [])))

-- reading gives the packet's bytes, and the answers are these
pub record Arrives (station : Station) (i : ℕ) (stream : Stream) (bytes : List ℕ) (calls : List Call) (ran : Ran) : Type 0 where
  pub reads : reading ran.station ran.store i ≡ value bytes
  pub answers : answers_of station.format stream.key calls ran.answers
      ≡ answers_to (length (pieces stream.key.fields bytes)) (length bytes) (collecting stream.progress)

-- the images of the pieces of a packet of any size within the limit, fed in order to an open stream with their key, with whatever
-- else is received between them that is no frame of that stream, end in that packet. The stream may be idle, as the sentence has it, or
-- not
unfoldable pub RoundTripFrom : (station : Station) (store : List ℕ) (Ends : List Call → Ran → Type 0) → Type 0
RoundTripFrom station store Ends =
    (i : ℕ) (stream : Stream) → IsStream station i stream
    → (bytes : List ℕ) → length bytes ≤ packet_limit station.format
    → (others : List Call) → frames_of station.format stream.key others ≡ []
    → (choices : List Bool) (ran : Ran)
    → let calls = woven choices (fed stream.key.bus (pieces stream.key.fields bytes)) others in
    Ends calls ran → Arrives station i stream bytes calls ran

unfoldable pub RoundTripOn : Front → Type 0
RoundTripOn front =
    (station : Station) (store : List ℕ) → sound_station station ≡ true → full_size store ≡ true
    → RoundTripFrom station store (λ calls ran. run_on front station store calls ≡ ran)

abbrev pub RoundTrip : Type 0
RoundTrip = RoundTripOn receive

unfoldable pub RoundTripOnCalls : Type 0
RoundTripOnCalls =
    (station : Station) (store : List ℕ) → sound_station station ≡ true → full_size store ≡ true
    → RoundTripFrom station store (CallsEnd station store)

-- ---- refusals: "Nothing is written and the state handed back is the one handed in, except the idle slot after 7 and 8."

-- an open slot becomes idle
abbrev pub idled : Option Stream → Slot
idled None = closed_slot
idled (Some stream) = open_slot stream.key Idle

-- the station that a call refused by n hands back, where it concerned slot i
unfoldable pub left_by : (n : ℕ) → Station → (i : ℕ) → Station
left_by n station i =
    cond (eqb n (number Step) || eqb n (number Long))
    (with_slots station (set station.slots i (idled (slot_at station.slots i).occupancy)))
    station

-- whatever station, store, bus, image, key or slot number is handed in
pub record RefusedKeeps : Type 0 where
  pub receives : (station : Station) (store : List ℕ) (bus : ℕ) (image : List ℕ) (n : ℕ)
      → (receive station store bus image).answer ≡ refused n
      → receive station store bus image
      ≡ record { answer = refused n; station = left_by n station (concerned station store bus image); store = store }
  pub opens : (station : Station) (key : Key) (n : ℕ) → (opening station key).answer ≡ refused n → (opening station key).station ≡ station
  pub closes : (station : Station) (i n : ℕ) → (closing station i).answer ≡ refused n → (closing station i).station ≡ station

-- ---- soundness is kept, and LONG is extended only

pub record StaysSound : Type 0 where
  pub opens : (station : Station) → sound_station station ≡ true → (key : Key) → sound_station (opening station key).station ≡ true
  pub closes : (station : Station) → sound_station station ≡ true → (i : ℕ) → sound_station (closing station i).station ≡ true
  pub receives : (station : Station) → sound_station station ≡ true
      → (store : List ℕ) (bus : ℕ) (image : List ℕ) → sound_station (receive station store bus image).station ≡ true

unfoldable pub NeverLong : Type 0
NeverLong =
    (station : Station) → sound_station station ≡ true → station.format ≡ Standard
    → (store : List ℕ) (bus : ℕ) (image : List ℕ) → (receive station store bus image).answer ≢ refused (number Long)

-- ---- the premises can be met

pub record CanBeMet : Type 0 where
  -- a new station is sound, and there is a full-size store
  pub new : (format : Format) → sound_station (new_station format) ≡ true
  pub store : full_size (replicate 32768 0) ≡ true
  -- a key in range that is not open gets the lowest closed slot, if there is one; in a new station that is slot 0
  pub opens : (station : Station) (key : Key) → sound_station station ≡ true → key_in_range station.format key ≡ true
      → any (has_key key) station.slots ≡ false → any is_closed station.slots ≡ true
      → (opening station key).answer ≡ value (place is_closed station.slots)
  pub first : (format : Format) (key : Key) → key_in_range format key ≡ true → (opening (new_station format) key).answer ≡ value 0
  -- a station that has opened it is sound and has that stream, idle, beside the streams that it had
  pub opened : (station : Station) (key : Key) (i : ℕ) → (opening station key).answer ≡ value i
      → (sound_station (opening station key).station ≡ true)
      × IsStream (opening station key).station i (record { key = key; progress = Idle })
  pub beside : (station : Station) (key : Key) (i : ℕ) (stream : Stream) → IsStream station i stream
      → IsStream (opening station key).station i stream
