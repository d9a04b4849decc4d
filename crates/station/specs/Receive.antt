-- Document 01, "Streams and receiving": receiving an image on a bus. "On a frame of its key" a stream steps; "A frame with no
-- open key answers "filtered" and changes nothing." "Refusal numbers", order: 21, 13, 9, then for images 1 to 8, and 25 where 4
-- stands (document 02, L4); "Nothing is written and the state handed back is the one handed in, except the idle slot after 7 and 8."
use Rattle.std.specs.Prelude.{ℕ, cond, Option, None, Some, Ok, Err, List, [], ◌∷◌, leb, ltb, length, set}
use Rattle.format.specs.declared.Format.{Format}
use Rattle.format.specs.declared.Refusal.TheVariants.{Field, Store, Closed, State, Surplus}
use Rattle.format.specs.Refusals.{Result, value, refused, number, Check, check, guarded, checked_then, Returned}
use Rattle.frame.specs.declared.Head.{Head}
use Rattle.frame.specs.Judge.{Frame, Judged, judge}
use Rattle.stream.specs.declared.Progress.{Progress}
use Rattle.stream.specs.declared.Progress.TheVariants.{Idle}
use Rattle.stream.specs.declared.Answer.{Answer}
use Rattle.stream.specs.Answers.{Reply, filtered, meaning}
use Rattle.stream.specs.declared.Stepped.{Stepped}
use Rattle.stream.specs.Step.{Next, step, next_of}
use Rattle.slot.specs.declared.Key.{Key}
use Rattle.slot.specs.declared.Stream.{Stream}
use Rattle.slot.specs.declared.Slot.{Slot}
use Rattle.slot.specs.Slots.{open_slot, slot_at, has_key, place}
use Rattle.station.specs.declared.Station.{Station}
use Rattle.station.specs.declared.HandedBack.{HandedBack}
use Rattle.station.specs.declared.turn.Change.{Change}
use Rattle.station.specs.declared.turn.Turn.{Turn}
use Rattle.station.specs.Stations.{sound_station, with_slots, area, with_area, full_size}

-- the answer, the station handed back, the store's bytes
pub record After : Type 0 where
  pub answer : Result Reply
  pub station : Station
  pub store : List ℕ

abbrev pub unchanged : Station → List ℕ → Result Reply → After
unchanged station store answer = record { answer = answer; station = station; store = store }

-- the key of a frame received on a bus
abbrev pub key_of : ℕ → Frame → Key
key_of bus frame = record { bus = bus; fields = frame.fields }

-- the progress of an open slot; a closed one has none, for which Idle stands
abbrev pub progress_in : Option Stream → Progress
progress_in None = Idle
progress_in (Some stream) = stream.progress

abbrev pub progress_of : Slot → Progress
progress_of slot = progress_in slot.occupancy

-- a frame of the key that is open at slot i: that slot and its area step
unfoldable pub step_at : Station → List ℕ → ℕ → Key → Frame → After
step_at station store i key frame =
    let next : Next = step station.format (progress_of (slot_at station.slots i)) (area store i) frame in
    record {
      answer = next.answer;
      station = with_slots station (set station.slots i (open_slot key next.progress));
      store = with_area store i next.area;
    }

unfoldable pub deliver : Station → List ℕ → Key → Frame → After
deliver station store key frame =
    let i : ℕ = place (has_key key) station.slots in
    cond (ltb i 16) (step_at station store i key frame) (unchanged station store (value filtered))

-- refused, or a frame
abbrev pub judged_as : Station → List ℕ → (bus : ℕ) → Result Judged → After
judged_as station store bus (refused n) = unchanged station store (refused n)
judged_as station store bus (value judged) = deliver station store (key_of bus judged.frame) judged.frame

-- FIELD: a bus handed in is out of range. Then the image is judged: LENGTH, FORM, REMOTE, COUNT, SURPLUS, PIECE
abbrev pub examined : Format → (bus : ℕ) → List ℕ → Result Judged
examined format bus image = checked_then (check Field (leb bus 1) ∷ []) (judge format image)

-- STATE: station handed in not sound. STORE: store not 32,768 bytes. Then what `examined` says
abbrev pub let_in : Station → List ℕ → (bus : ℕ) → List ℕ → Result Judged
let_in station store bus image =
    checked_then (check State (sound_station station) ∷ check Store (full_size store) ∷ []) (examined station.format bus image)

unfoldable pub receive : Station → List ℕ → (bus : ℕ) → List ℕ → After
receive station store bus image = judged_as station store bus (let_in station store bus image)

-- the slot that a call concerns: the one that is open with the frame's key, also where that stream answers ORPHAN, STEP or LONG; 16,
-- which is none of sixteen, where the call is refused by 21, 13, 9, 1 to 5 or 25, or no slot is open with the key
abbrev pub concerned_by : List Slot → (bus : ℕ) → Result Judged → ℕ
concerned_by slots bus (refused n) = 16
concerned_by slots bus (value judged) = place (has_key (key_of bus judged.frame)) slots

unfoldable pub concerned : Station → List ℕ → (bus : ℕ) → List ℕ → ℕ
concerned station store bus image = concerned_by station.slots bus (let_in station store bus image)

-- what the code hands back, and the store afterwards, say
abbrev pub after : HandedBack Answer → List ℕ → After
after r store = record { answer = meaning r.answer; station = r.station; store = store }

-- the same for a turn over bare slots, which names the slot that it changes, or none: it is that slot, 16 where there is none; and the
-- slots become these
abbrev pub named : Option Change → ℕ
named None = 16
named (Some change) = change.at

abbrev pub changed : List Slot → Option Change → List Slot
changed slots None = slots
changed slots (Some change) = set slots change.at change.slot

abbrev pub after_turn : Station → Turn → List ℕ → After
after_turn station r store =
    record {
      answer = meaning r.answer;
      station = with_slots station (changed station.slots r.change);
      store = store;
    }

-- ---- a slot that is found already steps on a frame's bytes

-- the frame of a head and packet bytes
abbrev pub framed : Head → List ℕ → Frame
framed head bytes = record { fields = head.fields; flag = head.flag; number = head.number; bytes = bytes }

-- the stream of slot i, of that progress, steps on its area, and the store after it
unfoldable pub step_in : Format → Progress → List ℕ → ℕ → Frame → Next
step_in format progress store i frame =
    let next : Next = step format progress (area store i) frame in
    record { answer = next.answer; progress = next.progress; area = with_area store i next.area }

-- CLOSED: slot number over 15. STORE: store not 32,768 bytes. SURPLUS: more than 8 packet bytes
abbrev pub step_checks : List ℕ → ℕ → List ℕ → List Check
step_checks store i bytes = check Closed (ltb i 16) ∷ check Store (full_size store) ∷ check Surplus (leb (length bytes) 8) ∷ []

abbrev pub area_step : Format → Progress → List ℕ → ℕ → Frame → Result Next
area_step format progress store i frame = guarded (step_checks store i frame.bytes) (step_in format progress store i frame)

-- what the code hands back, and the store afterwards, say
abbrev pub went : Returned Stepped → List ℕ → Result Next
went (Ok next) store = value (next_of next store)
went (Err name) store = refused (number name)

-- the slot that steps, 16 where none does; and what comes of it
abbrev pub stepping : List ℕ → ℕ → List ℕ → Result ℕ
stepping store i bytes = guarded (step_checks store i bytes) i

abbrev pub slot_of : Result ℕ → ℕ
slot_of (value i) = i
slot_of (refused n) = 16

abbrev pub stepped : Station → List ℕ → Key → Frame → Result ℕ → After
stepped station store key frame (value i) = step_at station store i key frame
stepped station store key frame (refused n) = unchanged station store (refused n)

abbrev pub turned : Station → List ℕ → ℕ → Key → Frame → After
turned station store i key frame = stepped station store key frame (stepping store i frame.bytes)
