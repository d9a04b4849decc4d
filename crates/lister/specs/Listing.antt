-- Document 01, the listing program, last paragraph of "Examples to hold against the rules": "It opens each new key as first seen, up to 16.
-- It prints the header, one line a record, and the count." What a part of the input, as it arrives, adds to the listing.
use Rattle.std.specs.Prelude.{ℕ, zero, suc, ◌+◌, ◌-◌, ◌%◌, Bool, true, false, cond, List, [], ◌∷◌, ◌++◌, length, drop, replicate, nat_le}
use Rattle.format.specs.declared.Format.TheVariants.{Extended}
use Rattle.format.specs.declared.Refusal.TheVariants.{State, Store}
use Rattle.format.specs.Refusals.{Result, value, refused, check, guarded, number}
use Rattle.frame.specs.Judge.{Frame, Judged, judge}
use Rattle.format.specs.Outputs.{fitting, over}
use Rattle.stream.specs.Answers.{Reply}
use Rattle.slot.specs.declared.Slot.{Slot}
use Rattle.slot.specs.Slots.{closed_slot}
use Rattle.station.specs.declared.Station.{Station}
use Rattle.station.specs.Stations.{sound_station, full_size}
use Rattle.station.specs.Receive.{After, key_of, receive}
use Rattle.station.specs.Open.{opening}
use Rattle.trace.specs.Records.{Found, whole, damaged, cut, none, record_at}
use Rattle.trace.specs.Lines.{frame_line, refused_line, stopped_line, count_line}
use Rattle.lister.specs.declared.Listing.{Listing}
use Rattle.lister.specs.declared.Listed.{Listed}
use Rattle.format.specs.Refusals.{Returned}
use Rattle.lister.specs.declared.Why.{Why}
use Rattle.lister.specs.declared.Why.TheVariants as why
use Rattle.std.specs.Prelude.{Ok, Err}

-- a listing begins with every slot closed and no record
abbrev pub new_listing : Listing
new_listing = record { slots = replicate 16 closed_slot; count = 0 }

-- "The listing program reads extended frames"
abbrev pub extended_station : List Slot → Station
extended_station slots = record { format = Extended; slots = slots }

-- ---- one record

-- the station with the key of the frame open: opened if it is new and a slot is closed; an image refused by 1 to 5 or 25 opens
-- nothing
abbrev pub opened_for : Station → (bus : ℕ) → Result Judged → Station
opened_for station bus (refused n) = station
opened_for station bus (value judged) = (opening station (key_of bus judged.frame)).station

unfoldable pub heard : Station → List ℕ → (bus : ℕ) → List ℕ → After
heard station store bus image = receive (opened_for station bus (judge Extended image)) store bus image

-- the line of record r
abbrev pub line_for : (r bus : ℕ) → Result Judged → Result Reply → List ℕ
line_for r bus (refused n) answer = refused_line r bus n
line_for r bus (value judged) answer =
    let frame : Frame = judged.frame in
    frame_line r bus frame.fields frame.flag frame.number (length frame.bytes) answer

-- the number of the next record; the count is one of 64 bits, which no trace fills
abbrev pub next : ℕ → ℕ
next count = (count + 1) % 18446744073709551616

-- ---- as many as there are

-- where a listing stands: the slots and the store, how many records were listed, what is left of the input, the text so far
pub record Stand : Type 0 where
  pub slots : List Slot
  pub store : List ℕ
  pub count : ℕ
  pub rest : List ℕ
  pub text : List ℕ

unfoldable pub listed_one : Stand → (bus : ℕ) → List ℕ → (size : ℕ) → Stand
listed_one s bus image size =
    let r : ℕ = next s.count in
    let given : After = heard (extended_station s.slots) s.store bus image in
    record {
      slots = given.station.slots;
      store = given.store;
      count = r;
      rest = drop size s.rest;
      text = s.text ++ line_for r bus (judge Extended image) given.answer;
    }

-- why no further record was listed: what is left of the input is no whole record; the output might not have room for the next line;
-- the next record is damaged
pub data Reason : Type 0 where
  input : Reason
  room : Reason
  damage : Reason

pub record Reached : Type 0 where
  pub why : Reason
  pub stand : Stand

abbrev pub reached : Reason → Stand → Reached
reached why s = record { why = why; stand = s }

-- a whole record is listed, and then what follows it, where there is room for a line after so many bytes of text
abbrev pub listed_by : (space : ℕ → Bool) → Stand → Found → (Stand → Reached) → Reached
listed_by space s none following = reached input s
listed_by space s cut following = reached input s
listed_by space s damaged following = reached damage s
listed_by space s (whole bus image size) following =
    cond (space (length s.text)) (following (listed_one s bus image size)) (reached room s)

-- one after the other. Each takes some of the input, so that as many rounds as it has bytes are enough
unfoldable pub listed : (rounds : ℕ) (space : ℕ → Bool) → Stand → Reached
listed zero space s = reached input s
listed (suc rounds) space s = listed_by space s (record_at s.rest) (listed rounds space)

-- there is room for any line: `LINE_ROOM` of trace
abbrev pub has_room : (output : List ℕ) → ℕ → Bool
has_room output n = nat_le (n + 96) (length output)

-- ---- the call

-- why it went no further or a refusal, the listing handed back, the store, how much of the input was taken, how much of the output was
-- written, the output
pub record AfterListing : Type 0 where
  pub why : Result Reason
  pub listing : Listing
  pub store : List ℕ
  pub used : ℕ
  pub written : ℕ
  pub output : List ℕ

abbrev pub handed_back : Listing → (store taken output : List ℕ) → Result Reached → AfterListing
handed_back l store taken output (refused n) =
    record { why = refused n; listing = l; store = store; used = 0; written = 0; output = output }
handed_back l store taken output (value r) =
    let s : Stand = r.stand in
    record {
      why = value r.why;
      listing = record { slots = s.slots; count = s.count };
      store = s.store;
      used = length taken - length s.rest;
      written = length s.text;
      output = over s.text output;
    }

abbrev pub begun : Listing → (store taken : List ℕ) → Stand
begun l store taken = record { slots = l.slots; store = store; count = l.count; rest = taken; text = [] }

-- STATE: the slots are not sound. STORE: store not 32,768 bytes
unfoldable pub listing : Listing → (store taken output : List ℕ) → AfterListing
listing l store taken output =
    handed_back l store taken output
    (guarded (check State (sound_station (extended_station l.slots)) ∷ check Store (full_size store) ∷ [])
    (listed (length taken) (has_room output) (begun l store taken)))

-- what the code hands back, and the store and the output afterwards, say
abbrev pub meaning : Returned Why → Result Reason
meaning (Ok why.Input) = value input
meaning (Ok why.Room) = value room
meaning (Ok why.Damaged) = value damage
meaning (Err name) = refused (number name)

abbrev pub listing_after : Listed → (store output : List ℕ) → AfterListing
listing_after r store output =
    record {
      why = meaning r.why;
      listing = r.listing;
      store = store;
      used = r.used;
      written = r.written;
      output = output;
    }

-- ---- the end

-- whether the listing stops at what is left of the input when no more comes: "A record is damaged when its length, version or bus is none
-- of these or the input ends inside it." A whole record that is left is no damaged one
abbrev pub stops_at : Found → Bool
stops_at none = false
stops_at cut = true
stops_at damaged = true
stops_at (whole bus image size) = false

-- what follows the lines of the records: of a damaged record "its number and "stopped"", which "isn't counted"; and the count
abbrev pub end_text : (stops : Bool) (count : ℕ) → List ℕ
end_text true count = stopped_line (next count) ++ count_line count
end_text false count = count_line count

-- the text at the end, with what is left of the input
abbrev pub last_lines : Listing → (rest : List ℕ) → List ℕ
last_lines l rest = end_text (stops_at (record_at rest)) l.count

-- for an output of `space` bytes. ROOM: output shorter than that
unfoldable pub ending : Listing → (rest : List ℕ) (space : ℕ) → Result (List ℕ)
ending l rest space = fitting (last_lines l rest) space
