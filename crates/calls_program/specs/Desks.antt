-- compare/PROTOCOL.md, "Stations, both fronts, and splitting" but for 6 COUNT and 7 PIECE (Images), and "Listings": what a request does to
-- the station and what is lent to it. The program holds "40,000 bytes [..] of which the first `lent` are lent to the calls as their store".
use Rattle.std.specs.Prelude.{ℕ, ◌+◌, ◌%◌, cond, List, ◌++◌, length, take, drop, replicate, ◌==◌, nat_lt, slice_set}
use Rattle.copying.specs.Copy.{written, copied}
use Rattle.format.specs.declared.Format.TheVariants.{Extended}
use Rattle.station.specs.declared.Station.{Station}
use Rattle.station.specs.Stations as stations
use Rattle.station.specs.Open.{StationAfter, opening, closing}
use Rattle.station.specs.Receive.{After, receive}
use Rattle.station.specs.Read.{reading, length_of, part_of}
use Rattle.calls_program.specs.declared.stations.Desk.{Desk}
use Rattle.calls_program.specs.declared.stations.Front.TheVariants.{Itself}
use Rattle.lister.specs.declared.Listing.{Listing}
use Rattle.lister.specs.Listing.{AfterListing, new_listing, listing, ending}
use Rattle.calls_program.specs.Requests.{byte_at, front_named, number2_at, number8_at, bytes_between, bytes_from, format_named, key_at, slot_named}
use Rattle.calls_program.specs.Responses.{answer_bytes, outcome_bytes, reply_bytes, reason_bytes, out_with_slots}
use Rattle.calls_program.specs.Responses.{number2_bytes, number8_bytes, filled_bytes}
use Rattle.calls_program.specs.Responses.{Responded, room_for, answer_alone, lent_in}

-- "The program holds a station, at first a new extended one; a front, at first 0; 40,000 bytes, at first all 0, of which the first `lent`
-- are lent to the calls as their store, at first 32,768; a count of records listed, at first 0"
abbrev pub first_desk : Desk
first_desk = record { station = stations.new_station Extended; bytes = replicate 40000 0; lent = 32768; front = Itself; count = 0 }

-- the desk after a request, and the response
pub record DeskDone : Type 0 where
  pub desk : Desk
  pub response : Responded

-- what the code leaves and hands back, and the output afterwards, say
abbrev pub as_done : Desk → (size : ℕ) (out : List ℕ) → DeskDone
as_done desk size out = record { desk = desk; response = record { size = size; output = out } }

-- "the first `lent`"; all where there are fewer, which LEND rules out
unfoldable pub lent_size : Desk → ℕ
lent_size desk = cond (nat_lt (length desk.bytes) desk.lent) (length desk.bytes) desk.lent

abbrev pub store_of : Desk → List ℕ
store_of desk = take (lent_size desk) desk.bytes

abbrev pub with_bytes : Desk → List ℕ → Desk
with_bytes desk bytes =
    record { station = desk.station; bytes = bytes; lent = desk.lent; front = desk.front; count = desk.count }

abbrev pub with_store : Desk → (store : List ℕ) → Desk
with_store desk store = with_bytes desk (store ++ drop (lent_size desk) desk.bytes)

abbrev pub with_station : Desk → Station → Desk
with_station desk station =
    record { station = station; bytes = desk.bytes; lent = desk.lent; front = desk.front; count = desk.count }

abbrev pub with_response : Desk → Responded → DeskDone
with_response desk response = record { desk = desk; response = response }

-- "slots", after an answer that is written
abbrev pub with_slots : Desk → (out : List ℕ) → DeskDone
with_slots desk out = as_done desk 164 (out_with_slots out 4 desk.station.slots)

-- "answer, slots"
abbrev pub with_answer : Desk → (answer out : List ℕ) → DeskDone
with_answer desk answer out = with_slots desk (copied out 0 answer)

-- an empty response, and nothing changed
abbrev pub unanswered : Desk → (out : List ℕ) → DeskDone
unanswered desk out = as_done desk 0 out

-- 1 NEW: "the station becomes a new one of that format, all bytes 0, `lent` 32,768, front 0"
abbrev pub desk_renewed : List ℕ → Desk → (out : List ℕ) → DeskDone
desk_renewed args desk out =
    let station = stations.new_station (format_named (byte_at args 0)) in
    let zeros = replicate (length desk.bytes) 0 in
    with_answer (record { station = station; bytes = zeros; lent = 32768; front = Itself; count = desk.count }) (answer_bytes 5 0 0) out

-- 2 OPEN: "opens the key". 3 CLOSE: "closes the slot"
abbrev pub changed : StationAfter → Desk → (out : List ℕ) → DeskDone
changed after desk out = with_answer (with_station desk after.station) (outcome_bytes after.answer) out

-- 4 RECEIVE: "receives the image at the front that is set". Either front does the same, so that no response shows which is set
abbrev pub received : After → Desk → (out : List ℕ) → DeskDone
received after desk out = with_answer (with_station (with_store desk after.store) after.station) (reply_bytes after.answer) out

-- 5 READ: "reads the slot by both calls"; "answer (the length), then the part's bytes"
abbrev pub read_from : List ℕ → Desk → (out : List ℕ) → DeskDone
read_from args desk out =
    let packet = reading desk.station (store_of desk) (byte_at args 0) in
    as_done desk (4 + length (part_of packet)) (copied (copied out 0 (outcome_bytes (length_of packet))) 4 (part_of packet))

-- 8 SLOT: "puts the slot into that state by hand, sound or not"
abbrev pub slot_set : List ℕ → Desk → (out : List ℕ) → DeskDone
slot_set args desk out =
    let slot = slot_named (byte_at args 1) (number2_at args 2) (key_at args 4) in
    let station = stations.with_slots desk.station (slice_set desk.station.slots (byte_at args 0 % 16) slot) in
    with_answer (with_station desk station) (answer_bytes 5 0 0) out

-- 9 LEND: "`lent` becomes n". 12 FRONT: "from here on images are received by the station itself (0), or over a lent table of its slots (1)"
abbrev pub lending : List ℕ → Desk → (out : List ℕ) → DeskDone
lending args desk out =
    let n = number2_at args 0 in
    let next : Desk = record { station = desk.station; bytes = desk.bytes; lent = n; front = desk.front; count = desk.count } in
    with_response next (answer_alone (answer_bytes 5 n 0) out)

abbrev pub front_set : List ℕ → Desk → (out : List ℕ) → DeskDone
front_set args desk out =
    let front = front_named (byte_at args 0) in
    let next : Desk = record { station = desk.station; bytes = desk.bytes; lent = desk.lent; front = front; count = desk.count } in
    with_response next (answer_alone (answer_bytes 5 0 0) out)

-- 10 STORE: "those of the 40,000 bytes"
abbrev pub bytes_shown : List ℕ → Desk → (out : List ℕ) → DeskDone
bytes_shown args desk out =
    let from = number2_at args 0 in
    let size = number2_at args 2 in
    as_done desk size (copied out 0 (bytes_between desk.bytes from (from + size)))

-- 11 FILL
abbrev pub refilled : List ℕ → Desk → (out : List ℕ) → DeskDone
refilled args desk out =
    with_response
    (with_bytes desk (filled_bytes (length desk.bytes) (byte_at args 0) (byte_at args 1)))
    (answer_alone (answer_bytes 5 0 0) out)

-- those that leave the desk as it is, or all but its bytes; another operation has an empty response
unfoldable pub keeping_done : ℕ → List ℕ → Desk → (out : List ℕ) → DeskDone
keeping_done operation args desk out =
    cond (operation == 5) (read_from args desk out)
    (cond (operation == 10) (bytes_shown args desk out)
    (cond (operation == 11) (refilled args desk out) (unanswered desk out)))

unfoldable pub station_done : ℕ → List ℕ → Desk → (out : List ℕ) → DeskDone
station_done operation args desk out =
    let station = desk.station in
    cond (operation == 1) (desk_renewed args desk out)
    (cond (operation == 2) (changed (opening station (key_at args 0)) desk out)
    (cond (operation == 3) (changed (closing station (byte_at args 0)) desk out)
    (cond (operation == 4) (received (receive station (store_of desk) (byte_at args 0) (bytes_from args 1)) desk out)
    (cond (operation == 8) (slot_set args desk out)
    (cond (operation == 9) (lending args desk out)
    (cond (operation == 12) (front_set args desk out)
    (keeping_done operation args desk out)))))))

-- ---- listings: "A listing has the station's slots for its own, whatever the station's format is, and the count."

abbrev pub listing_of : Desk → Listing
listing_of desk = record { slots = desk.station.slots; count = desk.count }

abbrev pub with_listing : Desk → Listing → Desk
with_listing desk listing =
    record {
      station = stations.with_slots desk.station listing.slots;
      bytes = desk.bytes;
      lent = desk.lent;
      front = desk.front;
      count = listing.count;
    }

-- 19 LISTING: "slots and count become those of a new listing". 20 LISTED: "the count becomes that, by hand"; "answer (value 0), count"
abbrev pub listing_set : Listing → Desk → (out : List ℕ) → DeskDone
listing_set listing desk out =
    as_done (with_listing desk listing) 12 (copied (copied out 0 (answer_bytes 5 0 0)) 4 (number8_bytes listing.count))

-- 21 LIST: "answer (why it went no further), count (8 bytes), bytes used (2), bytes written (2), then all `room` bytes"
abbrev pub with_sizes : AfterListing → (out : List ℕ) → List ℕ
with_sizes after out =
    let answered = copied (written out 16 after.output) 0 (reason_bytes after.why) in
    let counted = copied answered 4 (number8_bytes after.listing.count) in
    copied (copied counted 12 (number2_bytes after.used)) 14 (number2_bytes after.written)

-- "lists the part in an output of `room` bytes, which before the call are all '-'"
abbrev pub part_listed : List ℕ → Desk → (out : List ℕ) → DeskDone
part_listed args desk out =
    let room = number2_at args 0 in
    let after = listing (listing_of desk) (store_of desk) (bytes_from args 2) (replicate room 45) in
    cond (nat_lt (length out) (16 + room)) (unanswered desk out)
    (as_done (with_listing (with_store desk after.store) after.listing) (16 + room) (with_sizes after out))

-- 22 END: "ends the listing in such an output"; "answer (the length written), count (8 bytes), then all `room` bytes"
abbrev pub listing_ended : List ℕ → Desk → (out : List ℕ) → DeskDone
listing_ended args desk out =
    let room = number2_at args 0 in
    let text = ending (listing_of desk) (bytes_from args 2) room in
    with_response desk (room_for (12 + room) out (copied (lent_in 12 text room 45 out) 4 (number8_bytes desk.count)))

unfoldable pub listing_done : ℕ → List ℕ → Desk → (out : List ℕ) → DeskDone
listing_done operation args desk out =
    cond (operation == 19) (listing_set new_listing desk out)
    (cond (operation == 20) (listing_set (record { slots = desk.station.slots; count = number8_at args 0 }) desk out)
    (cond (operation == 21) (part_listed args desk out)
    (cond (operation == 22) (listing_ended args desk out) (unanswered desk out))))
