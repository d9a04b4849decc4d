-- compare/PROTOCOL.md: the bytes of a response. "Numbers of more than one byte have their high byte first."
use Rattle.std.specs.Prelude.{ℕ, zero, suc, ◌+◌, ◌/◌, ◌%◌, Bool, cond, List, [], ◌∷◌, ◌++◌, length, replicate, nat_lt}
use Rattle.std.specs.Int.{w32, w64, to_be_bytes}
use Rattle.copying.specs.Copy.{written, copied}
use Rattle.format.specs.Outputs.{answer, output_after}
use Rattle.format.specs.declared.Fields.{Fields}
use Rattle.format.specs.declared.Fields.TheVariants.{Extended, Standard}
use Rattle.format.specs.Refusals.{Result, value, refused}
use Rattle.stream.specs.declared.Progress.{Progress}
use Rattle.stream.specs.declared.Progress.TheVariants.{Idle, Collecting, Done}
use Rattle.stream.specs.Answers.{Reply, packet, kept, filtered}
use Rattle.calls_program.specs.declared.response.Says.{Says}
use Rattle.calls_program.specs.declared.response.Says.TheVariants as says
use Rattle.trace.specs.Records.{Found, whole, damaged, cut, none}
use Rattle.lister.specs.Listing.{Reason, input, room, damage}
use Rattle.std.specs.Prelude.{Option}
use Rattle.master.specs.declared.Exchange.{Exchange}
use Rattle.std.specs.Prelude.{None, Some}
use Rattle.master.specs.declared.Master.{Master}
use Rattle.master.specs.Masters.{kind_number}
use Rattle.master.specs.Exchanges.{Told, send, done, gave_up}
use Rattle.watch.specs.declared.Watch.{Watch}
use Rattle.std.specs.Prelude.{Option}
use Rattle.slot.specs.declared.Stream.{Stream}
use Rattle.std.specs.Prelude.{None, Some}
use Rattle.slot.specs.declared.Slot.{Slot}

-- "A number that a call answers or hands back is 65,535 in two bytes if it is larger, which none is."
unfoldable pub capped : ℕ → ℕ
capped n = cond (nat_lt 65535 n) 65535 n

unfoldable pub number2_bytes : ℕ → List ℕ
number2_bytes n = capped n / 256 ∷ capped n % 256 ∷ []

abbrev pub number4_bytes : ℕ → List ℕ
number4_bytes n = to_be_bytes w32 n

abbrev pub number8_bytes : ℕ → List ℕ
number8_bytes n = to_be_bytes w64 n

-- FILL: "byte i of the 40,000 becomes (seed + i × step) modulo 256"
unfoldable pub filled_bytes : (n first step : ℕ) → List ℕ
filled_bytes zero first step = []
filled_bytes (suc n) first step = first ∷ filled_bytes n ((first + step) % 256) step

-- the kinds of answers, each as below
abbrev pub number_of : Says → ℕ
number_of says.Packet = 1
number_of says.Kept = 2
number_of says.Filtered = 3
number_of says.Refused = 4
number_of says.Value = 5
number_of says.Send = 6
number_of says.Done = 7
number_of says.GaveUp = 8
number_of says.Record = 9
number_of says.Damaged = 10
number_of says.Cut = 11
number_of says.Nothing = 12
number_of says.Input = 13
number_of says.Room = 14

-- "An answer is four bytes: its kind, a two-byte number, and one byte more"
unfoldable pub answer_bytes : (kind n more : ℕ) → List ℕ
answer_bytes kind n more = kind ∷ (number2_bytes n ++ (more ∷ []))

-- 4 refused: the refusal's number. 5 a value: a slot number, a length, a count, a bus
abbrev pub outcome_bytes : Result ℕ → List ℕ
outcome_bytes (value n) = answer_bytes 5 n 0
outcome_bytes (refused n) = answer_bytes 4 n 0

-- 1 packet: length, 1 if "broke". 2 kept: 1 if "broke". 3 filtered
abbrev pub flag_byte : Bool → ℕ
flag_byte b = cond b 1 0

abbrev pub reply_bytes : Result Reply → List ℕ
reply_bytes (value (packet length broke)) = answer_bytes 1 length (flag_byte broke)
reply_bytes (value (kept broke)) = answer_bytes 2 0 (flag_byte broke)
reply_bytes (value filtered) = answer_bytes 3 0 0
reply_bytes (refused n) = answer_bytes 4 n 0

-- "Slots are 16 times ten bytes: kind (0 closed, 1 idle, 2 collecting, 3 done), h in two bytes (0 unless collecting or done), bus, format,
-- five fields (the last two are 0 in standard). All ten are 0 for a closed slot."
abbrev pub field_bytes : Fields → List ℕ
field_bytes (Extended priority source group destination function) = 0 ∷ priority ∷ source ∷ group ∷ destination ∷ function ∷ []
field_bytes (Standard priority address side) = 1 ∷ priority ∷ address ∷ side ∷ 0 ∷ 0 ∷ []

abbrev pub progress_bytes : Progress → List ℕ
progress_bytes Idle = 1 ∷ 0 ∷ 0 ∷ []
progress_bytes (Collecting h) = 2 ∷ h / 256 ∷ h % 256 ∷ []
progress_bytes (Done h) = 3 ∷ h / 256 ∷ h % 256 ∷ []

abbrev pub occupancy_bytes : Option Stream → List ℕ
occupancy_bytes None = replicate 10 0
occupancy_bytes (Some stream) = progress_bytes stream.progress ++ (stream.key.bus ∷ field_bytes stream.key.fields)

-- an output with slots written from a place on, one after the other
unfoldable pub out_with_slots : List ℕ → (at : ℕ) → List Slot → List ℕ
out_with_slots out at [] = out
out_with_slots out at (slot ∷ slots) = out_with_slots (copied out at (occupancy_bytes slot.occupancy)) (at + 10) slots

-- 6 send: the bus. 7 done. 8 gave up
abbrev pub told_bytes : Result Told → List ℕ
told_bytes (value (send bus)) = answer_bytes 6 bus 0
told_bytes (value done) = answer_bytes 7 0 0
told_bytes (value gave_up) = answer_bytes 8 0 0
told_bytes (refused n) = answer_bytes 4 n 0

-- 9 a record: its size, the bus. 10 the record is damaged. 11 the bytes end inside a record. 12 there are no bytes
abbrev pub found_bytes : Found → List ℕ
found_bytes (whole bus image size) = answer_bytes 9 size bus
found_bytes damaged = answer_bytes 10 0 0
found_bytes cut = answer_bytes 11 0 0
found_bytes none = answer_bytes 12 0 0

-- 13 what is left of the input is no whole record. 14 the output might not have room for the next line
abbrev pub reason_bytes : Result Reason → List ℕ
reason_bytes (value input) = answer_bytes 13 0 0
reason_bytes (value room) = answer_bytes 14 0 0
reason_bytes (value damage) = answer_bytes 10 0 0
reason_bytes (refused n) = answer_bytes 4 n 0

-- "A kind of exchange is 1 poll, 2 data block, 3 command, 0 none. A master is the kind of its exchange, its node and its sends (0 and 0 if
-- there is none), and the 64 chosen buses. A watch is the last times of A and B, 4 bytes each."
abbrev pub exchange_bytes : Option Exchange → List ℕ
exchange_bytes None = 0 ∷ 0 ∷ 0 ∷ []
exchange_bytes (Some exchange) = kind_number exchange.kind ∷ exchange.node ∷ exchange.sends ∷ []

-- an output with a master, a watch written after the answer
unfoldable pub out_with_master : List ℕ → Master → List ℕ
out_with_master out master = copied (copied out 4 (exchange_bytes master.activity)) 7 master.chosen

unfoldable pub out_with_watch : List ℕ → Watch → List ℕ
out_with_watch out watch = copied (copied out 4 (number4_bytes watch.a)) 8 (number4_bytes watch.b)

-- ---- a response: its size, and the output with it at its start

pub record Responded : Type 0 where
  pub size : ℕ
  pub output : List ℕ

abbrev pub responds : (size : ℕ) (output : List ℕ) → Responded
responds size output = record { size = size; output = output }

-- one of so many bytes; where the output has no room for it there is none, which does not happen: none is longer than 40,000 bytes
-- (Bench::respond), and main.rt has room for so many
abbrev pub room_for : (size : ℕ) → (out with : List ℕ) → Responded
room_for size out with = cond (nat_lt (length out) size) (responds 0 out) (responds size with)

-- "answer"
abbrev pub answer_alone : (answer out : List ℕ) → Responded
answer_alone answer out = responds 4 (copied out 0 answer)

-- the answer of a call that writes a text "to an output of `room` bytes, which before the call are all" alike, and that output from a place
-- on
unfoldable pub lent_in : (at : ℕ) → Result (List ℕ) → (n byte : ℕ) → (out : List ℕ) → List ℕ
lent_in at text n byte out = copied (written out at (output_after text (replicate n byte))) 0 (outcome_bytes (answer text))
