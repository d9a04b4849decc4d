-- compare/PROTOCOL.md: what stands where in the arguments of a request. "Numbers of more than one byte have their high byte first." A byte
-- past the end is 0, which no request has (Operations).
use Rattle.std.specs.Prelude.{◌≡◌, ℕ, ◌+◌, ◌*◌, ◌%◌, cond, List, [], ◌∷◌, length, drop, replicate, ◌==◌, nat_le, slice_index, slice_range, slice_set}
use Rattle.format.specs.declared.Format.{Format}
use Rattle.format.specs.declared.Format.TheVariants.{Extended, Standard}
use Rattle.format.specs.declared.Fields.{Fields}
use Rattle.format.specs.declared.Fields.TheVariants as fields
use Rattle.format.specs.declared.Refusal.{Refusal}
use Rattle.format.specs.declared.Refusal.TheVariants as refusal
use Rattle.format.specs.Refusals.{number}
use Rattle.frame.specs.Layout.{flag_of}
use Rattle.master.specs.declared.Kind.{Kind}
use Rattle.master.specs.declared.Kind.TheVariants.{Poll, DataBlock, Command}
use Rattle.std.specs.Prelude.{Option}
use Rattle.master.specs.declared.Exchange.{Exchange}
use Rattle.std.specs.Prelude.{None, Some}
use Rattle.master.specs.declared.Master.{Master}
use Rattle.slot.specs.declared.Key.{Key}
use Rattle.slot.specs.declared.Slot.{Slot}
use Rattle.slot.specs.Slots.{closed_slot, open_slot}
use Rattle.stream.specs.declared.Progress.TheVariants as progress
use Rattle.format.specs.Refusals.{Returned}
use Rattle.stream.specs.declared.Answer.{Answer}
use Rattle.stream.specs.declared.Answer.TheVariants as answer
use Rattle.std.specs.Prelude.{Ok, Err}
use Rattle.calls_program.specs.declared.stations.Front.{Front}
use Rattle.calls_program.specs.declared.stations.Front.TheVariants.{Itself, Table}
use Rattle.trace.specs.declared.Line.{Line}
use Rattle.trace.specs.declared.Line.TheVariants as line

abbrev pub byte_at : List ℕ → ℕ → ℕ
byte_at args at = slice_index args at

-- the number in two, four, eight bytes from a place on
abbrev pub number2_at : List ℕ → ℕ → ℕ
number2_at args at = byte_at args at * 256 + byte_at args (at + 1)

unfoldable pub number4_at : List ℕ → ℕ → ℕ
number4_at args at = number2_at args at * 65536 + number2_at args (at + 2)

unfoldable pub number8_at : List ℕ → ℕ → ℕ
number8_at args at = number4_at args at * 4294967296 + number4_at args (at + 4)

-- the bytes from a place up to another, none if that is past the end; "all the bytes that are left"
unfoldable pub bytes_between : List ℕ → (from to : ℕ) → List ℕ
bytes_between args from to = cond (nat_le to (length args)) (slice_range args from to) []

abbrev pub bytes_from : List ℕ → ℕ → List ℕ
bytes_from args from = drop from args

-- "A format is 0 (extended) or 1 (standard). Five fields are priority, source, group, destination and function in extended; priority,
-- address, side and two bytes that are not looked at in standard."
unfoldable pub format_named : ℕ → Format
format_named code = cond (code == 0) Extended Standard

unfoldable pub fields_at : List ℕ → ℕ → Format → Fields
fields_at args at Extended =
    fields.Extended (byte_at args at) (byte_at args (at + 1)) (byte_at args (at + 2)) (byte_at args (at + 3)) (byte_at args (at + 4))
fields_at args at Standard = fields.Standard (byte_at args at) (byte_at args (at + 1)) (byte_at args (at + 2))

-- bus, format, 5 fields
unfoldable pub key_at : List ℕ → ℕ → Key
key_at args at = record { bus = byte_at args at; fields = fields_at args (at + 2) (format_named (byte_at args (at + 1))) }

-- "A kind of exchange is 1 poll, 2 data block, 3 command"
unfoldable pub kind_named : ℕ → Kind
kind_named code = cond (code == 1) Poll (cond (code == 2) DataBlock Command)

-- EXCHANGE: "the master becomes one with A chosen for every node but the first, which has that bus, and that exchange, or none with kind 0"
unfoldable pub activity_named : (kind node sends : ℕ) → Option Exchange
activity_named kind node sends =
    cond (kind == 0) None (Some (record { kind = kind_named kind; node = node; sends = sends }))

unfoldable pub master_named : List ℕ → Master
master_named args =
    record {
      chosen = slice_set (replicate 64 0) (byte_at args 0 % 64) (byte_at args 1);
      activity = activity_named (byte_at args 2) (byte_at args 3) (byte_at args 4);
    }

-- SLOT: "slot number 0 to 15, kind 0 to 3, h (2 bytes), bus, format, 5 fields"
unfoldable pub slot_named : (kind h : ℕ) → Key → Slot
slot_named kind h key =
    cond (kind == 0) closed_slot
    (open_slot key (cond (kind == 1) progress.Idle (cond (kind == 2) (progress.Collecting h) (progress.Done h))))

-- FRONT: "0 or 1"
unfoldable pub front_named : ℕ → Front
front_named code = cond (code == 0) Itself Table

-- "a refusal's number"; of a line "one that is no refusal's is read as 21"
abbrev pub refusal_table : List Refusal
refusal_table =
    refusal.Length ∷ refusal.Form ∷ refusal.Remote ∷ refusal.Count ∷ refusal.Piece
    ∷ refusal.Orphan ∷ refusal.Step ∷ refusal.Long ∷ refusal.Field ∷ refusal.Size ∷ refusal.Index
    ∷ refusal.Room ∷ refusal.Store ∷ refusal.Taken ∷ refusal.Full ∷ refusal.Closed ∷ refusal.NoPacket
    ∷ refusal.Busy ∷ refusal.Idle ∷ refusal.NotAwaited ∷ refusal.Surplus ∷ []

abbrev pub named_in : List Refusal → (n : ℕ) → Refusal
named_in [] n = refusal.State
named_in (name ∷ names) n = cond (number name == n) name (named_in names n)

unfoldable pub refusal_named : ℕ → Refusal
refusal_named n = named_in refusal_table n

-- no refusal is left out
unfoldable pub EachNamed : Type 0
EachNamed = (name : Refusal) → refusal_named (number name) ≡ name

-- A line "is 29 bytes, of which each kind looks at its own: kind (0 header, 1 frame, 2 refused image, 3 stopped, 4 records), ordinal or
-- count (8 bytes), bus, format, 5 fields, flag, number, count, and an answer in 10 bytes: its kind (1 to 4 as below), its number (8 bytes;
-- of a refusal its own, as of NUMBER), and 1 if it is "broke", else 0. [..] another kind of answer as 4 [..] of a refusal's
-- number the lowest byte counts". It comes after the room, at place 1.
unfoldable pub answer_of_line : List ℕ → Returned Answer
answer_of_line args =
    cond (byte_at args 20 == 1) (Ok (answer.Packet (number8_at args 21) (byte_at args 29 == 1)))
    (cond (byte_at args 20 == 2) (Ok (answer.Kept (byte_at args 29 == 1)))
    (cond (byte_at args 20 == 3) (Ok answer.Filtered) (Err (refusal_named (byte_at args 28)))))

unfoldable pub frame_of_line : List ℕ → Line
frame_of_line args =
    line.Frame (number8_at args 2) (byte_at args 10) (fields_at args 12 (format_named (byte_at args 11))) (flag_of (byte_at args 17))
    (byte_at args 18)
    (byte_at args 19)
    (answer_of_line args)

unfoldable pub line_of : List ℕ → Line
line_of args =
    cond (byte_at args 1 == 0) line.Header
    (cond (byte_at args 1 == 1) (frame_of_line args)
    (cond (byte_at args 1 == 2) (line.Refused (number8_at args 2) (byte_at args 10) (refusal_named (byte_at args 28)))
    (cond (byte_at args 1 == 3) (line.Stopped (number8_at args 2)) (line.Records (number8_at args 2)))))
