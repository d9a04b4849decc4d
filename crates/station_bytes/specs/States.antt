-- Document 01, "Streams and receiving", first two paragraphs: "A station has one format and 16 slots, all closed when new. A slot is closed
-- or open with a key [..]. An open slot is idle, collecting with h bytes held, or done with h bytes." Here as 130 bytes that a caller
-- lends: a record of eight bytes for each slot, then the format, then the number of this layout. A record is two numbers of 32 bits, each
-- low byte first: that of the key and that of the progress; both are 0 for a closed slot. The document has no layout. Its number is the
-- last byte, so that bytes in the layout of another release, and zeros, are refused with 21.
use Rattle.std.specs.Prelude.{ℕ, zero, suc, ◌+◌, ◌*◌, ◌/◌, ◌%◌, Bool, true, cond, List, [], ◌∷◌, ◌++◌, leb, eqb, length, get_or}
use Rattle.format.specs.declared.Format.{Format}
use Rattle.format.specs.declared.Format.TheVariants.{Extended, Standard}
use Rattle.format.specs.declared.Fields.TheVariants as fields
use Rattle.format.specs.Numbers.{format_number}
use Rattle.format.specs.Tests.{all_true}
use Rattle.stream.specs.declared.Progress.{Progress}
use Rattle.stream.specs.declared.Progress.TheVariants.{Idle, Collecting, Done}
use Rattle.slot.specs.declared.Key.{Key}
use Rattle.std.specs.Prelude.{Option}
use Rattle.slot.specs.declared.Stream.{Stream}
use Rattle.std.specs.Prelude.{None, Some}
use Rattle.slot.specs.declared.Slot.{Slot}
use Rattle.slot.specs.Slots.{closed_slot, open_slot}
use Rattle.slot.specs.Codes.{key_code}
use Rattle.station.specs.declared.Station.{Station}
use Rattle.station.specs.Stations.{station_of}
use Rattle.words.specs.Words.{word_bytes, word_at}

-- ---- the bytes of a station

abbrev pub progress_number : Progress → ℕ
progress_number Idle = 65536
progress_number (Collecting h) = 131072 + h
progress_number (Done h) = 196608 + h

-- the two numbers of a record: the key's is `key_code`, from the lowest bit priority (2 bits), function (5), bus (1), then source, group and
-- destination, a byte each; in standard priority (2), 0 (5), bus (1), address (6), 01, and side from bit 16 on
abbrev pub first_of : Option Stream → ℕ
first_of None = 0
first_of (Some stream) = key_code stream.key

abbrev pub second_of : Option Stream → ℕ
second_of None = 0
second_of (Some stream) = progress_number stream.progress

abbrev pub slot_bytes : Slot → List ℕ
slot_bytes slot = word_bytes (first_of slot.occupancy) ++ word_bytes (second_of slot.occupancy)

abbrev pub slots_bytes : List Slot → List ℕ
slots_bytes [] = []
slots_bytes (slot ∷ slots) = slot_bytes slot ++ slots_bytes slots

-- a release that writes other bytes for a station gives them another number
abbrev pub layout_number : ℕ
layout_number = 1

-- the two bytes behind the slots
abbrev pub end_bytes : Format → List ℕ
end_bytes format = format_number format ∷ layout_number ∷ []

abbrev pub state_bytes : Station → List ℕ
state_bytes station = slots_bytes station.slots ++ end_bytes station.format

-- ---- the station read back

abbrev pub format_in : ℕ → Format
format_in n = cond (eqb n 0) Extended Standard

abbrev pub key_in : Format → ℕ → Key
key_in Extended n =
    record { bus = n / 128 % 2; fields = fields.Extended (n % 4) (n / 256 % 256) (n / 65536 % 256) (n / 16777216) (n / 4 % 32) }
key_in Standard n = record { bus = n / 128 % 2; fields = fields.Standard (n % 4) (n / 256 % 64) (n / 65536) }

abbrev pub progress_from : ℕ → Progress
progress_from n = cond (eqb (n / 65536) 1) Idle (cond (eqb (n / 65536) 2) (Collecting (n % 65536)) (Done (n % 65536)))

-- of the two numbers of a record
abbrev pub slot_in : Format → (first second : ℕ) → Slot
slot_in format first second = cond (eqb second 0) closed_slot (open_slot (key_in format first) (progress_from second))

-- n slots from slot i on
unfoldable pub slots_from : Format → List ℕ → (i n : ℕ) → List Slot
slots_from format state i zero = []
slots_from format state i (suc n) =
    slot_in format (word_at state (8 * i)) (word_at state (8 * i + 4)) ∷ slots_from format state (i + 1) n

abbrev pub format_at : List ℕ → Format
format_at state = format_in (get_or state 128 0)

abbrev pub station_in : List ℕ → Station
station_in state = station_of (format_at state) (slots_from (format_at state) state 0 16)

-- ---- whether bytes are those of a station, sound or not: of the one that is read back

-- the two numbers are those of the slot that they are read as
abbrev pub slot_written : Format → (first second : ℕ) → Bool
slot_written format first second =
    cond (eqb second 0) (eqb first 0)
    (all_true (eqb (key_code (key_in format first)) first ∷ eqb (progress_number (progress_from second)) second ∷ []))

unfoldable pub slots_written : Format → List ℕ → (i n : ℕ) → Bool
slots_written format state i zero = true
slots_written format state i (suc n) =
    all_true (slot_written format (word_at state (8 * i)) (word_at state (8 * i + 4)) ∷ slots_written format state (i + 1) n ∷ [])

unfoldable pub is_state : List ℕ → Bool
is_state state =
    all_true
    (eqb (length state) 130
    ∷ leb (get_or state 128 0) 1
    ∷ eqb (get_or state 129 0) layout_number
    ∷ slots_written (format_at state) state 0 16
    ∷ [])
