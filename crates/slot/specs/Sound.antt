-- Document 01, "Streams and receiving", fourth paragraph: "A station is sound when open keys differ and are in range, h when
-- collecting is a multiple of the piece size (8 to 2,048 extended, 7 to 1,785 standard), and h when done is within the format's
-- limit." And it has 16 slots.
use Rattle.std.specs.Prelude.{ℕ, ◌-◌, ◌%◌, Bool, true, false, not, ◌||◌, cond, List, [], ◌∷◌, leb, eqb, length, position}
use Rattle.format.specs.declared.Format.{Format}
use Rattle.format.specs.declared.Format.TheVariants.{Extended, Standard}
use Rattle.format.specs.declared.Refusal.TheVariants.{State}
use Rattle.format.specs.Refusals.{Returned}
use Rattle.format.specs.Tests.{all_true}
use Rattle.format.specs.Formats.{piece_size, packet_limit, format_of, in_range}
use Rattle.stream.specs.declared.Progress.{Progress}
use Rattle.stream.specs.declared.Progress.TheVariants.{Idle, Collecting, Done}
use Rattle.slot.specs.declared.Key.{Key}
use Rattle.std.specs.Prelude.{Option}
use Rattle.slot.specs.declared.Stream.{Stream}
use Rattle.std.specs.Prelude.{None, Some, Ok, Err}
use Rattle.slot.specs.declared.Slot.{Slot}
use Rattle.slot.specs.Slots.{has_key}

abbrev pub same_format : Format → Format → Bool
same_format Extended Extended = true
same_format Standard Standard = true
same_format Extended Standard = false
same_format Standard Extended = false

-- a key in range: the bus is 0 or 1, the fields are of the station's format and each in its range
unfoldable pub key_in_range : Format → Key → Bool
key_in_range format key = all_true (leb key.bus 1 ∷ same_format format (format_of key.fields) ∷ in_range key.fields ∷ [])

-- the most bytes that a sound stream holds while collecting: in standard a piece less than a packet
abbrev pub most_held : Format → ℕ
most_held Extended = packet_limit Extended
most_held Standard = packet_limit Standard - piece_size Standard

unfoldable pub fits : Format → Progress → Bool
fits format Idle = true
fits format (Collecting h) = all_true (eqb (h % piece_size format) 0 ∷ leb (piece_size format) h ∷ leb h (most_held format) ∷ [])
fits format (Done h) = leb h (packet_limit format)

unfoldable pub slot_sound : Format → Option Stream → Bool
slot_sound format None = true
slot_sound format (Some stream) = all_true (key_in_range format stream.key ∷ fits format stream.progress ∷ [])

unfoldable pub slots_sound : Format → List Slot → Bool
slots_sound format [] = true
slots_sound format (slot ∷ slots) = all_true (slot_sound format slot.occupancy ∷ slots_sound format slots ∷ [])

unfoldable pub any : {A : Type 0} → (A → Bool) → List A → Bool
any test [] = false
any test (x ∷ xs) = test x || any test xs

-- the slot's key, if it is open, is open among the others
abbrev pub repeated_in : Option Stream → List Slot → Bool
repeated_in None slots = false
repeated_in (Some stream) slots = any (has_key stream.key) slots

-- open keys differ: none is open again further on
unfoldable pub keys_differ : List Slot → Bool
keys_differ [] = true
keys_differ (slot ∷ slots) = all_true (not (repeated_in slot.occupancy slots) ∷ keys_differ slots ∷ [])

unfoldable pub sound : Format → List Slot → Bool
sound format slots = all_true (eqb (length slots) 16 ∷ slots_sound format slots ∷ keys_differ slots ∷ [])

-- where a key is open, none if nowhere; STATE where the slots are not sound
abbrev pub sought : Format → List Slot → Key → Returned (Option ℕ)
sought format slots key = cond (sound format slots) (Ok (position (has_key key) slots)) (Err State)
