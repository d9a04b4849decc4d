-- Document 01, "Streams and receiving": "the bus (0 is A, 1 is B) and all identifier fields except flag and number", and the paragraph on
-- soundness: each end of each range from both sides, and each field by which two keys differ. The figures are literals, so that a bound
-- changed alike in a definition and in the code breaks the claim. proofs/Bounds.antt proves it.
use Rattle.std.specs.Prelude.{ℕ, ◌≡◌, Bool, true, false, List, [], ◌∷◌, ◌++◌, replicate}
use Rattle.format.specs.declared.Format.{Format}
use Rattle.format.specs.declared.Format.TheVariants.{Extended, Standard}
use Rattle.format.specs.declared.Fields.{Fields}
use Rattle.format.specs.declared.Fields.TheVariants as fields
use Rattle.format.specs.Tables.{AllHold}
use Rattle.stream.specs.declared.Progress.{Progress}
use Rattle.stream.specs.declared.Progress.TheVariants.{Idle, Collecting, Done}
use Rattle.slot.specs.declared.Key.{Key}
use Rattle.slot.specs.declared.Slot.{Slot}
use Rattle.slot.specs.Slots.{closed_slot, open_slot, is_closed, has_key, place, same_key}
use Rattle.slot.specs.Sound.{key_in_range, fits, sound}
use Rattle.slot.specs.Codes.{key_code}

pub data Bound : Type 0 where
  -- whether a key is in range
  ranges : Format → (bus : ℕ) → Fields → Bool → Bound
  -- whether two keys are the same, each by its bus and fields
  matches : (bus : ℕ) → Fields → (other : ℕ) → Fields → Bool → Bound
  -- whether an open slot may be so far
  held : Format → Progress → Bool → Bound
  -- whether slots are sound
  sounds : Format → List Slot → Bool → Bound
  -- a key's number of 32 bits
  codes : (bus : ℕ) → Fields → ℕ → Bound
  -- where a key is open, and which slot is closed first
  finds : (bus : ℕ) → Fields → List Slot → (key closed : ℕ) → Bound

abbrev pub key_with : (bus : ℕ) → Fields → Key
key_with bus said = record { bus = bus; fields = said }

abbrev pub opened : (bus : ℕ) → Fields → Slot
opened bus said = open_slot (key_with bus said) Idle

abbrev node : Fields
node = fields.Extended 1 5 2 6 3

abbrev side : Fields
side = fields.Standard 2 22 1

abbrev pub table : List Bound
table =
    -- the bus 0 or 1, fields of the station's format, each in its range
    ranges Extended 0 (fields.Extended 0 0 0 0 0) true
    ∷ ranges Extended 1 (fields.Extended 3 63 3 63 31) true
    ∷ ranges Extended 2 node false
    ∷ ranges Extended 0 (fields.Extended 4 5 2 6 3) false
    ∷ ranges Extended 0 side false
    ∷ ranges Standard 1 side true
    ∷ ranges Standard 2 side false
    ∷ ranges Standard 0 (fields.Standard 2 22 2) false
    ∷ ranges Standard 0 node false
    -- a key is the bus and every field
    ∷ matches 0 node 0 node true
    ∷ matches 0 node 1 node false
    ∷ matches 0 node 0 (fields.Extended 2 5 2 6 3) false
    ∷ matches 0 node 0 (fields.Extended 1 4 2 6 3) false
    ∷ matches 0 node 0 (fields.Extended 1 5 3 6 3) false
    ∷ matches 0 node 0 (fields.Extended 1 5 2 7 3) false
    ∷ matches 0 node 0 (fields.Extended 1 5 2 6 2) false
    ∷ matches 1 side 1 side true
    ∷ matches 1 side 0 side false
    ∷ matches 1 side 1 (fields.Standard 1 22 1) false
    ∷ matches 1 side 1 (fields.Standard 2 23 1) false
    ∷ matches 1 side 1 (fields.Standard 2 22 0) false
    ∷ matches 0 node 0 side false
    -- h when collecting: a multiple of the piece size, 8 to 2,048 extended, 7 to 1,785 standard
    ∷ held Extended Idle true
    ∷ held Extended (Collecting 0) false
    ∷ held Extended (Collecting 7) false
    ∷ held Extended (Collecting 8) true
    ∷ held Extended (Collecting 9) false
    ∷ held Extended (Collecting 2048) true
    ∷ held Extended (Collecting 2056) false
    ∷ held Standard (Collecting 0) false
    ∷ held Standard (Collecting 7) true
    ∷ held Standard (Collecting 8) false
    ∷ held Standard (Collecting 1785) true
    ∷ held Standard (Collecting 1792) false
    -- h when done: within the format's limit
    ∷ held Extended (Done 0) true
    ∷ held Extended (Done 2048) true
    ∷ held Extended (Done 2049) false
    ∷ held Standard (Done 1792) true
    ∷ held Standard (Done 1793) false
    -- sixteen slots; open keys differ, the first and the last too; each is in range and its progress fits
    ∷ sounds Extended (replicate 16 closed_slot) true
    ∷ sounds Extended (replicate 15 closed_slot) false
    ∷ sounds Extended (replicate 17 closed_slot) false
    ∷ sounds Extended (opened 0 node ∷ replicate 14 closed_slot ++ (opened 1 node ∷ [])) true
    ∷ sounds Extended (opened 0 node ∷ replicate 14 closed_slot ++ (opened 0 node ∷ [])) false
    ∷ sounds Extended (replicate 14 closed_slot ++ (opened 0 node ∷ opened 0 node ∷ [])) false
    ∷ sounds Extended (replicate 15 closed_slot ++ (opened 2 node ∷ [])) false
    ∷ sounds Extended (replicate 15 closed_slot ++ (open_slot (key_with 0 node) (Done 2049) ∷ [])) false
    ∷ sounds Standard (replicate 15 closed_slot ++ (opened 0 node ∷ [])) false
    -- from the lowest bit: priority 2, function 5, bus 1; then source, group and destination, a byte each. Standard: address, 01 above it;
    -- side
    ∷ codes 0 (fields.Extended 3 0 0 0 0) 3
    ∷ codes 1 node 0x0602058D
    ∷ codes 1 (fields.Extended 3 63 3 63 31) 0x3F033FFF
    ∷ codes 1 side 0x00015682
    ∷ codes 0 (fields.Standard 0 0 0) 0x00004000
    -- the first of them, 16 if there is none
    ∷ finds 0 node (replicate 16 closed_slot) 16 0
    ∷ finds 1 node (opened 0 node ∷ opened 1 node ∷ replicate 14 closed_slot) 1 2
    ∷ finds 0 node (replicate 15 closed_slot ++ (opened 0 node ∷ [])) 15 0
    ∷ finds 0 node (replicate 16 (opened 0 node)) 0 16
    ∷ []

abbrev pub Holds : Bound → Type 0
Holds (ranges format bus said ok) = key_in_range format (key_with bus said) ≡ ok
Holds (matches bus said other fs ok) = same_key (key_with bus said) (key_with other fs) ≡ ok
Holds (held format progress ok) = fits format progress ≡ ok
Holds (sounds format slots ok) = sound format slots ≡ ok
Holds (codes bus said n) = key_code (key_with bus said) ≡ n
Holds (finds bus said slots key closed) = (place (has_key (key_with bus said)) slots ≡ key) × (place is_closed slots ≡ closed)

unfoldable pub SlotBounds : Type 0
SlotBounds = AllHold Holds table
