-- The document has no such number: the code compares it in place of a key, and a key is written as it into the bytes of a station (crate
-- `station_bytes`, States). It is below 1,073,741,824 for a key in range, and another for each such key (16,384 tells the standard
-- keys from the extended). The public contracts of `clash`, `find_key` and `key_number` cite `clashing`, `is` and `key_code`.
-- `slot_code` and `codes_from` are for private contracts only: a closed slot has a number of its own.
use Rattle.std.specs.Prelude.{ℕ, ◌+◌, ◌*◌, Bool, false, ◌||◌, List, [], ◌∷◌, eqb}
use Rattle.format.specs.declared.Fields.{Fields}
use Rattle.format.specs.declared.Fields.TheVariants.{Extended, Standard}
use Rattle.slot.specs.declared.Key.{Key}
use Rattle.std.specs.Prelude.{Option}
use Rattle.slot.specs.declared.Stream.{Stream}
use Rattle.std.specs.Prelude.{None, Some}
use Rattle.slot.specs.declared.Slot.{Slot}
use Rattle.slot.specs.Sound.{any}

abbrev pub code_of : ℕ → Fields → ℕ
code_of bus (Extended p s g d f) = p + s * 256 + g * 65536 + d * 16777216 + f * 4 + bus * 128
code_of bus (Standard p a s) = p + a * 256 + s * 65536 + 16384 + bus * 128

abbrev pub key_code : Key → ℕ
key_code key = code_of key.bus key.fields

abbrev pub slot_code : Option Stream → ℕ → ℕ
slot_code None i = 1073741824 + i
slot_code (Some stream) i = key_code stream.key

-- the codes of the slots, the first of which is slot i
abbrev pub codes_from : List Slot → ℕ → List ℕ
codes_from [] i = []
codes_from (slot ∷ slots) i = slot_code slot.occupancy i ∷ codes_from slots (i + 1)

abbrev pub is : ℕ → ℕ → Bool
is code other = eqb other code

-- two of the codes are equal
abbrev pub clashing : List ℕ → Bool
clashing [] = false
clashing (code ∷ codes) = any (is code) codes || clashing codes
