-- Document 01, "Splitting": "Fields: priority 0 to 3, source, destination and address 0 to 63, group 0 to 3, function 0 to 31, side 0 to
-- 1." A format is handed in as a number, fields as bytes in the order of the image's layout.
use Rattle.std.specs.Prelude.{ℕ, cond, List, eqb, length, get_or}
use Rattle.format.specs.declared.Fields.{Fields}
use Rattle.format.specs.declared.Fields.TheVariants as fields
use Rattle.slot.specs.declared.Key.{Key}

-- fields out of range, for what is none: 255 is no priority
abbrev pub no_fields : Fields
no_fields = fields.Standard 255 0 0

unfoldable pub extended_fields : List ℕ → Fields
extended_fields bytes =
    cond (eqb (length bytes) 5)
    (fields.Extended (get_or bytes 0 0) (get_or bytes 1 0) (get_or bytes 2 0) (get_or bytes 3 0) (get_or bytes 4 0)) no_fields

unfoldable pub standard_fields : List ℕ → Fields
standard_fields bytes = cond (eqb (length bytes) 3) (fields.Standard (get_or bytes 0 0) (get_or bytes 1 0) (get_or bytes 2 0)) no_fields

-- of a format's number, 0 extended and 1 standard, and bytes
unfoldable pub fields_from : ℕ → List ℕ → Fields
fields_from format bytes = cond (eqb format 0) (extended_fields bytes) (cond (eqb format 1) (standard_fields bytes) no_fields)

-- the key of a bus and fields of the station's format, whose number is byte 128 of its state
abbrev pub key_from : List ℕ → (bus : ℕ) → List ℕ → Key
key_from state bus bytes = record { bus = bus; fields = fields_from (get_or state 128 0) bytes }
