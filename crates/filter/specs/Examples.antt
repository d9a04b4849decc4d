-- Document 01, "Examples to hold against the rules": "Filter low byte code C0, mask BF accepts groups 1 and 3 (source A.2)"; and what
-- holds fast which mask lets a bit pass, that each of ID.28 to ID.13 counts, and how a row is read. proofs/Examples.antt proves it.
use Rattle.std.specs.Prelude.{ℕ, ◌-◌, ◌≡◌, Bool, true, false, List, [], ◌∷◌}
use Rattle.format.specs.Tables.{AllHold}
use Rattle.filter.specs.Filters.{accepts, either_accepts, row_pair}

pub data Example : Type 0 where
  -- whether a filter accepts ID.28 to ID.13
  filters : (code mask id : ℕ) → Bool → Example
  -- whether the pair of a row of Table A.1 does
  rows : List ℕ → (id : ℕ) → Bool → Example

-- identifiers that differ from the code in one bit only, each bit given by its figure: they are refused with mask 0, and with mask 1 at
-- every other bit; with mask 1 at that bit they are accepted
abbrev bit_by_bit : List ℕ → List Example
bit_by_bit [] = []
bit_by_bit (bit ∷ bits) =
    filters 0x0000 0x0000 bit false
    ∷ filters 0x0000 (0xFFFF - bit) bit false
    ∷ filters 0x0000 bit bit true
    ∷ filters bit 0x0000 0x0000 false
    ∷ filters bit (0xFFFF - bit) 0x0000 false
    ∷ filters bit bit 0x0000 true
    ∷ bit_by_bit bits

abbrev pub table : List Example
table =
    -- low byte code C0, mask BF, and any high byte: groups 1 and 3, whatever the other bits are
    filters 0x00C0 0xFFBF 0x0000 false
    ∷ filters 0x00C0 0xFFBF 0x0040 true
    ∷ filters 0x00C0 0xFFBF 0x0080 false
    ∷ filters 0x00C0 0xFFBF 0x00C0 true
    ∷ filters 0x00C0 0xFFBF 0xFF7F true
    ∷ filters 0x00C0 0xFFBF 0xFFBF false
    -- mask 0: the code alone; ID.28 and ID.13 count too
    ∷ filters 0x8001 0x0000 0x8001 true
    ∷ filters 0x8001 0x0000 0x0001 false
    ∷ filters 0x8001 0x0000 0x8000 false
    ∷ filters 0x8001 0x8000 0x0001 true
    ∷ filters 0x8001 0x8000 0x8000 false
    ∷ filters 0x8001 0x0001 0x8000 true
    ∷ filters 0x8001 0x0001 0x0001 false
    ∷ filters 0x8001 0xFFFF 0x7FFE true
    -- code 0, mask 0, code 1, mask 1, and the second filter likewise: either accepts, and not half of each
    ∷ rows (0x45 ∷ 0x00 ∷ 0x86 ∷ 0x00 ∷ 0x06 ∷ 0x00 ∷ 0x07 ∷ 0x00 ∷ []) 0x4586 true
    ∷ rows (0x45 ∷ 0x00 ∷ 0x86 ∷ 0x00 ∷ 0x06 ∷ 0x00 ∷ 0x07 ∷ 0x00 ∷ []) 0x0607 true
    ∷ rows (0x45 ∷ 0x00 ∷ 0x86 ∷ 0x00 ∷ 0x06 ∷ 0x00 ∷ 0x07 ∷ 0x00 ∷ []) 0x4507 false
    ∷ rows (0x45 ∷ 0x00 ∷ 0x86 ∷ 0x00 ∷ 0x06 ∷ 0x00 ∷ 0x07 ∷ 0x00 ∷ []) 0x0686 false
    ∷ rows (0x45 ∷ 0x00 ∷ 0x86 ∷ 0xFF ∷ 0x06 ∷ 0xFF ∷ 0x07 ∷ 0x00 ∷ []) 0x4500 true
    ∷ rows (0x45 ∷ 0x00 ∷ 0x86 ∷ 0xFF ∷ 0x06 ∷ 0xFF ∷ 0x07 ∷ 0x00 ∷ []) 0x0007 true
    ∷ rows (0x45 ∷ 0x00 ∷ 0x86 ∷ 0xFF ∷ 0x06 ∷ 0xFF ∷ 0x07 ∷ 0x00 ∷ []) 0x0086 false
    -- ID.13 to ID.20, and ID.21 to ID.28
    ∷ bit_by_bit
    (0x0001 ∷ 0x0002 ∷ 0x0004 ∷ 0x0008 ∷ 0x0010 ∷ 0x0020 ∷ 0x0040 ∷ 0x0080
    ∷ 0x0100 ∷ 0x0200 ∷ 0x0400 ∷ 0x0800 ∷ 0x1000 ∷ 0x2000 ∷ 0x4000 ∷ 0x8000 ∷ [])

abbrev pub Holds : Example → Type 0
Holds (filters code mask id ok) = accepts (record { code = code; mask = mask }) id ≡ ok
Holds (rows row id ok) = either_accepts (row_pair row) id ≡ ok

unfoldable pub FilterExamples : Type 0
FilterExamples = AllHold Holds table
