-- The numbers of 32 bits that the library answers, what it reads as fields, and what it adds to the calls below it, once more as literals:
-- what the header says, so that a figure or an order changed alike in a definition and in the code breaks the claim. proofs/Bounds.antt
-- proves it.
use Rattle.std.specs.Prelude.{ℕ, ◌≡◌, Bool, true, false, List, [], ◌∷◌, replicate}
use Rattle.format.specs.declared.Fields.{Fields}
use Rattle.format.specs.declared.Fields.TheVariants as fields
use Rattle.format.specs.Formats.{in_range}
use Rattle.format.specs.Refusals.{Result, value, refused}
use Rattle.format.specs.Tables.{AllHold}
use Rattle.stream.specs.Answers.{Reply, packet, kept, filtered}
use Rattle.master.specs.Exchanges.{Told, send, done, gave_up}
use Rattle.siljuvatt.specs.Answers.{version, outcome_word, reply_word, told_word, reset_word}
use Rattle.siljuvatt.specs.Arguments.{fields_from}
use Rattle.siljuvatt.specs.Calls.{count_in, new_in, start_after}

pub data Bound : Type 0 where
  outcomes : Result ℕ → ℕ → Bound
  replies : Result Reply → ℕ → Bound
  tells : Result Told → ℕ → Bound
  resets : Result ℕ → ℕ → Bound
  -- the version
  versions : (number : ℕ) → Bound
  -- a format's number and bytes: the fields that they are, and whether these are in range
  reads : (format : ℕ) → List ℕ → Fields → Bool → Bound
  -- the piece count of a packet of that size
  counts : (format size : ℕ) → Result ℕ → Bound
  -- so many bytes made a new station's
  news : (size format : ℕ) → Result ℕ → Bound
  -- where a packet that is read begins, for a number that was 7
  begins : Result (List ℕ) → (slot start : ℕ) → Bound

abbrev pub table : List Bound
table =
    outcomes (value 0) 0x00000000
    ∷ outcomes (value 2048) 0x00000800
    ∷ outcomes (refused 1) 0x80000001
    ∷ outcomes (refused 21) 0x80000015
    -- kinds 4, 5 and 6; bit 24 for "broke"
    ∷ replies (value (packet 0 false)) 0x00040000
    ∷ replies (value (packet 2048 false)) 0x00040800
    ∷ replies (value (packet 2048 true)) 0x01040800
    ∷ replies (value (kept false)) 0x00050000
    ∷ replies (value (kept true)) 0x01050000
    ∷ replies (value filtered) 0x00060000
    ∷ replies (refused 8) 0x80000008
    ∷ replies (refused 25) 0x80000019
    -- kinds 7, 8 and 9
    ∷ tells (value (send 0)) 0x00070000
    ∷ tells (value (send 1)) 0x00070001
    ∷ tells (value done) 0x00080000
    ∷ tells (value gave_up) 0x00090000
    ∷ tells (refused 20) 0x80000014
    -- bit 25 for bus A, bit 26 for bus B
    ∷ resets (value 0) 0x00000000
    ∷ resets (value 1) 0x02000000
    ∷ resets (value 2) 0x04000000
    ∷ resets (value 3) 0x06000000
    ∷ resets (refused 21) 0x80000015
    -- 0.2.0
    ∷ versions 0x00000200
    -- 0 extended: priority, source, group, destination, function; 1 standard: priority, address, side; else none
    ∷ reads 0 (1 ∷ 5 ∷ 2 ∷ 6 ∷ 3 ∷ []) (fields.Extended 1 5 2 6 3) true
    ∷ reads 0 (3 ∷ 63 ∷ 3 ∷ 63 ∷ 32 ∷ []) (fields.Extended 3 63 3 63 32) false
    ∷ reads 0 (1 ∷ 5 ∷ 2 ∷ 6 ∷ []) (fields.Standard 255 0 0) false
    ∷ reads 0 (1 ∷ 5 ∷ 2 ∷ 6 ∷ 3 ∷ 0 ∷ []) (fields.Standard 255 0 0) false
    ∷ reads 0 (2 ∷ 22 ∷ 1 ∷ []) (fields.Standard 255 0 0) false
    ∷ reads 1 (2 ∷ 22 ∷ 1 ∷ []) (fields.Standard 2 22 1) true
    ∷ reads 1 (2 ∷ 22 ∷ 2 ∷ []) (fields.Standard 2 22 2) false
    ∷ reads 1 (2 ∷ 22 ∷ []) (fields.Standard 255 0 0) false
    ∷ reads 1 (2 ∷ 22 ∷ 1 ∷ 0 ∷ []) (fields.Standard 255 0 0) false
    ∷ reads 2 (2 ∷ 22 ∷ 1 ∷ []) (fields.Standard 255 0 0) false
    -- FIELD before SIZE
    ∷ counts 0 2048 (value 256)
    ∷ counts 1 1793 (refused 10)
    ∷ counts 2 9999 (refused 9)
    -- STATE before FIELD
    ∷ news 130 0 (value 0)
    ∷ news 130 1 (value 0)
    ∷ news 130 2 (refused 9)
    ∷ news 129 2 (refused 21)
    ∷ news 131 1 (refused 21)
    -- slot i owns the 2,048 bytes from 2,048 × i
    ∷ begins (value (1 ∷ [])) 0 0
    ∷ begins (value (1 ∷ [])) 1 2048
    ∷ begins (value []) 15 30720
    ∷ begins (refused 17) 15 7
    ∷ []

abbrev pub Holds : Bound → Type 0
Holds (outcomes said word) = outcome_word said ≡ word
Holds (replies said word) = reply_word said ≡ word
Holds (tells said word) = told_word said ≡ word
Holds (resets said word) = reset_word said ≡ word
Holds (versions number) = version ≡ number
Holds (reads format bytes said ok) = (fields_from format bytes ≡ said) × (in_range said ≡ ok)
Holds (counts format size said) = count_in format size ≡ said
Holds (news size format said) = (new_in (replicate size 7) format).answer ≡ said
Holds (begins said slot start) = start_after said slot 7 ≡ start

unfoldable pub LibraryBounds : Type 0
LibraryBounds = AllHold Holds table
