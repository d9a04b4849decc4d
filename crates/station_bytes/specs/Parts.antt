-- FOR PRIVATE CONTRACTS ONLY: no public contract cites these definitions, and they need not be believed.
use Rattle.std.specs.Prelude.{ℕ, zero, suc, ◌+◌, ◌*◌, ◌<◌, ◌≡◌, Bool, true, false, cond, List, [], ◌∷◌, eqb}
use Rattle.format.specs.declared.Format.{Format}
use Rattle.format.specs.Tests.{all_true}
use Rattle.slot.specs.Sound.{key_in_range, fits, slot_sound}
use Rattle.slot.specs.Codes.{key_code}
use Rattle.station.specs.Stations.{sound_station}
use Rattle.station.specs.Receive.{progress_of}
use Rattle.station.specs.Open.{is_open}
use Rattle.slot.specs.declared.Slot.{Slot}
use Rattle.slot.specs.Slots.{slot_at}
use Rattle.words.specs.Words.{word_at}
use Rattle.station_bytes.specs.States.{key_in, progress_from, progress_number, slot_in, slot_written, station_in, state_bytes, is_state}

-- the number of a key in range; of a progress that fits
unfoldable pub key_fits : Format → ℕ → Bool
key_fits format n = all_true (eqb (key_code (key_in format n)) n ∷ key_in_range format (key_in format n) ∷ [])

unfoldable pub progress_fits : Format → ℕ → Bool
progress_fits format n = all_true (eqb (progress_number (progress_from n)) n ∷ fits format (progress_from n) ∷ [])

-- the two numbers are those of a sound slot
unfoldable pub record_good : Format → (first second : ℕ) → Bool
record_good format first second = all_true (slot_written format first second ∷ slot_sound format (slot_in format first second).occupancy ∷ [])

unfoldable pub records_good : Format → List ℕ → (i n : ℕ) → Bool
records_good format state i zero = true
records_good format state i (suc n) =
    all_true (record_good format (word_at state (8 * i)) (word_at state (8 * i + 4)) ∷ records_good format state (i + 1) n ∷ [])

-- the code of slot i
abbrev pub record_code : (i first second : ℕ) → ℕ
record_code i first second = cond (eqb second 0) (1073741824 + i) first

unfoldable pub record_codes : List ℕ → (i n : ℕ) → List ℕ
record_codes state i zero = []
record_codes state i (suc n) = record_code i (word_at state (8 * i)) (word_at state (8 * i + 4)) ∷ record_codes state (i + 1) n

-- whether bytes are a sound station's
abbrev pub is_station : List ℕ → Bool
is_station state = all_true (is_state state ∷ sound_station (station_in state) ∷ [])

-- they are none; those of a station that is not sound are what it writes, too
pub record NoStation (state : List ℕ) : Type 0 where
  pub told : is_station state ≡ false
  pub same : is_state state ≡ true → state_bytes (station_in state) ≡ state

-- the progress of slot i, which is open, and its number
pub record OpenAt (slots : List Slot) (i number : ℕ) : Type 0 where
  pub inside : i < 16
  pub told : is_open slots i ≡ true
  pub progress : progress_from number ≡ progress_of (slot_at slots i)
