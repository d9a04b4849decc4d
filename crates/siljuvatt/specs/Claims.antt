-- What is promised of the numbers that the calls answer. Proofs: proofs/OneWord.antt (`OneWord`), proofs/Small.antt (`Small`),
-- proofs/Reading.antt (`ReadsThere`).
use Rattle.std.specs.Prelude.{ℕ, ◌≤◌, ◌≡◌, List, length, take, drop}
use Rattle.format.specs.declared.Fields.{Fields}
use Rattle.format.specs.Refusals.{Result, value, refused}
use Rattle.format.specs.Outputs.{answer}
use Rattle.packet.specs.Send as sending
use Rattle.stream.specs.Answers.{Reply, packet, kept, filtered}
use Rattle.slot.specs.declared.Key.{Key}
use Rattle.station.specs.Read.{length_of}
use Rattle.station_bytes.specs.Calls.{receive_in, open_in, close_in, read_in}
use Rattle.master.specs.Exchanges.{Told, send, done, gave_up}
use Rattle.master_bytes.specs.Calls as masters
use Rattle.watch_bytes.specs.States as watches
use Rattle.siljuvatt.specs.Answers.{outcome_word, reply_word, told_word, reset_word}
use Rattle.siljuvatt.specs.Calls.{count_in, new_in, start_after}

-- a value for which that holds, or a refusal, whose number is a byte and not 0
abbrev pub Within : {A : Type 0} → (A → Type 0) → Result A → Type 0
Within Holds (value x) = Holds x
Within Holds (refused n) = (1 ≤ n) × (n ≤ 255)

-- the number that is answered is at most that
abbrev pub UpTo : ℕ → Result ℕ → Type 0
UpTo most = Within (λ n. n ≤ most)

-- so is the length of a packet
abbrev pub LengthUpTo : ℕ → Reply → Type 0
LengthUpTo most (packet length broke) = length ≤ most
LengthUpTo most (kept broke) = Unit {0}
LengthUpTo most filtered = Unit {0}

-- so is the bus to send on
abbrev pub BusUpTo : ℕ → Told → Type 0
BusUpTo most (send bus) = bus ≤ most
BusUpTo most done = Unit {0}
BusUpTo most gave_up = Unit {0}

-- the word of an answer whose number is below 2^16 leaves no doubt which answer it is
pub record OneWord : Type 0 where
  pub outcomes : (a b : Result ℕ) → UpTo 65535 a → UpTo 65535 b → outcome_word a ≡ outcome_word b → a ≡ b
  pub replies : (a b : Result Reply) → Within (LengthUpTo 65535) a → Within (LengthUpTo 65535) b → reply_word a ≡ reply_word b → a ≡ b
  pub told : (a b : Result Told) → Within (BusUpTo 65535) a → Within (BusUpTo 65535) b → told_word a ≡ told_word b → a ≡ b
  pub resets : (a b : Result ℕ) → UpTo 3 a → UpTo 3 b → reset_word a ≡ reset_word b → a ≡ b

-- what each call answers, whatever it is handed, is far below that
pub record Small : Type 0 where
  -- at most 256 pieces; images of at most 13 bytes
  pub counts : (format size : ℕ) → UpTo 256 (count_in format size)
  pub writes : (fields : Fields) (bytes : List ℕ) (k room : ℕ) → UpTo 13 (answer (sending.send fields bytes k room))
  -- a station: 0 for a new one, slots 0 to 15, packets of at most 2,048 bytes
  pub new : (state : List ℕ) (format : ℕ) → UpTo 0 (new_in state format).answer
  pub opens : (state : List ℕ) (key : Key) → UpTo 15 (open_in state key).answer
  pub closes : (state : List ℕ) (slot : ℕ) → UpTo 15 (close_in state slot).answer
  pub receives : (state store : List ℕ) (bus : ℕ) (image : List ℕ) → Within (LengthUpTo 2048) (receive_in state store bus image).answer
  pub reads : (state store : List ℕ) (slot : ℕ) → UpTo 2048 (length_of (read_in state store slot))
  -- a master: 0 for a new one, buses 0 and 1
  pub new_master : (state : List ℕ) → UpTo 0 (masters.renew state).answer
  pub starts : (state : List ℕ) (kind node : ℕ) → Within (BusUpTo 1) (masters.starting state kind node).answer
  pub replies : (state : List ℕ) (bus node function : ℕ) → Within (BusUpTo 1) (masters.replying state bus node function).answer
  pub times_out : (state : List ℕ) → Within (BusUpTo 1) (masters.timing_out state).answer
  -- a watch: 0 for a new one, buses 0 and 1, and at a check 0 none, 1 A, 2 B, 3 both
  pub new_watch : (state : List ℕ) (time : ℕ) → UpTo 0 (watches.renew state time).answer
  pub hears : (state : List ℕ) (bus time : ℕ) → UpTo 1 (watches.hearing state bus time).answer
  pub checks : (state : List ℕ) (time : ℕ) → UpTo 3 (watches.checking state time).answer

-- a packet that is read stands in the store where the call says that it begins
unfoldable pub ReadsThere : Type 0
ReadsThere =
    (state store : List ℕ) (slot start : ℕ) (bytes : List ℕ) → read_in state store slot ≡ value bytes
    → bytes ≡ take (length bytes) (drop (start_after (read_in state store slot) slot start) store)
