-- Document 01, "Refusal numbers": "Each returns its number". A call of the library answers a number of 32 bits. A refusal is 2^31 and its
-- number. Any other answer is a number below 2^16, above it the answer's kind, if it has one, and 2^24 for "broke". Kinds of different
-- calls differ, from each other and from the kinds of exchanges that are handed in (1 to 3). A check's answer is 2^25 for bus A and 2^26
-- for bus B: bits that no refusal has.
use Rattle.std.specs.Prelude.{ℕ, ◌+◌, ◌*◌, ◌%◌, Bool, cond}
use Rattle.format.specs.Refusals.{Result, value, refused}
use Rattle.stream.specs.Answers.{Reply, packet, kept, filtered}
use Rattle.master.specs.Exchanges.{Told, send, done, gave_up}

-- the version of the library: 65,536 × major + 256 × minor + patch, here 0.2.0
abbrev pub version : ℕ
version = 512

abbrev pub refused_word : ℕ → ℕ
refused_word n = 2147483648 + n

-- a count, a length, a slot's number, a bus. None is over 2,048 (claim Small)
abbrev pub number_word : ℕ → ℕ
number_word n = n % 65536

abbrev pub kind_word : ℕ → ℕ
kind_word kind = kind * 65536

abbrev pub broke_word : Bool → ℕ
broke_word broke = cond broke 16777216 0

abbrev pub outcome_word : Result ℕ → ℕ
outcome_word (value n) = number_word n
outcome_word (refused n) = refused_word n

-- kinds: 4 packet, 5 kept, 6 filtered
abbrev pub reply_word : Result Reply → ℕ
reply_word (value (packet length broke)) = kind_word 4 + number_word length + broke_word broke
reply_word (value (kept broke)) = kind_word 5 + broke_word broke
reply_word (value filtered) = kind_word 6
reply_word (refused n) = refused_word n

-- kinds: 7 send, 8 done, 9 gave up
abbrev pub told_word : Result Told → ℕ
told_word (value (send bus)) = kind_word 7 + bus
told_word (value done) = kind_word 8
told_word (value gave_up) = kind_word 9
told_word (refused n) = refused_word n

-- which buses are to be reset: 0 none, 1 A, 2 B, 3 both
abbrev pub reset_word : Result ℕ → ℕ
reset_word (value n) = n % 4 * 33554432
reset_word (refused n) = refused_word n
