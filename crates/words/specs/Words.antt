-- Numbers of 32 bits in lent bytes: four bytes, low byte first. In document 01 the times of a watch are such numbers ("a free-running
-- 32-bit millisecond count"); a station's keys and progresses are written as such numbers too.
use Rattle.std.specs.Prelude.{ℕ, ◌+◌, ◌*◌, ◌/◌, ◌%◌, List, [], ◌∷◌, get_or}

-- the four bytes of a number below 2^32
unfoldable pub word_bytes : ℕ → List ℕ
word_bytes w = w % 256 ∷ w / 256 % 256 ∷ w / 65536 % 256 ∷ w / 16777216 ∷ []

-- the number of four bytes
unfoldable pub word_of : ℕ → ℕ → ℕ → ℕ → ℕ
word_of a b c d = a + b * 256 + c * 65536 + d * 16777216

-- the number in the four bytes from place `at` on
unfoldable pub word_at : List ℕ → (at : ℕ) → ℕ
word_at bytes at = word_of (get_or bytes at 0) (get_or bytes (at + 1) 0) (get_or bytes (at + 2) 0) (get_or bytes (at + 3) 0)
