-- Document 01, "Splitting": "only the bytes of that image are written"; "Streams and receiving": "The part of the store that is
-- the stream's own area is lent on to be written", "Bytes not written stay."
use Rattle.std.specs.Prelude.{ℕ, ◌+◌, Bool, cond, List, ◌++◌, leb, length, take, drop}

-- a list with bytes written from place `at` on; the others stay
unfoldable pub written : List ℕ → (at : ℕ) → List ℕ → List ℕ
written list at bytes = take at list ++ (bytes ++ drop (at + length bytes) list)

-- whether the bytes end within the list
unfoldable pub within : List ℕ → (at : ℕ) → List ℕ → Bool
within list at bytes = leb (at + length bytes) (length list)

-- the copying call writes them if they do, and nothing otherwise
unfoldable pub copied : List ℕ → (at : ℕ) → List ℕ → List ℕ
copied list at bytes = cond (within list at bytes) (written list at bytes) list
