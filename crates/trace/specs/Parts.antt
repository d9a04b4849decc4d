-- What a push leaves, for the proofs of this crate and of those above it. Nothing here need be believed: the public contracts are
-- proved from it.
use Rattle.std.specs.Prelude.{ℕ, ◌+◌, ◌≡◌, List, ◌++◌, length, take}

-- bytes are put into a text of which the first `at` bytes count, and r is where they end
pub record Put (text : List ℕ) (at : ℕ) (bytes : List ℕ) (r : ℕ) (last : List ℕ) : Type 0 where
  pub place : r ≡ at + length bytes
  pub head : take r last ≡ take at text ++ bytes
  pub size : length last ≡ length text
