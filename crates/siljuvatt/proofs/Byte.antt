-- A number that is a byte and not 0, as a test and as a fact.
use Prim.Native.Nat.{ℕ, ◌≤◌}
use mathlib.Core.Path.{◌≡◌}
use mathlib.Core.Bool.{Bool, true}
use mathlib.Core.List.{[], ◌∷◌}
use lib.Dec.{leb}
use borrow.Author.Tests.{leb-true}
use Rattle.format.specs.Tests.{all_true}
use Rattle.format.proofs.Tests.{each}

abbrev pub IsByte : ℕ → Type 0
IsByte n = (1 ≤ n) × (n ≤ 255)

abbrev pub a_byte : ℕ → Bool
a_byte n = all_true (leb 1 n ∷ leb n 255 ∷ [])

pub byte_within : (n : ℕ) → a_byte n ≡ true → IsByte n
byte_within n e = let tests = each (leb 1 n ∷ leb n 255 ∷ []) e in (leb-true _ _ tests.0, leb-true _ _ tests.1.0)
