-- A table's claim, proved by one test that is computed over the whole table; and tests that two values are the same.
use Prim.Native.Nat.{ℕ}
use mathlib.Core.Path.{◌≡◌, refl}
use mathlib.Core.Bool.{Bool, true, false, ◌&&◌}
use mathlib.Core.List.{List, [], ◌∷◌, map}
use native.Mathlib.Omega.{arith}
use lib.Dec.{eqb}
use lib.Pointwise.{pointwise, bytes_decides}
use borrow.Author.Tests.{eqb-true}
use Rattle.format.specs.Tests.{all_true}
use Rattle.format.specs.Tables.{AllHold}
use Rattle.format.specs.Refusals.{Result, value, refused}
use Rattle.format.proofs.Tests.{Each, each}

from_each_test : {A : Type 0} (Holds : A → Type 0) (test : A → Bool) → ((x : A) → test x ≡ true → Holds x)
    → (table : List A) → Each (map test table) → AllHold Holds table
from_each_test Holds test says [] t = tt
from_each_test Holds test says (x ∷ xs) t = (says x t.0, from_each_test Holds test says xs t.1)

-- where the test says of an example what the claim says of it, one test of all of them proves the claim
pub by_test : {A : Type 0} (Holds : A → Type 0) (test : A → Bool) → ((x : A) → test x ≡ true → Holds x)
    → (table : List A) → all_true (map test table) ≡ true → AllHold Holds table
by_test Holds test says table e = from_each_test Holds test says table (each (map test table) e)

abbrev pub same_bool : Bool → Bool → Bool
same_bool true b = b
same_bool false true = false
same_bool false false = true

pub same_bool_lem : (a b : Bool) → same_bool a b ≡ true → a ≡ b
same_bool_lem true true e = refl
same_bool_lem true false e = cc
same_bool_lem false true e = cc
same_bool_lem false false e = refl

pub and_true : (a b : Bool) → (a && b) ≡ true → (a ≡ true) × (b ≡ true)
and_true true b e = (refl, e)
and_true false b e = let z : ◌≡◌ {A = ℕ} 0 1 = cc in absurd (omega arith)

-- of lists, by the library's test
abbrev pub same_numbers : List ℕ → List ℕ → Bool
same_numbers = pointwise eqb

pub same_numbers_lem : (xs ys : List ℕ) → same_numbers xs ys ≡ true → xs ≡ ys
same_numbers_lem xs ys = (bytes_decides xs ys).0

-- of results, by a test of their values
abbrev pub same_result : {A : Type 0} → (A → A → Bool) → Result A → Result A → Bool
same_result same (value a) (value b) = same a b
same_result same (value a) (refused n) = false
same_result same (refused m) (value b) = false
same_result same (refused m) (refused n) = eqb m n

pub same_result_lem : {A : Type 0} (same : A → A → Bool) → ((a b : A) → same a b ≡ true → a ≡ b)
    → (r s : Result A) → same_result same r s ≡ true → r ≡ s
same_result_lem same says (value a) (value b) e = let p : a ≡ b = says a b e in cc
same_result_lem same says (value a) (refused n) e = let z : ◌≡◌ {A = ℕ} 0 1 = cc in absurd (omega arith)
same_result_lem same says (refused m) (value b) e = let z : ◌≡◌ {A = ℕ} 0 1 = cc in absurd (omega arith)
same_result_lem same says (refused m) (refused n) e = let p : m ≡ n = eqb-true m n e in cc
