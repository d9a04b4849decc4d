-- Document 01, "Filters, exchanges and watch", first paragraph: "A filter (extended only) is 16 code bits and 16 mask bits over ID.28
-- to ID.13. It accepts when each bit equals the code's or has mask 1 (source A.2). A pair accepts when either filter does." And where
-- document 01 settles four places of the source, at its beginning: "a Table A.1 row is read as code 0, mask 0, code 1, mask 1 and so on."
use Rattle.std.specs.Prelude.{ℕ, ◌+◌, ◌*◌, ◌-◌, ◌/◌, ◌%◌, ◌^◌, Bool, ◌||◌, List, [], ◌∷◌, map, eqb, get_or}
use Rattle.format.specs.Tests.{all_true}
use Rattle.filter.specs.declared.Filter.{Filter}
use Rattle.filter.specs.declared.Pair.{Pair}

-- ID.i of 16 bits that stand for ID.28 to ID.13: ID.13 is the lowest of them
unfoldable pub bit : ℕ → ℕ → ℕ
bit bits i = bits / 2 ^ (i - 13) % 2

-- the source's sentence for one bit: ID.i = ACR.i or AMR.i = 1
unfoldable pub passes : Filter → ℕ → ℕ → Bool
passes filter id i = eqb (bit id i) (bit filter.code i) || eqb (bit filter.mask i) 1

-- i = 13, .., 28
unfoldable pub accepts : Filter → ℕ → Bool
accepts filter id =
    all_true
    (map (passes filter id)
    (13 ∷ 14 ∷ 15 ∷ 16 ∷ 17 ∷ 18 ∷ 19 ∷ 20 ∷ 21 ∷ 22 ∷ 23 ∷ 24 ∷ 25 ∷ 26 ∷ 27 ∷ 28 ∷ []))

unfoldable pub either_accepts : Pair → ℕ → Bool
either_accepts pair id = accepts pair.first id || accepts pair.second id

-- a filter from its registers: the first code and mask for ID.28 to ID.21, the second for ID.20 to ID.13
abbrev pub registers : ℕ → ℕ → ℕ → ℕ → Filter
registers code0 mask0 code1 mask1 = record { code = code0 * 256 + code1; mask = mask0 * 256 + mask1 }

-- a row of Table A.1: code 0, mask 0, code 1, mask 1 are the first filter, code 2, mask 2, code 3, mask 3 the second
unfoldable pub row_pair : List ℕ → Pair
row_pair row =
    record {
      first = registers (get_or row 0 0) (get_or row 1 0) (get_or row 2 0) (get_or row 3 0);
      second = registers (get_or row 4 0) (get_or row 5 0) (get_or row 6 0) (get_or row 7 0);
    }
