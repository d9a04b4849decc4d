-- Rows of codes: those that a scan has written so far, and one more turn of the loops that compare them.
use mathlib.Core.Path.{◌≡◌, refl, sym, ◌∙◌}
use mathlib.Core.Bool.{Bool, true, false, ◌||◌}
use mathlib.Core.List.{List, [], append-nil}
use Prim.Native.Nat.{ℕ, suc, ◌+◌, ◌≤◌, ◌<◌}
use native.Mathlib.Omega.{arith}
use native.Mathlib.Numerals.{add-one}
use lib.ListN.{length, set, get_or, take, drop, drop_of_length-le}
use lib.Seq.{paste, paste-suc, take_all, drop-cons}
use Rattle.slot.specs.declared.Slot.{Slot}
use Rattle.slot.specs.Sound.{any}
use Rattle.slot.specs.Codes.{codes_from, slot_code, is, clashing}
use Rattle.slot.proofs.CodeLaws.{codes_at, codes_length}

-- a row that is written over another, one number after the other
module _ (d l : List ℕ) (i : ℕ) (same : length d ≡ length l) where
  pub row_next : (v : ℕ) → i < length l → v ≡ get_or l i 0 → set (paste d 0 l i) i v ≡ paste d 0 l (i + 1)
  row_next v h q =
      let z : 0 + i ≡ i = omega arith in
      let y : i + 1 ≡ suc i = add-one i in
      let p = paste-suc d 0 l i 0 (omega arith) h in
      cc

  pub row_full : length l ≤ i → paste d 0 l i ≡ l
  row_full h =
      let a : take i l ≡ l = take_all i l h in
      let k : length d ≤ 0 + i = omega arith in
      let b : drop (0 + i) d ≡ [] = drop_of_length-le d k in
      rw (a, b) (append-nil l)

-- the codes of slots
module _ (d : List ℕ) (slots : List Slot) (i : ℕ) (same : length d ≡ length slots) where
  as_long : length d ≡ length (codes_from slots 0)
  as_long = same ∙ sym (codes_length slots 0)

  pub filled_next : (x : Slot) (n v : ℕ) → i < length slots → n ≡ i → v ≡ slot_code (get_or slots i x).occupancy n
      → set (paste d 0 (codes_from slots 0) i) i v ≡ paste d 0 (codes_from slots 0) (i + 1)
  filled_next x n v h e q =
      let z : 0 + i ≡ i = omega arith in
      let w = codes_at slots 0 i x h in
      row_next d (codes_from slots 0) i as_long v (omega (arith, codes_length slots 0)) (cc)

  pub filled : length slots ≤ i → paste d 0 (codes_from slots 0) i ≡ codes_from slots 0
  filled h = row_full d (codes_from slots 0) i as_long (omega (arith, codes_length slots 0))

-- one more element is tested, whether or not there was a hit before; none is left
module _ {A : Type 0} (test : A → Bool) (l : List A) (i : ℕ) where
  pub any_turn : (d : A) (b : Bool) → i < length l → (b || any test (drop i l)) ≡ ((b || test (get_or l i d)) || any test (drop (i + 1) l))
  unfolding any
  any_turn d true h = refl
  any_turn d false h = rw (drop-cons l i d h, add-one)

  pub any_none : (b : Bool) → length l ≤ i → (b || any test (drop i l)) ≡ b
  unfolding any
  any_none true h = refl
  any_none false h = rw (drop_of_length-le l h)

-- i rows have no hit: the next has; it has none; no row is left
module _ (l : List ℕ) (i : ℕ) where
  clash_turn : i < length l → clashing (drop i l) ≡ (any (is (get_or l i 0)) (drop (i + 1) l) || clashing (drop (i + 1) l))
  clash_turn h = rw (drop-cons l i 0 h, add-one)

  pub clash_here : i < length l → any (is (get_or l i 0)) (drop (i + 1) l) ≡ true → clashing (drop i l) ≡ true
  clash_here h e = rw (clash_turn h, e)

  pub clash_further : i < length l → any (is (get_or l i 0)) (drop (i + 1) l) ≡ false → clashing (drop i l) ≡ clashing (drop (i + 1) l)
  clash_further h e = rw (clash_turn h, e)

  pub clash_none : length l ≤ i → clashing (drop i l) ≡ false
  clash_none h = rw (drop_of_length-le l h)
