-- One slot of a state: whether it is closed, what it is, and the step of its stream.
use Prim.Native.Nat.{ℕ, ◌+◌, ◌*◌, ◌≤◌, ◌<◌}
use native.Mathlib.Omega.{arith}
use mathlib.Core.Path.{◌≡◌, refl, ◌∙◌, ap}
use mathlib.Core.Bool.{Bool, true, false, cond}
use mathlib.Core.List.{List}
use lib.Dec.{eqb}
use lib.ListN.{set, replicate}
use Rattle.format.specs.declared.Format.{Format}
use Rattle.format.specs.declared.Format.TheVariants.{Extended, Standard}
use Rattle.slot.specs.Slots.{closed_slot, open_slot, slot_at, is_closed}
use Rattle.std.specs.Prelude.{Option, None, Some, MatchOption, IfSome, position}
use Rattle.slot.specs.declared.Slot.{Slot}
use Rattle.slot.proofs.Places.{position_some}
use Rattle.std.specs.List.{position_or_len}
use Rattle.std.proofs.lemmas.List.Sums.{position_or_len_is}
use borrow.Author.Tests.{lt-ltb}
use mathlib.Core.Path.{sym}
use Rattle.station.specs.Stations.{new_station}
use Rattle.words.specs.Words.{word_bytes, word_at}
use Rattle.format.specs.Numbers.{format_number}
use Rattle.station_bytes.specs.States.{layout_number, key_in, progress_from, slot_in, slots_from, state_bytes}
use Rattle.station_bytes.proofs.Scans.{slot_at_lem, slots_length}

-- the bytes of a new station
pub new_bytes : (format : Format) (number : ℕ) → number ≡ format_number format → set (set (replicate 130 0) 128 number) 129 layout_number ≡ state_bytes (new_station format)
unfolding word_bytes
new_bytes Extended number e = rw e
new_bytes Standard number e = rw e

module _ (state : List ℕ) (i : ℕ) (h : i < 16) where
  pub slot_is : (format : Format) → slot_at (slots_from format state 0 16) i ≡ slot_in format (word_at state (8 * i)) (word_at state (8 * i + 4))
  slot_is format = let z : 0 + i ≡ i = omega arith in slot_at_lem format state 0 16 i h ∙ ap (λ (k : ℕ). slot_in format (word_at state (8 * k)) (word_at state (8 * k + 4))) z

  pub closed_is : (format : Format) → is_closed (slot_at (slots_from format state 0 16) i) ≡ eqb (word_at state (8 * i + 4)) 0
  closed_is format = ap is_closed (slot_is format) ∙ go (eqb (word_at state (8 * i + 4)) 0)
    where
      go : (b : Bool) → is_closed (cond b closed_slot (open_slot (key_in format (word_at state (8 * i))) (progress_from (word_at state (8 * i + 4))))) ≡ b
      go true = refl
      go false = refl

-- the search for the first closed slot
pub first_closed_is : (format : Format) (state : List ℕ) (found : Option ℕ)
    → MatchOption found ((k : ℕ) → 0 ≤ k → k < 16 → eqb (word_at state (8 * k + 4)) 0 ≡ false)
    (λ i. (0 ≤ i) × (i < 16) × (eqb (word_at state (8 * i + 4)) 0 ≡ true) × ((k : ℕ) → 0 ≤ k → k < i → eqb (word_at state (8 * k + 4)) 0 ≡ false))
    → found ≡ position is_closed (slots_from format state 0 16)
first_closed_is format state None h =
    let n = slots_length format state 0 16 in
    let at : position_or_len is_closed (slots_from format state 0 16) ≡ 16 =
    position_or_len_is is_closed (slots_from format state 0 16) 16 closed_slot (omega (arith, n)) (λ k l. closed_is state k l format ∙ h k (omega arith) l) (λ l. absurd (omega (arith, n))) in
    sym (rw (at, n) refl)
first_closed_is format state (Some i) h =
    let n = slots_length format state 0 16 in
    let l : i < 16 = h.1 in
    let at : position_or_len is_closed (slots_from format state 0 16) ≡ i =
    position_or_len_is is_closed (slots_from format state 0 16) i closed_slot (omega (arith, n)) (λ k l. closed_is state k (omega arith) format ∙ h.3 k (omega arith) l) (λ l. closed_is state i h.1 format ∙ h.2) in
    sym (rw (at, n, lt-ltb i 16 l) refl)

-- a slot that is found is one of sixteen
pub found_within : (format : Format) (state : List ℕ) (test : Slot → Bool) (found : Option ℕ) → found ≡ position test (slots_from format state 0 16) → IfSome found (λ i. i < 16)
found_within format state test None e = tt
found_within format state test (Some i) e = omega (arith, position_some test (slots_from format state 0 16) i e, slots_length format state 0 16)
