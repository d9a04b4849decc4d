-- Sound slots, each by itself: what soundness says of a slot's key, and one more turn of the loop that tests the slots.
use Prim.Native.Nat.{ℕ, ◌+◌, ◌≤◌, ◌<◌}
use mathlib.Core.Path.{◌≡◌, refl, sym, ap, ◌∙◌}
use mathlib.Core.Bool.{Bool, true, false, ◌&&◌}
use mathlib.Core.List.{List, [], ◌∷◌}
use native.Mathlib.Numerals.{add-one}
use lib.ListN.{length, drop, get_or, drop_of_length-le}
use lib.Seq.{drop-cons}
use Rattle.format.specs.declared.Format.{Format}
use Rattle.format.specs.Tests.{all_true}
use Rattle.format.proofs.Tests.{each}
use Rattle.slot.specs.declared.Key.{Key}
use Rattle.slot.specs.declared.Slot.{Slot}
use Rattle.slot.specs.declared.Stream.{Stream}
use Rattle.std.specs.Prelude.{Option}
use Rattle.slot.specs.declared.Stream.{Stream}
use Rattle.std.specs.Prelude.{None, Some}
use Rattle.slot.specs.Slots.{same_key, open_with, has_key, place}
use Rattle.slot.specs.Sound.{key_in_range, slot_sound, slots_sound, any}
use Rattle.slot.proofs.Keys.{same_key_lem}
use Rattle.slot.proofs.Places.{place_none}

pub range_of : (format : Format) (stream : Stream) → slot_sound format (Some stream) ≡ true → key_in_range format stream.key ≡ true
unfolding slot_sound
range_of format stream e = (each _ e).0

module _ (format : Format) (slot : Slot) (slots : List Slot) (e : slots_sound format (slot ∷ slots) ≡ true) where
  pub head_sound : slot_sound format slot.occupancy ≡ true
  unfolding slots_sound
  head_sound = (each _ e).0

  pub rest_sound : slots_sound format slots ≡ true
  unfolding slots_sound
  rest_sound = (each _ e).1.0

-- a key out of range is open nowhere
not_open : (format : Format) (key : Key) (o : Option Stream) → key_in_range format key ≡ false → slot_sound format o ≡ true → open_with key o ≡ false
not_open format key None r e = refl
not_open format key (Some stream) r e = go (same_key stream.key key) refl
  where
    go : (b : Bool) → same_key stream.key key ≡ b → same_key stream.key key ≡ false
    go true q =
        let in_range_lem = range_of format stream e in
        let same = ap (key_in_range format) (same_key_lem stream.key key q) in
        let z : ◌≡◌ {A = Bool} true false = sym in_range_lem ∙ same ∙ r in
        cc
    go false q = q

none_open : (format : Format) (key : Key) (slots : List Slot) → key_in_range format key ≡ false → slots_sound format slots ≡ true → any (has_key key) slots ≡ false
unfolding any
none_open format key [] r e = refl
none_open format key (slot ∷ slots) r e =
    let a = not_open format key slot.occupancy r (head_sound format slot slots e) in
    let b = none_open format key slots r (rest_sound format slot slots e) in
    rw (a, b)

pub out_of_range : (format : Format) (key : Key) (slots : List Slot) → key_in_range format key ≡ false → slots_sound format slots ≡ true
    → place (has_key key) slots ≡ length slots
out_of_range format key slots r e = place_none (has_key key) slots (none_open format key slots r e)

-- i slots are sound: the next is not; it is; none is left
module _ (format : Format) (slots : List Slot) (i : ℕ) where
  turn : (d : Slot) → i < length slots → slots_sound format (drop i slots) ≡ (slot_sound format (get_or slots i d).occupancy && slots_sound format (drop (i + 1) slots))
  unfolding slots_sound all_true
  turn d h = rw (drop-cons slots i d h, add-one)

  pub bad : (d : Slot) → i < length slots → slot_sound format (get_or slots i d).occupancy ≡ false → slots_sound format (drop i slots) ≡ false
  bad d h e = rw (turn d h, e)

  pub next : (d : Slot) → i < length slots → slot_sound format (get_or slots i d).occupancy ≡ true → slots_sound format (drop i slots) ≡ slots_sound format (drop (i + 1) slots)
  next d h e = rw (turn d h, e)

  pub none : length slots ≤ i → slots_sound format (drop i slots) ≡ true
  unfolding slots_sound
  none h = rw (drop_of_length-le slots h)
