-- Slots whose open keys differ: a key is open where it is found, and nowhere else; and what setting one slot keeps.
use Prim.Native.Nat.{ℕ, zero, suc, ◌<◌}
use mathlib.Core.Path.{◌≡◌, refl, sym, ap, ◌∙◌}
use mathlib.Core.Logic.{◌≢◌}
use mathlib.Core.Bool.{Bool, true, false, cond, not, ◌||◌}
use mathlib.Core.List.{List, [], ◌∷◌}
use native.Mathlib.Nat.{le_of_suc-le-suc, not-suc-le-zero}
use native.Mathlib.Omega.{arith}
use lib.Dec.{eqb, eqb-zero-suc, eqb-suc-zero, eqb-suc-suc}
use lib.ListN.{length, get_or, set}
use borrow.Author.Tests.{ne_eqb, not-true}
use Rattle.format.specs.declared.Format.{Format}
use Rattle.format.proofs.Tests.{each, from_each}
use Rattle.slot.specs.declared.Key.{Key}
use Rattle.slot.specs.declared.Slot.{Slot}
use Rattle.std.specs.Prelude.{Option, None, Some}
use Rattle.slot.specs.declared.Stream.{Stream}
use Rattle.slot.specs.Slots.{closed_slot, slot_at, same_key, open_with, has_key, place}
use Rattle.slot.specs.Sound.{slot_sound, slots_sound, any, repeated_in, keys_differ}
use Rattle.slot.proofs.Keys.{same_key_lem}
use Rattle.slot.proofs.Places.{place_none}

-- ---- where a test holds

pub none_holds : {A : Type 0} (test : A → Bool) (xs : List A) (d : A) → ((j : ℕ) → j < length xs → test (get_or xs j d) ≡ false) → any test xs ≡ false
unfolding any
none_holds test [] d h = refl
none_holds test (x ∷ xs) d h = rw (h 0 (omega arith)) (none_holds test xs d (λ j l. h (suc j) (omega arith)))

any_set : {A : Type 0} (test : A → Bool) (xs : List A) (i : ℕ) (x : A) → any test xs ≡ false → test x ≡ false → any test (set xs i x) ≡ false
unfolding any
any_set test [] i x e t = refl
any_set test (y ∷ ys) zero x e t = rw t (go (test y) e)
  where
    go : (b : Bool) → (b || any test ys) ≡ false → any test ys ≡ false
    go true e = let z : ◌≡◌ {A = ℕ} 0 1 = cc in absurd (omega arith)
    go false e = e
any_set test (y ∷ ys) (suc i) x e t = go (test y) e (λ h. any_set test ys i x h t)
  where
    go : (b : Bool) → (b || any test ys) ≡ false → (any test ys ≡ false → any test (set ys i x) ≡ false) → (b || any test (set ys i x)) ≡ false
    go true e rest = e
    go false e rest = rest e

-- ---- a key is open where it is found

first : (b : Bool) (n : ℕ) → b ≡ eqb (cond b 0 (suc n)) 0
first true n = refl
first false n = sym (eqb-suc-zero n)

later : (b c : Bool) (n i : ℕ) → c ≡ eqb n i → (b ≡ true → c ≡ false) → c ≡ eqb (cond b 0 (suc n)) (suc i)
later true c n i e h = h refl ∙ sym (eqb-zero-suc i)
later false c n i e h = e ∙ sym (eqb-suc-suc n i)

past : (o : Option Stream) (slots : List Slot) (key : Key) (i : ℕ) → not (repeated_in o slots) ≡ true → i < length slots
    → has_key key (slot_at slots i) ≡ eqb (place (has_key key) slots) i
    → has_key key (slot_at slots i) ≡ eqb (cond (open_with key o) 0 (suc (place (has_key key) slots))) (suc i)
past None slots key i lone h ih = ih ∙ sym (eqb-suc-suc (place (has_key key) slots) i)
past (Some stream) slots key i lone h ih =
    let absent = place_none (has_key stream.key) slots (not-true _ lone) in
    let away : eqb (length slots) i ≡ false = ne_eqb (length slots) i (λ e. omega arith) in
    later (same_key stream.key key) (has_key key (slot_at slots i)) (place (has_key key) slots) i ih
    (λ e. ih ∙ ap (λ (n : ℕ). eqb n i) (ap (λ (k : Key). place (has_key k) slots) (sym (same_key_lem stream.key key e)) ∙ absent) ∙ away)

pub found : (slots : List Slot) → keys_differ slots ≡ true → (key : Key) (i : ℕ) → i < length slots
    → has_key key (slot_at slots i) ≡ eqb (place (has_key key) slots) i
unfolding keys_differ place
found [] d key i h = absurd (not-suc-le-zero h)
found (slot ∷ slots) d key zero h = first (has_key key slot) (place (has_key key) slots)
found (slot ∷ slots) d key (suc i) h =
    let t = each _ d in
    past slot.occupancy slots key i t.0 (le_of_suc-le-suc h) (found slots t.1.0 key i (le_of_suc-le-suc h))

-- ---- setting one slot

pub sound_at : (format : Format) (slots : List Slot) → slots_sound format slots ≡ true → (i : ℕ) → i < length slots
    → slot_sound format (slot_at slots i).occupancy ≡ true
unfolding slots_sound
sound_at format [] e i h = absurd (not-suc-le-zero h)
sound_at format (slot ∷ slots) e zero h = (each _ e).0
sound_at format (slot ∷ slots) e (suc i) h = sound_at format slots (each _ e).1.0 i (le_of_suc-le-suc h)

pub sound_set : (format : Format) (slots : List Slot) → slots_sound format slots ≡ true → (i : ℕ) (slot : Slot) → slot_sound format slot.occupancy ≡ true
    → slots_sound format (set slots i slot) ≡ true
unfolding slots_sound
sound_set format [] e i slot f = refl
sound_set format (s ∷ slots) e zero slot f = from_each _ (f, (each _ e).1)
sound_set format (s ∷ slots) e (suc i) slot f = from_each _ ((each _ e).0, (sound_set format slots (each _ e).1.0 i slot f, tt))

-- what is open in the one with a key is open in the other with it
abbrev pub clashes : Option Stream → Slot → Bool
clashes None slot = false
clashes (Some stream) slot = has_key stream.key slot

apart : (a b : Key) → same_key a b ≡ false → same_key b a ≡ false
apart a b e = go (same_key b a) refl
  where
    go : (c : Bool) → same_key b a ≡ c → same_key b a ≡ false
    go true t = ap (λ (k : Key). same_key k a) (same_key_lem b a t) ∙ sym (ap (same_key a) (same_key_lem b a t)) ∙ e
    go false t = t

either_way : (o p : Option Stream) → clashes o (record { occupancy = p }) ≡ false → clashes p (record { occupancy = o }) ≡ false
either_way None None e = refl
either_way None (Some q) e = refl
either_way (Some r) None e = refl
either_way (Some r) (Some q) e = apart q.key r.key e

not_false_is : (b : Bool) → b ≡ false → not b ≡ true
not_false_is true e = let z : ◌≡◌ {A = ℕ} 0 1 = cc in absurd (omega arith)
not_false_is false e = refl

alone_in : (o : Option Stream) (slots : List Slot) → ((j : ℕ) → j < length slots → clashes o (slot_at slots j) ≡ false) → repeated_in o slots ≡ false
alone_in None slots h = refl
alone_in (Some stream) slots h = none_holds (has_key stream.key) slots closed_slot h

repeated_set : (o : Option Stream) (slots : List Slot) (i : ℕ) (slot : Slot) → repeated_in o slots ≡ false → clashes o slot ≡ false → repeated_in o (set slots i slot) ≡ false
repeated_set None slots i slot e c = refl
repeated_set (Some stream) slots i slot e c = any_set (has_key stream.key) slots i slot e c

pub differ_set : (slots : List Slot) → keys_differ slots ≡ true → (i : ℕ) (slot : Slot)
    → ((j : ℕ) → j ≢ i → j < length slots → clashes slot.occupancy (slot_at slots j) ≡ false) → keys_differ (set slots i slot) ≡ true
unfolding keys_differ
differ_set [] d i slot h = refl
differ_set (s ∷ slots) d zero slot h =
    from_each _ (not_false_is _ (alone_in slot.occupancy slots (λ j l. h (suc j) (λ e. omega arith) (omega arith))), (each _ d).1)
differ_set (s ∷ slots) d (suc i) slot h =
    let t = each _ d in
    let c = either_way slot.occupancy s.occupancy (h 0 (λ e. omega arith) (omega arith)) in
    from_each _ (
      not_false_is _ (repeated_set s.occupancy slots i slot (not-true _ t.0) c),
      (differ_set slots t.1.0 i slot (λ j n l. h (suc j) (λ e. n (omega arith)) (omega arith)), tt),
    )
