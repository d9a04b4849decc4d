-- Document 01, "Streams and receiving", first paragraph: "A slot is closed or open with a key: the bus (0 is A, 1 is B) and all
-- identifier fields except flag and number."
use Rattle.std.specs.Prelude.{ℕ, suc, Bool, true, false, cond, List, [], ◌∷◌, eqb, get_or}
use Rattle.format.specs.declared.Fields.{Fields}
use Rattle.format.specs.declared.Fields.TheVariants.{Extended, Standard}
use Rattle.format.specs.Tests.{all_true}
use Rattle.stream.specs.declared.Progress.{Progress}
use Rattle.slot.specs.declared.Key.{Key}
use Rattle.std.specs.Prelude.{Option}
use Rattle.slot.specs.declared.Stream.{Stream}
use Rattle.std.specs.Prelude.{None, Some}
use Rattle.slot.specs.declared.Slot.{Slot}

abbrev pub closed_slot : Slot
closed_slot = record { occupancy = None }

abbrev pub open_slot : Key → Progress → Slot
open_slot key progress = record { occupancy = Some (record { key = key; progress = progress }) }

-- slot i; a closed one where there is none
abbrev pub slot_at : List Slot → ℕ → Slot
slot_at slots i = get_or slots i closed_slot

unfoldable pub same_fields : Fields → Fields → Bool
same_fields (Extended p s g d f) (Extended p' s' g' d' f') = all_true (eqb p p' ∷ eqb s s' ∷ eqb g g' ∷ eqb d d' ∷ eqb f f' ∷ [])
same_fields (Standard p a s) (Standard p' a' s') = all_true (eqb p p' ∷ eqb a a' ∷ eqb s s' ∷ [])
same_fields (Extended p s g d f) (Standard p' a' s') = false
same_fields (Standard p a s) (Extended p' s' g' d' f') = false

unfoldable pub same_key : Key → Key → Bool
same_key a b = all_true (eqb a.bus b.bus ∷ same_fields a.fields b.fields ∷ [])

-- closed; open with that key
abbrev pub closed : Option Stream → Bool
closed None = true
closed (Some stream) = false

abbrev pub open_with : Key → Option Stream → Bool
open_with key None = false
open_with key (Some stream) = same_key stream.key key

abbrev pub is_closed : Slot → Bool
is_closed slot = closed slot.occupancy

abbrev pub has_key : Key → Slot → Bool
has_key key slot = open_with key slot.occupancy

-- the first place in a list where a test holds; the list's length if there is none
unfoldable pub place : {A : Type 0} → (A → Bool) → List A → ℕ
place test [] = 0
place test (x ∷ xs) = cond (test x) 0 (suc (place test xs))
