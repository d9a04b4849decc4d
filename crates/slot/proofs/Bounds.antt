-- The table of bounds, computed.
use mathlib.Core.Path.{◌≡◌, refl}
use mathlib.Core.Bool.{Bool, true, ◌&&◌}
use lib.Dec.{eqb}
use borrow.Author.Tests.{eqb-true}
use Rattle.format.specs.Tests.{all_after, all_true}
use Rattle.format.specs.Formats.{in_range}
use Rattle.format.proofs.Tables.{and_true, by_test, same_bool, same_bool_lem}
use Rattle.slot.specs.Slots.{is_closed, has_key, place, same_fields, same_key}
use Rattle.slot.specs.Sound.{key_in_range, fits, slot_sound, slots_sound, any, keys_differ, sound}
use Rattle.slot.specs.Codes.{key_code}
use Rattle.slot.specs.Bounds.{Bound, ranges, matches, held, sounds, codes, finds, key_with, table, Holds, SlotBounds}

abbrev test : Bound → Bool
test (ranges format bus said ok) = same_bool (key_in_range format (key_with bus said)) ok
test (matches bus said other fs ok) = same_bool (same_key (key_with bus said) (key_with other fs)) ok
test (held format progress ok) = same_bool (fits format progress) ok
test (sounds format slots ok) = same_bool (sound format slots) ok
test (codes bus said n) = eqb (key_code (key_with bus said)) n
test (finds bus said slots key closed) = eqb (place (has_key (key_with bus said)) slots) key && eqb (place is_closed slots) closed

says : (bound : Bound) → test bound ≡ true → Holds bound
says (ranges format bus said ok) e = same_bool_lem _ _ e
says (matches bus said other fs ok) e = same_bool_lem _ _ e
says (held format progress ok) e = same_bool_lem _ _ e
says (sounds format slots ok) e = same_bool_lem _ _ e
says (codes bus said n) e = eqb-true _ _ e
says (finds bus said slots key closed) e = let h = and_true _ _ e in (eqb-true _ _ h.0, eqb-true _ _ h.1)

pub slot_bounds : SlotBounds
unfolding SlotBounds all_after all_true in_range place same_fields same_key key_in_range fits slot_sound slots_sound any keys_differ sound
slot_bounds = by_test Holds test says table refl
