-- The table of bounds, computed.
use mathlib.Core.Path.{◌≡◌, refl}
use mathlib.Core.Bool.{Bool, true, ◌&&◌}
use lib.Dec.{eqb}
use lib.ListN.{replicate}
use borrow.Author.Tests.{eqb-true}
use Rattle.format.specs.Tests.{all_after, all_true}
use Rattle.format.proofs.Tables.{and_true, by_test, same_bool, same_bool_lem, same_numbers, same_numbers_lem, same_result, same_result_lem}
use Rattle.station.specs.Stations.{station_of}
use Rattle.words.specs.Words.{word_bytes, word_of, word_at}
use Rattle.station_bytes.specs.States.{state_bytes, slots_from, slots_written, is_state}
use Rattle.station_bytes.specs.Calls.{renewed}
use Rattle.station_bytes.specs.Bounds.{Bound, writes, states, renews, table, Holds, StateBounds}

abbrev test : Bound → Bool
test (writes format slots bytes) = same_numbers (state_bytes (station_of format slots)) bytes
test (states bytes ok) = same_bool (is_state bytes) ok
test (renews size format said bytes) =
    same_result eqb (renewed (replicate size 7) format).answer said && same_numbers (renewed (replicate size 7) format).state bytes

says : (bound : Bound) → test bound ≡ true → Holds bound
says (writes format slots bytes) e = same_numbers_lem _ _ e
says (states bytes ok) e = same_bool_lem _ _ e
says (renews size format said bytes) e = let h = and_true _ _ e in (same_result_lem eqb eqb-true _ _ h.0, same_numbers_lem _ _ h.1)

pub state_bounds : StateBounds
unfolding StateBounds all_after all_true word_bytes word_of word_at slots_from slots_written is_state renewed
state_bounds = by_test Holds test says table refl
