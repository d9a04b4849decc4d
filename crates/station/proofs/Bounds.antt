-- The table of bounds, computed.
use mathlib.Core.Path.{◌≡◌, refl}
use mathlib.Core.Bool.{Bool, true, ◌&&◌}
use lib.Dec.{eqb}
use lib.ListN.{replicate}
use borrow.Author.Tests.{eqb-true}
use Rattle.copying.specs.Copy.{written}
use Rattle.format.specs.Tests.{all_after, all_true}
use Rattle.format.specs.Formats.{in_range}
use Rattle.format.specs.Refusals.{guarded, checked_then}
use Rattle.format.proofs.Tables.{and_true, by_test, same_result, same_result_lem}
use Rattle.frame.specs.Layout.{flag_of, layout}
use Rattle.frame.specs.Judge.{piece_rule, checks, judge}
use Rattle.stream.specs.Step.{follows, progress_after, followed, stepped, step}
use Rattle.stream.proofs.Bounds.{same_reply, same_reply_lem}
use Rattle.slot.specs.Slots.{same_fields, same_key, place}
use Rattle.slot.specs.Sound.{key_in_range, fits, slot_sound, slots_sound, any, keys_differ, sound}
use Rattle.slot.specs.Bounds.{key_with}
use Rattle.station.specs.Stations.{station_of, area, with_area}
use Rattle.station.specs.Receive.{step_at, deliver, receive, concerned}
use Rattle.station.specs.Open.{opening, is_open, closing}
use Rattle.station.specs.Read.{reading, length_of}
use Rattle.station.specs.Bounds.{Bound, receives, opens, closes, reads, table, Holds, StationBounds}

abbrev test : Bound → Bool
test (receives format slots size bus image said i) =
    same_result same_reply (receive (station_of format slots) (replicate size 0) bus image).answer said
    && eqb (concerned (station_of format slots) (replicate size 0) bus image) i
test (opens format slots bus said answer) = same_result eqb (opening (station_of format slots) (key_with bus said)).answer answer
test (closes format slots i answer) = same_result eqb (closing (station_of format slots) i).answer answer
test (reads format slots size i answer) = same_result eqb (length_of (reading (station_of format slots) (replicate size 0) i)) answer

says : (bound : Bound) → test bound ≡ true → Holds bound
says (receives format slots size bus image said i) e =
    let h = and_true _ _ e in (same_result_lem same_reply same_reply_lem _ _ h.0, eqb-true _ _ h.1)
says (opens format slots bus said answer) e = same_result_lem eqb eqb-true _ _ e
says (closes format slots i answer) e = same_result_lem eqb eqb-true _ _ e
says (reads format slots size i answer) e = same_result_lem eqb eqb-true _ _ e

pub station_bounds : StationBounds
unfolding StationBounds all_after all_true in_range guarded checked_then written flag_of layout piece_rule checks judge follows progress_after followed stepped step
    same_fields same_key place key_in_range fits slot_sound slots_sound any keys_differ sound area with_area step_at deliver receive concerned opening is_open closing reading
station_bounds = by_test Holds test says table refl
