-- The table of bounds, computed.
use mathlib.Core.Path.{◌≡◌, refl}
use mathlib.Core.Bool.{Bool, true, ◌&&◌}
use mathlib.Core.List.{[], ◌∷◌}
use lib.Dec.{eqb}
use lib.ListN.{replicate}
use borrow.Author.Tests.{eqb-true}
use Rattle.format.specs.Tests.{all_after, all_true}
use Rattle.format.specs.Formats.{packet_limit, piece_size, header_size, number_range, flag_bits, packet_start, in_range}
use Rattle.format.specs.Refusals.{number, guarded}
use Rattle.format.specs.Outputs.{fitting, answer, output_after}
use Rattle.format.specs.Bounds.{Bound, numbers, bits, limits, starts, ranges, writes, table, Holds, FormatBounds}
use Rattle.format.proofs.Tables.{by_test, and_true, same_bool, same_bool_lem, same_numbers, same_numbers_lem, same_result, same_result_lem}

abbrev test : Bound → Bool
test (numbers name n) = eqb (number name) n
test (bits flag n) = eqb (flag_bits flag) n
test (limits format packet piece header range) =
    same_numbers (packet_limit format ∷ piece_size format ∷ header_size format ∷ number_range format ∷ []) (packet ∷ piece ∷ header ∷ range ∷ [])
test (starts format flag n) = eqb (packet_start format flag) n
test (ranges said ok) = same_bool (in_range said) ok
test (writes size room said bytes) =
    let given = fitting (replicate size 7) room in
    same_result eqb (answer given) said && same_numbers (output_after given (replicate room 1)) bytes

says : (bound : Bound) → test bound ≡ true → Holds bound
says (numbers name n) e = eqb-true _ _ e
says (bits flag n) e = eqb-true _ _ e
says (limits format packet piece header range) e = same_numbers_lem _ _ e
says (starts format flag n) e = eqb-true _ _ e
says (ranges said ok) e = same_bool_lem _ _ e
says (writes size room said bytes) e =
    let h = and_true _ _ e in
    (same_result_lem eqb eqb-true _ _ h.0, same_numbers_lem _ _ h.1)

pub format_bounds : FormatBounds
unfolding FormatBounds all_after all_true in_range guarded fitting
format_bounds = by_test Holds test says table refl
