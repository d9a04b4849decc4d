-- The table of bounds, computed.
use mathlib.Core.Path.{◌≡◌, refl}
use mathlib.Core.Bool.{Bool, true}
use lib.Dec.{eqb}
use lib.ListN.{replicate}
use borrow.Author.Tests.{eqb-true}
use Rattle.format.specs.Tests.{all_after, all_true}
use Rattle.format.specs.Formats.{in_range}
use Rattle.format.specs.Refusals.{value, guarded, checked_then}
use Rattle.format.specs.Outputs.{fitting, answer}
use Rattle.format.proofs.Tables.{by_test, same_numbers, same_numbers_lem, same_result, same_result_lem}
use Rattle.frame.specs.Image.{header_bytes, image_of}
use Rattle.packet.specs.Split.{count_of, piece_flag, piece_bytes, piece}
use Rattle.packet.specs.Send.{piece_count, send}
use Rattle.packet.specs.Bounds.{Bound, counts, answers, writes, table, Holds, SendingBounds}

abbrev test : Bound → Bool
test (counts format size said) = same_result eqb (piece_count format size) said
test (answers fs size k room said) = same_result eqb (answer (send fs (replicate size 7) k room)) said
test (writes fs packet k image) = same_result same_numbers (send fs packet k 13) (value image)

says : (bound : Bound) → test bound ≡ true → Holds bound
says (counts format size said) e = same_result_lem eqb eqb-true _ _ e
says (answers fs size k room said) e = same_result_lem eqb eqb-true _ _ e
says (writes fs packet k image) e = same_result_lem same_numbers same_numbers_lem _ _ e

pub sending_bounds : SendingBounds
unfolding SendingBounds all_after all_true in_range guarded header_bytes image_of count_of piece_flag piece_bytes piece piece_count send checked_then fitting
sending_bounds = by_test Holds test says table refl
