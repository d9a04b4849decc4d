-- The table of bounds, computed.
use mathlib.Core.Path.{◌≡◌, refl}
use mathlib.Core.Bool.{Bool, true, ◌&&◌}
use lib.Dec.{eqb}
use lib.ListN.{replicate}
use borrow.Author.Tests.{eqb-true}
use Rattle.format.specs.Tests.{all_after, all_true}
use Rattle.format.specs.Formats.{in_range}
use Rattle.format.specs.Refusals.{guarded}
use Rattle.format.proofs.Tables.{and_true, by_test, same_bool, same_bool_lem, same_result, same_result_lem}
use Rattle.packet.specs.Split.{count_of}
use Rattle.packet.specs.Send.{piece_count}
use Rattle.slot.specs.Slots.{same_fields}
use Rattle.slot.proofs.Keys.{same_fields_lem}
use Rattle.station_bytes.specs.Calls.{renewed}
use Rattle.siljuvatt.specs.Answers.{version, outcome_word, reply_word, told_word, reset_word}
use Rattle.siljuvatt.specs.Arguments.{extended_fields, standard_fields, fields_from}
use Rattle.siljuvatt.specs.Calls.{count_in, new_in, start_after}
use Rattle.siljuvatt.specs.Bounds.{Bound, outcomes, replies, tells, resets, versions, reads, counts, news, begins, table, Holds, LibraryBounds}

abbrev test : Bound → Bool
test (outcomes said word) = eqb (outcome_word said) word
test (replies said word) = eqb (reply_word said) word
test (tells said word) = eqb (told_word said) word
test (resets said word) = eqb (reset_word said) word
test (versions number) = eqb version number
test (reads format bytes said ok) = same_fields (fields_from format bytes) said && same_bool (in_range said) ok
test (counts format size said) = same_result eqb (count_in format size) said
test (news size format said) = same_result eqb (new_in (replicate size 7) format).answer said
test (begins said slot start) = eqb (start_after said slot 7) start

says : (bound : Bound) → test bound ≡ true → Holds bound
says (outcomes said word) e = eqb-true _ _ e
says (replies said word) e = eqb-true _ _ e
says (tells said word) e = eqb-true _ _ e
says (resets said word) e = eqb-true _ _ e
says (versions number) e = eqb-true _ _ e
says (reads format bytes said ok) e = let h = and_true _ _ e in (same_fields_lem _ _ h.0, same_bool_lem _ _ h.1)
says (counts format size said) e = same_result_lem eqb eqb-true _ _ e
says (news size format said) e = same_result_lem eqb eqb-true _ _ e
says (begins said slot start) e = eqb-true _ _ e

pub library_bounds : LibraryBounds
unfolding LibraryBounds all_after all_true in_range guarded extended_fields standard_fields fields_from same_fields count_of piece_count count_in new_in renewed
library_bounds = by_test Holds test says table refl
