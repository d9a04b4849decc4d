-- The table, computed.
use Prim.Native.Nat.{ℕ, ◌+◌, ◌*◌, ◌%◌}
use mathlib.Core.Path.{◌≡◌, refl, ◌∙◌}
use mathlib.Core.Bool.{Bool, true}
use mathlib.Core.List.{List}
use lib.Dec.{eqb}
use lib.ListN.{length, get_or}
use borrow.Author.Tests.{eqb-true}
use Rattle.format.specs.declared.Fields.TheVariants.{Extended}
use Rattle.format.specs.Tests.{all_after, all_true}
use Rattle.format.specs.Formats.{flag_bits}
use Rattle.format.specs.Refusals.{guarded}
use Rattle.format.proofs.Tables.{by_test, same_result, same_result_lem}
use Rattle.frame.specs.Layout.{flag_of, layout}
use Rattle.frame.specs.Judge.{piece_rule, checks, judge}
use Rattle.frame.specs.Image.{header_bytes, image_of}
use Rattle.frame.proofs.Codes.{same_judged, same_judged_lem}
use Rattle.packet.specs.Split.{count_of, piece_flag, piece}
use Rattle.packet.specs.Send.{piece_count}
use Rattle.packet.specs.Examples.{Example, judges, counts, numbers, table, Holds, ExamplesHold}

-- byte 3 of piece k depends on the packet's size and k alone
abbrev byte_three : (size k : ℕ) → ℕ
byte_three size k = 64 * flag_bits (piece_flag (count_of 8 size) k) + k % 64

byte_three_lem : (size k priority source group destination function : ℕ) (packet : List ℕ) → length packet ≡ size
    → get_or (image_of (piece (Extended priority source group destination function) packet k)) 3 256 ≡ byte_three size k
unfolding image_of header_bytes piece
byte_three_lem size k priority source group destination function packet e = rw e

abbrev test : Example → Bool
test (judges format image said) = same_result same_judged (judge format image) said
test (counts format size said) = same_result eqb (piece_count format size) said
test (numbers size k said) = eqb (byte_three size k) said

says : (example : Example) → test example ≡ true → Holds example
says (judges format image said) e = same_result_lem same_judged same_judged_lem _ _ e
says (counts format size said) e = same_result_lem eqb eqb-true _ _ e
says (numbers size k said) e =
    λ priority source group destination function packet l.
    byte_three_lem size k priority source group destination function packet l ∙ eqb-true _ _ e

pub examples : ExamplesHold
unfolding ExamplesHold all_after all_true guarded flag_of layout piece_rule checks judge count_of piece_flag piece_count
examples = by_test Holds test says table refl
