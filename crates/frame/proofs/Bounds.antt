-- The table of bounds, computed.
use mathlib.Core.Path.{◌≡◌, refl}
use mathlib.Core.Bool.{Bool, true}
use lib.Dec.{eqb}
use borrow.Author.Tests.{eqb-true}
use Rattle.format.specs.Tests.{all_after, all_true}
use Rattle.format.specs.Refusals.{value, guarded}
use Rattle.format.proofs.Tables.{by_test, same_bool, same_bool_lem, same_result, same_result_lem}
use Rattle.frame.specs.Layout.{flag_of, layout}
use Rattle.frame.specs.Judge.{piece_rule, checks, judge}
use Rattle.frame.specs.Bounds.{Bound, rules, judges, reads, refusal_of, Holds, table, JudgingBounds}
use Rattle.frame.proofs.Codes.{same_judged, same_judged_lem}

abbrev test : Bound → Bool
test (rules format flag count number ok) = same_bool (piece_rule format flag count number) ok
test (judges format image n) = eqb (refusal_of (judge format image)) n
test (reads format image judged) = same_result same_judged (judge format image) (value judged)

says : (bound : Bound) → test bound ≡ true → Holds bound
says (rules format flag count number ok) e = same_bool_lem _ _ e
says (judges format image n) e = eqb-true _ _ e
says (reads format image judged) e = same_result_lem same_judged same_judged_lem _ _ e

pub judging_bounds : JudgingBounds
unfolding JudgingBounds all_after all_true guarded flag_of layout piece_rule checks judge
judging_bounds = by_test Holds test says table refl
