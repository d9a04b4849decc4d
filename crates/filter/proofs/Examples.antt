-- The table of examples, computed.
use mathlib.Core.Path.{◌≡◌, refl}
use mathlib.Core.Bool.{Bool, true}
use Rattle.format.specs.Tests.{all_after, all_true}
use Rattle.format.proofs.Tables.{by_test, same_bool, same_bool_lem}
use Rattle.filter.specs.Filters.{bit, passes, accepts, either_accepts, row_pair}
use Rattle.filter.specs.Examples.{Example, filters, rows, table, Holds, FilterExamples}

abbrev test : Example → Bool
test (filters code mask id ok) = same_bool (accepts (record { code = code; mask = mask }) id) ok
test (rows row id ok) = same_bool (either_accepts (row_pair row) id) ok

says : (example : Example) → test example ≡ true → Holds example
says (filters code mask id ok) e = same_bool_lem _ _ e
says (rows row id ok) e = same_bool_lem _ _ e

pub filter_examples : FilterExamples
unfolding FilterExamples all_after all_true bit passes accepts either_accepts row_pair
filter_examples = by_test Holds test says table refl
