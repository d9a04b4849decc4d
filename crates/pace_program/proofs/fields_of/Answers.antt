-- By the two formats.
use Rattle.std.proofs.Common.{refl, le-leb}
use Rattle.format.specs.Formats.{in_range}
use Rattle.format.proofs.Tests.{from_each}
use Rattle.pace_program.proofs.fields_of.Goals as goal

pub returns-in-Extended-clause-result_value_2 : goal.returns-in-Extended-clause-result_value_2
unfolding in_range
returns-in-Extended-clause-result_value_2 c = λ h. from_each _ (refl, (le-leb _ _ h, (refl, (refl, (refl, tt)))))

pub returns-in-Standard-clause-result_value_2 : goal.returns-in-Standard-clause-result_value_2
unfolding in_range
returns-in-Standard-clause-result_value_2 c = λ h. from_each _ (refl, (le-leb _ _ h, (refl, tt)))
