-- A number that is a kind's, or none.
use Rattle.std.proofs.Common.{arith}
use Rattle.std.proofs.lemmas.Grind.{common_steps}
use Rattle.format.specs.Tests.{all_true}
use Rattle.master_bytes.proofs.Laws.{kind_read}
use Rattle.master_bytes.proofs.asked.Goals as goal

pub returns-clause-kind : goal.returns-clause-kind
unfolding all_true
returns-clause-kind c = grind (arith, common_steps, kind_read _ _ c.try_from.ensures)

pub returns-clause-node : goal.returns-clause-node
unfolding all_true
returns-clause-node c = grind (arith, common_steps, kind_read _ _ c.try_from.ensures)
