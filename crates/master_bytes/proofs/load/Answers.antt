-- A number that is no kind's.
use Rattle.std.proofs.Common.{arith}
use Rattle.std.proofs.lemmas.Grind.{common_steps}
use Rattle.format.specs.Tests.{all_true}
use Rattle.master_bytes.specs.States.{is_state, activity_written, master_in}
use Rattle.master_bytes.proofs.Laws.{kind_read}
use Rattle.master_bytes.proofs.load.Goals as goal

pub returns-in_err-or-in_default-2 : goal.returns-in_err-or-in_default-2
unfolding is_state activity_written master_in all_true
returns-in_err-or-in_default-2 c = grind (arith, common_steps, kind_read _ _ c.try_from.ensures)
