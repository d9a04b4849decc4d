-- Bytes that are no master's, and those that are.
use Rattle.master.specs.Runs.{timeout}
use Rattle.master_bytes.specs.Calls.{timing_out}
use Rattle.master_bytes.proofs.Claims.{handed}
use Rattle.master_bytes.proofs.Laws.{loaded_sized}
use Rattle.master_bytes.proofs.timeout.Goals as goal

pub hand_back-requires : goal.hand_back-requires
hand_back-requires c = loaded_sized _ _ c.in_ok-master.ensures

pub returns : goal.returns
unfolding timing_out
returns c =
    handed _ _ timeout _ _ _ c.in_ok-master.ensures c.timeout.ensures c.hand_back.ensures.value c.hand_back.ensures.state_after
