-- Bytes that are no master's, and those that are.
use Rattle.master.specs.Runs.{reply}
use Rattle.master_bytes.specs.Calls.{replying}
use Rattle.master_bytes.proofs.Claims.{handed}
use Rattle.master_bytes.proofs.Laws.{loaded_sized}
use Rattle.master_bytes.proofs.reply.Goals as goal

pub hand_back-requires : goal.hand_back-requires
hand_back-requires c = loaded_sized _ _ c.in_ok-master.ensures

pub returns : goal.returns
unfolding replying
returns c =
    handed _ _ (reply c.args.bus c.args.node c.args.function) _ _ _ c.in_ok-master.ensures c.reply.ensures c.hand_back.ensures.value c.hand_back.ensures.state_after
