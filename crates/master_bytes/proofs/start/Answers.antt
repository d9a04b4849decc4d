-- Bytes that are no master's, and those that are.
use Rattle.std.proofs.Common.{ap, ◌∙◌}
use Rattle.master.specs.Runs.{start}
use Rattle.master_bytes.specs.States.{master_in}
use Rattle.master_bytes.specs.Calls.{on_state, starting}
use Rattle.master_bytes.proofs.Claims.{handed}
use Rattle.master_bytes.proofs.Laws.{loaded_sized, asked_for}
use Rattle.master_bytes.proofs.start.Goals as goal

pub hand_back-requires : goal.hand_back-requires
hand_back-requires c = loaded_sized _ _ c.in_ok-master.ensures

pub returns : goal.returns
unfolding starting
returns c =
    let s = c.args.state.now in
    handed _ _ (start c.asked-kind.result.0 c.asked-kind.result.1) _ _ _ c.in_ok-master.ensures c.start.ensures c.hand_back.ensures.value c.hand_back.ensures.state_after
    ∙ ap (on_state s) (rw (c.asked-kind.ensures.kind, c.asked-kind.ensures.node) (asked_for (master_in s) c.args.kind c.args.node))
