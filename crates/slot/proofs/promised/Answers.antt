use Rattle.slot.proofs.Bounds.{slot_bounds}
use Rattle.slot.proofs.promised.Goals as goal

pub returns : goal.returns
returns c = record { slot_bounds = slot_bounds }
