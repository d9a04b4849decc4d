-- `packet::promised`: the proof of each claim.
use Rattle.packet.proofs.Pieces.{splitting}
use Rattle.packet.proofs.Examples.{examples}
use Rattle.packet.proofs.Bounds.{sending_bounds}
use Rattle.packet.proofs.promised.Goals as goal

pub returns-clause-splitting : goal.returns-clause-splitting
returns-clause-splitting c = splitting

pub returns-clause-examples : goal.returns-clause-examples
returns-clause-examples c = examples

pub returns-clause-sending_bounds : goal.returns-clause-sending_bounds
returns-clause-sending_bounds c = sending_bounds
