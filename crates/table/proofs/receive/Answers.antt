-- `table::receive`: a table of another length is refused.
use Rattle.table.proofs.Refused.{other_length}
use Rattle.table.proofs.receive.Goals as goal

pub returns-in_default : goal.returns-in_default
returns-in_default c = other_length c.args.format c.args.table.now c.args.store.now c.args.bus c.args.image.now c.in_default.ensures.1
