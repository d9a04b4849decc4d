-- `siljuvatt_read` meets its contract: the length is that of a packet, whose slot is below 16 (Reading).
use Rattle.std.proofs.Common.{arith}
use Rattle.siljuvatt.proofs.Reading.{below_16}
use Rattle.siljuvatt.proofs.siljuvatt_read.Goals as goal

pub overflow_mul-start : goal.overflow_mul-start
overflow_mul-start c = let a = c.args in omega (arith, below_16 a.state.now a.store.now a.slot _ c.in-Ok.ensures)
