-- Buses and exchange fill the bytes (Filling).
use Rattle.std.proofs.Common.{arith}
use Rattle.copying.proofs.Filling.{filled}
use Rattle.master_bytes.specs.States.{last_bytes, state_bytes}
use Rattle.master_bytes.proofs.Laws.{four}
use Rattle.master_bytes.proofs.put.Goals as goal

pub returns : goal.returns
unfolding state_bytes
returns c =
    let m = c.args.master in
    rw (c.copy_in-2.ensures.target_after, c.last_bytes.ensures, c.copy_in.ensures.target_after)
    (filled c.args.state.now m.chosen (last_bytes m.activity) 64 (omega arith) (omega (arith, four m.activity, c.requires)))
