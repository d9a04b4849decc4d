-- `copying::copy_in`: a round pastes one byte more.
use Rattle.std.proofs.Common.{arith, add-one}
use Rattle.std.proofs.Math.Seq.{paste-suc}
use Rattle.copying.proofs.copy_in.Goals as goal

pub loop-j-preserved : goal.loop-j-preserved
loop-j-preserved c =
    rw (c.loop-j.invariant, add-one)
    (paste-suc c.args.target.now c.args.at c.args.bytes.now c.loop-j.j 0 (omega arith) (omega arith))
