-- Numbers of 16 bits, and the law of masks.
use Rattle.std.proofs.Common.{arith}
use Rattle.filter.proofs.Masks.{masked}
use Rattle.filter.proofs.Filter.accepts.Goals as goal

pub returns : goal.returns
returns c = masked c.args.self c.args.id (omega arith) (omega arith) (omega arith)
