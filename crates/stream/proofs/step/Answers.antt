-- `stream::step`: STORE, SURPLUS, or what `advance` did (Steps).
use Rattle.std.proofs.Common.{arith}
use Rattle.stream.proofs.Steps.{no_area, too_many, taken}
use Rattle.stream.proofs.step.Goals as goal

pub returns-then-area-ne-SIZE : goal.returns-then-area-ne-SIZE
returns-then-area-ne-SIZE c =
    let a = c.args in
    no_area a.format a.progress a.area.now a.flag a.number a.bytes.now _ c.refuse.ensures (λ q. omega arith)

pub returns-then-bytes-gt8 : goal.returns-then-bytes-gt8
returns-then-bytes-gt8 c =
    let a = c.args in
    too_many a.format a.progress a.area.now a.flag a.number a.bytes.now _ c.refuse-then-bytes-gt8.ensures (omega arith) (omega arith)

pub returns : goal.returns
returns c =
    let a = c.args in
    taken a.format a.progress a.area.now a.flag a.number a.bytes.now
    (omega arith) (omega arith) _ _ c.piece_size-z.ensures c.number_range-m.ensures _ c.advance-answer.ensures
