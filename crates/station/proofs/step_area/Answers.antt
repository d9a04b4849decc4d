use Rattle.std.proofs.Common.{arith, ap, ◌∙◌}
use Rattle.format.specs.Refusals.{value}
use Rattle.station.specs.Receive.{framed}
use Rattle.station.proofs.Turning.{steps, lent_on, part_is}
use Rattle.station.proofs.step_area.Goals as goal

pub returns-clause-stepped : goal.returns-clause-stepped
returns-clause-stepped c =
    let a = c.args in
    let frame = framed a.head a.bytes.now in
    ap value (lent_on a.format a.progress a.store.now a.i frame (omega arith) (omega arith) (omega arith) _ _ _ (part_is a.store.now a.i) c.step.ensures)
    ∙ steps a.format a.progress a.store.now a.i frame (omega arith) (omega arith) (omega arith)
