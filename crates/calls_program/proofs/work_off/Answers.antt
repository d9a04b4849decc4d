-- One turn more (Working).
use Rattle.std.proofs.Common.{◌≡◌, ◌+◌, ◌-◌, length, sym, ◌∙◌, arith}
use Rattle.calls_program.specs.Working.{as_work}
use Rattle.calls_program.proofs.Working.{worked_more}
use Rattle.calls_program.proofs.work_off.Goals as goal

pub loop-preserved : goal.loop-preserved
loop-preserved c =
    let l = c.loop in
    let input = c.args.input.now in
    let left = length input - l.counter in
    let less : left - 1 ≡ length input - (l.counter + 1) = omega arith in
    rw less at (sym (worked_more (as_work l.bench l.work l.output) input left _ (omega arith) c.in-Some.ensures.some) ∙ l.invariant)
