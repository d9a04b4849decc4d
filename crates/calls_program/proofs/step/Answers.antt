-- One request, from the place where it stands to the place where its response is written (Working).
use Rattle.calls_program.specs.Working.{as_work}
use Rattle.calls_program.proofs.Working.{step_done}
use Rattle.calls_program.proofs.step.Goals as goal

pub returns-clause-some : goal.returns-clause-some
returns-clause-some c =
    let a = c.args in
    let request = c.in_ok-request in
    let start = c.in_ok-start in
    step_done (as_work a.bench.now a.work a.output.now) a.input.now request.request.now _ _ start.start c.respond-size.result _
    request.ensures.some start.ensures.value start.ensures.place c.respond-size.auto.out c.respond-size.ensures.out_after
    (rw (← c.number_bytes.ensures) c.copy_in.ensures.target_after)
