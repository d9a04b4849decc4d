-- A request is its operation and its arguments (Benches); no response is longer than 40,000 bytes (Sizes).
use Rattle.std.proofs.Common.{sym, ◌∙◌, arith}
use Rattle.calls_program.proofs.Benches.{a_request}
use Rattle.calls_program.proofs.Sizes.{done_fits}
use Rattle.calls_program.proofs.bench.Bench.respond.Goals as goal

pub returns-in-Ok-clause-size_bound : goal.returns-in-Ok-clause-size_bound
returns-in-Ok-clause-size_bound c =
    let a = c.args in
    done_fits a.self.now a.out.now a.request.now (λ i. omega (arith, c.type_inv.request i)) _ _ _
    (a_request a.self.now a.request.now a.out.now _ _ c.in-Some.ensures.cases.0 _ _ c.in-Ok.ensures (sym c.takes.ensures ∙ c.if-takes.true)
    c.carry_out.ensures)
