-- The scan tells whether all buses are 0 or 1.
use Rattle.std.proofs.Common.{◌≤◌, ◌↔◌, IsTrue, All, sym, arith, rules}
use Rattle.master.proofs.Buses.{scanned}
use Rattle.master.proofs.chosen_sound.Goals as goal

pub returns : goal.returns
returns c =
    let all : IsTrue c.all.result ↔ All (λ bus. bus ≤ 1) c.args.chosen.now = search rules in
    sym (scanned c.args.chosen.now c.all.result (omega arith) all)
