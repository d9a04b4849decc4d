-- Named.
use Rattle.calls_program.proofs.Named as named
use Rattle.calls_program.proofs.request.each_named.Goals as goal

pub returns : goal.returns
returns c = named.each_named
