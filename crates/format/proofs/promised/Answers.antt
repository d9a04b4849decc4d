use Rattle.format.proofs.Numbers.{one_number, one_meaning}
use Rattle.format.proofs.Bounds.{format_bounds}
use Rattle.format.proofs.promised.Goals as goal

pub returns-clause-one_number : goal.returns-clause-one_number
returns-clause-one_number c = one_number

pub returns-clause-one_meaning : goal.returns-clause-one_meaning
returns-clause-one_meaning c = one_meaning

pub returns-clause-format_bounds : goal.returns-clause-format_bounds
returns-clause-format_bounds c = format_bounds
