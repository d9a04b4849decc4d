-- `stream::promised`: the proof of each claim.
use Rattle.stream.proofs.Answers.{one_answer}
use Rattle.stream.proofs.Bounds.{step_bounds}
use Rattle.stream.proofs.promised.Goals as goal

pub returns-clause-one_answer : goal.returns-clause-one_answer
returns-clause-one_answer c = one_answer

pub returns-clause-step_bounds : goal.returns-clause-step_bounds
returns-clause-step_bounds c = step_bounds
