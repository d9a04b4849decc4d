use Rattle.watch.proofs.Claims.{refused_keeps, no_reset_keeps, last_times, since_elapsed, clock_behind, examples}
use Rattle.watch.proofs.promised.Goals as goal

pub returns-clause-refused_keeps : goal.returns-clause-refused_keeps
returns-clause-refused_keeps c = refused_keeps

pub returns-clause-no_reset_keeps : goal.returns-clause-no_reset_keeps
returns-clause-no_reset_keeps c = no_reset_keeps

pub returns-clause-last_times : goal.returns-clause-last_times
returns-clause-last_times c = last_times

pub returns-clause-since_elapsed : goal.returns-clause-since_elapsed
returns-clause-since_elapsed c = since_elapsed

pub returns-clause-clock_behind : goal.returns-clause-clock_behind
returns-clause-clock_behind c = clock_behind

pub returns-clause-examples : goal.returns-clause-examples
returns-clause-examples c = examples
