use Rattle.watch_bytes.proofs.Claims.{read_back, written_is_state, written_back, no_watches, refused_keeps, examples}
use Rattle.watch_bytes.proofs.Runs.{as_run, last_times_on_bytes}
use Rattle.watch_bytes.proofs.promised.Goals as goal

pub returns-clause-read_back : goal.returns-clause-read_back
returns-clause-read_back c = read_back

pub returns-clause-written_is_state : goal.returns-clause-written_is_state
returns-clause-written_is_state c = written_is_state

pub returns-clause-written_back : goal.returns-clause-written_back
returns-clause-written_back c = written_back

pub returns-clause-no_watches : goal.returns-clause-no_watches
returns-clause-no_watches c = no_watches

pub returns-clause-refused_keeps : goal.returns-clause-refused_keeps
returns-clause-refused_keeps c = refused_keeps

pub returns-clause-as_run : goal.returns-clause-as_run
returns-clause-as_run c = as_run

pub returns-clause-last_times : goal.returns-clause-last_times
returns-clause-last_times c = last_times_on_bytes

pub returns-clause-examples : goal.returns-clause-examples
returns-clause-examples c = examples
