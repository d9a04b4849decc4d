-- `station_bytes::promised`: the proof of each claim.
use Rattle.station_bytes.proofs.ReadBack.{read_back, written_back, not_written}
use Rattle.station_bytes.proofs.Bounds.{state_bounds}
use Rattle.station_bytes.proofs.Runs.{as_first, stay_sound, refused_keeps, as_run, demand3_on_bytes, round_trip_on_bytes, read_at_end}
use Rattle.station_bytes.proofs.promised.Goals as goal

pub returns-clause-read_back : goal.returns-clause-read_back
returns-clause-read_back c = read_back

pub returns-clause-written_back : goal.returns-clause-written_back
returns-clause-written_back c = written_back

pub returns-clause-not_written : goal.returns-clause-not_written
returns-clause-not_written c = not_written

pub returns-clause-as_first : goal.returns-clause-as_first
returns-clause-as_first c = as_first

pub returns-clause-stay_sound : goal.returns-clause-stay_sound
returns-clause-stay_sound c = stay_sound

pub returns-clause-refused_keeps : goal.returns-clause-refused_keeps
returns-clause-refused_keeps c = refused_keeps

pub returns-clause-as_run : goal.returns-clause-as_run
returns-clause-as_run c = as_run

pub returns-clause-demand3_on_bytes : goal.returns-clause-demand3_on_bytes
returns-clause-demand3_on_bytes c = demand3_on_bytes

pub returns-clause-round_trip_on_bytes : goal.returns-clause-round_trip_on_bytes
returns-clause-round_trip_on_bytes c = round_trip_on_bytes

pub returns-clause-read_at_end : goal.returns-clause-read_at_end
returns-clause-read_at_end c = read_at_end

pub returns-clause-state_bounds : goal.returns-clause-state_bounds
returns-clause-state_bounds c = state_bounds
