-- `table::promised`: the proof of each claim.
use Rattle.table.proofs.Fronts.{as_first, one_given, one_record, not_sound, other_length, refused_keeps, on_table_lem, as_run, demand3_on_calls, round_trip_on_calls}
use Rattle.table.proofs.promised.Goals as goal

pub returns-clause-as_first : goal.returns-clause-as_first
returns-clause-as_first c = as_first

pub returns-clause-one_given : goal.returns-clause-one_given
returns-clause-one_given c = one_given

pub returns-clause-one_record : goal.returns-clause-one_record
returns-clause-one_record c = one_record

pub returns-clause-not_sound : goal.returns-clause-not_sound
returns-clause-not_sound c = not_sound

pub returns-clause-other_length : goal.returns-clause-other_length
returns-clause-other_length c = other_length

pub returns-clause-refused_keeps : goal.returns-clause-refused_keeps
returns-clause-refused_keeps c = refused_keeps

pub returns-clause-on_table : goal.returns-clause-on_table
returns-clause-on_table c = on_table_lem

pub returns-clause-as_run : goal.returns-clause-as_run
returns-clause-as_run c = as_run

pub returns-clause-demand3_on_calls : goal.returns-clause-demand3_on_calls
returns-clause-demand3_on_calls c = demand3_on_calls

pub returns-clause-round_trip_on_calls : goal.returns-clause-round_trip_on_calls
returns-clause-round_trip_on_calls c = round_trip_on_calls
