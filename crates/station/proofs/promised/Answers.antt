use Rattle.station.proofs.Isolation.{demand3}
use Rattle.station.proofs.RoundTrip.{round_trip_lem}
use Rattle.station.proofs.OnCalls.{as_run, demand3_on_calls, round_trip_on_calls}
use Rattle.station.proofs.Refusals.{refused_keeps}
use Rattle.station.proofs.Soundness.{stays, never, met}
use Rattle.station.proofs.Bounds.{station_bounds}
use Rattle.station.proofs.promised.Goals as goal

pub returns-clause-demand3 : goal.returns-clause-demand3
returns-clause-demand3 c = demand3

pub returns-clause-as_run : goal.returns-clause-as_run
returns-clause-as_run c = as_run

pub returns-clause-demand3_on_calls : goal.returns-clause-demand3_on_calls
returns-clause-demand3_on_calls c = demand3_on_calls

pub returns-clause-round_trip : goal.returns-clause-round_trip
returns-clause-round_trip c = round_trip_lem

pub returns-clause-round_trip_on_calls : goal.returns-clause-round_trip_on_calls
returns-clause-round_trip_on_calls c = round_trip_on_calls

pub returns-clause-refused_keeps : goal.returns-clause-refused_keeps
returns-clause-refused_keeps c = refused_keeps

pub returns-clause-stays_sound : goal.returns-clause-stays_sound
returns-clause-stays_sound c = stays

pub returns-clause-never_long : goal.returns-clause-never_long
returns-clause-never_long c = never

pub returns-clause-can_be_met : goal.returns-clause-can_be_met
returns-clause-can_be_met c = met

pub returns-clause-station_bounds : goal.returns-clause-station_bounds
returns-clause-station_bounds c = station_bounds
