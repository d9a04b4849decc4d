-- By the new station.
use Rattle.std.proofs.Common.{ap, replicate}
use Rattle.station.specs.declared.Station.{Station}
use Rattle.calls_program.specs.declared.stations.Desk.{Desk}
use Rattle.calls_program.specs.declared.stations.Front.TheVariants.{Itself}
use Rattle.calls_program.proofs.stations.Desk.new.Goals as goal

desk_of : Station → Desk
desk_of station = record { station = station; bytes = replicate 40000 0; lent = 32768; front = Itself; count = 0 }

pub returns : goal.returns
unfolding desk_of
returns c = ap desk_of c.new.ensures
