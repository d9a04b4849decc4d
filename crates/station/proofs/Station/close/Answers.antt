use Rattle.std.proofs.Common.{◌∙◌}
use Rattle.station.specs.Open.{closing}
use Rattle.station.proofs.Handing.{close_within}
use Rattle.station.proofs.Station.close.Goals as goal

pub changed-requires : goal.changed-requires
changed-requires c = close_within c.args.self c.args.i c.occupied.result c.occupied.ensures

pub returns : goal.returns
unfolding closing
returns c = c.changed.ensures ∙ rw c.occupied.ensures
