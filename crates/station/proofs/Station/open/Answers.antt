use Rattle.std.proofs.Common.{◌∙◌}
use Rattle.station.specs.Open.{opening}
use Rattle.station.proofs.Handing.{open_within}
use Rattle.station.proofs.Station.open.Goals as goal

pub changed-requires : goal.changed-requires
changed-requires c = open_within c.args.self c.args.key c.vacancy.result c.vacancy.ensures

pub returns : goal.returns
unfolding opening
returns c = c.changed.ensures ∙ rw (c.open_slot.ensures, c.vacancy.ensures)
