-- `station_bytes::format_of` meets its contract: 0 is read as extended, and what is no format's number is standard (Bytes).
use Rattle.std.proofs.Common.{◌∙◌}
use Rattle.station_bytes.proofs.Bytes.{format_or_standard}
use Rattle.station_bytes.proofs.format_of.Goals as goal

pub returns : goal.returns
returns c = c.unwrap_or.ensures ∙ format_or_standard c.args.number c.try_from.result c.try_from.ensures
