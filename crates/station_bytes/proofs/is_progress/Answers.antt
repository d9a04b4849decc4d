-- `station_bytes::is_progress` meets its contract (Records).
use Rattle.station_bytes.proofs.Records.{progress_fits_lem}
use Rattle.station_bytes.proofs.is_progress.Goals as goal

pub returns : goal.returns
returns c =
    rw (c.piece_size-size.ensures, c.most_held.ensures, c.packet_limit.ensures) (progress_fits_lem c.args.format c.args.number)
