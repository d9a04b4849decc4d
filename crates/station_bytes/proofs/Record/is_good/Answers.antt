-- `station_bytes::Record::is_good` meets its contract (Records).
use Rattle.station_bytes.proofs.Records.{record_good_lem}
use Rattle.station_bytes.proofs.Record.is_good.Goals as goal

pub returns : goal.returns
returns c =
    rw (c.is_closed.ensures, c.key_fits.ensures, c.progress_fits.ensures) (record_good_lem c.args.format c.args.self.key c.args.self.progress)
