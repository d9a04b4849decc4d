-- `station_bytes::key_fits` meets its contract (Records).
use Rattle.station_bytes.proofs.Records.{key_extended, key_standard}
use Rattle.station_bytes.proofs.key_fits.Goals as goal

pub returns-in-Extended : goal.returns-in-Extended
returns-in-Extended c = rw c.in-Extended.is (key_extended c.args.number)

pub returns-in-Standard : goal.returns-in-Standard
returns-in-Standard c = rw c.in-Standard.is (key_standard c.args.number)
