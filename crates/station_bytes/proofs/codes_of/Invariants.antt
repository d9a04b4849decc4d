-- `station_bytes::codes_of` meets its contract: the records before i are tested, and their codes written (Scans).
use Rattle.std.proofs.Common.{◌≡◌, ◌-◌, ◌&&◌}
use Rattle.std.proofs.Math.Seq.{paste}
use Rattle.station_bytes.specs.Parts.{records_good, record_codes}
use Rattle.station_bytes.proofs.codes_of.Given as goal

abbrev pub invariant-loop-i : goal.invariant-loop-i
invariant-loop-i l = record {
  good : records_good l.format l.state 0 16 ≡ (l.good && records_good l.format l.state l.i (16 - l.i));
  codes : l.codes ≡ paste l.initial.codes 0 (record_codes l.state 0 16) l.i;
}
