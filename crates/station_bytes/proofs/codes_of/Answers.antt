-- `station_bytes::codes_of` meets its contract: the records before i are tested, and their codes written (Scans).
use Rattle.std.proofs.Common.{◌∙◌, replicate, refl, ap, arith}
use Rattle.station_bytes.proofs.Scans.{good_next, good_end, code_next, codes_end}
use Rattle.station_bytes.proofs.codes_of.Goals as goal

pub loop-i-preserved : goal.loop-i-preserved
loop-i-preserved c =
    let a = c.args in
    let l = c.loop-i in
    let first = ap (λ r. r.key) c.record_at-record.ensures in
    let second = ap (λ r. r.progress) c.record_at-record.ensures in
    record {
      good = l.invariant.good ∙ good_next a.format a.state.now l.i _ _ (omega arith) first second l.good _ c.is_good-good.ensures;
      codes = rw l.invariant.codes (code_next a.format a.state.now l.i _ _ (omega arith) first second _ _ refl c.code.ensures);
    }

pub returns : goal.returns
returns c =
    let a = c.args in
    let l = c.loop-i in
    let good = l.invariant.good ∙ good_end a.format a.state.now l.i l.good (omega arith) in
    let codes = l.invariant.codes ∙ codes_end a.state.now (replicate 16 0) l.i refl (omega arith) in
    rw (good, ← codes) c.then_some.ensures
