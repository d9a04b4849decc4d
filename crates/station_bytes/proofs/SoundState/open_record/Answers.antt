-- `station_bytes::SoundState::open_record` meets its contract: the slot is closed, or open (Handing).
use Rattle.std.proofs.Common.{sym, ap, refl}
use Rattle.station_bytes.proofs.Handing.{over_15, not_open, open_at}
use Rattle.station_bytes.proofs.SoundState.open_record.Goals as goal

pub returns-then-i-ge16 : goal.returns-then-i-ge16
returns-then-i-ge16 c = (refl, over_15 c.args.self.now.state.now c.args.i c.if-i-ge16.true)

pub returns-then-is_closed : goal.returns-then-is_closed
returns-then-is_closed c =
    (refl, not_open c.args.self.now.state.now c.args.i _ c.if-i-ge16.false (ap (λ r. r.progress) c.record_at-record.ensures) (sym c.if-is_closed.ensures))

pub returns : goal.returns
returns c = open_at c.args.self.now.state.now c.args.i _ c.if-i-ge16.false (ap (λ r. r.progress) c.record_at-record.ensures) (sym c.if-is_closed.ensures)
