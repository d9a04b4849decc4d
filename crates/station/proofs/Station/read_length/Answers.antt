use Rattle.std.proofs.Common.{refl, sym, ap, ◌∙◌, arith}
use Rattle.slot.specs.Slots.{is_closed}
use Rattle.station.specs.Receive.{progress_in}
use Rattle.station.proofs.Handing.{sixteen, stream_open, none_open, not_done, read-closed, read_none, readable, read_done}
use Rattle.station.proofs.Station.read_length.Goals as goal

pub returns-in_default : goal.returns-in_default
returns-in_default c =
    let s = c.args.self in
    let ok = sym c.sound.ensures ∙ c.if-not-sound.false in
    read-closed s c.args.store.now c.args.i ok (omega arith)
    (none_open s.slots (sixteen s.format s.slots is_closed ok) c.args.i (sym c.in_default.is ∙ c.stream_at.ensures))

-- the slot is open, with the stream found there
pub returns-in-Done : goal.returns-in-Done
returns-in-Done c =
    let s = c.args.self in
    let ok = sym c.sound.ensures ∙ c.if-not-sound.false in
    let there = sym c.in-Some.is ∙ c.stream_at.ensures in
    rw c.from.ensures
    (read_done s c.args.store.now c.args.i _
    (readable s c.args.store.now c.args.i ok (omega arith) (stream_open s.slots (sixteen s.format s.slots is_closed ok) c.args.i _ there)
    _ (sym c.in-Done.is ∙ ap progress_in there) refl))

pub returns-in_default-progress : goal.returns-in_default-progress
returns-in_default-progress c =
    let s = c.args.self in
    let ok = sym c.sound.ensures ∙ c.if-not-sound.false in
    let there = sym c.in-Some.is ∙ c.stream_at.ensures in
    read_none s c.args.store.now c.args.i ok (omega arith) (stream_open s.slots (sixteen s.format s.slots is_closed ok) c.args.i _ there)
    _ (ap progress_in there) (not_done _ c.in_default-progress.not-Done)
