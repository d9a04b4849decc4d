use Rattle.std.proofs.Common.{◌≡◌, sym, ◌∙◌}
use Rattle.std.proofs.lemmas.Result.{err_from_is_err_and}
use Rattle.format.specs.declared.Refusal.TheVariants.{Closed}
use Rattle.slot.specs.Slots.{is_closed}
use Rattle.station.proofs.Handing.{sixteen, close_closed, close_open, stream_open, none_open}
use Rattle.station.proofs.Station.occupied.Goals as goal

pub returns-in_err-ok_or : goal.returns-in_err-ok_or
returns-in_err-ok_or c =
    let s = c.args.self.now in
    let ok = sym c.sound.ensures ∙ c.if-not-sound.false in
    let p = err_from_is_err_and c.from_residual.result c.from_residual.ensures.1 in
    let o = c.in_err-ok_or.ensures in
    let none = sym o.ok_part ∙ c.stream_at.ensures in
    let v = rw o.ok_part at o.value in
    let name : c.in_err-ok_or.field-0.0 ≡ Closed = cc in
    rw (p.1, p.2, name) (close_closed s c.args.i ok (none_open s.slots (sixteen s.format s.slots is_closed ok) c.args.i none))

pub returns : goal.returns
returns c =
    let s = c.args.self.now in
    let ok = sym c.sound.ensures ∙ c.if-not-sound.false in
    let o = c.in_ok-ok_or.ensures in
    close_open s c.args.i ok (stream_open s.slots (sixteen s.format s.slots is_closed ok) c.args.i _ (sym o.ok_part ∙ c.stream_at.ensures))
