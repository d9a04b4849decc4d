-- `lister::Receiver::opened` meets its contract: the key is open, or no slot is left, or it is opened (Hearing).
use Rattle.std.proofs.Common.{sym, arith}
use Rattle.lister.proofs.Hearing.{opens_found, opens_none, opens_lowest, still-sound, below}
use Rattle.lister.proofs.Receiver.opened.Goals as goal

pub returns-then-is_some : goal.returns-then-is_some
returns-then-is_some c =
    let r = c.args.self.now in opens_found r.station r.is_extended r.is_sound c.args.key c.requires _ c.find_in-found.ensures (sym c.if-is_some.ensures)

pub returns-in_err-lowest : goal.returns-in_err-lowest
returns-in_err-lowest c =
    let r = c.args.self.now in
    rw c.from_residual.ensures
    (opens_none r.station r.is_extended r.is_sound c.args.key c.requires _ c.find_in-found.ensures (sym c.if-is_some.ensures) c.in_err-lowest.ensures)

pub offset_bounds-self-lowest : goal.offset_bounds-self-lowest
offset_bounds-self-lowest c =
    let r = c.args.self.now in
    let low = below r.station r.is_extended r.is_sound c.args.key c.requires _ c.find_in-found.ensures (sym c.if-is_some.ensures) _ c.in_ok-lowest.ensures in
    omega arith

pub invariant_of-self : goal.invariant_of-self
invariant_of-self c =
    let r = c.args.self.now in
    record {
      is_extended = r.is_extended;
      is_sound = rw c.open_slot.ensures (still-sound r.station r.is_extended r.is_sound c.args.key c.requires _ c.find_in-found.ensures (sym c.if-is_some.ensures) _ c.in_ok-lowest.ensures);
    }

pub returns : goal.returns
returns c =
    let r = c.args.self.now in
    rw c.open_slot.ensures (opens_lowest r.station r.is_extended r.is_sound c.args.key c.requires _ c.find_in-found.ensures (sym c.if-is_some.ensures) _ c.in_ok-lowest.ensures)
