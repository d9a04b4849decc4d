-- `lister::Listing::put_end` meets its contract: the lines have room, one after the other (Placing).
use Rattle.std.proofs.Common.{Bool, ◌+◌, ◌%◌, refl, ap, arith}
use Rattle.trace.specs.declared.Line.TheVariants as line
use Rattle.trace.specs.Lines.{line_text, line_in_range}
use Rattle.trace.specs.Claims.{RoomForLine}
use Rattle.trace.proofs.LineRoom.{room_for_line}
use Rattle.lister.specs.Listing.{end_text}
use Rattle.lister.proofs.Placing.{adds_then, adds_as}
use Rattle.lister.proofs.Listing.put_end.Goals as goal

pub put_line-requires : goal.put_line-requires
unfolding line_in_range
put_line-requires c = (refl, omega arith)

pub returns-then-not-stops_at : goal.returns-then-not-stops_at
unfolding line_text
returns-then-not-stops_at c = adds_as c.put_line.ensures (ap (λ (stops : Bool). end_text stops c.args.self.count) c.if-not-stops_at.ensures)

pub put_line-to-requires : goal.put_line-to-requires
unfolding line_in_range
put_line-to-requires c = (refl, omega arith)

pub put_line-requires-2 : goal.put_line-requires-2
unfolding line_in_range RoomForLine
put_line-requires-2 c =
    let p = c.put_line-to.ensures in (refl, omega (arith, p.place, p.size, room_for_line (line.Stopped ((c.args.self.count + 1) % 18446744073709551616)) refl))

pub returns : goal.returns
unfolding line_text
returns c =
    adds_as (adds_then c.put_line-to.ensures c.put_line-2.ensures)
    (ap (λ (stops : Bool). end_text stops c.args.self.count) c.if-not-stops_at.ensures)
