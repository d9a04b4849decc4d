-- `packet::bytes_at` meets its contract: piece k begins within the packet, and the part is the definition's (Counts).
use Rattle.std.proofs.Common.{refl, arith}
use Rattle.packet.proofs.Counts.{within_packet, bytes_taken}
use Rattle.packet.proofs.bytes_at.Goals as goal

pub overflow_mul-from : goal.overflow_mul-from
overflow_mul-from c =
    let inside = within_packet c.args.z c.args.packet.now c.args.k c.requires c.if-packet-le8.false in
    record { fits = omega (arith, inside) }

pub slice_bounds-left-count : goal.slice_bounds-left-count
slice_bounds-left-count c =
    omega (arith, within_packet c.args.z c.args.packet.now c.args.k c.requires c.if-packet-le8.false)

pub slice_bounds-left-start : goal.slice_bounds-left-start
slice_bounds-left-start c =
    omega (arith, within_packet c.args.z c.args.packet.now c.args.k c.requires c.if-packet-le8.false)

pub returns : goal.returns
returns c = bytes_taken c.args.z c.args.packet.now c.args.k c.if-packet-le8.false _ c.min.result refl c.min.ensures
