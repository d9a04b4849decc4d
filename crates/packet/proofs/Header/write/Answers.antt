-- `packet::Header::write` meets its contract: ROOM, or the header and the bytes together are the image (Placing).
use Rattle.std.proofs.Common.{ℕ, List, sym, ap, ◌∙◌, arith}
use Rattle.format.specs.declared.Format.{Format}
use Rattle.format.specs.Formats.{header_size, packet_start}
use Rattle.format.specs.Outputs.{over}
use Rattle.format.proofs.Outputs.{no_room, has_room, not_written, written_over}
use Rattle.packet.proofs.Placing.{image-size, image-led}
use Rattle.packet.proofs.Header.write.Goals as goal

pub returns-then-output-size : goal.returns-then-output-size
returns-then-output-size c =
    let a = c.args in
    let starts = c.packet_start-start.ensures ∙ ap (λ (f : Format). packet_start f a.self.now.flag) c.format-format.ensures in
    let sized = image-size a.self.now.flag a.self.now.number a.bytes.now a.self.now.fields _ starts in
    not_written _ a.output.now 12 (no_room _ a.output.now _ (sym sized) (omega arith))

pub returns : goal.returns
returns c =
    let a = c.args in
    let starts = c.packet_start-start.ensures ∙ ap (λ (f : Format). packet_start f a.self.now.flag) c.format-format.ensures in
    let sized = image-size a.self.now.flag a.self.now.number a.bytes.now a.self.now.fields _ starts in
    let heads = c.header_size.ensures ∙ ap header_size c.format-format.ensures in
    let led = image-led a.self.now.flag a.self.now.number a.bytes.now a.self.now.fields _ starts _ heads _ c.bytes-head.ensures in
    let n = sym sized in
    written_over _ a.output.now _ _ _ (has_room _ a.output.now _ n (omega arith)) n
    (c.put.ensures ∙ ap (λ (x : List ℕ). over x a.output.now) led)
