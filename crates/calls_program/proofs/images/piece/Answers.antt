-- The output lent to the call stands in the response after its answer.
use Rattle.std.proofs.Common.{◌≡◌, ◌+◌, ap, ◌∙◌, le-ltb}
use Rattle.calls_program.specs.Requests.{byte_at}
use Rattle.calls_program.specs.Responses.{responds}
use Rattle.calls_program.specs.Images.{piece_in, piece_done}
use Rattle.calls_program.proofs.Parts.{answered}
use Rattle.calls_program.proofs.images.piece.Goals as goal

pub returns : goal.returns
unfolding piece_done
returns c =
    let call = c.piece_over-answer in
    let room = c.from-size.result in
    let is : room ≡ byte_at c.args.args.now 8 = c.from-size.ensures ∙ c.byte.ensures in
    rw (← is, c.put_outcome.ensures, le-ltb _ _ c.if-size-out.false)
    (ap (responds (4 + room))
    (answered 4 (piece_in c.args.args.now) room 0xEE c.args.out.now c.if-size-out.false _ _
    call.auto.output call.ensures.result_value call.ensures.output_after))
