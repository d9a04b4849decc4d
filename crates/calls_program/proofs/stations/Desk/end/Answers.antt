-- The output lent to the call stands in the response after its answer and the count.
use Rattle.std.proofs.Common.{◌+◌, ap, le-ltb}
use Rattle.copying.specs.Copy.{copied}
use Rattle.lister.specs.Listing.{ending}
use Rattle.calls_program.specs.Responses.{number8_bytes}
use Rattle.calls_program.specs.Desks.{as_done}
use Rattle.calls_program.proofs.Parts.{answered}
use Rattle.calls_program.proofs.stations.Desk.end.Goals as goal

pub returns : goal.returns
returns c =
    let desk = c.args.self.now in
    let room = c.number-size in
    let call = c.end_over-answer in
    rw (
      ← room.ensures.value,
      ← c.rest.ensures,
      ← c.listing.ensures,
      c.copy_in.ensures.target_after,
      c.to_be_bytes.ensures,
      c.put_outcome.ensures,
      le-ltb _ _ c.if-size-out.false,
    )
    (ap (λ o. as_done desk (12 + room.result) (copied o 4 (number8_bytes desk.count)))
    (answered 12 (ending c.listing.result c.rest.result.now) room.result 45 c.args.out.now c.if-size-out.false _ _
    call.auto.output call.ensures.result_value call.ensures.output_after))
