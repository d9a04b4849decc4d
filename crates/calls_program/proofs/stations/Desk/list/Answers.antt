-- What the call says of the parts lent to it says of the request (Desks).
use Rattle.calls_program.proofs.Desks.{list_done}
use Rattle.calls_program.proofs.stations.Desk.list.Goals as goal

pub returns : goal.returns
returns c =
    list_done c.args.self.now _ c.args.args.now c.args.out.now _ _ _ _ _ c.number-size.result c.list_over-listed.result _
    c.if-size-out.false c.lent_size-n.ensures.value c.number-size.ensures.value c.listing-listing.ensures c.rest.ensures
    c.list_over-listed.auto.output c.list_over-listed.ensures c.put_listed.ensures c.keep.ensures
