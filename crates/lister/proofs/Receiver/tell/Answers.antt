-- `lister::Receiver::tell` meets its contract: an image that is refused, or a frame that is heard (Hearing).
use Rattle.std.proofs.Common.{refl, arith}
use Rattle.lister.proofs.Hearing.{heads, tells_refused, tells_frame}
use Rattle.lister.proofs.Receiver.tell.Goals as goal

pub returns-in-Err : goal.returns-in-Err
returns-in-Err c =
    let a = c.args in
    let r = a.self.now in
    tells_refused r.station r.is_extended r.is_sound a.store.now a.ordinal a.bus a.image.now c.requires.0 c.requires.1 _ c.in-Err.ensures

pub returns-in-Ok : goal.returns-in-Ok
returns-in-Ok c =
    let a = c.args in
    let r = a.self.now in
    let h = heads a.image.now (λ i. omega (arith, c.type_inv.image i)) _ c.in-Ok.ensures in
    tells_frame r.station r.is_extended r.is_sound a.store.now a.ordinal a.bus a.image.now c.requires.0 c.requires.1 _ h _ _ _ c.hear-answer.ensures _ refl

pub hear-answer-requires : goal.hear-answer-requires
hear-answer-requires c = (c.requires.0, c.requires.1, heads c.args.image.now (λ i. omega (arith, c.type_inv.image i)) _ c.in-Ok.ensures)

pub overflow_sub-result : goal.overflow_sub-result
overflow_sub-result c = (heads c.args.image.now (λ i. omega (arith, c.type_inv.image i)) _ c.in-Ok.ensures).start

pub overflow_cast-result : goal.overflow_cast-result
overflow_cast-result c = omega (arith, (heads c.args.image.now (λ i. omega (arith, c.type_inv.image i)) _ c.in-Ok.ensures).most)
