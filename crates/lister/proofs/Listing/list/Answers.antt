-- `lister::Listing::list` meets its contract: refused, or all that can be listed (Calling).
use Rattle.std.proofs.Common.{not, sym, ap, ◌∙◌}
use Rattle.lister.proofs.Calling.{at_state, at_store, at_all}
use Rattle.lister.proofs.Listing.list.Goals as goal

pub returns-then-not-sound : goal.returns-then-not-sound
returns-then-not-sound c =
    let a = c.args in
    rw c.refused.ensures (at_state a.self a.store.now a.input.now a.output.now (ap not (sym c.sound.ensures ∙ c.if-not-sound.true)))

pub returns-then-store-ne-SIZE : goal.returns-then-store-ne-SIZE
returns-then-store-ne-SIZE c =
    let a = c.args in
    rw c.refused-then-store-ne-SIZE.ensures (at_store a.self a.store.now a.input.now a.output.now (ap not (sym c.sound.ensures ∙ c.if-not-sound.false)) c.if-store-ne-SIZE.true)

pub returns : goal.returns
returns c =
    let a = c.args in
    c.list_all.ensures ∙ at_all a.self a.store.now a.input.now a.output.now (ap not (sym c.sound.ensures ∙ c.if-not-sound.false)) c.if-store-ne-SIZE.false
