-- Bytes that are no watch's, a refusal, whose watch is in the bytes already, and a bus heard.
use Rattle.std.proofs.Common.{sym, ap, ◌∙◌, rules}
use Rattle.std.proofs.lemmas.Result.{err_from_is_err_and}
use Rattle.frame.specs.Claims.{Bytes}
use Rattle.watch.specs.Watching as watching
use Rattle.watch_bytes.specs.States.{watch_bytes_after, state_bytes, heard_in_bytes, hearing}
use Rattle.watch_bytes.proofs.Claims.{there}
use Rattle.watch_bytes.proofs.Laws.{sized, no-watch, a-watch}
use Rattle.watch_bytes.proofs.heard.Goals as goal

pub returns-in_err-load : goal.returns-in_err-load
unfolding hearing
returns-in_err-load c =
    let p = err_from_is_err_and c.from_residual.result c.from_residual.ensures.1 in
    rw (p.1, p.2, c.in_err-load.ensures.none.1) (no-watch c.args.state.now _ c.in_err-load.ensures.none.0)

pub returns-in_err-bus : goal.returns-in_err-bus
unfolding hearing
returns-in_err-bus c =
    let g = c.args in
    let p = err_from_is_err_and c.from_residual-in_err-bus.result c.from_residual-in_err-bus.ensures.1 in
    let bytes : Bytes g.state.now = λ i. search rules in
    let is = c.in_ok-load.ensures.watch.0 in
    let t = c.heard-heard.ensures ∙ ap (λ w. watching.hearing w g.bus g.time) c.in_ok-load.ensures.watch.1 in
    let same = there g.state.now bytes is g.bus g.time c.heard-heard.result _ t c.in_err-bus.was in
    rw (p.1, p.2) (ap (λ r. watch_bytes_after r g.state.now) (sym c.in_err-bus.was) ∙ ap (watch_bytes_after c.heard-heard.result.answer) (sym same) ∙ ap heard_in_bytes t ∙ a-watch g.state.now _ is)

pub put-requires : goal.put-requires
put-requires c = sized _ c.in_ok-load.ensures.watch.0

pub returns : goal.returns
unfolding hearing
returns c =
    let g = c.args in
    let t = c.heard-heard.ensures ∙ ap (λ w. watching.hearing w g.bus g.time) c.in_ok-load.ensures.watch.1 in
    rw c.put.ensures
    (ap (λ r. watch_bytes_after r (state_bytes c.heard-heard.result.watch)) (sym c.in_ok-bus.was) ∙ ap heard_in_bytes t ∙ a-watch g.state.now _ c.in_ok-load.ensures.watch.0)
