-- Bytes that are no watch's, buses to be reset, and none, where the watch is in the bytes already.
use Rattle.std.proofs.Common.{sym, ap, ◌∙◌, rules}
use Rattle.std.specs.Prelude.{Ok}
use Rattle.std.proofs.lemmas.Result.{err_from_is_err_and}
use Rattle.frame.specs.Claims.{Bytes}
use Rattle.watch.specs.Watching as watching
use Rattle.watch_bytes.specs.States.{watch_bytes_after, checked_in_bytes, checking}
use Rattle.watch_bytes.proofs.Claims.{unreset}
use Rattle.watch_bytes.proofs.Laws.{sized, no-watch, a-watch}
use Rattle.watch_bytes.proofs.check.Goals as goal

pub returns-in_err-load : goal.returns-in_err-load
unfolding checking
returns-in_err-load c =
    let p = err_from_is_err_and c.from_residual.result c.from_residual.ensures.1 in
    rw (p.1, p.2, c.in_err-load.ensures.none.1) (no-watch c.args.state.now _ c.in_err-load.ensures.none.0)

pub put-requires : goal.put-requires
put-requires c = sized _ c.in_ok-load.ensures.watch.0

pub returns-then-resets-ne0 : goal.returns-then-resets-ne0
unfolding checking
returns-then-resets-ne0 c =
    let g = c.args in
    let t = c.check-checked.ensures ∙ ap (λ w. watching.checking w g.time) c.in_ok-load.ensures.watch.1 in
    rw (c.put.ensures, c.resets-resets.ensures)
    (ap checked_in_bytes t ∙ a-watch g.state.now _ c.in_ok-load.ensures.watch.0)

pub returns-else-resets-ne0 : goal.returns-else-resets-ne0
unfolding checking
returns-else-resets-ne0 c =
    let g = c.args in
    let t = c.check-checked.ensures ∙ ap (λ w. watching.checking w g.time) c.in_ok-load.ensures.watch.1 in
    let bytes : Bytes g.state.now = λ i. search rules in
    let none = sym c.resets-resets.ensures ∙ c.if-resets-ne0.false in
    let same = unreset g.state.now bytes c.in_ok-load.ensures.watch.0 g.time c.check-checked.result t none in
    ap (watch_bytes_after (Ok c.resets-resets.result)) (sym same)
    ∙ rw c.resets-resets.ensures (ap checked_in_bytes t ∙ a-watch g.state.now _ c.in_ok-load.ensures.watch.0)
