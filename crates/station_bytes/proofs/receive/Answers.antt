-- `station_bytes::receive` meets its contract: each refusal in its order, else the slot of the frame's key steps (Calling).
use Rattle.std.proofs.Common.{◌∙◌, ap, sym, arith}
use Rattle.std.proofs.lemmas.Result.{err_from_is_err_and}
use Rattle.frame.proofs.Judged.{sound_image}
use Rattle.station_bytes.proofs.Calling.{sound_of, size, receive_state, receive-store, receive-field, receive-image, receive-none, not-refused, receive-step}
use Rattle.station_bytes.specs.States.{progress_from}
use Rattle.station_bytes.proofs.Bytes.{there}
use Rattle.station_bytes.proofs.receive.Goals as goal

pub returns-in_err-sound : goal.returns-in_err-sound
returns-in_err-sound c =
    let p = err_from_is_err_and c.from_residual.result c.from_residual.ensures.1 in
    let e = c.in_err-sound.ensures in
    rw (p.1, p.2, e.0) (receive_state c.args.state.now e.1 c.args.store.now c.args.bus c.args.image.now)

pub returns-then-store-ne-SIZE : goal.returns-then-store-ne-SIZE
returns-then-store-ne-SIZE c =
    let s = c.in_ok-sound.sound in
    receive-store c.args.state.now (sound_of s.is_station s.same c.in_ok-sound.ensures) c.args.store.now c.args.bus c.args.image.now c.if-store-ne-SIZE.true

pub returns-then-bus-gt1 : goal.returns-then-bus-gt1
returns-then-bus-gt1 c =
    let s = c.in_ok-sound.sound in
    receive-field c.args.state.now (sound_of s.is_station s.same c.in_ok-sound.ensures) c.args.store.now c.args.bus c.args.image.now c.if-store-ne-SIZE.false
    c.if-bus-gt1.true

pub returns-in_err-head : goal.returns-in_err-head
returns-in_err-head c =
    let p = err_from_is_err_and c.from_residual-in_err-head.result c.from_residual-in_err-head.ensures.1 in
    let s = c.in_ok-sound.sound in
    let q = c.in_ok-sound.ensures in
    rw (p.1, p.2)
    (receive-image c.args.state.now (sound_of s.is_station s.same q) c.args.store.now c.args.bus c.args.image.now c.if-store-ne-SIZE.false
    c.if-bus-gt1.false _ (rw q at s.its_format) _ c.in_err-head.ensures)

pub returns-in_default : goal.returns-in_default
returns-in_default c =
    let s = c.in_ok-sound.sound in
    let q = c.in_ok-sound.ensures in
    receive-none c.args.state.now (sound_of s.is_station s.same q) c.args.store.now c.args.bus c.args.image.now c.if-store-ne-SIZE.false
    c.if-bus-gt1.false _ (rw q at s.its_format) _ c.in_ok-head.ensures (rw q at c.in_default.ensures.found)

pub slice_bounds-step_area-count : goal.slice_bounds-step_area-count
slice_bounds-step_area-count c = (sound_image _ c.args.image.now _ (sym c.in_ok-head.ensures)).starts

pub slice_bounds-step_area-start : goal.slice_bounds-step_area-start
slice_bounds-step_area-start c = (sound_image _ c.args.image.now _ (sym c.in_ok-head.ensures)).starts

pub returns-in_err-next : goal.returns-in_err-next
returns-in_err-next c =
    let s = c.in_ok-sound.sound in
    let q = c.in_ok-sound.ensures in
    absurd
    (not-refused c.args.state.now (sound_of s.is_station s.same q) c.args.store.now c.args.bus c.args.image.now c.if-store-ne-SIZE.false
    c.if-bus-gt1.false _ (rw q at s.its_format) _ c.in_ok-head.ensures _ (rw q at c.in-Some.ensures.found) _
    (c.progress_of-progress.ensures ∙ ap progress_from (rw q at (ap (λ r. r.progress) c.record_at-held.ensures))) _ c.in_err-next.ensures.stepped)

pub returns-then-number-held : goal.returns-then-number-held
returns-then-number-held c =
    let s = c.in_ok-sound.sound in
    let q = c.in_ok-sound.ensures in
    receive-step c.args.state.now (sound_of s.is_station s.same q) c.args.store.now c.args.bus c.args.image.now c.if-store-ne-SIZE.false
    c.if-bus-gt1.false _ (rw q at s.its_format) _ c.in_ok-head.ensures _ (rw q at c.in-Some.ensures.found) _
    (c.progress_of-progress.ensures ∙ ap progress_from (rw q at (ap (λ r. r.progress) c.record_at-held.ensures))) _ _ c.in_ok-next.ensures.stepped
    _ c.progress_number-number.ensures _ c.put_word.ensures

pub returns-else-number-held : goal.returns-else-number-held
returns-else-number-held c =
    let s = c.in_ok-sound.sound in
    let q = c.in_ok-sound.ensures in
    let held = rw q at (ap (λ r. r.progress) c.record_at-held.ensures) in
    receive-step c.args.state.now (sound_of s.is_station s.same q) c.args.store.now c.args.bus c.args.image.now c.if-store-ne-SIZE.false
    c.if-bus-gt1.false _ (rw q at s.its_format) _ c.in_ok-head.ensures _ (rw q at c.in-Some.ensures.found) _
    (c.progress_of-progress.ensures ∙ ap progress_from held) _ _ c.in_ok-next.ensures.stepped
    _ c.progress_number-number.ensures _
    (there c.args.state.now (rw q at s.bytes) _ (omega (arith, size c.args.state.now (sound_of s.is_station s.same q), c.in-Some.ensures.within)) _
    (c.if-number-held.false ∙ held))
