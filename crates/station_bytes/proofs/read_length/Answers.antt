-- `station_bytes::read_length` meets its contract: each refusal in its order, else the bytes held (Handing).
use Rattle.std.proofs.Common.{refl, ap, inl, inr}
use Rattle.station.specs.Read.{is_done}
use Rattle.std.proofs.lemmas.Result.{err_from_is_err_and}
use Rattle.station_bytes.proofs.Calling.{sound_of}
use Rattle.station_bytes.proofs.Handing.{read_state, read-store, read-closed, read_none, read_done}
use Rattle.station_bytes.proofs.read_length.Goals as goal

pub returns-in_err-sound : goal.returns-in_err-sound
returns-in_err-sound c =
    let p = err_from_is_err_and c.from_residual.result c.from_residual.ensures.1 in
    let e = c.in_err-sound.ensures in
    rw (p.1, p.2, e.0) (read_state c.args.state.now e.1 c.args.store.now c.args.i)

pub returns-then-store-ne-SIZE : goal.returns-then-store-ne-SIZE
returns-then-store-ne-SIZE c =
    let s = c.in_ok-sound.sound in
    read-store c.args.state.now (sound_of s.is_station s.same c.in_ok-sound.ensures) c.args.store.now c.args.i c.if-store-ne-SIZE.true

pub returns-in_err-open_record : goal.returns-in_err-open_record
returns-in_err-open_record c =
    let p = err_from_is_err_and c.from_residual-in_err-open_record.result c.from_residual-in_err-open_record.ensures.1 in
    let e = c.in_err-open_record.ensures in
    let s = c.in_ok-sound.sound in
    rw (p.1, p.2, e.0)
    (read-closed c.args.state.now (sound_of s.is_station s.same c.in_ok-sound.ensures) c.args.store.now c.args.i c.if-store-ne-SIZE.false
    (rw c.in_ok-sound.ensures at e.1))

pub returns-in-Idle : goal.returns-in-Idle
returns-in-Idle c =
    let s = c.in_ok-sound.sound in
    let o = rw c.in_ok-sound.ensures at c.in_ok-open_record.ensures in
    read_none c.args.state.now (sound_of s.is_station s.same c.in_ok-sound.ensures) c.args.store.now c.args.i c.if-store-ne-SIZE.false _ o _
    c.progress_of.ensures (elim c.in-Idle.is [ inl e ↦ ap is_done e | inr e ↦ ap is_done e.1 ])

pub returns-in-Done : goal.returns-in-Done
returns-in-Done c =
    let s = c.in_ok-sound.sound in
    let o = rw c.in_ok-sound.ensures at c.in_ok-open_record.ensures in
    rw c.from.ensures
    (read_done c.args.state.now (sound_of s.is_station s.same c.in_ok-sound.ensures) c.args.store.now c.args.i c.if-store-ne-SIZE.false _ o _
    c.in-Done.ensures refl)
