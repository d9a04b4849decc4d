-- `station_bytes::open` meets its contract: each refusal in its order, else the lowest closed slot's record is written (Handing).
use Rattle.std.proofs.Common.{◌∙◌, sym}
use Rattle.std.proofs.lemmas.Result.{err_from_is_err_and}
use Rattle.station_bytes.proofs.Calling.{sound_of}
use Rattle.station_bytes.proofs.Handing.{open_state, open-field, open-taken, open_full, open-lowest, out_of_range, in_its_range, refusal-none}
use Rattle.station_bytes.proofs.open.Goals as goal

pub returns-in_err-sound : goal.returns-in_err-sound
returns-in_err-sound c =
    let p = err_from_is_err_and c.from_residual.result c.from_residual.ensures.1 in
    let e = c.in_err-sound.ensures in
    rw (p.1, p.2, e.0) (open_state c.args.state.now e.1 c.args.key)

pub returns-in_err-number : goal.returns-in_err-number
returns-in_err-number c =
    let p = err_from_is_err_and c.from_residual-in_err-number.result c.from_residual-in_err-number.ensures.1 in
    let e = c.in_err-number.ensures in
    let s = c.in_ok-sound.sound in
    let q = c.in_ok-sound.ensures in
    let f = rw q at s.its_format in
    rw (p.1, p.2, refusal-none _ _ _ e.value e.ok_part)
    (open-field c.args.state.now (sound_of s.is_station s.same q) c.args.key (rw f at (out_of_range _ _ _ c.key_number.ensures e.ok_part)))

pub returns-then-is_some : goal.returns-then-is_some
returns-then-is_some c =
    let s = c.in_ok-sound.sound in
    let q = c.in_ok-sound.ensures in
    let f = rw q at s.its_format in
    let r = in_its_range _ _ _ _ c.key_number.ensures c.in_ok-number.ensures.ok_part in
    open-taken c.args.state.now (sound_of s.is_station s.same q) c.args.key (rw f at r.0) _ (rw q at c.find.ensures.found) (sym c.if-is_some.ensures)

pub returns-in_err-i : goal.returns-in_err-i
returns-in_err-i c =
    let p = err_from_is_err_and c.from_residual-in_err-i.result c.from_residual-in_err-i.ensures.1 in
    let e = c.in_err-i.ensures in
    let s = c.in_ok-sound.sound in
    let q = c.in_ok-sound.ensures in
    let f = rw q at s.its_format in
    let r = in_its_range _ _ _ _ c.key_number.ensures c.in_ok-number.ensures.ok_part in
    rw (p.1, p.2, refusal-none _ _ _ e.value e.ok_part)
    (open_full c.args.state.now (sound_of s.is_station s.same q) c.args.key (rw f at r.0) _ (rw q at c.find.ensures.found) (sym c.if-is_some.ensures)
    (sym e.ok_part ∙ rw q at c.first_closed.ensures.found))

pub returns : goal.returns
returns c =
    let s = c.in_ok-sound.sound in
    let q = c.in_ok-sound.ensures in
    let f = rw q at s.its_format in
    let r = in_its_range _ _ _ _ c.key_number.ensures c.in_ok-number.ensures.ok_part in
    open-lowest c.args.state.now (sound_of s.is_station s.same q) c.args.key (rw f at r.0) _ (rw q at c.find.ensures.found) (sym c.if-is_some.ensures)
    _ (sym c.in_ok-i.ensures.ok_part ∙ rw q at c.first_closed.ensures.found) _ _ r.1 (rw c.progress_number.ensures at c.write.ensures)
