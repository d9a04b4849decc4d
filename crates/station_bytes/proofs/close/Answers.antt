-- `station_bytes::close` meets its contract: each refusal in its order, else the slot's record becomes a closed one's (Handing).
use Rattle.std.proofs.lemmas.Result.{err_from_is_err_and}
use Rattle.station_bytes.proofs.Calling.{sound_of}
use Rattle.station_bytes.proofs.Handing.{close_state, close_closed, close_open}
use Rattle.station_bytes.proofs.close.Goals as goal

pub returns-in_err-of : goal.returns-in_err-of
returns-in_err-of c =
    let p = err_from_is_err_and c.from_residual.result c.from_residual.ensures.1 in
    let e = c.in_err-of.ensures in
    rw (p.1, p.2, e.0) (close_state c.args.state.now e.1 c.args.i)

pub returns-in_err-open_record : goal.returns-in_err-open_record
returns-in_err-open_record c =
    let p = err_from_is_err_and c.from_residual-in_err-open_record.result c.from_residual-in_err-open_record.ensures.1 in
    let e = c.in_err-open_record.ensures in
    let s = c.in_ok-of.field-0 in
    rw (p.1, p.2, e.0) (close_closed c.args.state.now (sound_of s.is_station s.same c.in_ok-of.ensures) c.args.i (rw c.in_ok-of.ensures at e.1))

pub returns : goal.returns
returns c =
    let s = c.in_ok-of.field-0 in
    let o = rw c.in_ok-of.ensures at c.in_ok-open_record.ensures in
    close_open c.args.state.now (sound_of s.is_station s.same c.in_ok-of.ensures) c.args.i o.inside o.told _ c.write.ensures
