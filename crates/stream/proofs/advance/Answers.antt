-- `stream::advance`: a case for each flag (Steps).
use Rattle.std.proofs.Common.{◌≡◌, true, false, refl}
use Rattle.std.proofs.lemmas.Result.{err_from_is_err_and}
use Rattle.stream.proofs.Steps.{as-start, as-single, as_middle, as_end, went_on, ended, refused_as}
use Rattle.stream.proofs.advance.Goals as goal

pub returns-in-Start : goal.returns-in-Start
returns-in-Start c =
    let a = c.args in
    as-start a.z a.m a.progress.now a.area.now a.flag a.number a.bytes.now
    _ c.collecting-broke.ensures _ c.hold-n.ensures.value _ c.hold-n.ensures.area_after c.in-Start.is

pub returns-in-Single : goal.returns-in-Single
returns-in-Single c =
    let a = c.args in
    as-single a.z a.m a.progress.now a.area.now a.flag a.number a.bytes.now
    _ c.collecting-broke.ensures _ c.hold-n-in-Single.ensures.value _ c.hold-n-in-Single.ensures.area_after c.in-Single.is

pub returns-in_ok-end-in-Middle : goal.returns-in_ok-end-in-Middle
returns-in_ok-end-in-Middle c =
    let a = c.args in
    let ok = c.in_ok-end-in-Middle in
    as_middle a.z a.m a.progress.now a.area.now a.flag a.number a.bytes.now c.in-Middle.is _
    (went_on a.z a.m false a.progress.now a.area.now a.number a.bytes.now c.append.result c.append.ensures.end ok.end ok.was c.append.new.area ok.ensures.ok refl)

pub returns-in_err-end-in-Middle : goal.returns-in_err-end-in-Middle
returns-in_err-end-in-Middle c =
    let a = c.args in
    let err = c.in_err-end-in-Middle in
    let name = err.field-0.0 in
    let told = err_from_is_err_and c.from_residual.result c.from_residual.ensures.1 in
    let same : told.0 ≡ name = told.2 in
    let kept = err.ensures.err in
    rw (told.1, same) (as_middle a.z a.m a.progress.now a.area.now a.flag a.number a.bytes.now c.in-Middle.is _
    (refused_as a.z a.m false a.progress.now a.area.now a.number a.bytes.now c.append.result c.append.ensures.end name err.was c.append.new.progress kept.0 c.append.new.area kept.1))

pub returns-in_ok-end-in-End : goal.returns-in_ok-end-in-End
returns-in_ok-end-in-End c =
    let a = c.args in
    let ok = c.in_ok-end-in-End in
    as_end a.z a.m a.progress.now a.area.now a.flag a.number a.bytes.now c.in-End.is _
    (ended a.z a.m true a.progress.now a.area.now a.number a.bytes.now c.append-in-End.result c.append-in-End.ensures.end ok.end ok.was c.append-in-End.new.area ok.ensures.ok refl c.from.result c.from.ensures)

pub returns-in_err-end-in-End : goal.returns-in_err-end-in-End
returns-in_err-end-in-End c =
    let a = c.args in
    let err = c.in_err-end-in-End in
    let name = err.field-0.0 in
    let told = err_from_is_err_and c.from_residual-in_err-end-in-End.result c.from_residual-in_err-end-in-End.ensures.1 in
    let same : told.0 ≡ name = told.2 in
    let kept = err.ensures.err in
    rw (told.1, same) (as_end a.z a.m a.progress.now a.area.now a.flag a.number a.bytes.now c.in-End.is _
    (refused_as a.z a.m true a.progress.now a.area.now a.number a.bytes.now c.append-in-End.result c.append-in-End.ensures.end name err.was c.append-in-End.new.progress kept.0 c.append-in-End.new.area kept.1))
