use Rattle.std.proofs.Common.{ap, ◌∙◌}
use Rattle.station.specs.Receive.{framed, progress_in, slot_of, stepped}
use Rattle.station.proofs.Turning.{step_refused, step_passed, step_below, slot_steps}
use Rattle.station.proofs.Station.step_at.Goals as goal

pub invariant_of-result : goal.invariant_of-result
invariant_of-result c =
    let a = c.args in
    record { within = step_below a.self.now c.progress_in-progress.result a.store.now a.at a.key (framed a.head a.bytes.now) _ c.in-Ok.ensures.stepped }

pub returns-in-Err-clause-at : goal.returns-in-Err-clause-at
returns-in-Err-clause-at c =
    let a = c.args in
    rw c.unchanged.ensures
    (ap slot_of (step_refused a.self.now c.progress_in-progress.result a.store.now a.at a.key (framed a.head a.bytes.now) _ c.in-Err.ensures.stepped))

pub returns-in-Err-clause-stepped : goal.returns-in-Err-clause-stepped
returns-in-Err-clause-stepped c =
    let a = c.args in
    let frame = framed a.head a.bytes.now in
    rw (c.unchanged.ensures, c.in-Err.ensures.kept)
    (ap (stepped a.self.now a.store.now a.key frame)
    (step_refused a.self.now c.progress_in-progress.result a.store.now a.at a.key frame _ c.in-Err.ensures.stepped))

pub returns-in-Ok-clause-at : goal.returns-in-Ok-clause-at
returns-in-Ok-clause-at c =
    let a = c.args in
    ap slot_of (step_passed a.self.now c.progress_in-progress.result a.store.now a.at a.key (framed a.head a.bytes.now) _ c.in-Ok.ensures.stepped)

pub returns-in-Ok-clause-stepped : goal.returns-in-Ok-clause-stepped
returns-in-Ok-clause-stepped c =
    let a = c.args in
    let frame = framed a.head a.bytes.now in
    let progress = c.progress_in-progress.result in
    rw c.open_slot-slot.ensures
    (slot_steps a.self.now progress a.store.now a.at a.key frame (c.progress_in-progress.ensures ∙ ap progress_in c.stream_at.ensures) _ _ c.in-Ok.ensures.stepped
    ∙ ap (stepped a.self.now a.store.now a.key frame) (step_passed a.self.now progress a.store.now a.at a.key frame _ c.in-Ok.ensures.stepped))
