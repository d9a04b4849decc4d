use Rattle.std.proofs.Common.{ℕ, ◌<◌, List, ◌∙◌, sym, ap, arith}
use Rattle.slot.proofs.Places.{position_some, position_none}
use Rattle.station.specs.Receive.{key_of, framed, slot_of, step_at, stepped}
use Rattle.station.specs.Parts.{frame_of}
use Rattle.station.proofs.Turning.{in_frame, refused_at, by_refusal, frame_at, by_none, by_slot, rest_is, steps_there}
use Rattle.station.proofs.Station.take_turn.Goals as goal

pub slice_bounds-step_at-count : goal.slice_bounds-step_at-count
slice_bounds-step_at-count c =
    let a = c.args in (in_frame a.self.now a.store.now a.bus a.image.now _ c.in-Ok-default-Some.ensures.0).starts

pub slice_bounds-step_at-start : goal.slice_bounds-step_at-start
slice_bounds-step_at-start c =
    let a = c.args in (in_frame a.self.now a.store.now a.bus a.image.now _ c.in-Ok-default-Some.ensures.0).starts

pub returns-in-Err-clause-at : goal.returns-in-Err-clause-at
returns-in-Err-clause-at c =
    let a = c.args in
    rw c.unchanged.ensures (refused_at a.self.now a.store.now a.bus a.image.now _ c.in-Err.ensures)

pub returns-in-Err-clause-received : goal.returns-in-Err-clause-received
returns-in-Err-clause-received c =
    let a = c.args in
    rw c.unchanged.ensures (by_refusal a.self.now a.store.now a.bus a.image.now _ c.in-Err.ensures)

-- a frame whose key is open nowhere
pub returns-in-Ok-default-None-clause-at : goal.returns-in-Ok-default-None-clause-at
returns-in-Ok-default-None-clause-at c =
    let a = c.args in
    let e = c.in-Ok-default-None.ensures in
    let f = in_frame a.self.now a.store.now a.bus a.image.now _ e.0 in
    let none = position_none _ a.self.now.slots (sym c.in-Ok-default-None.field-0-1-is ∙ e.1) in
    rw c.unchanged-in-Ok-default-None.ensures (sym f.sixteen ∙ sym none ∙ frame_at a.self.now a.store.now a.bus a.image.now _ e.0)

pub returns-in-Ok-default-None-clause-received : goal.returns-in-Ok-default-None-clause-received
returns-in-Ok-default-None-clause-received c =
    let a = c.args in
    let e = c.in-Ok-default-None.ensures in
    let f = in_frame a.self.now a.store.now a.bus a.image.now _ e.0 in
    let none = position_none _ a.self.now.slots (sym c.in-Ok-default-None.field-0-1-is ∙ e.1) in
    rw c.unchanged-in-Ok-default-None.ensures (by_none a.self.now a.store.now a.bus a.image.now _ e.0 (omega (arith, none, f.sixteen)))

-- a frame whose key is open: its slot steps
pub returns-in-Ok-default-Some-clause-at : goal.returns-in-Ok-default-Some-clause-at
returns-in-Ok-default-Some-clause-at c =
    let a = c.args in
    let head = c.in-Ok-default-Some.head in
    let e = c.in-Ok-default-Some.ensures in
    let f = in_frame a.self.now a.store.now a.bus a.image.now _ e.0 in
    let at = position_some _ a.self.now.slots _ (sym c.in-Ok-default-Some.field-0-1-is ∙ e.1) in
    c.step_at.ensures.at
    ∙ ap slot_of (sym (steps_there a.store.now c.in-Ok-default-Some.at _ (omega (arith, at.1, f.sixteen)) f.whole f.few))
    ∙ at.0
    ∙ frame_at a.self.now a.store.now a.bus a.image.now _ e.0

pub returns-in-Ok-default-Some-clause-received : goal.returns-in-Ok-default-Some-clause-received
returns-in-Ok-default-Some-clause-received c =
    let a = c.args in
    let head = c.in-Ok-default-Some.head in
    let frame = frame_of head a.image.now in
    let key = key_of a.bus frame in
    let e = c.in-Ok-default-Some.ensures in
    let f = in_frame a.self.now a.store.now a.bus a.image.now _ e.0 in
    let at = position_some _ a.self.now.slots _ (sym c.in-Ok-default-Some.field-0-1-is ∙ e.1) in
    let inside : c.in-Ok-default-Some.at < 16 = omega (arith, at.1, f.sixteen) in
    c.step_at.ensures.stepped
    ∙ ap (stepped a.self.now a.store.now key _) (sym (steps_there a.store.now c.in-Ok-default-Some.at _ inside f.whole f.few))
    ∙ ap (λ (bytes : List ℕ). step_at a.self.now a.store.now c.in-Ok-default-Some.at key (framed head bytes)) (rest_is a.image.now head.start)
    ∙ by_slot a.self.now a.store.now a.bus a.image.now _ e.0 _ at.0 inside
