-- `lister::Receiver::hear` meets its contract: no slot is left for the key, or its stream steps (Hearing).
use Rattle.std.proofs.Common.{◌∙◌}
use Rattle.lister.proofs.Hearing.{key_in_range_lem, at-full, at_open, heard_keeps, turn_none, turn_some}
use Rattle.lister.proofs.Receiver.hear.Goals as goal

pub opened-requires : goal.opened-requires
opened-requires c = let p = c.requires in key_in_range_lem c.args.bus p.1 c.args.head c.args.image.now p.2

pub returns-in_default : goal.returns-in_default
returns-in_default c =
    let a = c.args in
    let r = a.self.now in
    let p = c.requires in
    at-full r.station r.is_extended r.is_sound a.store.now a.bus a.image.now p.0 p.1 a.head p.2 _ c.in_default.ensures

pub invariant_of-self : goal.invariant_of-self
invariant_of-self c =
    let a = c.args in
    let r = a.self.now in
    let p = c.requires in
    let heard-is = at_open r.station r.is_extended r.is_sound a.store.now a.bus a.image.now p.0 p.1 a.head p.2 _ _ c.in-Some.ensures _ _ c.step_at-turn.ensures.stepped in
    let k = heard_keeps r.station r.is_extended r.is_sound a.store.now a.bus a.image.now p.0 p.1 _ (turn_some _ _ _ _ c.in-Some-change.is ∙ heard-is) in
    record { is_extended = k.0; is_sound = k.1 }

pub returns-in-Some-change : goal.returns-in-Some-change
returns-in-Some-change c =
    let a = c.args in
    let r = a.self.now in
    let p = c.requires in
    turn_some _ _ _ _ c.in-Some-change.is
    ∙ at_open r.station r.is_extended r.is_sound a.store.now a.bus a.image.now p.0 p.1 a.head p.2 _ _ c.in-Some.ensures _ _ c.step_at-turn.ensures.stepped

pub returns-in_default-change : goal.returns-in_default-change
returns-in_default-change c =
    let a = c.args in
    let r = a.self.now in
    let p = c.requires in
    turn_none _ _ _ c.in_default-change.is
    ∙ at_open r.station r.is_extended r.is_sound a.store.now a.bus a.image.now p.0 p.1 a.head p.2 _ _ c.in-Some.ensures _ _ c.step_at-turn.ensures.stepped
