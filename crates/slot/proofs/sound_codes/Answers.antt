use Rattle.std.proofs.Common.{◌∙◌, sym, refl, arith}
use Rattle.slot.specs.Slots.{closed_slot, slot_at}
use Rattle.slot.proofs.CodeLaws.{slot_fits}
use Rattle.slot.proofs.Rows.{filled_next, filled}
use Rattle.slot.proofs.SoundLaws.{bad, next, none}
use Rattle.slot.proofs.sound_codes.Goals as goal

pub returns-then-not-slot_sound : goal.returns-then-not-slot_sound
returns-then-not-slot_sound c =
    let a = c.args in
    let l = c.loop-i in
    let unsound = l.invariant.0 ∙ bad a.format a.slots l.i closed_slot (omega arith) (sym c.slot_sound.ensures ∙ c.if-not-slot_sound.true) in
    rw unsound refl

pub slot_code-requires : goal.slot_code-requires
slot_code-requires c =
    slot_fits c.args.format (slot_at c.args.slots c.loop-i.i).occupancy c.loop-i.i (omega arith) (sym c.slot_sound.ensures ∙ c.if-not-slot_sound.false)

pub loop-i-preserved : goal.loop-i-preserved
loop-i-preserved c =
    let a = c.args in
    let l = c.loop-i in
    let good = sym c.slot_sound.ensures ∙ c.if-not-slot_sound.false in (
      l.invariant.0 ∙ next a.format a.slots l.i closed_slot (omega arith) good,
      rw l.invariant.1 (filled_next _ a.slots l.i (omega arith) closed_slot l.i _ (omega arith) refl c.slot_code.ensures),
    )

pub returns : goal.returns
returns c =
    let a = c.args in
    let l = c.loop-i in
    let all_sound = l.invariant.0 ∙ none a.format a.slots l.i (omega arith) in
    rw (all_sound, l.invariant.1 ∙ filled _ a.slots l.i (omega arith) (omega arith)) refl
