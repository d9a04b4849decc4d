-- One slot more.
use Rattle.std.proofs.Common.{◌≡◌, ℕ, ◌+◌, ◌*◌, ◌<◌, List, length, get_or, drop, sym, ◌∙◌, rules, add-one, arith, drop-cons}
use Rattle.std.proofs.Math.Seq.{drop-length}
use Rattle.copying.specs.Copy.{copied}
use Rattle.slot.specs.declared.Slot.{Slot}
use Rattle.slot.specs.Slots.{closed_slot}
use Rattle.calls_program.specs.Responses.{occupancy_bytes, out_with_slots}
use Rattle.calls_program.proofs.response.put_slots.Goals as goal

one_more : (out : List ℕ) (slots : List Slot) (i : ℕ) → i < length slots
    → out_with_slots
    (copied out (4 + 10 * i) (occupancy_bytes (get_or slots i closed_slot).occupancy))
    (4 + 10 * (i + 1))
    (drop (i + 1) slots)
    ≡ out_with_slots out (4 + 10 * i) (drop i slots)
unfolding out_with_slots
one_more out slots i h =
    let e : 4 + 10 * (i + 1) ≡ 4 + 10 * i + 10 = omega arith in
    rw (e, add-one, drop-cons slots i closed_slot)

none_left : (out : List ℕ) (slots : List Slot) (i : ℕ) → i ≡ length slots → out_with_slots out (4 + 10 * i) (drop i slots) ≡ out
unfolding out_with_slots
none_left out slots i e = rw (e, drop-length)

pub loop-i-preserved : goal.loop-i-preserved
loop-i-preserved c =
    let l = c.loop-i in
    let slots = c.args.slots.now in
    rw (c.copy_in.ensures.target_after, c.slot_bytes.ensures) (one_more l.out slots l.i (search rules) ∙ l.invariant)

pub returns : goal.returns
returns c =
    let l = c.loop-i in
    let slots = c.args.slots.now in
    let all : l.i ≡ length slots = search rules in
    sym (none_left l.out slots l.i all) ∙ l.invariant
