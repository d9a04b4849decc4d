use Rattle.std.proofs.Common.{◌≡◌, ℕ, List, refl, sym, ap, ◌∙◌, arith}
use Rattle.std.proofs.Math.Nat.{add-sub_cancel_left}
use Rattle.format.specs.Refusals.{Result, value, refused, meaning}
use Rattle.station.specs.Read.{part_of, place_of, length_of}
use Rattle.station.proofs.Handing.{has_length}
use Rattle.station.proofs.Station.read.Goals as goal

no_place : (n at i : ℕ) (r : Result (List ℕ)) → refused n ≡ length_of r → at ≡ place_of r at i
no_place n at i (value bytes) e = let z : ◌≡◌ {A = ℕ} 0 1 = cc in absurd (omega arith)
no_place n at i (refused m) e = refl

-- the length that was answered is that of a packet within its area
pub overflow_mul-from : goal.overflow_mul-from
overflow_mul-from c =
    let packet = has_length c.args.self c.args.store.now c.args.i _ (ap meaning (sym c.in-Ok.is) ∙ c.read_length.ensures) in
    omega (arith, packet.below)

pub overflow_add-result : goal.overflow_add-result
overflow_add-result c =
    let packet = has_length c.args.self c.args.store.now c.args.i _ (ap meaning (sym c.in-Ok.is) ∙ c.read_length.ensures) in
    omega (arith, packet.below, packet.small)

pub slice_bounds-result-end-in-Ok : goal.slice_bounds-result-end-in-Ok
slice_bounds-result-end-in-Ok c =
    let packet = has_length c.args.self c.args.store.now c.args.i _ (ap meaning (sym c.in-Ok.is) ∙ c.read_length.ensures) in
    omega (arith, packet.below, packet.small, packet.whole)

pub returns-in-Ok-clause-result_value : goal.returns-in-Ok-clause-result_value
returns-in-Ok-clause-result_value c =
    let packet = has_length c.args.self c.args.store.now c.args.i _ (ap meaning (sym c.in-Ok.is) ∙ c.read_length.ensures) in
    rw add-sub_cancel_left (ap part_of packet.part)
