-- One byte more (Steps).
use Rattle.std.proofs.Common.{◌≡◌, suc, ◌+◌, ◌-◌, length, ◌∙◌, rules, arith}
use Rattle.calls_program.specs.Images.{accepted_bytes}
use Rattle.calls_program.proofs.Steps.{as_flag, byte_more, all_bytes}
use Rattle.calls_program.proofs.images.accepted.Goals as goal

pub loop-byte-preserved : goal.loop-byte-preserved
unfolding accepted_bytes
loop-byte-preserved g c = λ test is.
    let l = c.loop-byte in
    let n = length c.args.bytes.now in
    let m : n - l.byte-index ≡ suc (n - (l.byte-index + 1)) = omega arith in
    rw (c.from.ensures ∙ as_flag c.accepts.result, is l.id c.accepts.result (search rules) c.accepts.ensures)
    (byte_more l.bytes _ l.byte-index _ _ (search rules) (rw m at (l.invariant test is)))

pub returns : goal.returns
unfolding accepted_bytes
returns g c = λ test is.
    let l = c.loop-byte in
    let n = length c.args.bytes.now in
    let none : n - l.byte-index ≡ 0 = omega arith in
    all_bytes l.bytes _ l.byte-index (search rules) (rw none at (l.invariant test is))
