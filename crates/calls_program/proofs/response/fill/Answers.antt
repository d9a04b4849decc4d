-- One byte more (Steps).
use Rattle.std.proofs.Common.{◌≡◌, suc, ◌+◌, ◌-◌, length, rules, arith}
use Rattle.calls_program.specs.Responses.{filled_bytes}
use Rattle.calls_program.proofs.Steps.{byte_more}
use Rattle.calls_program.proofs.response.fill.Goals as goal

pub loop-byte-preserved : goal.loop-byte-preserved
unfolding filled_bytes
loop-byte-preserved c =
    let l = c.loop-byte in
    let n = length c.args.bytes.now in
    let m : n - l.byte-index ≡ suc (n - (l.byte-index + 1)) = omega arith in
    byte_more l.bytes _ l.byte-index _ _ (search rules) (rw m at l.invariant)
