-- `stream::hold`: the copy ends within the area, so it is whole.
use Rattle.std.proofs.Common.{◌≤◌, ◌+◌, length, ◌∙◌, arith}
use Rattle.copying.proofs.Copying.{all_copied}
use Rattle.stream.proofs.hold.Goals as goal

pub returns-clause-area_after : goal.returns-clause-area_after
returns-clause-area_after c =
    let a = c.args in
    let h : a.at + length a.bytes.now ≤ length a.area.now = omega arith in
    c.copy_in.ensures.target_after ∙ all_copied a.area.now a.at a.bytes.now h
