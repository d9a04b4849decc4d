use Rattle.std.proofs.Common.{◌≡◌, ◌||◌, drop}
use Rattle.slot.specs.Sound.{any}
use Rattle.slot.specs.Codes.{is}
use Rattle.slot.proofs.repeated.Given as goal

abbrev pub invariant-loop-other : goal.invariant-loop-other
invariant-loop-other l = any (is l.code) l.codes ≡ (l.hit || any (is l.code) (drop l.other-index l.codes))
