use Rattle.std.proofs.Common.{◌≡◌, drop}
use Rattle.std.proofs.Math.Seq.{paste}
use Rattle.slot.specs.Sound.{slots_sound}
use Rattle.slot.specs.Codes.{codes_from}
use Rattle.slot.proofs.sound_codes.Given as goal

abbrev pub invariant-loop-i : goal.invariant-loop-i
invariant-loop-i l =
    (slots_sound l.format l.slot-items ≡ slots_sound l.format (drop l.i l.slot-items))
    × (l.codes ≡ paste l.initial.codes 0 (codes_from l.slot-items 0) l.i)
