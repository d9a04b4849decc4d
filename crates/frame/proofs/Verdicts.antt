-- Each answer of judging has a meaning of its own.
use mathlib.Core.Path.{refl}
use Rattle.format.proofs.Numbers.{one_of}
use Rattle.frame.specs.declared.Head.{Head}
use Rattle.frame.specs.Judge.{Judged, read_as, meaning}
use Rattle.frame.specs.Claims.{OneVerdict}

abbrev head_of : Judged → Head
head_of j = record { fields = j.frame.fields; flag = j.frame.flag; number = j.frame.number; start = j.start }

pub one_verdict : OneVerdict
unfolding OneVerdict
one_verdict a b image =
    one_of (λ r. meaning r image) head_of (λ a. (read_as a.fields a.flag a.number a.start image, (refl, refl))) (λ name. refl) a b
