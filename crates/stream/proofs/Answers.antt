-- Each answer has a meaning of its own.
use Rattle.std.proofs.Common.{◌≡◌, refl}
use Rattle.format.specs.Refusals.{value}
use Rattle.format.proofs.Numbers.{one_of}
use Rattle.stream.specs.declared.Answer.{Answer}
use Rattle.stream.specs.declared.Answer.TheVariants.{Packet, Kept, Filtered}
use Rattle.std.specs.Prelude.{Ok}
use Rattle.stream.specs.Answers.{Reply, packet, kept, filtered, meaning}
use Rattle.stream.specs.Claims.{OneAnswer}

back : Reply → Answer
back (packet length broke) = Packet length broke
back (kept broke) = Kept broke
back filtered = Filtered

told : (a : Answer) → (r : Reply) × ((meaning (Ok a) ≡ value r) × (back r ≡ a))
unfolding back
told (Packet length broke) = (packet length broke, (refl, refl))
told (Kept broke) = (kept broke, (refl, refl))
told Filtered = (filtered, (refl, refl))

pub one_answer : OneAnswer
unfolding OneAnswer
one_answer = one_of meaning back told (λ name. refl)
