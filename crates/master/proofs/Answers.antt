-- Each answer has a meaning of its own.
use Rattle.std.proofs.Common.{◌≡◌, refl}
use Rattle.format.specs.Refusals.{value}
use Rattle.format.proofs.Numbers.{one_of}
use Rattle.std.specs.Prelude.{Ok}
use Rattle.master.specs.declared.Answer.{Answer}
use Rattle.master.specs.declared.Answer.TheVariants.{Send, Done, GaveUp}
use Rattle.master.specs.Exchanges.{Told, send, done, gave_up, meaning}
use Rattle.master.specs.Claims.{OneAnswer}

-- the answer that says this
said : Told → Answer
said (send bus) = Send bus
said done = Done
said gave_up = GaveUp

told : (answer : Answer) → (says : Told) × ((meaning (Ok answer) ≡ value says) × (said says ≡ answer))
unfolding said
told (Send bus) = (send bus, (refl, refl))
told Done = (done, (refl, refl))
told GaveUp = (gave_up, (refl, refl))

pub one_answer : OneAnswer
unfolding OneAnswer
one_answer = one_of meaning said told (λ name. refl)
