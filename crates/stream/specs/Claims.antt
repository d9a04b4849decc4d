-- What is proved of answers; proofs/Answers.antt has the proof.
use Rattle.std.specs.Prelude.{◌≡◌}
use Rattle.format.specs.Refusals.{Returned}
use Rattle.stream.specs.declared.Answer.{Answer}
use Rattle.stream.specs.Answers.{meaning}

-- an answer's meaning leaves no doubt which answer it is, so a contract that is an equation with `meaning` determines the answer
unfoldable pub OneAnswer : Type 0
OneAnswer = (a b : Returned Answer) → meaning a ≡ meaning b → a ≡ b
