-- Document 01, "Streams and receiving", the paragraph before the last: "The one-stream receiver has one format, a state (idle, collecting
-- with h or done with h) and 2,048 bytes. [..] and is fed the stream's frames one by one. At each it does what the rules above say for a
-- frame of its key [..]. It knows no other stream": neither keys nor slots nor stations are known here.
use Rattle.std.specs.Prelude.{ℕ, List, [], ◌∷◌}
use Rattle.format.specs.declared.Format.{Format}
use Rattle.format.specs.Refusals.{Result}
use Rattle.frame.specs.Judge.{Frame}
use Rattle.stream.specs.declared.Progress.{Progress}
use Rattle.stream.specs.Answers.{Reply}
use Rattle.stream.specs.Step.{Next, step}

-- its answers, its state in the end, and its bytes
pub record Alone : Type 0 where
  pub answers : List (Result Reply)
  pub progress : Progress
  pub area : List ℕ

unfoldable pub one_stream : Format → Progress → List ℕ → List Frame → Alone
one_stream format progress area [] = record { answers = []; progress = progress; area = area }
one_stream format progress area (frame ∷ frames) =
    let next : Next = step format progress area frame in
    let rest : Alone = one_stream format next.progress next.area frames in
    record { answers = next.answer ∷ rest.answers; progress = rest.progress; area = rest.area }
