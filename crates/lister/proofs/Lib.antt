mod Answers
mod Hearing
mod Placing
mod Rounds
mod Calling
mod Soundness
mod InParts
mod Examples
