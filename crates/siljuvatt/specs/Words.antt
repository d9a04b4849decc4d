-- The word of what a call answers (Answers), by the type of what it answers where it does not refuse.
use Rattle.std.specs.Prelude.{ℕ, ◌≡◌, refl, Err}
use Rattle.format.specs.declared.Refusal.{Refusal}
use Rattle.format.specs.Refusals.{Returned, number}
use Rattle.format.specs.Refusals as outcomes
use Rattle.stream.specs.declared.Answer.{Answer}
use Rattle.stream.specs.Answers as replies
use Rattle.master.specs.declared.Answer as masters
use Rattle.master.specs.Exchanges as exchanges
use Rattle.siljuvatt.specs.Answers.{refused_word, outcome_word, reply_word, told_word}

-- a refusal has one word, whatever is refused
pub record WordLaws {A : Type 0} (said : Returned A → ℕ) : Type 0 where
  pub refused : (name : Refusal) → said (Err name) ≡ refused_word (number name)

abbrev pub number_said : Returned ℕ → ℕ
number_said answer = outcome_word (outcomes.meaning answer)

pub number_laws : WordLaws number_said
number_laws = record { refused = λ name. refl }

abbrev pub reply_said : Returned Answer → ℕ
reply_said answer = reply_word (replies.meaning answer)

pub reply_laws : WordLaws reply_said
reply_laws = record { refused = λ name. refl }

abbrev pub told_said : Returned masters.Answer → ℕ
told_said answer = told_word (exchanges.meaning answer)

pub told_laws : WordLaws told_said
told_laws = record { refused = λ name. refl }
