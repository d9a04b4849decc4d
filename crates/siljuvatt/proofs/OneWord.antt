-- Two answers of one word are the same: each can be read back from it (Words).
use Rattle.siljuvatt.specs.Answers.{outcome_word, reply_word, told_word, reset_word}
use Rattle.siljuvatt.specs.Claims.{OneWord}
use Rattle.siljuvatt.proofs.Words.{same, outcome, outcome_back, reply, reply_back, told, told_back, reset, reset_back}

pub one_word : OneWord
one_word =
    record {
      outcomes = λ a b ha hb. same outcome_word outcome a b (outcome_back a ha) (outcome_back b hb);
      replies = λ a b ha hb. same reply_word reply a b (reply_back a ha) (reply_back b hb);
      told = λ a b ha hb. same told_word told a b (told_back a ha) (told_back b hb);
      resets = λ a b ha hb. same reset_word reset a b (reset_back a ha) (reset_back b hb);
    }
