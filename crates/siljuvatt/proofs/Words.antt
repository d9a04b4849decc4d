-- Each answer can be read back from its word, so two answers of one word are the same (OneWord).
use Prim.Native.Nat.{ℕ, ◌*◌, ◌/◌, ◌%◌}
use mathlib.Core.Path.{◌≡◌, sym, ap, ◌∙◌}
use mathlib.Core.Bool.{true, false, cond}
use native.Mathlib.Omega.{arith}
use mathlib.Core.Logic.{◌≢◌}
use borrow.Author.Tests.{ne_eqb}
use lib.Dec.{eqb}
use Rattle.format.specs.Refusals.{Result, value, refused}
use Rattle.stream.specs.Answers.{Reply, packet, kept, filtered}
use Rattle.master.specs.Exchanges.{Told, send, done, gave_up}
use Rattle.siljuvatt.specs.Answers.{outcome_word, reply_word, told_word, reset_word}
use Rattle.siljuvatt.specs.Claims.{Within, UpTo, LengthUpTo, BusUpTo}

-- the parts of a word: the byte from 2^24 up, which is 1 for "broke" and 128 for a refusal, the kind, and the number
abbrev Parts : (w top kind number : ℕ) → Type 0
Parts w top kind number = (w / 16777216 ≡ top) × ((w / 65536 % 256 ≡ kind) × (w % 65536 ≡ number))

-- `said` gives an answer by the parts of its word
module _ {A : Type 0} (word : Result A → ℕ) (said : (top kind number : ℕ) → Result A) where
  pub back : Result A → Result A
  back a = said (word a / 16777216) (word a / 65536 % 256) (word a % 65536)

  by_parts : (a : Result A) (t k n : ℕ) → Parts (word a) t k n → back a ≡ said t k n
  unfolding back
  by_parts a t k n p = rw (p.0, p.1.0, p.1.1)

  pub same : (a b : Result A) → back a ≡ a → back b ≡ b → word a ≡ word b → a ≡ b
  unfolding back
  same a b p q e = sym p ∙ ap (λ (w : ℕ). said (w / 16777216) (w / 65536 % 256) (w % 65536)) e ∙ q

pub outcome : (top kind number : ℕ) → Result ℕ
outcome t k n = cond (eqb t 128) (refused n) (value n)

pub outcome_back : (a : Result ℕ) → UpTo 65535 a → back outcome_word outcome a ≡ a
unfolding outcome
outcome_back (value n) h = by_parts outcome_word outcome (value n) 0 0 n (omega arith)
outcome_back (refused n) h = by_parts outcome_word outcome (refused n) 128 0 n (omega arith)

pub reply : (top kind number : ℕ) → Result Reply
reply t k n =
    cond (eqb t 128) (refused n)
    (cond (eqb k 4) (value (packet n (eqb t 1))) (cond (eqb k 5) (value (kept (eqb t 1))) (value filtered)))

pub reply_back : (a : Result Reply) → Within (LengthUpTo 65535) a → back reply_word reply a ≡ a
unfolding reply
reply_back (value (packet n true)) h = by_parts reply_word reply (value (packet n true)) 1 4 n (omega arith)
reply_back (value (packet n false)) h = by_parts reply_word reply (value (packet n false)) 0 4 n (omega arith)
reply_back (value (kept true)) h = by_parts reply_word reply (value (kept true)) 1 5 0 (omega arith)
reply_back (value (kept false)) h = by_parts reply_word reply (value (kept false)) 0 5 0 (omega arith)
reply_back (value filtered) h = by_parts reply_word reply (value filtered) 0 6 0 (omega arith)
reply_back (refused n) h = by_parts reply_word reply (refused n) 128 0 n (omega arith)

pub told : (top kind number : ℕ) → Result Told
told t k n = cond (eqb t 128) (refused n) (cond (eqb k 7) (value (send n)) (cond (eqb k 8) (value done) (value gave_up)))

pub told_back : (a : Result Told) → Within (BusUpTo 65535) a → back told_word told a ≡ a
unfolding told
told_back (value (send n)) h = by_parts told_word told (value (send n)) 0 7 n (omega arith)
told_back (value done) h = by_parts told_word told (value done) 0 8 0 (omega arith)
told_back (value gave_up) h = by_parts told_word told (value gave_up) 0 9 0 (omega arith)
told_back (refused n) h = by_parts told_word told (refused n) 128 0 n (omega arith)

pub reset : (top kind number : ℕ) → Result ℕ
reset t k n = cond (eqb t 128) (refused n) (value (t / 2))

pub reset_back : (a : Result ℕ) → UpTo 3 a → back reset_word reset a ≡ a
unfolding reset
reset_back (value n) h =
    let small : n * 2 ≢ 128 = λ e. omega arith in
    let half : n * 2 / 2 ≡ n = omega arith in
    by_parts reset_word reset (value n) (n * 2) 0 0 (omega arith) ∙ rw (ne_eqb (n * 2) 128 small, half)
reset_back (refused n) h = by_parts reset_word reset (refused n) 128 0 n (omega arith)
