-- A refusal's number and an answer's meaning leave no doubt which refusal or answer it is; proofs/Numbers.antt has the proofs.
-- So a contract that is an equation with `meaning r` determines r.
use Rattle.std.specs.Prelude.{ℕ, ◌≡◌}
use Rattle.format.specs.declared.Refusal.{Refusal}
use Rattle.format.specs.Refusals.{Returned}
use Rattle.format.specs.Refusals.{number, meaning}

unfoldable pub OneNumber : Type 0
OneNumber = (a b : Refusal) → number a ≡ number b → a ≡ b

unfoldable pub OneMeaning : Type 0
OneMeaning = (a b : Returned ℕ) → meaning a ≡ meaning b → a ≡ b
