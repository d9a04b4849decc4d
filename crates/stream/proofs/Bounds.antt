-- The table of bounds, computed.
use Prim.Native.Nat.{ℕ}
use mathlib.Core.Path.{◌≡◌, refl}
use mathlib.Core.Bool.{Bool, true, false, ◌&&◌}
use mathlib.Core.List.{[]}
use native.Mathlib.Omega.{arith}
use lib.Dec.{eqb}
use lib.ListN.{replicate}
use borrow.Author.Tests.{eqb-true}
use Rattle.copying.specs.Copy.{written}
use Rattle.format.specs.declared.Format.TheVariants.{Extended}
use Rattle.format.specs.declared.Flag.TheVariants.{Single}
use Rattle.format.specs.Tests.{all_after, all_true}
use Rattle.format.specs.Refusals.{guarded}
use Rattle.format.proofs.Tables.{and_true, by_test, same_bool, same_bool_lem, same_numbers, same_numbers_lem, same_result, same_result_lem}
use Rattle.stream.specs.declared.Progress.{Progress}
use Rattle.stream.specs.declared.Progress.TheVariants.{Idle, Collecting, Done}
use Rattle.stream.specs.Answers.{Reply, packet, kept, filtered}
use Rattle.stream.specs.Step.{follows, progress_after, followed, stepped, offered}
use Rattle.stream.specs.Bounds.{Bound, steps, writes, offers, table, step_of, Holds, StepBounds}

abbrev pub same_reply : Reply → Reply → Bool
same_reply (packet m a) (packet n b) = eqb m n && same_bool a b
same_reply (kept a) (kept b) = same_bool a b
same_reply filtered filtered = true
same_reply (packet m a) (kept b) = false
same_reply (packet m a) filtered = false
same_reply (kept a) (packet n b) = false
same_reply (kept a) filtered = false
same_reply filtered (packet n b) = false
same_reply filtered (kept b) = false

pub same_reply_lem : (a b : Reply) → same_reply a b ≡ true → a ≡ b
same_reply_lem (packet m a) (packet n b) e =
    let h = and_true (eqb m n) (same_bool a b) e in
    let p : m ≡ n = eqb-true m n h.0 in
    let q : a ≡ b = same_bool_lem a b h.1 in
    cc
same_reply_lem (kept a) (kept b) e = let q : a ≡ b = same_bool_lem a b e in cc
same_reply_lem filtered filtered e = refl
same_reply_lem (packet m a) (kept b) e = let z : ◌≡◌ {A = ℕ} 0 1 = cc in absurd (omega arith)
same_reply_lem (packet m a) filtered e = let z : ◌≡◌ {A = ℕ} 0 1 = cc in absurd (omega arith)
same_reply_lem (kept a) (packet n b) e = let z : ◌≡◌ {A = ℕ} 0 1 = cc in absurd (omega arith)
same_reply_lem (kept a) filtered e = let z : ◌≡◌ {A = ℕ} 0 1 = cc in absurd (omega arith)
same_reply_lem filtered (packet n b) e = let z : ◌≡◌ {A = ℕ} 0 1 = cc in absurd (omega arith)
same_reply_lem filtered (kept b) e = let z : ◌≡◌ {A = ℕ} 0 1 = cc in absurd (omega arith)

abbrev same_progress : Progress → Progress → Bool
same_progress Idle Idle = true
same_progress (Collecting h) (Collecting k) = eqb h k
same_progress (Done h) (Done k) = eqb h k
same_progress Idle (Collecting k) = false
same_progress Idle (Done k) = false
same_progress (Collecting h) Idle = false
same_progress (Collecting h) (Done k) = false
same_progress (Done h) Idle = false
same_progress (Done h) (Collecting k) = false

same_progress_lem : (a b : Progress) → same_progress a b ≡ true → a ≡ b
same_progress_lem Idle Idle e = refl
same_progress_lem (Collecting h) (Collecting k) e = let p : h ≡ k = eqb-true h k e in cc
same_progress_lem (Done h) (Done k) e = let p : h ≡ k = eqb-true h k e in cc
same_progress_lem Idle (Collecting k) e = let z : ◌≡◌ {A = ℕ} 0 1 = cc in absurd (omega arith)
same_progress_lem Idle (Done k) e = let z : ◌≡◌ {A = ℕ} 0 1 = cc in absurd (omega arith)
same_progress_lem (Collecting h) Idle e = let z : ◌≡◌ {A = ℕ} 0 1 = cc in absurd (omega arith)
same_progress_lem (Collecting h) (Done k) e = let z : ◌≡◌ {A = ℕ} 0 1 = cc in absurd (omega arith)
same_progress_lem (Done h) Idle e = let z : ◌≡◌ {A = ℕ} 0 1 = cc in absurd (omega arith)
same_progress_lem (Done h) (Collecting k) e = let z : ◌≡◌ {A = ℕ} 0 1 = cc in absurd (omega arith)

abbrev test : Bound → Bool
test (steps format progress flag n size said next) =
    same_result same_reply (step_of format [] progress flag n (replicate size 7)).answer said
    && same_progress (step_of format [] progress flag n (replicate size 7)).progress next
test (writes format area progress flag n bytes last) = same_numbers (step_of format area progress flag n bytes).area last
test (offers area size said) =
    same_result same_reply (offered Extended Idle (replicate area 0) Single 0 (replicate size 7)).answer said

says : (bound : Bound) → test bound ≡ true → Holds bound
says (steps format progress flag n size said next) e =
    let h = and_true _ _ e in (same_result_lem same_reply same_reply_lem _ _ h.0, same_progress_lem _ _ h.1)
says (writes format area progress flag n bytes last) e = same_numbers_lem _ _ e
says (offers area size said) e = same_result_lem same_reply same_reply_lem _ _ e

pub step_bounds : StepBounds
unfolding StepBounds all_after all_true guarded written follows progress_after followed stepped offered
step_bounds = by_test Holds test says table refl
