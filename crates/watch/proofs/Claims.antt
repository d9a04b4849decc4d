-- What elapsed, a clock behind, the examples; what a refusal and a check without a reset leave, and the last times after calls.
use Rattle.std.proofs.Common.{◌≡◌, ℕ, zero, suc, ◌-◌, ◌^◌, cond, leb, [], ◌∷◌, refl, ap, ◌∙◌, arith, le-leb}
use borrow.Author.Tests.{lt-leb}
use Rattle.format.specs.Refusals.{Result, value, refused, guarded}
use Rattle.watch.specs.declared.Watch.{Watch}
use Rattle.watch.specs.Watching.{after_hearing, hearing, since, silent, checking}
use Rattle.watch.specs.Runs.{Call, hear, check, Said, call, answers, time_of, sets_a, sets_b, latest_time}
use Rattle.watch.specs.Claims.{RefusedKeeps, NoResetKeeps, LastTimes, SinceElapsed, ClockBehind, Examples}

pub since_elapsed : SinceElapsed
unfolding SinceElapsed since
since_elapsed last elapsed hl he = omega arith

pub clock_behind : ClockBehind
unfolding ClockBehind SinceElapsed silent
clock_behind last behind hl one most =
    ap (leb 16000) (since_elapsed last (2 ^ 32 - behind) hl (omega arith)) ∙ le-leb 16000 (2 ^ 32 - behind) (omega arith)

-- ---- what a call leaves, and what it sets

pub refused_keeps : RefusedKeeps
unfolding RefusedKeeps hearing
refused_keeps watch bus time n = go (guarded _ bus)
  where
    go : (r : Result ℕ) → (after_hearing watch time r).answer ≡ refused n → (after_hearing watch time r).watch ≡ watch
    go (value heard) e = let z : ◌≡◌ {A = ℕ} 0 1 = cc in absurd (omega arith)
    go (refused m) e = refl

pub no_reset_keeps : NoResetKeeps
unfolding NoResetKeeps checking
no_reset_keeps watch time a b = rw (a, b)

-- the watch with the times that an answer says the call set
abbrev pub set : Watch → Call → Said → Watch
set watch c said = record { a = cond (sets_a said) (time_of c) watch.a; b = cond (sets_b said) (time_of c) watch.b }

pub one_call : (watch : Watch) (c : Call) → (call watch c).watch ≡ set watch c (call watch c).answer
unfolding hearing guarded checking
one_call watch (hear zero time) = refl
one_call watch (hear (suc zero) time) = refl
one_call watch (hear (suc (suc bus)) time) = rw (lt-leb (suc (suc bus)) 1 (omega arith))
one_call watch (check time) = refl

pub last_times : LastTimes
unfolding LastTimes
last_times watch [] = refl
last_times watch (c ∷ calls) =
    let next = (call watch c).watch in
    let said = answers next calls in
    last_times next calls
    ∙ ap (λ (w : Watch). record { a = latest_time sets_a w.a calls said; b = latest_time sets_b w.b calls said }) (one_call watch c)

-- ---- the examples

pub examples : Examples
unfolding SinceElapsed hearing guarded silent since checking
examples =
    record {
      unheard_15999 = λ last hl. ap (leb 16000) (since_elapsed last 15999 hl (omega arith));
      unheard_16000 = λ last hl. ap (leb 16000) (since_elapsed last 16000 hl (omega arith));
      silences = (refl, refl, refl, refl, refl);
      heard = (refl, refl, refl);
      checked = (refl, refl, refl);
    }
