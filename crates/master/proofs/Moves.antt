-- What each call gives that is not refused, for the claims; and the node of an exchange under way, for the code's proofs too.
use Prim.Native.Nat.{ℕ, ◌≤◌, ◌<◌}
use mathlib.Core.Path.{◌≡◌, sym, ap, ◌∙◌}
use mathlib.Core.Bool.{true, false, not}
use mathlib.Core.List.{List, [], ◌∷◌}
use lib.Dec.{leb}
use borrow.Author.Tests.{lt-ltb, le-leb, leb-true}
use Rattle.format.specs.declared.Refusal.TheVariants as refusal
use Rattle.format.specs.Refusals.{refused}
use Rattle.format.specs.Tests.{all_true}
use Rattle.format.proofs.Tests.{each}
use Rattle.format.proofs.Checks.{pass, none_left}
use Rattle.master.specs.declared.Kind.{Kind}
use Rattle.master.specs.declared.Exchange.{Exchange}
use Rattle.std.specs.Prelude.{Some}
use Rattle.master.specs.declared.Master.{Master}
use Rattle.master.specs.Masters.{plan_of, exchange_sound, sound}
use Rattle.master.specs.Exchanges.{MasterAfter, given, handed_back, done, under_way, sent, exchange_ended, starting, counts, replying, chosen_after, again, expired, timing_out}

abbrev pub refuses : Master → ℕ → MasterAfter
refuses master n = record { answer = refused n; master = master }

-- ---- a timeout of an exchange

module _ (chosen : List ℕ) (exchange : Exchange) where
  pub goes_on : exchange.sends < (plan_of exchange.kind).total
      → sent (chosen_after chosen exchange) (again exchange) ≡ expired chosen (Some exchange)
  unfolding expired
  goes_on h = rw (lt-ltb _ _ h)

-- ---- the calls

pub node_in_range : (master : Master) (exchange : Exchange) → sound master ≡ true → master.activity ≡ Some exchange → exchange.node ≤ 63
unfolding sound exchange_sound
node_in_range master exchange s e = leb-true _ _ (each _ (ap exchange_sound (sym e) ∙ (each _ s).1.0)).0

module _ (master : Master) (kind : Kind) (node : ℕ) where
  pub start-sends : sound master ≡ true → node ≤ 63 → under_way master.activity ≡ false
      → given (sent master.chosen (record { kind = kind; node = node; sends = 1 })) ≡ starting master kind node
  unfolding starting
  start-sends s r b =
      ap (handed_back master)
      (pass refusal.State _ _ s (pass refusal.Field _ _ (le-leb node 63 r) (pass refusal.Busy _ _ (ap not b) (none_left _))))

module _ (master : Master) (bus node function : ℕ) where
  pub reply-done : sound master ≡ true → all_true (leb bus 1 ∷ leb node 63 ∷ leb function 31 ∷ []) ≡ true
      → under_way master.activity ≡ true → counts master.chosen bus node function master.activity ≡ true
      → given (exchange_ended done master.chosen) ≡ replying master bus node function
  unfolding replying
  reply-done s r b n =
      ap (handed_back master)
      (pass refusal.State _ _ s (pass refusal.Field _ _ r (pass refusal.Idle _ _ b (pass refusal.NotAwaited _ _ n (none_left _)))))

pub timeout_expires : (master : Master) → sound master ≡ true → under_way master.activity ≡ true
    → given (expired master.chosen master.activity) ≡ timing_out master
unfolding timing_out
timeout_expires master s b = ap (handed_back master) (pass refusal.State _ _ s (pass refusal.Idle _ _ b (none_left _)))
