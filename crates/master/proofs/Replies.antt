-- Which reply is "done", what each kind is sent with, and what changes a chosen bus.
use Prim.Native.Nat.{ℕ, zero, suc, ◌+◌, ◌≤◌, ◌<◌}
use mathlib.Core.Path.{◌≡◌, refl, sym, ap, ◌∙◌}
use mathlib.Core.Logic.{◌≢◌}
use mathlib.Core.Bool.{Bool, true, false, cond}
use mathlib.Core.List.{List, [], ◌∷◌}
use native.Mathlib.Omega.{arith}
use lib.Dec.{ltb, eqb}
use lib.ListN.{length, replicate}
use lib.Seq.{get_or-set_other}
use borrow.Author.Tests.{eqb-true, eq-eqb}
use Rattle.format.specs.Refusals.{value}
use Rattle.format.proofs.Tests.{each, from_each, tests}
use Rattle.master.specs.declared.Kind.{Kind}
use Rattle.master.specs.declared.Kind.TheVariants.{Poll, DataBlock, Command}
use Rattle.master.specs.declared.Exchange.{Exchange}
use Rattle.std.specs.Prelude.{Option, Some}
use Rattle.master.specs.declared.Master.{Master}
use Rattle.master.specs.Masters.{plan_of, chosen_bus, switched, chosen_sound, sound}
use Rattle.master.specs.Exchanges.{done, gave_up, Step, MasterAfter, given, under_way, sent, exchange_ended, starting, counts, replying, chosen_after, again, expired, timing_out}
use Rattle.master.specs.Runs.{Call, start, timeout, call, run}
use Rattle.master.specs.Claims.{buses, awaits, Answered, Functions, BusesKept, StaysSound, LatestSend}
use Rattle.master.proofs.Buses.{bus_at}
use Rattle.master.proofs.Moves.{node_in_range, goes_on, start-sends, reply-done, timeout_expires}
use Rattle.master.proofs.Claims.{either, stays_sound, latest_send}

-- ---- an exchange under way, seen from a reply

awaited_small : (kind : Kind) → (plan_of kind).awaited ≤ 31
awaited_small Poll = omega arith
awaited_small DataBlock = omega arith
awaited_small Command = omega arith

module _ (m : Master) (x : Exchange) (s : sound m ≡ true) (e : m.activity ≡ Some x) where
  abbrev on_it : ℕ
  on_it = chosen_bus m.chosen x.node

  bus_small : on_it ≤ 1
  unfolding sound chosen_sound chosen_bus
  bus_small = bus_at m.chosen x.node (each _ (each _ s).0).1.0

  it_counts : counts m.chosen on_it x.node (plan_of x.kind).awaited (Some x) ≡ true
  unfolding counts
  it_counts = from_each _ (eq-eqb x.node _ refl, (eq-eqb (plan_of x.kind).awaited _ refl, (eq-eqb on_it _ refl, tt)))

  is_done_lem : replying m on_it x.node (plan_of x.kind).awaited ≡ given (exchange_ended done m.chosen)
  is_done_lem =
      let b : on_it ≤ 1 = bus_small in
      let n : x.node ≤ 63 = node_in_range m x s e in
      let f : (plan_of x.kind).awaited ≤ 31 = awaited_small x.kind in
      sym
      (reply-done m on_it x.node (plan_of x.kind).awaited s
      (from_each _ (omega tests, (omega tests, (omega tests, tt))))
      (ap under_way e)
      (ap (counts m.chosen on_it x.node (plan_of x.kind).awaited) e ∙ it_counts))

  no_other : (b n f : ℕ) → counts m.chosen b n f (Some x) ≡ true → (b ≡ on_it) × (n ≡ x.node) × (f ≡ (plan_of x.kind).awaited)
  unfolding counts
  no_other b n f c = let t = each _ c in (eqb-true _ _ t.1.1.0, eqb-true _ _ t.0, eqb-true _ _ t.1.0)

  only_it : (b n f : ℕ) → (replying m b n f).answer ≡ value done → (b ≡ on_it) × (n ≡ x.node) × (f ≡ (plan_of x.kind).awaited)
  unfolding replying
  only_it b n f =
      either m (λ (h : MasterAfter). h.answer ≡ value done → (b ≡ on_it) × (n ≡ x.node) × (f ≡ (plan_of x.kind).awaited)) _
      (λ r d. cc) _
      (λ p d. no_other b n f (ap (counts m.chosen b n f) (sym e) ∙ p.1.1.1.0))

-- ---- started, and sent again after each timeout

run_sound : (m : Master) (calls : List Call) → sound m ≡ true → sound (run m calls) ≡ true
unfolding StaysSound
run_sound m [] s = s
run_sound m (c ∷ calls) s = run_sound (call m c).master calls (stays_sound m c s)

abbrev of : Kind → (node sends : ℕ) → Exchange
of kind node sends = record { kind = kind; node = node; sends = sends }

sent_again : (m : Master) (x : Exchange) → sound m ≡ true → m.activity ≡ Some x → x.sends < (plan_of x.kind).total
    → timing_out m ≡ given (sent (chosen_after m.chosen x) (again x))
sent_again m x s e l =
    sym (timeout_expires m s (ap under_way e))
    ∙ ap (λ (a : Option Exchange). given (expired m.chosen a)) e
    ∙ ap given (sym (goes_on m.chosen x l))

still_on : (m : Master) (kind : Kind) (node sends k : ℕ) → sound m ≡ true → m.activity ≡ Some (of kind node sends)
    → sends + k ≤ (plan_of kind).total
    → (run m (replicate k timeout)).activity ≡ Some (of kind node (sends + k))
still_on m kind node sends zero s e l = e ∙ ap (λ (n : ℕ). Some (of kind node n)) (omega arith)
still_on m kind node sends (suc k) s e l =
    let next = sent_again m (of kind node sends) s e (omega arith) in
    let under-way = ap (λ (h : MasterAfter). h.master.activity) next in
    still_on (timing_out m).master kind node (sends + 1) k (run_sound m (timeout ∷ []) s) under-way (omega arith)
    ∙ ap (λ (n : ℕ). Some (of kind node n)) (omega arith)

sends_of : (kind : Kind) (bus : ℕ) → length (buses kind bus) ≡ (plan_of kind).total
sends_of Poll bus = refl
sends_of DataBlock bus = refl
sends_of Command bus = refl

awaited_of : (kind : Kind) → (plan_of kind).awaited ≡ awaits kind
awaited_of Poll = refl
awaited_of DataBlock = refl
awaited_of Command = refl

pub answered : Answered
unfolding Answered LatestSend
answered master kind node timeouts none s i n l =
    let calls = start kind node ∷ replicate timeouts timeout in
    let waiting = run master calls in
    let first = sym (start-sends master kind node s n (ap under_way i)) in
    let under-way = ap (λ (h : MasterAfter). h.master.activity) first in
    let few = sends_of kind (chosen_bus master.chosen node) in
    let e =
    still_on (starting master kind node).master kind node 1 timeouts (run_sound master (start kind node ∷ []) s) under-way (omega arith) in
    let bus = latest_send master calls none (of kind node (1 + timeouts)) i e in
    let ok = run_sound master calls s in
    rw (← awaited_of kind, ← bus) (is_done_lem waiting (of kind node (1 + timeouts)) ok e, only_it waiting (of kind node (1 + timeouts)) ok e)

pub functions : Functions
unfolding Functions
functions = ((refl, refl), (refl, refl), (refl, refl))

-- ---- what changes a chosen bus

switched_other : (chosen : List ℕ) (node other : ℕ) → other ≢ node → chosen_bus (switched chosen node) other ≡ chosen_bus chosen other
unfolding switched chosen_bus
switched_other chosen node other d = get_or-set_other chosen node other _ 0 d

after_other : (chosen : List ℕ) (x : Exchange) (other : ℕ) → other ≢ x.node
    → chosen_bus (chosen_after chosen x) other ≡ chosen_bus chosen other
unfolding chosen_after
after_other chosen x other d = go (eqb x.sends (plan_of x.kind).first)
  where
    go : (b : Bool) → chosen_bus (cond b (switched chosen x.node) chosen) other ≡ chosen_bus chosen other
    go true = switched_other chosen x.node other d
    go false = refl

expired_other : (chosen : List ℕ) (x : Exchange) (other : ℕ) → other ≢ x.node
    → chosen_bus (expired chosen (Some x)).next.chosen other ≡ chosen_bus chosen other
unfolding expired
expired_other chosen x other d = go (ltb x.sends (plan_of x.kind).total)
  where
    next : Bool → Step
    next b = cond b (sent (chosen_after chosen x) (again x)) (exchange_ended gave_up (chosen_after chosen x))

    go : (b : Bool) → chosen_bus (next b).next.chosen other ≡ chosen_bus chosen other
    go true = after_other chosen x other d
    go false = after_other chosen x other d

abbrev Same : Master → MasterAfter → Type 0
Same master h = h.master.chosen ≡ master.chosen

pub buses_kept : BusesKept
unfolding starting replying timing_out
buses_kept =
    record {
      starts = λ master kind node. either master (Same master) _ (λ n. refl) _ (λ p. refl);
      replies = λ master bus node function. either master (Same master) _ (λ n. refl) _ (λ p. refl);
      times_out = λ master exchange node e d.
          either master (λ (h : MasterAfter). chosen_bus h.master.chosen node ≡ chosen_bus master.chosen node) _ (λ n. refl) _
          (λ p. rw e (expired_other master.chosen exchange node d));
    }
