-- Masters stay sound, refused calls change nothing, unanswered exchanges, and the bus of the latest send.
use Prim.Native.Nat.{ℕ, ◌≤◌, ◌<◌}
use mathlib.Core.Path.{◌≡◌, refl, sym, ap, ◌∙◌}
use mathlib.Core.Logic.{◌≢◌}
use mathlib.Core.Bool.{Bool, true, false, cond}
use mathlib.Core.List.{List, [], ◌∷◌}
use native.Mathlib.Omega.{arith}
use lib.Dec.{ltb, eqb}
use lib.ListN.{length, length-set}
use lib.Seq.{get_or-set_same}
use borrow.Author.Tests.{leb-true, eqb-true, ltb-true, eq-eqb}
use Rattle.format.specs.Refusals.{Result, value, refused, Check, check, guarded, number}
use Rattle.format.specs.Tests.{all_true}
use Rattle.format.proofs.Tests.{each, from_each, tests}
use Rattle.format.proofs.Checks.{Passed}
use Rattle.master.specs.declared.Kind.{Kind}
use Rattle.master.specs.declared.Kind.TheVariants.{Poll, DataBlock, Command}
use Rattle.master.specs.declared.Exchange.{Exchange}
use Rattle.std.specs.Prelude.{Option, None, Some}
use Rattle.master.specs.declared.Master.{Master}
use Rattle.master.specs.Masters.{plan_of, chosen_bus, other, switched, buses_in_range, chosen_sound, exchange_sound, sound}
use Rattle.master.specs.Exchanges.{Told, send, done, gave_up, Step, MasterAfter, given, handed_back, under_way, sent, exchange_ended, starting, counts, replying, chosen_after, again, expired, timing_out}
use Rattle.master.specs.Runs.{Call, start, reply, timeout, call, answers, run, sent_on, latest, unless_refused, not_refused, without_refusals}
use Rattle.master.specs.Claims.{NewIsSound, StaysSound, RefusedKeeps, RefusedPlayNoPart, Unanswered, LatestSend, LateReply}
use Rattle.master.proofs.Buses.{set_sound}
use Rattle.master.proofs.Moves.{refuses, start-sends, timeout_expires}

-- a call gives its step, and then every check holds; or it refuses
module _ (master : Master) (P : MasterAfter → Type 0) (step : Step) (refusing : (n : ℕ) → P (refuses master n)) where
  pub either : (checks : List Check) → (Passed checks → P (given step)) → P (handed_back master (guarded checks step))
  unfolding guarded
  either [] giving = giving tt
  either (check name true ∷ checks) giving = either checks (λ p. giving (refl, p))
  either (check name false ∷ checks) giving = refusing (number name)

-- ---- soundness

switched_sound : (chosen : List ℕ) (node : ℕ) → chosen_sound chosen ≡ true → chosen_sound (switched chosen node) ≡ true
unfolding chosen_sound switched
switched_sound chosen node s =
    let parts = each _ s in
    let n : length chosen ≡ 64 = eqb-true _ _ parts.0 in
    from_each _ (eq-eqb _ _ (length-set chosen node _ ∙ n), (set_sound chosen node _ parts.1.0 (omega arith), tt))

after_sound : (chosen : List ℕ) (exchange : Exchange) → chosen_sound chosen ≡ true → chosen_sound (chosen_after chosen exchange) ≡ true
unfolding chosen_after
after_sound chosen exchange s = go (eqb exchange.sends (plan_of exchange.kind).first)
  where
    go : (b : Bool) → chosen_sound (cond b (switched chosen exchange.node) chosen) ≡ true
    go true = switched_sound chosen exchange.node s
    go false = s

made_sound : (chosen : List ℕ) (exchange : Exchange) → chosen_sound chosen ≡ true → exchange.node ≤ 63 → 1 ≤ exchange.sends → exchange.sends ≤ (plan_of exchange.kind).total
    → sound (record { chosen = chosen; activity = Some exchange }) ≡ true
unfolding sound exchange_sound
made_sound chosen exchange s n l h = from_each _ (s, (from_each _ (omega tests, (omega tests, (omega tests, tt))), tt))

idle_sound : (chosen : List ℕ) → chosen_sound chosen ≡ true → sound (record { chosen = chosen; activity = None }) ≡ true
unfolding sound exchange_sound
idle_sound chosen s = from_each _ (s, (refl, tt))

chosen_sound_lem : (master : Master) → sound master ≡ true → chosen_sound master.chosen ≡ true
unfolding sound
chosen_sound_lem master s = (each _ s).0

exchange_sound_lem : (master : Master) → sound master ≡ true → exchange_sound master.activity ≡ true
unfolding sound
exchange_sound_lem master s = (each _ s).1.0

one_send : (kind : Kind) → 1 ≤ (plan_of kind).total
one_send Poll = omega arith
one_send DataBlock = omega arith
one_send Command = omega arith

expired_sound : (chosen : List ℕ) (activity : Option Exchange) → chosen_sound chosen ≡ true → exchange_sound activity ≡ true → sound (expired chosen activity).next ≡ true
unfolding expired exchange_sound
expired_sound chosen None s e = idle_sound chosen s
expired_sound chosen (Some x) s e = go (ltb x.sends (plan_of x.kind).total) refl
  where
    go : (b : Bool) → ltb x.sends (plan_of x.kind).total ≡ b
        → sound (cond b (sent (chosen_after chosen x) (again x)) (exchange_ended gave_up (chosen_after chosen x))).next ≡ true
    go true t =
        let parts = each _ e in
        let n = leb-true _ _ parts.0 in
        let l : x.sends < (plan_of x.kind).total = ltb-true _ _ t in
        made_sound _ _ (after_sound chosen x s) n (omega arith) (omega arith)
    go false t = idle_sound _ (after_sound chosen x s)

pub stays_sound : StaysSound
unfolding StaysSound starting replying timing_out
stays_sound master (start kind node) s =
    either master (λ h. sound h.master ≡ true) _ (λ n. s) _
    (λ p. made_sound _ _ (chosen_sound_lem master s) (leb-true node 63 p.1.0) (omega arith) (one_send kind))
stays_sound master (reply bus node function) s =
    either master (λ h. sound h.master ≡ true) _ (λ n. s) _ (λ p. idle_sound _ (chosen_sound_lem master s))
stays_sound master timeout s =
    either master (λ h. sound h.master ≡ true) _ (λ n. s) _ (λ p. expired_sound _ _ (chosen_sound_lem master s) (exchange_sound_lem master s))

pub new_is_sound : NewIsSound
unfolding NewIsSound sound chosen_sound buses_in_range exchange_sound all_true
new_is_sound = refl

-- ---- refused calls

keeps : (master : Master) (checks : List Check) (step : Step) (n : ℕ) → (handed_back master (guarded checks step)).answer ≡ refused n
    → (handed_back master (guarded checks step)).master ≡ master
keeps master checks step =
    either master (λ h. (n : ℕ) → h.answer ≡ refused n → h.master ≡ master) step (λ n m e. refl) checks
    (λ p n e. cc)

pub refused_keeps : RefusedKeeps
unfolding RefusedKeeps starting replying timing_out
refused_keeps master (start kind node) = keeps master _ _
refused_keeps master (reply bus node function) = keeps master _ _
refused_keeps master timeout = keeps master _ _

-- the rest of the calls is known to do so from the master that this call hands back
alone : (master : Master) (c : Call) (calls : List Call) (answer : Result Told) (m : Master) → call master c ≡ record { answer = answer; master = m }
    → ((n : ℕ) → answer ≡ refused n → m ≡ master)
    → (without_refusals (answers m calls) ≡ answers m (not_refused m calls)) × (run m calls ≡ run m (not_refused m calls))
    → (without_refusals (answer ∷ answers m calls) ≡ answers master (unless_refused answer c (not_refused m calls)))
    × (run m calls ≡ run master (unless_refused answer c (not_refused m calls)))
alone master c calls (value said) m e k rest = (
  ap (λ (l : List (Result Told)). value said ∷ l) rest.0 ∙ ap (λ (h : MasterAfter). h.answer ∷ answers h.master (not_refused m calls)) (sym e),
  rest.1 ∙ ap (λ (h : MasterAfter). run h.master (not_refused m calls)) (sym e),
)
alone master c calls (refused n) m e k rest =
    (rest.0 ∙ ap (λ (x : Master). answers x (not_refused m calls)) (k n refl), rest.1 ∙ ap (λ (x : Master). run x (not_refused m calls)) (k n refl))

pub refused_play_no_part : RefusedPlayNoPart
unfolding RefusedPlayNoPart RefusedKeeps
refused_play_no_part master [] = (refl, refl)
refused_play_no_part master (c ∷ calls) =
    alone master c calls (call master c).answer (call master c).master refl (refused_keeps master c) (refused_play_no_part (call master c).master calls)

-- ---- the bus of the latest send

-- an exchange under way was sent last on that bus
abbrev SentOn : ℕ → Master → Type 0
SentOn bus master = (exchange : Exchange) → master.activity ≡ Some exchange → chosen_bus master.chosen exchange.node ≡ bus

abbrev After : ℕ → MasterAfter → Type 0
After bus h = SentOn (sent_on bus h.answer) h.master

sends_there : (bus : ℕ) (chosen : List ℕ) (x : Exchange) → After bus (given (sent chosen x))
sends_there bus chosen x exchange e = let i : x ≡ exchange = cc in ap (λ (y : Exchange). chosen_bus chosen y.node) (sym i)

ends_there : (bus : ℕ) (answer : Told) (chosen : List ℕ) → After bus (given (exchange_ended answer chosen))
ends_there bus answer chosen exchange e = cc

expires_there : (bus : ℕ) (chosen : List ℕ) (activity : Option Exchange) → After bus (given (expired chosen activity))
unfolding expired
expires_there bus chosen None = ends_there bus gave_up chosen
expires_there bus chosen (Some x) = go (ltb x.sends (plan_of x.kind).total)
  where
    go : (b : Bool)
        → After bus (given (cond b (sent (chosen_after chosen x) (again x)) (exchange_ended gave_up (chosen_after chosen x))))
    go true = sends_there bus _ _
    go false = ends_there bus gave_up _

one_call : (bus : ℕ) (master : Master) (c : Call) → SentOn bus master → After bus (call master c)
unfolding starting replying timing_out
one_call bus master (start kind node) h = either master (After bus) _ (λ n. h) _ (λ p. sends_there bus _ _)
one_call bus master (reply b node function) h = either master (After bus) _ (λ n. h) _ (λ p. ends_there bus done _)
one_call bus master timeout h = either master (After bus) _ (λ n. h) _ (λ p. expires_there bus _ _)

all_calls : (bus : ℕ) (master : Master) (calls : List Call) → SentOn bus master → SentOn (latest bus (answers master calls)) (run master calls)
all_calls bus master [] h = h
all_calls bus master (c ∷ calls) h = all_calls (sent_on bus (call master c).answer) (call master c).master calls (one_call bus master c h)

none_sent : (bus : ℕ) (master : Master) → master.activity ≡ None → SentOn bus master
none_sent bus master i exchange e = cc

pub latest_send : LatestSend
unfolding LatestSend
latest_send master calls bus exchange i e = all_calls bus master calls (none_sent bus master i) exchange e

counted : (chosen : List ℕ) (bus node function : ℕ) (activity : Option Exchange) (latest : ℕ)
    → ((exchange : Exchange) → activity ≡ Some exchange → chosen_bus chosen exchange.node ≡ latest)
    → counts chosen bus node function activity ≡ true → bus ≡ latest
unfolding counts
counted chosen bus node function None latest h c = cc
counted chosen bus node function (Some x) latest h c = eqb-true bus _ (each _ c).1.1.0 ∙ h x refl

pub late_reply : LateReply
unfolding LateReply replying
late_reply master calls bus node function none i other =
    let m = run master calls in
    either m (λ h. (h.answer ≢ value done) × (h.master ≡ m)) _ (λ n. ((λ e. cc), refl)) _
    (λ p. absurd (other (counted m.chosen bus node function m.activity _ (all_calls none master calls (none_sent none master i)) p.1.1.1.0)))

-- ---- an exchange that only times out

-- the calls answer these, and end with that master
abbrev Goes : Master → List Call → List (Result Told) → Master → Type 0
Goes master calls said last = (answers master calls ≡ said) × (run master calls ≡ last)

goes : (master : Master) (c : Call) (calls : List Call) (step : Step) (said : List (Result Told)) (last : Master) → given step ≡ call master c
    → Goes step.next calls said last → Goes master (c ∷ calls) (value step.told ∷ said) last
goes master c calls step said last e h = (
  ap (λ (r : MasterAfter). r.answer ∷ answers r.master calls) (sym e) ∙ ap (λ (l : List (Result Told)). value step.told ∷ l) h.0,
  ap (λ (r : MasterAfter). run r.master calls) (sym e) ∙ h.1,
)

abbrev on : List ℕ → Kind → ℕ → ℕ → Master
on chosen kind node sends = record { chosen = chosen; activity = Some (record { kind = kind; node = node; sends = sends }) }

switched_there : (chosen : List ℕ) (node : ℕ) → chosen_sound chosen ≡ true → node ≤ 63 → chosen_bus (switched chosen node) node ≡ other (chosen_bus chosen node)
unfolding chosen_sound switched chosen_bus
switched_there chosen node s n =
    let l : length chosen ≡ 64 = eqb-true _ _ (each _ s).0 in
    get_or-set_same chosen node _ 0 (omega arith)

module _ (master : Master) (node : ℕ) (s : sound master ≡ true) (i : master.activity ≡ None) (n : node ≤ 63) where
  started : (kind : Kind) → given (sent master.chosen (record { kind = kind; node = node; sends = 1 })) ≡ call master (start kind node)
  started kind = start-sends master kind node s n (ap under_way i)

  waits : (chosen : List ℕ) (kind : Kind) (sends : ℕ) → chosen_sound chosen ≡ true → 1 ≤ sends → sends ≤ (plan_of kind).total
      → given (expired chosen (Some (record { kind = kind; node = node; sends = sends }))) ≡ call (on chosen kind node sends) timeout
  waits chosen kind sends c l h = timeout_expires (on chosen kind node sends) (made_sound chosen _ c n l h) refl

pub unanswered : Unanswered
unfolding Unanswered expired chosen_after
unanswered master Poll node s i n =
    let c = chosen_sound_lem master s in
    goes master (start Poll node) (timeout ∷ []) _ _ _ (started master node s i n Poll)
    (goes _ timeout [] _ _ _ (waits master node s i n _ Poll 1 c (omega arith) (omega arith)) (refl, refl))
unanswered master DataBlock node s i n =
    let c = chosen_sound_lem master s in
    goes master (start DataBlock node) (timeout ∷ timeout ∷ []) _ _ _ (started master node s i n DataBlock)
    (goes _ timeout (timeout ∷ []) _ _ _ (waits master node s i n _ DataBlock 1 c (omega arith) (omega arith))
    (goes _ timeout [] _ _ _ (waits master node s i n _ DataBlock 2 c (omega arith) (omega arith)) (refl, refl)))
unanswered master Command node s i n =
    let c = chosen_sound_lem master s in
    let ch = master.chosen in
    let all-sent =
    goes master (start Command node) (timeout ∷ timeout ∷ timeout ∷ []) _ _ _ (started master node s i n Command)
    (goes _ timeout (timeout ∷ timeout ∷ []) _ _ _ (waits master node s i n _ Command 1 c (omega arith) (omega arith))
    (goes _ timeout (timeout ∷ []) _ _ _ (waits master node s i n _ Command 2 c (omega arith) (omega arith))
    (goes _ timeout [] _ _ _ (waits master node s i n _ Command 3 (switched_sound ch node c) (omega arith) (omega arith)) (refl, refl)))) in
    let bus = chosen_bus ch node in (
      all-sent.0 ∙ ap (λ (b : ℕ). value (send bus) ∷ value (send bus) ∷ value (send b) ∷ value gave_up ∷ []) (switched_there ch node c n),
      all-sent.1,
    )
