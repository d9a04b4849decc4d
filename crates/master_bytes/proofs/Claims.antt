-- Each way back, bytes that no master writes, and what a refusal leaves.
use Prim.Native.Nat.{ℕ, ◌+◌, ◌≤◌}
use mathlib.Core.Path.{◌≡◌, refl, sym, ap, ◌∙◌}
use mathlib.Core.Bool.{Bool, true, false, cond}
use mathlib.Core.List.{List, [], ◌∷◌}
use native.Mathlib.Omega.{arith}
use borrow.Author.Tests.{eq-eqb, eqb-true, eqb-false, leb-true}
use lib.Dec.{eqb, leb}
use lib.ListN.{length, take, drop, get_or, length-append, take-append-drop, drop_of_length-le}
use lib.Seq.{take_at, drop-cons, get_or-append-add, length-take-le}
use Rattle.format.specs.Refusals.{Result, Returned, value, refused, number}
use Rattle.format.specs.Tests.{all_true}
use Rattle.format.proofs.Tests.{each, from_each}
use Rattle.master.specs.declared.Kind.{Kind}
use Rattle.master.specs.declared.Kind.TheVariants.{Poll, DataBlock, Command}
use Rattle.master.specs.declared.Exchange.{Exchange}
use Rattle.std.specs.Prelude.{Option, None, Some, Ok, Err, MatchResult}
use Rattle.format.specs.declared.Refusal.{Refusal}
use Rattle.master.specs.declared.Answer.{Answer}
use Rattle.master.specs.declared.Master.{Master}
use Rattle.master.specs.declared.Moved.{Moved}
use Rattle.master.specs.Masters.{new_master, kind_number}
use Rattle.master.specs.Exchanges as exchanges
use Rattle.master.specs.Runs.{Call, start, reply, timeout, call}
use Rattle.master.specs.Claims as masters
use Rattle.master.proofs.Claims.{refused_keeps as master-keeps}
use Rattle.master_bytes.specs.States.{activity_bytes, last_bytes, layout_number, state_bytes, kind_of, activity_of, master_in, activity_written, is_state, loaded}
use Rattle.master_bytes.specs.Calls.{MasterBytesAfter, master_bytes_after, moved_in_bytes, not_state, on_state, kind_handed_in, starting_as, renew, starting, replying, timing_out}
use Rattle.master_bytes.specs.Claims.{ReadBack, WrittenIsState, WrittenBack, NoMasters, RefusedKeeps}
use Rattle.master_bytes.proofs.Laws.{four, sized, no-master, a-master, is_loaded}

-- ---- the last bytes: the three of an exchange, and the layout's number

kind_back : (kind : Kind) → (eqb (kind_number kind) 0 ≡ false) × (kind_of (kind_number kind) ≡ kind)
kind_back Poll = (refl, refl)
kind_back DataBlock = (refl, refl)
kind_back Command = (refl, refl)

is_written : (kind : Kind) (node sends : ℕ) → activity_written (kind_number kind) node sends ≡ true
unfolding activity_written
is_written Poll node sends = refl
is_written DataBlock node sends = refl
is_written Command node sends = refl

-- what is read of an exchange's bytes
abbrev OfBytes : {A : Type 0} → (ℕ → ℕ → ℕ → A) → List ℕ → A
OfBytes f bytes = f (get_or bytes 0 0) (get_or bytes 1 0) (get_or bytes 2 0)

activity_back : (activity : Option Exchange) → (OfBytes activity_of (last_bytes activity) ≡ activity) × (OfBytes activity_written (last_bytes activity) ≡ true)
unfolding activity_written all_true
activity_back None = (refl, refl)
activity_back (Some exchange) =
    let k = kind_back exchange.kind in
    (rw (k.0, k.1), is_written exchange.kind exchange.node exchange.sends)

laid_out_lem : (activity : Option Exchange) → get_or (last_bytes activity) 3 0 ≡ layout_number
laid_out_lem None = refl
laid_out_lem (Some exchange) = refl

kind_again : (kind : ℕ) → 1 ≤ kind → kind ≤ 3 → kind_number (kind_of kind) ≡ kind
kind_again kind low high = go (eqb kind 1) (eqb kind 2) refl refl
  where
    go : (a b : Bool) → eqb kind 1 ≡ a → eqb kind 2 ≡ b → kind_number (cond a Poll (cond b DataBlock Command)) ≡ kind
    go true b e f = sym (eqb-true kind 1 e)
    go false true e f = sym (eqb-true kind 2 f)
    go false false e f = omega (arith, eqb-false kind 1 e, eqb-false kind 2 f)

activity_again : (kind node sends : ℕ) → activity_written kind node sends ≡ true → activity_bytes (activity_of kind node sends) ≡ kind ∷ node ∷ sends ∷ []
unfolding activity_written
activity_again kind node sends = go (eqb kind 0) refl
  where
    exchange : Exchange
    exchange = record { kind = kind_of kind; node = node; sends = sends }

    go : (b : Bool) → eqb kind 0 ≡ b → cond b (all_true (eqb node 0 ∷ eqb sends 0 ∷ [])) (leb kind 3) ≡ true
        → activity_bytes (cond b None (Some exchange)) ≡ kind ∷ node ∷ sends ∷ []
    go true e w =
        let tests = each (eqb node 0 ∷ eqb sends 0 ∷ []) w in
        rw (eqb-true kind 0 e, eqb-true node 0 tests.0, eqb-true sends 0 tests.1.0)
    go false e w = rw (kind_again kind (omega (arith, eqb-false kind 0 e)) (leb-true kind 3 w))

-- ---- the bytes of a master

module _ (master : Master) (n : length master.chosen ≡ 64) where
  behind : (i : ℕ) → get_or (state_bytes master) (64 + i) 0 ≡ get_or (last_bytes master.activity) i 0
  unfolding state_bytes
  behind i = ap (λ k. get_or (state_bytes master) (k + i) 0) (sym n) ∙ get_or-append-add master.chosen (last_bytes master.activity) i 0

  ahead : take 64 (state_bytes master) ≡ master.chosen
  unfolding state_bytes
  ahead = take_at master.chosen (last_bytes master.activity) 64 n

  all_bytes : length (state_bytes master) ≡ 68
  unfolding state_bytes
  all_bytes = rw (length-append, n, four master.activity)

pub read_back : ReadBack
unfolding ReadBack master_in
read_back master n =
    simp (ahead master n, behind master n 0, behind master n 1, behind master n 2, (activity_back master.activity).0)

pub written_is_state : WrittenIsState
unfolding WrittenIsState is_state
written_is_state master n =
    let bytes = state_bytes master in
    let written : activity_written (get_or bytes 64 0) (get_or bytes 65 0) (get_or bytes 66 0) ≡ true =
    rw (behind master n 0, behind master n 1, behind master n 2) (activity_back master.activity).1 in
    from_each _ (eq-eqb _ _ (all_bytes master n), (eq-eqb _ _ (behind master n 3 ∙ laid_out_lem master.activity), (written, tt)))

pub written_back : WrittenBack
unfolding WrittenBack master_in state_bytes is_state
written_back state s =
    let n = sized state s in
    let tests = each _ s in
    let laid : get_or state 67 0 ≡ layout_number = eqb-true _ _ tests.1.0 in
    let last : drop 64 state ≡ get_or state 64 0 ∷ get_or state 65 0 ∷ get_or state 66 0 ∷ layout_number ∷ [] =
    rw (drop-cons state 64 0 (omega arith), drop-cons state 65 0 (omega arith), drop-cons state 66 0 (omega arith), drop-cons state 67 0 (omega arith), laid, drop_of_length-le state {i = 68} (omega arith)) in
    rw (activity_again (get_or state 64 0) (get_or state 65 0) (get_or state 66 0) tests.1.1.0, ← last) (take-append-drop 64 state)

-- ---- the calls

pub no_masters : NoMasters
unfolding NoMasters WrittenBack starting replying timing_out master_in
no_masters state none kind bus node function = (sym (no-master state _ is_none), (sym (no-master state _ is_none), sym (no-master state _ is_none)))
  where
    go : (b : Bool) → is_state state ≡ b → is_state state ≡ false
    go true s = absurd (none (master_in state) (length-take-le 64 state (omega (arith, sized state s))) (written_back state s))
    go false s = s

    is_none : is_state state ≡ false
    is_none = go (is_state state) refl

-- a refusal hands back the master handed in
start_kept : (master : Master) (n node : ℕ) (kind : Result Kind) → (starting_as master node kind).answer ≡ refused n → (starting_as master node kind).master ≡ master
unfolding masters.RefusedKeeps
start_kept master n node (value kind) = master-keeps master (start kind node) n
start_kept master n node (refused m) = λ e. refl

-- and its bytes are those handed in
keeps : (state : List ℕ) (n : ℕ) (given : exchanges.MasterAfter) → (given.answer ≡ refused n → given.master ≡ master_in state)
    → (on_state state given).answer ≡ refused n → (on_state state given).state ≡ state
unfolding WrittenBack
keeps state n given same = go (is_state state) refl
  where
    left : Bool → MasterBytesAfter exchanges.Told
    left b = cond b (moved_in_bytes given) (not_state state)

    go : (b : Bool) → is_state state ≡ b → (left b).answer ≡ refused n → (left b).state ≡ state
    go true s e = ap state_bytes (same e) ∙ written_back state s
    go false s e = refl

renew_keeps : (state : List ℕ) (n : ℕ) → (renew state).answer ≡ refused n → (renew state).state ≡ state
unfolding renew
renew_keeps state n = go (eqb (length state) 68)
  where
    left : Bool → MasterBytesAfter ℕ
    left b = cond b (record { answer = value 0; state = state_bytes new_master }) (not_state state)

    go : (b : Bool) → (left b).answer ≡ refused n → (left b).state ≡ state
    go true e = cc
    go false e = refl

pub refused_keeps : RefusedKeeps
unfolding RefusedKeeps starting replying timing_out masters.RefusedKeeps
refused_keeps state n = (
  renew_keeps state n,
  λ kind bus node function.
      let master = master_in state in (
        keeps state n _ (start_kept master n node (kind_handed_in master kind)),
        (keeps state n _ (master-keeps master (reply bus node function) n), keeps state n _ (master-keeps master timeout n)),
      ),
)

-- so it does not have to be stored
there : (state : List ℕ) → is_state state ≡ true → (moved : Moved) (c : Call) → exchanges.master_after moved ≡ call (master_in state) c
    → (name : Refusal) → moved.answer ≡ Err name → state_bytes moved.master ≡ state
unfolding WrittenBack masters.RefusedKeeps
there state s moved c e name r =
    let said = ap (λ (h : exchanges.MasterAfter). h.answer) (sym e) ∙ ap exchanges.meaning r in
    let kept = master-keeps (master_in state) c (number name) said in
    ap (λ (h : exchanges.MasterAfter). state_bytes h.master) e ∙ ap state_bytes kept ∙ written_back state s

-- what a call gives on the master in the bytes, with that answer and those bytes handed back
module _ (state : List ℕ) (master : Master) (c : Call) (moved : Moved) (answer : Returned Answer) (after : List ℕ) where
  pub handed : Ok master ≡ loaded state → exchanges.master_after moved ≡ call master c → answer ≡ moved.answer
      → MatchResult answer (λ _. after ≡ state_bytes moved.master) (λ _. after ≡ state)
      → master_bytes_after answer after ≡ on_state state (call (master_in state) c)
  handed l e a h =
      let is = is_loaded state master l in
      let of-state : exchanges.master_after moved ≡ call (master_in state) c = e ∙ ap (λ (m : Master). call m c) is.1 in
      let stored = written is.0 of-state answer a h in
      rw (a, stored) (ap moved_in_bytes of-state) ∙ a-master state _ is.0
    where
      written : is_state state ≡ true → exchanges.master_after moved ≡ call (master_in state) c → (answer : Returned Answer)
          → answer ≡ moved.answer → MatchResult answer (λ _. after ≡ state_bytes moved.master) (λ _. after ≡ state)
          → after ≡ state_bytes moved.master
      written s e (Ok given) a h = h
      written s e (Err name) a h = h ∙ sym (there state s moved c e name (sym a))
