-- Each way back, what a refusal and a check without a reset leave, and the examples.
use Prim.Native.Nat.{ℕ}
use mathlib.Core.Path.{◌≡◌, refl, sym, ap, ◌∙◌}
use mathlib.Core.Bool.{Bool, true, false, cond}
use mathlib.Core.List.{List, [], ◌∷◌, ◌++◌, append_assoc}
use native.Mathlib.Omega.{arith}
use borrow.Author.Tests.{eqb-true}
use lib.Dec.{eqb}
use lib.ListN.{length, get_or, drop, take-append-drop, drop_of_length-le}
use lib.Seq.{take-add, drop-cons}
use Rattle.format.specs.declared.Refusal.{Refusal}
use Rattle.std.specs.Prelude.{Err}
use Rattle.format.specs.Refusals.{value, refused, number, guarded, meaning}
use Rattle.format.specs.Tests.{all_true}
use Rattle.format.proofs.Tests.{each}
use Rattle.frame.specs.Claims.{Bytes}
use Rattle.words.specs.Words.{word_bytes, word_of, word_at}
use Rattle.words.proofs.Laws as words
use Rattle.watch.specs.declared.Heard.{Heard}
use Rattle.watch.specs.declared.Checked.{Checked}
use Rattle.watch.specs.Watching as watching
use Rattle.watch.specs.Watching.{resets}
use Rattle.watch.specs.Claims as watches
use Rattle.watch.proofs.Claims.{refused_keeps as watch-keeps, no_reset_keeps}
use Rattle.watch_bytes.specs.States.{WatchBytesAfter, layout_number, state_bytes, watch_in, is_state, not_state, on_state, renew, hearing, checking}
use Rattle.watch_bytes.specs.Claims.{ReadBack, WrittenIsState, WrittenBack, NoWatches, RefusedKeeps, Examples}

pub read_back : ReadBack
unfolding ReadBack state_bytes watch_in
read_back watch a b =
    let last = word_bytes watch.b ++ (layout_number ∷ []) in
    let first : word_at (word_bytes watch.a ++ last) 0 ≡ watch.a = words.read_back watch.a last a in
    let second : word_at (word_bytes watch.a ++ last) 4 ≡ watch.b =
    words.read_after (word_bytes watch.a) watch.b (layout_number ∷ []) 4 (words.four watch.a) b in
    simp (first, second)

pub written_is_state : WrittenIsState
unfolding WrittenIsState state_bytes is_state word_bytes all_true
written_is_state watch = refl

pub written_back : WrittenBack
unfolding WrittenBack state_bytes watch_in is_state
written_back state bytes h =
    let tests = each _ h in
    let n : length state ≡ 9 = eqb-true _ _ tests.0 in
    let laid : get_or state 8 0 ≡ layout_number = eqb-true _ _ tests.1.0 in
    let last : drop 8 state ≡ layout_number ∷ [] =
    rw (drop-cons state 8 0 (omega arith), laid, drop_of_length-le state {i = 9} (omega arith)) in
    rw (words.written_at state bytes 0 (omega arith), words.written_at state bytes 4 (omega arith), ← last, ← append_assoc, ← take-add 4 4 state)
    (take-append-drop 8 state)

-- ---- the calls

pub no_watches : NoWatches
unfolding NoWatches WrittenBack hearing checking
no_watches state bytes none bus time = (rw is_none, rw is_none)
  where
    go : (b : Bool) → is_state state ≡ b → is_state state ≡ false
    go true s = absurd (none (watch_in state) (written_back state bytes s))
    go false s = s

    is_none : is_state state ≡ false
    is_none = go (is_state state) refl

-- of bytes of a watch, what is refused leaves the watch, and so the bytes
pub there : (state : List ℕ) → Bytes state → is_state state ≡ true → (bus time : ℕ) (heard : Heard) (name : Refusal)
    → watching.watch_after heard ≡ watching.hearing (watch_in state) bus time → heard.answer ≡ Err name → state_bytes heard.watch ≡ state
unfolding watches.RefusedKeeps WrittenBack
there state bytes s bus time heard name e r =
    let said = ap (λ (h : watching.WatchAfter). h.answer) (sym e) ∙ ap meaning r in
    let kept = watch-keeps (watch_in state) bus time (number name) said in
    ap (λ (h : watching.WatchAfter). state_bytes h.watch) e ∙ ap state_bytes kept ∙ written_back state bytes s

-- so does a check that resets nothing
pub unreset : (state : List ℕ) → Bytes state → is_state state ≡ true → (time : ℕ) (checked : Checked)
    → checked ≡ watching.checking (watch_in state) time → resets checked.a checked.b ≡ 0 → state_bytes checked.watch ≡ state
unfolding watches.NoResetKeeps WrittenBack
unreset state bytes s time checked e z =
    let none = no-resets checked.a checked.b z in
    let a = ap (λ (c : Checked). c.a) (sym e) ∙ none.0 in
    let b = ap (λ (c : Checked). c.b) (sym e) ∙ none.1 in
    let kept = no_reset_keeps (watch_in state) time a b in
    ap (λ (c : Checked). state_bytes c.watch) e ∙ ap state_bytes kept ∙ written_back state bytes s
  where
    no-resets : (a b : Bool) → resets a b ≡ 0 → (a ≡ false) × (b ≡ false)
    no-resets false false e = (refl, refl)
    no-resets true false e = absurd (omega arith)
    no-resets false true e = absurd (omega arith)
    no-resets true true e = absurd (omega arith)

-- a call whose refusal leaves the bytes where they are a watch's leaves them everywhere
keeps : (state : List ℕ) (n : ℕ) (given : WatchBytesAfter) → (is_state state ≡ true → given.answer ≡ refused n → given.state ≡ state)
    → (on_state state given).answer ≡ refused n → (on_state state given).state ≡ state
keeps state n given same = go (is_state state) refl
  where
    left : Bool → WatchBytesAfter
    left b = cond b given (not_state state)

    go : (b : Bool) → is_state state ≡ b → (left b).answer ≡ refused n → (left b).state ≡ state
    go true s e = same s e
    go false s e = refl

renew_keeps : (state : List ℕ) (time n : ℕ) → (renew state time).answer ≡ refused n → (renew state time).state ≡ state
unfolding renew
renew_keeps state time n = go (eqb (length state) 9)
  where
    left : Bool → WatchBytesAfter
    left b = cond b (record { answer = value 0; state = state_bytes (watching.new_watch time) }) (not_state state)

    go : (b : Bool) → (left b).answer ≡ refused n → (left b).state ≡ state
    go true e = let z : ◌≡◌ {A = ℕ} 0 1 = cc in absurd (omega arith)
    go false e = refl

pub refused_keeps : RefusedKeeps
unfolding RefusedKeeps WrittenBack renew hearing checking watches.RefusedKeeps
refused_keeps state bytes bus time n = (
  renew_keeps state time n,
  keeps state n _ (λ s e. ap state_bytes (watch-keeps (watch_in state) bus time n e) ∙ written_back state bytes s),
  keeps state n _ (λ s e. let z : ◌≡◌ {A = ℕ} 0 1 = cc in absurd (omega arith)),
)

pub examples : Examples
unfolding all_true is_state state_bytes watch_in word_bytes word_of word_at renew hearing checking watching.hearing watching.since watching.silent watching.checking guarded
examples =
    record {
      lengths = (refl, refl, refl, refl, refl, refl);
      layouts = (refl, refl, refl, refl);
      times = (refl, refl, refl, refl);
      checks = (refl, refl, refl, refl);
    }
