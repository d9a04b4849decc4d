-- What the answer of reading says of where the packet begins.
use Prim.Native.Nat.{ℕ, ◌*◌, ◌<◌}
use native.Mathlib.Omega.{arith}
use mathlib.Core.Path.{◌≡◌, refl, sym, ap, ◌∙◌}
use mathlib.Core.Bool.{Bool, true, false, cond}
use mathlib.Core.List.{List}
use lib.ListN.{length, take, drop}
use Rattle.format.specs.declared.Refusal.TheVariants.{State}
use Rattle.format.specs.Refusals.{Result, value, refused, number}
use Rattle.station.specs.Read.{reading, length_of}
use Rattle.station.proofs.Handing.{has_length}
use Rattle.station_bytes.specs.States.{station_in, is_state}
use Rattle.station_bytes.specs.Calls.{read_in}
use Rattle.siljuvatt.specs.Calls.{start_after}
use Rattle.siljuvatt.specs.Claims.{ReadsThere}

-- a packet's slot is one of sixteen
pub below_16 : (state store : List ℕ) (i n : ℕ) → value n ≡ length_of (read_in state store i) → i < 16
unfolding read_in
below_16 state store i n = go (is_state state)
  where
    go : (b : Bool) → value n ≡ length_of (cond b (reading (station_in state) store i) (refused (number State))) → i < 16
    go true e = (has_length (station_in state) store i n e).below
    go false e = let z : ◌≡◌ {A = ℕ} 0 1 = cc in absurd (omega arith)

pub start_set : (r : Result (List ℕ)) (slot start n : ℕ) → value n ≡ length_of r → 2048 * slot ≡ start_after r slot start
start_set (value packet) slot start n e = refl
start_set (refused m) slot start n e = let z : ◌≡◌ {A = ℕ} 0 1 = cc in absurd (omega arith)

pub start_kept : (r : Result (List ℕ)) (slot start n : ℕ) → refused n ≡ length_of r → start ≡ start_after r slot start
start_kept (value packet) slot start n e = let z : ◌≡◌ {A = ℕ} 0 1 = cc in absurd (omega arith)
start_kept (refused m) slot start n e = refl

-- the bytes read are those of the store from there on
pub reads_there : ReadsThere
unfolding ReadsThere read_in
reads_there state store slot start bytes = go (is_state state)
  where
    packet-of : {a b : List ℕ} → ◌≡◌ {A = Result (List ℕ)} (value a) (value b) → a ≡ b
    packet-of e = cc

    go : (b : Bool) → cond b (reading (station_in state) store slot) (refused (number State)) ≡ value bytes
        → bytes ≡ take (length bytes) (drop (start_after (cond b (reading (station_in state) store slot) (refused (number State))) slot start) store)
    go true e =
        let r = has_length (station_in state) store slot (length bytes) (sym (ap length_of e)) in
        sym (packet-of (r.part ∙ e)) ∙ ap (λ (x : Result (List ℕ)). take (length bytes) (drop (start_after x slot start) store)) (sym e)
    go false e = let z : ◌≡◌ {A = ℕ} 0 1 = cc in absurd (omega arith)
