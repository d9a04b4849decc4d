-- How many pieces there are, over the piece size z.
use Prim.Native.Nat.{ℕ, zero, suc, ◌+◌, ◌-◌, ◌*◌, ◌/◌, ◌%◌, ◌≤◌, ◌<◌, min}
use mathlib.Core.Path.{◌≡◌, refl, sym, ap, ◌∙◌}
use mathlib.Core.List.{List}
use native.Mathlib.Nat.{mul-suc, suc-mul, mul_comm, mod-lt, mul-le-mul_left, div-add-mod'}
use native.Mathlib.Omega.{arith}
use lib.ListN.{length, take, drop, length-drop}
use lib.Seq.{take_all}
use Rattle.std.proofs.lemmas.Nat.{div-mul-add}
use Rattle.std.proofs.lemmas.List.{take_min}
use Rattle.format.proofs.Limits.{some_bytes, eight_bytes, most_bytes}
use borrow.Author.Tests.{lt-leb, le-leb}
use Rattle.packet.specs.Split.{count_of, piece_bytes}

-- a packet of n bytes: each of its pieces begins within it, and together they hold it
pub record Several (z n count : ℕ) : Type 0 where
  pub two : 2 ≤ count
  pub within : (k : ℕ) → k < count → z * k < n
  pub enough : n ≤ z * count

module _ (z n : ℕ) (pos : 0 < z) (small : z ≤ 8) (long : 8 < n) where
  by_quotient : (q r : ℕ) → q * z + r ≡ n + (z - 1) → r < z → Several z n q
  by_quotient zero r e h = let c : 8 < 8 = omega (arith, mul_comm 0 z, mul_comm z 0) in absurd (omega arith)
  by_quotient (suc zero) r e h = let c : 8 < 8 = omega (arith, suc-mul 0 z) in absurd (omega arith)
  by_quotient (suc (suc q)) r e h =
      let w = suc q in
      let a : suc w * z ≡ w * z + z = suc-mul w z in
      let b : z * suc w ≡ z * w + z = mul-suc z w in
      let m : w * z ≡ z * w = mul_comm w z in
      record {
        two = omega arith;
        within = λ k l. let i : k ≤ w = omega arith in omega (arith, mul-le-mul_left z i);
        enough = omega arith;
      }

  pub several : Several z n (count_of z n)
  unfolding count_of
  several =
      rw (lt-leb n 8 long)
      (by_quotient ((n + (z - 1)) / z) ((n + (z - 1)) % z) (div-add-mod' (n + (z - 1)) z) (mod-lt (n + (z - 1)) pos))

-- the quotient rounded up, as the code has it
pub rounded_up : (z n : ℕ) → 0 < z → n / z + min 1 (n % z) ≡ (n + (z - 1)) / z
rounded_up z n pos = go (n % z) refl
  where
    go : (r : ℕ) → n % z ≡ r → n / z + min 1 (n % z) ≡ (n + (z - 1)) / z
    go zero e =
        let d : n / z * z + (z - 1) ≡ n + (z - 1) = omega (arith, div-add-mod' n z) in
        let s : (n + (z - 1)) / z ≡ n / z = ap (λ (m : ℕ). m / z) (sym d) ∙ div-mul-add (n / z) z (z - 1) (omega arith) in
        omega arith
    go (suc r) e =
        let d : suc (n / z) * z + r ≡ n + (z - 1) = omega (arith, div-add-mod' n z, suc-mul (n / z) z) in
        let s : (n + (z - 1)) / z ≡ suc (n / z) =
        ap (λ (m : ℕ). m / z) (sym d) ∙ div-mul-add (suc (n / z)) z r (omega (arith, mod-lt n pos))
        in
        omega arith

module _ (z : ℕ) (packet : List ℕ) (k : ℕ) where
  -- piece k begins within the packet
  pub within_packet : (0 < z) × (z ≤ 8) × (length packet ≤ 2048) × (k < count_of z (length packet)) → 8 < length packet
      → z * k ≤ length packet
  within_packet r long = let h = (several z (length packet) r.0 r.1 long).within k r.3 in omega arith

  pub bytes_single : length packet ≤ 8 → piece_bytes z packet k ≡ packet
  unfolding piece_bytes
  bytes_single h = rw (le-leb _ _ h)

  pub bytes_several : 8 < length packet → piece_bytes z packet k ≡ take z (drop (z * k) packet)
  unfolding piece_bytes
  bytes_several h = rw (lt-leb _ _ h)

  -- the last piece has what is left
  pub bytes_last : 8 < length packet → length packet - z * k ≤ z → piece_bytes z packet k ≡ drop (z * k) packet
  bytes_last h l = bytes_several h ∙ take_all z (drop (z * k) packet) (rw length-drop l)

  -- so much of what is left as the code takes
  pub bytes_taken : 8 < length packet → (left : List ℕ) (m : ℕ) → left ≡ take (length packet - z * k) (drop (z * k) packet)
      → m ≡ min z (length left) → take m left ≡ piece_bytes z packet k
  bytes_taken long left m el em =
      let rest : left ≡ drop (z * k) packet =
      el ∙ take_all (length packet - z * k) (drop (z * k) packet) (rw length-drop (omega arith))
      in
      rw em (take_min z left) ∙ ap (take z) rest ∙ sym (bytes_several long)

-- what the code needs of a format's sizes
pub ruleset sizes = (arith, some_bytes, eight_bytes, most_bytes)
