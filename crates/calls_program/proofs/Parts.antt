-- An output of which a part was lent to a call: what the call left in the part stands in its place.
use Rattle.std.proofs.Common.{◌≡◌, ℕ, ◌+◌, ◌-◌, ◌≤◌, List, ◌++◌, length, take, drop, replicate, arith, length-drop, length-take, drop-drop}
use borrow.Rule.Slice.PartMut.{mid_of, put_mid}
use Rattle.copying.specs.Copy.{written, copied}
use Rattle.format.specs.Refusals.{Result}
use Rattle.format.specs.Outputs.{answer, output_after}
use Rattle.calls_program.specs.Responses.{outcome_bytes, lent_in}

-- `size` bytes were lent, from place `at` on
module _ (out : List ℕ) (at size : ℕ) where
  pub part_size : at + size ≤ length out → length (mid_of at size out) ≡ size
  part_size h = simp (length-take, length-drop) (omega arith)

  pub part_back : (part : List ℕ) → length part ≡ size → put_mid at size out part ≡ written out at part
  unfolding written
  part_back part n = rw (drop-drop, n)

-- a call that writes a text to an output of `room` bytes, all alike: these were lent to it from a place on, after its answer
module _ (at : ℕ) (text : ℕ → Result (List ℕ)) (room byte : ℕ) (out : List ℕ) (h : at + room ≤ length out) where
  abbrev lent : ℕ
  lent = length (mid_of at (at + room - at) out)

  pub answered : (told : Result ℕ) (part : List ℕ) → length part ≡ lent → told ≡ answer (text lent)
      → part ≡ output_after (text lent) (replicate lent byte)
      → copied (put_mid at (at + room - at) out part) 0 (outcome_bytes told) ≡ lent_in at (text room) room byte out
  unfolding lent_in
  answered told part n a t =
      let m : at + room - at ≡ room = omega arith in
      let s : lent ≡ room = rw m (part_size out at room h) in
      let b = part_back out at room part (omega arith) in
      rw (m, b, rw s at a, rw s at t)

-- bytes that were lent from the start on
pub head_written : (out part : List ℕ) (n : ℕ) → length part ≡ n → part ++ drop n out ≡ written out 0 part
unfolding written
head_written out part n m = let past : 0 + length part ≡ n = omega (arith, m) in rw past

-- so many bytes of a list that has them
pub head_size : (list : List ℕ) (n : ℕ) → n ≤ length list → n ≡ length (take n list)
head_size list n h = simp length-take (omega arith)
