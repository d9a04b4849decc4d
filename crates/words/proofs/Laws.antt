-- Numbers of 32 bits and their four bytes: each way back, also from any place in a list.
use Prim.Native.Nat.{ℕ, ◌+◌, ◌*◌, ◌/◌, ◌%◌, ◌^◌, ◌≤◌, ◌<◌}
use mathlib.Core.Path.{◌≡◌, refl, ◌∙◌}
use mathlib.Core.List.{List, [], ◌∷◌, ◌++◌}
use native.Mathlib.Nat.{add_assoc}
use native.Mathlib.Numerals.{add-one}
use native.Mathlib.Omega.{arith}
use lib.ListN.{length, get_or, take, drop}
use lib.Seq.{drop-cons, get_or-append-add}
use Rattle.words.specs.Words.{word_bytes, word_of, word_at}

-- the bytes of a number, read back, are the number, whatever follows them
pub read_back : (w : ℕ) (rest : List ℕ) → w < 2 ^ 32 → word_at (word_bytes w ++ rest) 0 ≡ w
unfolding word_at word_bytes word_of
read_back w rest h = omega arith

-- past other bytes, a place counts from their end
pub past : (front bytes : List ℕ) (at : ℕ) → word_at (front ++ bytes) (length front + at) ≡ word_at bytes at
unfolding word_at
past front bytes at = simp (add_assoc, get_or-append-add)

-- so a number that follows other bytes reads back too
pub read_after : (front : List ℕ) (w : ℕ) (rest : List ℕ) (at : ℕ) → length front ≡ at → w < 2 ^ 32
    → word_at (front ++ (word_bytes w ++ rest)) at ≡ w
read_after front w rest at n h =
    let e : at ≡ length front + 0 = omega arith in
    rw e (past front (word_bytes w ++ rest) 0 ∙ read_back w rest h)

-- the low byte of a number that is a byte and 256 times another
low : (w byte high : ℕ) → byte < 256 → w ≡ byte + high * 256 → w % 256 ≡ byte
low w byte high h e = omega arith

-- the number of four bytes, written again, is those bytes
pub written_back : (a b c d : ℕ) → a < 256 → b < 256 → c < 256 → d < 256 → word_bytes (word_of a b c d) ≡ a ∷ b ∷ c ∷ d ∷ []
unfolding word_bytes word_of
written_back a b c d ha hb hc hd =
    let w = a + b * 256 + c * 65536 + d * 16777216 in
    let first : w % 256 ≡ a = low w a (b + c * 256 + d * 65536) ha (omega arith) in
    let second : w / 256 % 256 ≡ b = low (w / 256) b (c + d * 256) hb (omega arith) in
    let third : w / 65536 % 256 ≡ c = low (w / 65536) c d hc (omega arith) in
    let fourth : w / 16777216 ≡ d = omega arith in
    cc

-- the same of the four bytes from a place on, in a list of bytes
module _ (list : List ℕ) (bytes : (i : ℕ) → get_or list i 0 < 256) where
  next : (i j : ℕ) → j ≡ i + 1 → i < length list → drop i list ≡ get_or list i 0 ∷ drop j list
  next i j e h = rw (e, add-one) (drop-cons list i 0 h)

  pub written_at : (at : ℕ) → at + 4 ≤ length list → word_bytes (word_at list at) ≡ take 4 (drop at list)
  unfolding word_at
  written_at at h =
      rw (
        next at (at + 1) (omega arith) (omega arith),
        next (at + 1) (at + 2) (omega arith) (omega arith),
        next (at + 2) (at + 3) (omega arith) (omega arith),
        next (at + 3) (at + 4) (omega arith) (omega arith),
      )
      (written_back (get_or list at 0) (get_or list (at + 1) 0) (get_or list (at + 2) 0) (get_or list (at + 3) 0) (bytes at) (bytes (at + 1)) (bytes (at + 2)) (bytes (at + 3)))

pub word_below : (a b c d : ℕ) → a < 256 → b < 256 → c < 256 → d < 256 → word_of a b c d < 2 ^ 32
unfolding word_of
word_below a b c d ha hb hc hd = omega arith

-- there are four
pub four : (w : ℕ) → length (word_bytes w) ≡ 4
unfolding word_bytes
four w = refl
