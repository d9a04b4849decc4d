-- A loop that writes bytes one after the other.
use Rattle.std.proofs.Common.{◌≡◌, ℕ, ◌+◌, ◌<◌, Bool, true, false, ltb, List, [], ◌∷◌, ◌++◌, length, get_or, take, set, sym, refl, ◌∙◌, append_assoc, append-nil, add-one, arith, take_all, take-suc-set, ltb-true}
use Rattle.std.proofs.lemmas.Bool.{ltb-false}
use Rattle.std.specs.Int.{from_bool}
use Rattle.calls_program.specs.Responses.{flag_byte}
use Rattle.std.proofs.lemmas.List.{get_or-set_other}
use Rattle.std.proofs.lemmas.Grind.{get_or-set_at}

pub as_flag : (b : Bool) → from_bool b ≡ flag_byte b
as_flag true = refl
as_flag false = refl

-- what is written, with what is left to write, makes the bytes that are to be
module _ (bytes whole : List ℕ) (i : ℕ) where
  -- one byte more is written
  pub byte_more : (b : ℕ) (left : List ℕ) → i < length bytes → take i bytes ++ (b ∷ left) ≡ whole
      → take (i + 1) (set bytes i b) ++ left ≡ whole
  byte_more b left h e = rw (add-one, take-suc-set bytes i b h, append_assoc) e

  -- none is left
  pub all_bytes : i ≡ length bytes → take i bytes ++ [] ≡ whole → bytes ≡ whole
  all_bytes h e = sym (take_all i bytes (omega arith)) ∙ sym (append-nil (take i bytes)) ∙ e

-- the bytes before a place are those of a list, and one more is
pub copied_more : (bytes list : List ℕ) (i x : ℕ) → i < length bytes → x ≡ get_or list i 0
    → ((k : ℕ) → k < i → get_or bytes k 0 ≡ get_or list k 0) → (k : ℕ) → k < i + 1 → get_or (set bytes i x) k 0 ≡ get_or list k 0
copied_more bytes list i x h e before k w = go (ltb k i) refl
  where
    go : (b : Bool) → b ≡ ltb k i → get_or (set bytes i x) k 0 ≡ get_or list k 0
    go true t =
        let less : k < i = ltb-true k i (sym t) in
        get_or-set_other bytes i k x 0 (λ same. omega arith) ∙ before k less
    go false t =
        let at_least = ltb-false k i (sym t) in
        let same : k ≡ i = omega (arith, at_least, w) in
        get_or-set_at bytes i k x 0 same h ∙ rw same e
