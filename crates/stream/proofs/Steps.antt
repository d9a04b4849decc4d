-- What the code's answers say, by the cases of a step.
use Prim.Native.Nat.{ℕ, ◌+◌, ◌≤◌, ◌<◌}
use mathlib.Core.Path.{◌≡◌, refl, sym, ap, ◌∙◌}
use mathlib.Core.Bool.{Bool, true, false}
use mathlib.Core.List.{List, [], ◌∷◌}
use native.Mathlib.Nat.{zero-add}
use lib.ListN.{length}
use borrow.Author.Tests.{ne_eqb, eq-eqb, le-leb, lt-leb}
use Rattle.copying.specs.Copy.{written}
use Rattle.format.specs.declared.Format.{Format}
use Rattle.format.specs.declared.Flag.{Flag}
use Rattle.format.specs.declared.Flag.TheVariants.{Middle, Start, End, Single}
use Rattle.format.specs.declared.Refusal.TheVariants.{Store, Surplus}
use Rattle.format.specs.Formats.{piece_size, number_range}
use Rattle.format.specs.Refusals.{Returned, value, refused, number, Check, check, guarded}
use Rattle.format.specs.Refusals as answers
use Rattle.format.specs.declared.Refusal.{Refusal}
use Rattle.format.proofs.Checks.{passed}
use Rattle.stream.specs.declared.Progress.{Progress}
use Rattle.stream.specs.declared.Progress.TheVariants.{Collecting, Done}
use Rattle.stream.specs.declared.Answer.TheVariants.{Packet, Kept}
use Rattle.std.specs.Prelude.{Err, Ok}
use Rattle.stream.specs.declared.Stepped.{Stepped}
use Rattle.stream.specs.Step.{Next, collecting, held, follows, progress_after, appended, followed, stepped, offered, next_of}

-- what one result refuses, another after the same checks refuses alike
refused_alike : {A B : Type 0} (checks : List Check) (x : A) (y : B) (n : ℕ) → guarded checks x ≡ refused n → refused n ≡ guarded checks y
unfolding guarded
refused_alike [] x y n e = cc
refused_alike (check name true ∷ checks) x y n e = refused_alike checks x y n e
refused_alike (check name false ∷ checks) x y n e = cc

-- a middle or end: `ends` says where its bytes end, after those held, or why they are refused
module _ (z m : ℕ) (last : Bool) (progress : Progress) (area : List ℕ) (n : ℕ) (bytes : List ℕ) (ends : Returned ℕ)
    (e : answers.meaning ends ≡ guarded (follows z m progress n (length bytes)) (held progress + length bytes)) where
  pub refused_as : (name : Refusal) → ends ≡ Err name → (after : Progress) → after ≡ progress_after (number name) progress → (next : List ℕ) → next ≡ area
      → next_of (record { answer = Err name; progress = after }) next ≡ followed z m last progress area n bytes
  unfolding followed
  refused_as name r after a next w =
      let q = refused_alike (follows z m progress n (length bytes)) (held progress + length bytes) (appended last (held progress) area bytes) (number name) (sym e ∙ ap answers.meaning r) in
      rw (← q, a, w) refl

  module _ (end : ℕ) (r : ends ≡ Ok end) (next : List ℕ) (w : next ≡ written area (held progress) bytes) where
    passes : (b : Bool) → value (appended b (held progress) area bytes) ≡ guarded (follows z m progress n (length bytes)) (appended b (held progress) area bytes)
    unfolding follows guarded
    passes b =
        let p = passed (follows z m progress n (length bytes)) (held progress + length bytes) end (sym e ∙ ap answers.meaning r) in
        rw (p.0.0, p.0.1.0, p.0.1.1.0) refl

    ends_at : held progress + length bytes ≡ end
    ends_at = (passed (follows z m progress n (length bytes)) (held progress + length bytes) end (sym e ∙ ap answers.meaning r)).1

    pub went_on : last ≡ false → next_of (record { answer = Ok (Kept false); progress = Collecting end }) next ≡ followed z m last progress area n bytes
    unfolding followed
    went_on l = rw (l, ← passes false, w, ← ends_at) refl

    pub ended : last ≡ true → (size : ℕ) → size ≡ end
        → next_of (record { answer = Ok (Packet size false); progress = Done end }) next ≡ followed z m last progress area n bytes
    unfolding followed
    ended l size q = rw (l, ← passes true, w, q, ← ends_at) refl

-- a frame by its flag
module _ (z m : ℕ) (progress : Progress) (area : List ℕ) (flag : Flag) (n : ℕ) (bytes : List ℕ) where
  pub as_middle : flag ≡ Middle → (next : Next) → next ≡ followed z m false progress area n bytes → next ≡ stepped z m progress area flag n bytes
  unfolding stepped
  as_middle f next d = rw f d

  pub as_end : flag ≡ End → (next : Next) → next ≡ followed z m true progress area n bytes → next ≡ stepped z m progress area flag n bytes
  unfolding stepped
  as_end f next d = rw f d

  module _ (broke : Bool) (b : broke ≡ collecting progress)
      (h : ℕ) (e : h ≡ 0 + length bytes) (next : List ℕ) (w : next ≡ written area 0 bytes) where
    pub as-start : flag ≡ Start
        → next_of (record { answer = Ok (Kept broke); progress = Collecting h }) next ≡ stepped z m progress area flag n bytes
    unfolding stepped
    as-start f = rw (f, b, e, zero-add, w)

    pub as-single : flag ≡ Single
        → next_of (record { answer = Ok (Packet (length bytes) broke); progress = Done h }) next ≡ stepped z m progress area flag n bytes
    unfolding stepped
    as-single f = rw (f, b, e, zero-add, w)

-- the public call
module _ (format : Format) (progress : Progress) (area : List ℕ) (flag : Flag) (n : ℕ) (bytes : List ℕ) where
  pub no_area : (r : Stepped) → r ≡ record { answer = Err Store; progress = progress } → (length area ≡ 2048 → ⊥)
      → next_of r area ≡ offered format progress area flag n bytes
  unfolding offered guarded
  no_area r e h = rw (e, ne_eqb (length area) 2048 h)

  pub too_many : (r : Stepped) → r ≡ record { answer = Err Surplus; progress = progress } → length area ≡ 2048 → 8 < length bytes
      → next_of r area ≡ offered format progress area flag n bytes
  unfolding offered guarded
  too_many r e h l = rw (e, eq-eqb (length area) 2048 h, lt-leb (length bytes) 8 l)

  pub taken : length area ≡ 2048 → length bytes ≤ 8 → (z m : ℕ) → z ≡ piece_size format → m ≡ number_range format → (next : Next)
      → next ≡ stepped z m progress area flag n bytes → next ≡ offered format progress area flag n bytes
  unfolding offered guarded
  taken h l z m ez em next d = rw (eq-eqb (length area) 2048 h, le-leb (length bytes) 8 l, ← ez, ← em) d
