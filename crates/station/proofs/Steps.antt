-- What one step keeps: the size of the area, and that the progress fits; and that a standard stream never has LONG.
use Prim.Native.Nat.{ℕ, ◌+◌, ◌-◌, ◌≤◌}
use mathlib.Core.Path.{◌≡◌, refl, sym, ap, ◌∙◌}
use mathlib.Core.Logic.{◌≢◌}
use mathlib.Core.Bool.{Bool, true, false, cond}
use mathlib.Core.List.{List}
use native.Mathlib.Omega.{arith}
use lib.Dec.{leb, eqb}
use lib.ListN.{length}
use borrow.Author.Tests.{leb-true, le-leb}
use Rattle.copying.proofs.Copying.{written_length}
use Rattle.format.specs.declared.Format.{Format}
use Rattle.format.specs.declared.Format.TheVariants.{Extended, Standard}
use Rattle.format.specs.declared.Flag.{Flag}
use Rattle.format.specs.declared.Flag.TheVariants.{Middle, Start, End, Single}
use Rattle.format.specs.declared.Refusal.TheVariants as refusal
use Rattle.format.specs.Formats.{piece_size, number_range, header_size, packet_start}
use Rattle.format.specs.Refusals.{value, refused, number}
use Rattle.format.proofs.Tests.{each, from_each, tests}
use Rattle.frame.specs.Judge.{Frame, Judged, piece_rule, judge}
use Rattle.frame.proofs.Judged.{sound_image}
use Rattle.stream.specs.declared.Progress.{Progress}
use Rattle.stream.specs.declared.Progress.TheVariants.{Idle, Collecting, Done}
use Rattle.stream.specs.Step.{Next, awaited, appended, followed, stepped, step}
use Rattle.stream.proofs.Cases.{while_idle, while_done, while_collecting}
use Rattle.slot.specs.Sound.{fits}

-- ---- what a sound frame carries, by its flag: n is its number, k the count of its packet bytes

abbrev pub Carries : Format → Flag → (n k : ℕ) → Type 0
Carries format Single n k = k ≤ 8
Carries format Start n k = k ≡ piece_size format
Carries Extended Middle n k = k ≡ 8
Carries Standard Middle n k = (k ≡ 7) × (n ≤ 254)
Carries format End n k = k ≤ piece_size format

carries : (format : Format) (flag : Flag) (count n size : ℕ) → piece_rule format flag count n ≡ true → size ≡ header_size format + count
    → Carries format flag n (size - packet_start format flag)
unfolding piece_rule
carries Extended Single count n size r e = let u = each _ r in omega tests
carries Extended Start count n size r e = let u = each _ r in omega tests
carries Extended Middle count n size r e = omega tests
carries Extended End count n size r e = let u = each _ r in omega tests
carries Standard Single count n size r e = let u = each _ r in omega tests
carries Standard Start count n size r e = let u = each _ r in omega tests
carries Standard Middle count n size r e = let u = each _ r in omega tests
carries Standard End count n size r e = let u = each _ r in omega tests

pub Carrying : Format → Frame → Type 0
Carrying format frame = Carries format frame.flag frame.number (length frame.bytes)

pub judged_carries : (format : Format) (image : List ℕ) (judged : Judged) → judge format image ≡ value judged → Carrying format judged.frame
unfolding Carrying
judged_carries format image judged e =
    let i = sound_image format image judged e in
    rw (i.carried, i.start_is)
    (carries format judged.frame.flag _ judged.frame.number (length image) i.rule i.size)

-- ---- a step keeps both

pub record Keeps (format : Format) (next : Next) : Type 0 where
  pub fit : fits format next.progress ≡ true
  pub size : length next.area ≡ 2048

fits_middle : (format : Format) (h n k : ℕ) → fits format (Collecting h) ≡ true → Carries format Middle n k
    → eqb n (awaited (piece_size format) (number_range format) h) ≡ true → leb (h + k) 2048 ≡ true → fits format (Collecting (h + k)) ≡ true
unfolding fits
fits_middle Extended h n k f r a s = let t = each _ f in from_each _ (omega tests)
fits_middle Standard h n k f r a s = let t = each _ f in from_each _ (omega tests)

fits_end : (format : Format) (h n k : ℕ) → fits format (Collecting h) ≡ true → Carries format End n k → leb (h + k) 2048 ≡ true
    → fits format (Done (h + k)) ≡ true
unfolding fits
fits_end Extended h n k f r s = s
fits_end Standard h n k f r s = let t = each _ f in omega tests

module _ (format : Format) (h : ℕ) (area : List ℕ) (n : ℕ) (bytes : List ℕ) (f : fits format (Collecting h) ≡ true) (l : length area ≡ 2048) where
  -- a middle or end, with what it makes of a progress that fits
  fits_on : (last : Bool) → fits format (cond last (Done (h + length bytes)) (Collecting (h + length bytes))) ≡ true
      → leb (h + length bytes) 2048 ≡ true → Keeps format (appended last h area bytes)
  fits_on false next w = record { fit = next; size = written_length area h bytes (omega (arith, leb-true)) ∙ l }
  fits_on true next w = record { fit = next; size = written_length area h bytes (omega (arith, leb-true)) ∙ l }

  keeps_followed : (last : Bool) → (leb (h + length bytes) 2048 ≡ true → eqb n (awaited (piece_size format) (number_range format) h) ≡ true
      → fits format (cond last (Done (h + length bytes)) (Collecting (h + length bytes))) ≡ true)
      → Keeps format (followed (piece_size format) (number_range format) last (Collecting h) area n bytes)
  unfolding fits
  keeps_followed last next =
      while_collecting (Keeps format) _ _ last area n bytes h (λ a. record { fit = refl; size = l }) (λ a w. record { fit = refl; size = l })
      (λ a w. fits_on last (next w a) w)

fits_start : (format : Format) (k : ℕ) → k ≡ piece_size format → fits format (Collecting k) ≡ true
unfolding fits
fits_start Extended k e = from_each _ (omega tests)
fits_start Standard k e = from_each _ (omega tests)

fits_single : (format : Format) (k : ℕ) → k ≤ 8 → fits format (Done k) ≡ true
unfolding fits
fits_single Extended k h = le-leb k 2048 (omega arith)
fits_single Standard k h = le-leb k 1792 (omega arith)

small : (format : Format) (k : ℕ) → k ≡ piece_size format → k ≤ 2048
small Extended k e = omega arith
small Standard k e = omega arith

keeps_stepped : (format : Format) (flag : Flag) (progress : Progress) (area : List ℕ) (n : ℕ) (bytes : List ℕ) → fits format progress ≡ true → length area ≡ 2048
    → Carries format flag n (length bytes) → Keeps format (stepped (piece_size format) (number_range format) progress area flag n bytes)
unfolding stepped fits
keeps_stepped format Single progress area n bytes f l r =
    record { fit = fits_single format (length bytes) r; size = written_length area 0 bytes (omega arith) ∙ l }
keeps_stepped format Start progress area n bytes f l r =
    let k = small format (length bytes) r in
    record { fit = fits_start format (length bytes) r; size = written_length area 0 bytes (omega arith) ∙ l }
keeps_stepped format Middle Idle area n bytes f l r = while_idle (Keeps format) _ _ false area n bytes (record { fit = refl; size = l })
keeps_stepped format Middle (Done h) area n bytes f l r = while_done (Keeps format) _ _ false area n bytes h (record { fit = f; size = l })
keeps_stepped format Middle (Collecting h) area n bytes f l r =
    keeps_followed format h area n bytes f l false (λ w a. fits_middle format h n (length bytes) f r a w)
keeps_stepped format End Idle area n bytes f l r = while_idle (Keeps format) _ _ true area n bytes (record { fit = refl; size = l })
keeps_stepped format End (Done h) area n bytes f l r = while_done (Keeps format) _ _ true area n bytes h (record { fit = f; size = l })
keeps_stepped format End (Collecting h) area n bytes f l r =
    keeps_followed format h area n bytes f l true (λ w a. fits_end format h n (length bytes) f r w)

pub keeps : (format : Format) (progress : Progress) (area : List ℕ) (frame : Frame) → fits format progress ≡ true → length area ≡ 2048
    → Carrying format frame → Keeps format (step format progress area frame)
unfolding step Carrying
keeps format progress area frame f l r = keeps_stepped format frame.flag progress area frame.number frame.bytes f l r

-- ---- a standard stream has room for every piece that it awaits

NotLongNext : Next → Type 0
NotLongNext next = next.answer ≢ refused (number refusal.Long)

not_kept : (last : Bool) (h : ℕ) (area bytes : List ℕ) → NotLongNext (appended last h area bytes)
unfolding NotLongNext
not_kept false h area bytes = λ e. let z : ◌≡◌ {A = ℕ} 0 1 = cc in absurd (omega arith)
not_kept true h area bytes = λ e. let z : ◌≡◌ {A = ℕ} 0 1 = cc in absurd (omega arith)

-- a middle or end
module _ (last : Bool) (area : List ℕ) (n : ℕ) (bytes : List ℕ) where
  not_followed : (progress : Progress)
      → ((h : ℕ) → progress ≡ Collecting h → eqb n (awaited 7 256 h) ≡ true → leb (h + length bytes) 2048 ≡ true)
      → NotLongNext (followed 7 256 last progress area n bytes)
  unfolding NotLongNext
  not_followed Idle room = while_idle NotLongNext 7 256 last area n bytes (λ e. let z : ◌≡◌ {A = ℕ} 6 8 = cc in absurd (omega arith))
  not_followed (Done h) room = while_done NotLongNext 7 256 last area n bytes h (λ e. let z : ◌≡◌ {A = ℕ} 6 8 = cc in absurd (omega arith))
  not_followed (Collecting h) room =
      while_collecting NotLongNext 7 256 last area n bytes h (λ a e. let z : ◌≡◌ {A = ℕ} 7 8 = cc in absurd (omega arith))
      (λ a w e. let z : false ≡ true = sym w ∙ room h refl a in let y : ◌≡◌ {A = ℕ} 0 1 = cc in absurd (omega arith))
      (λ a w. not_kept last h area bytes)

not_stepped : (flag : Flag) (progress : Progress) (area : List ℕ) (n : ℕ) (bytes : List ℕ) → fits Standard progress ≡ true → Carries Standard flag n (length bytes)
    → NotLongNext (stepped 7 256 progress area flag n bytes)
unfolding stepped NotLongNext fits
not_stepped Single progress area n bytes f r = λ e. let z : ◌≡◌ {A = ℕ} 0 1 = cc in absurd (omega arith)
not_stepped Start progress area n bytes f r = λ e. let z : ◌≡◌ {A = ℕ} 0 1 = cc in absurd (omega arith)
not_stepped Middle progress area n bytes f r =
    not_followed false area n bytes progress
    (λ h p a. let t = each _ (sym (ap (fits Standard) p) ∙ f) in le-leb (h + length bytes) 2048 (omega tests))
not_stepped End progress area n bytes f r =
    not_followed true area n bytes progress
    (λ h p a. let t = each _ (sym (ap (fits Standard) p) ∙ f) in le-leb (h + length bytes) 2048 (omega tests))

pub never_long : (progress : Progress) (area : List ℕ) (frame : Frame) → fits Standard progress ≡ true → Carrying Standard frame
    → (step Standard progress area frame).answer ≢ refused (number refusal.Long)
unfolding step Carrying NotLongNext
never_long progress area frame f r = not_stepped frame.flag progress area frame.number frame.bytes f r
