-- A middle or end, by cases: what is shown of each is shown of the step.
use Prim.Native.Nat.{ℕ, ◌+◌}
use mathlib.Core.Path.{◌≡◌, refl}
use mathlib.Core.Bool.{Bool, true, false, cond}
use mathlib.Core.List.{List}
use lib.Dec.{leb, eqb}
use lib.ListN.{length}
use Rattle.format.specs.declared.Refusal.{Refusal}
use Rattle.format.specs.declared.Refusal.TheVariants.{Orphan, Step, Long}
use Rattle.format.specs.Refusals.{value, refused, number, guarded}
use Rattle.stream.specs.declared.Progress.{Progress}
use Rattle.stream.specs.declared.Progress.TheVariants.{Idle, Collecting, Done}
use Rattle.stream.specs.Step.{Next, awaited, follows, progress_after, or_refused, appended, followed}

-- refused by that name, with a progress then
abbrev pub refused_with : Refusal → Progress → List ℕ → Next
refused_with name progress area = record { answer = refused (number name); progress = progress; area = area }

module _ (Holds : Next → Type 0) (z m : ℕ) (last : Bool) (area : List ℕ) (n : ℕ) (bytes : List ℕ) where
  pub while_idle : Holds (refused_with Orphan Idle area) → Holds (followed z m last Idle area n bytes)
  unfolding followed follows guarded progress_after
  while_idle o = o

  pub while_done : (h : ℕ) → Holds (refused_with Orphan (Done h) area) → Holds (followed z m last (Done h) area n bytes)
  unfolding followed follows guarded progress_after
  while_done h o = o

  pub while_collecting : (h : ℕ)
      → (eqb n (awaited z m h) ≡ false → Holds (refused_with Step Idle area))
      → (eqb n (awaited z m h) ≡ true → leb (h + length bytes) 2048 ≡ false → Holds (refused_with Long Idle area))
      → (eqb n (awaited z m h) ≡ true → leb (h + length bytes) 2048 ≡ true → Holds (appended last h area bytes))
      → Holds (followed z m last (Collecting h) area n bytes)
  unfolding followed follows guarded progress_after
  while_collecting h step long on = go (eqb n (awaited z m h)) (leb (h + length bytes) 2048) refl refl
    where
      go : (a w : Bool) → eqb n (awaited z m h) ≡ a → leb (h + length bytes) 2048 ≡ w
          → Holds (or_refused (Collecting h) area
          (cond a (cond w (value (appended last h area bytes)) (refused (number Long))) (refused (number Step))))
      go false w ea ew = step ea
      go true false ea ew = long ea ew
      go true true ea ew = on ea ew
