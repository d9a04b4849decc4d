-- Which way a length is wrong: COUNT exactly for an image too short for its count, SURPLUS exactly for one too long.
use Prim.Native.Nat.{ℕ, ◌+◌, ◌<◌}
use mathlib.Core.Path.{◌≡◌, refl}
use mathlib.Core.Logic.{◌≢◌}
use mathlib.Core.List.{List}
use native.Mathlib.Omega.{arith}
use lib.ListN.{length}
use borrow.Author.Tests.{leb-false}
use Rattle.format.specs.declared.Format.{Format}
use Rattle.format.specs.declared.Refusal.TheVariants.{Count, Surplus}
use Rattle.format.specs.Formats.{header_size}
use Rattle.format.specs.Refusals.{refused, number, guarded}
use Rattle.format.proofs.Checks.{refused_where}
use Rattle.frame.specs.declared.Layout.{Layout}
use Rattle.frame.specs.Layout.{layout}
use Rattle.frame.specs.Judge.{data_count, checks, judge}
use Rattle.frame.specs.Image.{count_code}
use Rattle.frame.specs.Claims.{PassesThree, WhichWay}
use Rattle.frame.proofs.Passing.{passes}
use Rattle.std.proofs.lemmas.Grind.{common_steps}
use Rattle.format.specs.Tests.{all_true, all_after}

module _ (format : Format) (image : List ℕ) where
  abbrev said : Layout
  said = layout format image

  -- header and count
  abbrev expected : ℕ
  expected = header_size format + data_count (count_code format image)

  -- what a refusal by n says, if n is one of the two numbers
  abbrev Found : ℕ → Type 0
  Found n =
      (n ≡ number Count → PassesThree format image × (length image < expected))
      × (n ≡ number Surplus → PassesThree format image × (expected < length image))

  neither : (n : ℕ) → (n ≢ number Count) × (n ≢ number Surplus) → Found n
  neither n h = (λ q. absurd (h.0 q), λ q. absurd (h.1 q))

  found : (n : ℕ) → judge format image ≡ refused n → Found n
  unfolding judge checks
  found n e =
      refused_where Found (checks format (length image) said) (
        (λ _. neither _ (omega arith)),
        λ sized. (
          (λ _. neither _ (omega arith)),
          λ formed. (
            (λ _. neither _ (omega arith)),
            λ present.
                let three = passes format image sized formed present in (
                  (λ z. (λ _. (three, leb-false _ _ z), λ q. absurd (omega arith))),
                  λ _. (
                    (λ z. (λ q. absurd (omega arith), λ _. (three, leb-false _ _ z))),
                    λ _. ((λ _. neither _ (omega arith)), λ _. tt),
                  ),
                ),
          ),
        ),
      )
      _ n e

  short_refused : PassesThree format image → length image < expected → judge format image ≡ refused (number Count)
  unfolding judge checks guarded all_true all_after
  short_refused p h = grind (arith, common_steps, p.least, p.most, p.formed, p.data_frame)

  long_refused : PassesThree format image → expected < length image → judge format image ≡ refused (number Surplus)
  unfolding judge checks guarded all_true all_after
  long_refused p h = grind (arith, common_steps, p.least, p.most, p.formed, p.data_frame)

pub which_way : WhichWay
which_way =
    record {
      short = λ format image. record {
        only = λ e. let f = (found format image _ e).0 refl in (f.0, omega (arith, f.1));
        always = short_refused format image;
      };
      long = λ format image. record {
        only = λ e. let f = (found format image _ e).1 refl in (f.0, omega (arith, f.1));
        always = long_refused format image;
      };
    }
