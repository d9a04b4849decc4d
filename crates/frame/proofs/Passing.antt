-- The checks of an image by name, where all hold, or the first three.
use Prim.Native.Nat.{ℕ, ◌+◌, ◌≤◌}
use mathlib.Core.Path.{◌≡◌}
use mathlib.Core.Bool.{true}
use mathlib.Core.List.{List, [], ◌∷◌}
use native.Mathlib.Omega.{arith}
use lib.Dec.{leb, eqb}
use lib.ListN.{length}
use borrow.Author.Tests.{leb-true, eqb-true}
use Rattle.format.specs.declared.Format.{Format}
use Rattle.format.specs.Tests.{all_true}
use Rattle.format.specs.Formats.{header_size}
use Rattle.format.proofs.Tests.{each}
use Rattle.format.proofs.Checks.{Passed}
use Rattle.frame.specs.declared.Layout.{Layout}
use Rattle.frame.specs.Layout.{layout}
use Rattle.frame.specs.Judge.{data_count, piece_rule, checks}
use Rattle.frame.specs.Claims.{PassesThree}

pub record Passing (format : Format) (size : ℕ) (said : Layout) : Type 0 where
  -- LENGTH, FORM, REMOTE
  pub least : header_size format ≤ size
  pub most : size ≤ header_size format + 8
  pub formed : said.fixed ≡ true
  pub data_frame : said.rtr ≡ 0
  -- COUNT and SURPLUS; PIECE
  pub counted : size ≡ header_size format + data_count said.code
  pub rule : piece_rule format said.flag (data_count said.code) said.number ≡ true

pub passing : (format : Format) (size : ℕ) (said : Layout) → Passed (checks format size said) → Passing format size said
unfolding checks
passing format size said p =
    let sized = each _ p.0 in
    let enough : header_size format + data_count said.code ≤ size = leb-true _ _ p.1.1.1.0 in
    let few : size ≤ header_size format + data_count said.code = leb-true _ _ p.1.1.1.1.0 in
    record {
      least = leb-true _ _ sized.0;
      most = leb-true _ _ sized.1.0;
      formed = p.1.0;
      data_frame = eqb-true _ _ p.1.1.0;
      counted = omega arith;
      rule = p.1.1.1.1.1.0;
    }

pub passes : (format : Format) (image : List ℕ)
    → all_true (leb (header_size format) (length image) ∷ leb (length image) (header_size format + 8) ∷ []) ≡ true
    → (layout format image).fixed ≡ true → eqb (layout format image).rtr 0 ≡ true → PassesThree format image
passes format image sized formed present =
    let t = each _ sized in
    record { least = leb-true _ _ t.0; most = leb-true _ _ t.1.0; formed = formed; data_frame = eqb-true _ _ present }
