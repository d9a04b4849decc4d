-- What each check of an image decides once those before it have passed; proofs/Passing.antt has the checks by name. The code is proved by
-- the definition itself, so these are for a reader, and for proofs that speak of one refusal.
use Prim.Native.Nat.{ℕ, ◌+◌, ◌-◌, ◌≤◌, ◌<◌}
use mathlib.Core.Path.{◌≡◌, sym, ap, ◌∙◌}
use mathlib.Core.Bool.{Bool, true, false}
use mathlib.Core.List.{List, [], ◌∷◌}
use native.Mathlib.Omega.{arith}
use lib.Dec.{leb, eqb}
use lib.ListN.{length}
use borrow.Author.Tests.{le-leb, lt-leb}
use Rattle.format.specs.declared.Format.{Format}
use Rattle.format.specs.declared.Refusal.TheVariants.{Length, Form, Remote, Count, Surplus, Piece}
use Rattle.format.specs.Tests.{all_true}
use Rattle.format.specs.Formats.{header_size}
use Rattle.format.specs.Refusals.{Result, value, refused, Check, check, guarded}
use Rattle.format.proofs.Checks.{stop, pass, none_left}
use Rattle.frame.specs.declared.Layout.{Layout}
use Rattle.frame.specs.Layout.{layout}
use Rattle.frame.specs.Judge.{data_count, piece_rule, checks, Judged, read_by, judge}

both : (a b : Bool) → a ≡ true → b ≡ true → all_true (a ∷ b ∷ []) ≡ true
unfolding all_true
both a b p q = rw (p, q)

first_fails : (a b : Bool) → a ≡ false → all_true (a ∷ b ∷ []) ≡ false
unfolding all_true
first_fails a b p = rw p

second_fails : (a b : Bool) → a ≡ true → b ≡ false → all_true (a ∷ b ∷ []) ≡ false
unfolding all_true
second_fails a b p q = rw (p, q)

-- what the piece rule decides, once all other checks have passed
pub record ByRule (format : Format) (image : List ℕ) (said : Layout) (rule : Bool) : Type 0 where
  pub broken : rule ≡ false → refused 5 ≡ judge format image
  pub kept : rule ≡ true → value (read_by said image) ≡ judge format image

-- what the number of data bytes decides, once LENGTH, FORM and REMOTE have passed: fewer than the count says, more, or as many
pub record ByLength (format : Format) (image : List ℕ) (said : Layout) (count data' wide : ℕ) : Type 0 where
  pub fewer : data' < wide → refused 4 ≡ judge format image
  pub more : wide < data' → refused 25 ≡ judge format image
  pub exact : data' ≡ wide → (rule : Bool) → rule ≡ piece_rule format said.flag count said.number → ByRule format image said rule

-- the last check, and the last two
abbrev ruling : Format → Layout → List Check
ruling format said = check Piece (piece_rule format said.flag (data_count said.code) said.number) ∷ []

abbrev bounding : Format → (size : ℕ) → Layout → List Check
bounding format size said = check Surplus (leb size (header_size format + data_count said.code)) ∷ ruling format said

-- header, number of data bytes and layout, as the code has them
module _ (format : Format) (image : List ℕ) (said : Layout) (e : said ≡ layout format image) (header : ℕ) (eh : header ≡ header_size format) where
  judged : {r : Result Judged} → r ≡ guarded (checks format (length image) said) (read_by said image) → r ≡ judge format image
  unfolding judge
  judged h = h ∙ ap (λ (l : Layout). guarded (checks format (length image) l) (read_by l image)) e

  pub too_short : length image < header → refused 1 ≡ judge format image
  unfolding checks
  too_short h = let m : length image < header_size format = omega arith in judged (stop Length _ _ (first_fails _ _ (lt-leb _ _ m)))

  pub too_long : header ≤ length image → 8 < length image - header → refused 1 ≡ judge format image
  unfolding checks
  too_long h k =
      let l : header_size format ≤ length image = omega arith in
      let m : header_size format + 8 < length image = omega arith in
      judged (stop Length _ _ (second_fails _ _ (le-leb _ _ l) (lt-leb _ _ m)))

  module _ (h : header ≤ length image) (k : length image - header ≤ 8) where
    sized : all_true (leb (header_size format) (length image) ∷ leb (length image) (header_size format + 8) ∷ []) ≡ true
    sized =
        let l : header_size format ≤ length image = omega arith in
        let m : length image ≤ header_size format + 8 = omega arith in
        both _ _ (le-leb _ _ l) (le-leb _ _ m)

    pub misformed : said.fixed ≡ false → refused 2 ≡ judge format image
    unfolding checks
    misformed f = judged (pass Length _ _ sized (stop Form _ _ f))

    module _ (f : said.fixed ≡ true) where
      pub remote : eqb said.rtr 0 ≡ false → refused 3 ≡ judge format image
      unfolding checks
      remote r = judged (pass Length _ _ sized (pass Form _ _ f (stop Remote _ _ r)))

      module _ (r : eqb said.rtr 0 ≡ true) where
        -- the count that `judge` has read from the count code, and the same as a length
        module _ (count : ℕ) (ec : count ≡ data_count said.code) (wide : ℕ) (ew : wide ≡ count) where
          fewer : length image - header < wide → refused 4 ≡ judge format image
          unfolding checks
          fewer n =
              let m : length image < header_size format + count = omega arith in
              judged (pass Length _ _ sized (pass Form _ _ f (pass Remote _ _ r (stop Count _ _ (rw (← ec) (lt-leb _ _ m))))))

          -- the checks before SURPLUS
          to-the-length : {x : Result Judged} → wide ≤ length image - header
              → x ≡ guarded (bounding format (length image) said) (read_by said image) → x ≡ judge format image
          unfolding checks
          to-the-length n left =
              let m : header_size format + count ≤ length image = omega arith in
              judged (pass Length _ _ sized (pass Form _ _ f (pass Remote _ _ r (pass Count _ _ (rw (← ec) (le-leb _ _ m)) left))))

          more : wide < length image - header → refused 25 ≡ judge format image
          more n =
              let m : header_size format + count < length image = omega arith in
              to-the-length (omega arith) (stop Surplus _ _ (rw (← ec) (lt-leb _ _ m)))

          -- the checks before PIECE
          to-the-rule : {x : Result Judged} → length image - header ≡ wide → x ≡ guarded (ruling format said) (read_by said image)
              → x ≡ judge format image
          to-the-rule n left =
              let m : length image ≤ header_size format + count = omega arith in
              to-the-length (omega arith) (pass Surplus _ _ (rw (← ec) (le-leb _ _ m)) left)

          pub by_length : ByLength format image said count (length image - header) wide
          by_length =
              record {
                fewer = fewer;
                more = more;
                exact = λ n rule er.
                    record {
                      broken = λ p. to-the-rule n (stop Piece _ _ (rw (← ec) (sym er ∙ p)));
                      kept = λ p. to-the-rule n (pass Piece _ _ (rw (← ec) (sym er ∙ p)) (none_left _));
                    };
              }
