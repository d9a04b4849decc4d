-- Tests that all have to hold: `all_true (a ∷ b ∷ c ∷ [])` is `a && b && c`.
use Rattle.std.specs.Prelude.{Bool, true, ◌&&◌, List, [], ◌∷◌}

unfoldable pub all_after : Bool → List Bool → Bool
all_after b [] = b
all_after b (c ∷ cs) = all_after (b && c) cs

unfoldable pub all_true : List Bool → Bool
unfolding all_after
all_true bs = all_after true bs
