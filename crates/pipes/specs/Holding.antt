-- What the functions that programs share hand back. Document 01 does not speak of them.
use Rattle.std.specs.Prelude.{ℕ, ◌-◌, ◌≤◌, ◌<◌, ◌≡◌, cond, List, ◌++◌, leb, length, take, drop}

-- reading on after the first `held` bytes of an input: r of them are held then. Which bytes were read no contract can say; those that
-- were held stay
pub record ReadOn (input : List ℕ) (held r : ℕ) (last : List ℕ) : Type 0 where
  pub more : held ≤ length input → (held ≤ r) × (r ≤ length input)
  pub none : length input < held → r ≡ held
  pub kept : take held last ≡ take held input

-- how many of the first `held` bytes stand from a place on
abbrev pub left : (input : List ℕ) (at held : ℕ) → ℕ
left input at held = cond (leb held (length input)) (held - at) 0

-- these moved to the front; the other places stay as they are
abbrev pub moved : (input : List ℕ) (at held : ℕ) → List ℕ
moved input at held = take (left input at held) (drop at input) ++ drop (left input at held) input
