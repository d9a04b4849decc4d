-- Each refusal has a number of its own, and each answer a meaning of its own. That the numbers differ, and what else holds of every one
-- of them, is computed over the list of all: a refusal more needs no line here.
use Prim.Native.Nat.{ℕ}
use mathlib.Core.Path.{◌≡◌, refl, sym, ap, ◌∙◌}
use mathlib.Core.Bool.{Bool, true, not, ◌&&◌}
use mathlib.Core.List.{List, [], ◌∷◌, map}
use mathlib.Core.Logic.{inl, inr}
use native.Mathlib.Omega.{arith}
use lib.Dec.{eqb}
use borrow.Author.Tests.{eqb-false, not-true}
use denote.Struct.Field.{Field}
use denote.Enum.Declared.{Choice}
use Rattle.format.specs.declared.Refusal.{Refusal}
use Rattle.std.specs.Prelude.{Err, Ok}
use Rattle.format.specs.Refusals.{Result, value, refused, number, Returned, meaning}
use Rattle.format.specs.Tests.{all_after, all_true}
use Rattle.format.specs.Claims.{OneNumber, OneMeaning}
use Rattle.format.specs.contracts.Refusal.{the_parts as parts, as_values, the_make as make, the_eta as eta}
use Rattle.format.proofs.Tests.{Each, each}
use Rattle.format.proofs.Tables.{and_true}

-- ---- any enum without fields

-- no variant has a field
abbrev Plain : List (List Field) → Type 0
Plain [] = Unit {0}
Plain ([] ∷ variants) = Plain variants
Plain ((field ∷ fields) ∷ variants) = ⊥

-- a number for each variant, in their order
abbrev listed : (variants : List (List Field)) → Plain variants → (Choice variants → ℕ) → List ℕ
listed [] p f = []
listed ([] ∷ variants) p f = f (inl tt) ∷ listed variants p (λ c. f (inr c))
listed ((field ∷ fields) ∷ variants) p f = absurd p

-- a test of every number in the list holds of the number of each variant
tested : (variants : List (List Field)) (p : Plain variants) (f : Choice variants → ℕ) (test : ℕ → Bool)
    → Each (map test (listed variants p f)) → (c : Choice variants) → test (f c) ≡ true
tested [] p f test e c = absurd c
tested ([] ∷ variants) p f test e (inl u) = e.0
tested ([] ∷ variants) p f test e (inr c) = tested variants p (λ c. f (inr c)) test e.1 c
tested ((field ∷ fields) ∷ variants) p f test e c = absurd p

-- whether no number stands twice in the list
abbrev is_none : ℕ → List ℕ → Bool
is_none n ns = all_true (map (λ m. not (eqb n m)) ns)

abbrev apart : List ℕ → Bool
apart [] = true
apart (n ∷ ns) = is_none n ns && apart ns

split : (n : ℕ) (ns : List ℕ) → apart (n ∷ ns) ≡ true → (is_none n ns ≡ true) × (apart ns ≡ true)
split n ns e = and_true (is_none n ns) (apart ns) e

-- a number that is none of the others'
other : (variants : List (List Field)) (p : Plain variants) (f : Choice ([] ∷ variants) → ℕ)
    → is_none (f (inl tt)) (listed variants p (λ c. f (inr c))) ≡ true → (c : Choice variants) → f (inl tt) ≡ f (inr c) → ⊥
other variants p f e c n =
    eqb-false _ _ (not-true _ (tested variants p (λ c. f (inr c)) (λ m. not (eqb (f (inl tt)) m)) (each _ e) c)) n

-- then no two variants have one number
one_choice : (variants : List (List Field)) (p : Plain variants) (f : Choice variants → ℕ) → apart (listed variants p f) ≡ true
    → (c d : Choice variants) → f c ≡ f d → c ≡ d
one_choice [] p f e c d n = absurd c
one_choice ([] ∷ variants) p f e (inl u) (inl v) n = refl
one_choice ([] ∷ variants) p f e (inl u) (inr d) n = absurd (other variants p f (split (f (inl tt)) (listed variants p (λ c. f (inr c))) e).0 d n)
one_choice ([] ∷ variants) p f e (inr c) (inl u) n = absurd (other variants p f (split (f (inl tt)) (listed variants p (λ c. f (inr c))) e).0 c (sym n))
one_choice ([] ∷ variants) p f e (inr c) (inr d) n = ap inr (one_choice variants p (λ c. f (inr c)) (split (f (inl tt)) (listed variants p (λ c. f (inr c))) e).1 c d n)
one_choice ((field ∷ fields) ∷ variants) p f e c d n = absurd p

-- ---- refusals

abbrev pub numbers : List ℕ
numbers = listed parts tt (λ c. number (make c))

pub each_number : (test : ℕ → Bool) → all_true (map test numbers) ≡ true → (a : Refusal) → test (number a) ≡ true
each_number test e a =
    ap (λ (b : Refusal). test (number b)) (sym (eta a)) ∙ tested parts tt (λ c. number (make c)) test (each _ e) (as_values a)

pub one_number : OneNumber
unfolding OneNumber all_true all_after
one_number a b e =
    let same = one_choice parts tt (λ c. number (make c)) refl (as_values a) (as_values b) (ap number (eta a) ∙ e ∙ ap number (sym (eta b))) in
    sym (eta a) ∙ ap make same ∙ eta b

-- ---- answers

one_value : {B : Type 0} {x y : B} → value x ≡ value y → x ≡ y
one_value e = cc

no_value : {B : Type 0} {x : B} {n : ℕ} → value x ≡ refused n → ⊥
no_value e = let z : ◌≡◌ {A = ℕ} 0 1 = cc in omega arith

one_refused : {B : Type 0} {m n : ℕ} → ◌≡◌ {A = Result B} (refused m) (refused n) → m ≡ n
one_refused e = cc

-- a meaning leaves no doubt which answer it is, where what it says of a value can be read back, and of a refusal it says the number:
-- then answers of one meaning are the same
pub one_of : {A B : Type 0} (means : Returned A → Result B) (back : B → A)
    → ((a : A) → (b : B) × ((means (Ok a) ≡ value b) × (back b ≡ a)))
    → ((name : Refusal) → means (Err name) ≡ refused (number name))
    → (a b : Returned A) → means a ≡ means b → a ≡ b
unfolding OneNumber
one_of means back told by_number (Ok a) (Ok b) e =
    let s = told a in
    let t = told b in
    let i : s.0 ≡ t.0 = one_value (sym s.1.0 ∙ e ∙ t.1.0) in
    ap Ok (sym s.1.1 ∙ ap back i ∙ t.1.1)
one_of means back told by_number (Ok a) (Err n) e = absurd (no_value (sym (told a).1.0 ∙ e ∙ by_number n))
one_of means back told by_number (Err m) (Ok b) e = absurd (no_value (sym (told b).1.0 ∙ sym e ∙ by_number m))
one_of means back told by_number (Err m) (Err n) e = ap Err (one_number m n (one_refused (sym (by_number m) ∙ e ∙ by_number n)))

pub one_meaning : OneMeaning
unfolding OneMeaning
one_meaning = one_of meaning (λ n. n) (λ n. (n, (refl, refl))) (λ name. refl)
