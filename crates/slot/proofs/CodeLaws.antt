-- For sound slots the codes tell what the keys tell.
use Prim.Native.Nat.{ℕ, zero, suc, ◌+◌, ◌<◌, ◌≤◌}
use native.Mathlib.Omega.{arith}
use mathlib.Core.Path.{◌≡◌, refl, ◌∙◌, sym, ap}
use mathlib.Core.Bool.{Bool, true, false, cond, ◌&&◌, ◌||◌, not}
use mathlib.Core.List.{List, [], ◌∷◌}
use lib.ListN.{length, get_or}
use lib.Dec.{eqb}
use borrow.Author.Tests.{eqb-true, leb-true, eq-eqb, ne_eqb}
use Rattle.format.specs.declared.Format.{Format}
use Rattle.format.specs.declared.Fields.{Fields}
use Rattle.format.specs.declared.Fields.TheVariants.{Extended, Standard}
use Rattle.format.specs.Tests.{all_true}
use Rattle.format.specs.Formats.{in_range}
use Rattle.format.proofs.Tests.{each, from_each}
use Rattle.format.specs.declared.Refusal.{Refusal}
use Rattle.format.specs.declared.Refusal.TheVariants.{State}
use Rattle.slot.specs.declared.Key.{Key}
use Rattle.slot.specs.declared.Slot.{Slot}
use Rattle.std.specs.Prelude.{Option}
use Rattle.slot.specs.declared.Stream.{Stream}
use Rattle.std.specs.Prelude.{None, Some, Ok, Err, position}
use Rattle.std.specs.Option.{ok_or}
use Rattle.slot.specs.Slots.{same_fields, same_key, open_with, has_key, place}
use Rattle.slot.specs.Sound.{key_in_range, slot_sound, slots_sound, any, repeated_in, keys_differ, sound, sought}
use Rattle.slot.specs.Codes.{code_of, key_code, slot_code, codes_from, is, clashing}
use Rattle.slot.proofs.Keys.{same_key_lem}
use Rattle.slot.proofs.Places.{same_position, position_nowhere, position_some, position_none}
use Rattle.slot.proofs.SoundLaws.{range_of, head_sound, rest_sound, out_of_range}

alike : (x y : Bool) → (x ≡ true → y ≡ true) → (y ≡ true → x ≡ true) → x ≡ y
alike true y h g = sym (h refl)
alike false true h g = g refl
alike false false h g = refl

-- what being in range says of the fields, as numbers
record Ext (p s g d f : ℕ) : Type 0 where
  pub p3 : p ≤ 3
  pub s63 : s ≤ 63
  pub g3 : g ≤ 3
  pub d63 : d ≤ 63
  pub f31 : f ≤ 31

record Std (p a s : ℕ) : Type 0 where
  pub p3 : p ≤ 3
  pub a63 : a ≤ 63
  pub s1 : s ≤ 1

Bounds : Fields → Type 0
Bounds (Extended p s g d f) = Ext p s g d f
Bounds (Standard p a s) = Std p a s

bounds : (fields : Fields) → in_range fields ≡ true → Bounds fields
unfolding Bounds in_range
bounds (Extended p s g d f) e =
    let t = each _ e in
    record {
      p3 = leb-true p 3 t.0;
      s63 = leb-true s 63 t.1.0;
      g3 = leb-true g 3 t.1.1.0;
      d63 = leb-true d 63 t.1.1.1.0;
      f31 = leb-true f 31 t.1.1.1.1.0;
    }
bounds (Standard p a s) e =
    let t = each _ e in
    record { p3 = leb-true p 3 t.0; a63 = leb-true a 63 t.1.0; s1 = leb-true s 1 t.1.1.0 }

record InRange (key : Key) : Type 0 where
  pub bus : key.bus ≤ 1
  pub fields : Bounds key.fields

in_range_lem : (format : Format) (key : Key) → key_in_range format key ≡ true → InRange key
unfolding key_in_range
in_range_lem format key e =
    let t = each _ e in
    record { bus = leb-true key.bus 1 t.0; fields = bounds key.fields t.1.1.0 }

-- a code in range is small
small_fields : (a : Fields) (m : ℕ) → Bounds a → m ≤ 1 → code_of m a < 1073741824
unfolding Bounds
small_fields (Extended p s g d f) m r h = omega (arith, r.p3, r.s63, r.g3, r.d63, r.f31)
small_fields (Standard p a s) m r h = omega (arith, r.p3, r.a63, r.s1)

pub small : (format : Format) (key : Key) → key_in_range format key ≡ true → key_code key < 1073741824
small format key e = let r = in_range_lem format key e in small_fields key.fields key.bus r.fields r.bus

-- equal codes in range: equal fields
told : (a b : Fields) (m n : ℕ) → Bounds a → Bounds b → m ≤ 1 → n ≤ 1 → code_of m a ≡ code_of n b
    → all_true (eqb m n ∷ same_fields a b ∷ []) ≡ true
unfolding Bounds same_fields
told (Extended p s g d f) (Extended p' s' g' d' f') m n r r' h h' q =
    let qd : d ≡ d' = omega (arith, r.p3, r.s63, r.g3, r.d63, r.f31, r'.p3, r'.s63, r'.g3, r'.d63, r'.f31) in
    let qg : g ≡ g' = omega (arith, r.p3, r.s63, r.g3, r.f31, r'.p3, r'.s63, r'.g3, r'.f31) in
    let qs : s ≡ s' = omega (arith, r.p3, r.s63, r.f31, r'.p3, r'.s63, r'.f31) in
    let qm : m ≡ n = omega (arith, r.p3, r.f31, r'.p3, r'.f31) in
    let qf : f ≡ f' = omega (arith, r.p3, r.f31, r'.p3, r'.f31) in
    let qp : p ≡ p' = omega arith in
    from_each _ (
      eq-eqb m n qm,
      (from_each _ (eq-eqb p p' qp, (eq-eqb s s' qs, (eq-eqb g g' qg, (eq-eqb d d' qd, (eq-eqb f f' qf, tt))))), tt),
    )
told (Standard p a s) (Standard p' a' s') m n r r' h h' q =
    let qs : s ≡ s' = omega (arith, r.p3, r.a63, r.s1, r'.p3, r'.a63, r'.s1) in
    let qa : a ≡ a' = omega (arith, r.p3, r.a63, r'.p3, r'.a63) in
    let qm : m ≡ n = omega (arith, r.p3, r'.p3) in
    let qp : p ≡ p' = omega arith in
    from_each _ (eq-eqb m n qm, (from_each _ (eq-eqb p p' qp, (eq-eqb a a' qa, (eq-eqb s s' qs, tt))), tt))
told (Extended p s g d f) (Standard p' a' s') m n r r' h h' q =
    let z : ◌≡◌ {A = ℕ} 0 1 = omega (arith, r.p3, r.s63, r.f31, r'.p3, r'.a63) in absurd (omega arith)
told (Standard p a s) (Extended p' s' g' d' f') m n r r' h h' q =
    let z : ◌≡◌ {A = ℕ} 0 1 = omega (arith, r.p3, r.a63, r'.p3, r'.s63, r'.f31) in absurd (omega arith)

pub key_code_fits : (format : Format) (key : Key) → key_in_range format key ≡ true → key_code key < 4294967296
key_code_fits format key e = omega (arith, small format key e)

-- of keys in range, the codes are equal exactly where the keys are the same
pub key_code_lem : (format : Format) (a b : Key) → key_in_range format a ≡ true → key_in_range format b ≡ true → eqb (key_code a) (key_code b) ≡ same_key a b
unfolding same_key
key_code_lem format a b e e' =
    let r = in_range_lem format a e in
    let r' = in_range_lem format b e' in
    alike (eqb (key_code a) (key_code b)) (same_key a b)
    (λ q. told a.fields b.fields a.bus b.bus r.fields r'.fields r.bus r'.bus (eqb-true (key_code a) (key_code b) q))
    (λ q. eq-eqb (key_code a) (key_code b) (ap key_code (same_key_lem a b q)))

-- a sound slot's code is a key's exactly where the slot is open with it
slot_code_lem : (format : Format) (o : Option Stream) (i : ℕ) (key : Key) → slot_sound format o ≡ true → key_in_range format key ≡ true
    → eqb (slot_code o i) (key_code key) ≡ open_with key o
slot_code_lem format None i key e r = let h = small format key r in ne_eqb (slot_code None i) (key_code key) (λ z. omega (arith, h))
slot_code_lem format (Some stream) i key e r = key_code_lem format stream.key key (range_of format stream e) r

pub slot_fits : (format : Format) (o : Option Stream) (i : ℕ) → i < 16 → slot_sound format o ≡ true → slot_code o i < 4294967296
slot_fits format None i h e = omega arith
slot_fits format (Some stream) i h e = omega (arith, small format stream.key (range_of format stream e))

or_both : (a b a' b' : Bool) → a ≡ a' → b ≡ b' → (a || b) ≡ (a' || b')
or_both a b a' b' e q = cc

any_open : (format : Format) (key : Key) (slots : List Slot) (i : ℕ) → key_in_range format key ≡ true → slots_sound format slots ≡ true
    → any (is (key_code key)) (codes_from slots i) ≡ any (has_key key) slots
unfolding any
any_open format key [] i r e = refl
any_open format key (slot ∷ slots) i r e =
    or_both (is (key_code key) (slot_code slot.occupancy i)) (any (is (key_code key)) (codes_from slots (i + 1))) (has_key key slot) (any (has_key key) slots)
    (slot_code_lem format slot.occupancy i key (head_sound format slot slots e) r)
    (any_open format key slots (i + 1) r (rest_sound format slot slots e))

closed_apart : (format : Format) (o : Option Stream) (i j : ℕ) → i < j → slot_sound format o ≡ true → eqb (slot_code o j) (slot_code None i) ≡ false
closed_apart format None i j h e = ne_eqb (slot_code None j) (slot_code None i) (λ z. omega arith)
closed_apart format (Some stream) i j h e =
    let g = small format stream.key (range_of format stream e) in
    ne_eqb (key_code stream.key) (slot_code None i) (λ z. omega (arith, g))

any_closed : (format : Format) (slots : List Slot) (i j : ℕ) → i < j → slots_sound format slots ≡ true → any (is (slot_code None i)) (codes_from slots j) ≡ false
unfolding any
any_closed format [] i j h e = refl
any_closed format (slot ∷ slots) i j h e =
    or_both (is (slot_code None i) (slot_code slot.occupancy j)) (any (is (slot_code None i)) (codes_from slots (j + 1))) false false
    (closed_apart format slot.occupancy i j h (head_sound format slot slots e))
    (any_closed format slots i (j + 1) (omega arith) (rest_sound format slot slots e))

-- a slot's code is there again exactly where its key is
head_same : (format : Format) (o : Option Stream) (slots : List Slot) (i : ℕ) → slot_sound format o ≡ true → slots_sound format slots ≡ true
    → any (is (slot_code o i)) (codes_from slots (i + 1)) ≡ repeated_in o slots
head_same format None slots i e g = any_closed format slots i (i + 1) (omega arith) g
head_same format (Some stream) slots i e g = any_open format stream.key slots (i + 1) (range_of format stream e) g

join : (a a' d c : Bool) → a' ≡ a → d ≡ not c → (not a && d) ≡ not (a' || c)
join true a' d c h g = rw h
join false a' d c h g = rw (h, g)

-- open keys of sound slots differ exactly where no two codes are equal
pub differ_codes : (format : Format) (slots : List Slot) (i : ℕ) → slots_sound format slots ≡ true → keys_differ slots ≡ not (clashing (codes_from slots i))
unfolding keys_differ all_true
differ_codes format [] i e = refl
differ_codes format (slot ∷ slots) i e =
    let rest = rest_sound format slot slots e in
    join (repeated_in slot.occupancy slots) (any (is (slot_code slot.occupancy i)) (codes_from slots (i + 1))) (keys_differ slots) (clashing (codes_from slots (i + 1)))
    (head_same format slot.occupancy slots i (head_sound format slot slots e) rest)
    (differ_codes format slots (i + 1) rest)

cond_same : (b b' : Bool) (x x' : ℕ) → b ≡ b' → x ≡ x' → cond b 0 (suc x) ≡ cond b' 0 (suc x')
cond_same b b' x x' e q = cc

-- the search among the codes finds what the search among the slots finds
pub place_codes : (format : Format) (key : Key) (slots : List Slot) (i : ℕ) → key_in_range format key ≡ true → slots_sound format slots ≡ true
    → place (is (key_code key)) (codes_from slots i) ≡ place (has_key key) slots
unfolding place
place_codes format key [] i r e = refl
place_codes format key (slot ∷ slots) i r e =
    cond_same (is (key_code key) (slot_code slot.occupancy i)) (has_key key slot) (place (is (key_code key)) (codes_from slots (i + 1))) (place (has_key key) slots)
    (slot_code_lem format slot.occupancy i key (head_sound format slot slots e) r)
    (place_codes format key slots (i + 1) r (rest_sound format slot slots e))

pub codes_length : (slots : List Slot) (i : ℕ) → length (codes_from slots i) ≡ length slots
codes_length [] i = refl
codes_length (slot ∷ slots) i = ap suc (codes_length slots (i + 1))

pub codes_at : (slots : List Slot) (n i : ℕ) (d : Slot) → i < length slots → get_or (codes_from slots n) i 0 ≡ slot_code (get_or slots i d).occupancy (n + i)
codes_at [] n i d h = absurd (omega arith)
codes_at (slot ∷ slots) n zero d h = let z : n ≡ n + 0 = omega arith in ap (slot_code slot.occupancy) z
codes_at (slot ∷ slots) n (suc i) d h =
    let z : n + 1 + i ≡ n + suc i = omega arith in
    codes_at slots (n + 1) i d (omega arith) ∙ ap (slot_code (get_or slots i d).occupancy) z

-- what the scan for the codes of sound slots, and the comparison of these, say of soundness
module _ (format : Format) (slots : List Slot) (sixteen : length slots ≡ 16) where
  pub unsound : slots_sound format slots ≡ false → sound format slots ≡ false
  unfolding sound all_true
  unsound e = rw (eq-eqb (length slots) 16 sixteen, e)

  pub sound_codes : (codes : List ℕ) → slots_sound format slots ≡ true → codes ≡ codes_from slots 0 → sound format slots ≡ not (clashing codes)
  unfolding sound all_true
  sound_codes codes e q = rw (eq-eqb (length slots) 16 sixteen, e, q) (differ_codes format slots 0 e)

module _ (format : Format) (slots : List Slot) (found : Option (List ℕ)) (scan : found ≡ cond (slots_sound format slots) (Some (codes_from slots 0)) None) where
  pub scanned_none : (name : Refusal) → ok_or found State ≡ Err name → (slots_sound format slots ≡ false) × (name ≡ State)
  scanned_none name q = go (slots_sound format slots) (sym q ∙ ap (λ o. ok_or o State) scan)
    where
      go : (b : Bool) → Err name ≡ ok_or (cond b (Some (codes_from slots 0)) None) State → (b ≡ false) × (name ≡ State)
      go true e = cc
      go false e = (refl, cc)

  pub scanned_some : (codes : List ℕ) → ok_or found State ≡ Ok codes → (slots_sound format slots ≡ true) × (codes ≡ codes_from slots 0)
  scanned_some codes q = go (slots_sound format slots) (sym q ∙ ap (λ o. ok_or o State) scan)
    where
      go : (b : Bool) → Ok codes ≡ ok_or (cond b (Some (codes_from slots 0)) None) State → (b ≡ true) × (codes ≡ codes_from slots 0)
      go true e = (refl, cc)
      go false e = cc

-- the search for a key among the codes finds what the search among the slots finds: no key out of range is open in sound slots
pub find_key : (format : Format) (slots : List Slot) (key : Key) (codes : List ℕ) → slots_sound format slots ≡ true → codes ≡ codes_from slots 0
    → cond (key_in_range format key) (position (is (key_code key)) codes) None ≡ position (has_key key) slots
find_key format slots key codes s q = go (key_in_range format key) refl
  where
    go : (b : Bool) → key_in_range format key ≡ b → cond b (position (is (key_code key)) codes) None ≡ position (has_key key) slots
    go true r =
        ap (position (is (key_code key))) q
        ∙ same_position _ _ _ _ (place_codes format key slots 0 r s) (codes_length slots 0)
    go false r = sym (position_nowhere _ _ (out_of_range format key slots r s))

-- what is sought, by what was found out
module _ (format : Format) (slots : List Slot) (key : Key) where
  pub sought_unsound : sound format slots ≡ false → Err State ≡ sought format slots key
  sought_unsound e = rw e refl

  -- by what the search among the codes found
  pub sought_key : (codes : List ℕ) (found : Option ℕ) → slots_sound format slots ≡ true → codes ≡ codes_from slots 0 → sound format slots ≡ true
      → found ≡ cond (key_in_range format key) (position (is (key_code key)) codes) None → Ok found ≡ sought format slots key
  sought_key codes found s q e w = rw (e, w, find_key format slots key codes s q) refl

  -- and back: what a search says of soundness, and where it found the key
  pub sought_refused : (name : Refusal) → Err name ≡ sought format slots key → (sound format slots ≡ false) × (name ≡ State)
  sought_refused name q = go (sound format slots) refl q
    where
      go : (b : Bool) → sound format slots ≡ b → Err name ≡ cond b (Ok (position (has_key key) slots)) (Err State) → (b ≡ false) × (name ≡ State)
      go true e q = cc
      go false e q = (refl, cc)

  pub sought_found : (found : Option ℕ) → Ok found ≡ sought format slots key → (sound format slots ≡ true) × (found ≡ position (has_key key) slots)
  sought_found found q = go (sound format slots) q
    where
      go : (b : Bool) → Ok found ≡ cond b (Ok (position (has_key key) slots)) (Err State) → (b ≡ true) × (found ≡ position (has_key key) slots)
      go true q = (refl, cc)
      go false q = cc

  pub sought_some : (i : ℕ) → Ok (Some i) ≡ sought format slots key → (sound format slots ≡ true) × (i ≡ place (has_key key) slots) × (i < length slots)
  sought_some i q = let f = sought_found (Some i) q in let at = position_some (has_key key) slots i f.1 in (f.0, at.0, at.1)

  pub sought_none : Ok None ≡ sought format slots key → (sound format slots ≡ true) × (place (has_key key) slots ≡ length slots)
  sought_none q = let f = sought_found None q in (f.0, position_none (has_key key) slots f.1)
