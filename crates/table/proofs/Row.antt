-- A row of records in memory, as an open slice of them has it. Nothing here speaks of a function.
--     look_elem            a share of the row stands in the context: record i is read where it lies, and the context stays
--     row_knows            a row's records each have their relation, and so has the whole as an array; the row stays
--     listed               a list of n records is its records, one by one (`tabulate`)
--     within, slot_typed   a place in a table of sixteen; the type of a record's machine value
--     cell_row, row_cell   a local array of sixteen is a row, and back: how such an array is lent as a slice, and comes back
--     field_val, as_field  an array that is a field of a struct
use mathlib.Core.Path.{◌≡◌, refl, sym, ◌∙◌, ap, subst}
use Prim.Native.Nat.{ℕ, zero, suc, ◌+◌, ◌*◌, ◌<◌}
use native.Mathlib.Nat.{not-suc-le-zero, le_of_suc-le-suc, suc_inj, suc-ne-zero}
use mathlib.Core.List.{List, [], ◌∷◌, map}
use lib.Dec.{T as Holds}
use lib.ListN.{length, get_or, length-map}
use seplogic.Ra.Ura.{Ura}
use base.Fraction.{full_share}
use mir.Syntax.{ty_array}
use mir.Val.{Val, WT, has_ty}
use base.Logic.{ent, sep, ex, wand, via}
use base.Fml.{Share, fsep, fat}
use prog.Wp.{read}
use types.Logic.{Logic, sem}
use types.Kit.{Item, Goal, Seq, ‵, raw, mean, ⋆, nth, del, pull, unpull, ◌$◌, ◌∵◌, !, qed, by, move, drop, use1, fsplit, fjoin, fpick, fpack, feq_i, show, assume, frame, done}
use types.Run.{Reads}
use types.Share.{arr_parts}
use denote.Laws.{Is, shows}
use denote.Shadow.{shadow}
use denote.Memory.{cell_at, part_at, shares, part_of}
use denote.Array.{Array, each, array_val, array_vals, Array-Tells, Array-Makes}
use denote.ArrayMemory.{Array-whole, Array-apart}
use denote.Index.{place, place_is, row, elem_out, elem_back}
use denote.Steps.{only, peeks, owned}
use denote.Struct.Steps.{spelt}
use denote.Struct.Laws as LL
use Rattle.slot.specs.declared.Slot.{Slot}
use Rattle.slot.specs.contracts.Slot as S
use Rattle.slot.proofs.Slot.TheLaws as S'

abbrev pub val : Slot → Val
val s = LL.val S.the_type S'.the_laws s

-- how many bytes a record takes
abbrev pub width : ℕ
width = 14

module _ (d : Slot) where
  -- each element's relation, out of the whole's
  of_each : (ys : List Slot) (us : List Val) → shadow (each Slot (S.the_row).own_val ys us) → (k : ℕ) → k < length ys → Is S.the_row (get_or ys k d) (val (get_or ys k d) ∷ [])
  of_each [] us s k l = absurd (not-suc-le-zero l)
  of_each (y ∷ ys) [] s k l = absurd s
  of_each (y ∷ ys) (u ∷ us) s zero l = subst (Is S.the_row y) (LL.tells S.the_type S'.the_laws y (u ∷ []) s.0) s.0
  of_each (y ∷ ys) (u ∷ us) s (suc k) l = of_each ys us s.1 k (le_of_suc-le-suc l)

abbrev pub slots_val : List Slot → List Val
slots_val ys = array_vals (LL.vals S.the_type S'.the_laws) ys

module _ {M : Type 1} {𝓤 : Ura M} {𝓛 : Logic 𝓤} {K : Type 0} {Γ : List (Item 𝓤)} where
  open 𝓛 use {H}

  pub look_elem : K → (n : ℕ) (q : Share) (ys : List Slot) (i : ℕ) (d : Slot) (b o : ℕ) → i < length ys → (p : ℕ) → i * width + o ≡ p → nth 𝓛 n Γ ≡ ‵ (row S.the_row q ys b o) → Reads K 𝓛 Γ S'.mir b p (val (get_or ys i d))
  look_elem t n q ys i d b o l p there e = record {
    go = λ Kt h. subst (λ (p : ℕ). ent 𝓤 (⋆ 𝓛 Γ) (read 𝓤 H S'.mir b p Kt)) (place_is width o i ∙ there)
        (via 𝓤 (sep 𝓤 (sem 𝓛 (row S.the_row q ys b o)) (⋆ 𝓛 (del 𝓛 n Γ)))
        (subst (λ (j : Item 𝓤). ent 𝓤 (⋆ 𝓛 Γ) (sep 𝓤 (mean 𝓛 j) (⋆ 𝓛 (del 𝓛 n Γ)))) e (pull 𝓛 n Γ))
        (qed 𝓛 (‵ (row S.the_row q ys b o) ∷ raw (⋆ 𝓛 (del 𝓛 n Γ)) ∷ []) ∵
        elem_out ! S.the_row (Is S.the_row) (shows 𝓛 S.the_row) (LL.vals S.the_type S'.the_laws) (LL.tells S.the_type S'.the_laws) q ys i d b o l (λ g.
        use1 𝓛 (‵ (fat q S'.mir b (place width o i) (val (get_or ys i d)))) (𝓛.laws.raw_at q S'.mir b (place width o i) (val (get_or ys i d))) $
        show ! (λ (s : Share). ex 𝓤 (λ (u : Val). sep 𝓤 (H.at s S'.mir b (place width o i) u) (wand 𝓤 (H.at s S'.mir b (place width o i) u) (Kt u)))) q $
        show ! (λ (u : Val). sep 𝓤 (H.at q S'.mir b (place width o i) u) (wand 𝓤 (H.at q S'.mir b (place width o i) u) (Kt u))) (val (get_or ys i d)) $ frame ! $
        assume ! (‵ (fat q S'.mir b (place width o i) (val (get_or ys i d)))) $
        use1 𝓛 (‵ (cell_at q (S.the_row).mir (val (get_or ys i d) ∷ []) b (place width o i))) (𝓛.laws.at_raw q S'.mir b (place width o i) (val (get_or ys i d))) $
        elem_back ! S.the_row q ys i d (val (get_or ys i d) ∷ []) b o l $
        by ! (via 𝓤 (⋆ 𝓛 Γ) (subst (λ (j : Item 𝓤). ent 𝓤 (sep 𝓤 (mean 𝓛 j) (⋆ 𝓛 (del 𝓛 n Γ))) (⋆ 𝓛 Γ)) e (unpull 𝓛 n Γ)) h))));
  }

  module _ {G : Goal 𝓤 H} where
    pub row_knows : K → (q : Share) (ys : List Slot) (d : Slot) (b o : ℕ)
        → (Is (Array S.the_row (length ys)) ys (slots_val ys) → ((k : ℕ) → k < length ys → Is S.the_row (get_or ys k d) (val (get_or ys k d) ∷ [])) → Seq K 𝓛 (‵ (row S.the_row q ys b o) ∷ Γ) G)
        → Seq K 𝓛 (‵ (row S.the_row q ys b o) ∷ Γ) G
    unfolding part_of
    row_knows t q ys d b o k =
        feq_i t ℕ (length ys) (length ys) refl $ fjoin t $ use1 𝓛 (‵ (part_at (Array S.the_row (length ys)) q ys b o)) (Array-whole 𝓛 S.the_row q (length ys) ys b o) $
        fpick t (λ vs. fsplit t $ move t (1 ∷ []) $ peeks t (Array S.the_row (length ys)) (Is (Array S.the_row (length ys))) (shows 𝓛 (Array S.the_row (length ys))) ys vs (λ p. move t (1 ∷ 0 ∷ []) $ fjoin t $
        fpack t (List Val) (λ us. fsep (cell_at q (Array S.the_row (length ys)).mir us b o) ((Array S.the_row (length ys)).own_val ys us)) vs $
        use1 𝓛 (‵ ((arr_parts (shares S.the_row) (length ys)).part q ys b o)) (Array-apart 𝓛 S.the_row q tt (length ys) ys b o) $ fsplit t $ drop t $
        k (subst (Is (Array S.the_row (length ys)) ys) (Array-Tells S.the_row (LL.vals S.the_type S'.the_laws) (LL.tells S.the_type S'.the_laws) (length ys) ys vs p) p) (of_each d ys p.0 p.1.1)))

-- a place in a table of sixteen
pub within : (ys : List Slot) → length ys ≡ 16 → (k : ℕ) → k < 16 → k < length ys
within ys sixteen k h = subst (λ (m : ℕ). k < m) (sym sixteen) h

-- a record's machine value has the record's type
pub slot_typed : {M : Type 1} {𝓤 : Ura M} (𝓛 : Logic 𝓤) (y : Slot) → Is S.the_row y (val y ∷ []) → Holds (has_ty S'.mir (val y)) × WT (val y)
slot_typed 𝓛 y g = ((LL.lawful S.the_type S'.the_laws 𝓛).typed y _ g).0

-- the first n values of f
abbrev pub tabulate : (ℕ → Slot) → ℕ → List Slot
tabulate f zero = []
tabulate f (suc n) = f zero ∷ tabulate (λ k. f (suc k)) n

-- a list of n elements is its elements, one by one
pub listed : (d : Slot) (n : ℕ) (ys : List Slot) → length ys ≡ n → tabulate (λ k. get_or ys k d) n ≡ ys
listed d zero [] e = refl
listed d zero (y ∷ ys) e = absurd (suc-ne-zero _ e)
listed d (suc n) [] e = absurd (suc-ne-zero _ (sym e))
listed d (suc n) (y ∷ ys) e = ap (λ (l : List Slot). y ∷ l) (listed d n ys (suc_inj e))

-- an array of sixteen in memory is a row, and back
module _ {M : Type 1} {𝓤 : Ura M} (𝓛 : Logic 𝓤) where
  open 𝓛 use {H}

  pub cell_row : (ys : List Slot) → Is (Array S.the_row 16) ys (slots_val ys) → (b o : ℕ) → ent 𝓤 (H.at full_share (ty_array S'.mir 16) b o (only (slots_val ys))) (sem 𝓛 (row S.the_row full_share ys b o))
  unfolding part_of
  cell_row ys is b o =
      qed 𝓛 (‵ (fat full_share (ty_array S'.mir 16) b o (only (slots_val ys))) ∷ []) ∵ use1 𝓛 (‵ (cell_at full_share (Array S.the_row 16).mir (slots_val ys) b o)) (𝓛.laws.at_raw full_share (ty_array S'.mir 16) b o (only (slots_val ys))) $
      owned ! (Array S.the_row 16) (Is (Array S.the_row 16)) (Array-Makes 𝓛 S.the_row (LL.makes S.the_type S'.the_plain 𝓛) 16) ys _ is $ move ! (1 ∷ 0 ∷ []) $ fjoin ! $
      fpack ! (List Val) (λ us. fsep (cell_at full_share (Array S.the_row 16).mir us b o) ((Array S.the_row 16).own_val ys us)) (slots_val ys) $
      use1 𝓛 (‵ ((arr_parts (shares S.the_row) 16).part full_share ys b o)) (Array-apart 𝓛 S.the_row full_share tt 16 ys b o) $ fsplit ! $ drop ! $ done !

  pub row_cell : (ys : List Slot) → length ys ≡ 16 → (b o : ℕ) → ent 𝓤 (sem 𝓛 (row S.the_row full_share ys b o)) (H.at full_share (ty_array S'.mir 16) b o (only (slots_val ys)))
  unfolding part_of
  row_cell ys e b o =
      qed 𝓛 (‵ (row S.the_row full_share ys b o) ∷ []) ∵ feq_i ! ℕ (length ys) 16 e $ fjoin ! $ use1 𝓛 (‵ (part_at (Array S.the_row 16) full_share ys b o)) (Array-whole 𝓛 S.the_row full_share 16 ys b o) $
      fpick ! (λ vs. fsplit ! $ spelt ! (Array S.the_row 16) (Is (Array S.the_row 16)) (shows 𝓛 (Array S.the_row 16)) slots_val (Array-Tells S.the_row (LL.vals S.the_type S'.the_laws) (LL.tells S.the_type S'.the_laws) 16) full_share ys vs b o $ move ! (1 ∷ []) $ drop ! $
      use1 𝓛 (‵ (fat full_share (ty_array S'.mir 16) b o (only (slots_val ys)))) (𝓛.laws.raw_at full_share (ty_array S'.mir 16) b o (only (slots_val ys))) $ done !)

-- a field of a struct that is an array of records has the list of their tuples: its relation and its machine value are those of the list
-- of the records
mapped : (zs : List Slot) (us : List Val) → shadow (each Slot (S.the_row).own_val zs us) → shadow (each _ (S.the_field).row.own_val (map (S.the_field).into zs) us)
mapped [] [] s = s
mapped [] (u ∷ us) s = absurd s
mapped (z ∷ zs) [] s = absurd s
mapped (z ∷ zs) (u ∷ us) s = (s.0, mapped zs us s.1)

same_vals : (zs : List Slot) → map val zs ≡ map (S'.the_field_laws).val (map (S.the_field).into zs)
same_vals [] = refl
same_vals (z ∷ zs) = ap (λ (us : List Val). val z ∷ us) (same_vals zs)

pub field_val : (zs : List Slot) → only (slots_val zs) ≡ array_val (map (S'.the_field_laws).val (map (S.the_field).into zs))
field_val zs = ap array_val (same_vals zs)

pub as_field : (n : ℕ) (zs : List Slot) → Is (Array S.the_row n) zs (slots_val zs)
    → Is (Array (S.the_field).row n) (map (S.the_field).into zs) (array_val (map (S'.the_field_laws).val (map (S.the_field).into zs)) ∷ [])
as_field n zs p =
    subst (λ (u : Val). Is (Array (S.the_field).row n) (map (S.the_field).into zs) (u ∷ [])) (field_val zs)
    (p.0, ((p.1.0.0, length-map zs (S.the_field).into ∙ p.1.0.1), mapped zs p.0 p.1.1))
