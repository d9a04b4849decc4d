-- What a byte is read as (format's Numbers), where a byte that is none's has a meaning too.
use Rattle.std.proofs.Common.{◌≡◌, ℕ, true, eqb, List, [], ◌∷◌, map, sym, refl, ap, ◌∙◌, eqb-true, ne_eqb, eq-eqb}
use Rattle.std.specs.Prelude.{Result, Ok, Err, is_ok}
use Rattle.std.specs.Result.{result_unwrap_or}
use Rattle.format.specs.declared.Format.{Format}
use Rattle.format.specs.declared.Format.TheVariants as format
use Rattle.format.specs.declared.NoSuch.{NoSuch}
use Rattle.format.specs.declared.Refusal.{Refusal}
use Rattle.format.specs.declared.Refusal.TheVariants.{State}
use Rattle.format.specs.Numbers.{Reads, format_number}
use Rattle.format.specs.Refusals.{number}
use Rattle.format.specs.Tests.{all_after, all_true}
use Rattle.format.specs.Claims.{OneNumber}
use Rattle.format.proofs.Numbers.{numbers, each_number, one_number}
use Rattle.master.specs.declared.Kind.{Kind}
use Rattle.master.specs.declared.Kind.TheVariants as kind
use Rattle.master.specs.Masters.{kind_number}
use Rattle.calls_program.specs.Requests.{format_named, kind_named, named_in, refusal_named, refusal_table, EachNamed}

-- each has its number's name, and a number of none has another
read_as : {A : Type 0} (number : A → ℕ) (named : ℕ → A) (other : A) (n : ℕ) (r : Result A NoSuch) → Reads number n r
    → ((x : A) → named (number x) ≡ x) → (((x : A) → ¬ (number x ≡ n)) → named n ≡ other) → result_unwrap_or r other ≡ named n
read_as number named other n (Ok x) reads each none = sym (each x) ∙ ap named reads
read_as number named other n (Err e) reads each none = sym (none reads.1)

pub format_read : (n : ℕ) (r : Result Format NoSuch) → Reads format_number n r → result_unwrap_or r format.Standard ≡ format_named n
unfolding format_named
format_read n r reads = read_as format_number format_named format.Standard n r reads each none
  where
    each : (x : Format) → format_named (format_number x) ≡ x
    each format.Extended = refl
    each format.Standard = refl

    none : ((x : Format) → ¬ (format_number x ≡ n)) → format_named n ≡ format.Standard
    none h = rw (ne_eqb n 0 (λ e. h format.Extended (sym e)))

pub kind_read : (n : ℕ) (r : Result Kind NoSuch) → Reads kind_number n r → result_unwrap_or r kind.Command ≡ kind_named n
unfolding kind_named
kind_read n r reads = read_as kind_number kind_named kind.Command n r reads each none
  where
    each : (x : Kind) → kind_named (kind_number x) ≡ x
    each kind.Poll = refl
    each kind.DataBlock = refl
    each kind.Command = refl

    none : ((x : Kind) → ¬ (kind_number x ≡ n)) → kind_named n ≡ kind.Command
    none h = rw (ne_eqb n 1 (λ e. h kind.Poll (sym e)), ne_eqb n 2 (λ e. h kind.DataBlock (sym e)))

-- computed over all numbers
every : all_true (map (λ n. eqb (number (refusal_named n)) n) numbers) ≡ true
unfolding refusal_named all_true all_after
every = refl

pub each_named : EachNamed
unfolding EachNamed OneNumber
each_named name = one_number _ _ (eqb-true _ _ (each_number (λ n. eqb (number (refusal_named n)) n) every name))

not_named : (n : ℕ) → ((x : Refusal) → ¬ (number x ≡ n)) → (names : List Refusal) → named_in names n ≡ State
not_named n h [] = refl
not_named n h (name ∷ names) = rw (ne_eqb _ _ (h name)) (not_named n h names)

pub refusal_read : (n : ℕ) (r : Result Refusal NoSuch) → Reads number n r → result_unwrap_or r State ≡ refusal_named n
unfolding refusal_named EachNamed
refusal_read n r reads = read_as number refusal_named State n r reads each_named (λ h. not_named n h refusal_table)

pub refusal_is_read : (n : ℕ) (r : Result Refusal NoSuch) → Reads number n r → is_ok r ≡ eqb (number (refusal_named n)) n
unfolding refusal_named EachNamed
refusal_is_read n (Ok name) reads = sym (eq-eqb _ _ (ap number (ap refusal_named (sym reads) ∙ each_named name) ∙ reads))
refusal_is_read n (Err e) reads = sym (ne_eqb _ _ (λ same. reads.1 State (ap number (sym (not_named n reads.1 refusal_table)) ∙ same)))
