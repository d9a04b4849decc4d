-- `lister::list_all` meets its contract: after each round, what is still to be listed from where it stands is what was to be listed at first (Rounds).
use Rattle.std.proofs.Common.{◌≡◌, ℕ, ◌+◌, ◌≤◌, List, length, drop, refl, inl, inr, arith, length-drop}
use Rattle.slot.specs.declared.Slot.{Slot}
use Rattle.trace.specs.Records.{whole, record_at}
use Rattle.lister.proofs.Rounds.{Midst, stops_empty, stops_cut, stops_damaged, stops-room, fits, goes_on, seen, told_of, as_extended}
use Rattle.lister.proofs.list_all.Goals.{in-End, in-Damaged, in-Record+then-output-written-lt-LINE_ROOM}
use Rattle.lister.proofs.list_all.Goals as goal

-- a record takes some of what is left, and no more than that
record Sizes (taken : List ℕ) (used bus size : ℕ) : Type 0 where
  pub least : 4 ≤ size
  pub most : used + size ≤ length taken
  pub bus_in : bus ≤ 1

sizes : {slots₀ : List Slot} {count₀ : ℕ} {store₀ taken output₀ : List ℕ} {slots : List Slot} {count : ℕ} {store output : List ℕ} {used written : ℕ}
    → Midst slots₀ count₀ store₀ taken output₀ slots count store output used written
    → {bus size : ℕ} {image : List ℕ} → whole bus image size ≡ record_at (drop used taken) → Sizes taken used bus size
sizes {taken = taken} {used = used} m {bus} {size} {image} e =
    let f = fits m bus size image e in record { least = f.0; most = omega (arith, m.in_input, f.1, length-drop used taken); bus_in = f.2 }

pub overflow_add-used-in-Record : goal.overflow_add-used-in-Record
overflow_add-used-in-Record c =
    let z = sizes c.loop-bus.invariant (seen c.args.input.now c.loop-bus.used _ _ c.read_record.ensures c.in-Record.is) in omega (arith, z.most)

pub slice_bounds-tell-count : goal.slice_bounds-tell-count
slice_bounds-tell-count c =
    let z = sizes c.loop-bus.invariant (seen c.args.input.now c.loop-bus.used _ _ c.read_record.ensures c.in-Record.is) in omega (arith, z.least)

pub slice_bounds-tell-start : goal.slice_bounds-tell-start
slice_bounds-tell-start c =
    let z = sizes c.loop-bus.invariant (seen c.args.input.now c.loop-bus.used _ _ c.read_record.ensures c.in-Record.is) in
    omega (arith, z.least, z.most)

pub slice_bounds-tell-end : goal.slice_bounds-tell-end
slice_bounds-tell-end c =
    let z = sizes c.loop-bus.invariant (seen c.args.input.now c.loop-bus.used _ _ c.read_record.ensures c.in-Record.is) in
    omega (arith, z.least, z.most)

pub tell-line-requires : goal.tell-line-requires
tell-line-requires c =
    let m = c.loop-bus.invariant in
    let z = sizes m (seen c.args.input.now c.loop-bus.used _ _ c.read_record.ensures c.in-Record.is) in (m.full, z.bus_in)

pub loop-bus-smaller : goal.loop-bus-smaller
loop-bus-smaller c =
    let z = sizes c.loop-bus.invariant (seen c.args.input.now c.loop-bus.used _ _ c.read_record.ensures c.in-Record.is) in
    omega (arith, z.least, z.most)

pub loop-bus-preserved : goal.loop-bus-preserved
loop-bus-preserved c =
    let l = c.loop-bus in
    goes_on l.invariant _ c.in-Record.size _ (seen c.args.input.now l.used _ _ c.read_record.ensures c.in-Record.is) (omega arith) _ refl _ _ _
    (told_of c.args.input.now l.used c.in-Record.size (as_extended l.receiver.station l.receiver.is_extended) c.tell-line.ensures) _ _ c.put_line-written.ensures

pub returns : goal.returns
returns c =
    let l = c.loop-bus in
    elim c.match-read_record.branch [
      | in-End w ↦
          rw w.why-is
          (elim w.in-End.is [
            | inl e ↦ stops_empty l.invariant (seen c.args.input.now l.used _ _ c.read_record.ensures e)
            | inr e ↦ stops_cut l.invariant (seen c.args.input.now l.used _ _ c.read_record.ensures e)
          ])
      | in-Damaged w ↦
          rw w.why-is (stops_damaged l.invariant (seen c.args.input.now l.used _ _ c.read_record.ensures w.in-Damaged.is))
      | in-Record+then-output-written-lt-LINE_ROOM w ↦
          rw w.why-is (stops-room l.invariant _ _ _ (seen c.args.input.now l.used _ _ c.read_record.ensures w.in-Record.is) (omega arith))
    ]
