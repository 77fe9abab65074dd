use Rattle.std.proofs.Common.{◌≡◌, ℕ, ◌≤◌, ◌∙◌, ap, subst, length, take}
use Rattle.std.specs.Prelude.{◌||◌}
use Rattle.ih_plan.specs.Cells.{count_in}
use Rattle.ih_plan.specs.Footprint.{write_touches}
use Rattle.ih_plan.specs.Sums.{is_listed}
use Rattle.ih_footprint.proofs.SetLemmas.{whole-slice}
use Rattle.ih_footprint.proofs.ListLemmas.{room-written}
use Rattle.ih_footprint.proofs.GatherLemmas.{gathers-relisted, rising-relisted}
use Rattle.ih_footprint.proofs.footprints.foot.Given.{Over}
use Rattle.ih_footprint.proofs.footprints.foot.Goals as goal

-- the room is written whole
same-len : (g : Over) (c : goal.After-out-2-1 g) → length c.write-out-inside.new.buffer ≡ length c.out.inside.room.items
same-len g c = c.write-out-inside.ensures.len ∙ ap length c.as_mut_slice.ensures.value

pub invariant_of-out : goal.invariant_of-out
invariant_of-out g c =
    let v = c.gather.new.out in
    let write = c.write-out-inside in
    let sizes : v.sizes ≡ c.out.inside.set.sizes = c.gather.ensures.sizes ∙ c.add_all.ensures.sizes in
    let len = same-len g c in
    rw (whole-slice c.out.inside.room.len write.new.buffer c.out.inside.room.items c.out.inside.room.ok.0 len, write.ensures.sizes, sizes) (
      write.ensures.cells,
      room-written v (count_in c.out.inside.set.sizes) (ap count_in sizes) write.ensures.rising c.out.invariant.1 write.new.buffer write.result len
          (subst (λ xs. write.result ≤ length xs) c.as_mut_slice.ensures.value write.ensures.within) write.ensures.buffer,
    )

-- what was listed before is in the set
own : (g : Over) (c : goal.After-out-2-1 g) (i : ℕ) → is_listed i c.add_all.new.self.cells ≡ is_listed i (take c.out.inside.len c.out.inside.room.items)
own g c i =
    c.add_all.ensures.cells i
    ∙ (ap (λ xs. is_listed i xs || is_listed i (take c.out.inside.len c.deref.result.now)) c.out.invariant.0
    ∙ ap (λ xs. is_listed i (take c.out.inside.len xs)) c.deref.ensures.value)

pub returns-clause-cells : goal.returns-clause-cells
returns-clause-cells g c =
    let write = c.write-out-inside in
    rw (whole-slice c.out.inside.room.len write.new.buffer c.out.inside.room.items c.out.inside.room.ok.0 (same-len g c), ← c.out.view_is)
    (gathers-relisted (record { sizes = c.out.inside.set.sizes; cells = take c.out.inside.len c.out.inside.room.items }) c.add_all.new.self c.gather.new.out
    (record { sizes = write.new.self.sizes; cells = take write.result write.new.buffer }) c.add_all.ensures.sizes (own g c) write.ensures.sizes write.ensures.buffer
    (write_touches c.args.inst.now.draft c.args.plan.now c.args.write.now) c.gather.ensures)

pub returns-clause-rising : goal.returns-clause-rising
returns-clause-rising g c =
    let write = c.write-out-inside in
    rw (whole-slice c.out.inside.room.len write.new.buffer c.out.inside.room.items c.out.inside.room.ok.0 (same-len g c))
    (rising-relisted (record { sizes = c.out.inside.set.sizes; cells = take c.out.inside.len c.out.inside.room.items }) c.add_all.new.self c.gather.new.out
    (record { sizes = write.new.self.sizes; cells = take write.result write.new.buffer }) c.add_all.ensures.sizes (own g c) write.ensures.sizes write.ensures.buffer
    write.ensures.rising)
