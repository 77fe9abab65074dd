use Rattle.std.proofs.Common.{◌≡◌, ◌∙◌, ℕ, ◌<◌, sym, ap, arith, subst, List, length, map, take, get_or}
use Rattle.std.proofs.lemmas.List.{length-map}
use Rattle.std.proofs.Math.ListN.{get_or-map}
use Rattle.ih_plan.specs.Series.{AreMoves}
use Rattle.ih_plan.specs.Timetable.{IsPlanOf, Timetable}
use Rattle.ih_journal.specs.History.{after_entry}
use Rattle.ih_journal.specs.Tried.{Tried}
use Rattle.ih_journal.proofs.Mapped.{map-take}
use Rattle.ih_cellbook.proofs.EntrySteps.{entry-fits, entry-moves, last-entry, next-entry}
use Rattle.ih_cellbook.proofs.plans.plan_at.Goals as goal

-- as many of what the first entries stand for
as-many : {X Y : Type 0} (f : X → Y) (n : ℕ) (xs : List X) → length (take n (map f xs)) ≡ length (take n xs)
as-many f n xs = ap length (sym (map-take f n xs)) ∙ length-map (take n xs) f

-- what one of the first entries stands for
stands-for : {X Y : Type 0} (f : X → Y) (n : ℕ) (xs : List X) (i : ℕ) (x : X) → x ≡ get_or (take n xs) i x
    → get_or (take n (map f xs)) i (f x) ≡ f x
stands-for f n xs i x is = ap (λ ys. get_or ys i (f x)) (sym (map-take f n xs)) ∙ (get_or-map f (take n xs) i x ∙ ap f (sym is))

pub take_over-requires : goal.take_over-requires
take_over-requires g c =
    let f = g.E.Logged.tried in
    let es = c.args.entries.now in
    let i = c.loop-entry.entry-index in
    let e = c.entry-item.result in
    let inside : i < length (take c.args.place (map f es)) = subst (λ n. i < n) (sym (as-many f c.args.place es)) c.loop-entry-test.true in
    record {
      plan = c.loop-entry.invariant.fits;
      moves_in = subst (λ (t : Tried). AreMoves c.args.inst.now.draft t.moves) (stands-for f c.args.place es i e c.entry-item.is)
          (entry-moves c.args.inst.now.draft (map f es) c.args.place i (f e) c.requires.moves inside);
    }

pub loop-entry-preserved : goal.loop-entry-preserved
loop-entry-preserved g c =
    let I = c.args.inst.now.draft in
    let P : Timetable = c.loop-entry.plan in
    let f = g.E.Logged.tried in
    let es = c.args.entries.now in
    let i = c.loop-entry.entry-index in
    let e = c.entry-item.result in
    let inside : i < length (take c.args.place (map f es)) = subst (λ n. i < n) (sym (as-many f c.args.place es)) c.loop-entry-test.true in
    let is = stands-for f c.args.place es i e c.entry-item.is in
    record {
      fits = rw c.take_over.ensures (subst (λ (t : Tried). IsPlanOf I (after_entry I P t)) is
          (entry-fits I P (map f es) c.args.place i (f e) c.requires.moves inside c.loop-entry.invariant.fits));
      rest = rw c.take_over.ensures (next-entry I P _ (take c.args.place (map f es)) i (f e) inside is c.loop-entry.invariant.rest);
    }

pub returns-clause-made : goal.returns-clause-made
returns-clause-made g c =
    let f = g.E.Logged.tried in
    let es = c.args.entries.now in
    let past = c.loop-entry-test.false in
    let many = as-many f c.args.place es in
    sym (last-entry c.args.inst.now.draft c.loop-entry.plan (take c.args.place (map f es)) c.loop-entry.entry-index (omega (arith, past, many)))
    ∙ c.loop-entry.invariant.rest
