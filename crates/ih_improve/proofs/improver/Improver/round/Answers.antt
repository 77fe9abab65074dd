use Rattle.std.proofs.Common.{◌∙◌, ◌≡◌, ◌<◌, ℕ, List, ap, sym, subst, length, map, take, drop, ◌++◌}
use Rattle.std.specs.Prelude.{slice_index_or}
use Rattle.ih_improve.specs.declared.workers.ImproveWorker.{ImproveWorker}
use Rattle.ih_improve.specs.Better.{best_of}
use Rattle.ih_improve.specs.Following.{IsNoWorse, MayStand}
use Rattle.ih_improve.specs.ImproverState.{ImproverState, Leads, MayGoOn, led_to, leg_of, terms_of}
use Rattle.ih_improve.specs.Keeping.{IsKeeping, StandsWell, best_met}
use Rattle.ih_improve.specs.Legs.{Leaves, LegState, terms_of_leg}
use Rattle.ih_improve.proofs.RoundLemmas.{keeps, leads, no_worse, written-back}
use Rattle.ih_improve.proofs.improver.Improver.round.Given.{Over}
use Rattle.ih_improve.proofs.improver.Improver.round.Goals.{After-take_best}
use Rattle.ih_improve.proofs.improver.Improver.round.Goals as goal

-- the search before the round
abbrev search : (g : Over) → After-take_best g → ImproverState
search g c = record {
  instance = c.self.inside.inst.now.draft;
  start = c.self.inside.start;
  pins = c.self.inside.pins;
  settings = c.self.inside.settings;
  rounds = c.self.inside.rounds;
  attempts = c.self.inside.attempts;
  kept = c.self.inside.kept;
}

-- its workers before and after
abbrev workers : (g : Over) → After-take_best g → List ImproveWorker
workers g c = c.self.inside.workers.items

abbrev later : (g : Over) → After-take_best g → List ImproveWorker
later g c = c.walk_all.new.workers

many : (g : Over) (c : After-take_best g) → length (later g c) ≡ length (workers g c)
many g c = c.walk_all.auto.workers ∙ ap length c.as_mut_slice.ensures.value

same : (g : Over) (c : After-take_best g) (k : ℕ) (d : ImproveWorker) → k < length (workers g c)
    → (slice_index_or (later g c) k d).walker.instance ≡ (search g c).instance
same g c k d h = c.walk_all.ensures.same k d (rw c.as_mut_slice.ensures.value h) ∙ ap (λ (s : LegState). s.instance) c.new-leg.ensures

stands : (g : Over) (c : After-take_best g) (k : ℕ) (d : ImproveWorker) → k < length (workers g c)
    → StandsWell (terms_of (search g c)) (slice_index_or (later g c) k d)
stands g c k d h =
    subst (λ (s : LegState). MayStand (terms_of_leg s) (slice_index_or (later g c) k d).walker.now) c.new-leg.ensures
    (c.walk_all.ensures.stands k d (rw c.as_mut_slice.ensures.value h))

left : (g : Over) (c : After-take_best g) (k : ℕ) (d : ImproveWorker) → k < length (workers g c)
    → Leaves (leg_of (search g c) c.args.span.now) k (best_met (slice_index_or (later g c) k d))
left g c k d h =
    subst (λ (s : LegState). Leaves s k (best_met (slice_index_or (later g c) k d))) c.new-leg.ensures
    (c.walk_all.ensures.left k d (rw c.as_mut_slice.ensures.value h))

whole : (g : Over) (c : After-take_best g) → take c.self.inside.workers.len (later g c ++ drop (length (later g c)) (workers g c)) ≡ later g c
whole g c = written-back c.self.inside.workers.len (later g c) (workers g c) (many g c) c.self.inside.workers.ok.0

best : (g : Over) (c : After-take_best g) → let v = search g c in
    c.take_best.new.kept ≡ best_of (terms_of v) v.kept (map best_met (later g c))
best g c = rw (c.as_slice.ensures.value, whole g c) at c.take_best.ensures.kept

pub returns-clause-best : goal.returns-clause-best
returns-clause-best g c =
    subst (λ (v : ImproverState). Leads Leaves v c.args.span.now c.take_best.new.kept) c.self.view_is
    (leads (search g c) c.args.span.now c.self.inside.standing (workers g c) (later g c) c.self.invariant (many g c) (same g c) (stands g c) (left g c) c.take_best.new.kept (best g c))

pub returns-clause-no_worse : goal.returns-clause-no_worse
returns-clause-no_worse g c =
    subst (λ (v : ImproverState). IsNoWorse (terms_of v) v.kept c.take_best.new.kept) c.self.view_is
    (no_worse (search g c) c.args.span.now c.self.inside.standing (workers g c) (later g c) c.self.invariant (many g c) (same g c) (stands g c) (left g c) c.take_best.new.kept (best g c))

pub invariant_of-self : goal.invariant_of-self
invariant_of-self g c =
    let P = c.take_best.new.kept in
    let may : MayGoOn (search g c) c.args.span.now = subst (λ (v : ImproverState). MayGoOn v c.args.span.now) (sym c.self.view_is) c.requires in
    subst (IsKeeping (led_to (search g c) c.args.span.now P) c.take_best.new.standing) (sym (whole g c))
    (keeps (search g c) c.args.span.now c.self.inside.standing (workers g c) (later g c) c.self.invariant (many g c) (same g c) (stands g c) (left g c) P c.take_best.new.standing may (best g c) c.take_best.ensures.standing)
