use Rattle.std.proofs.Common.{◌≡◌, ◌∙◌, refl, ap, subst, Bool, false, List}
use Rattle.std.specs.Prelude.{slice_index, if◌then◌else◌}
use Rattle.ih_plan.specs.declared.moves.Move.{Move}
use Rattle.ih_plan.specs.Sums.{tagged}
use Rattle.ih_plan.specs.Series.{footprint_of_all}
use Rattle.ih_cellbook.specs.Keeping.{base_with}
use Rattle.ih_cellbook.specs.ReadsState.{ReadsState}
use Rattle.ih_cellbook.specs.Offered.{Offered}
use Rattle.ih_costs.specs.LedgersState.{LedgersState}
use Rattle.ih_snapshot.specs.Noting.{reads_of}
use Rattle.ih_cellbook.specs.ReplicaState.{ReplicaState}
use Rattle.ih_snapshot.proofs.Pricing.{read-there, replica_with}
use Rattle.ih_snapshot.proofs.Touching.{listed-below, listed-short}
use Rattle.ih_snapshot.proofs.replicas.Replica.read.Goals as goal

pub note-requires-clause-cells : goal.note-requires-clause-cells
note-requires-clause-cells g c =
    let v = c.self.inside.ledgers in
    let listed = c.cells.ensures.cells ∙ (c.foot_all.ensures.cells ∙ ap (footprint_of_all v.instance v.plan) c.as_slice.ensures) in
    rw c.as_slice-then-wanted.ensures.value
    (listed-below c.self.inside.inst.now.draft v.instance v.plan (g.E.Attempt.Attempted.moves c.args.attempt.now) c.cells.result.now c.self.inside.versions.items
    listed c.self.invariant.0.instance c.self.invariant.0.versions)

pub note-requires-clause-room : goal.note-requires-clause-room
note-requires-clause-room g c =
    let v = c.self.inside.ledgers in
    let listed = c.cells.ensures.cells ∙ (c.foot_all.ensures.cells ∙ ap (footprint_of_all v.instance v.plan) c.as_slice.ensures) in
    rw c.self.invariant.0.room
    (listed-short c.self.inside.inst.now.draft v.instance v.plan (g.E.Attempt.Attempted.moves c.args.attempt.now) c.cells.result.now listed c.self.invariant.0.instance)

-- nothing is read where nothing is wanted
unread : (r : ReplicaState) (m : List Move) (wanted : Bool) → wanted ≡ false
    → r ≡ record r { last = record r.last { reads = record r.last.reads { pairs = if wanted then reads_of r m else r.last.reads.pairs } } }
unread r m wanted off = rw off refl

pub returns-then-wanted : goal.returns-then-wanted
returns-then-wanted g c =
    let v = c.self.inside.ledgers in
    let I = c.self.inside.inst.now.draft in
    let m = g.E.Attempt.Attempted.moves c.args.attempt.now in
    let r = replica_with (base_with I c.self.inside.start c.self.inside.options c.self.inside.freeze) c.self.inside.worker c.self.inside.seen
    v.plan c.self.inside.versions.items (g.E.Offer.Offers.offered c.self.inside.last) in
    let plan : c.foot_all.new.self.plan ≡ v.plan = ap (λ (s : LedgersState). s.plan) c.foot_all.ensures.same in
    let cells : c.cells.result.now ≡ footprint_of_all I v.plan m =
    c.cells.ensures.cells ∙ (c.foot_all.ensures.cells ∙ (ap (footprint_of_all v.instance v.plan) c.as_slice.ensures ∙ ap (λ J. footprint_of_all J v.plan m) c.self.invariant.0.instance)) in
    let reads : (let w : ReadsState = record r.last.reads { pairs = tagged (slice_index c.as_slice-then-wanted.result.now) c.cells.result.now } in w) ≡ record r.last.reads { pairs = reads_of r m } =
    ap (λ vs. let w : ReadsState = record r.last.reads { pairs = tagged (slice_index vs) c.cells.result.now } in w) c.as_slice-then-wanted.ensures.value
    ∙ ap (λ ns. let w : ReadsState = record r.last.reads { pairs = tagged (slice_index c.self.inside.versions.items) ns } in w) cells in
    let made = read-there r m c.foot_all.new.self.plan
    (record r.last.reads { pairs = tagged (slice_index c.as_slice-then-wanted.result.now) c.cells.result.now }) c.args.wanted c.if-wanted.true plan reads in
    let mine = ap (λ (o : Offered). let s : ReplicaState = record r { plan = c.foot_all.new.self.plan; last = o } in s) c.note.ensures ∙ made in
    subst (λ (s : ReplicaState). (let t : ReplicaState = record r { plan = c.foot_all.new.self.plan; last = g.E.Offer.Offers.offered c.note.new.self } in t)
    ≡ record s { last = record s.last { reads = record s.last.reads { pairs = if c.args.wanted then reads_of s m else s.last.reads.pairs } } }) c.self.view_is mine

pub returns-else-wanted : goal.returns-else-wanted
returns-else-wanted g c = unread c.args.self.now (g.E.Attempt.Attempted.moves c.args.attempt.now) c.args.wanted c.if-wanted.false
