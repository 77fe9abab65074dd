use Rattle.std.proofs.Common.{◌≡◌, ◌<◌, ◌∙◌, sym, subst, arith}
use Rattle.std.specs.Prelude.{◌<ℤ◌, ◌≤ℤ◌}
use Rattle.std.proofs.lemmas.Int.{ints}
use Rattle.ih_tables.specs.declared.drafts.Draft.{Draft}
use Rattle.ih_tables.specs.Sizes.{patient_count, theatre_count}
use Rattle.ih_fill.specs.Theatres.{theatre_value, IsFirstTheatre}
use Rattle.ih_fill.proofs.TheatreLemmas.{every-room, theatre-falls, theatre-stays}
use Rattle.ih_fill.proofs.patients.cheapest_theatre.Goals as goal
use Rattle.ih_fill.proofs.patients.cheapest_theatre.Goals.{then-value-least, else-value-least}

pub loop-t-preserved : goal.loop-t-preserved
loop-t-preserved c =
    let F = c.args.scorer.now in
    let least = c.loop-t.invariant.least in
    let value = c.theatre_value-value.ensures in
    elim c.if-value-least.branch [
      | then-value-least w ↦
          let test = w.if-value-least.true in
          let less : theatre_value F c.args.patient c.args.day.0 0 c.loop-t.t <ℤ theatre_value F c.args.patient c.args.day.0 0 c.loop-t.best = omega (arith, ints) in
          rw w.best-is (record {
            least = omega (arith, ints, w.least-is, value);
            first = theatre-falls F c.args.patient c.args.day.0 0 c.loop-t.t c.loop-t.best less c.loop-t.invariant.first;
          })
      | else-value-least w ↦
          let test = w.if-value-least.false in
          let most : theatre_value F c.args.patient c.args.day.0 0 c.loop-t.best ≤ℤ theatre_value F c.args.patient c.args.day.0 0 c.loop-t.t = omega (arith, ints) in
          rw w.best-is (record {
            least = w.least-is ∙ least;
            first = theatre-stays F c.args.patient c.args.day.0 0 c.loop-t.t c.loop-t.best most c.loop-t.invariant.first;
          })
    ]

pub returns-clause-least : goal.returns-clause-least
returns-clause-least c =
    let F = c.args.scorer.now in
    let last = c.loop-t-test.false in
    let end = c.loop-t.auto.t-end in
    let count = c.theatres-t-end.ensures in
    let some = c.if-theatres-eq0.false in
    let all : c.loop-t.t ≡ theatre_count c.args.inst.now.draft = omega (arith, last, end, count, some) in
    let patient = subst (λ (I : Draft). c.args.patient.0 < patient_count I) (sym c.requires.instance) c.requires.patient in
    every-room F c.args.patient c.fits.ensures patient c.args.day.0 0 (theatre_count c.args.inst.now.draft) c.loop-t.best
    (subst (λ n. IsFirstTheatre F c.args.patient c.args.day.0 0 n c.loop-t.best) all c.loop-t.invariant.first)
