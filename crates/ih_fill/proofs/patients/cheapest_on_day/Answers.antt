use Rattle.std.proofs.Common.{not, ◌≡◌, ◌<◌, ◌∙◌, sym, ap, subst, arith, ℕ, List, [], ◌∷◌, Some, true, false}
use Rattle.std.specs.Prelude.{flat_map}
use Rattle.ih_tables.specs.Sizes.{room_count, theatre_count}
use Rattle.ih_plan.specs.declared.moves.Write.{Write}
use Rattle.ih_plan.specs.declared.moves.Write.TheVariants.{SetStay}
use Rattle.ih_plan.specs.Writes.{IsWriteOf}
use Rattle.ih_fill.specs.declared.candidates.Candidate.{Candidate}
use Rattle.ih_fill.specs.Candidates.{cheapest, rooms_for, stays_in, suits, valued}
use Rattle.ih_fill.specs.ScorerState.{stay_value}
use Rattle.ih_fill.proofs.CandidateLemmas.{then-least, cheaper-either, stay-fits}
use Rattle.ih_fill.proofs.FirstLeast.{first-counts}
use Rattle.ih_fill.proofs.TheatreLemmas.{cheaper-one, no-stays, theatre-inside}
use Rattle.ih_fill.proofs.ListLemmas.{on-more, on-same}
use Rattle.ih_fill.proofs.patients.cheapest_on_day.Goals as goal
use Rattle.ih_fill.proofs.patients.cheapest_on_day.Goals.{then-suits, else-suits}

pub stay-requires-clause-placed : goal.stay-requires-clause-placed
stay-requires-clause-placed c =
    let below = c.loop-r-test.true in
    let count = c.rooms-r-end.ensures in
    let inside : c.loop-r.r < room_count c.args.inst.now.draft = omega (arith, below, count) in
    rw c.requires.instance (record { day = c.requires.day; room = inside; theatre = theatre-inside c.args.scorer.now c.args.patient_no c.args.day.0 c.loop-r.r _ _ (c.in-Some.ensures.least c.loop-r.r) })

pub loop-r-preserved : goal.loop-r-preserved
loop-r-preserved c =
    let I = c.args.inst.now.draft in
    let F = c.args.scorer.now in
    let a = c.args.patient.now in
    let r = c.loop-r.r in
    let f : ℕ → List Write = λ r. stays_in c.args.patient_no c.args.day.0 r (theatre_count I) in
    let before = c.args.before.write in
    elim c.if-suits.branch [
      | then-suits w ↦
          let yes : suits a r ≡ true = ap not (sym c.is_incompatible-suits.ensures ∙ w.if-suits.true) in
          let at : ℕ → Write = λ t. SetStay c.args.patient_no (Some (record { day = c.args.day; room = record { 0 = r }; theatre = record { 0 = t } })) in
          let t = c.in-Some.theatre.0 in
          let second : w.stay.result ≡ valued (stay_value F) (at t) = w.stay.ensures in
          let one : w.cheaper-best.result ≡ valued (stay_value F) (cheapest (stay_value F) c.loop-r.best.write (at t ∷ [])) =
          cheaper-one (stay_value F) (cheapest (stay_value F) before (flat_map f (rooms_for a r)))
          (at t) c.loop-r.best w.stay.result w.cheaper-best.result c.loop-r.invariant.least second w.cheaper-best.ensures in
          let found : w.cheaper-best.result ≡ valued (stay_value F) (cheapest (stay_value F) c.loop-r.best.write (f r)) =
          one ∙ ap (valued (stay_value F)) (sym (first-counts (stay_value F) c.loop-r.best.write (f r) t (at t) (c.in-Some.ensures.least r))) in
          let below = c.loop-r-test.true in
          let count = c.rooms-r-end.ensures in
          let inside : r < room_count I = omega (arith, below, count) in
          let theatre = theatre-inside F c.args.patient_no c.args.day.0 r _ _ (c.in-Some.ensures.least r) in
          let fits : IsWriteOf I (at t) = stay-fits I c.args.patient_no _ c.requires.patient (record { day = c.requires.day; room = inside; theatre = theatre }) in
          record {
            least = w.best-is ∙ (then-least (stay_value F) before (flat_map f (rooms_for a r)) (f r) c.loop-r.best w.cheaper-best.result c.loop-r.invariant.least found
                ∙ ap (λ ws. valued (stay_value F) (cheapest (stay_value F) before ws)) (sym (on-more f a r yes)));
            fits = subst (λ (b : Candidate). IsWriteOf I b.write) (sym (w.best-is ∙ w.cheaper-best.ensures))
                (cheaper-either (IsWriteOf I) c.loop-r.best w.stay.result c.loop-r.invariant.fits (subst (λ (b : Candidate). IsWriteOf I b.write) (sym second) fits));
          }
      | else-suits w ↦
          let no : suits a r ≡ false = ap not (sym c.is_incompatible-suits.ensures ∙ w.if-suits.false) in
          record {
            least = w.best-is ∙ (c.loop-r.invariant.least ∙ ap (λ ws. valued (stay_value F) (cheapest (stay_value F) before ws)) (sym (on-same f a r no)));
            fits = subst (λ (b : Candidate). IsWriteOf I b.write) (sym w.best-is) c.loop-r.invariant.fits;
          }
    ]

pub returns-in_default-clause-least : goal.returns-in_default-clause-least
returns-in_default-clause-least c =
    let I = c.args.inst.now.draft in
    let none = c.in_default.ensures.none in
    c.requires.before
    ∙ ap (λ ws. valued (stay_value c.args.scorer.now) (cheapest (stay_value c.args.scorer.now) c.args.before.write ws)) (sym (no-stays I c.args.patient_no c.args.patient.now c.args.day.0 (room_count I) none))
