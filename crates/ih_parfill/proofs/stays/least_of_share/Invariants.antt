use Rattle.std.proofs.Common.{◌≡◌, ◌+◌, ◌*◌, ◌≤◌, ◌∷◌, None}
use Rattle.std.specs.Prelude.{flat_map}
use Rattle.std.specs.List.{range_with_len}
use Rattle.ih_tables.specs.Sizes.{room_count}
use Rattle.ih_plan.specs.declared.moves.Write.TheVariants.{SetStay}
use Rattle.ih_fill.specs.Candidates.{stays_on}
use Rattle.ih_fill.specs.ScorerState.{stay_value}
use Rattle.ih_parfill.specs.Shares.{HasLooked}
use Rattle.ih_parfill.proofs.stays.least_of_share.Given as goal

abbrev pub invariant-loop-later : goal.invariant-loop-later
invariant-loop-later l = record {
  looked : HasLooked l.inst.draft (stay_value l.scorer)
      (SetStay l.patient_no None ∷ flat_map (λ d. stays_on l.inst.draft l.patient_no l.patient d (room_count l.inst.draft)) (range_with_len l.patient.surgery_release_day l.later)) l.scan;
  passed : l.scan.passed ≤ 1 + 8192 * l.later;
  workers : l.scan.workers ≡ l.workers;
  worker : l.scan.worker ≡ l.worker;
}
