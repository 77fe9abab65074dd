-- The limits of a search's settings.
use Rattle.std.specs.Prelude.{◌≤◌}
use Rattle.ih_plan.specs.declared.limits.TheConstants.{MAX_HARD, MAX_HEAT, MAX_WORKERS}
use Rattle.ih_improve.specs.declared.settings.Settings.{Settings}
use Rattle.ih_improve.specs.declared.settings.TheConstants.{MAX_KEEP}

-- each setting is within its limits; the seed and the freeze day have none
pub record IsLawful (s : Settings) : Type 0 where
  pub some_worker : 1 ≤ s.workers
  pub workers : s.workers ≤ MAX_WORKERS
  pub hot : s.hot ≤ MAX_HEAT
  pub cold : s.cold ≤ s.hot
  pub hard : s.hard ≤ MAX_HARD
  pub keep : s.keep ≤ MAX_KEEP
