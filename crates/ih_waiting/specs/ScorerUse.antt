-- A scorer that is used for admissions.
use Rattle.std.specs.Prelude.{◌≡◌, true}
use Rattle.ih_tables.specs.declared.drafts.Draft.{Draft}
use Rattle.ih_plan.specs.declared.limits.TheConstants.{MAX_HARD}
use Rattle.ih_fill.specs.ScorerState.{ScorerState}

-- It is the instance's, a broken rule weighs most, and rooms without nurses count.
pub record IsForAdmissions (I : Draft) (F : ScorerState) : Type 0 where
  pub instance : F.instance ≡ I
  pub hard : F.hard ≡ MAX_HARD
  pub counts : F.counts_uncovered ≡ true
