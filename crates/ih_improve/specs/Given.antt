-- The settings of a search, of which some may be left out: what isn't given comes from the weights of its instance, the
-- number of workers from the machine.
use Rattle.std.specs.Prelude.{◌≡◌, ◌==◌, ℕ, max, min, Option, if◌then◌else◌, unwrap_or}
use Rattle.ih_tables.specs.declared.drafts.Draft.{Draft}
use Rattle.ih_plan.specs.declared.limits.TheConstants.{MAX_HARD, MAX_HEAT, MAX_WORKERS}
use Rattle.ih_improve.specs.Defaults.{AreDefaults}
use Rattle.ih_improve.specs.Settings.{IsLawful}
use Rattle.ih_improve.specs.declared.defaults.Defaults.{Defaults}
use Rattle.ih_improve.specs.declared.given.Given.{Given}
use Rattle.ih_improve.specs.declared.settings.Settings.{Settings}

-- with the most workers, the widest heats, the greatest weight of a broken rule and none of a change where none are given
abbrev pub widest : Given → Settings
widest g = record {
  seed = g.seed;
  workers = unwrap_or g.workers MAX_WORKERS;
  hot = unwrap_or g.hot MAX_HEAT;
  cold = unwrap_or g.cold 0;
  hard = unwrap_or g.hard MAX_HARD;
  freeze = g.freeze;
  keep = unwrap_or g.keep 0;
}

-- the heat of the first attempt by the weights: a search that weighs changes stays cold, and so near the start
abbrev pub usual_hot : ℕ → Defaults → ℕ
usual_hot keep d = if keep == 0 then d.hot else d.cold

-- With these where none are given, and as many workers as processors. If one heat is given, the other lies on the right
-- side of it.
abbrev pub settings_with : Given → ℕ → Defaults → Settings
settings_with g processors d = record (widest g) {
  workers = unwrap_or g.workers processors;
  hot = unwrap_or g.hot (max (usual_hot (unwrap_or g.keep d.keep) d) (unwrap_or g.cold d.cold));
  cold = unwrap_or g.cold (min d.cold (unwrap_or g.hot d.hot));
  hard = unwrap_or g.hard d.hard;
  keep = unwrap_or g.keep d.keep;
}

-- the settings are lawful, and those that are given; the others come from the instance's weights and the processors
pub record AreSettingsOf (I : Draft) (g : Given) (processors : ℕ) (s : Settings) : Type 0 where
  pub lawful : IsLawful s
  pub defaults : Defaults
  pub by_weights : AreDefaults I defaults
  pub are : s ≡ settings_with g processors defaults
