-- Settings of which some are left out.
use Rattle.std.proofs.Common.{◌≡◌, ◌∙◌, ◌≤◌, ℕ, sym, ap, subst, arith, Bool, true, false, Option, Some, None}
use Rattle.std.specs.Prelude.{◌==◌, if◌then◌else◌, max, min, unwrap_or}
use Rattle.ih_tables.specs.declared.drafts.Draft.{Draft}
use Rattle.ih_plan.specs.declared.limits.TheConstants.{MAX_HARD, MAX_HEAT, MAX_WORKERS}
use Rattle.ih_improve.specs.Defaults.{AreDefaults}
use Rattle.ih_improve.specs.Given.{AreSettingsOf, settings_with, usual_hot, widest}
use Rattle.ih_improve.specs.Settings.{IsLawful}
use Rattle.ih_improve.specs.declared.defaults.Defaults.{Defaults}
use Rattle.ih_improve.specs.declared.given.Given.{Given}
use Rattle.ih_improve.specs.declared.settings.Settings.{Settings}
use Rattle.ih_improve.specs.declared.settings.TheConstants.{MAX_KEEP}
use Rattle.ih_improve.proofs.WeightLemmas.{defaults-same}

-- heats of which one that isn't given comes from the weights
heats : (o p : Option ℕ) (hot cold usual : ℕ) → unwrap_or o MAX_HEAT ≤ MAX_HEAT → unwrap_or p 0 ≤ unwrap_or o MAX_HEAT → hot ≤ MAX_HEAT → cold ≤ hot
    → (unwrap_or o (max hot (unwrap_or p cold)) ≤ MAX_HEAT)
    × (unwrap_or p (min cold (unwrap_or o usual)) ≤ unwrap_or o (max hot (unwrap_or p cold)))
heats None None hot cold usual most heat below fall = (omega arith, omega arith)
heats None (Some q) hot cold usual most heat below fall = (omega arith, omega arith)
heats (Some h) None hot cold usual most heat below fall = (omega arith, omega arith)
heats (Some h) (Some q) hot cold usual most heat below fall = (omega arith, omega arith)

given-most : (o : Option ℕ) (d most : ℕ) → unwrap_or o most ≤ most → d ≤ most → unwrap_or o d ≤ most
given-most None d most limit below = below
given-most (Some n) d most limit below = limit

given-default : (o : Option ℕ) (d most : ℕ) → unwrap_or o 0 ≤ most → d ≤ most → unwrap_or o d ≤ most
given-default None d most limit below = below
given-default (Some n) d most limit below = limit

-- these settings are within their limits
pub record AreWithin (d : Defaults) : Type 0 where
  pub hot : d.hot ≤ MAX_HEAT
  pub cold : d.cold ≤ d.hot
  pub hard : d.hard ≤ MAX_HARD
  pub keep : d.keep ≤ MAX_KEEP

-- the heat of the first attempt by the weights is between those of the weights
usual-within : (keep : ℕ) (d : Defaults) → AreWithin d → (usual_hot keep d ≤ MAX_HEAT) × (d.cold ≤ usual_hot keep d)
usual-within keep d within = by_case (keep == 0)
  where
    by_case : (b : Bool) → ((if b then d.hot else d.cold) ≤ MAX_HEAT) × (d.cold ≤ (if b then d.hot else d.cold))
    by_case true = (within.hot, within.cold)
    by_case false = let hot = within.hot in let cold = within.cold in (omega (arith, hot, cold), omega arith)

-- a number of workers that isn't given comes from the processors
given-some : (o : Option ℕ) (n : ℕ) → 1 ≤ unwrap_or o MAX_WORKERS → 1 ≤ n → 1 ≤ unwrap_or o n
given-some None n limit below = below
given-some (Some m) n limit below = limit

module _ (g : Given) (limits : IsLawful (widest g)) (d : Defaults) (within : AreWithin d) (p : ℕ) (some : 1 ≤ p) (few : p ≤ MAX_WORKERS) where
  with-lawful : IsLawful (settings_with g p d)
  with-lawful =
      let usual = usual-within (unwrap_or g.keep d.keep) d within in
      let h = heats g.hot g.cold (usual_hot (unwrap_or g.keep d.keep) d) d.cold d.hot limits.hot limits.cold usual.0 usual.1 in
      record {
        some_worker = given-some g.workers p limits.some_worker some;
        workers = given-most g.workers p MAX_WORKERS limits.workers few;
        hot = h.0;
        cold = h.1;
        hard = given-most g.hard d.hard MAX_HARD limits.hard within.hard;
        keep = given-default g.keep d.keep MAX_KEEP limits.keep within.keep;
      }

  -- where the code has values that equal these
  pub settings-of : (I : Draft) → AreDefaults I d → (w h k m n : ℕ) → w ≡ unwrap_or g.workers p
      → h ≡ unwrap_or g.hot (max (usual_hot (unwrap_or g.keep d.keep) d) (unwrap_or g.cold d.cold))
      → k ≡ unwrap_or g.cold (min d.cold (unwrap_or g.hot d.hot)) → m ≡ unwrap_or g.hard d.hard → n ≡ unwrap_or g.keep d.keep
      → AreSettingsOf I g p (record (settings_with g p d) { workers = w; hot = h; cold = k; hard = m; keep = n })
  settings-of I by_weights w h k m n workers-are hot-is cold-is hard-is keep-is =
      let are : record (settings_with g p d) { workers = w; hot = h; cold = k; hard = m; keep = n } ≡ settings_with g p d =
      ap (λ (x : ℕ). record (settings_with g p d) { workers = x; hot = h; cold = k; hard = m; keep = n }) workers-are
      ∙ (ap (λ (x : ℕ). record (settings_with g p d) { hot = x; cold = k; hard = m; keep = n }) hot-is
      ∙ (ap (λ (x : ℕ). record (settings_with g p d) { cold = x; hard = m; keep = n }) cold-is
      ∙ (ap (λ (x : ℕ). record (settings_with g p d) { hard = x; keep = n }) hard-is
      ∙ ap (λ (x : ℕ). record (settings_with g p d) { keep = x }) keep-is))) in
      record { lawful = subst IsLawful (sym are) with-lawful; defaults = d; by_weights = by_weights; are = are }

pub settings-same : (I : Draft) (g : Given) (p : ℕ) (s t : Settings) → AreSettingsOf I g p s → AreSettingsOf I g p t → s ≡ t
settings-same I g p s t one other =
    one.are
    ∙ (ap (λ (d : Defaults). settings_with g p d) (defaults-same I one.defaults other.defaults one.by_weights other.by_weights) ∙ sym other.are)
