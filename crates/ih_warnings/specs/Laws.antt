-- The law of the warnings: each slip is said, and nothing else.
use Rattle.std.specs.Prelude.{◌≡◌, ℕ, ◌<◌, List, [], ◌++◌, true, false}
use Rattle.ih_tables.specs.declared.drafts.Draft.{Draft}
use Rattle.ih_warnings.specs.declared.slips.Slip.{Slip}
use Rattle.ih_warnings.specs.Slips.{count_of, has_slip, name_of}
use Rattle.ih_warnings.specs.Warnings.{warning, warnings}

-- the piece stands in the text
abbrev pub StandsIn : List ℕ → List ℕ → Type 0
StandsIn piece text = (before after : List ℕ) × (text ≡ before ++ (piece ++ after))

-- Each slip of each thing is said, and where there is none nothing is said.
pub record NothingIsPassedOver (I : Draft) : Type 0 where
  pub said : (slip : Slip) (i : ℕ) → i < count_of I slip → has_slip I slip i ≡ true
      → StandsIn (warning slip (name_of I slip i)) (warnings I)
  pub only : ((slip : Slip) (i : ℕ) → i < count_of I slip → has_slip I slip i ≡ false) → warnings I ≡ []
