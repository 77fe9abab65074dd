-- The warnings on an instance: a line for each thing that is likely a slip.
use Rattle.std.specs.Prelude.{ℕ, List, [], ◌∷◌, ◌++◌, codes, flat_map, if◌then◌else◌}
use Rattle.ih_tables.specs.declared.drafts.Draft.{Draft}
use Rattle.ih_validate.specs.Report.{lines_below}
use Rattle.ih_warnings.specs.declared.slips.Slip.{Slip}
use Rattle.ih_warnings.specs.declared.slips.Slip.TheVariants.{RespeltAgeGroup, RespeltGender, NoWeight, IdleSurgeon, ShutTheatre, UselessRoom, IdleNurse, RoomlessPatient, EarlyPatient}
use Rattle.ih_warnings.specs.Slips.{count_of, has_slip, name_of}

-- how it is said of the thing of this name
unfoldable pub warning : Slip → List ℕ → List ℕ
warning RespeltAgeGroup name =
    codes "warning: age group " ++ (name ++ codes " differs from an earlier one by case or spaces alone\n")
warning RespeltGender name =
    codes "warning: gender " ++ (name ++ codes " differs from an earlier one by case or spaces alone\n")
warning NoWeight name = codes "warning: the weight of " ++ (name ++ codes " is 0\n")
warning IdleSurgeon name = codes "warning: surgeon " ++ (name ++ codes " has patients and never operates\n")
warning ShutTheatre name = codes "warning: theatre " ++ (name ++ codes " is never open\n")
warning UselessRoom name = codes "warning: nobody can use room " ++ (name ++ codes "\n")
warning IdleNurse name = codes "warning: nurse " ++ (name ++ codes " has no shift\n")
warning RoomlessPatient name = codes "warning: no room suits patient " ++ (name ++ codes "\n")
warning EarlyPatient name = codes "warning: patient " ++ (name ++ codes " is due before release\n")

-- what is said of thing i
unfoldable pub line : Draft → Slip → ℕ → List ℕ
line I slip i = if has_slip I slip i then warning slip (name_of I slip i) else []

-- what is said of all things that may have it
unfoldable pub lines : Draft → Slip → List ℕ
lines I slip = lines_below (count_of I slip) (line I slip)

abbrev pub slips : List Slip
slips =
    RespeltAgeGroup ∷ RespeltGender ∷ NoWeight ∷ IdleSurgeon ∷ ShutTheatre ∷ UselessRoom ∷ IdleNurse
    ∷ RoomlessPatient ∷ EarlyPatient ∷ []

unfoldable pub warnings : Draft → List ℕ
warnings I = flat_map (lines I) slips
