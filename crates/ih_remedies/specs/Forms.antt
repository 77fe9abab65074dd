-- What values are to be, by their keys.
use Rattle.std.specs.Prelude.{ℕ, Bool, List, ◌++◌, codes, decimal, Option, Some, None, is_none, if◌then◌else◌}
use Rattle.ih_tables.specs.declared.refusals.Key.{Key}
use Rattle.ih_tables.specs.declared.refusals.Key.TheVariants as keys
use Rattle.ih_tables.specs.declared.refusals.Place.{Place}
use Rattle.ih_remedies.specs.declared.forms.Form.{Form}
use Rattle.ih_remedies.specs.declared.forms.Form.TheVariants as forms
use Rattle.ih_remedies.specs.Owners.{key_at}

-- what the value of a key is to be
abbrev pub form_of : Key → Form
form_of keys.Days = forms.Number 1 56
form_of keys.SkillLevels = forms.Number 1 1000
form_of keys.LengthOfStay = forms.Number 1 100
form_of keys.Capacity = forms.Number 0 1000
form_of keys.SkillLevel = forms.Number 0 1000
form_of keys.SurgeryReleaseDay = forms.Number 0 1000
form_of keys.SurgeryDueDay = forms.Number 0 1000
form_of keys.RoomMixedAge = forms.Number 0 100000
form_of keys.RoomNurseSkill = forms.Number 0 100000
form_of keys.ContinuityOfCare = forms.Number 0 100000
form_of keys.NurseEccessiveWorkload = forms.Number 0 100000
form_of keys.NurseExcessiveWorkload = forms.Number 0 100000
form_of keys.OpenOperatingTheater = forms.Number 0 100000
form_of keys.SurgeonTransfer = forms.Number 0 100000
form_of keys.PatientDelay = forms.Number 0 100000
form_of keys.UnscheduledOptional = forms.Number 0 100000
form_of keys.MaxLoad = forms.Number 0 100000
form_of keys.SurgeryDuration = forms.Number 0 100000
form_of keys.Day = forms.Day
form_of keys.AdmissionDay = forms.DayOrNone
form_of keys.Id = forms.Text
form_of keys.Shift = forms.Text
form_of keys.Gender = forms.Text
form_of keys.AgeGroup = forms.Text
form_of keys.RoomId = forms.Text
form_of keys.SurgeonId = forms.Text
form_of keys.Room = forms.Text
form_of keys.OperatingTheater = forms.Text
form_of keys.Mandatory = forms.Truth
form_of keys.Weights = forms.Object
form_of _ = forms.List

-- what an item of the list under a key is to be: a room is an object in its section, and an id in an assignment
abbrev pub item_form : Key → Bool → Form
item_form keys.MaxSurgeryTime is_section = forms.Number 0 100000
item_form keys.Availability is_section = forms.Number 0 100000
item_form keys.WorkloadProduced is_section = forms.Number 0 100000
item_form keys.SkillLevelRequired is_section = forms.Number 0 1000
item_form keys.ShiftTypes is_section = forms.Text
item_form keys.AgeGroups is_section = forms.Text
item_form keys.IncompatibleRoomIds is_section = forms.Text
item_form keys.Rooms is_section = if is_section then forms.Object else forms.Text
item_form _ is_section = forms.Object

abbrev pub form_by : Option ℕ → Option Key → Bool → Form
form_by last None is_section = forms.Object
form_by None (Some k) is_section = form_of k
form_by (Some i) (Some k) is_section = item_form k is_section

-- what the value at a place is to be
abbrev pub form_at : Place → Form
form_at p = form_by p.last (key_at p) (is_none p.first)

unfoldable pub form_text : Form → List ℕ
form_text (forms.Number least most) =
    codes "a whole number from " ++ (decimal least ++ (codes " to " ++ decimal most))
form_text forms.Day = codes "a whole number from 0, below \"days\""
form_text forms.DayOrNone = codes "a whole number from 0, below \"days\", or the text \"none\""
form_text forms.Text = codes "a text between double quotes, of 1 to 100 bytes"
form_text forms.Truth = codes "true or false"
form_text forms.Object = codes "an object"
form_text forms.List = codes "a list"

-- how many items the list under a key is to have
abbrev pub count_of : Key → List ℕ
count_of keys.ShiftTypes = codes "3"
count_of keys.AgeGroups = codes "64 at most"
count_of keys.OperatingTheaters = codes "64 at most"
count_of keys.Surgeons = codes "128 at most"
count_of keys.Rooms = codes "1 to 128"
count_of keys.Nurses = codes "512 at most"
count_of keys.Occupants = codes "512 at most"
count_of keys.Patients = codes "2048 at most"
count_of keys.IncompatibleRoomIds = codes "1024 at most"
count_of keys.MaxSurgeryTime = codes "at least one for each day"
count_of keys.Availability = codes "at least one for each day"
count_of keys.WorkloadProduced = codes "at least three for each day of the stay, but for days from \"days\" on"
count_of keys.SkillLevelRequired = codes "at least three for each day of the stay, but for days from \"days\" on"
count_of _ = codes "another number of them"

abbrev pub count_text : Option Key → List ℕ
count_text None = codes "another number of them"
count_text (Some k) = count_of k
