-- The sentences, of plain texts and numbers.
use Rattle.std.specs.Prelude.{ℕ, ◌==◌, List, ◌++◌, codes, decimal, if◌then◌else◌}

-- a day, or any of several
unfoldable pub span_text : ℕ → ℕ → List ℕ
span_text first last =
    if first == last
    then codes "day " ++ decimal first
    else codes "any day from " ++ (decimal first ++ (codes " to " ++ decimal last))

-- ---- of a patient who must be admitted, and can't be

unfoldable pub patient_text : List ℕ → List ℕ → List ℕ
patient_text patient reason = patient ++ (codes " must be admitted, and " ++ (reason ++ codes "\n"))

unfoldable pub due_early_text : List ℕ
due_early_text = codes "is due before release"

unfoldable pub released_late_text : List ℕ
released_late_text = codes "is released after the last day"

unfoldable pub no_room_text : List ℕ
no_room_text = codes "no room suits"

unfoldable pub no_theatre_text : ℕ → List ℕ → List ℕ
no_theatre_text minutes days =
    codes "no theatre is open for " ++ (decimal minutes ++ (codes " minutes on " ++ days))

unfoldable pub no_surgeon_text : List ℕ → ℕ → List ℕ → List ℕ
no_surgeon_text surgeon minutes days =
    surgeon ++ (codes " has no " ++ (decimal minutes ++ (codes " minutes on " ++ days)))

unfoldable pub day_taken_text : ℕ → List ℕ
day_taken_text day = codes "on day " ++ (decimal day ++ codes " each room that suits is full or has another gender in it")

unfoldable pub taken_text : List ℕ → List ℕ
taken_text days = codes "no room that suits has a bed, and no other gender, throughout a stay begun on " ++ days

unfoldable pub no_day_text : List ℕ → List ℕ → List ℕ
no_day_text surgeon days =
    codes "a theatre, " ++ (surgeon ++ (codes " and a room aren't to be had together on " ++ days))

-- ---- of a room on a day

unfoldable pub crowd_text : List ℕ → ℕ → ℕ → ℕ → List ℕ
crowd_text room day count most =
    room ++ (codes " has more occupants than beds on day " ++ (decimal day ++ (codes ": " ++ (decimal count
    ++ (codes " for " ++ (decimal most ++ codes "\n"))))))

unfoldable pub mix_text : List ℕ → ℕ → List ℕ
mix_text room day = room ++ (codes " has occupants of two genders on day " ++ (decimal day ++ codes "\n"))

-- ---- of a room in a shift

unfoldable pub desert_text : ℕ → List ℕ → List ℕ → List ℕ
desert_text day shift room =
    codes "nobody works on day " ++ (decimal day ++ (codes ", " ++ (shift
    ++ (codes ", and " ++ (room ++ codes " is occupied\n")))))
