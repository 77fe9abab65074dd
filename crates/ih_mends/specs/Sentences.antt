-- The sentences, of plain texts and numbers.
use Rattle.std.specs.Prelude.{ℕ, ℤ, ◌==◌, List, ◌++◌, codes, decimal, if◌then◌else◌}
use Rattle.std.specs.Fmt.{signed_decimal}

-- what is counted where rule k is broken
unfoldable pub rule_text : ℕ → List ℕ
rule_text k = if k == 0 then codes "mixed genders in a room"
    else if k == 1 then codes "an incompatible room"
    else if k == 2 then codes "minutes above a surgeon's maximum"
    else if k == 3 then codes "minutes above a theatre's time"
    else if k == 4 then codes "mandatory patients left out"
    else if k == 5 then codes "admissions outside the window"
    else if k == 6 then codes "persons above a room's capacity"
    else if k == 7 then codes "nurses who don't work the shift"
    else codes "occupied rooms without a nurse"

-- a patient's stay
unfoldable pub stay_text : List ℕ → ℕ → List ℕ → List ℕ → List ℕ
stay_text patient day room theatre =
    patient ++ (codes " to day " ++ (decimal day ++ (codes ", " ++ (room ++ (codes ", theatre " ++ theatre)))))

-- that a patient isn't admitted
unfoldable pub out_text : List ℕ → List ℕ
out_text patient = codes "leave out " ++ patient

-- a room's nurse in a shift of a day
unfoldable pub care_text : List ℕ → List ℕ → ℕ → List ℕ → List ℕ
care_text nurse room day shift =
    codes "nurse " ++ (nurse ++ (codes " in " ++ (room ++ (codes " on day " ++ (decimal day ++ (codes ", " ++ shift))))))

-- that a room has no nurse in a shift of a day
unfoldable pub no_care_text : List ℕ → ℕ → List ℕ → List ℕ
no_care_text room day shift =
    codes "no nurse in " ++ (room ++ (codes " on day " ++ (decimal day ++ (codes ", " ++ shift))))

-- there is no mend
unfoldable pub none_text : List ℕ
none_text = codes "no single change mends it"

-- what is counted, how often, and the mend
unfoldable pub line_text : List ℕ → ℤ → List ℕ → List ℕ
line_text rule count mend = rule ++ (codes " (" ++ (signed_decimal count ++ (codes "): " ++ (mend ++ codes "\n"))))
