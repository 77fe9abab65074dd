-- What is said where patients and occupants together need more than there is: that no plan is feasible, and as a hint
-- what may be scarce.
use Rattle.std.specs.Prelude.{◌≡◌, ℕ, ◌==◌, List, ◌++◌, codes, decimal, flat_map, if◌then◌else◌}
use Rattle.ih_tables.specs.declared.drafts.Draft.{Draft}
use Rattle.ih_solution.specs.Solution.{theatre_id}
use Rattle.ih_bound.specs.declared.scarcity.Dear.{Dear}
use Rattle.ih_bound.specs.declared.scarcity.Thing.{Thing}
use Rattle.ih_bound.specs.declared.scarcity.Thing.TheVariants.{Beds, OfSurgeon, OfTheatre}
use Rattle.ih_why.specs.Account.{surgeon_id}

-- a day, or days in a row
unfoldable pub days_text : ℕ → ℕ → List ℕ
days_text first last =
    if first == last
    then codes "day " ++ decimal first
    else codes "days " ++ (decimal first ++ (codes " to " ++ decimal last))

unfoldable pub beds_text : List ℕ → List ℕ
beds_text days = codes "  perhaps too few: beds on " ++ (days ++ codes "\n")

unfoldable pub surgeon_text : List ℕ → List ℕ → List ℕ
surgeon_text surgeon days =
    codes "  perhaps too little time: surgeon " ++ (surgeon ++ (codes " on " ++ (days ++ codes "\n")))

unfoldable pub theatre_text : List ℕ → List ℕ → List ℕ
theatre_text theatre days =
    codes "  perhaps too little time: theatre " ++ (theatre ++ (codes " on " ++ (days ++ codes "\n")))

-- what is said of a thing on days
abbrev pub thing_line : Draft → Thing → List ℕ → List ℕ
thing_line I Beds days = beds_text days
thing_line I (OfSurgeon s) days = surgeon_text (surgeon_id I s.0) days
thing_line I (OfTheatre t) days = theatre_text (theatre_id I t.0) days

abbrev pub dear_line : Draft → Dear → List ℕ
dear_line I a = thing_line I a.thing (days_text a.first a.last)

abbrev pub together_line : List ℕ
together_line = codes "no feasible plan exists: together the patients who must be admitted need more than there is\n"

-- what is said, with a line for each of these
unfoldable pub together_text : Draft → List Dear → List ℕ
together_text I dear = together_line ++ flat_map (dear_line I) dear

-- it is what is said, whichever is thought to be dear
abbrev pub IsToldTogether : Draft → List ℕ → Type 0
IsToldTogether I text = (dear : List Dear) × (text ≡ together_text I dear)
