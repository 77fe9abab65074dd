-- What a program says of its files, of its memory, and where it found nothing: each is one line with its line feed.
use Rattle.std.specs.Prelude.{ℕ, List, ◌++◌, Option, codes}
use Rattle.ih_tables.specs.declared.refusals.Refusal.{Refusal}
use Rattle.ih_tables.specs.Places.{refusal_text}
use Rattle.ih_shelf.specs.Outside.{Rose, IfTold, MayBeAppended}

abbrev pub memory_text : List ℕ
memory_text = codes "out of memory\n"

abbrev pub unread_text : List ℕ → List ℕ
unread_text name = codes "cannot read " ++ (name ++ codes "\n")

abbrev pub unwritten_text : List ℕ → List ℕ
unwritten_text name = codes "cannot write " ++ (name ++ codes "\n")

abbrev pub too_long_text : List ℕ → List ℕ
too_long_text name = codes "too long: " ++ (name ++ codes "\n")

-- the fault of the file that `what` names, and its place
abbrev pub refused_text : List ℕ → Refusal → List ℕ
refused_text what r = what ++ (codes " refused: " ++ (refusal_text r ++ codes "\n"))

-- no timetable was found that breaks no hard rule
abbrev pub none_found_text : List ℕ
none_found_text = codes "none found\n"

-- a sink's count of lacks of memory rose, and it received a prefix of the text
abbrev pub ReceivedPart : Option (List ℕ) → Option (List ℕ) → ℕ → ℕ → List ℕ → Type 0
ReceivedPart old new lacks lacks' text = Rose lacks lacks' × IfTold (MayBeAppended text) old new
