-- The texts of moves, cells, entries and journals.
use Rattle.std.specs.Prelude.{◌≡◌, ℕ, zero, suc, ◌+◌, List, [], ◌∷◌, ◌++◌, codes, decimal, map, take}
use Rattle.std.specs.List.{join_with_byte}
use Rattle.std.specs.Fmt.{signed_decimal}
use Rattle.ih_tables.specs.declared.bills.Bill.{Bill}
use Rattle.ih_tables.specs.declared.cells.Cell.{Cell}
use Rattle.ih_tables.specs.declared.cells.Cell.TheVariants.{Stay, RoomDay, TheatreDay, SurgeonDay, RoomShift, NurseShift, Care}
use Rattle.ih_plan.specs.declared.moves.Move.{Move}
use Rattle.ih_plan.specs.declared.moves.Move.TheVariants.{Idle, Place, Withdraw, SetDay, SetRoom, SetTheatre, SwapRooms, Nurse, NurseRun, SwapNurses}
use Rattle.ih_journal.specs.declared.settings.Options.{Options}
use Rattle.ih_journal.specs.declared.entries.Entry.{Entry}
use Rattle.ih_journal.specs.declared.entries.Verdict.{Verdict}
use Rattle.ih_journal.specs.declared.entries.Verdict.TheVariants.{Accepted, Declined, Stale, Frozen}

-- new is old with a prefix of the text behind it, which may be none of it or all
pub record IsPart (old new text : List ℕ) : Type 0 where
  pub len : ℕ
  pub joins : new ≡ old ++ take len text

-- numbers parted by commas
abbrev pub numbers : List ℕ → List ℕ
numbers ns = join_with_byte 44 (map decimal ns)

-- a name, a colon and numbers parted by commas
abbrev pub named : List ℕ → List ℕ → List ℕ
named name ns = name ++ (58 ∷ numbers ns)

-- the move's name and the numbers of what it names
unfoldable pub move_text : Move → List ℕ
move_text Idle = codes "idle"
move_text (Place p at) = named (codes "place") (p.0 ∷ at.day.0 ∷ at.room.0 ∷ at.theatre.0 ∷ [])
move_text (Withdraw p) = named (codes "withdraw") (p.0 ∷ [])
move_text (SetDay p d) = named (codes "setday") (p.0 ∷ d.0 ∷ [])
move_text (SetRoom p r) = named (codes "setroom") (p.0 ∷ r.0 ∷ [])
move_text (SetTheatre p t) = named (codes "settheatre") (p.0 ∷ t.0 ∷ [])
move_text (SwapRooms p q) = named (codes "swaprooms") (p.0 ∷ q.0 ∷ [])
move_text (Nurse r k n) = named (codes "nurse") (r.0 ∷ k.0 ∷ n.0 ∷ [])
move_text (NurseRun n r d len) = named (codes "nurserun") (n.0 ∷ r.0 ∷ d.0 ∷ len ∷ [])
move_text (SwapNurses k a b) = named (codes "swapnurses") (k.0 ∷ a.0 ∷ b.0 ∷ [])

-- a name and numbers, parted by dots
abbrev pub dotted : List ℕ → List ℕ → List ℕ
dotted name ns = join_with_byte 46 (name ∷ map decimal ns)

-- the cell's name and its numbers
unfoldable pub cell_text : Cell → List ℕ
cell_text (Stay p) = dotted (codes "stay") (p.0 ∷ [])
cell_text (RoomDay r d) = dotted (codes "roomday") (r.0 ∷ d.0 ∷ [])
cell_text (TheatreDay t d) = dotted (codes "theatreday") (t.0 ∷ d.0 ∷ [])
cell_text (SurgeonDay s d) = dotted (codes "surgeonday") (s.0 ∷ d.0 ∷ [])
cell_text (RoomShift r k) = dotted (codes "roomshift") (r.0 ∷ k.0 ∷ [])
cell_text (NurseShift n k) = dotted (codes "nurseshift") (n.0 ∷ k.0 ∷ [])
cell_text (Care x) = dotted (codes "care") (x.0 ∷ [])

-- the counts of the nine broken rules and the eight costs, parted by commas
abbrev pub price_text : Bill → List ℕ
price_text b = join_with_byte 44 (map signed_decimal (b.v ++ b.s))

-- the verdict's name; a stale one carries the cell and its versions in what the maker had seen and at the entry's place
abbrev pub verdict_text : Verdict → List ℕ
verdict_text Accepted = codes "accepted"
verdict_text Declined = codes "declined"
verdict_text Frozen = codes "frozen"
verdict_text (Stale c seen place) = join_with_byte 58 (codes "stale" ∷ cell_text c ∷ decimal seen ∷ decimal place ∷ [])

-- the number of the try, which is written only where moves are tried again
abbrev pub again_field : ℕ → ℕ → List (List ℕ)
again_field zero again = []
again_field (suc retries) again = decimal again ∷ []

-- the fields of the line of the entry at a place
unfoldable pub fields : Options → ℕ → Entry → List (List ℕ)
fields o k e =
    decimal k ∷ decimal e.worker ∷ decimal e.number ∷ again_field o.retries e.again
    ++ decimal e.seen ∷ move_text e.mv ∷ price_text e.price ∷ verdict_text e.verdict ∷ []

-- the line of the entry at a place, without its line feed
abbrev pub line_text : Options → ℕ → Entry → List ℕ
line_text o k e = join_with_byte 32 (fields o k e)

-- an option's name and its number
abbrev pub option_text : List ℕ → ℕ → List ℕ
option_text name n = name ++ (61 ∷ decimal n)

-- version 1 without retries, and version 2 with them
abbrev pub version_text : ℕ → List ℕ
version_text zero = codes "1"
version_text (suc retries) = codes "2"

-- the retries, which are written only where there are any
abbrev pub retries_field : ℕ → List (List ℕ)
retries_field zero = []
retries_field (suc retries) = option_text (codes "retries") (suc retries) ∷ []

-- the options behind the version
abbrev pub options_from : Options → List (List ℕ)
options_from o =
    option_text (codes "seed") o.seed ∷ option_text (codes "workers") o.workers ∷ option_text (codes "moves") o.moves
    ∷ option_text (codes "heat") o.heat ∷ option_text (codes "hard") o.hard ∷ retries_field o.retries

-- the heading of a journal: what the search was asked to do, without its line feed
unfoldable pub heading : Options → List ℕ
heading o = join_with_byte 32 (codes "ihjournal" ∷ version_text o.retries ∷ options_from o)

-- a text with its line feed
abbrev pub ended : List ℕ → List ℕ
ended text = text ++ 10 ∷ []

-- the lines of entries from place k on, each with its line feed
unfoldable pub lines_from : Options → ℕ → List Entry → List ℕ
lines_from o k [] = []
lines_from o k (e ∷ es) = ended (line_text o k e) ++ lines_from o (k + 1) es

-- the journal of a history: the heading, and a line for each entry in order
abbrev pub journal : Options → List Entry → List ℕ
journal o H = ended (heading o) ++ lines_from o 0 H
