-- What a clause says of a line that is read field by field.
use Rattle.std.specs.Prelude.{◌≡◌, List, ℕ, Some, slice_get}
use Rattle.ih_journal.specs.declared.parse.BadLine.{BadLine}
use Rattle.ih_journal.specs.declared.parse.Line.{Line}
use Rattle.ih_journal.specs.declared.parse.Next.{Next}
use Rattle.ih_journal.specs.Grammar.{IsFirstWrong, FieldKind, kinds}
use Rattle.ih_journal.specs.Pieces.{IsRead, Reads}

-- The fields before the next one are right.
abbrev pub IsAt : Line → Next → Type 0
IsAt line next = IsRead line.inst.now.draft line.options.now line.bytes.now next.index next.at

-- The next field is to be of this kind.
abbrev pub Wants : Line → Next → FieldKind → Type 0
Wants line next kind = slice_get (kinds line.options.now) next.index ≡ Some kind

-- The next field is this text, it is right, and another one is then the next.
abbrev pub HasRead : Line → Next → List ℕ → Next → Type 0
HasRead line next text after =
    Reads line.inst.now.draft line.options.now line.bytes.now next.index next.at text after.index after.at

-- It names the first field that is wrong.
abbrev pub NamesWrong : Line → BadLine → Type 0
NamesWrong line e = IsFirstWrong line.inst.now.draft line.options.now line.bytes.now e.field
