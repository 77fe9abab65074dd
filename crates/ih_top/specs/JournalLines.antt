-- What a journal's bytes still tell, and why they are refused as a whole journal.
use Rattle.std.specs.Prelude.{◌≡◌, ◌≢◌, ◌==◌, ℕ, ◌+◌, ◌⊎◌, false, List, [], ◌++◌, All, length}
use Rattle.ih_top.specs.Below.Wards.{Early, Extra, Grammar, JournalRefusal, Reason}
use Rattle.ih_top.specs.Below.Searches.{AreLegal, Base, Entry, IsFull, IsGoing, IsNextLine, IsRefusedFor, ended, lines_from, tries}

-- the bytes have no line feed
abbrev pub HasNoLineFeed : List ℕ → Type 0
HasNoLineFeed bytes = All (λ b. (b == 10) ≡ false) bytes

-- the bytes begin with this line, and more stands behind its line feed
pub record HasLine (bytes line more : List ℕ) : Type 0 where
  pub joins : bytes ≡ ended line ++ more
  pub first : HasNoLineFeed line

-- H is the longest legal history whose lines the bytes begin with: the line that follows them isn't that of an entry
-- that may come next
pub record Begins (b : Base) (bytes : List ℕ) (H : List Entry) (rest : List ℕ) : Type 0 where
  pub legal : AreLegal b 1 (tries H)
  pub joins : bytes ≡ lines_from b.options 0 H ++ rest
  pub longest : (line more : List ℕ) (e : Entry) → HasLine rest line more → IsNextLine b H line e → ⊥

-- bytes without a line feed are `Extra` where the history is full, and else `Grammar`
abbrev pub IsUnendedFor : Base → List Entry → Reason → Type 0
IsUnendedFor b H Extra = IsFull b 1 (tries H)
IsUnendedFor b H Grammar = (w : ℕ) × IsGoing b (tries H) w
IsUnendedFor b H reason = ⊥

-- why what follows the lines of H isn't as it ought to be: its first line is refused, or it has no line feed, or
-- nothing is there
abbrev pub IsRestRefused : Base → List Entry → List ℕ → Reason → Type 0
IsRestRefused b H rest reason =
    ((line : List ℕ) × (more : List ℕ) × HasLine rest line more × IsRefusedFor b H line reason)
    ⊎ ((rest ≢ []) × HasNoLineFeed rest × IsUnendedFor b H reason)
    ⊎ ((rest ≡ []) × (reason ≡ Early) × ((w : ℕ) × IsGoing b (tries H) w))

-- the bytes are refused as the lines of a full history, at the line behind those of H; the heading is line 1
pub record IsRefusedAt (b : Base) (bytes : List ℕ) (H : List Entry) (e : JournalRefusal) : Type 0 where
  pub rest : List ℕ
  pub begins : Begins b bytes H rest
  pub line : e.line ≡ length H + 2
  pub reason : IsRestRefused b H rest e.reason
