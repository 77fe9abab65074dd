-- Which attempt of a worker comes next, and when a worker is done.
use Rattle.std.specs.Prelude.{◌≡◌, ℕ, ◌+◌, ◌==◌, ◌&&◌, not, nat_lt, Bool, true, false, List, [], ◌∷◌, Option, Some, None, if◌then◌else◌}
use Rattle.ih_journal.specs.declared.settings.Options.{Options}
use Rattle.ih_journal.specs.Tried.{Tried}
use Rattle.ih_journal.specs.declared.entries.Verdict.{Verdict}
use Rattle.ih_journal.specs.declared.entries.Verdict.TheVariants.{Stale}

-- one try of a worker's move: the move's number among its draws, and how often it was tried before
pub record TryNumber : Type 0 where
  pub number : ℕ
  pub again : ℕ

abbrev pub else_last : Option Tried → Option Tried → Option Tried
else_last None earlier = earlier
else_last (Some e) earlier = Some e

abbrev pub when_by : ℕ → Tried → Option Tried
when_by w e = if e.worker == w then Some e else None

-- the last entry of worker w
unfoldable pub last_by : ℕ → List Tried → Option Tried
last_by w [] = None
last_by w (e ∷ es) = else_last (last_by w es) (when_by w e)

abbrev pub is_stale : Verdict → Bool
is_stale (Stale c seen place) = true
is_stale v = false

-- the entry's move is to be tried again
abbrev pub is_retried : Options → Tried → Bool
is_retried o e = is_stale e.verdict && nat_lt e.again o.retries

-- a worker whose last entry this is has made all its attempts
abbrev pub is_done_after : Options → Option Tried → Bool
is_done_after o None = o.moves == 0
is_done_after o (Some e) = if o.moves == 0 then true else (e.number + 1 == o.moves) && not (is_retried o e)

-- what follows a worker's last entry
abbrev pub try_after : Options → Option Tried → TryNumber
try_after o None = record { number = 0; again = 0 }
try_after o (Some e) =
    if is_retried o e then record { number = e.number; again = e.again + 1 }
    else record { number = e.number + 1; again = 0 }

-- worker w has made all its attempts
unfoldable pub is_done : Options → List Tried → ℕ → Bool
is_done o H w = is_done_after o (last_by w H)

-- the next attempt of worker w, where it isn't done
unfoldable pub next_try : Options → List Tried → ℕ → Option TryNumber
next_try o H w = if is_done o H w then None else Some (try_after o (last_by w H))

-- worker w has made its moves below i, and none of them is to be tried again
pub record HasMade (o : Options) (H : List Tried) (w i : ℕ) : Type 0 where
  pub attempt : try_after o (last_by w H) ≡ record { number = i; again = 0 }
  pub done : is_done_after o (last_by w H) ≡ (o.moves == i)
