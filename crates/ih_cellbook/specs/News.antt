-- What a book tells of its history from a place on: what was accepted, and how far it tells.
use Rattle.std.specs.Prelude.{◌≡◌, ℕ, ◌-◌, ◌<◌, ◌≤◌, List, length, take, drop, filter}
use Rattle.ih_journal.specs.Tried.{Tried}
use Rattle.ih_journal.specs.History.{is_accepted}

-- the accepted ones of some entries
abbrev pub accepted_of : List Tried → List Tried
accepted_of es = filter (λ e. is_accepted e.verdict) es

-- what was accepted in H from one place on, up to another
abbrev pub accepted_between : List Tried → ℕ → ℕ → List Tried
accepted_between H from until = accepted_of (take (until - from) (drop from H))

-- Entries that were accepted, the place up to which they are all, and how many entries the book had then.
pub record NewsState : Type 0 where
  pub accepted : List Tried
  pub until : ℕ
  pub front : ℕ

-- the most accepted entries that are told at once
abbrev pub most_told : ℕ
most_told = 256

-- It tells what was accepted in H from a place on, up to the end, or up to where its room was full.
pub record TellsOf (H : List Tried) (from : ℕ) (n : NewsState) : Type 0 where
  pub since : from ≤ n.until
  pub within : n.until ≤ n.front
  pub front : n.front ≡ length H
  pub accepted : n.accepted ≡ accepted_between H from n.until
  pub full : n.until < n.front → length n.accepted ≡ most_told
