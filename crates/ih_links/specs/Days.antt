-- Lists of several days, those of each day one `LinksState`.
use Rattle.std.specs.Prelude.{ℕ, List, [], replicate, slice_index_or}
use Rattle.ih_links.specs.Lists.{LinksState}

-- lists that are all empty
abbrev pub empty_lists : ℕ → ℕ → LinksState
empty_lists heads nodes = record { lists = replicate heads []; nodes = nodes }

-- the lists of day d
abbrev pub on_day : List LinksState → ℕ → LinksState
on_day days d = slice_index_or days d (record { lists = []; nodes = 0 })
