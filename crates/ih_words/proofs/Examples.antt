-- Words that are written out, and the calls that they name, computed.
use Rattle.std.proofs.Common.{◌≡◌, ℕ, [], ◌∷◌, ◌++◌, List, refl, map, true, false, Option, Some, None, codes}
use Rattle.clap.specs.Words.{Text}
use Rattle.clap.proofs.OnLiterals.{clap_on_literals}
use Rattle.ih_words.specs.Advise.{advise_app}
use Rattle.ih_words.specs.Check.{check_app}
use Rattle.ih_words.specs.Demo.{demo_app}
use Rattle.ih_arguments.specs.Distinct.{all_differ}
use Rattle.ih_words.specs.Generate.{gen_app}
use Rattle.ih_arguments.specs.Matches.{has_no_fault}
use Rattle.ih_words.specs.Plain.{plain_app}
use Rattle.ih_words.specs.Replay.{replay_app}
use Rattle.ih_words.specs.Solve.{SolveCall, solve_app}
use Rattle.ih_words.specs.Words.{Call, call_of, chain, check, demo, gen, replay, rounds, salvage, solve, advise}

-- solve i OUT j, the words of the seed, and the other options
abbrev words_of : Text → List Text → Text → Text → List Text
words_of out seed workers moves = codes "solve" ∷ codes "i" ∷ out ∷ codes "j" ∷ (seed
    ++ codes "--workers" ∷ workers ∷ codes "--moves" ∷ moves ∷ codes "--heat" ∷ codes "0" ∷ codes "--hard" ∷ codes "1000" ∷ [])

-- `--seed N`
abbrev seed_words : Text → List Text
seed_words number = codes "--seed" ∷ number ∷ []

-- the words of a small search
abbrev small_search : List Text
small_search = words_of (codes "o") (seed_words (codes "0")) (codes "1") (codes "2")

-- the call of solve with files i, o and j, heat 0 and hard 1,000
abbrev search_call : ℕ → ℕ → ℕ → ℕ → Option Text → ℕ → Option Call
search_call seed workers moves retries start freeze = Some (solve (record {
  instance = codes "i";
  out = codes "o";
  journal = codes "j";
  options = record { seed = seed; workers = workers; moves = moves; heat = 0; hard = 1000; retries = retries };
  start = record { file = start; fill = false; freeze = freeze };
}))

-- the same, from the empty timetable
abbrev call_with : ℕ → ℕ → ℕ → Option Call
call_with seed workers moves = search_call seed workers moves 0 None 0

-- such a search by one worker with seed 0, from the filled timetable of file s
abbrev filled_search : ℕ → SolveCall
filled_search moves = record {
  instance = codes "i";
  out = codes "o";
  journal = codes "j";
  options = record { seed = 0; workers = 1; moves = moves; heat = 0; hard = 1000; retries = 0 };
  start = record { file = Some (codes "s"); fill = true; freeze = 0 };
}

lawful : call_of small_search ≡ call_with 0 1 2
unfolding clap_on_literals call_of has_no_fault solve_app all_differ
lawful = refl

no_words : call_of [] ≡ None
unfolding call_of
no_words = refl

a_million_entries : call_of (words_of (codes "o") (seed_words (codes "0")) (codes "64") (codes "15625")) ≡ call_with 0 64 15625
unfolding clap_on_literals call_of has_no_fault solve_app all_differ
a_million_entries = refl

plus_and_zeros : call_of (words_of (codes "o") (seed_words (codes "+007")) (codes "1") (codes "2")) ≡ call_with 7 1 2
unfolding clap_on_literals call_of has_no_fault solve_app all_differ
plus_and_zeros = refl

largest_seed : call_of (words_of (codes "o") (seed_words (codes "18446744073709551615")) (codes "1") (codes "2"))
    ≡ call_with 18446744073709551615 1 2
unfolding clap_on_literals call_of has_no_fault solve_app all_differ
largest_seed = refl

-- none of the words names a call
abbrev NameNone : List (List Text) → Type 0
NameNone [] = Unit {0}
NameNone (words ∷ more) = (call_of words ≡ None) × NameNone more

-- equal file names; 65 workers, and none; too many entries; a seed below 0, written in two ways, and no seed; entries
-- that are too many with what is tried again
unlawful_searches : NameNone (words_of (codes "j") (seed_words (codes "0")) (codes "1") (codes "2")
    ∷ words_of (codes "o") (seed_words (codes "0")) (codes "65") (codes "2")
    ∷ words_of (codes "o") (seed_words (codes "0")) (codes "0") (codes "2")
    ∷ words_of (codes "o") (seed_words (codes "0")) (codes "64") (codes "15626")
    ∷ words_of (codes "o") (seed_words (codes "-0")) (codes "1") (codes "2")
    ∷ words_of (codes "o") (codes "--seed=-0" ∷ []) (codes "1") (codes "2")
    ∷ words_of (codes "o") [] (codes "1") (codes "2")
    ∷ (words_of (codes "o") (seed_words (codes "0")) (codes "64") (codes "15625") ++ codes "--retries" ∷ codes "1" ∷ [])
    ∷ [])
unfolding clap_on_literals call_of has_no_fault solve_app all_differ
unlawful_searches = (refl, (refl, (refl, (refl, (refl, (refl, (refl, (refl, tt))))))))

-- calls for help and for the version; the journal as the start, and two starts; a freeze day without a start, and one
-- that is too late; too many retries; a filled start that is frozen; a flag with a value
unlawful_options : NameNone (map (λ more. small_search ++ more) ((codes "--help" ∷ [])
    ∷ (codes "--version" ∷ [])
    ∷ (codes "--start" ∷ codes "j" ∷ [])
    ∷ (codes "--start" ∷ codes "s" ∷ codes "--start" ∷ codes "t" ∷ [])
    ∷ (codes "--freeze" ∷ codes "0" ∷ [])
    ∷ (codes "--start" ∷ codes "s" ∷ codes "--freeze" ∷ codes "57" ∷ [])
    ∷ (codes "--retries" ∷ codes "8" ∷ [])
    ∷ (codes "--start" ∷ codes "s" ∷ codes "--fill" ∷ codes "--freeze" ∷ codes "0" ∷ [])
    ∷ (codes "--fill=true" ∷ [])
    ∷ []))
unfolding clap_on_literals call_of has_no_fault solve_app all_differ
unlawful_options = (refl, (refl, (refl, (refl, (refl, (refl, (refl, (refl, (refl, tt)))))))))

with_start : call_of (small_search ++ codes "--start" ∷ codes "s" ∷ []) ≡ search_call 0 1 2 0 (Some (codes "s")) 0
unfolding clap_on_literals call_of has_no_fault solve_app all_differ
with_start = refl

empty_start : call_of (small_search ++ codes "--start=" ∷ []) ≡ search_call 0 1 2 0 (Some []) 0
unfolding clap_on_literals call_of has_no_fault solve_app all_differ
empty_start = refl

frozen_start : call_of (small_search ++ codes "--freeze" ∷ codes "56" ∷ codes "--start" ∷ codes "s" ∷ []) ≡ search_call 0 1 2 0 (Some (codes "s")) 56
unfolding clap_on_literals call_of has_no_fault solve_app all_differ
frozen_start = refl

with_retries : call_of (small_search ++ codes "--retries" ∷ codes "7" ∷ []) ≡ search_call 0 1 2 7 None 0
unfolding clap_on_literals call_of has_no_fault solve_app all_differ
with_retries = refl

filled : call_of (small_search ++ codes "--start" ∷ codes "s" ∷ codes "--fill" ∷ []) ≡ Some (solve (filled_search 2))
unfolding clap_on_literals call_of has_no_fault solve_app all_differ
filled = refl

replayed : call_of (codes "replay" ∷ codes "i" ∷ codes "j" ∷ codes "o" ∷ codes "--start" ∷ codes "s" ∷ codes "--freeze" ∷ codes "1" ∷ [])
    ≡ Some (replay (record { instance = codes "i"; journal = codes "j"; out = codes "o"; start = record { file = Some (codes "s"); fill = false; freeze = 1 } }))
unfolding clap_on_literals call_of has_no_fault replay_app all_differ
replayed = refl

salvaged : call_of (codes "salvage" ∷ codes "--fill" ∷ codes "i" ∷ codes "j" ∷ codes "o" ∷ [])
    ≡ Some (salvage (record { instance = codes "i"; journal = codes "j"; out = codes "o"; start = record { file = None; fill = true; freeze = 0 } }))
unfolding clap_on_literals call_of has_no_fault replay_app all_differ
salvaged = refl

salvaged_into_the_journal : call_of (codes "salvage" ∷ codes "i" ∷ codes "j" ∷ codes "j" ∷ []) ≡ None
unfolding clap_on_literals call_of has_no_fault replay_app all_differ
salvaged_into_the_journal = refl

-- COMMAND i o j with the options of a small search, and further words
abbrev plain_words : Text → Text → List Text → List Text
plain_words command moves more = command ∷ codes "i" ∷ codes "o" ∷ codes "j" ∷ (seed_words (codes "0")
    ++ codes "--workers" ∷ codes "1" ∷ codes "--moves" ∷ moves ∷ codes "--heat" ∷ codes "0" ∷ codes "--hard" ∷ codes "1000" ∷ more)

in_rounds : call_of (plain_words (codes "rounds") (codes "62500") (codes "--rounds" ∷ codes "16" ∷ codes "--start" ∷ codes "s" ∷ codes "--fill" ∷ []))
    ≡ Some (rounds (record { search = filled_search 62500; number = 16 }))
unfolding clap_on_literals call_of has_no_fault plain_app all_differ
in_rounds = refl

in_chains : call_of (plain_words (codes "chain") (codes "125000") (codes "--length" ∷ codes "8" ∷ codes "--start" ∷ codes "s" ∷ codes "--fill" ∷ []))
    ≡ Some (chain (record { search = filled_search 125000; number = 8 }))
unfolding clap_on_literals call_of has_no_fault plain_app all_differ
in_chains = refl

-- Words with too many entries, with the highest number and one more, with 0, without a number, with retries, and with a
-- freeze day.
abbrev unlawful_words : Text → Text → Text → Text → Text → List (List Text)
unlawful_words command id moves highest above =
    plain_words command moves (id ∷ highest ∷ [])
    ∷ plain_words command (codes "2") (id ∷ above ∷ [])
    ∷ plain_words command (codes "2") (id ∷ codes "0" ∷ [])
    ∷ plain_words command (codes "2") []
    ∷ plain_words command (codes "2") (id ∷ codes "2" ∷ codes "--retries" ∷ codes "0" ∷ [])
    ∷ plain_words command (codes "2") (id ∷ codes "2" ∷ codes "--start" ∷ codes "s" ∷ codes "--freeze" ∷ codes "1" ∷ [])
    ∷ []

unlawful_rounds : NameNone (unlawful_words (codes "rounds") (codes "--rounds") (codes "62501") (codes "16") (codes "17"))
unfolding clap_on_literals call_of has_no_fault plain_app all_differ
unlawful_rounds = (refl, (refl, (refl, (refl, (refl, (refl, tt))))))

unlawful_chains : NameNone (unlawful_words (codes "chain") (codes "--length") (codes "125001") (codes "8") (codes "9"))
unfolding clap_on_literals call_of has_no_fault plain_app all_differ
unlawful_chains = (refl, (refl, (refl, (refl, (refl, (refl, tt))))))

generated : call_of (codes "gen" ∷ codes "+007" ∷ codes "o" ∷ []) ≡ Some (gen (record { number = 7; out = codes "o" }))
unfolding clap_on_literals call_of has_no_fault gen_app all_differ
generated = refl

shown : call_of (codes "demo" ∷ codes "7" ∷ []) ≡ Some (demo 7)
unfolding clap_on_literals call_of has_no_fault demo_app all_differ
shown = refl

too_large_a_number : call_of (codes "demo" ∷ codes "18446744073709551616" ∷ []) ≡ None
unfolding clap_on_literals call_of has_no_fault demo_app all_differ
too_large_a_number = refl

checked : call_of (codes "check" ∷ codes "i" ∷ codes "s" ∷ []) ≡ Some (check (record { instance = codes "i"; solution = codes "s" }))
unfolding clap_on_literals call_of has_no_fault check_app all_differ
checked = refl

check_of_one_file : call_of (codes "check" ∷ codes "i" ∷ codes "i" ∷ []) ≡ None
unfolding clap_on_literals call_of has_no_fault check_app all_differ
check_of_one_file = refl

no_solution : call_of (codes "check" ∷ codes "i" ∷ []) ≡ None
unfolding clap_on_literals call_of has_no_fault check_app all_differ
no_solution = refl

advised : call_of (codes "advise" ∷ codes "i" ∷ codes "s" ∷ codes "--hard" ∷ codes "1000" ∷ codes "--workers" ∷ codes "2" ∷ [])
    ≡ Some (advise (record { instance = codes "i"; solution = codes "s"; hard = 1000; workers = 2 }))
unfolding clap_on_literals call_of has_no_fault advise_app all_differ
advised = refl

advice_without_workers : call_of (codes "advise" ∷ codes "i" ∷ codes "s" ∷ codes "--hard" ∷ codes "1000" ∷ []) ≡ None
unfolding clap_on_literals call_of has_no_fault advise_app all_differ
advice_without_workers = refl

too_many_advisers : call_of (codes "advise" ∷ codes "i" ∷ codes "s" ∷ codes "--hard" ∷ codes "1000" ∷ codes "--workers" ∷ codes "65" ∷ []) ≡ None
unfolding clap_on_literals call_of has_no_fault advise_app all_differ
too_many_advisers = refl

option_of_another_command : call_of (codes "check" ∷ codes "i" ∷ codes "s" ∷ codes "--start" ∷ codes "t" ∷ []) ≡ None
unfolding clap_on_literals call_of has_no_fault check_app all_differ
option_of_another_command = refl

other_command : call_of (codes "chains" ∷ codes "0" ∷ []) ≡ None
unfolding call_of
other_command = refl
