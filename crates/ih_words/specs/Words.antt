-- Which call the words of a command line name. The words are those after the program's name.
use Rattle.std.specs.Prelude.{ℕ, ◌≡◌, ◌≢◌, List, Option, Some, None, codes, if◌then◌else◌, option_map}
use Rattle.std.specs.Str.{bytes_eq}
use Rattle.clap.specs.Words.{Text}
use Rattle.ih_journal.specs.Settings.{IsLawful}
use Rattle.ih_words.specs.Advise.{AdviseCall, IsLawfulAdvise, advise_app, advise_call, lawful_advise}
use Rattle.ih_words.specs.Check.{CheckCall, check_app, check_call, lawful_check}
use Rattle.ih_words.specs.Demo.{demo_app, lawful_demo}
use Rattle.ih_words.specs.Generate.{GenCall, gen_app, gen_call, lawful_gen}
use Rattle.ih_arguments.specs.Matches.{by_first_word, call_by}
use Rattle.ih_words.specs.Plain.{IsPlainTo, IsWithin, PlainCall, chain_app, lawful_chain, lawful_rounds, plain_call, rounds_app}
use Rattle.ih_words.specs.Replay.{ReplayCall, lawful_replay, replay_app, replay_call}
use Rattle.ih_words.specs.Solve.{SolveCall, lawful_solve, solve_app, solve_call}
use Rattle.ih_words.specs.declared.plain.TheConstants.{MAX_LENGTH, MAX_ROUNDS}
use Rattle.ih_words.specs.declared.command.Command.{Command}
use Rattle.ih_words.specs.declared.command.Command.TheVariants.{Chain as ChainCommand, Check as CheckCommand, Demo as DemoCommand, Gen as GenCommand, Replay as ReplayCommand, Rounds as RoundsCommand, Salvage as SalvageCommand, Solve as SolveCommand, Advise as AdviseCommand}

-- a call of one of the commands
pub data Call : Type 0 where
  solve : SolveCall → Call
  replay : ReplayCall → Call
  salvage : ReplayCall → Call
  check : CheckCall → Call
  chain : PlainCall → Call
  rounds : PlainCall → Call
  advise : AdviseCall → Call
  gen : GenCall → Call
  demo : ℕ → Call

-- the file of the solution isn't that of the journal, where a call writes both
abbrev pub OutDiffers : Call → Type 0
OutDiffers (solve s) = s.out ≢ s.journal
OutDiffers (chain c) = c.search.out ≢ c.search.journal
OutDiffers (rounds r) = r.search.out ≢ r.search.journal
OutDiffers call = Unit {0}

-- the call that a command's values stand for
abbrev pub command_call : Command → Call
command_call (SolveCommand s) = solve (solve_call s)
command_call (ReplayCommand r) = replay (replay_call r)
command_call (SalvageCommand r) = salvage (replay_call r)
command_call (CheckCommand c) = check (check_call c)
command_call (ChainCommand c) = chain (plain_call c)
command_call (RoundsCommand r) = rounds (plain_call r)
command_call (AdviseCommand a) = advise (advise_call a)
command_call (GenCommand g) = gen (gen_call g)
command_call (DemoCommand number) = demo number

-- The options of a search, where the command has them, are within their limits. Rounds and chains freeze nothing and
-- try nothing again.
abbrev pub HasLawfulOptions : Command → Type 0
HasLawfulOptions (SolveCommand s) = IsLawful s.options
HasLawfulOptions (ChainCommand c) = IsPlainTo MAX_LENGTH c
HasLawfulOptions (RoundsCommand r) = IsPlainTo MAX_ROUNDS r
HasLawfulOptions (AdviseCommand a) = IsLawfulAdvise a
HasLawfulOptions command = Unit {0}

-- the call of the command with this name
abbrev pub call_named : Text → List Text → Option Call
call_named name words = if bytes_eq name (codes "solve") then option_map solve (call_by solve_app lawful_solve words)
    else (if bytes_eq name (codes "replay")
    then option_map replay (call_by (replay_app (codes "replay")) lawful_replay words)
    else (if bytes_eq name (codes "salvage")
    then option_map salvage (call_by (replay_app (codes "salvage")) lawful_replay words)
    else (if bytes_eq name (codes "check") then option_map check (call_by check_app lawful_check words)
    else (if bytes_eq name (codes "chain") then option_map chain (call_by chain_app lawful_chain words)
    else (if bytes_eq name (codes "rounds") then option_map rounds (call_by rounds_app lawful_rounds words)
    else (if bytes_eq name (codes "advise") then option_map advise (call_by advise_app lawful_advise words)
    else (if bytes_eq name (codes "gen") then option_map gen (call_by gen_app lawful_gen words)
    else (if bytes_eq name (codes "demo") then option_map demo (call_by demo_app lawful_demo words)
    else None))))))))

-- the call that the words name, where they are lawful: the first word is the command's name
unfoldable pub call_of : List Text → Option Call
call_of words = by_first_word call_named words

-- some words name the call
abbrev pub IsNamed : Call → Type 0
IsNamed call = (words : List Text) × (call_of words ≡ Some call)

-- the limits of chains and of rounds
abbrev pub IsWithinLimits : Call → Type 0
IsWithinLimits (chain c) = IsWithin MAX_LENGTH c.search c.number
IsWithinLimits (rounds r) = IsWithin MAX_ROUNDS r.search r.number
IsWithinLimits call = Unit {0}

-- A call that some words name is within these limits.
abbrev pub NamedCallsAreWithinLimits : Type 0
NamedCallsAreWithinLimits = (call : Call) → IsNamed call → IsWithinLimits call
