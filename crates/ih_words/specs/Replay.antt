-- The commands `replay` and `salvage`, which have the same arguments: their description for `clap`, their values and
-- when these are lawful.
use Rattle.std.specs.Prelude.{◌&&◌, List, ◌∷◌, Option, Some, None, codes, if◌then◌else◌}
use Rattle.clap.specs.Words.{App, Row, Text, new_app, with_rule}
use Rattle.ih_arguments.specs.Arguments.{named}
use Rattle.ih_arguments.specs.Distinct.{all_differ}
use Rattle.ih_arguments.specs.Matches.{text_at}
use Rattle.ih_arguments.specs.Start.{StartCall, freezes_a_file, start_call, start_files, start_in, with_start}
use Rattle.ih_words.specs.declared.replay.Replay.{Replay}

-- NAME INSTANCE JOURNAL OUT [--start F] [--freeze DAY] [--fill]
unfoldable pub replay_app : Text → App
replay_app name = with_start (with_rule (with_rule (with_rule (new_app name)
    (named (codes "INSTANCE"))) (named (codes "JOURNAL"))) (named (codes "OUT")))

-- what a call of replay or salvage asks for; a file's name is its bytes
pub record ReplayCall : Type 0 where
  pub instance : Text
  pub journal : Text
  pub out : Text
  pub start : StartCall

-- the call that the values of replay or salvage stand for
abbrev pub replay_call : Replay → ReplayCall
replay_call r = record {
  instance = r.instance.now;
  journal = r.journal.now;
  out = r.out.now;
  start = start_call r.start;
}

-- the call of replay or salvage, by `clap`'s matches
abbrev pub replay_in : List Row → ReplayCall
replay_in rows = record {
  instance = text_at (codes "INSTANCE") rows;
  journal = text_at (codes "JOURNAL") rows;
  out = text_at (codes "OUT") rows;
  start = start_in rows;
}

-- the files that a call of replay or salvage reads or writes
abbrev pub replay_files : ReplayCall → List Text
replay_files r = r.instance ∷ r.journal ∷ r.out ∷ start_files r.start

-- the call of replay or salvage, by `clap`'s matches, where its file names differ, and its freeze day is lawful
abbrev pub lawful_replay : List Row → Option ReplayCall
lawful_replay rows =
    if freezes_a_file rows && all_differ (replay_files (replay_in rows)) then Some (replay_in rows) else None
