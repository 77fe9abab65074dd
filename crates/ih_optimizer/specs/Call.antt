-- What a call of improve asks for, and the files that it reads.
use Rattle.std.specs.Prelude.{if◌then◌else◌, ◌&&◌, Bool, List, Option, Some, None, map, option_map}
use Rattle.ih_optimizer.specs.Below.Arguments.{StartCall, Text, start_call}
use Rattle.ih_optimizer.specs.Below.Endings.{InputFiles, said_files}
use Rattle.ih_optimizer.specs.Below.Searches.{widest}
use Rattle.ih_improve.specs.Settings.{IsLawful}
use Rattle.ih_improve.specs.declared.given.Given.{Given}
use Rattle.ih_optimizer.specs.Pacing.{IsLawfulPace}
use Rattle.ih_optimizer.specs.declared.call.Improve.{Improve}
use Rattle.ih_optimizer.specs.declared.pacing.Pace.{Pace}

-- what a call of improve asks for; a file's name is its bytes
pub record ImproveCall : Type 0 where
  pub instance : Text
  pub out : Text
  -- the timetable that OUT has stays where it is cheaper
  pub keeps : Bool
  pub pace : Pace
  pub settings : Given
  pub start : StartCall
  -- the file for the timetable with the least score, where none is feasible
  pub draft : Option Text
  -- the ids of the patients whose stays are those of the start
  pub pins : List Text
  -- so are the nurses of all rooms that are occupied there
  pub pin_nurses : Bool
  -- it is told what no plan costs less than, and how far the best may be from that
  pub is_bounded : Bool

-- the call that the values of improve stand for
abbrev pub improve_call : Improve → ImproveCall
improve_call i = record {
  instance = i.instance.now;
  out = i.out.now;
  keeps = i.keeps;
  pace = i.pace;
  settings = i.settings;
  start = start_call i.start;
  draft = option_map (λ t. t.now) i.draft;
  pins = map (λ t. t.now) i.pins.items;
  pin_nurses = i.pin_nurses;
  is_bounded = i.is_bounded;
}

-- the file whose timetable stays where it is cheaper
abbrev pub older_of : ImproveCall → Option Text
older_of c = if c.keeps then Some c.out else None

-- the files that the call reads
abbrev pub improve_inputs : ImproveCall → InputFiles
improve_inputs c = record (said_files c.instance c.start.file) { older = older_of c }

-- the call as it reads: OUT has a timetable that may stay only where OUT is found
abbrev pub reading : Bool → ImproveCall → ImproveCall
reading found c = record c { keeps = found && c.keeps }

-- what it asks for is within the limits
pub record IsLawfulCall (c : ImproveCall) : Type 0 where
  pub settings : IsLawful (widest c.settings)
  pub pace : IsLawfulPace c.pace
