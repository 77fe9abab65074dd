-- The command `carry`: its description for `clap`, its values and what it comes to.
use Rattle.std.specs.Prelude.{◌≡◌, ℕ, List, [], ◌∷◌, Option, Some, None, codes, if◌then◌else◌, unwrap_or}
use Rattle.ih_commands.specs.Below.Wards.{Draft, MAX_FREEZE, Timetable, solution}
use Rattle.ih_commands.specs.Below.Arguments.{App, Row, Text, all_differ, named, new_app, number_at, optional_between, text_at, with_rule}
use Rattle.ih_commands.specs.Below.Endings.{Given, InputFiles, Out, OutcomeState, said_files, writes_one}
use Rattle.ih_carry.specs.Account.{account}
use Rattle.ih_carry.specs.Handovers.{HandoverData, IsCarried}
use Rattle.ih_commands.specs.declared.command.carry.Carry.{Carry}

-- carry OLD_WARD OLD_PLAN NEW_WARD NEW_PLAN [--days K]
unfoldable pub carry_app : App
carry_app = with_rule (with_rule (with_rule (with_rule (with_rule
    (new_app (codes "carry"))
    (named (codes "OLD_WARD")))
    (named (codes "OLD_PLAN")))
    (named (codes "NEW_WARD")))
    (named (codes "NEW_PLAN")))
    (optional_between (codes "days") 0 MAX_FREEZE)

-- what a call of carry asks for; a file's name is its bytes
pub record CarryCall : Type 0 where
  pub ward : Text
  pub plan : Text
  pub next : Text
  pub out : Text
  -- the day of the ward that is day 0 of the next one
  pub days : ℕ

-- the call that the values of carry stand for
abbrev pub carry_call : Carry → CarryCall
carry_call c = record { ward = c.ward.now; plan = c.plan.now; next = c.next.now; out = c.out.now; days = c.days }

-- the files that the call reads
abbrev pub carry_inputs : CarryCall → InputFiles
carry_inputs c = record (said_files c.ward (Some c.plan)) { next = Some c.next }

-- the call of carry, by `clap`'s matches
abbrev pub carry_in : List Row → CarryCall
carry_in rows = record {
  ward = text_at (codes "OLD_WARD") rows;
  plan = text_at (codes "OLD_PLAN") rows;
  next = text_at (codes "NEW_WARD") rows;
  out = text_at (codes "NEW_PLAN") rows;
  days = number_at (codes "days") rows;
}

-- the files that a call of carry reads or writes
abbrev pub carry_files : CarryCall → List Text
carry_files c = c.ward ∷ c.plan ∷ c.next ∷ c.out ∷ []

-- the call of carry, by `clap`'s matches, where its file names differ
abbrev pub lawful_carry : List Row → Option CarryCall
lawful_carry rows = if all_differ (carry_files (carry_in rows)) then Some (carry_in rows) else None

-- ---- what it comes to

-- the next ward: a call of carry names its file, so it is given
abbrev pub next_ward : Given → Draft
next_ward g = unwrap_or g.next g.instance

-- what is handed over
abbrev pub handed_over : CarryCall → Given → HandoverData
handed_over c g = record { ward = g.instance; plan = g.plan; next = next_ward g; days = c.days }

-- the timetable that the next ward keeps is written, and what isn't kept is said
pub record IsCarriedOver (c : CarryCall) (g : Given) (o : OutcomeState) : Type 0 where
  pub plan : Timetable
  pub carried : IsCarried (handed_over c g) plan
  pub written : o ≡ writes_one Out c.out (solution (next_ward g) plan) (account (handed_over c g))
