use Rattle.std.proofs.Common.{◌≡◌, ◌<◌, arith}
use Rattle.ih_tables.specs.Sizes.{theatre_count}
use Rattle.ih_plan.specs.Draws.{window_len}
use Rattle.ih_waiting.proofs.FirstStays.{first-stay, no-day, no-room, no-theatre}
use Rattle.ih_waiting.proofs.stays.first_stay.Goals as goal
use Rattle.ih_waiting.proofs.stays.first_stay.Goals.{then-window_len-eq0-via-then-window_len-eq0, then-window_len-eq0-via-else-window_len-eq0+then-theatres-eq0}

pub returns-then-window_len-eq0-clause-first : goal.returns-then-window_len-eq0-clause-first
returns-then-window_len-eq0-clause-first c =
    let I = c.args.inst.now.draft in
    let a = c.args.patient.now in
    elim c.then-window_len-eq0.branch [
      | then-window_len-eq0-via-then-window_len-eq0 w ↦
          let none : window_len I a ≡ 0 = omega (arith, c.window_len.ensures.value, w.if-window_len-eq0.true) in
          no-day I c.args.patient_no.0 a c.requires none
      | then-window_len-eq0-via-else-window_len-eq0+then-theatres-eq0 w ↦
          let none : theatre_count I ≡ 0 = omega (arith, w.theatres.ensures, w.if-theatres-eq0.true) in
          no-theatre I c.args.patient_no.0 a c.requires none
    ]

pub returns-in-None-clause-first : goal.returns-in-None-clause-first
returns-in-None-clause-first c = no-room c.args.inst.now.draft c.args.patient_no.0 c.args.patient.now c.requires c.in-None.ensures.first

pub returns-in-Some-clause-first : goal.returns-in-Some-clause-first
returns-in-Some-clause-first c =
    let I = c.args.inst.now.draft in
    let a = c.args.patient.now in
    let days : 0 < window_len I a = omega (arith, c.window_len.ensures.value, c.if-window_len-eq0.false) in
    let theatres : 0 < theatre_count I = omega (arith, c.theatres.ensures, c.if-theatres-eq0.false) in
    first-stay I c.args.patient_no.0 a c.in-Some.room.0 c.requires days theatres c.in-Some.ensures.first
