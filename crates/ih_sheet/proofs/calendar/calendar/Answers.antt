use Rattle.std.proofs.Common.{◌≡◌, ◌∙◌, ap, ℕ, arith, List, [], ◌∷◌, ◌++◌, codes}
use Rattle.std.specs.List.{flat_map}
use Rattle.ih_tables.specs.Sizes.{theatre_count}
use Rattle.ih_sheet.specs.Calendar.{calendar_head, events_of_theatre, line_text}
use Rattle.ih_sheet.specs.Rows.{Row, rows_below}
use Rattle.ih_sheet.proofs.CalendarSteps.{text-closed}
use Rattle.ih_sheet.proofs.calendar.calendar.Goals as goal

pub loop-t-init : goal.loop-t-init
loop-t-init c = c.in_ok-put_lines.ensures ∙ ap (λ text. text ++ flat_map line_text calendar_head) c.new-out.ensures.items

pub returns : goal.returns
returns c =
    let I = c.args.shown.now.inst.now.draft in
    let events = events_of_theatre I c.args.shown.now.dates.now c.args.shown.now.plan.now in
    let end : List Row = (codes "END:VCALENDAR" ∷ []) ∷ [] in
    let all : c.loop-t.t ≡ theatre_count I = omega (arith, c.loop-t-test.false, c.loop-t.auto.t-end, c.theatres-t-end.ensures) in
    c.in_ok-put_lines-2.ensures
    ∙ (ap (λ text. text ++ flat_map line_text end) c.loop-t.invariant
    ∙ (text-closed line_text calendar_head (rows_below c.loop-t.t events) end
    ∙ ap (λ (t : ℕ). flat_map line_text (calendar_head ++ (rows_below t events ++ end))) all))
