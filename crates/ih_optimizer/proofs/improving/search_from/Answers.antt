use Rattle.std.proofs.Common.{◌≡◌, ◌∙◌, ap, subst, Option, Some, None}
use Rattle.std.specs.Prelude.{map, unwrap_or}
use Rattle.std.specs.Borrow.{Bor}
use Rattle.std.specs.Option.{option_copied}
use Rattle.ih_optimizer.specs.Below.Wards.{Draft, Timetable}
use Rattle.ih_optimizer.specs.Below.Searches.{AreSettingsOf, pins_of}
use Rattle.ih_optimizer.specs.Call.{improve_call}
use Rattle.ih_optimizer.specs.Searching.{begun}
use Rattle.ih_optimizer.proofs.SameSearches.{search-from}
use Rattle.ih_optimizer.proofs.improving.search_from.Goals as goal

-- what is behind a reference that may be left out
behind : (o : Option Timetable) (r : Option (Bor Timetable)) (d : Bor Timetable) → option_copied r ≡ o → (unwrap_or r d).now ≡ unwrap_or o d.now
behind o None d is = ap (λ (x : Option Timetable). unwrap_or x d.now) is
behind o (Some b) d is = ap (λ (x : Option Timetable). unwrap_or x d.now) is

pub returns-clause-search : goal.returns-clause-search
returns-clause-search g c =
    let call = improve_call c.args.call.now in
    let I = c.args.inputs.now.inst.value.draft in
    let J = c.deref-inst.result.now.draft in
    let P = c.args.inputs.now.plan in
    let s = c.settings-settings.result in
    let same : J ≡ I = cc in
    let settings = subst (λ (X : Draft). AreSettingsOf X call.settings c.args.processors s) same c.settings-settings.ensures in
    let start = ap (λ (b : Bor Timetable). b.now) c.unwrap_or-start.ensures ∙ behind c.in_ok-filled.filled _ _ c.as_ref.ensures.value in
    let pinned = c.in_ok-pins.ensures ∙ (ap (λ (X : Draft). pins_of X (map (λ t. t.now) c.as_slice.result.now) c.args.call.now.pin_nurses) same
    ∙ ap (λ xs. pins_of I (map (λ t. t.now) xs) c.args.call.now.pin_nurses) c.as_slice.ensures.value) in
    search-from I J call P c.unwrap_or-start.result.now c.args.processors c.in_ok-pins.pins s c.in_ok-improver.improver c.in_ok-improver.ensures same c.requires.lawful.pace settings
    (start ∙ (c.in_ok-filled.ensures.start ∙ ap (λ (X : Draft). begun call.start.fill s.hard X P) same)) c.requires.named pinned
