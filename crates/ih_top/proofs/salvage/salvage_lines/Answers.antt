use Rattle.std.proofs.Common.{◌≡◌, ◌∙◌, subst, sym, ap, Some, None, length, List}
use Rattle.std.proofs.lemmas.List.{length-map}
use Rattle.ih_top.specs.Below.Searches.{AreLegal, Base, Entry, ReplayState, base_given, tried, tries}
use Rattle.ih_top.specs.Outputs.{HasBestOutput}
use Rattle.ih_top.proofs.Taken.{salvaged-best, salvaged-lines}
use Rattle.ih_top.proofs.salvage.salvage_lines.Goals as goal

pub best_of-requires-clause-legal : goal.best_of-requires-clause-legal
best_of-requires-clause-legal c =
    let same : c.take_lines.new.replay.base ≡ base_given c.args.given.now = c.take_lines.ensures.base ∙ ap (λ (r : ReplayState). r.base) c.in_ok-replay.ensures in
    rw c.entries-entries.ensures.entries (subst (λ (b : Base). AreLegal b 1 (tries c.take_lines.new.replay.entries)) same c.entries-entries.ensures.legal)

pub returns-in-Some : goal.returns-in-Some
returns-in-Some c =
    let same : c.take_lines.new.replay.base ≡ base_given c.args.given.now = c.take_lines.ensures.base ∙ ap (λ (r : ReplayState). r.base) c.in_ok-replay.ensures in
    let begins = c.take_lines.ensures.begins in
    let best : HasBestOutput (base_given c.args.given.now) (tries c.take_lines.new.replay.entries) (Some c.in-Some.best) =
    subst (λ (H : List Entry). HasBestOutput (base_given c.args.given.now) (tries H) (Some c.in-Some.best)) c.entries-entries.ensures.entries
    (subst (HasBestOutput (base_given c.args.given.now) (tries c.entries-entries.result.now)) c.in-Some.is c.in_ok-best.ensures) in
    salvaged-lines c.take_lines.new.replay.base (base_given c.args.given.now) same c.args.bytes.now c.take_lines.new.replay.entries begins.0
    begins.1 (record { given = c.entries-entries.ensures.base; agrees = c.entries-entries.ensures.agrees; exact = c.entries-entries.ensures.exact }) (Some c.in_ok-salvaged-in-Some.field-0)
    (salvaged-best (base_given c.args.given.now) (tries c.take_lines.new.replay.entries) _ c.in-Some.best c.in_ok-salvaged-in-Some.field-0
    (sym (length-map c.entries-entries.result.now tried) ∙ ap (λ (H : List Entry). length (tries H)) c.entries-entries.ensures.entries) best
    c.in_ok-salvaged-in-Some.ensures.solution c.in_ok-salvaged-in-Some.ensures.text)

pub returns : goal.returns
returns c =
    let same : c.take_lines.new.replay.base ≡ base_given c.args.given.now = c.take_lines.ensures.base ∙ ap (λ (r : ReplayState). r.base) c.in_ok-replay.ensures in
    let begins = c.take_lines.ensures.begins in
    let none : HasBestOutput (base_given c.args.given.now) (tries c.take_lines.new.replay.entries) None =
    subst (λ (H : List Entry). HasBestOutput (base_given c.args.given.now) (tries H) None) c.entries-entries.ensures.entries
    (subst (HasBestOutput (base_given c.args.given.now) (tries c.entries-entries.result.now)) c.in-None.is c.in_ok-best.ensures) in
    salvaged-lines c.take_lines.new.replay.base (base_given c.args.given.now) same c.args.bytes.now c.take_lines.new.replay.entries begins.0
    begins.1 (record { given = c.entries-entries.ensures.base; agrees = c.entries-entries.ensures.agrees; exact = c.entries-entries.ensures.exact }) None none
