use Rattle.std.proofs.Common.{◌≡◌, ◌∙◌, subst, ap, List}
use Rattle.ih_top.specs.Below.Searches.{AreLegal, Base, Entry, ReplayState, base_given, tries}
use Rattle.ih_top.specs.Outputs.{HasBestOutput}
use Rattle.ih_top.proofs.Taken.{full-lines, refused-lines}
use Rattle.ih_top.proofs.replay.replay_lines.Goals as goal

pub best_of-requires-clause-legal : goal.best_of-requires-clause-legal
best_of-requires-clause-legal c =
    let same : c.take_lines.new.replay.base ≡ base_given c.args.given.now = c.in-Ok.ensures.base ∙ ap (λ (r : ReplayState). r.base) c.in_ok-replay.ensures in
    rw c.entries-entries.ensures.entries (subst (λ (b : Base). AreLegal b 1 (tries c.take_lines.new.replay.entries)) same c.entries-entries.ensures.legal)

pub returns-in-Ok : goal.returns-in-Ok
returns-in-Ok c =
    let same : c.take_lines.new.replay.base ≡ base_given c.args.given.now = c.in-Ok.ensures.base ∙ ap (λ (r : ReplayState). r.base) c.in_ok-replay.ensures in
    full-lines c.take_lines.new.replay.base (base_given c.args.given.now) same c.args.bytes.now c.take_lines.new.replay.entries
    c.in-Ok.ensures.full
    (record { given = c.entries-entries.ensures.base; agrees = c.entries-entries.ensures.agrees; exact = c.entries-entries.ensures.exact })
    c.in-Ok.ensures.whole c.in_ok-best-in-Ok.best
    (subst (λ (H : List Entry). HasBestOutput (base_given c.args.given.now) (tries H) c.in_ok-best-in-Ok.best) c.entries-entries.ensures.entries c.in_ok-best-in-Ok.ensures)

pub returns : goal.returns
returns c =
    let same : c.take_lines.new.replay.base ≡ base_given c.args.given.now = c.in-Err.ensures.base ∙ ap (λ (r : ReplayState). r.base) c.in_ok-replay.ensures in
    refused-lines c.take_lines.new.replay.base (base_given c.args.given.now) same c.args.bytes.now c.take_lines.new.replay.entries c.in-Err.refusal
    c.refused_lines_are_not_full.ensures c.args.given.now.inst.now.valid (record { start = c.requires.start; lawful = c.requires.lawful }) c.in-Err.ensures.refused
