use Rattle.std.proofs.Common.{◌≡◌, ◌+◌, ◌∙◌, ap, sym, subst, length}
use Rattle.std.proofs.lemmas.List.{with_items_is}
use Rattle.ih_tables.specs.Valid.{IsValid}
use Rattle.ih_tables.specs.declared.journal_refusals.JournalRefusal.{JournalRefusal}
use Rattle.ih_journal.specs.Base.{Base}
use Rattle.ih_replay.specs.Keeping.{IsReplayed}
use Rattle.ih_replay.specs.ReplayState.{ReplayState}
use Rattle.ih_replay.specs.Refusals.{IsFirstOf, IsRefusedFor, Passes, in_order}
use Rattle.ih_replay.proofs.Lines.{next-passes}
use Rattle.ih_replay.proofs.Singles.{as-taken, more-taken, never-taken, stays-taken}
use Rattle.ih_replay.proofs.replays.Replay.step.Goals as goal

pub invariant_of-self : goal.invariant_of-self
invariant_of-self c =
    let v = c.self.inside.book in
    let w = c.take_line-taken.new.book in
    let base : w.base ≡ v.base = c.take_line-taken.ensures.base in
    let kept = c.take_line-taken.ensures.kept in
    let len = kept.many ∙ ap (λ (b : Base). b.options.workers) base ∙ sym c.self.invariant.kept.many ∙ sym c.self.inside.workers.ok.0 in
    record {
      instance = ap (λ (b : Base). b.instance) base ∙ c.self.invariant.instance;
      start = ap (λ (b : Base). b.start) base ∙ c.self.invariant.start;
      options = ap (λ (b : Base). b.options) base ∙ c.self.invariant.options;
      kept = subst (IsReplayed w.base w.entries) (sym (with_items_is c.self.inside.workers c.take_line-taken.new.workers len)) kept;
    }

pub returns-in-Ok-clause-taken : goal.returns-in-Ok-clause-taken
returns-in-Ok-clause-taken c =
    more-taken c.self.inside.book c.take_line-taken.new.book c.args.self.now c.args.line.now c.self.invariant.kept.legal c.self.view_is
    c.take_line-taken.ensures.base c.in-Ok.ensures.taken

pub returns-in-Err-clause-next : goal.returns-in-Err-clause-next
returns-in-Err-clause-next c e next =
    let v = c.self.inside.book in
    let kept = c.self.invariant.kept in
    let valid : IsValid v.base.instance = subst IsValid (sym c.self.invariant.instance) c.self.inside.inst.now.valid in
    absurd (never-taken v c.args.self.now c.args.line.now kept.legal c.self.view_is
    (λ f legal text. c.in-Err.ensures.err.fails (next-passes v.base v.entries valid kept.base kept.legal c.args.line.now f legal text c.in-Err.reason)) e next)

pub returns-in-Err-clause-refused : goal.returns-in-Err-clause-refused
returns-in-Err-clause-refused c =
    let v = c.self.inside.book in
    let A = c.args.self.now in
    let same = stays-taken v c.take_line-taken.new.book A c.self.view_is c.take_line-taken.ensures.base c.in-Err.ensures.same in (
      ap (λ (r : JournalRefusal). r.line) c.refusal.ensures ∙ ap (λ (s : ReplayState). length s.entries + 2) same,
      subst (IsRefusedFor A.base A.entries c.args.line.now) (sym (ap (λ (r : JournalRefusal). r.reason) c.refusal.ensures))
          (as-taken (λ b H. IsFirstOf (Passes b H c.args.line.now) in_order c.in-Err.reason) v A c.self.invariant.kept.legal c.self.view_is c.in-Err.ensures.err),
    )

pub returns-in-Err-clause-same : goal.returns-in-Err-clause-same
returns-in-Err-clause-same c =
    stays-taken c.self.inside.book c.take_line-taken.new.book c.args.self.now c.self.view_is c.take_line-taken.ensures.base c.in-Err.ensures.same
