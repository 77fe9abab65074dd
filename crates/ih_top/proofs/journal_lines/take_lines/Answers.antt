use Rattle.std.proofs.Common.{refl, subst, sym}
use Rattle.ih_top.specs.Below.Searches.{AreLegal, tried, tries}
use Rattle.ih_journal.proofs.Mapped.{map-more}
use Rattle.ih_journal.proofs.Growth.{legal-more}
use Rattle.ih_top.proofs.Taken.{begins-refused, begins-unended, joins-more, joins-none, legal-nothing, refused-end, refused-line}
use Rattle.ih_top.proofs.journal_lines.take_lines.Goals as goal

pub loop-line-init : goal.loop-line-init
loop-line-init c = record {
  base = refl;
  legal = legal-nothing c.args.replay.now.base c.args.replay.now.entries c.requires;
  joins = joins-none c.args.replay.now.base.options c.args.replay.now.entries c.args.bytes.now c.requires;
}

pub loop-line-preserved : goal.loop-line-preserved
loop-line-preserved c =
    let b = c.loop-line.replay.base in
    let H = c.loop-line.replay.entries in
    let taken = c.in-Ok.ensures.taken in
    rw taken.2 (record {
      base = c.loop-line.invariant.base;
      legal = subst (AreLegal b 1) (sym (map-more tried H taken.0))
          (legal-more b 1 (tries H) (tried taken.0) c.loop-line.invariant.legal taken.1.legal);
      joins = joins-more b H c.args.bytes.now c.loop-line.rest.now c.in-Some.line.now c.in-Some.more.now taken.0 c.loop-line.invariant.joins c.in-Some.ensures.some taken.1;
    })

pub returns-in-Err-clause-begins : goal.returns-in-Err-clause-begins
returns-in-Err-clause-begins c =
    rw c.in-Err.ensures.same (
      c.loop-line.rest.now,
      begins-refused c.loop-line.replay.base c.loop-line.replay.entries c.args.bytes.now c.loop-line.rest.now c.in-Some.line.now c.in-Some.more.now
          c.loop-line.invariant.legal c.loop-line.invariant.joins c.in-Some.ensures.some (λ e next. absurd (let h = c.in-Err.ensures.next e next in cc)),
    )

pub returns-in-Err-clause-refused : goal.returns-in-Err-clause-refused
returns-in-Err-clause-refused c =
    let b = c.loop-line.replay.base in
    let H = c.loop-line.replay.entries in
    let why = c.in-Err.ensures.refused in
    rw c.in-Err.ensures.same
    (refused-line b H c.args.bytes.now c.loop-line.rest.now c.in-Some.line.now c.in-Some.more.now c.in-Err.refusal
    (begins-refused b H c.args.bytes.now c.loop-line.rest.now c.in-Some.line.now c.in-Some.more.now
    c.loop-line.invariant.legal c.loop-line.invariant.joins c.in-Some.ensures.some (λ e next. absurd (let h = c.in-Err.ensures.next e next in cc)))
    c.in-Some.ensures.some why.0 why.1)

pub returns-clause-begins : goal.returns-clause-begins
returns-clause-begins c = (
  c.loop-line.rest.now,
  begins-unended c.loop-line.replay.base c.loop-line.replay.entries c.args.bytes.now c.loop-line.rest.now
      c.loop-line.invariant.legal c.loop-line.invariant.joins c.in_default.ensures.none,
)

pub returns-clause-refused : goal.returns-clause-refused
returns-clause-refused c =
    refused-end c.loop-line.replay.base c.loop-line.replay.entries c.args.bytes.now c.loop-line.rest.now c.end_of_lines.result
    (begins-unended c.loop-line.replay.base c.loop-line.replay.entries c.args.bytes.now c.loop-line.rest.now
    c.loop-line.invariant.legal c.loop-line.invariant.joins c.in_default.ensures.none)
    c.end_of_lines.ensures.line c.end_of_lines.ensures.reason
