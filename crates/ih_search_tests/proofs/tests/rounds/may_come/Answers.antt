use Rattle.std.proofs.Common.{◌∙◌, ap, arith, sym, subst}
use Rattle.std.proofs.lemmas.Bool.Decides.{nat_tests}
use Rattle.std.proofs.lemmas.List.{take_rest}
use Rattle.std.specs.Prelude.{option_map}
use Rattle.ih_journal.specs.Tried.{tried, tries}
use Rattle.ih_journal.proofs.Mapped.{map-drop}
use Rattle.ih_cellbook.specs.Laws.{HasNoneBy}
use Rattle.ih_cellbook.proofs.LastEntries.{next-is}
use Rattle.ih_search_tests.proofs.tests.rounds.may_come.Goals as goal
use Rattle.ih_search_tests.proofs.tests.rounds.may_come.Goals.{then-offer-options, else-offer-options}

pub returns-then-is_next : goal.returns-then-is_next
returns-then-is_next c on =
    let o = c.args.offer.now in
    let H = tries c.args.entries.now in
    elim c.if-offer-options.branch [
      | then-offer-options w ↦
          let next = w.is_next.ensures (sym w.value-is ∙ c.if-is_next.true) in (
            w.if-offer-options.true,
            next-is c.args.options.now H o.worker o.number (option_map tried w.last_by.result) w.last_by.ensures next.0 next.1,
            subst (HasNoneBy o.worker) (ap tries (take_rest c.args.entries.now o.seen) ∙ map-drop tried o.seen c.args.entries.now) (c.none_by.ensures on),
          )
      | else-offer-options w ↦ absurd (let within = sym w.value-is ∙ c.if-is_next.true in let out = w.if-offer-options.false in grind (arith, nat_tests))
    ]
