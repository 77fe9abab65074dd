use Rattle.std.proofs.Common.{◌≡◌, ap, sym, ◌∙◌, subst, arith, List, [], ◌∷◌}
use Rattle.std.proofs.lemmas.Result.{IfOk-weaker}
use Rattle.ih_journal.specs.declared.entries.Entry.{Entry}
use Rattle.ih_journal.specs.Base.{Base}
use Rattle.ih_journal.specs.Legal.{IsFull}
use Rattle.ih_journal.specs.Settings.{IsLawful}
use Rattle.ih_journal.specs.Tried.{tries}
use Rattle.ih_cellbook.specs.Keeping.{base_with}
use Rattle.ih_cellbook.proofs.LegalEntries.{prices-in}
use Rattle.ih_rounds.specs.Steps.{HasRound, IsAnswer, LeadsOn}
use Rattle.ih_rounds.specs.Answers.{with_answers}
use Rattle.ih_rounds.proofs.Leading.{few-entries}
use Rattle.ih_rounds.proofs.round.search_round.Goals as goal

-- the answer's entries, as a slice
answered : (b : Base) (es xs : List Entry) → xs ≡ es → IsLawful b.options → IsFull b 1 (tries es) → IsAnswer b xs
answered b es xs is lawful full =
    record { lawful = lawful; full = subst (λ (ys : List Entry). IsFull b 1 (tries ys)) (sym is) full }

pub put_journal-requires-clause-few : goal.put_journal-requires-clause-few
put_journal-requires-clause-few g c =
    let few = few-entries _ _ (answered _ _ _ c.as_slice-entries.ensures.value c.requires.lawful c.in_ok-answer.ensures.full) in
    omega (arith, few)

pub put_journal-requires-clause-prices : goal.put_journal-requires-clause-prices
put_journal-requires-clause-prices g c =
    let b = base_with c.args.inst.now.draft c.args.start.now c.args.options.now 0 in
    let is = answered b _ _ c.as_slice-entries.ensures.value c.requires.lawful c.in_ok-answer.ensures.full in
    prices-in b 1 c.as_slice-entries.result.now is.full.legal c.requires.start c.args.inst.now.valid

pub lead_on-requires-clause-answered : goal.lead_on-requires-clause-answered
lead_on-requires-clause-answered g c =
    let b = base_with c.args.inst.now.draft c.args.start.now c.args.options.now 0 in
    (c.args.options.now, answered b _ _ c.as_slice-entries.ensures.value c.requires.lawful c.in_ok-answer.ensures.full)

pub returns-clause-round : goal.returns-clause-round
returns-clause-round g c =
    let b = base_with c.args.inst.now.draft c.args.start.now c.args.options.now 0 in
    let H = c.as_slice-entries.result.now in
    let is = answered b _ _ c.as_slice-entries.ensures.value c.requires.lawful c.in_ok-answer.ensures.full in
    let told = ap (λ (G : List Entry). with_answers (g.S.Asked.told c.args.searcher.now) (G ∷ [])) (sym c.as_slice-entries.ensures.value) in
    IfOk-weaker c.lead_on.result (LeadsOn b H) _
    (λ outcome leads. record {
      history = H;
      full = is.full;
      told = c.in_ok-answer.ensures.more ∙ told;
      written = c.in_ok-put_journal.ensures;
      leads = leads;
    }) (c.lead_on.ensures c.args.options.now is)
